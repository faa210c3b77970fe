-- The laws of codes put together.
use Prim.Native.Nat.{ℕ, ◌+◌}
use native.Mathlib.Omega.{arith}
use mathlib.Core.Bool.{Bool}
use mathlib.Core.List.{List, ◌++◌}
use mathlib.Core.Path.{◌≡◌, sym, ap, ap₂, subst, ◌∙◌}
use lib.ListN.{length, length-append}
use Rattle.octets.specs.Index.{◌and◌}
use Rattle.octets.proofs.Index.{and_left, and_right, and_both}
use Rattle.octets.proofs.Bytes.{append_bytes}
use Rattle.octets.proofs.Part.{part_split}
use Rattle.codes.specs.Code.{Code}
use Rattle.codes.specs.Codes.{both_code, that_code, as_code, into_code}
use Rattle.codes.proofs.Same.{Same, same_inside, same_first, same_head, same_tail}
use Rattle.codes.proofs.Law.{Lawful}

-- ---- two
module _ {A B : Type 0} {c : Code A} {d : Code B} (p : Lawful c) (q : Lawful d) where
  both_wide : (x : A) (y : B) → length (c.write x ++ d.write y) ≡ c.width + d.width
  both_wide x y = length-append (c.write x) (d.write y) ∙ ap₂ (λ (m n : ℕ). m + n) (p.wide x) (q.wide y)

  module _ (x : A) (y : B) where
    in_first : Same c.width (c.write x ++ d.write y) 0 (c.write x) 0
    in_first = same_head (c.write x) (d.write y) c.width (p.wide x)

    in_second : Same d.width (c.write x ++ d.write y) (0 + c.width) (d.write y) 0
    in_second = rw zero_plus (same_tail (c.write x) (d.write y) c.width d.width (p.wide x) (q.wide y))
      where
        zero_plus : 0 + c.width ≡ c.width
        zero_plus = omega arith

  pub both_lawful : Lawful (both_code c d)
  both_lawful =
      record {
        wide = λ x. both_wide x.0 x.1;
        sees = λ t a u b e.
            ap₂ (λ (x : A) (y : B). (x, y)) (p.sees t a u b (same_first _ t a u b e c.width (omega arith)))
            (q.sees t (a + c.width) u (b + c.width) (same_inside _ t a u b e c.width d.width (omega arith)));
        tests = λ t a u b e.
            ap₂ (λ (m n : Bool). m and n) (p.tests t a u b (same_first _ t a u b e c.width (omega arith)))
            (q.tests t (a + c.width) u (b + c.width) (same_inside _ t a u b e c.width d.width (omega arith)));
        back = λ x g.
            λ i. ((p.sees _ _ _ _ (in_first x.0 x.1) ∙ p.back x.0 g.0) i, (q.sees _ _ _ _ (in_second x.0 x.1) ∙ q.back x.1 g.1) i);
        passes = λ x g.
            and_both (p.tests _ _ _ _ (in_first x.0 x.1) ∙ p.passes x.0 g.0)
            (q.tests _ _ _ _ (in_second x.0 x.1) ∙ q.passes x.1 g.1);
        bytes = λ x g. append_bytes (c.write x.0) (d.write x.1) (p.bytes x.0 g.0) (q.bytes x.1 g.1);
        again = λ t a b l f.
            ap₂ (λ (m n : List ℕ). m ++ n) (p.again t a b (omega arith) (and_left _ _ f))
            (q.again t (a + c.width) b (omega arith) (and_right _ _ f))
            ∙ sym (part_split t a c.width d.width);
        keeps = λ t a b l f. (p.keeps t a b (omega arith) (and_left _ _ f), q.keeps t (a + c.width) b (omega arith) (and_right _ _ f));
      }

-- ---- a rule on top
module _ {A : Type 0} {c : Code A} (rule : A → Bool) (p : Lawful c) where
  pub that_lawful : Lawful (that_code rule c)
  that_lawful =
      record {
        wide = p.wide;
        sees = p.sees;
        tests = λ t a u b e. ap₂ (λ (m : Bool) (x : A). m and rule x) (p.tests t a u b e) (p.sees t a u b e);
        back = λ x g. p.back x g.0;
        passes = λ x g. and_both (p.passes x g.0) (ap rule (p.back x g.0) ∙ g.1);
        bytes = λ x g. p.bytes x g.0;
        again = λ t a b l f. p.again t a b l (and_left _ _ f);
        keeps = λ t a b l f. (p.keeps t a b l (and_left _ _ f), and_right _ _ f);
      }

-- ---- another type
module _ {A B : Type 0} {c : Code A} (to : A → B) (from : B → A) (p : Lawful c) where
  pub as_lawful : ((x : A) → from (to x) ≡ x) → ((y : B) → to (from y) ≡ y) → Lawful (as_code to from c)
  as_lawful same there =
      record {
        wide = λ y. p.wide (from y);
        sees = λ t a u b e. ap to (p.sees t a u b e);
        tests = p.tests;
        back = λ y g. ap to (p.back (from y) g) ∙ there y;
        passes = λ y g. p.passes (from y) g;
        bytes = λ y g. p.bytes (from y) g;
        again = λ t a b l f. ap c.write (same (c.read t a)) ∙ p.again t a b l f;
        keeps = λ t a b l f. subst c.Good (sym (same (c.read t a))) (p.keeps t a b l f);
      }

  pub into_lawful : ((x : A) → c.Good x → from (to x) ≡ x) → Lawful (into_code to from c)
  into_lawful same =
      record {
        wide = λ y. p.wide (from y);
        sees = λ t a u b e. ap to (p.sees t a u b e);
        tests = p.tests;
        back = λ y g. ap to (p.back (from y) g.0) ∙ g.1;
        passes = λ y g. p.passes (from y) g.0;
        bytes = λ y g. p.bytes (from y) g.0;
        again = λ t a b l f. ap c.write (same (c.read t a) (p.keeps t a b l f)) ∙ p.again t a b l f;
        keeps = λ t a b l f.
            (subst c.Good (sym (same (c.read t a) (p.keeps t a b l f))) (p.keeps t a b l f), ap to (same (c.read t a) (p.keeps t a b l f)));
      }
