-- The laws of one field.
use Prim.Native.Nat.{ℕ, zero, suc, ◌<◌}
use native.Mathlib.Omega.{arith}
use mathlib.Core.Bool.{Bool, true, false}
use mathlib.Core.List.{List, [], ◌∷◌}
use mathlib.Core.Path.{◌≡◌, refl, sym, ap, subst, ◌∙◌}
use lib.Dec.{lit<, eqb, ltb}
use lib.ListN.{length, get_or}
use borrow.Author.Tests.{ltb-true}
use Rattle.octets.specs.Bytes.{Bytes}
use Rattle.octets.specs.Choice.{◌then◌otherwise◌}
use Rattle.octets.specs.Part.{part}
use Rattle.octets.specs.BigEndian.{number, big_endian}
use Rattle.octets.proofs.Bytes.{nil_bytes, cons_bytes, part_bytes, big_endian_bytes}
use Rattle.octets.proofs.BigEndian.{big_endian_length, number_big_endian, number_lt}
use Rattle.octets.proofs.ListOf.{list_of_length, list_of_get_d}
use Rattle.octets.proofs.Part.{part_length, part_nil, part_one, part_whole, part_again}
use mir.Val.{bool_byte}
use Rattle.codes.specs.Codes.{byte_code, mark_of, mark_code, number_code, exactly, octets_code, given_code}
use Rattle.codes.proofs.Same.{same_byte}
use Rattle.codes.proofs.Law.{Lawful}

-- ---- a byte
pub byte_lawful : Lawful byte_code
byte_lawful =
    record {
      wide = λ x. refl;
      sees = λ t a u b e. same_byte 1 t a u b e (lit< tt);
      tests = λ t a u b e. refl;
      back = λ x g. refl;
      passes = λ x g. refl;
      bytes = λ x g. cons_bytes x [] g nil_bytes;
      again = λ t a b l f. sym (part_one t a (omega arith));
      keeps = λ t a b l f. b a;
    }

-- ---- a mark
-- `u8::from(x)` is x's mark
pub byte_mark : (x : Bool) → bool_byte x ≡ mark_of x
unfolding mark_of ◌then◌otherwise◌
byte_mark true = refl
byte_mark false = refl

mark_again : (m : ℕ) → ltb m 2 ≡ true → mark_of (eqb m 1) ≡ m
unfolding mark_of ◌then◌otherwise◌
mark_again zero h = refl
mark_again (suc zero) h = refl
mark_again (suc (suc m)) h =
    let l : suc (suc m) < 2 = ltb-true (suc (suc m)) 2 h in
    absurd (omega arith)

pub mark_back : (x : Bool) → eqb (mark_of x) 1 ≡ x
unfolding mark_of ◌then◌otherwise◌
mark_back true = refl
mark_back false = refl

mark_fine : (x : Bool) → ltb (mark_of x) 2 ≡ true
unfolding mark_of ◌then◌otherwise◌
mark_fine true = refl
mark_fine false = refl

mark_byte : (x : Bool) → mark_of x < 256
unfolding mark_of ◌then◌otherwise◌
mark_byte true = lit< tt
mark_byte false = lit< tt

pub mark_lawful : Lawful mark_code
mark_lawful =
    record {
      wide = λ x. refl;
      sees = λ t a u b e. ap (λ (k : ℕ). eqb k 1) (same_byte 1 t a u b e (lit< tt));
      tests = λ t a u b e. ap (λ (k : ℕ). ltb k 2) (same_byte 1 t a u b e (lit< tt));
      back = λ x g. mark_back x;
      passes = λ x g. mark_fine x;
      bytes = λ x g. cons_bytes (mark_of x) [] (mark_byte x) nil_bytes;
      again = λ t a b l f. ap (λ (k : ℕ). k ∷ []) (mark_again (get_or t a 0) f) ∙ sym (part_one t a (omega arith));
      keeps = λ t a b l f. tt;
    }

-- ---- a number
pub number_lawful : (n : ℕ) → Lawful (number_code n)
number_lawful n =
    record {
      wide = big_endian_length n;
      sees = λ t a u b e. ap number e;
      tests = λ t a u b e. refl;
      back = λ x g. ap number (part_whole (big_endian n x) n (big_endian_length n x)) ∙ number_big_endian n x g;
      passes = λ x g. refl;
      bytes = λ x g. big_endian_bytes n x;
      again = λ t a b l f. part_again t a n b l;
      keeps = λ t a b l f. number_lt (part t a n) n (part_bytes t a n b) (part_length t a n l);
    }

-- ---- bytes
pub exactly_length : (n : ℕ) (xs : List ℕ) → length (exactly n xs) ≡ n
unfolding exactly
exactly_length n xs = list_of_length (λ i. get_or xs i 0) n

pub exactly_same : (n : ℕ) (xs : List ℕ) → length xs ≡ n → exactly n xs ≡ xs
unfolding exactly
exactly_same n xs e = list_of_get_d 0 xs n e

pub octets_lawful : (n : ℕ) → Lawful (octets_code n)
octets_lawful n =
    record {
      wide = exactly_length n;
      sees = λ t a u b e. e;
      tests = λ t a u b e. refl;
      back = λ x g. part_whole (exactly n x) n (exactly_length n x) ∙ exactly_same n x g.0;
      passes = λ x g. refl;
      bytes = λ x g. subst Bytes (sym (exactly_same n x g.0)) g.1;
      again = λ t a b l f. exactly_same n (part t a n) (part_length t a n l);
      keeps = λ t a b l f. (part_length t a n l, part_bytes t a n b);
    }

-- ---- no bytes
pub given_lawful : {A : Type 0} (v : A) → Lawful (given_code v)
given_lawful v =
    record {
      wide = λ x. refl;
      sees = λ t a u b e. refl;
      tests = λ t a u b e. refl;
      back = λ x g. sym g;
      passes = λ x g. refl;
      bytes = λ x g. nil_bytes;
      again = λ t a b l f. sym (part_nil t a);
      keeps = λ t a b l f. refl;
    }
