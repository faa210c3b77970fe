-- Two forms that read alike, each from its own bytes: an older edition's from the file, today's from what is made of it. From which follows that the one's
-- bytes keep the rules exactly if the other's do.
use Prim.Native.Nat.{ℕ, ◌+◌, ◌-◌, ◌*◌, ◌≤◌, ◌<◌, zero-le}
use Prim.Native.String.{String}
use native.Mathlib.Nat.{add-zero, zero-add, mul-add, le_refl}
use native.Mathlib.Decide.{dec_lt}
use native.Mathlib.Omega.{arith}
use mathlib.Core.Bool.{Bool, true, false}
use mathlib.Core.List.{List, [], ◌++◌, append_assoc, append-nil}
use mathlib.Core.Path.{◌≡◌, refl, sym, ap, ap₂, subst, ◌∙◌}
use lib.Dec.{eqb}
use lib.ListN.{length, get_or, take, drop, replicate, length-append, length-replicate, replicate-append-replicate, get_or-append, get_or-eq_default}
use lib.Seq.{get_or-append-add}
use borrow.Rule.Slice.PartMut.{put_mid}
use Rattle.octets.specs.Index.{◌and◌, all_below, list_of, zeros}
use Rattle.octets.specs.Choice.{◌then◌otherwise◌}
use Rattle.octets.specs.Part.{part, patch}
use Rattle.octets.proofs.Index.{and_left, and_right, and_yes, all_plus, all_intro, all_cong}
use Rattle.octets.proofs.Agree.{zeros_replicate}
use Rattle.octets.proofs.ListOf.{list_of_length, list_of_at, list_of_cong}
use Rattle.octets.proofs.Part.{part_length, part_part, part_mid, part_zeros, part_split, part_whole, part_range, patch_mid, patch_range}
use Rattle.recording.proofs.Sums.{part_last}
use Rattle.codes.specs.Codes.{Slot, empty, used, fill}
use Rattle.codes.specs.Form.{Form, given, field, ◌&◌, many, firsts_of, slot, that, as_record, code}
use Rattle.codes.proofs.Same.{Same, same_inside}
use Rattle.codes.proofs.Law.{back_at, passes_at}
use Rattle.codes.proofs.Many.{many_end}
use Rattle.codes.proofs.Forms.{lawful}
use Rattle.editions.specs.Steps.{opened}

pub record Alike {A : Type 0} (f g : Form A) (t : List ℕ) (a : ℕ) (u : List ℕ) (b : ℕ) : Type 0 where
  pub reads : (code f).read t a ≡ (code g).read u b
  pub tests : (code f).fine t a ≡ (code g).fine u b

pub and_last : (x : Bool) {y : Bool} → y ≡ true → (x and y) ≡ x
unfolding ◌and◌
and_last true e = e
and_last false e = refl

-- ---- one form, of the same bytes; and a field that an edition lacks, of the bytes of its value
pub same_alike : {A : Type 0} (f : Form A) {t u : List ℕ} {a b : ℕ} → Same (code f).width t a u b → Alike f f t a u b
same_alike f {t} {u} {a} {b} e = record { reads = (lawful f).sees t a u b e; tests = (lawful f).tests t a u b e }

pub given_alike : {A : Type 0} (v : A) (g : Form A) {t u : List ℕ} {a b : ℕ} → (code g).Good v → part u b (code g).width ≡ (code g).write v
    → Alike (given v) g t a u b
given_alike v g {t} {u} {a} {b} good e =
    record { reads = sym (back_at (lawful g) u b v e good); tests = sym (passes_at (lawful g) u b v e good) }

-- equal bytes in their places
pub moved_alike : {A : Type 0} {f g : Form A} {t t' u u' : List ℕ} {a b : ℕ} → t ≡ t' → u ≡ u' → Alike f g t' a u' b → Alike f g t a u b
moved_alike {A} {f} {g} {t} {t'} {u} {u'} {a} {b} p q r =
    record {
      reads = ap (λ (x : List ℕ). (code f).read x a) p ∙ r.reads ∙ ap (λ (x : List ℕ). (code g).read x b) (sym q);
      tests = ap (λ (x : List ℕ). (code f).fine x a) p ∙ r.tests ∙ ap (λ (x : List ℕ). (code g).fine x b) (sym q);
    }

-- ---- what holds others
module _ {A B : Type 0} {f f' : Form A} {g g' : Form B} {t u : List ℕ} {a b : ℕ} where
  pub both_alike : Alike f f' t a u b → Alike g g' t (a + (code f).width) u (b + (code f').width) → Alike (f & g) (f' & g') t a u b
  both_alike p q =
      record {
        reads = λ i. (p.reads i, q.reads i);
        tests = ap₂ (λ (x y : Bool). x and y) p.tests q.tests;
      }

module _ {A : Type 0} {f g : Form A} {t u : List ℕ} {a b : ℕ} where
  pub field_alike : {name : String} → Alike f g t a u b → Alike (field name f) (field name g) t a u b
  field_alike p = record { reads = p.reads; tests = p.tests }

  pub that_alike : {rule : A → Bool} → Alike f g t a u b → Alike (that rule f) (that rule g) t a u b
  that_alike {rule} p =
      record { reads = p.reads; tests = ap₂ (λ (x y : Bool). x and y) p.tests (ap rule p.reads) }

  pub record_alike : {B : Type 0} {to : A → B} {from : B → A} {same : (x : A) → from (to x) ≡ x} {there : (y : B) → to (from y) ≡ y}
      → Alike f g t a u b → Alike (as_record to from same there f) (as_record to from same there g) t a u b
  record_alike {B} {to} p = record { reads = ap to p.reads; tests = p.tests }

  pub slot_alike : get_or t a 0 ≡ get_or u b 0
      → zeros (1 + (code f).width) (part t a (1 + (code f).width)) ≡ zeros (1 + (code g).width) (part u b (1 + (code g).width))
      → Alike f g t (a + 1) u (b + 1) → Alike (slot f) (slot g) t a u b
  slot_alike m z p =
      record {
        reads = ap₂ (λ (k : ℕ) (x : A). ◌then◌otherwise◌ {A = Slot A} (eqb k 0) empty (used x)) m p.reads;
        tests = λ i. eqb (m i) 0 then z i otherwise (eqb (m i) 1 and p.tests i);
      }

  pub many_alike : (n : ℕ) (spare : A)
      → ((i : ℕ) → i < n → Alike f g (part t (a + (code f).width * i) (code f).width) 0 (part u (b + (code g).width * i) (code g).width) 0)
      → Alike (many n spare f) (many n spare g) t a u b
  many_alike n spare p =
      record {
        reads = list_of_cong _ _ n (λ i l. (p i l).reads);
        tests = all_cong _ _ n (λ i l. (p i l).tests);
      }

-- ---- zeros put in
module _ (k n : ℕ) (b : List ℕ) (l : k ≤ length b) where
  front : length (part b 0 k) ≡ k
  front = part_length b 0 k (omega arith)

  rest : length (part b k (length b - k)) ≡ length b - k
  rest = part_length b k (length b - k) (omega arith)

  pub opened_length : length (opened k n b) ≡ length b + n
  unfolding opened
  opened_length = simp length-append (omega (arith, front, rest, length-replicate {A = ℕ} n 0))

  pub opened_front : part (opened k n b) 0 k ≡ part b 0 k
  unfolding opened
  opened_front = part_mid [] (part b 0 k) (replicate n 0 ++ part b k (length b - k)) 0 k refl front

  pub opened_gap : part (opened k n b) k n ≡ replicate n 0
  unfolding opened
  opened_gap = part_mid (part b 0 k) (replicate n 0) (part b k (length b - k)) k n front (length-replicate {A = ℕ} n 0)

  pub opened_rest : part (opened k n b) (k + n) (length b - k) ≡ part b k (length b - k)
  unfolding opened
  opened_rest =
      let z : List ℕ = part b k (length b - k) in
      ap (λ (r : List ℕ). part r (k + n) (length b - k)) (sym (append_assoc (part b 0 k) (replicate n 0) z))
      ∙ part_last (part b 0 k ++ replicate n 0) z (k + n) (length b - k) (simp length-append (omega (arith, front, length-replicate {A = ℕ} n 0))) rest

-- the code's two writes over zeros
pub opened_written : (to from : List ℕ) (k : ℕ) → k ≤ length from → length from ≤ length to → to ≡ replicate (length to) 0
    → patch (patch to 0 (part from 0 k)) (k + (length to - length from)) (part from k (length from - k)) ≡ opened k (length to - length from) from
unfolding opened
opened_written to from k l m e =
    let g : ℕ = length to - length from in
    let r : ℕ = length from - k in
    let x : List ℕ = part from 0 k in
    let z : List ℕ = part from k r in
    let xs : length x ≡ k = front k g from l in
    let zs : length z ≡ r = rest k g from l in
    let gap : List ℕ = replicate g 0 in
    let old : List ℕ = replicate r 0 in
    let zero : (n : ℕ) → length (replicate {A = ℕ} n 0) ≡ n = λ n. length-replicate {A = ℕ} n 0 in
    let all : length to ≡ k + (g + r) = omega arith in
    let cut : to ≡ replicate k 0 ++ (gap ++ old) =
    e
    ∙ ap (λ (n : ℕ). replicate n 0) all
    ∙ sym (replicate-append-replicate k (g + r) 0)
    ∙ ap (λ (y : List ℕ). replicate k 0 ++ y) (sym (replicate-append-replicate g r 0)) in
    ap (λ (y : List ℕ). patch y (k + g) z)
    (ap (λ (y : List ℕ). patch y 0 x) cut
    ∙ patch_mid [] (replicate k 0) (gap ++ old) x 0 refl (zero k ∙ sym xs)
    ∙ ap (λ (y : List ℕ). x ++ (gap ++ y)) (sym (append-nil old))
    ∙ sym (append_assoc x gap (old ++ [])))
    ∙ patch_mid (x ++ gap) old [] z (k + g) (simp length-append (omega (arith, xs, zero g))) (zero r ∙ sym zs)
    ∙ append_assoc x gap (z ++ [])
    ∙ ap (λ (y : List ℕ). x ++ (gap ++ y)) (append-nil z)

-- ---- zeros that stay around what is written
pub zeros_lent : (t : List ℕ) (n k : ℕ) → t ≡ replicate n 0 → k ≤ n → take (k - 0) (drop 0 t) ≡ replicate k 0
unfolding part
zeros_lent t n k e l =
    let all : k - 0 ≡ k = omega arith in
    ap (λ (i : ℕ). take i (drop 0 t)) all ∙ ap (λ (x : List ℕ). part x 0 k) e ∙ part_zeros n 0 k (omega arith)

-- the first k bytes of n zeros are lent, and s stands there afterwards
pub zeros_behind_put : (t s : List ℕ) (n k : ℕ) → t ≡ replicate n 0 → length s ≡ k → k ≤ n → put_mid 0 (k - 0) t s ≡ s ++ replicate (n - k) 0
zeros_behind_put t s n k e long l =
    let all : k - 0 ≡ 0 + k - 0 = omega arith in
    let whole : n ≡ k + (n - k) = omega arith in
    ap (λ (i : ℕ). put_mid 0 i t s) all
    ∙ patch_range t 0 k s long
    ∙ ap (λ (x : List ℕ). patch x 0 s) (e ∙ ap (λ (i : ℕ). replicate i 0) whole ∙ sym (replicate-append-replicate k (n - k) 0))
    ∙ patch_mid [] (replicate k 0) (replicate (n - k) 0) s 0 refl (length-replicate {A = ℕ} k 0 ∙ sym long)

-- what is lent of a longer run of bytes
pub opened_lent : (f : List ℕ) (at : ℕ) {w k W K : ℕ} (N L : ℕ) → k ≡ K → w ≡ W → at + W ≤ length f → L ≡ W + N
    → opened k (L - length (take (at + w - at) (drop at f))) (take (at + w - at) (drop at f)) ≡ opened K N (part f at W)
opened_lent f at {w} {k} {W} {K} N L e d l m =
    let lent : take (at + w - at) (drop at f) ≡ part f at W = part_range f at w ∙ ap (part f at) d in
    let left : L - length (part f at W) ≡ N = omega (arith, m, part_length f at W l) in
    ap₂ (λ (i : ℕ) (b : List ℕ). opened i (L - length b) b) e lent ∙ ap (λ (n : ℕ). opened K n (part f at W)) left

zeros_append : (x y : List ℕ) (k m : ℕ) → length x ≡ k → zeros (k + m) (x ++ y) ≡ (zeros k x and zeros m y)
unfolding zeros
zeros_append x y k m e =
    all_plus (λ i. eqb (get_or (x ++ y) i 0) 0) k m
    ∙ ap₂ (λ (p q : Bool). p and q)
    (all_cong _ _ k (λ i l. ap (λ (v : ℕ). eqb v 0) (get_or-append x y 0 i (omega (arith, e)))))
    (all_cong _ _ m
    (λ i l. ap (λ (v : ℕ). eqb v 0) (ap (λ (j : ℕ). get_or (x ++ y) (j + i) 0) (sym e) ∙ get_or-append-add x y i 0)))

pub zeros_opened : (k n : ℕ) (b : List ℕ) → k ≤ length b → zeros (length b) b ≡ zeros (length b + n) (opened k n b)
unfolding opened
zeros_opened k n b l =
    let x : List ℕ = part b 0 k in
    let z : List ℕ = part b k (length b - k) in
    let long : k + (length b - k) ≡ length b = omega arith in
    let whole : b ≡ x ++ z =
    sym (part_whole b (length b) refl)
    ∙ ap (part b 0) (sym long)
    ∙ part_split b 0 k (length b - k)
    ∙ ap (λ (j : ℕ). x ++ part b j (length b - k)) (zero-add k) in
    ap₂ (λ (j : ℕ) (y : List ℕ). zeros j y) (sym long) whole
    ∙ zeros_append x z k (length b - k) (front k n b l)
    ∙ ap (λ (q : Bool). zeros k x and q)
    (sym (zeros_append (replicate n 0) z n (length b - k) (length-replicate {A = ℕ} n 0) ∙ and_yes _ (zeros_replicate n)))
    ∙ sym (zeros_append x (replicate n 0 ++ z) k (n + (length b - k)) (front k n b l))
    ∙ ap (λ (j : ℕ). zeros j (x ++ (replicate n 0 ++ z))) (omega arith)

pub zeros_behind : (x : List ℕ) (k m : ℕ) → length x ≡ k → zeros (k + m) (x ++ replicate m 0) ≡ zeros k x
zeros_behind x k m e = zeros_append x (replicate m 0) k m e ∙ and_last _ (zeros_replicate m)

-- the L bytes of t from a on stand in u from b on, with n zeros put in at place k
pub record Opening (t : List ℕ) (a : ℕ) (u : List ℕ) (b k n L : ℕ) : Type 0 where
  pub before : (j m : ℕ) → j + m ≤ k → Same m t (a + j) u (b + j)
  pub gap : part u (b + k) n ≡ replicate n 0
  pub after : (m : ℕ) → k + m ≤ L → Same m t (a + k) u (b + (k + n))
  pub empties : zeros L (part t a L) ≡ zeros (L + n) (part u b (L + n))

module _ (t : List ℕ) (a : ℕ) (u : List ℕ) (b k n L : ℕ) (fits : a + L ≤ length t) (l : k ≤ L) where
  pub opening : part u b (L + n) ≡ opened k n (part t a L) → Opening t a u b k n L
  opening e =
      let long : length (part t a L) ≡ L = part_length t a L fits in
      let inside : k ≤ length (part t a L) = omega (arith, long) in
      record {
        before = λ j m h.
            sym (part_part t a L j m (omega arith))
            ∙ ap (λ (i : ℕ). part (part t a L) i m) (sym (zero-add j))
            ∙ sym (part_part (part t a L) 0 k j m h)
            ∙ ap (λ (r : List ℕ). part r j m)
            (sym (opened_front k n (part t a L) inside) ∙ ap (λ (r : List ℕ). part r 0 k) (sym e) ∙ part_part u b (L + n) 0 k (omega arith))
            ∙ part_part u (b + 0) k j m h
            ∙ ap (λ (i : ℕ). part u (i + j) m) (add-zero b);
        gap = sym (part_part u b (L + n) k n (omega arith)) ∙ ap (λ (r : List ℕ). part r k n) e ∙ opened_gap k n (part t a L) inside;
        after = λ m h.
            let r : ℕ = length (part t a L) - k in
            sym (part_part t a L k m h)
            ∙ ap (λ (i : ℕ). part (part t a L) i m) (sym (add-zero k))
            ∙ sym (part_part (part t a L) k r 0 m (omega (arith, long)))
            ∙ ap (λ (y : List ℕ). part y 0 m)
            (sym (opened_rest k n (part t a L) inside) ∙ ap (λ (y : List ℕ). part y (k + n) r) (sym e) ∙ part_part u b (L + n) (k + n) r (omega (arith, long)))
            ∙ part_part u (b + (k + n)) r 0 m (omega (arith, long))
            ∙ ap (λ (i : ℕ). part u i m) (add-zero (b + (k + n)));
        empties =
            ap (λ (j : ℕ). zeros j (part t a L)) (sym long)
            ∙ zeros_opened k n (part t a L) inside
            ∙ ap₂ (λ (j : ℕ) (y : List ℕ). zeros j y) (ap (λ (j : ℕ). j + n) long) (sym e);
      }

-- ---- a form that an edition has otherwise, with n bytes fewer: today zeros are put in for them behind its own, which stand behind `place` others
pub record Brought {A : Type 0} (g f : Form A) : Type 0 where
  pub within : (code f).width ≤ (code g).width
  pub alike : (t u : List ℕ) (a b n L place : ℕ) → n + (code f).width ≡ (code g).width
      → Opening t a u b (place + (code f).width) n L → Alike f g t (a + place) u (b + place)

-- it has it as today; or lacks it, and its value is zeros today
pub kept : {A : Type 0} {g : Form A} → Brought g g
kept {A} {g} = record { within = le_refl (code g).width; alike = λ t u a b n L place wide o. same_alike g (o.before place (code g).width (le_refl _)) }

pub lacked : {A : Type 0} {g : Form A} (v : A) → (code g).Good v → (code g).write v ≡ replicate (code g).width 0 → Brought g (given v)
lacked {A} {g} v good e =
    record {
      within = zero-le;
      alike = λ t u a b n L place wide o.
          let long : n ≡ (code g).width = sym (add-zero n) ∙ wide in
          given_alike v g good
          (ap₂ (λ (i m : ℕ). part u (b + i) m) (sym (add-zero place)) (sym long) ∙ o.gap ∙ ap (λ (m : ℕ). replicate m 0) long ∙ sym e);
    }

-- ---- two of them, one behind the other: what is put in stands behind both
pub record BroughtTwo {A B : Type 0} (g : Form A) (k : Form B) (f : Form A) (h : Form B) : Type 0 where
  pub within : (code f).width + (code h).width ≤ (code g).width + (code k).width
  pub alike : (t u : List ℕ) (a b n L place : ℕ) → n + ((code f).width + (code h).width) ≡ (code g).width + (code k).width
      → Opening t a u b (place + (code f).width + (code h).width) n L
      → Alike f g t (a + place) u (b + place) × Alike h k t (a + place + (code f).width) u (b + place + (code g).width)

shifted : {A : Type 0} {f g : Form A} {t u : List ℕ} {a a' b b' : ℕ} → a ≡ a' → b ≡ b' → Alike f g t a u b → Alike f g t a' u b'
shifted {A} {f} {g} {t} {u} {a} {a'} {b} {b'} p q r = subst (λ (x : ℕ). Alike f g t x u b') p (subst (λ (y : ℕ). Alike f g t a u y) q r)

-- an edition has the first as today, or lacks both
pub first_kept : {A B : Type 0} {g : Form A} {k h : Form B} → Brought k h → BroughtTwo g k g h
first_kept {A} {B} {g} {k} {h} y =
    record {
      within = let l = y.within in omega (arith, l);
      alike = λ t u a b n L place wide o. (
        same_alike g (o.before place (code g).width (omega arith)),
        shifted (omega arith) (omega arith) (y.alike t u a b n L (place + (code g).width) (omega (arith, wide)) o),
      );
    }

pub both_lacked : {A B : Type 0} {g : Form A} {k : Form B} (v : A) (w : B) → (code (g & k)).Good (v, w)
    → (code (g & k)).write (v, w) ≡ replicate (code (g & k)).width 0 → BroughtTwo g k (given v) (given w)
both_lacked {A} {B} {g} {k} v w good e =
    record {
      within = zero-le;
      alike = λ t u a b n L place wide o.
          let here : place + 0 + 0 ≡ place + 0 = omega arith in
          let p = (lacked {g = g & k} (v, w) good e).alike t u a b n L place wide (subst (λ (i : ℕ). Opening t a u b i n L) here o) in (
            record { reads = ap (λ (y : A × B). y.0) p.reads; tests = sym (and_left _ _ (sym p.tests)) },
            record { reads = ap (λ (y : A × B). y.1) p.reads; tests = sym (and_right _ _ (sym p.tests)) },
          );
    }

-- ---- what holds others: a form behind another, a field, a record, a rule. The last of a record's fields that an edition lacks is
-- `in_record_lem (behind (in_field (lacked ..)))`
pub behind : {A B : Type 0} {g : Form A} {k h : Form B} → Brought k h → Brought (g & k) (g & h)
behind {A} {B} {g} {k} {h} y =
    let two = first_kept {g = g} y in
    record {
      within = two.within;
      alike = λ t u a b n L place wide o.
          let there : place + ((code g).width + (code h).width) ≡ place + (code g).width + (code h).width = omega arith in
          let p = two.alike t u a b n L place wide (subst (λ (i : ℕ). Opening t a u b i n L) there o) in
          both_alike p.0 p.1;
    }

module _ {A : Type 0} {g f : Form A} (y : Brought g f) where
  pub in_field : {name : String} → Brought (field name g) (field name f)
  in_field = record { within = y.within; alike = λ t u a b n L place wide o. field_alike (y.alike t u a b n L place wide o) }

  pub in_rule_lem : {rule : A → Bool} → Brought (that rule g) (that rule f)
  in_rule_lem = record { within = y.within; alike = λ t u a b n L place wide o. that_alike (y.alike t u a b n L place wide o) }

  pub in_record_lem : {B : Type 0} {to : A → B} {from : B → A} {same : (x : A) → from (to x) ≡ x} {there : (y : B) → to (from y) ≡ y}
      → Brought (as_record to from same there g) (as_record to from same there f)
  in_record_lem = record { within = y.within; alike = λ t u a b n L place wide o. record_alike (y.alike t u a b n L place wide o) }

-- ---- a list that has fewer places in an edition: today the others hold `spare`, which is zeros
module _ {A : Type 0} (m n : ℕ) (l : m ≤ n) (spare : A) (f : Form A) (good : (code f).Good spare)
    (zero : (code f).write spare ≡ replicate (code f).width 0) (t u : List ℕ) (a b : ℕ) (same : Same ((code f).width * m) t a u b)
    (rest : part u (b + (code f).width * m) ((code f).width * (n - m)) ≡ replicate ((code f).width * (n - m)) 0) where
  abbrev w : ℕ
  w = (code f).width

  abbrev read_of : List ℕ → A
  read_of x = (code f).read x 0

  abbrev fine_of : List ℕ → Bool
  fine_of x = (code f).fine x 0

  here : (i : ℕ) → i < m → part t (a + w * i) w ≡ part u (b + w * i) w
  here i k = same_inside (w * m) t a u b same (w * i) w (many_end w m i k)

  spare_behind : (j : ℕ) → j < n - m → part u (b + w * (m + j)) w ≡ (code f).write spare
  spare_behind j k =
      let place : b + w * (m + j) ≡ b + w * m + w * j = omega (arith, mul-add w m j) in
      ap (λ (c : ℕ). part u c w) place
      ∙ sym (part_part u (b + w * m) (w * (n - m)) (w * j) w (many_end w (n - m) j k))
      ∙ ap (λ (x : List ℕ). part x (w * j) w) rest
      ∙ part_zeros (w * (n - m)) (w * j) w (many_end w (n - m) j k)
      ∙ sym zero

  pub first_alike : Alike (firsts_of m n l spare f) (many n spare f) t a u b
  unfolding fill
  first_alike = record { reads = list_of_cong _ _ n (λ i k. read_at i k (dec_lt i m)); tests = all_cong _ _ m (λ i k. ap fine_of (here i k)) ∙ sym tested }
    where
      read_at : (i : ℕ) → i < n → Dec (i < m) → get_or (list_of (λ j. read_of (part t (a + w * j) w)) m) i spare ≡ read_of (part u (b + w * i) w)
      read_at i k (yes q) = list_of_at (λ j. read_of (part t (a + w * j) w)) m i spare q ∙ ap read_of (here i q)
      read_at i k (no q) =
          let back : i ≡ m + (i - m) = omega arith in
          get_or-eq_default (list_of (λ j. read_of (part t (a + w * j) w)) m) spare {n = i}
          (omega (arith, list_of_length (λ j. read_of (part t (a + w * j) w)) m))
          ∙ sym (ap (λ (j : ℕ). read_of (part u (b + w * j) w)) back ∙ ap read_of (spare_behind (i - m) (omega arith)) ∙ (lawful f).back spare good)

      tested : all_below (λ i. fine_of (part u (b + w * i) w)) n ≡ all_below (λ i. fine_of (part u (b + w * i) w)) m
      tested =
          let all : n ≡ m + (n - m) = omega arith in
          ap (all_below (λ i. fine_of (part u (b + w * i) w))) all
          ∙ all_plus (λ i. fine_of (part u (b + w * i) w)) m (n - m)
          ∙ and_last _ (all_intro (λ j. fine_of (part u (b + w * (m + j)) w)) (n - m) (λ j k. ap fine_of (spare_behind j k) ∙ (lawful f).passes spare good))
