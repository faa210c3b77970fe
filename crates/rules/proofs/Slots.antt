-- Tables that hold one live record of each key. `alive` says which records live, `key` what they are looked for by: one law for all tables.
use Prim.Native.Nat.{ℕ, ◌≤◌, ◌<◌}
use native.Mathlib.Decide.{ℕ_discrete, dec_lt}
use native.Mathlib.Omega.{arith}
use mathlib.Core.Bool.{Bool, true, false, false≢true}
use mathlib.Core.List.{List, map}
use mathlib.Core.Path.{◌≡◌, refl, sym, ap, subst, ◌∙◌}
use lib.ListN.{length, get_or, set, replicate, get_or-replicate, length-replicate, get_or-eq_default, get_or-map, length-set}
use borrow.Author.Tests.{lt-ltb, ltb-true}
use lib.Seq.{get_or-set_same, get_or-set_other}
use Rattle.octets.specs.Index.{◌and◌}
use Rattle.octets.specs.Choice.{◌then◌otherwise◌, same}
use Rattle.octets.proofs.Index.{and_left, and_right, and_both, first_holds, first_before}
use Rattle.octets.proofs.Choice.{same_eq, eq_same}
use Rattle.numbers.specs.Numbers.{live}
use Rattle.rules.specs.Relay.{Slot, empty, used, holds, lowest}
use Rattle.rules.specs.Renumbering.{rename_slot}
use Rattle.rules.specs.Writes.{emptied_if}
use Rattle.rules.proofs.Choices.{either}

-- two live records of one key stand in one place
abbrev pub Single : {A : Type 0} → (A → Bool) → (A → List ℕ) → List (Slot A) → Type 0
Single {A} alive key slots =
    (i j : ℕ) (x y : A) → get_or slots i empty ≡ used x → get_or slots j empty ≡ used y
    → alive x ≡ true → alive y ≡ true → key x ≡ key y → i ≡ j

-- every live record is so
abbrev pub Every : {A : Type 0} → (A → Bool) → (A → Type 0) → List (Slot A) → Type 0
Every {A} alive So slots = (i : ℕ) (x : A) → get_or slots i empty ≡ used x → alive x ≡ true → So x

module _ {A : Type 0} where
  pub used_not_empty : {x : A} → empty ≡ used x → ⊥
  used_not_empty {x} e = let z : ◌≡◌ {A = ℕ} 0 1 = cc in omega arith

  pub used_same : {x y : A} → used x ≡ used y → x ≡ y
  used_same e = cc

  -- ---- what is read after a write, and in a fresh table
  fresh_empty : (n i : ℕ) → get_or {A = Slot A} (replicate n empty) i empty ≡ empty
  fresh_empty n i = go (dec_lt i n)
    where
      go : Dec (i < n) → get_or {A = Slot A} (replicate n empty) i empty ≡ empty
      go (yes l) = get_or-replicate n i empty empty l
      go (no l) = get_or-eq_default (replicate n empty) empty (rw length-replicate (omega arith))

  -- a record that stands there after a write was written, or stood there before
  pub written : {C : Type 0} (slots : List (Slot A)) (i : ℕ) (s : Slot A) (j : ℕ) (x : A) → get_or (set slots i s) j empty ≡ used x
      → (j ≡ i → s ≡ used x → C) → ((j ≡ i → ⊥) → get_or slots j empty ≡ used x → C) → C
  written {C} slots i s j x e new old = go (ℕ_discrete j i) (dec_lt j (length slots))
    where
      go : Dec (j ≡ i) → Dec (j < length slots) → C
      go (yes p) (yes l) =
          new p (sym (get_or-set_same slots i s empty (subst (λ (k : ℕ). k < length slots) p l)) ∙ ap (λ (k : ℕ). get_or (set slots i s) k empty) (sym p) ∙ e)
      go (yes p) (no l) =
          absurd (used_not_empty (sym (get_or-eq_default (set slots i s) empty {n = j} (rw length-set (omega arith))) ∙ e))
      go (no n) b = old n (sym (get_or-set_other slots i j s empty n) ∙ e)

  -- a record that stands there after each slot was changed comes of what stood there
  mapped : (f : Slot A → Slot A) → f empty ≡ empty → (slots : List (Slot A)) (i : ℕ) (x : A) → get_or (map f slots) i empty ≡ used x
      → f (get_or slots i empty) ≡ used x
  mapped f none slots i x e = sym (get_or-map f slots i empty) ∙ ap (get_or (map f slots) i) none ∙ e

  pub renamed : (rename : A → A) (s : Slot A) (x : A) → rename_slot rename s ≡ used x → (y : A) × (s ≡ used y) × (rename y ≡ x)
  unfolding rename_slot
  renamed rename empty x e = absurd (used_not_empty e)
  renamed rename (used y) x e = (y, refl, used_same e)

  -- what is left of a table whose records that pass the test are emptied
  emptied : (test : A → Bool) (s : Slot A) (x : A) → emptied_if test s ≡ used x → (s ≡ used x) × (test x ≡ false)
  unfolding emptied_if holds
  emptied test s x =
      either (λ (t : Slot A). t ≡ used x → (s ≡ used x) × (test x ≡ false)) (holds test s)
      (λ _ e. absurd (used_not_empty e))
      (λ fails e. (e, ap (holds test) (sym e) ∙ fails))

module _ {A : Type 0} (test : A → Bool) (slots : List (Slot A)) where
  pub emptied_at : (i : ℕ) (x : A) → get_or (map (emptied_if test) slots) i empty ≡ used x → (get_or slots i empty ≡ used x) × (test x ≡ false)
  unfolding emptied_if holds ◌then◌otherwise◌
  emptied_at i x e = emptied test (get_or slots i empty) x (mapped (emptied_if test) refl slots i x e)

module _ {A : Type 0} (rename : A → A) (slots : List (Slot A)) where
  pub renamed_at : (i : ℕ) (x : A) → get_or (map (rename_slot rename) slots) i empty ≡ used x → (y : A) × (get_or slots i empty ≡ used y) × (rename y ≡ x)
  unfolding rename_slot
  renamed_at i x e = renamed rename (get_or slots i empty) x (mapped (rename_slot rename) refl slots i x e)

module _ {A : Type 0} (alive : A → Bool) (So : A → Type 0) where
  pub every_set : (slots : List (Slot A)) (i : ℕ) (y : A) → Every alive So slots → So y → Every alive So (set slots i (used y))
  every_set slots i y old new j x e l = written slots i (used y) j x e (λ _ q. subst So (used_same q) new) (λ _ o. old j x o l)

  pub every_fresh : (n : ℕ) → Every alive So (replicate n empty)
  every_fresh n i x e l = absurd (used_not_empty (sym (fresh_empty n i) ∙ e))

  -- a record is changed where it stands
  pub every_changed : (change : A → A) → ((y : A) → alive (change y) ≡ alive y) → ((y : A) → So y → So (change y))
      → (slots : List (Slot A)) (i : ℕ) → Every alive So slots → Every alive So (set slots i (rename_slot change (get_or slots i empty)))
  every_changed change lives keeps slots i every j x e l =
      written slots i _ j x e
      (λ p q.
      let (y, o, r) = renamed change (get_or slots i empty) x q in
      subst So r (keeps y (every i y o (sym (lives y) ∙ ap alive r ∙ l))))
      (λ _ o. every j x o l)

  pub every_renamed : (rename : A → A) → ((y : A) → alive (rename y) ≡ alive y) → ((y : A) → So y → So (rename y))
      → (slots : List (Slot A)) → Every alive So slots → Every alive So (map (rename_slot rename) slots)
  every_renamed rename lives keeps slots every i x e l =
      let (y, o, q) = renamed_at rename slots i x e in
      subst So q (keeps y (every i y o (sym (lives y) ∙ ap alive q ∙ l)))

module _ {A : Type 0} (alive : A → Bool) (key : A → List ℕ) where
  pub single_fresh : (n : ℕ) → Single alive key (replicate n empty)
  single_fresh n i j x y ei ej lx ly k = absurd (used_not_empty (sym (fresh_empty n i) ∙ ei))

  -- each live record stood there before, with the same key
  single_from : (old new : List (Slot A))
      → ((i : ℕ) (x : A) → get_or new i empty ≡ used x → alive x ≡ true → (y : A) × (get_or old i empty ≡ used y) × (alive y ≡ true) × (key x ≡ key y))
      → Single alive key old → Single alive key new
  single_from old new from single i j x y ei ej lx ly k =
      let (u, eu, lu, ku) = from i x ei lx in
      let (w, ew, lw, kw) = from j y ej ly in
      single i j u w eu ew lu lw (sym ku ∙ k ∙ kw)

  -- a record is emptied
  pub single_emptied : (slots : List (Slot A)) (i : ℕ) → Single alive key slots → Single alive key (set slots i empty)
  single_emptied slots i =
      single_from slots (set slots i empty)
      (λ j x e l. written slots i empty j x e (λ _ q. absurd (used_not_empty q)) (λ _ o. (x, o, l, refl)))

  pub single_renamed : (rename : A → A) → ((y : A) → alive (rename y) ≡ alive y) → ((y : A) → key (rename y) ≡ key y)
      → (slots : List (Slot A)) → Single alive key slots → Single alive key (map (rename_slot rename) slots)
  single_renamed rename lives keyed slots =
      single_from slots (map (rename_slot rename) slots)
      (λ i x e l.
      let (y, o, q) = renamed_at rename slots i x e in
      (y, o, sym (lives y) ∙ ap alive q ∙ l, ap key (sym q) ∙ keyed y))

  -- .. or changed where it stands
  pub single_changed : (change : A → A) → ((y : A) → alive (change y) ≡ alive y) → ((y : A) → key (change y) ≡ key y)
      → (slots : List (Slot A)) (i : ℕ) → Single alive key slots → Single alive key (set slots i (rename_slot change (get_or slots i empty)))
  single_changed change lives keyed slots i =
      single_from slots (set slots i (rename_slot change (get_or slots i empty)))
      (λ j x e l.
      written slots i _ j x e
      (λ p q.
      let (y, o, r) = renamed change (get_or slots i empty) x q in
      (y, ap (λ (k : ℕ). get_or slots k empty) p ∙ o, sym (lives y) ∙ ap alive r ∙ l, ap key (sym r) ∙ keyed y))
      (λ _ o. (x, o, l, refl)))

  pub single_emptied_where : (test : A → Bool) (slots : List (Slot A)) → Single alive key slots → Single alive key (map (emptied_if test) slots)
  single_emptied_where test slots =
      single_from slots (map (emptied_if test) slots) (λ i x e l. (x, (emptied_at test slots i x e).0, l, refl))

  -- a record is written, and no live one of its key stands elsewhere
  pub single_set : (slots : List (Slot A)) (i : ℕ) (y : A) → Single alive key slots
      → ((j : ℕ) (x : A) → (j ≡ i → ⊥) → get_or slots j empty ≡ used x → alive x ≡ true → key x ≡ key y → ⊥)
      → Single alive key (set slots i (used y))
  single_set slots i y single alone j k u w ej ek lu lw e =
      written slots i (used y) j u ej
      (λ p q. written slots i (used y) k w ek
      (λ p' q'. p ∙ sym p')
      (λ n' o'. absurd (alone k w n' o' lw (sym e ∙ ap key (sym (used_same q))))))
      (λ n o. written slots i (used y) k w ek
      (λ p' q'. absurd (alone j u n o lu (e ∙ ap key (sym (used_same q')))))
      (λ n' o'. single j k u w o o' lu lw e))

-- ---- the lowest live record of a key
module _ {A : Type 0} (test : A → Bool) (n : ℕ) (slots : List (Slot A)) (size : length slots ≡ n) where
  -- the record that is found passes the test
  found_passes : (x : A) → get_or slots (lowest test n slots) empty ≡ used x → test x ≡ true
  unfolding lowest holds
  found_passes x e = go (dec_lt (lowest test n slots) n)
    where
      go : Dec (lowest test n slots < n) → test x ≡ true
      go (yes l) = ap (holds test) (sym e) ∙ first_holds (λ i. holds test (get_or slots i empty)) n l
      go (no l) = absurd (used_not_empty (sym (get_or-eq_default slots empty {n = lowest test n slots} (omega arith)) ∙ e))

  -- where none is found, none passes it
  pub none_passes : get_or slots (lowest test n slots) empty ≡ empty → (j : ℕ) (x : A) → get_or slots j empty ≡ used x → test x ≡ true → ⊥
  unfolding lowest holds
  none_passes none j x e t = go (dec_lt j (lowest test n slots)) (dec_lt j n)
    where
      go : Dec (j < lowest test n slots) → Dec (j < n) → ⊥
      go (yes l) b =
          false≢true (sym (first_before (λ i. holds test (get_or slots i empty)) n j l) ∙ ap (holds test) e ∙ t)
      go (no l) (yes m) =
          false≢true (ap (holds test) (sym none) ∙ first_holds (λ i. holds test (get_or slots i empty)) n (omega arith))
      go (no l) (no m) = used_not_empty (sym (get_or-eq_default slots empty {n = j} (omega arith)) ∙ e)

  -- the search went through all places
  pub not_found : n ≤ lowest test n slots → get_or slots (lowest test n slots) empty ≡ empty
  not_found l = get_or-eq_default slots empty (omega arith)

-- the test by which the live record of a key is looked for
abbrev of_key : {A : Type 0} → (A → Bool) → (A → List ℕ) → List ℕ → A → Bool
of_key alive key k x = same (key x) k and alive x

module _ {A : Type 0} (alive : A → Bool) (key : A → List ℕ) (k : List ℕ) (n : ℕ) (slots : List (Slot A)) (size : length slots ≡ n) where
  pub found_key : (x : A) → get_or slots (lowest (of_key alive key k) n slots) empty ≡ used x → (key x ≡ k) × (alive x ≡ true)
  found_key x e =
      let h : of_key alive key k x ≡ true = found_passes (of_key alive key k) n slots size x e in
      (same_eq (key x) k (and_left _ _ h), and_right _ _ h)

  -- where none is found, no live record has the key
  pub none_live : get_or slots (lowest (of_key alive key k) n slots) empty ≡ empty → (j : ℕ) (x : A) → get_or slots j empty ≡ used x → alive x ≡ true → key x ≡ k → ⊥
  none_live none j x e l q = none_passes (of_key alive key k) n slots size none j x e (and_both (eq_same (key x) k q) l)

  -- no live one stands at another place than the lowest
  pub found_alone : Single alive key slots
      → (j : ℕ) (x : A) → (j ≡ lowest (of_key alive key k) n slots → ⊥) → get_or slots j empty ≡ used x → alive x ≡ true → key x ≡ k → ⊥
  found_alone single j x other e l q = go (get_or slots (lowest (of_key alive key k) n slots) empty) refl
    where
      go : (s : Slot A) → get_or slots (lowest (of_key alive key k) n slots) empty ≡ s → ⊥
      go empty f = none_live f j x e l q
      go (used y) f = other (single j (lowest (of_key alive key k) n slots) x y e f l (found_key y f).1 (q ∙ sym (found_key y f).0))

-- ---- what is live later is live now
module _ {A : Type 0} (expiry : A → ℕ) {now later : ℕ} (l : now ≤ later) (slots : List (Slot A)) where
  earlier : (x : A) → live later (expiry x) ≡ true → live now (expiry x) ≡ true
  earlier x h = let m : later < expiry x = ltb-true _ _ h in lt-ltb now (expiry x) (omega arith)

  pub single_later : (key : A → List ℕ) → Single (λ x. live now (expiry x)) key slots → Single (λ x. live later (expiry x)) key slots
  single_later key single i j x y ei ej lx ly k = single i j x y ei ej (earlier x lx) (earlier y ly) k

  pub every_later : (So : A → Type 0) → Every (λ x. live now (expiry x)) So slots → Every (λ x. live later (expiry x)) So slots
  every_later So every i x e lx = every i x e (earlier x lx)
