-- Looking a key up in a table, and what is known under it instead: one law for each way of writing a table, whatever its records are. `alive clock` says which
-- records live at a clock; what lives later lives now.
use Prim.Native.Nat.{ℕ, ◌≤◌, ◌<◌}
use native.Mathlib.Decide.{ℕ_discrete, dec_lt}
use native.Mathlib.Nat.{le_refl}
use native.Mathlib.Omega.{arith}
use mathlib.Core.Bool.{Bool, true, false, false≢true}
use mathlib.Core.List.{List, map}
use mathlib.Core.Path.{◌≡◌, refl, sym, ap, subst, ◌∙◌}
use lib.Dec.{ltb}
use lib.ListN.{length, get_or, set, replicate, length-set, length-map, get_or-replicate, length-replicate, get_or-eq_default, get_or-map}
use lib.Seq.{get_or-set_same, get_or-set_other, set_out}
use borrow.Author.Tests.{lt-ltb, le-ltb, ltb-false}
use Rattle.octets.specs.Index.{◌and◌}
use Rattle.octets.specs.Choice.{◌then◌otherwise◌, same}
use Rattle.octets.proofs.Index.{and_left, and_right, and_both, first_holds, first_before, first_absent, first_only, first_cong}
use Rattle.octets.proofs.Choice.{same_eq, eq_same, then_true, then_false, then_ap}
use Rattle.rules.specs.Relay.{Slot, empty, used, holds, lowest}
use Rattle.rules.specs.Renumbering.{rename_slot}
use Rattle.rules.specs.Tests.{is_there}
use Rattle.rules.specs.Writes.{emptied_if}
use Rattle.rules.proofs.Choices.{either}
use Rattle.rules.proofs.Slots.{Single, used_not_empty, used_same, emptied_at, found_key, none_live, found_alone}
use Rattle.rules.proofs.SlotsRenamed.{slot_renamed, lowest_renamed}
use Rattle.history.specs.Known.{only_if, now_under}

-- a table that holds nothing
pub nothing_there : {A : Type 0} (n i : ℕ) → get_or {A = Slot A} (replicate n empty) i empty ≡ empty
nothing_there {A} n i = go (dec_lt i n)
  where
    go : Dec (i < n) → get_or {A = Slot A} (replicate n empty) i empty ≡ empty
    go (yes l) = get_or-replicate n i empty empty l
    go (no l) = get_or-eq_default (replicate n empty) empty (rw length-replicate (omega arith))

-- ---- the lowest record that passes a test
module _ {A : Type 0} (test : A → Bool) (n : ℕ) where
  abbrev passes : List (Slot A) → ℕ → Bool
  passes slots i = holds test (get_or slots i empty)

  abbrev lowest_one : List (Slot A) → Slot A
  lowest_one slots = get_or slots (lowest test n slots) empty

  -- the same places pass, and hold the same
  lowest_same : (old new : List (Slot A)) → length old ≡ n → length new ≡ n
      → ((i : ℕ) → passes old i ≡ passes new i) → ((i : ℕ) → passes old i ≡ true → get_or old i empty ≡ get_or new i empty)
      → lowest_one old ≡ lowest_one new
  unfolding lowest
  lowest_same old new lo ln alike equal = go (dec_lt (lowest test n old) n)
    where
      e : lowest test n old ≡ lowest test n new
      e = first_cong (passes old) (passes new) n (λ i l. alike i)

      go : Dec (lowest test n old < n) → lowest_one old ≡ lowest_one new
      go (yes l) = equal (lowest test n old) (first_holds (passes old) n l) ∙ ap (λ (i : ℕ). get_or new i empty) e
      go (no l) =
          get_or-eq_default old empty {n = lowest test n old} (omega arith)
          ∙ sym (get_or-eq_default new empty {n = lowest test n new} (omega (arith, e)))

  -- one place alone passes
  lowest_only : (slots : List (Slot A)) (i : ℕ) (x : A) → i < n → get_or slots i empty ≡ used x → test x ≡ true
      → ((j : ℕ) → passes slots j ≡ true → j ≡ i) → lowest_one slots ≡ used x
  unfolding lowest holds
  lowest_only slots i x l e t alone =
      ap (λ (j : ℕ). get_or slots j empty) (first_only (passes slots) n i l (ap (holds test) e ∙ t) (λ j m h. alone j h)) ∙ e

  -- none does
  lowest_none : (slots : List (Slot A)) → length slots ≡ n → ((j : ℕ) → passes slots j ≡ false) → lowest_one slots ≡ empty
  unfolding lowest
  lowest_none slots size nowhere =
      ap (λ (j : ℕ). get_or slots j empty) (first_absent (passes slots) n (λ j l. nowhere j))
      ∙ get_or-eq_default slots empty (omega arith)

  module _ (slots : List (Slot A)) (size : length slots ≡ n) where
    -- a record that is found stands in the table
    pub found_below : (x : A) → lowest_one slots ≡ used x → lowest test n slots < n
    found_below x f = go (dec_lt (lowest test n slots) n)
      where
        go : Dec (lowest test n slots < n) → lowest test n slots < n
        go (yes l) = l
        go (no l) = absurd (used_not_empty (sym (get_or-eq_default slots empty {n = lowest test n slots} (omega arith)) ∙ f))

    -- whether one is found
    pub found_there : ltb (lowest test n slots) n ≡ is_there (lowest_one slots)
    unfolding lowest holds is_there
    found_there = go (dec_lt (lowest test n slots) n) (lowest_one slots) refl
      where
        go : Dec (lowest test n slots < n) → (s : Slot A) → lowest_one slots ≡ s → ltb (lowest test n slots) n ≡ is_there s
        go (yes l) (used x) e = lt-ltb _ n l
        go (yes l) empty e = absurd (false≢true (ap (holds test) (sym e) ∙ first_holds (passes slots) n l))
        go (no l) (used x) e = absurd (l (found_below x e))
        go (no l) empty e = le-ltb _ n (omega arith)

  -- none is found, and what is written anywhere does not pass
  pub none_over : (slots : List (Slot A)) (i : ℕ) (y : A) → ltb (lowest test n slots) n ≡ false → test y ≡ false
      → ltb (lowest test n (set slots i (used y))) n ≡ false
  unfolding lowest holds
  none_over slots i y none fails =
      le-ltb _ n (omega (arith, first_absent (passes (set slots i (used y))) n (λ j l. at j l (ℕ_discrete j i) (dec_lt i (length slots)))))
    where
      old : (j : ℕ) → j < n → passes slots j ≡ false
      old j l = first_before (passes slots) n j (omega (arith, ltb-false (lowest test n slots) n none))

      at : (j : ℕ) → j < n → Dec (j ≡ i) → Dec (i < length slots) → passes (set slots i (used y)) j ≡ false
      at j l (yes p) (yes m) =
          ap (passes (set slots i (used y))) p ∙ ap (holds test) (get_or-set_same slots i (used y) empty m) ∙ fails
      at j l (yes p) (no m) = ap (λ (t : List (Slot A)). passes t j) (set_out slots i (used y) (omega arith)) ∙ old j l
      at j l (no p) b = ap (holds test) (get_or-set_other slots i j (used y) empty p) ∙ old j l

-- ---- a table whose records have keys
pub record Kind (A : Type 0) : Type 0 where
  pub key : A → List ℕ
  -- which records live at a clock
  pub alive : ℕ → A → Bool
  pub count : ℕ
  pub fades : (now clock : ℕ) → now ≤ clock → (x : A) → alive clock x ≡ true → alive now x ≡ true

module _ {A : Type 0} (T : Kind A) where
  abbrev pub of_key : ℕ → List ℕ → A → Bool
  of_key clock k x = same (T.key x) k and T.alive clock x

  -- what is found under a key at a clock
  abbrev pub look : ℕ → List (Slot A) → List ℕ → Slot A
  look clock slots k = get_or slots (lowest (of_key clock k) T.count slots) empty

  -- from now on that is what is known under it, while it lives
  pub record Tells (now : ℕ) (slots : List (Slot A)) (known : List ℕ → Slot A) : Type 0 where
    pub size : length slots ≡ T.count
    pub told : (clock : ℕ) → now ≤ clock → (k : List ℕ) → look clock slots k ≡ only_if (T.alive clock) (known k)

-- a record that counts is one that is known; what is renamed counts as it did; what doesn't count now won't later
module _ {A : Type 0} (test : A → Bool) where
  only_known : (s : Slot A) (x : A) → only_if test s ≡ used x → s ≡ used x
  unfolding only_if
  only_known empty x e = e
  only_known (used y) x e =
      either (λ (s : Slot A). s ≡ used x → used y ≡ used x) (test y) (λ _ e. e) (λ _ e. absurd (used_not_empty e)) e

  only_renamed : (rename : A → A) → ((x : A) → test (rename x) ≡ test x) → (s : Slot A)
      → rename_slot rename (only_if test s) ≡ only_if test (rename_slot rename s)
  unfolding rename_slot only_if
  only_renamed rename blind empty = refl
  only_renamed rename blind (used x) =
      then_ap (rename_slot rename) (test x) (used x) empty
      ∙ ap (λ (b : Bool). b then used (rename x) otherwise empty) (sym (blind x))

only_gone : {A : Type 0} (T : Kind A) (now clock : ℕ) → now ≤ clock → (s : Slot A) → only_if (T.alive now) s ≡ empty → only_if (T.alive clock) s ≡ empty
unfolding only_if
only_gone T now clock m empty e = e
only_gone {A} T now clock m (used x) e =
    either (λ (s : Slot A). s ≡ empty) (T.alive clock x)
    (λ lives. absurd (used_not_empty (sym e ∙ then_true _ _ (T.fades now clock m x lives)))) (λ _. refl)

module _ {A : Type 0} {T : Kind A} where
  pub tells_later : {now later : ℕ} {slots : List (Slot A)} {known : List ℕ → Slot A} → now ≤ later → Tells T now slots known → Tells T later slots known
  tells_later l h = record { size = h.size; told = λ clock m. h.told clock (omega arith) }

  pub tells_same : {now : ℕ} {slots : List (Slot A)} {known other : List ℕ → Slot A} → ((k : List ℕ) → known k ≡ other k)
      → Tells T now slots known → Tells T now slots other
  tells_same e h = record { size = h.size; told = λ clock m k. h.told clock m k ∙ ap (only_if (T.alive clock)) (e k) }

  -- an empty table, while nothing that is known counts
  pub tells_fresh : (known : List ℕ → Slot A) → ((clock : ℕ) (k : List ℕ) → only_if (T.alive clock) (known k) ≡ empty)
      → Tells T 0 (replicate T.count empty) known
  tells_fresh known never = record { size = length-replicate T.count empty; told = λ clock m k. nothing_there T.count _ ∙ sym (never clock k) }

  -- what is found now lives, and is known
  pub known_now : {now : ℕ} {slots : List (Slot A)} {known : List ℕ → Slot A} → Tells T now slots known → (k : List ℕ) (x : A)
      → look T now slots k ≡ used x → known k ≡ used x
  known_now {now} {slots} {known} h k x f = only_known (T.alive now) (known k) x (sym (h.told now (le_refl now) k) ∙ f)

  -- all records are renamed
  pub tells_renamed : {now : ℕ} {slots : List (Slot A)} {known : List ℕ → Slot A} (rename : A → A) → ((x : A) → T.key (rename x) ≡ T.key x)
      → ((clock : ℕ) (x : A) → T.alive clock (rename x) ≡ T.alive clock x) → Tells T now slots known
      → Tells T now (map (rename_slot rename) slots) (λ k. rename_slot rename (known k))
  tells_renamed {now} {slots} {known} rename keyed lives h =
      record {
        size = length-map slots (rename_slot rename) ∙ h.size;
        told = λ clock m k.
            ap (λ (i : ℕ). get_or (map (rename_slot rename) slots) i empty) (lowest_renamed rename (of_key T clock k) (blind clock k) T.count slots)
            ∙ slot_renamed rename slots (lowest (of_key T clock k) T.count slots)
            ∙ ap (rename_slot rename) (h.told clock m k)
            ∙ only_renamed (T.alive clock) rename (lives clock) (known k);
      }
    where
      blind : (clock : ℕ) (k : List ℕ) (x : A) → of_key T clock k (rename x) ≡ of_key T clock k x
      blind clock k x = rw (keyed x, lives clock x)

-- ---- a slot is written
not_passing : {A : Type 0} (test : A → Bool) (s : Slot A) → (holds test s ≡ true → ⊥) → holds test s ≡ false
not_passing test s no_way = go (holds test s) refl
  where
    go : (b : Bool) → holds test s ≡ b → holds test s ≡ false
    go true e = absurd (no_way e)
    go false e = e

module _ {A : Type 0} (T : Kind A) (now : ℕ) where
  -- a slot that passes holds a record that lives now too, and has the key
  passing : (clock : ℕ) → now ≤ clock → (k : List ℕ) (s : Slot A) → holds (of_key T clock k) s ≡ true
      → (x : A) × (s ≡ used x) × (T.alive now x ≡ true) × (T.key x ≡ k)
  unfolding holds
  passing clock l k empty h = absurd (false≢true h)
  passing clock l k (used x) h = (x, refl, T.fades now clock l x (and_right _ _ h), same_eq (T.key x) k (and_left _ _ h))

module _ {A : Type 0} (T : Kind A) (now : ℕ) (slots : List (Slot A)) where
  -- no live record of the key stands at another place
  abbrev pub Alone : ℕ → List ℕ → Type 0
  Alone i k₀ = (j : ℕ) (x : A) → (j ≡ i → ⊥) → get_or slots j empty ≡ used x → T.alive now x ≡ true → T.key x ≡ k₀ → ⊥

  -- what a slot holds is not live, or has this key
  abbrev pub Harmless : Slot A → List ℕ → Type 0
  Harmless s k₀ = (x : A) → s ≡ used x → T.alive now x ≡ true → T.key x ≡ k₀

  module _ (size : length slots ≡ T.count) (i : ℕ) (l : i < T.count) (k₀ : List ℕ) (old : Harmless (get_or slots i empty) k₀) (s : Slot A) (its : Harmless s k₀)
      (clock : ℕ) (m : now ≤ clock) where
    abbrev written : List (Slot A)
    written = set slots i s

    there : get_or written i empty ≡ s
    there = get_or-set_same slots i s empty (omega arith)

    -- of another key, the write changes nothing
    pub other_key : (k : List ℕ) → same k₀ k ≡ false → look T clock written k ≡ look T clock slots k
    other_key k differs =
        lowest_same (of_key T clock k) T.count written slots (length-set slots i s ∙ size) size
        (λ j. alike j (ℕ_discrete j i)) (λ j. equal j (ℕ_discrete j i))
      where
        none : (t : Slot A) → Harmless t k₀ → holds (of_key T clock k) t ≡ false
        none t of =
            not_passing (of_key T clock k) t
            (λ h.
            let (x, e, lives, q) = passing T now clock m k t h in
            false≢true (sym differs ∙ eq_same k₀ k (sym (of x e lives) ∙ q)))

        here : (j : ℕ) → j ≡ i → holds (of_key T clock k) (get_or written j empty) ≡ false
        here j p = ap (λ (j : ℕ). holds (of_key T clock k) (get_or written j empty)) p ∙ ap (holds (of_key T clock k)) there ∙ none s its

        alike : (j : ℕ) → Dec (j ≡ i) → holds (of_key T clock k) (get_or written j empty) ≡ holds (of_key T clock k) (get_or slots j empty)
        alike j (yes p) = here j p ∙ sym (ap (λ (j : ℕ). holds (of_key T clock k) (get_or slots j empty)) p ∙ none (get_or slots i empty) old)
        alike j (no p) = ap (holds (of_key T clock k)) (get_or-set_other slots i j s empty p)

        equal : (j : ℕ) → Dec (j ≡ i) → holds (of_key T clock k) (get_or written j empty) ≡ true → get_or written j empty ≡ get_or slots j empty
        equal j (yes p) h = absurd (false≢true (sym (here j p) ∙ h))
        equal j (no p) h = get_or-set_other slots i j s empty p

    -- of its own, what is written is found while it lives, if it is alone
    module _ (alone : Alone i k₀) where
      elsewhere : (j : ℕ) → (j ≡ i → ⊥) → holds (of_key T clock k₀) (get_or written j empty) ≡ true → ⊥
      elsewhere j ne h =
          let (x, e, lives, q) = passing T now clock m k₀ (get_or written j empty) h in
          alone j x ne (sym (get_or-set_other slots i j s empty ne) ∙ e) lives q

      nowhere : holds (of_key T clock k₀) s ≡ false → look T clock written k₀ ≡ empty
      nowhere fails =
          lowest_none (of_key T clock k₀) T.count written (length-set slots i s ∙ size)
          (λ j. not_passing (of_key T clock k₀) (get_or written j empty) (λ h. none j h (ℕ_discrete j i)))
        where
          none : (j : ℕ) → holds (of_key T clock k₀) (get_or written j empty) ≡ true → Dec (j ≡ i) → ⊥
          none j h (yes p) =
              false≢true
              (sym fails ∙ ap (holds (of_key T clock k₀)) (sym there) ∙ ap (λ (j : ℕ). holds (of_key T clock k₀) (get_or written j empty)) (sym p) ∙ h)
          none j h (no p) = elsewhere j p h

      pub own_key : (t : Slot A) → s ≡ t → look T clock written k₀ ≡ only_if (T.alive clock) t
      unfolding only_if holds
      own_key empty e = nowhere (ap (holds (of_key T clock k₀)) e)
      own_key (used y) e = go (T.alive clock y) refl
        where
          go : (b : Bool) → T.alive clock y ≡ b → look T clock written k₀ ≡ (T.alive clock y then used y otherwise empty)
          go true lives =
              lowest_only (of_key T clock k₀) T.count written i y l (there ∙ e)
              (and_both (eq_same (T.key y) k₀ (its y e (T.fades now clock m y lives))) lives) (λ j h. one j h (ℕ_discrete j i))
              ∙ sym (then_true _ _ lives)
            where
              one : (j : ℕ) → holds (of_key T clock k₀) (get_or written j empty) ≡ true → Dec (j ≡ i) → j ≡ i
              one j h (yes p) = p
              one j h (no p) = absurd (elsewhere j p h)
          go false lives =
              nowhere
              (ap (holds (of_key T clock k₀)) e ∙ not_passing (of_key T clock k₀) (used y) (λ h. false≢true (sym lives ∙ and_right _ _ h)))
              ∙ sym (then_false _ _ lives)

-- ---- every live record of a key is emptied
pub emptied_slot : {A : Type 0} (test : A → Bool) (slots : List (Slot A)) (i : ℕ)
    → get_or (map (emptied_if test) slots) i empty ≡ emptied_if test (get_or slots i empty)
unfolding emptied_if holds ◌then◌otherwise◌
emptied_slot test slots i = get_or-map (emptied_if test) slots i empty

-- what has another key is left
slot_kept : {A : Type 0} (T : Kind A) (now : ℕ) (k : List ℕ) (clock : ℕ) → now ≤ clock → (j : List ℕ) → same k j ≡ false → (s : Slot A)
    → (holds (of_key T clock j) (emptied_if (of_key T now k) s) ≡ holds (of_key T clock j) s)
    × (holds (of_key T clock j) (emptied_if (of_key T now k) s) ≡ true → emptied_if (of_key T now k) s ≡ s)
unfolding emptied_if holds
slot_kept {A} T now k clock m j differs s =
    either (λ (t : Slot A). (holds (of_key T clock j) t ≡ holds (of_key T clock j) s) × (holds (of_key T clock j) t ≡ true → t ≡ s)) (holds (of_key T now k) s)
    (λ was.
    let fails : holds (of_key T clock j) s ≡ false =
    not_passing (of_key T clock j) s
    (λ h.
    let (x, e, lives, q) = passing T now clock m j s h in
    let is : holds (of_key T now k) (used x) ≡ true = subst (λ (t : Slot A). holds (of_key T now k) t ≡ true) e was in
    false≢true (sym differs ∙ eq_same k j (sym (same_eq (T.key x) k (and_left _ _ is)) ∙ q)))
    in
    (sym fails, λ h. absurd (false≢true h)))
    (λ _. (refl, λ _. refl))

-- ---- what is told after a write
module _ {A : Type 0} {T : Kind A} {now : ℕ} {slots : List (Slot A)} {known : List ℕ → Slot A} (h : Tells T now slots known) where
  pub tells_set : (i : ℕ) → i < T.count → (k₀ : List ℕ) → Harmless T now slots (get_or slots i empty) k₀ → Alone T now slots i k₀
      → (s : Slot A) → Harmless T now slots s k₀ → Tells T now (set slots i s) (now_under k₀ s known)
  unfolding now_under
  tells_set i l k₀ old alone s its =
      record { size = length-set slots i s ∙ h.size; told = λ clock m k. go clock m k (same k₀ k) refl }
    where
      go : (clock : ℕ) → now ≤ clock → (k : List ℕ) → (b : Bool) → same k₀ k ≡ b
          → look T clock (set slots i s) k ≡ only_if (T.alive clock) (same k₀ k then s otherwise known k)
      go clock m k true e =
          subst (λ (k : List ℕ). look T clock (set slots i s) k ≡ only_if (T.alive clock) s) (same_eq k₀ k e)
          (own_key T now slots h.size i l k₀ old s its clock m alone s refl)
          ∙ ap (only_if (T.alive clock)) (sym (then_true _ _ e))
      go clock m k false e =
          other_key T now slots h.size i l k₀ old s its clock m k e
          ∙ h.told clock m k
          ∙ ap (only_if (T.alive clock)) (sym (then_false _ _ e))

  -- at the place of the live record of k: another record of k, or none
  module _ (single : Single (T.alive now) T.key slots) (k : List ℕ) (x : A) (f : look T now slots k ≡ used x) where
    pub tells_over : (s : Slot A) → Harmless T now slots s k → Tells T now (set slots (lowest (of_key T now k) T.count slots) s) (now_under k s known)
    tells_over s its =
        tells_set (lowest (of_key T now k) T.count slots) (found_below (of_key T now k) T.count slots h.size x f) k
        (λ y e lives. (found_key (T.alive now) T.key k T.count slots h.size y e).0)
        (found_alone (T.alive now) T.key k T.count slots h.size single) s its

    -- .. or that record with some fields changed
    pub tells_changed : (change : A → A) → ((y : A) → T.key (change y) ≡ T.key y)
        → Tells T now (set slots (lowest (of_key T now k) T.count slots) (used (change x))) (now_under k (rename_slot change (known k)) known)
    unfolding rename_slot
    tells_changed change keyed =
        subst (λ (s : Slot A). Tells T now (set slots (lowest (of_key T now k) T.count slots) (used (change x))) (now_under k (rename_slot change s) known))
        (sym (known_now h k x f))
        (tells_over (used (change x))
        (λ y e lives. ap T.key (sym (used_same e)) ∙ keyed x ∙ (found_key (T.alive now) T.key k T.count slots h.size x f).0))

  -- where no record of k lives, it is no matter what is changed of one that did
  pub tells_gone : (k : List ℕ) → look T now slots k ≡ empty → (change : A → A) → ((clock : ℕ) (x : A) → T.alive clock (change x) ≡ T.alive clock x)
      → Tells T now slots (now_under k (rename_slot change (known k)) known)
  unfolding now_under rename_slot
  tells_gone k none change lives = record { size = h.size; told = λ clock m j. go clock m j (same k j) refl }
    where
      gone : (clock : ℕ) → now ≤ clock → only_if (T.alive clock) (known k) ≡ empty
      gone clock m = only_gone T now clock m (known k) (sym (h.told now (le_refl now) k) ∙ none)

      go : (clock : ℕ) → now ≤ clock → (j : List ℕ) (b : Bool) → same k j ≡ b
          → look T clock slots j ≡ only_if (T.alive clock) (same k j then rename_slot change (known k) otherwise known j)
      go clock m j true e =
          subst (λ (j : List ℕ). look T clock slots j ≡ empty) (same_eq k j e) (h.told clock m k ∙ gone clock m)
          ∙ sym (ap (rename_slot change) (gone clock m))
          ∙ only_renamed (T.alive clock) change (lives clock) (known k)
          ∙ ap (only_if (T.alive clock)) (sym (then_true _ _ e))
      go clock m j false e = h.told clock m j ∙ ap (only_if (T.alive clock)) (sym (then_false _ _ e))

  -- .. and a new one is put at a place where none lives
  pub tells_new : (i : ℕ) → i < T.count → (k : List ℕ) → look T now slots k ≡ empty → holds (T.alive now) (get_or slots i empty) ≡ false
      → (y : A) → T.key y ≡ k → Tells T now (set slots i (used y)) (now_under k (used y) known)
  unfolding holds
  tells_new i l k none dead y q =
      tells_set i l k (λ x e lives. absurd (false≢true (sym dead ∙ ap (holds (T.alive now)) e ∙ lives)))
      (λ j x other e lives. none_live (T.alive now) T.key k T.count slots h.size none j x e lives)
      (used y) (λ x e lives. ap T.key (sym (used_same e)) ∙ q)

  -- any other live record of k is emptied first
  pub tells_emptied : (k : List ℕ) → Tells T now (map (emptied_if (of_key T now k)) slots) (now_under k empty known)
  unfolding now_under only_if
  tells_emptied k =
      record { size = length-map slots (emptied_if (of_key T now k)) ∙ h.size; told = λ clock m j. go clock m j (same k j) refl }
    where
      left : List (Slot A)
      left = map (emptied_if (of_key T now k)) slots

      size : length left ≡ T.count
      size = length-map slots (emptied_if (of_key T now k)) ∙ h.size

      -- a record that is left stood there, and isn't of k or doesn't live
      none : (clock : ℕ) → now ≤ clock → (i : ℕ) → holds (of_key T clock k) (get_or left i empty) ≡ true → ⊥
      none clock m i e =
          let (x, there, lives, q) = passing T now clock m k (get_or left i empty) e in
          false≢true (sym (emptied_at (of_key T now k) slots i x there).1 ∙ and_both (eq_same (T.key x) k q) lives)

      -- what has another key is left
      kept : (clock : ℕ) → now ≤ clock → (j : List ℕ) → same k j ≡ false → (i : ℕ)
          → (holds (of_key T clock j) (get_or left i empty) ≡ holds (of_key T clock j) (get_or slots i empty))
          × (holds (of_key T clock j) (get_or left i empty) ≡ true → get_or left i empty ≡ get_or slots i empty)
      kept clock m j differs i =
          subst (λ (s : Slot A). (holds (of_key T clock j) s ≡ holds (of_key T clock j) (get_or slots i empty))
          × (holds (of_key T clock j) s ≡ true → s ≡ get_or slots i empty))
          (sym (emptied_slot (of_key T now k) slots i)) (slot_kept T now k clock m j differs (get_or slots i empty))

      go : (clock : ℕ) → now ≤ clock → (j : List ℕ) → (b : Bool) → same k j ≡ b
          → look T clock left j ≡ only_if (T.alive clock) (same k j then empty otherwise known j)
      go clock m j true e =
          subst (λ (j : List ℕ). look T clock left j ≡ empty) (same_eq k j e)
          (lowest_none (of_key T clock k) T.count left size (λ i. not_passing (of_key T clock k) (get_or left i empty) (none clock m i)))
          ∙ ap (only_if (T.alive clock)) (sym (then_true _ _ e))
      go clock m j false e =
          lowest_same (of_key T clock j) T.count left slots size h.size (λ i. (kept clock m j e i).0) (λ i. (kept clock m j e i).1)
          ∙ h.told clock m j
          ∙ ap (only_if (T.alive clock)) (sym (then_false _ _ e))
