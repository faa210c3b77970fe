-- The lowest live record of a key, followed through the writes into its table: one law for all tables.
use Prim.Native.Nat.{ℕ, ◌≤◌, ◌<◌}
use native.Mathlib.Decide.{ℕ_discrete, dec_lt}
use native.Mathlib.Omega.{arith}
use mathlib.Core.Bool.{Bool, true, false, false≢true}
use mathlib.Core.List.{List, map}
use mathlib.Core.Path.{◌≡◌, refl, sym, ap, ◌∙◌}
use lib.ListN.{length, get_or, set, get_or-eq_default, get_or-map}
use lib.Seq.{get_or-set_same, get_or-set_other}
use borrow.Author.Tests.{le-ltb, ltb-false}
use Rattle.octets.specs.Index.{◌and◌}
use Rattle.octets.specs.Choice.{same}
use Rattle.octets.proofs.Index.{and_left, and_right, and_both, first_holds, first_before, first_absent, first_hit}
use Rattle.octets.proofs.Choice.{same_eq, eq_same}
use Rattle.numbers.specs.Numbers.{live}
use Rattle.rules.specs.Relay.{Slot, empty, used, holds, lowest}
use Rattle.rules.specs.Renumbering.{rename_slot}
use Rattle.rules.proofs.Slots.{used_same, used_not_empty, written, renamed, renamed_at}

module _ {A : Type 0} (key : A → List ℕ) (expiry : A → ℕ) (n : ℕ) where
  -- the live records of a key at a clock
  abbrev pub live_of : ℕ → List ℕ → A → Bool
  live_of clock k x = same (key x) k and live clock (expiry x)

  -- x stands at a place, and no record of its key below it is live at `now`
  pub record Lowest (now : ℕ) (slots : List (Slot A)) (i : ℕ) (x : A) : Type 0 where
    pub here : get_or slots i empty ≡ used x
    pub inside : i < n
    pub below : (j : ℕ) (y : A) → j < i → get_or slots j empty ≡ used y → key y ≡ key x → live now (expiry y) ≡ false

  dead_later : (now clock : ℕ) → now ≤ clock → (y : A) → live now (expiry y) ≡ false → live clock (expiry y) ≡ false
  dead_later now clock l y h = le-ltb clock (expiry y) (omega (arith, ltb-false now (expiry y) h))

  pub lowest_later : (now clock : ℕ) → now ≤ clock → (slots : List (Slot A)) (i : ℕ) (x : A) → Lowest now slots i x → Lowest clock slots i x
  lowest_later now clock l slots i x f =
      record { here = f.here; inside = f.inside; below = λ j y m e k. dead_later now clock l y (f.below j y m e k) }

  -- .. so it is found while it lives
  pub lowest_place : (now : ℕ) (slots : List (Slot A)) (i : ℕ) (x : A) → Lowest now slots i x → live now (expiry x) ≡ true
      → lowest (live_of now (key x)) n slots ≡ i
  unfolding lowest holds
  lowest_place now slots i x f lives =
      first_hit _ i n (first_absent _ i (λ j l. none j l (get_or slots j empty) refl))
      (ap (holds (live_of now (key x))) f.here ∙ and_both (eq_same (key x) (key x) refl) lives) f.inside
    where
      none : (j : ℕ) → j < i → (s : Slot A) → get_or slots j empty ≡ s → holds (live_of now (key x)) (get_or slots j empty) ≡ false
      none j l empty e = ap (holds (live_of now (key x))) e
      none j l (used y) e = ap (holds (live_of now (key x))) e ∙ go (live_of now (key x) y) refl
        where
          go : (b : Bool) → live_of now (key x) y ≡ b → live_of now (key x) y ≡ false
          go true h = absurd (false≢true (sym (f.below j y l e (same_eq (key y) (key x) (and_left _ _ h))) ∙ and_right _ _ h))
          go false h = h

  pub lowest_found : (now : ℕ) (slots : List (Slot A)) (i : ℕ) (x : A) → Lowest now slots i x → live now (expiry x) ≡ true
      → get_or slots (lowest (live_of now (key x)) n slots) empty ≡ used x
  lowest_found now slots i x f lives = ap (λ (k : ℕ). get_or slots k empty) (lowest_place now slots i x f lives) ∙ f.here

  -- what is found is the lowest, has the key, and lives
  pub found_lowest : (now : ℕ) (slots : List (Slot A)) → length slots ≡ n → (k : List ℕ) (x : A)
      → get_or slots (lowest (live_of now k) n slots) empty ≡ used x
      → (key x ≡ k) × (live now (expiry x) ≡ true) × Lowest now slots (lowest (live_of now k) n slots) x
  unfolding lowest holds
  found_lowest now slots size k x e = go (dec_lt (lowest (live_of now k) n slots) n)
    where
      go : Dec (lowest (live_of now k) n slots < n)
          → (key x ≡ k) × (live now (expiry x) ≡ true) × Lowest now slots (lowest (live_of now k) n slots) x
      go (no l) = absurd (used_not_empty (sym (get_or-eq_default slots empty {n = lowest (live_of now k) n slots} (omega arith)) ∙ e))
      go (yes l) =
          let passes : live_of now k x ≡ true = sym (ap (holds (live_of now k)) e) ∙ first_holds _ n l in
          let is : key x ≡ k = same_eq (key x) k (and_left _ _ passes) in (
            is,
            and_right _ _ passes,
            record { here = e; inside = l; below = λ j y m there q. dead j y m there (q ∙ is) (live now (expiry y)) refl },
          )
        where
          dead : (j : ℕ) (y : A) → j < lowest (live_of now k) n slots → get_or slots j empty ≡ used y → key y ≡ k
              → (b : Bool) → live now (expiry y) ≡ b → live now (expiry y) ≡ false
          dead j y m there q true h =
              absurd (false≢true (sym (first_before _ n j m) ∙ ap (holds (live_of now k)) there ∙ and_both (eq_same (key y) k q) h))
          dead j y m there q false h = h

  -- ---- writes
  -- a record of another key is written elsewhere
  pub lowest_other : (now : ℕ) (slots : List (Slot A)) → length slots ≡ n → (i : ℕ) (x : A) → Lowest now slots i x
      → (j : ℕ) (y : A) → (j ≡ i → ⊥) → (key y ≡ key x → ⊥) → Lowest now (set slots j (used y)) i x
  lowest_other now slots size i x f j y other differs =
      record {
        here = get_or-set_other slots j i (used y) empty (λ e. other (sym e)) ∙ f.here;
        inside = f.inside;
        below = λ k z m e q. still k z m e q (ℕ_discrete k j);
      }
    where
      still : (k : ℕ) (z : A) → k < i → get_or (set slots j (used y)) k empty ≡ used z → key z ≡ key x → Dec (k ≡ j)
          → live now (expiry z) ≡ false
      still k z m e q (yes p) =
          let l : j < length slots = omega (arith, size, p, f.inside) in
          let there : get_or (set slots j (used y)) j empty ≡ used z = ap (λ (h : ℕ). get_or (set slots j (used y)) h empty) (sym p) ∙ e in
          let written : used y ≡ used z = sym (get_or-set_same slots j (used y) empty l) ∙ there in
          absurd (differs (ap key (used_same written) ∙ q))
      still k z m e q (no p) = f.below k z m (sym (get_or-set_other slots j k (used y) empty p) ∙ e) q

  -- a record of its key takes its place
  pub lowest_renewed : (now : ℕ) (slots : List (Slot A)) → length slots ≡ n → (i : ℕ) (x : A) → Lowest now slots i x
      → (y : A) → key y ≡ key x → Lowest now (set slots i (used y)) i y
  lowest_renewed now slots size i x f y q =
      record {
        here = get_or-set_same slots i (used y) empty (omega (arith, size, f.inside));
        inside = f.inside;
        below = λ k z m e p. f.below k z m (sym (get_or-set_other slots i k (used y) empty (omega arith)) ∙ e) (p ∙ q);
      }

  -- each record stood there before, with the same key and expiry
  lowest_from : (now : ℕ) (old new : List (Slot A)) (i : ℕ) (x y : A) → Lowest now old i x → get_or new i empty ≡ used y → key y ≡ key x
      → ((j : ℕ) (z : A) → get_or new j empty ≡ used z → (w : A) × (get_or old j empty ≡ used w) × (key z ≡ key w) × (expiry z ≡ expiry w))
      → Lowest now new i y
  lowest_from now old new i x y f there q from =
      record {
        here = there;
        inside = f.inside;
        below = λ j z m e k.
            let (w, o, kw, ew) = from j z e in
            ap (live now) ew ∙ f.below j w m o (sym kw ∙ k ∙ q);
      }

  module _ (change : A → A) (keyed : (y : A) → key (change y) ≡ key y) (expires : (y : A) → expiry (change y) ≡ expiry y) where
    -- all records are changed
    pub lowest_mapped : (now : ℕ) (slots : List (Slot A)) (i : ℕ) (x : A) → Lowest now slots i x → Lowest now (map (rename_slot change) slots) i (change x)
    unfolding rename_slot
    lowest_mapped now slots i x f =
        lowest_from now slots (map (rename_slot change) slots) i x (change x) f
        (get_or-map (rename_slot change) slots i empty ∙ ap (rename_slot change) f.here) (keyed x)
        (λ j z e.
        let (y, o, q) = renamed_at change slots j z e in
        (y, o, ap key (sym q) ∙ keyed y, ap expiry (sym q) ∙ expires y))

    -- one is changed where it stands: itself, or another
    pub lowest_changed : (So : A → Type 0) → ((y : A) → So y → So (change y)) → (now : ℕ) (slots : List (Slot A)) → length slots ≡ n
        → (i : ℕ) (x : A) → Lowest now slots i x → So x → (j : ℕ)
        → (y : A) × Lowest now (set slots j (rename_slot change (get_or slots j empty))) i y × (key y ≡ key x) × (expiry y ≡ expiry x) × So y
    unfolding rename_slot
    lowest_changed So keeps now slots size i x f so j = go (ℕ_discrete i j)
      where
        new : List (Slot A)
        new = set slots j (rename_slot change (get_or slots j empty))

        from : (k : ℕ) (z : A) → get_or new k empty ≡ used z → (w : A) × (get_or slots k empty ≡ used w) × (key z ≡ key w) × (expiry z ≡ expiry w)
        from k z e =
            written slots j _ k z e
            (λ p q.
            let (y, o, r) = renamed change (get_or slots j empty) z q in
            (y, ap (λ (h : ℕ). get_or slots h empty) p ∙ o, ap key (sym r) ∙ keyed y, ap expiry (sym r) ∙ expires y))
            (λ _ o. (z, o, refl, refl))

        go : Dec (i ≡ j) → (y : A) × Lowest now new i y × (key y ≡ key x) × (expiry y ≡ expiry x) × So y
        go (yes p) =
            let l : j < length slots = omega (arith, size, p, f.inside) in
            let there : get_or new i empty ≡ used (change x) =
            ap (λ (h : ℕ). get_or new h empty) p
            ∙ get_or-set_same slots j _ empty l
            ∙ ap (rename_slot change) (ap (λ (h : ℕ). get_or slots h empty) (sym p) ∙ f.here) in
            (change x, lowest_from now slots new i x (change x) f there (keyed x) from, keyed x, expires x, keeps x so)
        go (no p) = (x, lowest_from now slots new i x x f (get_or-set_other slots j i _ empty p ∙ f.here) refl from, refl, refl, so)
