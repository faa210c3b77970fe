-- A table whose records are renamed: one law for each way of looking through it or writing it, whatever the records are.
use Prim.Native.Nat.{ℕ}
use mathlib.Core.Bool.{Bool, not}
use mathlib.Core.List.{List, [], ◌∷◌, map}
use mathlib.Core.Path.{◌≡◌, refl, sym, ap, ap₂, ◌∙◌}
use lib.ListN.{get_or, set, get_or-map}
use Rattle.octets.specs.Choice.{◌then◌otherwise◌}
use Rattle.octets.proofs.Choice.{then_ap}
use Rattle.octets.proofs.Index.{first_cong}
use Rattle.octets.proofs.ListOf.{map_set}
use Rattle.rules.specs.Relay.{Slot, empty, used, holds, lowest, free, lowest_free}
use Rattle.rules.specs.Renumbering.{rename_slot}
use Rattle.rules.specs.Writes.{emptied_if}

module _ {A : Type 0} (rename : A → A) where
  pub slot_renamed : (slots : List (Slot A)) (i : ℕ) → get_or (map (rename_slot rename) slots) i empty ≡ rename_slot rename (get_or slots i empty)
  unfolding rename_slot
  slot_renamed slots i = get_or-map (rename_slot rename) slots i empty

  -- a renamed slot written at the same place
  pub set_renamed : (slots : List (Slot A)) (i j : ℕ) (new old : Slot A) → i ≡ j → new ≡ rename_slot rename old
      → set (map (rename_slot rename) slots) i new ≡ map (rename_slot rename) (set slots j old)
  set_renamed slots i j new old e h =
      ap₂ (set (map (rename_slot rename) slots)) e h ∙ sym (map_set (rename_slot rename) slots j old)

  -- a test that doesn't look at what is renamed
  module _ (test : A → Bool) (blind : (x : A) → test (rename x) ≡ test x) where
    holds_renamed : (slot : Slot A) → holds test (rename_slot rename slot) ≡ holds test slot
    unfolding holds rename_slot
    holds_renamed empty = refl
    holds_renamed (used x) = blind x

    pub holds_at : (slots : List (Slot A)) (i : ℕ) → holds test (get_or (map (rename_slot rename) slots) i empty) ≡ holds test (get_or slots i empty)
    holds_at slots i = ap (holds test) (slot_renamed slots i) ∙ holds_renamed (get_or slots i empty)

    pub lowest_renamed : (n : ℕ) (slots : List (Slot A)) → lowest test n (map (rename_slot rename) slots) ≡ lowest test n slots
    unfolding lowest
    lowest_renamed n slots = first_cong _ _ n (λ i l. holds_at slots i)

    pub lowest_free_renamed : (n : ℕ) (slots : List (Slot A)) → lowest_free test n (map (rename_slot rename) slots) ≡ lowest_free test n slots
    unfolding lowest_free free
    lowest_free_renamed n slots = first_cong _ _ n (λ i l. ap not (holds_at slots i))

    emptied_slot : (slot : Slot A) → emptied_if test (rename_slot rename slot) ≡ rename_slot rename (emptied_if test slot)
    unfolding emptied_if holds rename_slot ◌then◌otherwise◌
    emptied_slot empty = refl
    emptied_slot (used x) =
        ap (λ (b : Bool). b then empty otherwise used (rename x)) (blind x)
        ∙ sym (then_ap (rename_slot rename) (test x) empty (used x))

    pub emptied_renamed : (slots : List (Slot A))
        → map (emptied_if test) (map (rename_slot rename) slots) ≡ map (rename_slot rename) (map (emptied_if test) slots)
    emptied_renamed [] = refl
    emptied_renamed (slot ∷ slots) = ap₂ (λ (x : Slot A) (l : List (Slot A)). x ∷ l) (emptied_slot slot) (emptied_renamed slots)

-- renamed by one function, then by another
pub slots_twice : {A : Type 0} (one two both : A → A) → ((x : A) → two (one x) ≡ both x)
    → (slots : List (Slot A)) → map (rename_slot two) (map (rename_slot one) slots) ≡ map (rename_slot both) slots
unfolding rename_slot
slots_twice one two both h [] = refl
slots_twice one two both h (empty ∷ slots) = ap (λ (l : List (Slot _)). empty ∷ l) (slots_twice one two both h slots)
slots_twice one two both h (used x ∷ slots) = ap₂ (λ (y : _) (l : List (Slot _)). used y ∷ l) (h x) (slots_twice one two both h slots)
