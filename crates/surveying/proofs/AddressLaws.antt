-- Local addresses: whether one is there, and what adding those of another relay to an empty table leaves.
use Rattle.std.proofs.Common.{◌≡◌, ℕ, zero, suc, ◌-◌, ◌<◌, ◌≤◌, Bool, true, false, not, ltb, List, [], ◌∷◌, ◌++◌, map, length, get_or, set, replicate, sym, refl, ap, ◌∙◌, ap₂, append_assoc, arith, length-append, ltb-false, le-ltb}
use mathlib.Core.Bool.{false≢true}
use mathlib.Core.List.{map-append}
use lib.ListN.{length-replicate}
use lib.Seq.{set_at}
use borrow.Author.Tests.{lt-leb}
use Rattle.octets.specs.Index.{first}
use Rattle.octets.specs.Choice.{◌then◌otherwise◌, ◌or◌, same}
use Rattle.octets.specs.Listed.{first_of}
use Rattle.octets.proofs.Choice.{or_else, or_false, or_no_left, or_no_right}
use Rattle.octets.proofs.Index.{first_hit, first_before, first_absent}
use Rattle.numbers.specs.Numbers.{local_count}
use Rattle.rules.specs.Relay.{Slot, empty, used, Relay, with_locals, holds, lowest, free, lowest_free}
use Rattle.rules.specs.View.{is_local, local_place}
use Rattle.rules.specs.Refusals.{tables_ok, empty_local}
use Rattle.rules.specs.Calls.{adds, rule_of, table_refusal, settled, settle}

-- ---- whether one of the slots passes
unfoldable pub any : (Slot (List ℕ) → Bool) → List (Slot (List ℕ)) → Bool
any p [] = false
any p (s ∷ slots) = p s or any p slots

any_there : (p : Slot (List ℕ) → Bool) (slots : List (Slot (List ℕ))) → any p slots ≡ true
    → (i : ℕ) × (i < length slots) × (p (get_or slots i empty) ≡ true)
unfolding any
any_there p [] e = absurd (false≢true e)
any_there p (s ∷ slots) e = go (any_there p slots) (p s) refl
  where
    go : (any p slots ≡ true → (i : ℕ) × (i < length slots) × (p (get_or slots i empty) ≡ true)) → (b : Bool) → p s ≡ b
        → (i : ℕ) × (i < suc (length slots)) × (p (get_or (s ∷ slots) i empty) ≡ true)
    go later true q = (0, omega arith, q)
    go later false q =
        let found = later (sym (or_else (any p slots) q) ∙ e) in
        (suc found.0, omega (arith, found.1), found.2)

any_absent : (p : Slot (List ℕ) → Bool) → p empty ≡ false → (slots : List (Slot (List ℕ))) → any p slots ≡ false
    → (i : ℕ) → p (get_or slots i empty) ≡ false
unfolding any
any_absent p none [] e i = none
any_absent p none (s ∷ slots) e zero = or_no_left (p s) (any p slots) e
any_absent p none (s ∷ slots) e (suc i) = any_absent p none slots (or_no_right (p s) (any p slots) e) i

-- it is what a search through all places finds
first_any : (p : Slot (List ℕ) → Bool) → p empty ≡ false → (slots : List (Slot (List ℕ))) (n : ℕ) → length slots ≡ n
    → ltb (first (λ i. p (get_or slots i empty)) n) n ≡ any p slots
first_any p none slots n long = go (any p slots) refl
  where
    q : ℕ → Bool
    q = λ i. p (get_or slots i empty)

    found : (i : ℕ) → i < n → q i ≡ true → (b : Bool) → ltb (first q n) n ≡ b → ltb (first q n) n ≡ true
    found i l h true e = e
    found i l h false e = absurd (false≢true (sym (first_before q n i (omega (arith, ltb-false (first q n) n e, l))) ∙ h))

    go : (b : Bool) → any p slots ≡ b → ltb (first q n) n ≡ any p slots
    go true e =
        let there = any_there p slots e in
        found there.0 (omega (arith, there.1, long)) there.2 (ltb (first q n) n) refl ∙ sym e
    go false e =
        let absent : first q n ≡ n = first_absent q n (λ j _. any_absent p none slots e j) in
        le-ltb (first q n) n (omega (arith, absent)) ∙ sym e

pub local_any : (r : Relay) → length r.locals ≡ local_count → (a : List ℕ) → is_local r a ≡ any (holds (same a)) r.locals
unfolding is_local local_place lowest holds
local_any r long a = first_any (holds (same a)) refl r.locals local_count long

-- ---- or
pub or_assoc : (a b c : Bool) → ((a or b) or c) ≡ (a or (b or c))
unfolding ◌or◌
or_assoc true b c = refl
or_assoc false b c = refl

pub any_append : (p : Slot (List ℕ) → Bool) (xs ys : List (Slot (List ℕ))) → any p (xs ++ ys) ≡ (any p xs or any p ys)
unfolding any ◌or◌
any_append p [] ys = refl
any_append p (x ∷ xs) ys = ap (λ (b : Bool). p x or b) (any_append p xs ys) ∙ sym (or_assoc (p x) (any p xs) (any p ys))

any_empty : (p : Slot (List ℕ) → Bool) → p empty ≡ false → (n : ℕ) → any p (replicate n empty) ≡ false
unfolding any
any_empty p none zero = refl
any_empty p none (suc n) = or_else (any p (replicate n empty)) none ∙ any_empty p none n

-- ---- a table whose first places are used
unfoldable pub packed : List (List ℕ) → List (Slot (List ℕ))
packed d = map used d ++ replicate (local_count - length d) empty

map_length : (d : List (List ℕ)) → length (map {B = Slot (List ℕ)} used d) ≡ length d
map_length [] = refl
map_length (x ∷ d) = ap suc (map_length d)

pub packed_length : (d : List (List ℕ)) → length d ≤ local_count → length (packed d) ≡ local_count
unfolding packed
packed_length d l =
    let rest : ℕ = local_count - length d in
    omega (arith, length-append (map used d) (replicate rest empty), map_length d, length-replicate {A = Slot (List ℕ)} rest empty)

pub packed_any : (a : List ℕ) (d : List (List ℕ)) → any (holds (same a)) (packed d) ≡ any (holds (same a)) (map used d)
unfolding packed holds
packed_any a d =
    any_append (holds (same a)) (map used d) (replicate (local_count - length d) empty)
    ∙ ap (λ (b : Bool). any (holds (same a)) (map used d) or b) (any_empty (holds (same a)) refl (local_count - length d))
    ∙ or_false _

packed_used : (d : List (List ℕ)) (ys : List (Slot (List ℕ))) (j : ℕ) → j < length d → get_or (map used d ++ ys) j empty ≡ used (get_or d j [])
packed_used [] ys j l = absurd (omega (arith, l))
packed_used (x ∷ d) ys zero l = refl
packed_used (x ∷ d) ys (suc j) l = packed_used d ys j (omega (arith, l))

packed_next : (d : List (List ℕ)) (ys : List (Slot (List ℕ))) → get_or (map used d ++ ys) (length d) empty ≡ get_or ys 0 empty
packed_next [] ys = refl
packed_next (x ∷ d) ys = packed_next d ys

no_slot : (n : ℕ) → get_or (replicate {A = Slot (List ℕ)} n empty) 0 empty ≡ empty
no_slot zero = refl
no_slot (suc n) = refl

packed_set : (d : List (List ℕ)) (x : List ℕ) → length d < local_count → set (packed d) (length d) (used x) ≡ packed (d ++ (x ∷ []))
unfolding packed
packed_set d x l =
    let rest : ℕ = local_count - length (d ++ (x ∷ [])) in
    let one : local_count - length d ≡ suc rest = omega (arith, length-append d (x ∷ [])) in
    ap (λ (n : ℕ). set (map used d ++ replicate n empty) (length d) (used x)) one
    ∙ set_at (map used d) empty (replicate rest empty) (used x) (length d) (map_length d)
    ∙ sym (append_assoc (map used d) (used x ∷ []) (replicate rest empty))
    ∙ ap (λ (s : List (Slot (List ℕ))). s ++ replicate rest empty) (sym (map-append used d (x ∷ [])))

-- ---- adding an address
module _ (s : Relay) (ok : tables_ok s ≡ true) (x : List ℕ) where
  pub known_address : is_local s x ≡ true → (settle (adds x) s).relay ≡ s
  unfolding settle settled table_refusal rule_of first_of ◌then◌otherwise◌
  known_address e = rw (ok, e)

  module _ (d : List (List ℕ)) (is : s.locals ≡ packed d) (l : length d < local_count) where
    next_place : empty_local s ≡ length d
    unfolding empty_local lowest_free free holds packed
    next_place =
        let q : ℕ → Bool = λ i. not (holds (λ a. true) (get_or s.locals i empty)) in
        let at : (i : ℕ) → get_or s.locals i empty ≡ get_or (map used d ++ replicate (local_count - length d) empty) i empty =
        λ i. ap (λ (slots : List (Slot (List ℕ))). get_or slots i empty) is in
        let before : (j : ℕ) → j < length d → q j ≡ false =
        λ j m. ap (λ (v : Slot (List ℕ)). not (holds (λ a. true) v)) (at j ∙ packed_used d _ j m) in
        let here : q (length d) ≡ true =
        ap (λ (v : Slot (List ℕ)). not (holds (λ a. true) v)) (at (length d) ∙ packed_next d _ ∙ no_slot (local_count - length d)) in
        first_hit q (length d) local_count (first_absent q (length d) before) here l

    pub new_address : is_local s x ≡ false → (settle (adds x) s).relay ≡ with_locals (packed (d ++ (x ∷ []))) s
    unfolding settle settled table_refusal rule_of first_of ◌then◌otherwise◌
    new_address e =
        let room = lt-leb local_count (empty_local s) (omega (arith, next_place)) in
        rw (ok, e, room)
        (ap (λ (slots : List (Slot (List ℕ))). with_locals slots s)
        (ap₂ (λ (v : List (Slot (List ℕ))) (k : ℕ). set v k (used x)) is next_place ∙ packed_set d x l))
