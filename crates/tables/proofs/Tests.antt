-- Row 7 of one record, as the code tests it and as others read it.
use Prim.Native.Nat.{ℕ, ◌<◌}
use native.Mathlib.Nat.{zero-add}
use native.Mathlib.Omega.{arith}
use mathlib.Core.Bool.{Bool, true, false}
use mathlib.Core.List.{List}
use mathlib.Core.Path.{◌≡◌, refl, sym, ap, ◌∙◌}
use lib.Dec.{eqb, ltb}
use lib.Bits.{bit_or}
use lib.ListN.{get_or}
use borrow.Author.Tests.{ne_eqb}
use Rattle.octets.specs.Index.{◌and◌, zeros}
use Rattle.octets.specs.Choice.{◌then◌otherwise◌}
use Rattle.octets.specs.Part.{part}
use Rattle.octets.proofs.Index.{and_right, and_assoc, all_at, all_fails, all_cong}
use Rattle.octets.proofs.Agree.{or_ltb}
use Rattle.octets.proofs.Part.{part_at}
use Rattle.codes.specs.Form.{Form, slot, code}
use Rattle.codes.proofs.Many.{all_true}
use Rattle.numbers.specs.Numbers.{port_count, blob_limit}
use Rattle.notes.specs.Notes.{notes_form}
use Rattle.rules.specs.Refusals.{port_ok, path_ok, link_ok, return_ok, hash_ok}
use Rattle.tables.specs.Forms.{local_form, path_form, link_form, return_form, hash_form}
use Rattle.tables.specs.Places.{local_width, path_width, link_width, return_width, hash_width}
use Rattle.tables.specs.Fields.{path_notes_at, link_proved_at}
use Rattle.tables.specs.Records.{port_of, port_bytes_ok, local_bytes_ok, path_of, path_bytes_ok, link_of, link_bytes_ok, return_of, return_bytes_ok, hash_of, hash_bytes_ok}

-- an unused record is zeros; `ok` are row 7's clauses on a used record's bytes
unfoldable pub slot_bytes_ok : ℕ → (List ℕ → Bool) → List ℕ → Bool
slot_bytes_ok width ok b =
    eqb (get_or b 0 0) 0 then zeros width b otherwise
    eqb (get_or b 0 0) 1 and ok b

module _ (width : ℕ) (ok : List ℕ → Bool) (b : List ℕ) where
  -- what is not marked as used keeps row 7 where all of it is zeros, the mark too
  pub slot_unused : 0 < width → (get_or b 0 0 ≡ 1 → ⊥) → slot_bytes_ok width ok b ≡ zeros width b
  unfolding slot_bytes_ok ◌then◌otherwise◌ ◌and◌ zeros
  slot_unused l ne = go (eqb (get_or b 0 0) 0) refl
    where
      go : (m : Bool) → eqb (get_or b 0 0) 0 ≡ m → slot_bytes_ok width ok b ≡ zeros width b
      go true q = rw q
      go false q = rw (q, ne_eqb (get_or b 0 0) 1 ne) (sym (all_fails (λ k. eqb (get_or b k 0) 0) 0 width l q))

  pub slot_used : get_or b 0 0 ≡ 1 → slot_bytes_ok width ok b ≡ ok b
  unfolding slot_bytes_ok ◌then◌otherwise◌ ◌and◌
  slot_used e = rw (ap (λ (m : ℕ). eqb m 0) e, ap (λ (m : ℕ). eqb m 1) e)

-- two ports tested by one comparison
pub two_ports : (a b : ℕ) (x : Bool) → (ltb a port_count and (ltb b port_count and x)) ≡ (ltb (bit_or a b) port_count and x)
two_ports a b x = sym (and_assoc (ltb a port_count) (ltb b port_count) x) ∙ ap (λ (v : Bool). v and x) (sym (or_ltb 4 a b))

zeros_lent : (n : ℕ) (b : List ℕ) → zeros n (part b 0 n) ≡ zeros n b
unfolding zeros
zeros_lent n b =
    all_cong _ _ n (λ i l. ap (λ (k : ℕ). eqb k 0) (part_at b 0 n i l ∙ ap (λ (k : ℕ). get_or b k 0) (zero-add i)))

module _ {A : Type 0} (f : Form A) (b : List ℕ) where
  slot_test : (ok : List ℕ → Bool) → (code f).fine b 1 ≡ ok b → (code (slot f)).fine b 0 ≡ slot_bytes_ok (code (slot f)).width ok b
  unfolding slot_bytes_ok
  slot_test ok e = λ i.
      eqb (get_or b 0 0) 0 then zeros_lent (code (slot f)).width b i otherwise
      eqb (get_or b 0 0) 1 and e i

  -- an unused record keeps row 7
  pub unused : zeros (code (slot f)).width b ≡ true → (code (slot f)).fine b 0 ≡ true
  unfolding zeros ◌then◌otherwise◌
  unused h =
      rw (all_at (λ k. eqb (get_or b k 0) 0) (code (slot f)).width 0 h (omega arith)) (zeros_lent (code (slot f)).width b ∙ h)

  -- a used one keeps its clauses
  pub used_fine : eqb (get_or b 0 0) 0 ≡ false → (code (slot f)).fine b 0 ≡ true → (code f).fine b 1 ≡ true
  unfolding ◌then◌otherwise◌
  used_fine q h = and_right _ _ (rw q at h)

-- ---- each record
module _ (b : List ℕ) where
  pub port_test : port_bytes_ok b ≡ (ltb (get_or b 0 0) 2 and port_ok (port_of b))
  unfolding port_bytes_ok port_of ◌and◌
  port_test = and_assoc (ltb (get_or b 0 0) 2) true _

  pub local_test : local_bytes_ok b ≡ slot_bytes_ok local_width (λ s. true) b
  unfolding local_bytes_ok
  local_test = slot_test local_form b (λ s. true) refl

  pub path_test : path_bytes_ok b ≡ slot_bytes_ok path_width (λ s. (code notes_form).fine s path_notes_at and path_ok (path_of s)) b
  unfolding path_bytes_ok path_of ◌and◌
  path_test = slot_test path_form b (λ s. (code notes_form).fine s path_notes_at and path_ok (path_of s))
      (rw (all_true blob_limit) (and_assoc ((code notes_form).fine b path_notes_at) true _))

  pub link_test : link_bytes_ok b ≡ slot_bytes_ok link_width (λ s. ltb (get_or s link_proved_at 0) 2 and link_ok (link_of s)) b
  unfolding link_bytes_ok link_of ◌and◌
  link_test = slot_test link_form b (λ s. ltb (get_or s link_proved_at 0) 2 and link_ok (link_of s))
      (and_assoc (ltb (get_or b link_proved_at 0) 2) true _)

  pub return_test : return_bytes_ok b ≡ slot_bytes_ok return_width (λ s. return_ok (return_of s)) b
  unfolding return_bytes_ok return_of ◌and◌
  return_test = slot_test return_form b (λ s. return_ok (return_of s)) refl

  pub hash_test : hash_bytes_ok b ≡ slot_bytes_ok hash_width (λ s. hash_ok (hash_of s)) b
  unfolding hash_bytes_ok hash_of ◌and◌
  hash_test = slot_test hash_form b (λ s. hash_ok (hash_of s)) refl

  module _ (q : eqb (get_or b 0 0) 0 ≡ false) where
    pub path_kept : path_bytes_ok b ≡ true → path_ok (path_of b) ≡ true
    unfolding path_bytes_ok path_of
    path_kept h = and_right _ _ (used_fine path_form b q h)

    pub link_kept : link_bytes_ok b ≡ true → link_ok (link_of b) ≡ true
    unfolding link_bytes_ok link_of
    link_kept h = and_right _ _ (used_fine link_form b q h)

    pub return_kept : return_bytes_ok b ≡ true → return_ok (return_of b) ≡ true
    unfolding return_bytes_ok return_of
    return_kept h = and_right _ _ (used_fine return_form b q h)
