-- What is told of a record is part of its bytes.
use Rattle.std.specs.Prelude.{Option, Some, None, Ok}
use Prim.Native.Nat.{ℕ, ◌≤◌}
use native.Mathlib.Omega.{arith}
use mathlib.Core.Bool.{Bool, true, false}
use mathlib.Core.List.{List}
use mathlib.Core.Path.{◌≡◌, refl, sym, ap, ◌∙◌}
use lib.Dec.{eqb}
use lib.ListN.{length, get_or}
use borrow.Author.Tests.{ne_eqb}
use Rattle.octets.specs.Bytes.{Bytes}
use Rattle.octets.specs.Choice.{◌then◌otherwise◌}
use Rattle.octets.specs.Index.{◌and◌}
use Rattle.octets.specs.Part.{part}
use Rattle.octets.proofs.Part.{part_part, part_whole}
use Rattle.codes.specs.Form.{code}
use Rattle.codes.proofs.Forms.{lawful}
use Rattle.rules.specs.Questions.{Told, a_port, a_rate, an_address, a_path, a_link, told_of}
use Rattle.rules.specs.Refusals.{rate_settings_ok}
use Rattle.tables.specs.Forms.{rate_settings_form, port_form, path_form, link_form}
use Rattle.tables.specs.Layout.{rate_settings_in}
use Rattle.tables.specs.Places.{rate_at, ports_at, port_width, path_width, link_width, address_width}
use Rattle.tables.specs.Records.{slot_of, port_of, local_of, path_of, link_of, port_bytes_ok, path_bytes_ok, link_bytes_ok}
use Rattle.tables.specs.Asked.{told_path_width, told_number, told_bytes, Tells}
use Rattle.tables.proofs.Tests.{used_fine}
use Rattle.lookup.specs.Search.{is_used}
use Rattle.status.specs.Put.{asked_number, asked_or, TellsSome, record_told}

module _ (b : List ℕ) (bytes : Bytes b) where
  pub port_bytes_lem : length b ≡ port_width → port_bytes_ok b ≡ true → (old : List ℕ) → told_bytes (a_port (port_of b)) old ≡ b
  unfolding told_bytes port_of port_bytes_ok
  port_bytes_lem wide fine old = (lawful port_form).again b 0 bytes (omega (arith, wide)) fine ∙ part_whole b port_width wide

  pub rate_bytes_lem : ports_at ≤ length b → rate_settings_ok (rate_settings_in b) ≡ true → (old : List ℕ)
      → told_bytes (a_rate (rate_settings_in b)) old ≡ part b rate_at (code rate_settings_form).width
  unfolding told_bytes rate_settings_in ◌and◌
  rate_bytes_lem long fine old = (lawful rate_settings_form).again b rate_at bytes (omega arith) fine

  module _ (q : eqb (get_or b 0 0) 0 ≡ false) where
    pub path_bytes_lem : length b ≡ path_width → path_bytes_ok b ≡ true → (old : List ℕ) → told_bytes (a_path (path_of b)) old ≡ part b 1 told_path_width
    unfolding told_bytes path_of path_bytes_ok
    path_bytes_lem wide fine old =
        ap (λ (x : List ℕ). part x 0 told_path_width) ((lawful path_form).again b 1 bytes (omega (arith, wide)) (used_fine path_form b q fine))
        ∙ part_part b 1 (code path_form).width 0 told_path_width (omega arith)

    pub link_bytes_lem : length b ≡ link_width → link_bytes_ok b ≡ true → (old : List ℕ) → told_bytes (a_link (link_of b)) old ≡ part b 1 (code link_form).width
    unfolding told_bytes link_of link_bytes_ok
    link_bytes_lem wide fine old = (lawful link_form).again b 1 bytes (omega (arith, wide)) (used_fine link_form b q fine)

pub local_bytes_lem : (b old : List ℕ) → told_bytes (an_address (local_of b)) old ≡ part b 1 address_width
unfolding told_bytes local_of
local_bytes_lem b old = refl

-- ---- a slot: none, or what its bytes behind the mark say
pub slot_told : {A : Type 0} (tells : A → Told) (read : List ℕ → A) (b : List ℕ) (n : ℕ) → told_number (tells (read b)) ≡ 0
    → (eqb (get_or b 0 0) 0 ≡ false → (old : List ℕ) → told_bytes (tells (read b)) old ≡ part b 1 n)
    → TellsSome (told_of tells (slot_of read b)) (Ok (record_told n b))
unfolding told_of slot_of told_number told_bytes record_told is_used ◌then◌otherwise◌
slot_told tells read b n told law old = go (eqb (get_or b 0 0) 0) refl
  where
    go : (m : Bool) → eqb (get_or b 0 0) 0 ≡ m
        → Tells (told_of tells (slot_of read b)) old (asked_number (Ok (record_told n b))) (asked_or (Ok (record_told n b)) old)
    go true e = rw e (refl, refl)
    go false e = rw e (sym told, sym (law e old))

-- ---- the record b is read: it is empty, or its bytes behind the mark are copied
module _ (n : ℕ) (b r : List ℕ) (e : r ≡ b) where
  pub none_told : get_or r 0 0 ≡ 0 → ◌≡◌ {A = Option (List ℕ)} None (record_told n b)
  unfolding record_told is_used ◌then◌otherwise◌
  none_told z = rw (← e, z) refl

  pub some_told : (get_or r 0 0 ≡ 0 → ⊥) → (told : List ℕ) → told ≡ part r 1 n → Some told ≡ record_told n b
  unfolding record_told is_used ◌then◌otherwise◌
  some_told z told q = rw (← e, ne_eqb (get_or r 0 0) 0 z) (ap Some q)
