-- Whatever tables of the right size hold, their own address and each path's next hop are sixteen bytes long.
use Prim.Native.Nat.{ℕ, ◌+◌, ◌*◌}
use native.Mathlib.Omega.{arith}
use mathlib.Core.Bool.{true}
use mathlib.Core.List.{List}
use mathlib.Core.Path.{◌≡◌, refl}
use lib.Dec.{eqb}
use lib.ListN.{length, get_or}
use borrow.Author.Tests.{eq-eqb}
use Rattle.octets.proofs.Index.{and_both}
use Rattle.octets.proofs.Part.{part_length}
use Rattle.codes.specs.Form.{slot, code}
use Rattle.numbers.specs.Numbers.{path_count}
use Rattle.rules.specs.Relay.{Slot, Path}
use Rattle.rules.specs.Refusals.{slot_ok}
use Rattle.rules.specs.Lengths.{is_address, by_address, addressed}
use Rattle.rules.proofs.Choices.{either}
use Rattle.rules.proofs.Tables.{all_list_of}
use Rattle.tables.specs.Forms.{path_form}
use Rattle.tables.specs.Places.{address_width, own_at, paths_at, path_width}
use Rattle.tables.specs.Fields.{path_next_hop_at}
use Rattle.tables.specs.Layout.{record_at, relay_of, well_formed}
use Rattle.tables.proofs.Whole.{formed}

slot_addressed : (b : List ℕ) → length b ≡ path_width → slot_ok by_address ((code (slot path_form)).read b 0) ≡ true
unfolding slot_ok by_address is_address
slot_addressed b wide =
    either (λ (s : Slot Path). slot_ok by_address s ≡ true) (eqb (get_or b 0 0) 0) (λ _. refl)
    (λ _. eq-eqb _ address_width (part_length b path_next_hop_at address_width (omega (arith, wide))))

pub addressed_of : (t : List ℕ) → well_formed t ≡ true → addressed (relay_of t) ≡ true
unfolding relay_of addressed is_address
addressed_of t h =
    let size = (formed t h).size in
    and_both (eq-eqb _ address_width (part_length t own_at address_width (omega (arith, size))))
    (all_list_of (slot_ok by_address) (λ i. (code (slot path_form)).read (record_at paths_at path_width t i) 0) path_count
    (λ i l. slot_addressed (record_at paths_at path_width t i) (part_length t (paths_at + path_width * i) path_width (omega (arith, size, l)))))
