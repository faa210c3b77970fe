-- A fresh relay, whose own address is sixteen bytes, is what tables can hold.
use mathlib.Core.Bool.{true}
use mathlib.Core.List.{List}
use mathlib.Core.Path.{◌≡◌, refl}
use Prim.Native.Nat.{ℕ}
use Rattle.octets.proofs.Index.{and_both}
use Rattle.numbers.specs.Numbers.{local_count, path_count, link_count, return_count, hash_count}
use Rattle.rules.specs.Relay.{empty, fresh}
use Rattle.rules.specs.Refusals.{slot_ok}
use Rattle.rules.proofs.Tables.{all_replicate}
use Rattle.tables.specs.Places.{address_width}
use Rattle.tables.specs.Shape.{is_bytes, path_shaped, link_shaped, return_shaped, hash_shaped, shaped}

pub fresh_shaped : (own : List ℕ) → is_bytes address_width own ≡ true → shaped (fresh own) ≡ true
unfolding shaped fresh slot_ok
fresh_shaped own h =
    and_both h
    (and_both (all_replicate (slot_ok (is_bytes address_width)) local_count empty refl)
    (and_both (all_replicate (slot_ok path_shaped) path_count empty refl)
    (and_both (all_replicate (slot_ok link_shaped) link_count empty refl)
    (and_both (all_replicate (slot_ok return_shaped) return_count empty refl)
    (all_replicate (slot_ok hash_shaped) hash_count empty refl)))))
