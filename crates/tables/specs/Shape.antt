-- What any bytes of the tables' size hold, beside refusal 7: addresses, hashes and blobs of their widths, each element a byte, and notes that fit theirs.
-- A relay of this shape that breaks no clause of row 7 is exactly what the tables can hold.
use Rattle.std.specs.Prelude.{ℕ, Bool, List, ltb}
use Rattle.octets.specs.Index.{◌and◌}
use Rattle.numbers.specs.Numbers.{blob_limit}
-- from here too, for crates that may not name `notes`
unfoldable pub use Rattle.notes.specs.Notes.{notes_shaped}
use Rattle.rules.specs.Relay.{Path, Return, Remembered, Relay}
use Rattle.rules.specs.Refusals.{slot_ok, all, table_ok}
use Rattle.rules.specs.declared.Link.{Link}
use Rattle.tables.specs.Places.{address_width, digest_width, blob_width}

unfoldable pub is_byte : ℕ → Bool
is_byte x = ltb x 256

-- n bytes
unfoldable pub is_bytes : ℕ → List ℕ → Bool
is_bytes n xs = table_ok n is_byte xs

-- every blob place, the spare ones too
unfoldable pub path_shaped : Path → Bool
path_shaped p =
    is_bytes address_width p.destination
    and is_bytes address_width p.next_hop
    and table_ok blob_limit (is_bytes blob_width) p.blobs.places
    and notes_shaped p.notes

unfoldable pub link_shaped : Link → Bool
link_shaped l = is_bytes address_width l.id and is_byte l.taken.0 and is_byte l.remaining.0

unfoldable pub return_shaped : Return → Bool
return_shaped t = is_bytes address_width t.key

unfoldable pub hash_shaped : Remembered → Bool
hash_shaped m = is_bytes digest_width m.hash

unfoldable pub shaped : Relay → Bool
shaped r =
    is_bytes address_width r.own
    and all (slot_ok (is_bytes address_width)) r.locals
    and all (slot_ok path_shaped) r.paths
    and all (slot_ok link_shaped) r.links
    and all (slot_ok return_shaped) r.returns.slots
    and all (slot_ok hash_shaped) r.hashes.slots
