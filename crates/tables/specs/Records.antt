-- One record of each kind as bytes: b is the slice of its bytes. A record's first byte is its mark: 0 unused, 1 used. An unused record is
-- all zeros. Each name is short for what the layout says.
-- For the contracts of helpers: not part of what a reader must believe.
use Rattle.std.specs.Prelude.{ℕ, Bool, List, eqb, get_or}
use Rattle.octets.specs.Choice.{◌then◌otherwise◌}
use Rattle.codes.specs.Form.{slot, code}
use Rattle.rules.specs.Relay.{Port, Slot, empty, used, Blobs, Path, Return, Remembered}
use Rattle.rules.specs.declared.Link.{Link}
use Rattle.tables.specs.Forms.{port_form, local_form, blobs_form, path_form, link_form, return_form, hash_form}
use Rattle.tables.specs.Fields.{path_blobs_at}
unfoldable pub use Rattle.codes.specs.Codes.{exactly, mark_of, slot_bytes}

-- ---- a port's settings: on, mode, size
unfoldable pub port_of : List ℕ → Port
port_of b = (code port_form).read b 0

unfoldable pub port_bytes : Port → List ℕ
port_bytes = (code port_form).write

unfoldable pub port_bytes_ok : List ℕ → Bool
port_bytes_ok b = (code port_form).fine b 0

-- ---- a slot of any table: unused, or a record
unfoldable pub slot_of : {A : Type 0} → (List ℕ → A) → List ℕ → Slot A
slot_of record_of b = eqb (get_or b 0 0) 0 then empty otherwise used (record_of b)

-- ---- a local address
unfoldable pub local_of : List ℕ → List ℕ
local_of b = (code local_form).read b 1

unfoldable pub local_bytes : List ℕ → List ℕ
local_bytes = (code local_form).write

unfoldable pub local_bytes_ok : List ℕ → Bool
local_bytes_ok b = (code (slot local_form)).fine b 0

-- ---- a path
unfoldable pub blobs_of : List ℕ → Blobs
blobs_of b = (code blobs_form).read b path_blobs_at

unfoldable pub blobs_bytes : Blobs → List ℕ
blobs_bytes = (code blobs_form).write

unfoldable pub path_of : List ℕ → Path
path_of b = (code path_form).read b 1

unfoldable pub path_bytes : Path → List ℕ
path_bytes = (code path_form).write

unfoldable pub path_bytes_ok : List ℕ → Bool
path_bytes_ok b = (code (slot path_form)).fine b 0

-- ---- a link
unfoldable pub link_of : List ℕ → Link
link_of b = (code link_form).read b 1

unfoldable pub link_bytes : Link → List ℕ
link_bytes = (code link_form).write

unfoldable pub link_bytes_ok : List ℕ → Bool
link_bytes_ok b = (code (slot link_form)).fine b 0

-- ---- a return record
unfoldable pub return_of : List ℕ → Return
return_of b = (code return_form).read b 1

unfoldable pub return_bytes : Return → List ℕ
return_bytes = (code return_form).write

unfoldable pub return_bytes_ok : List ℕ → Bool
return_bytes_ok b = (code (slot return_form)).fine b 0

-- ---- a remembered hash
unfoldable pub hash_of : List ℕ → Remembered
hash_of b = (code hash_form).read b 1

unfoldable pub hash_bytes : Remembered → List ℕ
hash_bytes = (code hash_form).write

unfoldable pub hash_bytes_ok : List ℕ → Bool
hash_bytes_ok b = (code (slot hash_form)).fine b 0
