-- Where each section of the tables stands, and how wide its records are, as the layout has it.
use Rattle.std.specs.Prelude.{◌≡◌, refl, ℕ, ◌+◌, ◌*◌}
use Rattle.codes.specs.Form.{slot, code, place_of}
use Rattle.numbers.specs.Numbers.{path_count, blob_limit, return_count, hash_count}
use Rattle.tables.specs.Forms.{port_form, local_form, path_form, link_form, return_form, hash_form, ring_form, back_form, relay_form}
use Rattle.tables.specs.Fields.{path_places_at}
pub use Rattle.tables.specs.Forms.{address_width, digest_width, time_width, blob_width, ring_width, setting_width, size_width}

-- ---- widths, in bytes. A record's first byte is its mark
abbrev pub port_width : ℕ
port_width = (code port_form).width

abbrev pub local_width : ℕ
local_width = (code (slot local_form)).width

abbrev pub path_width : ℕ
path_width = (code (slot path_form)).width

abbrev pub link_width : ℕ
link_width = (code (slot link_form)).width

abbrev pub return_width : ℕ
return_width = (code (slot return_form)).width

abbrev pub hash_width : ℕ
hash_width = (code (slot hash_form)).width

-- ---- sections
abbrev pub own_at : ℕ
own_at = place_of relay_form "own"

abbrev pub clock_at : ℕ
clock_at = place_of relay_form "clock"

abbrev pub rate_at : ℕ
rate_at = place_of relay_form "rate"

abbrev pub ports_at : ℕ
ports_at = place_of relay_form "ports"

abbrev pub locals_at : ℕ
locals_at = place_of relay_form "locals"

abbrev pub paths_at : ℕ
paths_at = place_of relay_form "paths"

abbrev pub links_at : ℕ
links_at = place_of relay_form "links"

-- the returns' ring place stands before its records, and the hashes' too
abbrev pub return_next_at : ℕ
return_next_at = place_of relay_form "returns"

abbrev pub returns_at : ℕ
returns_at = return_next_at + place_of (ring_form return_count return_form) "slots"

abbrev pub hash_next_at : ℕ
hash_next_at = place_of relay_form "hashes"

abbrev pub hashes_at : ℕ
hashes_at = hash_next_at + place_of (ring_form hash_count hash_form) "slots"

-- all behind the paths: links, returns and hashes
abbrev pub back_width : ℕ
back_width = (code back_form).width

abbrev pub table_size : ℕ
table_size = (code relay_form).width

-- by the limit on blobs. What this is in bytes stands with the editions: `edition5_tables`, crates/editions/specs/Editions.antt
table_size_lem : table_size ≡ paths_at + (path_places_at + blob_width * blob_limit) * path_count + back_width
table_size_lem = refl
