-- Where the fields that code reads or writes alone stand in their record. Its first byte is its mark; a port's is its on mark.
-- For the contracts of helpers: not part of what a reader must believe.
use Rattle.std.specs.Prelude.{ℕ, ◌+◌}
use Rattle.codes.specs.Form.{code, place_of}
use Rattle.tables.specs.Forms.{port_form, blobs_form, path_form, link_form, return_form, hash_form}

abbrev pub port_size_at : ℕ
port_size_at = place_of port_form "size"

abbrev pub path_port_at : ℕ
path_port_at = 1 + place_of path_form "port"

abbrev pub path_hops_at : ℕ
path_hops_at = 1 + place_of path_form "hops"

abbrev pub path_next_hop_at : ℕ
path_next_hop_at = 1 + place_of path_form "next hop"

abbrev pub path_expiry_at : ℕ
path_expiry_at = 1 + place_of path_form "expiry"

abbrev pub path_rate_at : ℕ
path_rate_at = 1 + place_of path_form "rate"

abbrev pub path_notes_at : ℕ
path_notes_at = 1 + place_of path_form "notes"

abbrev pub path_blobs_at : ℕ
path_blobs_at = 1 + place_of path_form "blobs"

-- a path's blobs: their count, then the places
abbrev pub blobs_width : ℕ
blobs_width = (code blobs_form).width

abbrev pub blob_places_at : ℕ
blob_places_at = place_of blobs_form "places"

-- the places in the path's record
abbrev pub path_places_at : ℕ
path_places_at = path_blobs_at + blob_places_at

abbrev pub link_asking_at : ℕ
link_asking_at = 1 + place_of link_form "asking"

abbrev pub link_answering_at : ℕ
link_answering_at = 1 + place_of link_form "answering"

abbrev pub link_proved_at : ℕ
link_proved_at = 1 + place_of link_form "proved"

abbrev pub link_expiry_at : ℕ
link_expiry_at = 1 + place_of link_form "expiry"

abbrev pub return_arrival_at : ℕ
return_arrival_at = 1 + place_of return_form "arrival"

abbrev pub return_leaving_at : ℕ
return_leaving_at = 1 + place_of return_form "leaving"

abbrev pub return_expiry_at : ℕ
return_expiry_at = 1 + place_of return_form "expiry"

abbrev pub hash_expiry_at : ℕ
hash_expiry_at = 1 + place_of hash_form "expiry"
