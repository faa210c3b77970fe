-- What serves the contracts of private helpers alone.
use Rattle.std.specs.Prelude.{ℕ, ◌+◌, List, ◌++◌, length}
use Rattle.octets.specs.BigEndian.{big_endian}
use Rattle.octets.specs.Listed.{first_of}
use Rattle.announcing.specs.Announcing.{Announce, announce_rows}
use Rattle.packet.specs.Places.{type_one_start, blob_end, emission_width, signature_width}

-- how long the announce is: what comes before the payload; keys, name hash and blob; the ratchet's, the signature's and the app data's
abbrev pub announce_length : (ratchet app_data : ℕ) → ℕ
announce_length ratchet app_data = type_one_start + blob_end + ratchet + signature_width + app_data

-- what the announce has before its signature, and the signing bytes before the app data: keys, name hash, blob, ratchet
unfoldable pub fields : (keys name_hash random : List ℕ) (clock : ℕ) (ratchet : List ℕ) → List ℕ
fields keys name_hash random clock ratchet = keys ++ (name_hash ++ (random ++ (big_endian emission_width clock ++ ratchet)))

-- the refusal by lengths alone, with a signature of so many bytes
abbrev pub refusal_by : Announce → ℕ → ℕ → ℕ
refusal_by a signature room =
    first_of
    (announce_rows (length a.keys) (length a.name_hash) (length a.random) (length a.ratchet) signature a.clock
    (announce_length (length a.ratchet) (length a.app_data)) room)
    0
