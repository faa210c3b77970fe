-- Document 01, test 3 and "Blob": the fields of an announce's payload, in source 000's order.
use Rattle.std.specs.Prelude.{ℕ, ◌+◌, List, ◌++◌, take, drop}
use Rattle.octets.specs.Part.{part}
use Rattle.octets.specs.BigEndian.{number}
use Rattle.sha256.specs.Sha256.{sha256_of}
use Rattle.octets.specs.Choice.{◌then◌otherwise◌}
use Rattle.packet.specs.Header.{context_flag}
use Rattle.packet.specs.Places.{address_width, keys_width, name_hash_at, name_hash_width, blob_at, blob_width, random_width, emission_width, blob_end, ratchet_width, signature_width}

-- the 64 key bytes: payload bytes 0..63
unfoldable pub keys_of : List ℕ → List ℕ
keys_of body = part body 0 keys_width

-- the name hash: payload bytes 64..73
unfoldable pub name_hash_of : List ℕ → List ℕ
name_hash_of body = part body name_hash_at name_hash_width

-- the blob: payload bytes 74..83, five random, five of emission time, big-endian
unfoldable pub blob_of : List ℕ → List ℕ
blob_of body = part body blob_at blob_width

unfoldable pub emission_of : List ℕ → ℕ
emission_of blob = number (part blob random_width emission_width)

-- the context flag says that a ratchet is there, of 32 bytes
unfoldable pub ratchet_length : ℕ → ℕ
ratchet_length header = context_flag header then ratchet_width otherwise 0

-- the ratchet: payload bytes 84..115, or none
unfoldable pub ratchet_of : ℕ → List ℕ → List ℕ
ratchet_of header body = part body blob_end (ratchet_length header)

-- the signature: the 64 bytes behind
unfoldable pub signature_of : ℕ → List ℕ → List ℕ
signature_of header body = part body (blob_end + ratchet_length header) signature_width

-- the least payload, all fields but the app data: 148, or 180 with the context flag
unfoldable pub least_announce : ℕ → ℕ
least_announce header = blob_end + ratchet_length header + signature_width

-- the app data: the rest
unfoldable pub app_data_of : ℕ → List ℕ → List ℕ
app_data_of header body = drop (least_announce header) body

-- the first 16 of SHA-256(the 64 key bytes)
unfoldable pub identity_hash : List ℕ → List ℕ
identity_hash body = take address_width (sha256_of (keys_of body))

-- the first 16 of SHA-256(name hash ‖ identity hash)
unfoldable pub announced_destination : List ℕ → List ℕ
announced_destination body = take address_width (sha256_of (name_hash_of body ++ identity_hash body))
