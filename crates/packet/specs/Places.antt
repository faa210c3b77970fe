-- Document 01, "Packet layout", and source 000's order of an announce's payload: how wide the fields are and where they stand. Definitions, contracts and
-- laws use these names; the bytes that the documents number stand in the comments, and in the equations at the end.
use Rattle.std.specs.Prelude.{ℕ, ◌+◌, ◌≡◌, refl}
pub use Rattle.numbers.specs.Numbers.{address_width, digest_width, blob_width}

-- ---- a packet
-- byte 0 is the header, byte 1 the hops
abbrev pub hops_at : ℕ
hops_at = 1

-- bytes 2..17: the destination in type 1, the relay address in type 2
abbrev pub address_at : ℕ
address_at = hops_at + 1

-- bytes 18..33 in type 2: the destination
abbrev pub second_address_at : ℕ
second_address_at = address_at + address_width

-- the context: byte 18 in type 1, byte 34 in type 2
abbrev pub type_one_context_at : ℕ
type_one_context_at = address_at + address_width

abbrev pub type_two_context_at : ℕ
type_two_context_at = second_address_at + address_width

-- the payload: from byte 19 on in type 1, from byte 35 on in type 2
abbrev pub type_one_start : ℕ
type_one_start = type_one_context_at + 1

abbrev pub type_two_start : ℕ
type_two_start = type_two_context_at + 1

-- destination and context: what either type has right before the payload
abbrev pub end_width : ℕ
end_width = address_width + 1

-- of a link request's payload, what its link id is made of
abbrev pub link_payload_width : ℕ
link_payload_width = 64

-- ---- an announce's payload
-- bytes 0..63: the keys
abbrev pub keys_width : ℕ
keys_width = 64

-- bytes 64..73: the name hash
abbrev pub name_hash_at : ℕ
name_hash_at = keys_width

abbrev pub name_hash_width : ℕ
name_hash_width = 10

-- bytes 74..83: the blob, five random bytes and five of emission time
abbrev pub blob_at : ℕ
blob_at = name_hash_at + name_hash_width

abbrev pub random_width : ℕ
random_width = 5

abbrev pub emission_width : ℕ
emission_width = 5

-- from byte 84 on: the ratchet, where there is one, and the signature
abbrev pub blob_end : ℕ
blob_end = blob_at + blob_width

abbrev pub ratchet_width : ℕ
ratchet_width = 32

abbrev pub signature_width : ℕ
signature_width = 64

-- ---- the documents' own numbers
pub packet_numbered : (address_at ≡ 2) × ((second_address_at ≡ 18) × ((type_one_context_at ≡ 18) × ((type_two_context_at ≡ 34)
    × ((type_one_start ≡ 19) × (type_two_start ≡ 35)))))
packet_numbered = (refl, (refl, (refl, (refl, (refl, refl)))))

-- an announce's least payload: 148, or 180 with a ratchet
pub announce_numbered : (name_hash_at ≡ 64) × ((blob_at ≡ 74) × ((blob_end ≡ 84) × ((random_width + emission_width ≡ blob_width)
    × ((blob_end + signature_width ≡ 148) × (blob_end + ratchet_width + signature_width ≡ 180)))))
announce_numbered = (refl, (refl, (refl, (refl, (refl, refl)))))
