-- Document 02, Wish 12: "Build an announce from key bytes, name hash, random bytes, clock, optional ratchet, app data and a signature that the host made,
-- and lay out the exact bytes the host must sign".
use Rattle.std.specs.Prelude.{ℕ, Bool, not, List, [], ◌++◌, ◌≡◌, eqb, ltb, leb, length, replicate}
use Rattle.octets.specs.Choice.{◌then◌otherwise◌, ◌or◌}
use Rattle.octets.specs.Listed.{Test, ◌gives◌otherwise◌, first_of}
use Rattle.octets.specs.Part.{patch}
use Rattle.octets.specs.BigEndian.{big_endian}
use Rattle.numbers.specs.Numbers.{longest_packet, least_output, clock_limit}
use Rattle.packet.specs.Places.{keys_width, name_hash_width, random_width, emission_width, ratchet_width, signature_width}
use Rattle.packet.specs.Read.{header_of, parts_of, payload, no_address}
use Rattle.packet.specs.Write.{packet_of, Writing}
use Rattle.packet.specs.Announce.{keys_of, name_hash_of, blob_of, ratchet_of, app_data_of, announced_destination}
use Rattle.packet.specs.declared.Parts.{Parts}
use Rattle.numbers.specs.Refusals.{Written}

-- what is given beside the signature. An empty ratchet is none
pub record Announce : Type 0 where
  pub keys : List ℕ
  pub name_hash : List ℕ
  pub random : List ℕ
  pub clock : ℕ
  pub ratchet : List ℕ
  pub app_data : List ℕ

abbrev pub make_announce : (keys name_hash random : List ℕ) (clock : ℕ) (ratchet app_data : List ℕ) → Announce
make_announce keys name_hash random clock ratchet app_data =
    record { keys = keys; name_hash = name_hash; random = random; clock = clock; ratchet = ratchet; app_data = app_data }

-- the blob: five random bytes, then the clock in five, big-endian
unfoldable pub blob : Announce → List ℕ
blob a = a.random ++ big_endian emission_width a.clock

-- the destination: the one that test 3 finds of a payload that begins with these keys and this name hash
unfoldable pub destination : Announce → List ℕ
destination a = announced_destination (a.keys ++ a.name_hash)

-- ---- "the exact bytes the host must sign: destination, keys, name hash, blob, ratchet if any, app data, by source document 000"
unfoldable pub signed_bytes : Announce → List ℕ
signed_bytes a = destination a ++ (a.keys ++ (a.name_hash ++ (blob a ++ (a.ratchet ++ a.app_data))))

-- ---- the announce
-- the payload, by 000: keys, name hash, blob, ratchet if any, signature, app data
unfoldable pub payload_with : Announce → List ℕ → List ℕ
payload_with a signature = a.keys ++ (a.name_hash ++ (blob a ++ (a.ratchet ++ (signature ++ a.app_data))))

-- "Header 01, or 21 with a ratchet; hops and context 0." Both headers are of type 1
unfoldable pub head_of : (destination : List ℕ) (ratchet : ℕ) → Parts
head_of destination ratchet =
    record { header = eqb ratchet 0 then 0x01 otherwise 0x21; hops = 0; relay = no_address; destination = destination; context = 0 }

abbrev pub parts_for : Announce → Parts
parts_for a = head_of (destination a) (length a.ratchet)

unfoldable pub announce_with : Announce → List ℕ → List ℕ
announce_with a signature = packet_of (parts_for a) (payload_with a signature)

-- ---- "Refusals, for the signing bytes too: 26 key, name, random, ratchet or signature of wrong length, 5 a clock of 2^40 or more, 27 an announce over
-- 500 once built, 6 a buffer under 500, in that order, the buffer untouched."
-- by lengths. A ratchet may be missing
unfoldable pub wrong_lengths : (keys name_hash random ratchet signature : ℕ) → Bool
wrong_lengths keys name_hash random ratchet signature =
    not (eqb keys keys_width)
    or not (eqb name_hash name_hash_width)
    or not (eqb random random_width)
    or not (eqb ratchet 0 or eqb ratchet ratchet_width)
    or not (eqb signature signature_width)

-- the rows, by the lengths of what is given and of what is built
unfoldable pub announce_rows : (keys name_hash random ratchet signature clock built room : ℕ) → List (Test ℕ)
announce_rows keys name_hash random ratchet signature clock built room =
    wrong_lengths keys name_hash random ratchet signature gives 26 otherwise
    leb clock_limit clock gives 5 otherwise
    ltb longest_packet built gives 27 otherwise
    ltb room least_output gives 6 otherwise
    []

-- the refusal's number, or 0
unfoldable pub announce_refusal : Announce → List ℕ → ℕ → ℕ
announce_refusal a signature room =
    first_of
    (announce_rows (length a.keys) (length a.name_hash) (length a.random) (length a.ratchet) (length signature) a.clock
    (length (announce_with a signature)) room)
    0

-- the signing bytes are refused as the announce would be with a signature of 64 bytes, whatever they are
abbrev pub any_signature : List ℕ
any_signature = replicate signature_width 0

-- the answer, and the buffer after it: a refusal leaves it as it was, and bytes past what is written stay
unfoldable pub laid : ℕ → List ℕ → List ℕ → Writing
laid refusal bytes room =
    eqb refusal 0
    then record { answer = record { refusal = 0; length = length bytes }; output = patch room 0 bytes }
    otherwise record { answer = record { refusal = refusal; length = 0 }; output = room }

unfoldable pub signing : Announce → List ℕ → Writing
signing a room = laid (announce_refusal a any_signature (length room)) (signed_bytes a) room

unfoldable pub building : Announce → List ℕ → List ℕ → Writing
building a signature room = laid (announce_refusal a signature (length room)) (announce_with a signature) room

-- what a call returned and left is this
abbrev pub Lays : Writing → Written → List ℕ → Type 0
Lays w answer room = (answer ≡ w.answer) × (room ≡ w.output)

-- ---- what the signature of an announce that came in must be over, by its parts and in the same order
unfoldable pub signed_in : List ℕ → List ℕ
signed_in p =
    (parts_of p).destination
    ++ (keys_of (payload p)
    ++ (name_hash_of (payload p)
    ++ (blob_of (payload p)
    ++ (ratchet_of (header_of p) (payload p)
    ++ app_data_of (header_of p) (payload p)))))
