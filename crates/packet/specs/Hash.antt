-- Document 01, "Packet layout": packet hash and link id (007).
use Rattle.std.specs.Prelude.{ℕ, ◌%◌, List, ◌∷◌, ◌++◌, take, replicate, Result, Ok, Err}
use Rattle.sha256.specs.Sha256.{sha256_of}
use Rattle.octets.specs.Choice.{◌then◌otherwise◌}
use Rattle.packet.specs.Places.{address_width, digest_width, link_payload_width}
use Rattle.packet.specs.Read.{parts_of, payload, reading_refusal, reads}
use Rattle.packet.specs.declared.Parts.{Parts}
use Rattle.numbers.specs.Refusals.{number_of}
use Rattle.numbers.specs.declared.refusal.Refusal.{Refusal}

-- (header modulo 16), destination, context, payload, in that order
unfoldable pub hashed_part : Parts → List ℕ → List ℕ
hashed_part q body = q.header % 16 ∷ (q.destination ++ (q.context ∷ body))

unfoldable pub packet_hash : List ℕ → List ℕ
packet_hash p = sha256_of (hashed_part (parts_of p) (payload p))

-- the same with the payload cut to 64 bytes, first 16 bytes of the result
unfoldable pub link_id : List ℕ → List ℕ
link_id p = take address_width (sha256_of (hashed_part (parts_of p) (take link_payload_width (payload p))))

-- a hash or an id of n bytes: refusal 0 and the bytes, or a refusal's number and zeros
pub record Hashed : Type 0 where
  pub refusal : ℕ
  pub bytes : List ℕ

abbrev pub hashed_as : ℕ → Result (List ℕ) Refusal → Hashed
hashed_as n (Ok bytes) = record { refusal = 0; bytes = bytes }
hashed_as n (Err refusal) = record { refusal = number_of refusal; bytes = replicate n 0 }

-- both refuse like reading, with zeros beside the number; the calls read at 500
unfoldable pub packet_hash_answer : ℕ → List ℕ → Hashed
packet_hash_answer size p =
    record { refusal = reading_refusal size p; bytes = reads size p then packet_hash p otherwise replicate digest_width 0 }

unfoldable pub link_id_answer : ℕ → List ℕ → Hashed
link_id_answer size p =
    record { refusal = reading_refusal size p; bytes = reads size p then link_id p otherwise replicate address_width 0 }
