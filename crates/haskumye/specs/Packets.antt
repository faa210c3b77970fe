-- The buffer that is lent for what is asked about a packet, after the call.
use Rattle.std.specs.Prelude.{ℕ, List, eqb}
use Rattle.octets.specs.Choice.{◌then◌otherwise◌}
use Rattle.sha256.specs.Sha256.{answer}
use Rattle.packet.specs.Read.{longest_packet, reading}
use Rattle.packet.specs.Hash.{packet_hash_answer, link_id_answer}
use Rattle.crossing.specs.Packets.{parts_bytes}

-- the caller's buffer after a call: what was asked for, or where that is refused what stood there
unfoldable pub buffer_after : ℕ → List ℕ → List ℕ → List ℕ
buffer_after refusal new old = eqb refusal 0 then new otherwise old

-- the buffer for a packet's parts, for its hash and for its link id, after the call
abbrev pub parts_after : ℕ → List ℕ → List ℕ → List ℕ
parts_after size p old = buffer_after (reading size p).refusal (parts_bytes (reading size p).parts) old

abbrev pub hash_after : List ℕ → List ℕ → List ℕ
hash_after p old = buffer_after (packet_hash_answer longest_packet p).refusal (packet_hash_answer longest_packet p).bytes old

abbrev pub link_id_after : List ℕ → List ℕ → List ℕ
link_id_after p old = buffer_after (link_id_answer longest_packet p).refusal (link_id_answer longest_packet p).bytes old

-- the buffer for a message's digest, after the call
abbrev pub digest_after : List ℕ → List ℕ → List ℕ
digest_after message old = buffer_after (answer message).refusal (answer message).bytes old
