-- The line of a packet, and of bytes that don't read.
use Rattle.std.specs.Prelude.{ℕ, ◌*◌, List, [], ◌∷◌, ◌++◌, eqb, length}
use Rattle.octets.specs.Choice.{◌then◌otherwise◌}
use Rattle.packet.specs.Places.{address_width}
use Rattle.packet.specs.Header.{type_two, transport, destination_kind, packet_kind}
use Rattle.packet.specs.Read.{longest_packet, parts_of, payload, reads, reading_refusal}
use Rattle.packet.specs.declared.Parts.{Parts}
use Rattle.line.specs.Words.{type1_word, type2_word, broadcast_word, transport_word, single_word, group_word, plain_word, link_word, data_word, announce_word, linkrequest_word, proof_word, hops_word, to_word, context_word, payload_word, by_word}
use Rattle.text.specs.Numerals.{decimal, byte_digits, hexadecimal}
use Rattle.text.specs.Words.{words_line, refused_words}

-- ---- the words of a packet: type1 broadcast link data hops 0 to 11111111111111111111111111111111 context fa payload 0

unfoldable pub type_name : ℕ → List ℕ
type_name header = type_two header then type2_word otherwise type1_word

unfoldable pub transport_name : ℕ → List ℕ
transport_name header = transport header then transport_word otherwise broadcast_word

-- the word of kind 0, 1, 2 or 3
unfoldable pub kind_word : ℕ → List ℕ → List ℕ → List ℕ → List ℕ → List ℕ
kind_word kind zero one two three =
    eqb kind 0 then zero otherwise
    eqb kind 1 then one otherwise
    eqb kind 2 then two otherwise three

-- transport, destination kind and packet kind
abbrev pub name_words : ℕ → List (List ℕ)
name_words header =
    transport_name header
    ∷ kind_word (destination_kind header) single_word group_word plain_word link_word
    ∷ kind_word (packet_kind header) data_word announce_word linkrequest_word proof_word
    ∷ []

-- an address in hexadecimal
abbrev pub address_digits : ℕ
address_digits = byte_digits * address_width

-- hops and destination
abbrev pub way_words : ℕ → List ℕ → List (List ℕ)
way_words hops destination = hops_word ∷ decimal hops ∷ to_word ∷ hexadecimal destination ∷ []

-- context and the payload's length
abbrev pub payload_words : ℕ → ℕ → List (List ℕ)
payload_words context payload_length = context_word ∷ hexadecimal (context ∷ []) ∷ payload_word ∷ decimal payload_length ∷ []

-- type 2 adds ` by` and the relay address at the end
unfoldable pub relay_words : ℕ → List ℕ → List (List ℕ)
relay_words header relay = type_two header then by_word ∷ hexadecimal relay ∷ [] otherwise []

unfoldable pub parts_words : Parts → ℕ → List (List ℕ)
parts_words q payload_length =
    type_name q.header
    ∷ (name_words q.header
    ++ (way_words q.hops q.destination
    ++ (payload_words q.context payload_length
    ++ relay_words q.header q.relay)))

-- a bad packet: `refused` and the number. Wish 11: "Callers of the packet reader say which size they mean, the showing program and the edges 500"
unfoldable pub line_words : List ℕ → List (List ℕ)
line_words p =
    reads longest_packet p
    then parts_words (parts_of p) (length (payload p))
    otherwise refused_words (reading_refusal longest_packet p)

-- ---- the line
unfoldable pub line_text : List ℕ → List ℕ
line_text p = words_line (line_words p)
