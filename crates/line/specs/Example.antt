-- Document 01's example, whole.
use Rattle.std.specs.Prelude.{ℕ, List, [], ◌∷◌, ◌++◌, ◌≡◌, refl, replicate}
use Rattle.octets.specs.Index.{◌and◌}
use Rattle.octets.specs.Part.{part, joined}
use Rattle.octets.specs.Choice.{◌then◌otherwise◌}
use Rattle.octets.specs.Listed.{first_of}
use Rattle.packet.specs.Header.{access_code, type_two, transport, destination_kind, packet_kind}
use Rattle.numbers.specs.Numbers.{is_size}
use Rattle.packet.specs.Read.{type_one_parts, type_two_parts, parts_of, payload_start, payload, reading_rows, reading_refusal, reads}
use Rattle.text.specs.Numerals.{digit, numeral_within, numeral, hexadecimal_byte, hexadecimal}
use Rattle.text.specs.Words.{spaced, words_line}
use Rattle.line.specs.Line.{type_name, transport_name, kind_word, relay_words, parts_words, line_words, line_text}

-- 0c 00, sixteen bytes 11, fa
abbrev pub example_packet : List ℕ
example_packet = 12 ∷ 0 ∷ (replicate 16 17 ++ (250 ∷ []))

-- type1 broadcast link data hops 0 to 11111111111111111111111111111111 context fa payload 0
abbrev pub example_line : List ℕ
example_line =
    116 ∷ 121 ∷ 112 ∷ 101 ∷ 49 ∷ 32 ∷
    98 ∷ 114 ∷ 111 ∷ 97 ∷ 100 ∷ 99 ∷ 97 ∷ 115 ∷ 116 ∷ 32 ∷
    108 ∷ 105 ∷ 110 ∷ 107 ∷ 32 ∷
    100 ∷ 97 ∷ 116 ∷ 97 ∷ 32 ∷
    104 ∷ 111 ∷ 112 ∷ 115 ∷ 32 ∷
    48 ∷ 32 ∷
    116 ∷ 111 ∷ 32 ∷
    49 ∷ 49 ∷ 49 ∷ 49 ∷ 49 ∷ 49 ∷ 49 ∷ 49 ∷ 49 ∷ 49 ∷ 49 ∷ 49 ∷ 49 ∷ 49 ∷ 49 ∷ 49 ∷
    49 ∷ 49 ∷ 49 ∷ 49 ∷ 49 ∷ 49 ∷ 49 ∷ 49 ∷ 49 ∷ 49 ∷ 49 ∷ 49 ∷ 49 ∷ 49 ∷ 49 ∷ 49 ∷ 32 ∷
    99 ∷ 111 ∷ 110 ∷ 116 ∷ 101 ∷ 120 ∷ 116 ∷ 32 ∷
    102 ∷ 97 ∷ 32 ∷
    112 ∷ 97 ∷ 121 ∷ 108 ∷ 111 ∷ 97 ∷ 100 ∷ 32 ∷
    48 ∷ 10 ∷ []

pub example : line_text example_packet ≡ example_line
unfolding digit numeral_within numeral hexadecimal_byte hexadecimal type_name transport_name kind_word relay_words parts_words line_words spaced words_line
    line_text access_code type_two transport destination_kind packet_kind type_one_parts type_two_parts parts_of payload_start payload reading_rows reading_refusal
    reads is_size first_of part joined ◌and◌ ◌then◌otherwise◌
example = refl
