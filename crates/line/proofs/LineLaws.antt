-- The laws of the line: that it fits a text, and what it is where the packet reads and where it doesn't.
use Prim.Native.Nat.{ℕ, ◌≤◌, ◌<◌}
use native.Mathlib.Omega.{arith}
use mathlib.Core.Bool.{Bool, true, false}
use mathlib.Core.List.{List, [], ◌∷◌, ◌++◌}
use mathlib.Core.Path.{◌≡◌, sym, ap, ◌∙◌}
use lib.Dec.{lit≤}
use lib.ListN.{length}
use Rattle.octets.specs.Choice.{◌then◌otherwise◌}
use Rattle.octets.proofs.Choice.{then_true, then_false}
use Rattle.packet.specs.Header.{type_two, transport, destination_kind, packet_kind}
use Rattle.packet.specs.Read.{longest_packet, parts_of, payload, reading_refusal, no_parts, reading}
use Rattle.packet.specs.declared.Parts.{Parts}
use Rattle.packet.specs.Read.{Reading}
use Rattle.packet.specs.Places.{address_width}
use Rattle.packet.proofs.ReadLaws.{readable, accepted_reads, refused_reads}
use Rattle.text.specs.Numerals.{decimal, hexadecimal, short_digits, short_limit, byte_digits}
use Rattle.text.specs.Words.{words_line, refused_words}
use Rattle.text.specs.Text.{text_size}
use Rattle.text.proofs.NumeralLaws.{numeral_most, hexadecimal_length}
use Rattle.text.proofs.WordLaws.{Most, line_most}
use Rattle.line.specs.Words.{type1_word, type2_word, broadcast_word, transport_word, single_word, group_word, plain_word, link_word, data_word, announce_word, linkrequest_word, proof_word, by_word, hops_word, to_word, context_word, payload_word}
use Rattle.line.specs.Line.{type_name, transport_name, kind_word, name_words, way_words, payload_words, relay_words, parts_words, line_words, line_text, address_digits}

-- ---- how long the words are
choice_most : (t : Bool) (x y : List ℕ) (m : ℕ) → length x ≤ m → length y ≤ m → length (t then x otherwise y) ≤ m
unfolding ◌then◌otherwise◌
choice_most true x y m a b = a
choice_most false x y m a b = b

type_most : (header : ℕ) → length (type_name header) ≤ length type1_word
unfolding type_name
type_most header = choice_most (type_two header) type2_word type1_word (length type1_word) (lit≤ tt) (lit≤ tt)

transport_most : (header : ℕ) → length (transport_name header) ≤ length transport_word
unfolding transport_name
transport_most header = choice_most (transport header) transport_word broadcast_word (length transport_word) (lit≤ tt) (lit≤ tt)

kind_most : (kind : ℕ) (zero one two three : List ℕ) (m : ℕ) → Most (zero ∷ one ∷ two ∷ three ∷ []) (m ∷ m ∷ m ∷ m ∷ [])
    → length (kind_word kind zero one two three) ≤ m
unfolding kind_word
kind_most kind zero one two three m (a, (b, (c, (d, _)))) = choice_most _ _ _ m a (choice_most _ _ _ m b (choice_most _ _ _ m c d))

-- hops and payload lengths have three digits at most
number_most : (n : ℕ) → n < short_limit → length (decimal n) ≤ short_digits
number_most n few = numeral_most 10 (lit≤ tt) short_digits n (lit≤ tt) few

address_most : (address : List ℕ) → length address ≡ address_width → length (hexadecimal address) ≤ address_digits
address_most address wide = omega (arith, hexadecimal_length address)

relay_most : (header : ℕ) (relay : List ℕ) → length relay ≡ address_width → Most (relay_words header relay) (length by_word ∷ address_digits ∷ [])
unfolding relay_words ◌then◌otherwise◌
relay_most header relay wide = go (type_two header)
  where
    go : (t : Bool) → Most (t then by_word ∷ hexadecimal relay ∷ [] otherwise []) (length by_word ∷ address_digits ∷ [])
    go true = (lit≤ tt, (address_most relay wide, tt))
    go false = tt

-- ---- every line fits
module _ (q : Parts) (size : ℕ) where
  pub parts_fit : q.hops < short_limit → length q.destination ≡ address_width → length q.relay ≡ address_width → size < short_limit
      → length (words_line (parts_words q size)) ≤ text_size
  unfolding parts_words
  parts_fit few wd wr small =
      let h : ℕ = q.header in
      let destination : List ℕ = kind_word (destination_kind h) single_word group_word plain_word link_word in
      let kind : List ℕ = kind_word (packet_kind h) data_word announce_word linkrequest_word proof_word in
      let to : length destination ≤ length single_word = kind_most _ _ _ _ _ (length single_word) (lit≤ tt, (lit≤ tt, (lit≤ tt, (lit≤ tt, tt)))) in
      let what : length kind ≤ length linkrequest_word = kind_most _ _ _ _ _ (length linkrequest_word) (lit≤ tt, (lit≤ tt, (lit≤ tt, (lit≤ tt, tt)))) in
      let context : length (hexadecimal (q.context ∷ [])) ≤ byte_digits = omega (arith, hexadecimal_length (q.context ∷ [])) in
      let names : List ℕ = length type1_word ∷ length transport_word ∷ length single_word ∷ length linkrequest_word ∷ [] in
      let way : List ℕ = length hops_word ∷ short_digits ∷ length to_word ∷ address_digits ∷ [] in
      let rest : List ℕ = length context_word ∷ byte_digits ∷ length payload_word ∷ short_digits ∷ length by_word ∷ address_digits ∷ [] in
      let load : Most (payload_words q.context size ++ relay_words h q.relay) rest =
      (lit≤ tt, (context, (lit≤ tt, (number_most size small, relay_most h q.relay wr)))) in
      omega (
        arith,
        line_most (type_name h) (name_words h ++ (way_words q.hops q.destination ++ (payload_words q.context size ++ relay_words h q.relay)))
            (names ++ (way ++ rest))
            (type_most h, (transport_most h, (to, (what, (lit≤ tt, (number_most q.hops few, (lit≤ tt, (address_most q.destination wd, load)))))))),
      )

-- ---- the line of any bytes
module _ (p : List ℕ) where
  pub line_refused : (reading_refusal longest_packet p ≡ 0 → ⊥) → line_text p ≡ words_line (refused_words (reading_refusal longest_packet p))
  unfolding line_text line_words
  line_refused ne = ap words_line (then_false _ _ (refused_reads longest_packet p ne))

  pub line_read : reading_refusal longest_packet p ≡ 0 → line_text p ≡ words_line (parts_words (parts_of p) (length (payload p)))
  unfolding line_text line_words
  line_read e = ap words_line (then_true _ _ (accepted_reads longest_packet p e))

  -- ---- what the code of `line_of` asks
  module _ (r : Reading) (e : r ≡ reading longest_packet p) where
    pub read_refusal : r.refusal ≡ reading_refusal longest_packet p
    unfolding reading
    read_refusal = ap (λ (x : Reading). x.refusal) e

    pub read_parts : r.refusal ≡ 0 → r.parts ≡ parts_of p
    unfolding reading
    read_parts z = ap (λ (x : Reading). x.parts) e ∙ then_true (parts_of p) no_parts (accepted_reads longest_packet p (sym read_refusal ∙ z))

    pub read_short : r.refusal ≡ 0 → length p ≤ longest_packet
    read_short z = (readable longest_packet p (sym read_refusal ∙ z)).fits
