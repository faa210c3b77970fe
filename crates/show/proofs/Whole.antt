-- A packet that fills the buffer is longer than the longest, and so is refused whatever stands behind it.
use Rattle.std.proofs.Common.{◌≡◌, ℕ, ◌≤◌, ◌<◌, Bool, true, false, leb, List, length, take, refl, sym, ap, ◌∙◌, arith, length-take, take_all, le-ltb, lt-ltb}
use Rattle.std.proofs.lemmas.Bool.{leb-true, leb-false}
use Rattle.octets.specs.Choice.{◌then◌otherwise◌}
use Rattle.octets.specs.Index.{◌and◌}
use Rattle.octets.specs.Listed.{first_of}
use Rattle.numbers.specs.Numbers.{longest_packet, is_size}
use Rattle.packet.specs.Read.{reading_rows, reading_refusal}
use Rattle.packet.specs.Places.{type_one_start}
use Rattle.text.specs.Words.{words_line, refused_words}
use Rattle.line.specs.Line.{line_text}
use Rattle.line.proofs.LineLaws.{line_refused}

abbrev pub room : ℕ
room = 501

too_long : (p : List ℕ) → longest_packet < length p → reading_refusal longest_packet p ≡ 2
unfolding reading_refusal reading_rows first_of is_size ◌and◌ ◌then◌otherwise◌
too_long p l = rw (le-ltb (length p) type_one_start (omega arith), lt-ltb longest_packet (length p) l) refl

refused_line : (p : List ℕ) → longest_packet < length p → line_text p ≡ words_line (refused_words 2)
refused_line p l =
    let two = too_long p l in
    line_refused p (λ e. omega (arith, sym two ∙ e)) ∙ ap (λ r. words_line (refused_words r)) two

pub line_of_front : (p : List ℕ) → line_text (take room p) ≡ line_text p
line_of_front p = go (leb (length p) longest_packet) refl
  where
    go : (b : Bool) → leb (length p) longest_packet ≡ b → line_text (take room p) ≡ line_text p
    go true e =
        let short : length p ≤ longest_packet = leb-true _ _ e in
        ap line_text (take_all room p (omega arith))
    go false e =
        let long : longest_packet < length p = leb-false _ _ e in
        refused_line (take room p) (omega (arith, length-take room p)) ∙ sym (refused_line p long)
