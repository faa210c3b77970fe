use Rattle.std.proofs.Common.{ℕ, List, length, ◌≡◌, refl, sym, ap, ◌∙◌, arith}
use Rattle.numbers.proofs.RefusalNumbers.{some_number}
use Rattle.line.specs.Line.{parts_words}
use Rattle.line.proofs.LineLaws.{line_refused, line_read, read_refusal, read_parts, read_short}
use Rattle.text.specs.Text.{text_of}
use Rattle.text.specs.Words.{words_line, refused_words}
use Rattle.packet.specs.Read.{parts_of, longest_packet, reading_refusal}
use Rattle.packet.specs.declared.Parts.{Parts}
use Rattle.packet.proofs.ReadLaws.{payload_least}
use Rattle.line.proofs.line_of.Goals as goal

pub returns-in-Err : goal.returns-in-Err
returns-in-Err c =
    let p = c.args.packet.now in
    let number : c.number.result ≡ reading_refusal longest_packet p = c.number.ensures ∙ read_refusal p _ c.in-Err.ensures in
    c.refused_line.ensures
    ∙ ap (λ (n : ℕ). text_of (words_line (refused_words n))) number
    ∙ ap text_of (sym (line_refused p (λ (e : reading_refusal longest_packet p ≡ 0). some_number _ (sym c.number.ensures ∙ number ∙ e))))

pub parts_line-requires : goal.parts_line-requires
parts_line-requires c =
    let p = c.args.packet.now in
    omega (arith, ap length c.payload.ensures, payload_least p, read_short p _ c.in-Ok.ensures refl)

pub returns-in-Ok : goal.returns-in-Ok
returns-in-Ok c =
    let p = c.args.packet.now in
    c.parts_line.ensures
    ∙ ap (λ (q : Parts). text_of (words_line (parts_words q (length c.payload.result.now)))) (read_parts p _ c.in-Ok.ensures refl)
    ∙ ap (λ (l : List ℕ). text_of (words_line (parts_words (parts_of p) (length l)))) c.payload.ensures
    ∙ ap text_of (sym (line_read p (sym (read_refusal p _ c.in-Ok.ensures))))
