use Rattle.std.proofs.Common.{rules, ◌≡◌, ℕ, List, length, take, ap, ◌∙◌}
use Rattle.text.proofs.TextLaws.{text_within}
use Rattle.console.proofs.Printed.{answer_printed}
use Rattle.line.specs.Line.{line_text}
use Rattle.show.proofs.Whole.{room, line_of_front}
use Rattle.show.proofs.show_packet.Goals as goal

pub print-printed-requires : goal.print-printed-requires
print-printed-requires g c = text_within c.line_of.result _ c.line_of.ensures

pub returns : goal.returns
returns g c =
    let buffer : List ℕ = c.read_full-n.new.buffer in
    let full : length buffer ≡ room = search rules in
    let tells : (m : List ℕ) → line_text (take (length buffer) m) ≡ line_text m =
    λ m. ap (λ k. line_text (take k m)) full ∙ line_of_front m in
    rw c.and.ensures
    (answer_printed _ _ _ buffer c.read_full-n.result.0 line_text c.line_of.result c.line_of.ensures tells _ _ c.read_full-n.ensures.all c.print-printed.ensures)
