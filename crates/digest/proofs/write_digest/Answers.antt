use Rattle.std.proofs.Common.{rules, ◌≡◌, ℕ, List, length, take, ap, ◌∙◌}
use Rattle.sha256.specs.Sha256.{answer}
use Rattle.text.specs.Text.{text_of}
use Rattle.text.proofs.TextLaws.{text_within}
use Rattle.console.proofs.Printed.{answer_printed}
use Rattle.digest.specs.Line.{digest_line}
use Rattle.digest.proofs.Whole.{room, answer_of_front}
use Rattle.digest.proofs.write_digest.Goals as goal

pub print-printed-requires : goal.print-printed-requires
print-printed-requires g c = text_within c.line.result _ c.line.ensures

pub returns : goal.returns
returns g c =
    let buffer : List ℕ = c.read_full-n.new.buffer in
    let full : length buffer ≡ room = search rules in
    let tells : (m : List ℕ) → digest_line (answer (take (length buffer) m)) ≡ digest_line (answer m) =
    λ m. ap digest_line (ap (λ k. answer (take k m)) full ∙ answer_of_front m) in
    let shown = c.line.ensures ∙ ap (λ d. text_of (digest_line d)) c.sha256.ensures in
    rw c.and.ensures
    (answer_printed _ _ _ buffer c.read_full-n.result.0 (λ m. digest_line (answer m)) c.line.result shown tells _ _ c.read_full-n.ensures.all c.print-printed.ensures)
