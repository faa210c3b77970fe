use mathlib.Core.Path.{ap₂, ◌∙◌}
use Rattle.crossing.specs.Answers.{answer_number}
use Rattle.haskumye.proofs.packet_call.judge_numbered.Goals as goal

pub returns : goal.returns
returns c =
    let j = c.judge-judged in
    let start = c.haskumye_payload_start.ensures in
    (c.answer_number.ensures ∙ ap₂ answer_number start j.ensures.0, j.ensures.1, j.ensures.2, j.ensures.3)
