use Prim.Native.Nat.{ℕ}
use mathlib.Core.Path.{ap, ◌∙◌}
use Rattle.crossing.specs.Answers.{answer_number}
use Rattle.haskumye.proofs.opinions.haskumye_opinion_packet.Goals as goal

pub returns : goal.returns
returns c =
    let taken = c.take_packet-answer in
    let start = c.haskumye_payload_start.ensures in
    record {
      answer = taken.result;
      opines = taken.ensures;
      numbered = c.answer_number.ensures ∙ ap (λ (s : ℕ). answer_number s taken.result) start;
    }
