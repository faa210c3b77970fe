use Prim.Native.Nat.{ℕ}
use mathlib.Core.List.{List}
use mathlib.Core.Path.{sym, ap, ap₂, subst, ◌∙◌}
use Rattle.std.specs.Prelude.{Option}
use Rattle.rules.specs.declared.Tally.{Tally}
use Rattle.text.specs.declared.Text.{Text}
use Rattle.replaying.specs.Promise.{StepOn, Step, has_line, line_in, step_as, step_on, Steps}
use Rattle.crossing.specs.Answers.{answer_number}
use Rattle.crossing.specs.Packets.{payload_place}
use Rattle.crossing.specs.Tallies.{tally_numbers, tally_in}
use Rattle.haskumye.proofs.RecordingLaws.{line_written, line_stays}
use Rattle.haskumye.proofs.recordings.haskumye_replay_entry.Goals as goal
use Rattle.haskumye.proofs.recordings.haskumye_replay_entry.Goals.{in-Some, in_default}

pub returns : goal.returns
returns c =
    let a = c.args in
    let s : StepOn = step_on a.file.now a.index a.tables.now (tally_in a.tally.now) in
    let r : Step = step_as c.step-stepped.result in
    let after : List ℕ = c.step-stepped.new.tables in
    let given : Steps s r after =
    subst (λ (x : Tally). Steps (step_on a.file.now a.index a.tables.now x) r after) c.tally_in.ensures c.step-stepped.ensures in
    let start = c.haskumye_payload_start.ensures ∙ ap payload_place c.body.ensures in
    let old : List ℕ = a.line.now in (
      c.answer_number.ensures ∙ ap₂ answer_number start (ap (λ (x : Step). x.answer) given.0),
      c.tally_numbers.ensures ∙ ap (λ (x : Step). tally_numbers x.tally) given.0,
      given.1,
      elim c.match-stepped.branch [
        | in-Some w ↦
            w.line-is ∙ ap (λ (x : Option Text). (line_in x).bytes) (sym w.in-Some.is) ∙ line_written s r given.0 old (ap has_line w.in-Some.is)
        | in_default w ↦ w.line-is ∙ line_stays s r given.0 old (ap has_line w.in_default.is)
      ],
    )
