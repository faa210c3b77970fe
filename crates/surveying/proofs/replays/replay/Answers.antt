use Rattle.std.proofs.Common.{◌≡◌, ℕ, List, sym, refl, ap, ◌∙◌, le_antisymm, arith}
use Rattle.rules.specs.declared.Tally.{Tally}
use Rattle.recording.specs.Shape.{count_of}
use Rattle.recording.specs.Reader.{entries_of}
use Rattle.replaying.specs.Promise.{Step, steps_on}
use Rattle.surveying.specs.Promise.{add_all}
use Rattle.surveying.proofs.ReplayLaws.{answers_up_to, no_answers, next_tables, next_tally, next_counts}
use Rattle.surveying.proofs.replays.replay.Goals as goal

pub loop-i-init : goal.loop-i-init
unfolding steps_on add_all
loop-i-init c =
    let a = c.args in
    (refl, refl, sym (ap (add_all a.counts.now) (no_answers a.file.now a.work.now c.new_tally-tally.result)))

pub loop-i-preserved : goal.loop-i-preserved
loop-i-preserved c =
    let a = c.args in
    let f = a.file.now in
    let w = a.work.now in
    let y = c.new_tally-tally.result in
    let l = c.loop-i in
    let step = c.step-stepped.ensures in (
      next_tables f w y l.i l.work l.tally l.invariant.0 l.invariant.1 _ step.1,
      next_tally f w y l.i l.work l.tally l.invariant.0 l.invariant.1 _ (ap (λ (x : Step). x.tally) step.0),
      next_counts f w y l.i l.work l.tally l.invariant.0 l.invariant.1 a.counts.now l.counts _ l.invariant.2 _ c.port_of-port.ensures _ c.body-size.ensures _
          (ap (λ (x : Step). x.answer) step.0) c.add_one.ensures,
    )

pub returns : goal.returns
unfolding answers_up_to entries_of
returns c =
    let a = c.args in
    let f : List ℕ = a.file.now in
    let w : List ℕ = a.work.now in
    let y : Tally = c.new_tally-tally.result in
    let l = c.loop-i in
    let end : l.i ≡ count_of f =
    le_antisymm (omega (arith, c.count-i-end.ensures, l.auto.i-end)) (omega (arith, c.count-i-end.ensures, c.loop-i-test.false)) in (
      l.invariant.2
          ∙ ap (λ (n : ℕ). add_all a.counts.now (answers_up_to f w y n)) end
          ∙ ap (λ (z : Tally). add_all a.counts.now (answers_up_to f w z (count_of f))) c.new_tally-tally.ensures,
      l.invariant.0 ∙ ap (λ (n : ℕ). (steps_on f n w y).tables) end ∙ ap (λ (z : Tally). (steps_on f (count_of f) w z).tables) c.new_tally-tally.ensures,
    )
