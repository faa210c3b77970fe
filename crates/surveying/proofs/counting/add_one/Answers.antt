use Rattle.std.proofs.Common.{◌≡◌, length, refl, rules}
use Rattle.surveying.specs.Counts.{Answered}
use Rattle.surveying.specs.Promise.{counter_count}
use Rattle.surveying.proofs.CountLaws.{one_more_lem, all_grown}
use Rattle.surveying.proofs.counting.add_one.Invariants.{entry}
use Rattle.surveying.proofs.counting.add_one.Goals as goal

pub loop-counter-init : goal.loop-counter-init
loop-counter-init c = refl

pub loop-counter-preserved : goal.loop-counter-preserved
loop-counter-preserved c =
    let a = c.args in
    let l = c.loop-counter in
    let long : length a.counts.now ≡ counter_count = search rules in
    let x : Answered = entry a.came a.size a.answer in
    one_more_lem a.counts.now x long l.counts l.counter l.invariant c.loop-counter-test.true _ _ refl
    c.counted_at-amount.ensures

pub returns : goal.returns
returns c =
    let a = c.args in
    let l = c.loop-counter in
    let long : length a.counts.now ≡ counter_count = search rules in
    all_grown a.counts.now (entry a.came a.size a.answer) long l.counts l.counter l.invariant c.loop-counter-test.false
