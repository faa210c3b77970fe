use Rattle.std.proofs.Common.{◌≡◌}
use Rattle.replaying.specs.Promise.{steps_on}
use Rattle.surveying.specs.Promise.{add_all}
use Rattle.surveying.proofs.ReplayLaws.{answers_up_to}
use Rattle.surveying.proofs.replays.replay.Given as goal

abbrev pub invariant-loop-i : goal.invariant-loop-i
invariant-loop-i l =
    (l.work ≡ (steps_on l.file l.i l.initial.work l.initial.tally).tables)
    × (l.tally ≡ (steps_on l.file l.i l.initial.work l.initial.tally).tally)
    × (l.counts ≡ add_all l.initial.counts (answers_up_to l.file l.initial.work l.initial.tally l.i))
