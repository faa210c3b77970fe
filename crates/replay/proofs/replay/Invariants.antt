use Rattle.std.proofs.Common.{◌≡◌, OnOk}
use Rattle.std.specs.Io.KnownBytes.{Appends}
use Rattle.replaying.specs.Promise.{steps_on}
use Rattle.replay.proofs.replay.Given as goal

-- the steps so far, and what of them is printed
abbrev pub invariant-loop-i : goal.invariant-loop-i
invariant-loop-i g l =
    let done = steps_on l.file l.i l.fn.tables l.fn.counts in
    (l.tables ≡ done.tables) × (l.tally ≡ done.tally)
    × OnOk l.printed (Appends (g.W.Write.contents l.initial.out) (g.W.Write.contents l.out) done.text)
