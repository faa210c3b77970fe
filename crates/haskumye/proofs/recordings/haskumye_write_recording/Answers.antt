use mathlib.Core.Path.{ap, ◌∙◌}
use Rattle.numbers.specs.Refusals.{written_as}
use Rattle.crossing.specs.Packets.{written_number}
use Rattle.crossing.specs.Recordings.{recorded_number}
use Rattle.haskumye.proofs.RecordingLaws.{recorded_most}
use Rattle.haskumye.proofs.recordings.haskumye_write_recording.Goals as goal

pub written_number-requires : goal.written_number-requires
written_number-requires c =
    let a = c.args in
    recorded_most (written_as c.write.result) a.entries.now a.bodies.now a.room.now c.write.ensures.0

pub returns : goal.returns
unfolding recorded_number written_number
returns c = (c.written_number.ensures ∙ ap recorded_number c.write.ensures.0, c.write.ensures.1)
