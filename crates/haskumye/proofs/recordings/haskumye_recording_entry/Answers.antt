use mathlib.Core.Path.{refl}
use Rattle.haskumye.proofs.RecordingLaws.{entry_given, entry_missing}
use Rattle.haskumye.proofs.recordings.haskumye_recording_entry.Goals as goal

pub returns-in_default : goal.returns-in_default
returns-in_default c =
    let a = c.args in
    rw c.number.ensures (entry_missing a.file.now a.index a.entry.now _ c.in_default.ensures refl)

pub returns : goal.returns
returns c =
    let a = c.args in
    entry_given a.file.now a.index a.entry.now _ c.in-Some.ensures refl _ c.entry_numbers.ensures
