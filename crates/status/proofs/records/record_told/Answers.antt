use mathlib.Core.Path.{◌∙◌}
use Rattle.octets.proofs.Part.{part_range}
use Rattle.status.proofs.Told.{none_told, some_told}
use Rattle.status.proofs.records.record_told.Goals as goal

pub returns-then-b-eq0 : goal.returns-then-b-eq0
returns-then-b-eq0 g c = none_told _ _ _ c.record_at-b.ensures.0 c.if-b-eq0.true

pub returns : goal.returns
returns g c = some_told _ _ _ c.record_at-b.ensures.0 c.if-b-eq0.false _ (c.copy_from_slice.ensures.after ∙ part_range _ 1 _)
