use Rattle.std.proofs.Common.{eq-eqb, ne_eqb}
use Rattle.octets.specs.Choice.{◌then◌otherwise◌}
use Rattle.surveying.specs.Promise.{recording_at}
use Rattle.surveying.proofs.lines.recording_at.Goals as goal

pub returns-then-refusal-eq0 : goal.returns-then-refusal-eq0
unfolding recording_at ◌then◌otherwise◌
returns-then-refusal-eq0 c = rw (eq-eqb _ _ c.if-refusal-eq0.true) c.empty.ensures

pub returns : goal.returns
unfolding recording_at ◌then◌otherwise◌
returns c = rw (ne_eqb _ _ c.if-refusal-eq0.false) c.recording_refused.ensures
