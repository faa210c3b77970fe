use mathlib.Core.Path.{ap, ◌∙◌}
use Rattle.tables.specs.Records.{link_of}
use Rattle.lookup.proofs.links.link_at.Goals as goal

pub returns : goal.returns
returns c = c.link_of.ensures ∙ ap link_of c.record_at.ensures.0
