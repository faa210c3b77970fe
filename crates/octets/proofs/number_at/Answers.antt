use mathlib.Core.Path.{ap, ◌∙◌}
use Rattle.octets.specs.BigEndian.{number}
use Rattle.octets.proofs.Part.{part_range}
use Rattle.octets.proofs.number_at.Goals as goal

pub returns : goal.returns
returns c =
    let a = c.args in
    c.read_number.ensures ∙ ap number (part_range a.t.now a.at a.n)
