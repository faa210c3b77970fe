use Rattle.std.proofs.Common.{◌+◌, ◌*◌, ap, ◌∙◌}
use Rattle.octets.proofs.Part.{part_range}
use Rattle.opinion_log.specs.Log.{entries_at, entry_width, entry_of}
use Rattle.opinion_log.proofs.log.entry_at.Goals as goal

pub returns : goal.returns
returns c =
    let a = c.args in
    let bytes = part_range a.log.now (entries_at + entry_width * a.i) entry_width in
    (c.read.ensures.0 ∙ ap entry_of bytes, c.read.ensures.1)
