use Rattle.std.proofs.Common.{◌-◌, ◌∙◌, ap, length, drop, take, arith, length-drop}
use Rattle.std.proofs.Math.Seq.{take_all}
use Rattle.octets.specs.Part.{part}
use Rattle.octets.proofs.address_at.Goals as goal

pub returns : goal.returns
unfolding part
returns c =
    let s = c.args.s.now in
    let at = c.args.at in
    (rw c.unwrap.ensures at c.first_chunk.ensures.cases).same
    ∙ ap (take 16) (take_all (length s - at) (drop at s) (omega (arith, length-drop at s)))
