use Rattle.std.proofs.Common.{refl, sym, ◌∙◌, length}
use Rattle.octets.proofs.Chains.{equal_is_agree}
use Rattle.octets.proofs.equal.Goals as goal

pub returns : goal.returns
returns c = c.eq.ensures ∙ equal_is_agree (length c.args.a.now) _ _ refl (sym c.requires)
