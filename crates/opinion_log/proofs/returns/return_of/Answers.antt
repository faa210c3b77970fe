use Rattle.std.proofs.Common.{rules}
use Rattle.opinion_log.proofs.Walk.{fresh_return}
use Rattle.opinion_log.proofs.Ported.{return_ports}
use Rattle.opinion_log.proofs.returns.return_of.Goals as goal

pub loop-i-init : goal.loop-i-init
loop-i-init c = fresh_return _ _

pub returns : goal.returns
returns c = (search rules, return_ports c.args.log.now c.loop-i.i c.args.key c.loop-i.back c.loop-i.invariant)
