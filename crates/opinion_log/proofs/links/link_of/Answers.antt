use Rattle.std.proofs.Common.{rules}
use Rattle.opinion_log.proofs.Walk.{fresh_link}
use Rattle.opinion_log.proofs.Ported.{link_ports}
use Rattle.opinion_log.proofs.links.link_of.Goals as goal

pub loop-i-init : goal.loop-i-init
loop-i-init c = fresh_link _ _

pub returns : goal.returns
returns c = (search rules, link_ports c.args.log.now c.loop-i.i c.args.id c.loop-i.link c.loop-i.invariant)
