use Rattle.std.proofs.Common.{arith, rules}
use Rattle.opinion_log.proofs.Walk.{fresh_path}
use Rattle.opinion_log.proofs.Ported.{path_ports}
use Rattle.opinion_log.proofs.paths.path_of.Goals as goal

pub path_after-requires : goal.path_after-requires
path_after-requires c = (omega arith, c.requires.1 c.loop-i.i c.loop-i-test.true, c.loop-i.invariant)

pub loop-i-init : goal.loop-i-init
loop-i-init c = record { is = fresh_path _ _; fits = tt }

pub returns : goal.returns
returns c = (search rules, path_ports c.args.log.now c.loop-i.i c.args.destination c.loop-i.path c.loop-i.invariant.is)
