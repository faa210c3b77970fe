use Rattle.std.proofs.Common.{arith}
use Rattle.std.proofs.Common.{◌≡◌, ◌∙◌}
use lib.ListN.{length-set}
use Rattle.judging.specs.Seen.{no_seen_port}
use Rattle.opinion_log.specs.Log.{known_in}
use Rattle.opinion_log.specs.Steps.{port_seen}
use Rattle.opinion_log.proofs.Views.{all_ports, filled}
use Rattle.opinion_log.proofs.ports.ports_at.Goals as goal

pub loop-i-preserved : goal.loop-i-preserved
loop-i-preserved c =
    let wide = c.loop-i.invariant.0 in (
      length-set c.loop-i.ports c.loop-i.i c.port_at.result ∙ wide,
      filled (λ j x. port_seen x ≡ (known_in c.args.log.now c.args.n).port j) c.loop-i.ports c.loop-i.i c.port_at.result no_seen_port (omega (arith, wide))
          c.loop-i.invariant.1 c.port_at.ensures,
    )

pub returns : goal.returns
returns c = all_ports _ _ _ c.loop-i.invariant.0 (λ port l. c.loop-i.invariant.1 port (omega arith))
