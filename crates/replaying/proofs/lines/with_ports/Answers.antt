use mathlib.Core.Path.{sym, ◌∙◌}
use Rattle.text.proofs.TextLaws.{appended_none}
use Rattle.text.proofs.WordLaws.{spaced_nil}
use Rattle.replaying.specs.Lines.{ports_below}
use Rattle.replaying.proofs.LineLaws.{port_named, port_unnamed}
use Rattle.replaying.proofs.lines.with_ports.Goals as goal
use Rattle.replaying.proofs.lines.with_ports.Goals.{then-ports-port-eq1, else-ports-port-eq1}

pub loop-port-init : goal.loop-port-init
unfolding ports_below
loop-port-init c = sym (rw (spaced_nil, appended_none))

pub loop-port-preserved : goal.loop-port-preserved
loop-port-preserved c =
    elim c.if-ports-port-eq1.branch [
      | then-ports-port-eq1 w ↦
          w.grown-is ∙ w.with_number-grown.ensures ∙ rw c.loop-port.invariant (port_named _ _ _ w.if-ports-port-eq1.true)
      | else-ports-port-eq1 w ↦ w.grown-is ∙ c.loop-port.invariant ∙ port_unnamed _ _ _ w.if-ports-port-eq1.false
    ]
