-- A plan's tests as decisions.
use mathlib.Core.Bool.{Bool}
use mathlib.Core.List.{List, [], ◌∷◌}
use mathlib.Core.Path.{◌≡◌, refl, ap, ◌∙◌}
use Rattle.octets.specs.Choice.{◌then◌otherwise◌}
use Rattle.octets.specs.Listed.{Test, first_of, valued}
use Rattle.octets.proofs.Choice.{then_ap}
use Rattle.rules.specs.Relay.{Relay}
use Rattle.rules.specs.Arrival.{Arrival}
use Rattle.rules.specs.Judging.{Plan, dropped}
use Rattle.rules.specs.declared.Reason.{Reason}
use Rattle.plan.specs.Decided.{decided}
use Rattle.plan.specs.declared.Decision.{Decision}
use Rattle.plan.specs.declared.Decision.TheVariants.{Drop}

-- ---- tests as decisions
pub decided_test : (r : Relay) (a : Arrival) (t : Bool) (reason : Reason) (x : Plan)
    → decided r a (t then dropped reason otherwise x) ≡ (t then Drop reason otherwise decided r a x)
unfolding decided
decided_test r a t reason x = then_ap (decided r a) t (dropped reason) x

-- a list of tests as decisions
pub decided_first : (r : Relay) (a : Arrival) (ts : List (Test Reason)) (rest : Plan)
    → decided r a (first_of (valued dropped ts) rest) ≡ first_of (valued Drop ts) (decided r a rest)
unfolding first_of valued
decided_first r a [] rest = refl
decided_first r a (t ∷ ts) rest =
    decided_test r a t.holds t.value _ ∙ ap (λ (d : Decision). t.holds then Drop t.value otherwise d) (decided_first r a ts rest)
