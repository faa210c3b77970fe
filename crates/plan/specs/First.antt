-- Document 01's tests 1 to 5, as the code decides them before it looks for a way on.
-- For the contracts of helpers: not part of what a reader must believe.
use Rattle.std.specs.Prelude.{Option, Some, None}
use Rattle.octets.specs.Listed.{first_of, valued}
use Rattle.rules.specs.View.{View}
use Rattle.rules.specs.Arrival.{Arrival}
use Rattle.rules.specs.Judging.{Plan, dropped, delivered, follows, early_tests}
use Rattle.plan.specs.declared.Decision.{Decision}
use Rattle.plan.specs.declared.Decision.TheVariants.{Drop, Deliver}

unfoldable pub early : Plan → Option Decision
early (dropped reason) = Some (Drop reason)
early delivered = Some Deliver
early (follows w) = None

unfoldable pub first_tests : View → Arrival → Option Decision
first_tests v a = first_of (valued early (early_tests v a)) None
