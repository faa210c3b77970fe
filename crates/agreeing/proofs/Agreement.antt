-- What the engine says of a list the rules say, and what the rules say the core says on its bytes: demand 2.
use Prim.Native.Nat.{ℕ, ◌<◌}
use mathlib.Core.Bool.{true}
use mathlib.Core.List.{List, [], ◌∷◌}
use mathlib.Core.Path.{◌≡◌, sym, subst}
use Rattle.rules.specs.Relay.{Relay, fresh}
use Rattle.rules.specs.Refusals.{tables_ok}
use Rattle.rules.specs.Run.{Call, EachCall, perform}
use Rattle.rules.specs.declared.Tally.{Tally}
use Rattle.rules.proofs.Valid.{step_ok, fresh_ok}
use Rattle.tables.specs.Layout.{bytes_of}
use Rattle.tables.specs.Shape.{shaped}
use Rattle.history.specs.Opinion.{list_limit}
use Rattle.opinion_log.specs.Log.{listed_in}
use Rattle.opinion.specs.Agreeing.{Same, Agree}
use Rattle.opinion.proofs.Agreement.{engine_agrees}
use Rattle.demands.specs.Given.{CallsBytes}
use Rattle.demands.specs.Bytes.{OutcomeOn}
use Rattle.demands.proofs.Demand2.{outcome_on, call_on_lem}
use Rattle.demands.proofs.Shape.{step_shaped, fresh_shaped}
use Rattle.agreeing.specs.Agreeing.{AgreeOn, EngineAndCore}

on_bytes : (cs : List Call) (log : List ℕ) (r : Relay) (t : Tally) → CallsBytes cs → tables_ok r ≡ true → shaped r ≡ true → Agree cs log r t
    → AgreeOn cs log (bytes_of r) t
unfolding EachCall outcome_on
on_bytes [] log r t given ok s h = tt
on_bytes (c ∷ cs) log r t given ok s h = λ reply after asked.
    let both = h reply after asked in
    subst (λ (o : OutcomeOn). (listed_in log < list_limit → Same c reply o.reply) × AgreeOn cs after o.tables o.tally)
    (sym (call_on_lem r s ok t c given.0))
    (both.0, on_bytes cs after (perform c r t).relay (perform c r t).tally given.1 (step_ok c r t ok) (step_shaped c r t given.0 ok s) both.1)

pub engine_and_core : EngineAndCore
engine_and_core own log cs t start wide given none =
    on_bytes cs log (fresh own) t given (fresh_ok own) (fresh_shaped own wide) (engine_agrees own log cs t start none)
