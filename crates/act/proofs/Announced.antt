-- What an announce stores, as the code makes it.
use Prim.Native.Nat.{ℕ}
use mathlib.Core.Bool.{Bool}
use mathlib.Core.List.{List}
use mathlib.Core.Path.{◌≡◌, refl}
use Rattle.octets.specs.Choice.{◌then◌otherwise◌}
use Rattle.packet.specs.Announce.{emission_of}
use Rattle.rules.specs.Relay.{make_rate_entry}
use Rattle.rules.specs.Rate.{entry_accepted, entry_revived}
use Rattle.outgoing.proofs.Steps.{reading}
use Rattle.plan.specs.Decided.{path_at, rated_on}
use Rattle.plan.specs.Kinds.{revived_by}
use Rattle.act.specs.Stored.{rate_known, rate_stored}

pub rate_clauses : (t : List ℕ) (place : ℕ) (known : Bool) (clock : ℕ) (blob : List ℕ) → rate_stored t place known clock blob
    ≡ (known
    then (revived_by (emission_of blob) (path_at t place)
    then make_rate_entry clock (path_at t place).rate.violations (path_at t place).rate.blocked_until
    otherwise make_rate_entry clock (rated_on t place clock).violations (rated_on t place clock).blocked_until)
    otherwise make_rate_entry clock 0 0)
unfolding rate_stored rate_known entry_accepted entry_revived
rate_clauses t place known clock blob = refl

pub ruleset announced_steps = (rate_clauses, reading)
