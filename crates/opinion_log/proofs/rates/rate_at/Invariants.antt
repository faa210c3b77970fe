use Rattle.std.proofs.Common.{◌≡◌, true}
use Rattle.opinion_log.specs.Log.{known_in}
use Rattle.rules.specs.Refusals.{rate_settings_ok}
use Rattle.opinion_log.proofs.rates.rate_at.Given as goal

abbrev pub invariant-loop-i : goal.invariant-loop-i
invariant-loop-i l = (l.rate ≡ (known_in l.log l.i).rate) × (rate_settings_ok l.rate ≡ true)
