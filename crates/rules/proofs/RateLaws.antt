-- The rate rule where it is simple: while a destination is blocked, and for one that keeps the target interval.
use Prim.Native.Nat.{ℕ, ◌+◌, ◌-◌, ◌≤◌, ◌<◌}
use mathlib.Core.Path.{◌≡◌, ap, ◌∙◌}
use borrow.Author.Tests.{lt-ltb, le-ltb}
use Rattle.octets.proofs.Choice.{then_true, then_false}
use Rattle.rules.specs.Relay.{make_rate_entry}
use Rattle.rules.specs.Rate.{drops, lets_by, rated, entry_dropped}
use Rattle.rules.specs.declared.RateSettings.{RateSettings}
use Rattle.rules.specs.declared.RateEntry.{RateEntry}
use Rattle.rules.specs.declared.Rated.{Rated}

module _ (s : RateSettings) (clock : ℕ) (e : RateEntry) where
  -- "While clock < blocked-until, drop."
  pub rated_blocked : clock < e.blocked_until → rated s clock e ≡ drops e.violations e.blocked_until
  unfolding rated
  rated_blocked l = then_true _ _ (lt-ltb _ _ l)

  -- .. and nothing changes
  pub blocked_stays : clock < e.blocked_until → entry_dropped s clock e ≡ e
  unfolding entry_dropped
  blocked_stays l = ap (λ (x : Rated). make_rate_entry e.last x.violations x.blocked_until) (rated_blocked l)

  -- "else one violation, if any, is forgiven"
  pub rated_on_time : e.blocked_until ≤ clock → e.last + s.target ≤ clock → rated s clock e ≡ lets_by (e.violations - 1) e.blocked_until
  unfolding rated
  rated_on_time free spaced = then_false _ _ (le-ltb _ _ free) ∙ then_false _ _ (le-ltb _ _ spaced)
