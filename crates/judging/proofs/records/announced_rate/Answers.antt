use Rattle.std.proofs.Common.{rules, arith, ℕ, ◌<◌, true, ◌≡◌, refl}
use borrow.Author.Tests.{tests, lt-ltb}
use Rattle.octets.specs.Index.{◌and◌}
use Rattle.octets.specs.Choice.{◌then◌otherwise◌}
use Rattle.octets.proofs.Index.{and_both, and_right}
use Rattle.numbers.specs.Numbers.{clock_limit}
use Rattle.rules.specs.Rate.{starts_at, entry_revived, entry_accepted}
use Rattle.rules.specs.Refusals.{rate_entry_ok}
use Rattle.rules.specs.declared.RateEntry.{RateEntry}
use Rattle.rules.proofs.Ranges.{accepted_rate_ok}
use Rattle.judging.proofs.records.announced_rate.Goals as goal

module _ (clock : ℕ) (l : clock < clock_limit) where
  started_ok : rate_entry_ok (starts_at clock) ≡ true
  unfolding rate_entry_ok ◌and◌
  started_ok = and_both (lt-ltb clock clock_limit l) refl

  revived_ok : (e : RateEntry) → rate_entry_ok e ≡ true → rate_entry_ok (entry_revived clock e) ≡ true
  unfolding rate_entry_ok entry_revived
  revived_ok e ok = and_both (lt-ltb clock clock_limit l) (and_right _ _ ok)

pub returns-in_default : goal.returns-in_default
returns-in_default c = (search rules, started_ok c.args.clock c.requires.2)

pub returns-then-revives : goal.returns-then-revives
unfolding entry_revived ◌then◌otherwise◌
returns-then-revives c = grind (arith, tests, revived_ok c.args.clock c.requires.2)

pub returns : goal.returns
unfolding entry_accepted ◌then◌otherwise◌
returns c = grind (arith, tests, accepted_rate_ok)
