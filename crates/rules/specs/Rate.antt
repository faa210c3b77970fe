-- Document 02, Wish 5: "Add source document 000's rate rule: target interval, grace and penalty, set for the relay. Last accepted announce, violations
-- and blocked-until live in the path record". An announce of a destination that has a live path is let through or dropped by it: test 15.
use Rattle.std.specs.Prelude.{ℕ, ◌+◌, ◌-◌, true, false, ltb}
use Rattle.octets.specs.Choice.{◌then◌otherwise◌}
use Rattle.numbers.specs.Numbers.{violation_limit}
use Rattle.rules.specs.Relay.{make_rate_entry}
use Rattle.rules.specs.declared.RateSettings.{RateSettings}
use Rattle.rules.specs.declared.RateEntry.{RateEntry}
use Rattle.rules.specs.declared.Rated.{Rated}

-- what the rule says: whether the announce is dropped, and violations and blocked-until after it
abbrev pub drops : ℕ → ℕ → Rated
drops violations blockedUntil = record { dropped = true; violations = violations; blocked_until = blockedUntil }

abbrev pub lets_by : ℕ → ℕ → Rated
lets_by violations blockedUntil = record { dropped = false; violations = violations; blocked_until = blockedUntil }

-- one more: "Violations stop at 255."
unfoldable pub one_more : ℕ → ℕ
one_more violations = ltb violations violation_limit then violations + 1 otherwise violation_limit

-- so many violations, this one included: "one above the grace blocks until last + target + penalty and drops"; within the grace the violation stays,
-- and the announce is let by
unfoldable pub violated : RateSettings → RateEntry → ℕ → Rated
violated s e violations =
    ltb s.grace violations
    then drops violations (e.last + s.target + s.penalty)
    otherwise lets_by violations e.blocked_until

-- "While clock < blocked-until, drop. Otherwise clock < last + target adds a violation, and one above the grace blocks ..; else one violation, if any,
-- is forgiven."
unfoldable pub rated : RateSettings → ℕ → RateEntry → Rated
rated s clock e =
    ltb clock e.blocked_until then drops e.violations e.blocked_until otherwise
    ltb clock (e.last + s.target) then violated s e (one_more e.violations) otherwise
    lets_by (e.violations - 1) e.blocked_until

-- ---- the path record's fields
-- "a destination with no live path is let through and starts with none", also where an expired record of it lay in the slot
abbrev pub starts_at : ℕ → RateEntry
starts_at clock = make_rate_entry clock 0 0

-- after an announce that is accepted: "last accepted announce" is this one
unfoldable pub entry_accepted : RateSettings → ℕ → RateEntry → RateEntry
entry_accepted s clock e = make_rate_entry clock (rated s clock e).violations (rated s clock e).blocked_until

-- after one that is accepted without test 15, wish 6: "Where 15 isn't made, the last accepted announce moves and Wish 5's other fields stay."
unfoldable pub entry_revived : ℕ → RateEntry → RateEntry
entry_revived clock e = make_rate_entry clock e.violations e.blocked_until

-- after one that is dropped: "A rate drop changes violations and blocked-until alone, besides what every drop changes."
unfoldable pub entry_dropped : RateSettings → ℕ → RateEntry → RateEntry
entry_dropped s clock e = make_rate_entry e.last (rated s clock e).violations (rated s clock e).blocked_until
