-- Document 02, wish 5, on the bytes: a list of calls in which a destination's announces keep the target interval, and what it leaves. What each call and each
-- path are is said of the relay that the tables hold: rules/specs/Chatty.antt.
use Rattle.std.specs.Prelude.{ℕ, List, [], ◌∷◌}
use Rattle.rules.specs.Run.{Call}
use Rattle.rules.specs.Chatty.{SpacedCall, NotDropped, NotBlocked}
use Rattle.rules.specs.declared.Tally.{Tally}
use Rattle.tables.specs.Layout.{relay_of}
use Rattle.demands.specs.Bytes.{perform_on}

-- each announce for the destination that reaches test 15 comes at last + target or later, by the target set then
unfoldable pub SpacedOn : List ℕ → List Call → List ℕ → Tally → Type 0
SpacedOn d [] tables tally = Unit {0}
SpacedOn d (c ∷ cs) tables tally =
    SpacedCall d c (relay_of tables) × SpacedOn d cs (perform_on c tables tally).tables (perform_on c tables tally).tally

-- none is dropped by 15, and its blocked-until is 0 after every call
unfoldable pub NeverBlockedOn : List ℕ → List Call → List ℕ → Tally → Type 0
NeverBlockedOn d [] tables tally = Unit {0}
NeverBlockedOn d (c ∷ cs) tables tally =
    NotDropped d c (perform_on c tables tally).reply
    × NotBlocked d (relay_of (perform_on c tables tally).tables)
    × NeverBlockedOn d cs (perform_on c tables tally).tables (perform_on c tables tally).tally
