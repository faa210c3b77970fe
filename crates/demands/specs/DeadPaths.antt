-- Document 02, wish 6, on the bytes: an accepted mark, and what calls after it leave. What a path and an announce are is said of the relay that the tables
-- hold: `NewEnough`, `Revived`, `NoneAccepted` and `MarkedAt`, rules/specs/DeadPaths.antt.
use Rattle.std.specs.Prelude.{ℕ, ◌≤◌, ◌<◌, List, ◌≡◌}
use Rattle.rules.specs.Relay.{used, Path}
use Rattle.rules.specs.View.{view_at}
use Rattle.rules.specs.Run.{Call, marking, numbered}
use Rattle.rules.specs.DeadPaths.{MarkedAt}
use Rattle.rules.specs.declared.Tally.{Tally}
use Rattle.tables.specs.Layout.{relay_of}
use Rattle.demands.specs.Bytes.{perform_on, tables_after_on}

-- "an accepted mark" of the destination's live path
pub record AcceptedMark (d : List ℕ) (clock : ℕ) (p : Path) (tables : List ℕ) (tally : Tally) : Type 0 where
  pub accepted : (perform_on (marking d clock) tables tally).reply ≡ numbered 0
  pub live : (view_at clock (relay_of tables)).path d ≡ used p

-- "leaves the live path marked until .. it expires": after the calls, at any clock from the last accepted one on and before the path's expiry
abbrev pub StaysMarkedOn : List ℕ → Path → List Call → List ℕ → Tally → Type 0
StaysMarkedOn d p cs tables tally =
    (now : ℕ) → (relay_of (tables_after_on cs tables tally)).clock ≤ now → now < p.expiry
    → MarkedAt d p.expiry now (relay_of (tables_after_on cs tables tally))
