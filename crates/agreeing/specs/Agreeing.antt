-- Document 02, wish 13: "Show that it and the core answer alike, output bytes too, at each call that finds under 64 listed; having no slots, for 6.2 and 6.3 it
-- need only say 6.2 or 6.3." About the bytes of both: the engine's log and the core's tables. Proved in proofs/Agreement.antt.
use Rattle.std.specs.Prelude.{ℕ, ◌<◌, true, List, [], ◌∷◌, ◌≡◌}
use Rattle.rules.specs.Relay.{fresh}
use Rattle.rules.specs.Run.{Call, Reply, none_loads}
use Rattle.rules.specs.declared.Tally.{Tally}
use Rattle.tables.specs.Places.{address_width}
use Rattle.tables.specs.Layout.{bytes_of}
use Rattle.tables.specs.Shape.{is_bytes}
use Rattle.history.specs.Opinion.{list_limit}
use Rattle.opinion_log.specs.Log.{listed_in}
use Rattle.opinion.specs.Calls.{IsFresh}
use Rattle.opinion.specs.Agreeing.{Asked, Same}
use Rattle.demands.specs.Given.{CallsBytes}
use Rattle.demands.specs.Bytes.{perform_on}

-- over a list of calls: each finds the log and the tables that the one before left. `Asked` is what the engine's contract says of a call on a log, `perform_on`
-- what the core's says of one on tables, and `Same` compares the two replies, with 6.3 told as 6.2
abbrev pub AgreeOn : List Call → List ℕ → List ℕ → Tally → Type 0
AgreeOn [] log tables t = Unit {0}
AgreeOn (c ∷ cs) log tables t = (reply : Reply) (after : List ℕ) → Asked log c reply after
    → (listed_in log < list_limit → Same c reply (perform_on c tables t).reply) × AgreeOn cs after (perform_on c tables t).tables (perform_on c tables t).tally

-- from a fresh log and fresh tables with one own address. Refused calls, questions and saves may stand in the list, but of loads only refused ones
abbrev pub EngineAndCore : Type 0
EngineAndCore = (own log : List ℕ) (cs : List Call) (t : Tally)
    → IsFresh own log → is_bytes address_width own ≡ true → CallsBytes cs → none_loads cs ≡ true → AgreeOn cs log (bytes_of (fresh own)) t
