-- Document 02, wish 13, about the log's bytes: "Show that it and the core answer alike, output bytes too, at each call that finds under 64 listed; having no
-- slots, for 6.2 and 6.3 it need only say 6.2 or 6.3." The core answers as the rules' `perform` does: demand 2. Proved in proofs/Agreement.antt.
use Rattle.std.specs.Prelude.{ℕ, ◌<◌, true, List, [], ◌∷◌, ◌≡◌}
use Rattle.rules.specs.Relay.{Relay, fresh}
use Rattle.rules.specs.Run.{Call, packet, on_tables, asks, saves, loads, Reply, answered, numbered, perform, none_loads}
use Rattle.rules.specs.declared.Answer.{Answer}
use Rattle.rules.specs.declared.Tally.{Tally}
use Rattle.history.specs.Opinion.{list_limit}
use Rattle.history.specs.SecondOpinion.{coarse}
use Rattle.opinion_log.specs.Log.{listed_in}
use Rattle.opinion.specs.Calls.{Opines, Settles, IsFresh}

-- the engine was called so on a log, replied this and left that log: what the contract of the call says. Questions, saves and loads are not asked of it
abbrev pub Asked : List ℕ → Call → Reply → List ℕ → Type 0
Asked log (packet a output) reply after = (answer : Answer) × (out : List ℕ) × (reply ≡ answered answer out) × Opines log a output answer after out
Asked log (on_tables c) reply after = (number : ℕ) × (reply ≡ numbered number) × Settles log c number after
Asked log (asks q) reply after = after ≡ log
Asked log (saves f room) reply after = after ≡ log
Asked log (loads f file) reply after = after ≡ log

-- the engine's reply is the core's, with 6.3 told as 6.2
abbrev pub Same : Call → Reply → Reply → Type 0
Same (packet a output) reply core = reply ≡ coarse core
Same (on_tables c) reply core = reply ≡ core
Same (asks q) reply core = Unit {0}
Same (saves f room) reply core = Unit {0}
Same (loads f file) reply core = Unit {0}

-- over a list of calls, each on the log and on the relay that the one before left
abbrev pub Agree : List Call → List ℕ → Relay → Tally → Type 0
Agree [] log r t = Unit {0}
Agree (c ∷ cs) log r t = (reply : Reply) (after : List ℕ) → Asked log c reply after
    → (listed_in log < list_limit → Same c reply (perform c r t).reply) × Agree cs after (perform c r t).relay (perform c r t).tally

abbrev pub EngineAgrees : Type 0
EngineAgrees = (own : List ℕ) (log : List ℕ) (cs : List Call) (t : Tally) → IsFresh own log → none_loads cs ≡ true → Agree cs log (fresh own) t
