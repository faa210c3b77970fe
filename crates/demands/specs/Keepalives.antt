-- Document 02, wish 2, on the bytes: what a list of calls leaves of a link. What the calls and the link are at the start is said of the relay
-- that the tables hold: `Starts` and `InTime`, rules/specs/Keepalives.antt.
use Rattle.std.specs.Prelude.{ℕ, List, [], ◌∷◌, eqb}
use Rattle.rules.specs.Run.{Call}
use Rattle.rules.specs.Keepalives.{CarriedIf, IsUp}
use Rattle.rules.specs.declared.Link.{Link}
use Rattle.rules.specs.declared.Tally.{Tally}
use Rattle.tables.specs.Layout.{relay_of}
use Rattle.demands.specs.Bytes.{perform_on}
use Rattle.demands.specs.Refusals.{refusal_on}

-- each keepalive that isn't refused, nor too long for the port of the other side, is forwarded and renews the link, and the link is live and proved after
-- every call
unfoldable pub LastsOn : Link → List Call → List ℕ → Tally → Type 0
LastsOn l [] tables tally = Unit {0}
LastsOn l (c ∷ cs) tables tally =
    CarriedIf l c (eqb (refusal_on c tables) 0) (relay_of tables) (perform_on c tables tally).reply (relay_of (perform_on c tables tally).tables)
    × IsUp l (relay_of (perform_on c tables tally).tables)
    × LastsOn l cs (perform_on c tables tally).tables (perform_on c tables tally).tally
