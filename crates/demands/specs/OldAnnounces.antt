-- Document 02, wish 7, on the bytes: "Show of packets not refused, over every sequence of calls from a fresh relay with no load". What is shown are the three
-- sentences of rules/specs/OldAnnounces.antt, `OldLeavesPath`, `ProofReturns` and `MarkedTakesAgain`, of the relay that the tables hold.
use Rattle.std.specs.Prelude.{ℕ, true, List, ◌≡◌, length}
use Rattle.rules.specs.Arrival.{Arrival}
use Rattle.rules.specs.Calls.{new_tally}
use Rattle.rules.specs.Run.{Call, packet, none_loads}
use Rattle.rules.specs.OldAnnounces.{Sentence}
use Rattle.rules.specs.declared.Tally.{Tally}
use Rattle.tables.specs.Places.{address_width, table_size}
use Rattle.tables.specs.Layout.{relay_of}
use Rattle.tables.specs.Shape.{is_bytes}
use Rattle.settings.specs.Calls.{fresh_on}
use Rattle.demands.specs.Given.{CallBytes, CallsBytes}
use Rattle.demands.specs.Bytes.{perform_on, tables_after_on, tally_after_on}
use Rattle.demands.specs.Refusals.{refusal_on}

-- a sentence said of a packet call on tables that isn't refused
abbrev pub OfPacketOn : Sentence → Arrival → List ℕ → List ℕ → Tally → Type 0
OfPacketOn says a output tables tally =
    refusal_on (packet a output) tables ≡ 0
    → says a (relay_of tables) (perform_on (packet a output) tables tally).reply (relay_of (perform_on (packet a output) tables tally).tables)

-- .. behind any calls cs on the tables that `fresh` makes of a buffer of the right size, whatever it held, with tally 0
abbrev pub FromFreshOn : Sentence → Type 0
FromFreshOn says =
    (buffer own : List ℕ) → length buffer ≡ table_size → is_bytes address_width own ≡ true
    → (cs : List Call) → CallsBytes cs → none_loads cs ≡ true
    → (a : Arrival) (output : List ℕ) → CallBytes (packet a output)
    → OfPacketOn says a output (tables_after_on cs (fresh_on buffer own).tables new_tally) (tally_after_on cs (fresh_on buffer own).tables new_tally)
