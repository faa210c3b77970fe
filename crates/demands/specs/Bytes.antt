-- The calls on the bytes that a caller lends, one after the other: each gets the tables and the tally that the one before left.
use Rattle.std.specs.Prelude.{ℕ, List, [], ◌∷◌, length}
use Rattle.rules.specs.Run.{Call, packet, on_tables, asks, saves, loads, Reply, answered, numbered, told, save_reply}
use Rattle.rules.specs.Questions.{Told}
use Rattle.rules.specs.declared.Tally.{Tally}
use Rattle.tables.specs.Layout.{relay_of}
use Rattle.tables.specs.Called.{Called, call_on}
use Rattle.tables.specs.Asked.{tell_on}
use Rattle.relay.specs.Promise.{JudgementOn, packet_on}
use Rattle.saved.specs.Save.{save_refusal}
use Rattle.saved.specs.Load.{LoadedOn, load_on}

-- ---- any call
pub record OutcomeOn : Type 0 where
  pub reply : Reply
  pub tables : List ℕ
  pub tally : Tally

unfoldable pub of_packet : JudgementOn → OutcomeOn
of_packet o = record { reply = answered o.answer o.output; tables = o.tables; tally = o.tally }

unfoldable pub of_called : Tally → Called → OutcomeOn
of_called tally c = record { reply = numbered c.refusal; tables = c.tables; tally = tally }

-- a question leaves the tables and the tally
unfoldable pub of_asked : List ℕ → Tally → Told → OutcomeOn
of_asked tables tally x = record { reply = told x; tables = tables; tally = tally }

-- a save leaves them too. Its reply names the relay and the tally whose file is in the room: `save_promised`, proofs/Promised.antt
unfoldable pub of_save : List ℕ → Tally → List ℕ → OutcomeOn
of_save tables tally room =
    record { reply = save_reply (save_refusal tables (length room)) (relay_of tables) tally room; tables = tables; tally = tally }

-- a load sets both
unfoldable pub of_loaded : LoadedOn → OutcomeOn
of_loaded l = record { reply = numbered l.refusal; tables = l.tables; tally = l.tally }

unfoldable pub perform_on : Call → List ℕ → Tally → OutcomeOn
perform_on (packet arrival output) tables tally =
    of_packet (packet_on arrival.bytes arrival.port arrival.clock arrival.signed tables tally output)
perform_on (on_tables c) tables tally = of_called tally (call_on tables c)
perform_on (asks q) tables tally = of_asked tables tally (tell_on tables q)
perform_on (saves format room) tables tally = of_save tables tally room
perform_on (loads format file) tables tally = of_loaded (load_on file tables tally)

-- ---- lists of calls: what each replies, and the tables and the tally after the last
unfoldable pub replies_on : List Call → List ℕ → Tally → List Reply
replies_on [] tables tally = []
replies_on (c ∷ cs) tables tally =
    (perform_on c tables tally).reply ∷ replies_on cs (perform_on c tables tally).tables (perform_on c tables tally).tally

unfoldable pub tables_after_on : List Call → List ℕ → Tally → List ℕ
tables_after_on [] tables tally = tables
tables_after_on (c ∷ cs) tables tally = tables_after_on cs (perform_on c tables tally).tables (perform_on c tables tally).tally

unfoldable pub tally_after_on : List Call → List ℕ → Tally → Tally
tally_after_on [] tables tally = tally
tally_after_on (c ∷ cs) tables tally = tally_after_on cs (perform_on c tables tally).tables (perform_on c tables tally).tally
