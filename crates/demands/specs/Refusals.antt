-- Document 01, "Numbered refusals", on the bytes: which number each call returns, or 0.
use Rattle.std.specs.Prelude.{ℕ, Bool, true, false, not, List, eqb, length}
use Rattle.octets.specs.Choice.{◌then◌otherwise◌}
use Rattle.rules.specs.Relay.{Relay}
use Rattle.rules.specs.Refusals.{packet_refusal}
use Rattle.rules.specs.Calls.{table_refusal}
use Rattle.rules.specs.Questions.{Told, refused, none, a_port, a_rate, an_address, a_path, a_link, a_number, yes_or_no, question_refusal}
use Rattle.rules.specs.Saved.{save_refusal, load_refusal}
use Rattle.rules.specs.Run.{Call, packet, on_tables, asks, saves, loads, Reply, answered, numbered, told, saved, unsaved}
use Rattle.rules.specs.declared.Answer.TheVariants.{Refused, Judged}
use Rattle.tables.specs.Layout.{relay_of, well_formed}
use Rattle.saved.specs.Save.{save_refusal as save_refusal_on}
use Rattle.saved.specs.Load.{load_refusal as load_refusal_on}

-- "Tests run in this row order, each call making those that concern it (8 to 11 come after 7; 11 before 10)"
unfoldable pub refusal : Call → Relay → ℕ
refusal (packet arrival output) r = packet_refusal r arrival (length output)
refusal (on_tables c) r = table_refusal c r
refusal (asks q) r = question_refusal q r
refusal (saves format room) r = save_refusal format (length room) r
refusal (loads format file) r = load_refusal (format.says file)

-- row 7 is decided on the tables' bytes. Of tables that pass, the rows are those of the relay that they hold
unfoldable pub after_seven : Call → List ℕ → ℕ
after_seven c tables = well_formed tables then refusal c (relay_of tables) otherwise 7

unfoldable pub refusal_on : Call → List ℕ → ℕ
refusal_on (packet arrival output) tables = after_seven (packet arrival output) tables
refusal_on (on_tables c) tables = after_seven (on_tables c) tables
refusal_on (asks q) tables = after_seven (asks q) tables
-- document 02, Wish 4: "saving gives 7, then 25"; a load is refused by its file, and "25 .. for a load not the tables' size, what it held unread"
refusal_on (saves format room) tables = save_refusal_on tables (length room)
refusal_on (loads format file) tables = load_refusal_on file (length tables)

-- "Each returns its number alone": the reply that refuses a call, with the output as it was
unfoldable pub refusing : Call → ℕ → Reply
refusing (packet arrival output) n = answered (Refused n) output
refusing (on_tables c) n = numbered n
refusing (asks q) n = told (refused n)
refusing (saves format room) n = unsaved n room
refusing (loads format file) n = numbered n

unfoldable pub is_refused : Told → Bool
is_refused (refused n) = true
is_refused none = false
is_refused (a_port port) = false
is_refused (a_rate rate) = false
is_refused (an_address address) = false
is_refused (a_path p) = false
is_refused (a_link l) = false
is_refused (a_number n) = false
is_refused (yes_or_no answer) = false

unfoldable pub is_refusal : Reply → Bool
is_refusal (answered (Refused n) output) = true
is_refusal (answered (Judged verdict) output) = false
is_refusal (numbered n) = not (eqb n 0)
is_refusal (told x) = is_refused x
is_refusal (saved relay tally room) = false
is_refusal (unsaved n room) = true
