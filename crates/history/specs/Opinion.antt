-- Document 02, wish 13: what the second opinion answers, and which calls it lists. `entries` are the accepted calls since fresh, the newest first.
use Rattle.std.specs.Prelude.{ℕ, Bool, not, List, [], ◌∷◌, eqb, ltb, leb, length}
use Rattle.octets.specs.Choice.{◌then◌otherwise◌, ◌or◌}
use Rattle.octets.specs.Listed.{Test, ◌gives◌otherwise◌, first_of}
use Rattle.packet.specs.Read.{reading_refusal}
use Rattle.packet.specs.Write.{least_output}
use Rattle.numbers.specs.Numbers.{port_count, local_count, mode_count, is_size, clock_limit}
use Rattle.rules.specs.Relay.{make_rate_settings}
use Rattle.rules.specs.View.{View}
use Rattle.rules.specs.Renumbering.{one_to_one}
use Rattle.rules.specs.Refusals.{rate_settings_ok}
use Rattle.rules.specs.Arrival.{Arrival}
use Rattle.rules.specs.Tests.{is_there}
use Rattle.rules.specs.Judging.{plan, verdict, output_after}
use Rattle.rules.specs.Calls.{TableCall, sets_port, sets_rate, adds, removes, renumbers, notes_path}
use Rattle.rules.specs.Run.{Call, packet, on_tables, asks, saves, loads, Reply, answered, numbered}
use Rattle.rules.specs.declared.Answer.TheVariants.{Refused, Judged}
use Rattle.history.specs.Known.{Known, seen_at}
use Rattle.history.specs.After.{Entry, came, called, known_of}

-- "up to 64"
abbrev pub list_limit : ℕ
list_limit = 64

-- ---- the rows of the refusal table. Row 7, of tables, is not among them
-- "clock 2^40 or more, or below the last accepted clock"
abbrev pub clock_bad : Known → ℕ → Bool
clock_bad k clock = leb clock_limit clock or ltb clock k.clock

-- a packet, with an output buffer of `room` bytes: 6, 4, 5, and the reading's 1, 2, 3, 1. Wish 11: "Reading a packet is now against the arrival port's size"
unfoldable pub packet_rows : Known → ℕ → ℕ → ℕ → List (Test ℕ)
packet_rows k port clock room =
    ltb room least_output gives 6 otherwise
    not (k.port port).on gives 4 otherwise
    clock_bad k clock gives 5 otherwise
    []

unfoldable pub call_rows : Known → TableCall → List (Test ℕ)
call_rows k (sets_port port on mode size) = leb port_count port or leb mode_count mode or not (is_size size) gives 9 otherwise []
call_rows k (sets_rate target grace penalty) = not (rate_settings_ok (make_rate_settings target grace penalty)) gives 9 otherwise []
call_rows k (adds address) = k.local address gives 11 otherwise leb local_count k.locals gives 10 otherwise []
call_rows k (removes address) = not (k.local address) gives 11 otherwise []
call_rows k (renumbers images) = not (one_to_one images) gives 8 otherwise []
call_rows k (notes_path note destination clock) =
    clock_bad k clock gives 5 otherwise
    not (is_there ((seen_at clock k).path destination)) gives 12 otherwise
    []

-- "28, a call when 64 are listed, before all others"
unfoldable pub packet_refused : List ℕ → List Entry → Arrival → ℕ → ℕ
packet_refused own entries a room =
    first_of (leb list_limit (length entries) gives 28 otherwise packet_rows (known_of own entries) a.port a.clock room)
    (reading_refusal ((known_of own entries).port a.port).size a.bytes)

unfoldable pub call_refused : List ℕ → List Entry → TableCall → ℕ
call_refused own entries c = first_of (leb list_limit (length entries) gives 28 otherwise call_rows (known_of own entries) c) 0

-- ---- what is replied
-- an accepted packet is judged by what is seen at its clock
unfoldable pub judged_by : View → Arrival → List ℕ → Reply
judged_by v a output = answered (Judged (verdict v a (plan v a))) (output_after v a (plan v a) output)

-- to a packet, with the output buffer that it brings
unfoldable pub on_packet : List ℕ → List Entry → Arrival → List ℕ → Reply
on_packet own entries a output =
    eqb (packet_refused own entries a (length output)) 0
    then judged_by (seen_at a.clock (known_of own entries)) a output
    otherwise answered (Refused (packet_refused own entries a (length output))) output

-- to a call on the tables: the refusal's number, or 0
unfoldable pub on_call : List ℕ → List Entry → TableCall → Reply
on_call own entries c = numbered (call_refused own entries c)

-- ---- the list after a call: an accepted one is put in front. Questions and saves change nothing and are not listed, and a load is none of these calls
unfoldable pub listed : List ℕ → List Entry → Call → List Entry
listed own entries (packet a output) = eqb (packet_refused own entries a (length output)) 0 then came a ∷ entries otherwise entries
listed own entries (on_tables c) = eqb (call_refused own entries c) 0 then called c ∷ entries otherwise entries
listed own entries (asks q) = entries
listed own entries (saves f room) = entries
listed own entries (loads f file) = entries
