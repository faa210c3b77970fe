-- The log of accepted calls, in bytes that a host lends: our own address, how many calls are listed, and for each an entry of one width, the oldest first.
-- The log has one size, and any bytes of it are a log: a count over 64 reads as 64, a port modulo 16, a length over the 500 bytes of a body as 500, and an
-- entry that no call of its kind can have left as a renumbering.
use Rattle.std.specs.Prelude.{ℕ, zero, suc, ◌+◌, ◌*◌, ◌%◌, Bool, not, List, [], ◌∷◌, map, eqb, ltb, get_or}
use Rattle.octets.specs.Index.{◌and◌}
use Rattle.octets.specs.Part.{part}
use Rattle.octets.specs.BigEndian.{number}
use Rattle.octets.specs.Choice.{◌then◌otherwise◌}
pub use Rattle.numbers.specs.Numbers.{address_width}
use Rattle.numbers.specs.Numbers.{longest_packet, port_count}
use Rattle.packet.specs.Read.{reads}
use Rattle.rules.specs.Relay.{make_rate_settings}
use Rattle.rules.specs.Refusals.{rate_settings_ok}
use Rattle.rules.specs.Arrival.{Arrival}
use Rattle.rules.specs.Calls.{sets_port, sets_rate, adds, removes, renumbers, marks}
use Rattle.rules.specs.declared.RateSettings.{RateSettings}
use Rattle.history.specs.Known.{Known}
use Rattle.history.specs.After.{Entry, came, called, known_of}
use Rattle.history.specs.Opinion.{list_limit}

-- ---- places: own address 16, count 1, then the entries
abbrev pub count_at : ℕ
count_at = address_width

abbrev pub entries_at : ℕ
entries_at = count_at + 1

-- in an entry: kind 1, port 1, the host's word or on 1, mode 1, clock 5, length or size 2, body 500
abbrev pub kind_at : ℕ
kind_at = 0

abbrev pub port_at : ℕ
port_at = kind_at + 1

abbrev pub word_at : ℕ
word_at = port_at + 1

abbrev pub mode_at : ℕ
mode_at = word_at + 1

abbrev pub clock_at : ℕ
clock_at = mode_at + 1

abbrev pub clock_width : ℕ
clock_width = 5

abbrev pub length_at : ℕ
length_at = clock_at + clock_width

abbrev pub length_width : ℕ
length_width = 2

abbrev pub body_at : ℕ
body_at = length_at + length_width

abbrev pub entry_width : ℕ
entry_width = body_at + longest_packet

abbrev pub log_size : ℕ
log_size = entries_at + entry_width * list_limit

-- in the body of an entry that sets the rate: target interval 3, grace 1, penalty 3
abbrev pub target_width : ℕ
target_width = 3

abbrev pub grace_width : ℕ
grace_width = 1

abbrev pub penalty_width : ℕ
penalty_width = 3

abbrev pub grace_at : ℕ
grace_at = target_width

abbrev pub penalty_at : ℕ
penalty_at = grace_at + grace_width

-- ---- what the bytes e of an entry say
abbrev pub port_in : List ℕ → ℕ
port_in e = get_or e port_at 0 % port_count

-- the host's word on a signature; whether a port is on
abbrev pub word_in : List ℕ → Bool
word_in e = eqb (get_or e word_at 0) 1

abbrev pub mode_in : List ℕ → ℕ
mode_in e = get_or e mode_at 0

abbrev pub clock_in : List ℕ → ℕ
clock_in e = number (part e clock_at clock_width)

-- the length of a packet, the size of a port
abbrev pub length_in : List ℕ → ℕ
length_in e = number (part e length_at length_width)

abbrev pub packet_in : List ℕ → List ℕ
packet_in e = part e body_at (length_in e)

abbrev pub arrival_in : List ℕ → Arrival
arrival_in e = record { bytes = packet_in e; port = port_in e; clock = clock_in e; signed = word_in e }

abbrev pub rate_in : List ℕ → RateSettings
rate_in e = make_rate_settings (number (part e body_at target_width)) (get_or e (body_at + grace_at) 0) (number (part e (body_at + penalty_at) penalty_width))

-- a local address, a marked destination
abbrev pub address_in : List ℕ → List ℕ
address_in e = part e body_at address_width

abbrev pub images_in : List ℕ → List ℕ
images_in e = map (λ image. image % port_count) (part e body_at port_count)

-- 1 for a packet that came, 2 for a port set, 3 for the rate set, 4 and 5 for a local address added and removed, 6 for a mark, and 0 for a renumbering
unfoldable pub kind_in : List ℕ → ℕ
kind_in e =
    eqb (get_or e kind_at 0) 1 and not (reads longest_packet (packet_in e)) then 0 otherwise
    eqb (get_or e kind_at 0) 3 and not (rate_settings_ok (rate_in e)) then 0 otherwise
    ltb 6 (get_or e kind_at 0) then 0 otherwise
    get_or e kind_at 0

unfoldable pub entry_of : List ℕ → Entry
entry_of e =
    eqb (kind_in e) 1 then came (arrival_in e) otherwise
    eqb (kind_in e) 2 then called (sets_port (port_in e) (word_in e) (mode_in e) (length_in e)) otherwise
    eqb (kind_in e) 3 then called (sets_rate (rate_in e).target (rate_in e).grace (rate_in e).penalty) otherwise
    eqb (kind_in e) 4 then called (adds (address_in e)) otherwise
    eqb (kind_in e) 5 then called (removes (address_in e)) otherwise
    eqb (kind_in e) 6 then called (marks (address_in e) (clock_in e)) otherwise
    called (renumbers (images_in e))

-- ---- the list
abbrev pub own_in : List ℕ → List ℕ
own_in log = part log 0 address_width

-- the bytes of entry i
abbrev pub entry_bytes : List ℕ → ℕ → List ℕ
entry_bytes log i = part log (entries_at + entry_width * i) entry_width

-- the first n entries, the newest of them first
unfoldable pub entries_of : List ℕ → ℕ → List Entry
entries_of log zero = []
entries_of log (suc n) = entry_of (entry_bytes log n) ∷ entries_of log n

-- how many are listed
unfoldable pub listed_in : List ℕ → ℕ
listed_in log = ltb (get_or log count_at 0) list_limit then get_or log count_at 0 otherwise list_limit

-- the calls that are listed, the newest first
abbrev pub calls_in : List ℕ → List Entry
calls_in log = entries_of log (listed_in log)

-- what is known after the first n
unfoldable pub known_in : List ℕ → ℕ → Known
known_in log n = known_of (own_in log) (entries_of log n)
