-- Document 01, "Numbered refusals": the rows in order, for each call those that concern it. 0 stands for no refusal.
use Rattle.std.specs.Prelude.{ℕ, Bool, true, not, List, [], ◌∷◌, eqb, ltb, leb, length}
use Rattle.octets.specs.Index.{◌and◌}
use Rattle.octets.specs.Choice.{◌or◌}
use Rattle.packet.specs.Read.{reading_refusal}
use Rattle.packet.specs.Write.{least_output}
use Rattle.octets.specs.Listed.{Test, ◌gives◌otherwise◌, first_of}
use Rattle.numbers.specs.Numbers.{port_count, local_count, path_count, link_count, return_count, hash_count, blob_limit, mode_count, is_size, clock_limit, time_limit, target_limit, grace_limit, penalty_limit, blocked_limit}
use Rattle.rules.specs.Relay.{Port, Slot, empty, used, Path, Return, Remembered, Relay, lowest_free}
use Rattle.rules.specs.View.{port_on, port_size}
use Rattle.rules.specs.Arrival.{Arrival}
use Rattle.rules.specs.declared.Link.{Link}
use Rattle.rules.specs.declared.RateSettings.{RateSettings}
use Rattle.rules.specs.declared.RateEntry.{RateEntry}

-- ---- row 7, of a relay's tables. Marks and unused records, which only bytes can spoil, are the layout's part of this row
-- "or time over 2^40 + 604,799": the last clock and every expiry. Blocked-until and the last announce have bounds of their own, `rate_entry_ok`
unfoldable pub time_ok : ℕ → Bool
time_ok time = leb time time_limit

-- mode unknown; wish 11: "9 also for a size outside the range ..; 7 for a stored one", of all sixteen ports, off ones too
unfoldable pub port_ok : Port → Bool
port_ok p = ltb p.mode mode_count and is_size p.size

-- wish 5: "Target, grace and penalty are at most 86,400, 254 and 604,800"
unfoldable pub rate_settings_ok : RateSettings → Bool
rate_settings_ok s = leb s.target target_limit and leb s.grace grace_limit and leb s.penalty penalty_limit

-- "refusal 7's bound is 2^40 + 691,199 for blocked-until, 2^40 - 1 for the last announce". Violations are a byte, which no bytes of tables can break
unfoldable pub rate_entry_ok : RateEntry → Bool
rate_entry_ok e = ltb e.last clock_limit and ltb e.violations 256 and leb e.blocked_until blocked_limit

-- a stored port over 15; blob count outside its limits in a used record: 1..16 in document 01, in wish 8 "Refusal 7 reads 1..64". Hops are a byte, which no
-- bytes of tables can break
unfoldable pub path_ok : Path → Bool
path_ok p =
    ltb p.port port_count
    and ltb p.hops 256
    and leb 1 p.blobs.count
    and leb p.blobs.count blob_limit
    and time_ok p.expiry
    and rate_entry_ok p.rate

unfoldable pub link_ok : Link → Bool
link_ok l = ltb l.asking port_count and ltb l.answering port_count and time_ok l.expiry

unfoldable pub return_ok : Return → Bool
return_ok t = ltb t.arrival port_count and ltb t.leaving port_count and time_ok t.expiry

unfoldable pub hash_ok : Remembered → Bool
hash_ok m = time_ok m.expiry

-- an unused record breaks no rule
unfoldable pub slot_ok : {A : Type 0} → (A → Bool) → Slot A → Bool
slot_ok ok empty = true
slot_ok ok (used x) = ok x

unfoldable pub all : {A : Type 0} → (A → Bool) → List A → Bool
all ok [] = true
all ok (x ∷ xs) = ok x and all ok xs

-- a table of the right size, each of whose elements keeps the rule
unfoldable pub table_ok : {A : Type 0} → ℕ → (A → Bool) → List A → Bool
table_ok n ok xs = eqb (length xs) n and all ok xs

-- row 7 as far as a relay can break it; no other count of a table's records is stored
unfoldable pub tables_ok : Relay → Bool
tables_ok r =
    time_ok r.clock
    and rate_settings_ok r.rate
    and table_ok port_count port_ok r.ports
    and eqb (length r.locals) local_count
    and table_ok path_count (slot_ok path_ok) r.paths
    and table_ok link_count (slot_ok link_ok) r.links
    and table_ok return_count (slot_ok return_ok) r.returns.slots
    and ltb r.returns.next return_count
    and table_ok hash_count (slot_ok hash_ok) r.hashes.slots
    and ltb r.hashes.next hash_count

-- ---- row 5, of a packet and of a mark: "clock 2^40 or more, or below the last accepted clock". Wish 6: "An accepted mark sets the last clock", so the last
-- accepted clock is that of packets and marks
abbrev pub clock_bad : Relay → ℕ → Bool
clock_bad r clock = leb clock_limit clock or ltb clock r.clock

-- ---- a packet, with an output buffer of `room` bytes: 7, 6, 4, 5, and the reading's 1, 2, 3, 1. Wish 11: "Reading a packet is now against the arrival
-- port's size". Behind row 7 this is a size, so that the reader's 9 isn't given: `arrival_size`, proofs/Accepted.antt
unfoldable pub packet_rows : Relay → ℕ → ℕ → ℕ → List (Test ℕ)
packet_rows r port clock room =
    not (tables_ok r) gives 7 otherwise
    ltb room least_output gives 6 otherwise
    not (port_on r port) gives 4 otherwise
    clock_bad r clock gives 5 otherwise
    []

unfoldable pub refusal_by : Relay → List ℕ → ℕ → ℕ → ℕ → ℕ
refusal_by r bytes port clock room = first_of (packet_rows r port clock room) (reading_refusal (port_size r port) bytes)

abbrev pub packet_refusal : Relay → Arrival → ℕ → ℕ
packet_refusal r a room = refusal_by r a.bytes a.port a.clock room

-- ---- the lowest empty place for a local address
unfoldable pub empty_local : Relay → ℕ
empty_local r = lowest_free (λ address. true) local_count r.locals
