-- For the contracts of helpers: how a helper's write stands in the log, and what it is to refuse a packet. No reader has to believe this: the calls' contracts
-- (specs/Calls.antt) do not speak of it.
use Rattle.std.specs.Prelude.{ℕ, ◌+◌, ◌*◌, ◌<◌, ◌≤◌, Bool, true, List, [], ◌∷◌, ◌++◌, ◌≡◌, length, Result, Ok, Err}
use Rattle.octets.specs.Part.{patch}
use Rattle.octets.specs.BigEndian.{big_endian}
use Rattle.octets.specs.Choice.{◌then◌otherwise◌}
use Rattle.numbers.specs.Numbers.{port_count, longest_packet, clock_limit}
use Rattle.numbers.specs.declared.refusal.Refusal.{Refusal}
use Rattle.numbers.specs.declared.refusal.Refusal.TheVariants.{ListFull}
use Rattle.packet.specs.Read.{reads}
use Rattle.rules.specs.Arrival.{Arrival}
use Rattle.rules.specs.Refusals.{rate_settings_ok}
use Rattle.rules.specs.Renumbering.{one_to_one}
use Rattle.history.specs.After.{Entry}
use Rattle.history.specs.Opinion.{list_limit, packet_refused}
use Rattle.opinion_log.specs.declared.log.Entry.{Entry as LogEntry}
use Rattle.opinion_log.specs.declared.log.Entry.TheVariants.{Came, SetsPort, SetsRate, Adds as AddsAddress, Removes, Marks, Renumbers}
use Rattle.opinion_log.specs.Log.{clock_width, length_width, target_width, grace_width, penalty_width, count_at, entries_at, entry_width, own_in, entries_of, calls_in, listed_in}

-- ---- an entry written: the bytes before the body, and the log with one more entry
abbrev pub head_bytes : ℕ → ℕ → Bool → ℕ → ℕ → ℕ → List ℕ
head_bytes kind port word mode clock length =
    kind ∷ port ∷ (word then 1 otherwise 0) ∷ mode ∷ (big_endian clock_width clock ++ big_endian length_width length)

-- the body of an entry that sets the rate
abbrev pub rate_body : ℕ → ℕ → ℕ → List ℕ
rate_body target grace penalty = big_endian target_width target ++ (big_endian grace_width grace ++ big_endian penalty_width penalty)

unfoldable pub with_entry : List ℕ → ℕ → List ℕ → List ℕ
with_entry log n bytes = patch (patch log (entries_at + entry_width * n) bytes) count_at ((n + 1) ∷ [])

-- what a call that is written keeps to, so that it is read again
abbrev pub CanPut : LogEntry → Type 0
CanPut (Came packet m) = (reads longest_packet packet.now ≡ true) × (m.port < port_count) × (m.clock < clock_limit)
CanPut (SetsPort port s) = (port < port_count) × (s.size ≤ longest_packet)
CanPut (SetsRate rate) = rate_settings_ok rate ≡ true
CanPut (AddsAddress address) = Unit {0}
CanPut (Removes address) = Unit {0}
CanPut (Marks destination clock) = clock < clock_limit
CanPut (Renumbers images) = one_to_one images ≡ true

-- the log after has one more entry than the first n of the log before
pub record Adds (log : List ℕ) (n : ℕ) (x : Entry) (after : List ℕ) : Type 0 where
  pub own : own_in after ≡ own_in log
  pub lists : calls_in after ≡ x ∷ entries_of log n

-- a packet call's input
abbrev pub arrival_by : List ℕ → ℕ → ℕ → Bool → Arrival
arrival_by bytes port clock signed = record { bytes = bytes; port = port; clock = clock; signed = signed }

-- how many calls are listed, if one more has room
abbrev pub HasRoom : List ℕ → Result ℕ Refusal → Type 0
HasRoom log (Ok n) = (n ≡ listed_in log) × (n < list_limit)
HasRoom log (Err refusal) = (refusal ≡ ListFull) × (list_limit ≤ listed_in log)

-- the refusal of a packet, whatever the host's word on its signature, when n calls are listed and the output has this room
abbrev pub RefusesAs : List ℕ → ℕ → List ℕ → ℕ → ℕ → ℕ → ℕ → Type 0
RefusesAs log n bytes port clock room refusal =
    (signed : Bool) → refusal ≡ packet_refused (own_in log) (entries_of log n) (arrival_by bytes port clock signed) room
