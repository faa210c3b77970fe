-- For the contracts of helpers: what the walks through the log need of the plans of the packets listed, and what they find. No reader has to believe this: the
-- contracts of the second opinion's calls do not speak of it.
use Rattle.std.specs.Prelude.{ℕ, ◌<◌, ◌≤◌, Bool, true, false, Option, List, ◌≡◌, get_or}
use Rattle.octets.specs.Choice.{◌then◌otherwise◌}
use Rattle.numbers.specs.Numbers.{clock_limit}
use Rattle.packet.specs.Header.{is_data}
use Rattle.packet.specs.Read.{longest_packet, reads}
use Rattle.rules.specs.Relay.{Port, make_port}
use Rattle.rules.specs.View.{View}
use Rattle.rules.specs.Arrival.{Arrival, header}
use Rattle.rules.specs.Ways.{Way, everywhere, by_path, along_link, by_return, blocked}
use Rattle.rules.specs.Judging.{Plan, dropped, delivered, follows, plan}
use Rattle.rules.specs.Writes.{remembers, is_rate_drop}
use Rattle.rules.specs.Refusals.{rate_settings_ok}
use Rattle.rules.specs.Calls.{sets_port, sets_rate, adds, removes, renumbers, marks}
use Rattle.judging.specs.declared.Arrived.{Arrived}
use Rattle.judging.specs.declared.SeenPort.{SeenPort}
use Rattle.judging.specs.declared.SeenPath.{SeenPath}
use Rattle.judging.specs.declared.SeenWay.{SeenWay}
use Rattle.judging.specs.declared.SeenWay.TheVariants.{Everywhere, ByPath, AlongLink, ByReturn, Blocked}
use Rattle.judging.specs.declared.Planned.{Planned}
use Rattle.judging.specs.declared.Planned.TheVariants.{Drop, Deliver, Follow}
use Rattle.judging.specs.Seen.{arrival_of, path_of, EachFits}
use Rattle.history.specs.Known.{Known, seen_at}
use Rattle.history.specs.After.{Entry, came, called}
use Rattle.history.specs.Opinion.{list_limit}
use Rattle.opinion_log.specs.Log.{entry_of, entry_bytes, known_in}
use Rattle.opinion_log.specs.declared.log.Entry.{Entry as LogEntry}
use Rattle.opinion_log.specs.declared.log.Entry.TheVariants.{Came, SetsPort, SetsRate, Adds, Removes, Marks, Renumbers}
use Rattle.opinion_log.specs.declared.outcomes.Effect.{Effect}
use Rattle.opinion_log.specs.declared.outcomes.Effect.TheVariants.{Nothing, AnnouncesPath, LimitsPath, LeavesReturn, LeavesLink, RenewsLink, EmptiesReturn}
use Rattle.opinion_log.specs.declared.outcomes.Outcome.{Outcome}

-- ---- an entry that is read: its call, and what the code may build on
abbrev pub call_of : LogEntry → Entry
call_of (Came packet m) = came (arrival_of packet.now m)
call_of (SetsPort port s) = called (sets_port port s.on s.mode s.size)
call_of (SetsRate rate) = called (sets_rate rate.target rate.grace rate.penalty)
call_of (Adds address) = called (adds address)
call_of (Removes address) = called (removes address)
call_of (Marks destination clock) = called (marks destination clock)
call_of (Renumbers images) = called (renumbers images)

abbrev pub Fine : LogEntry → Type 0
Fine (Came packet m) = (reads longest_packet packet.now ≡ true) × (m.clock < clock_limit)
Fine (SetsPort port s) = Unit {0}
Fine (SetsRate rate) = rate_settings_ok rate ≡ true
Fine (Adds address) = Unit {0}
Fine (Removes address) = Unit {0}
Fine (Marks destination clock) = Unit {0}
Fine (Renumbers images) = Unit {0}

-- ---- what a packet changed besides the clock and the remembered hashes
unfoldable pub way_effect : Arrival → Way → Effect
way_effect a (everywhere known) = AnnouncesPath
way_effect a (by_path p) = is_data (header a) then LeavesReturn otherwise LeavesLink
way_effect a (along_link l) = RenewsLink
way_effect a (by_return t) = EmptiesReturn
way_effect a (blocked why) = Nothing

unfoldable pub plan_effect : Arrival → Plan → Effect
plan_effect a (dropped reason) = is_rate_drop reason then LimitsPath otherwise Nothing
plan_effect a delivered = Nothing
plan_effect a (follows w) = way_effect a w

unfoldable pub effect_of : Entry → Known → Effect
effect_of (came a) k = plan_effect a (plan (seen_at a.clock k) a)
effect_of (called c) k = Nothing

-- whether an entry's hash is remembered from it on
unfoldable pub keeps_hash : Entry → Known → Bool
keeps_hash (came a) k = remembers (seen_at a.clock k) a (plan (seen_at a.clock k) a)
keeps_hash (called c) k = false

abbrev pub idle : Outcome
idle = record { effect = Nothing; kept = false }

-- what each of the first n entries did
abbrev pub EffectsOf : List ℕ → List Outcome → ℕ → Type 0
EffectsOf log outcomes n = (i : ℕ) → i < n → (get_or outcomes i idle).effect ≡ effect_of (entry_of (entry_bytes log i)) (known_in log i)

-- whether the hash of each is remembered
abbrev pub KeptOf : List ℕ → List Outcome → ℕ → Type 0
KeptOf log outcomes n = (i : ℕ) → i < n → (get_or outcomes i idle).kept ≡ keeps_hash (entry_of (entry_bytes log i)) (known_in log i)

-- what a question about paths, links and return records may build on
abbrev pub CanAsk : List ℕ → List Outcome → ℕ → Type 0
CanAsk log outcomes n = (n ≤ list_limit) × EffectsOf log outcomes n

-- ---- a port's settings
abbrev pub port_seen : SeenPort → Port
port_seen s = make_port s.on s.mode s.size

-- ---- the newest path of a destination after the first i entries
pub record PathKnown (log : List ℕ) (i : ℕ) (destination : List ℕ) (s : Option SeenPath) : Type 0 where
  pub is : path_of destination s ≡ (known_in log i).path destination
  pub fits : EachFits s

-- ---- a packet, as far as it can be judged by the first n entries
abbrev pub CanJudge : List ℕ → List Outcome → ℕ → List ℕ → Type 0
CanJudge log outcomes n packet = CanAsk log outcomes n × KeptOf log outcomes n × (reads longest_packet packet ≡ true)

-- what is known of it
abbrev pub view_by : List ℕ → ℕ → Arrived → View
view_by log n m = seen_at m.clock (known_in log n)

-- ---- the effect of what was planned, by what is seen; `data` says whether the packet is data
abbrev pub way_effect_by : SeenWay → Bool → Effect
way_effect_by Everywhere data₀ = AnnouncesPath
way_effect_by (ByPath p) data₀ = data₀ then LeavesReturn otherwise LeavesLink
way_effect_by (AlongLink l) data₀ = RenewsLink
way_effect_by (ByReturn t) data₀ = EmptiesReturn
way_effect_by (Blocked why) data₀ = Nothing

abbrev pub planned_effect : Planned → Bool → Effect
planned_effect (Drop reason) data₀ = is_rate_drop reason then LimitsPath otherwise Nothing
planned_effect Deliver data₀ = Nothing
planned_effect (Follow w) data₀ = way_effect_by w data₀
