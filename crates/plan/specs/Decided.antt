-- What the code decides of an accepted packet: the rules' plan, with the places of the records that it concerns. In t are the tables' bytes.
-- For the contracts of helpers: not part of what a reader must believe.
use Rattle.std.specs.Prelude.{ℕ, ◌<◌, Bool, true, not, List, ◌≡◌, length, replicate}
use Rattle.octets.specs.Choice.{◌then◌otherwise◌}
use Rattle.octets.specs.Index.{◌and◌}
use Rattle.packet.specs.Header.{is_data}
use Rattle.packet.specs.Read.{longest_packet, reads}
use Rattle.packet.specs.Hash.{packet_hash, link_id}
use Rattle.rules.specs.Relay.{Path, Return, Relay}
use Rattle.rules.specs.View.{View, view_at, path_place, link_place, return_place, free_link}
use Rattle.rules.specs.Arrival.{Arrival, header, destination, hash}
use Rattle.numbers.specs.Numbers.{path_count, digest_width}
use Rattle.rules.specs.Exempt.{exempt}
use Rattle.rules.specs.Rate.{rated}
use Rattle.rules.specs.Refusals.{rate_settings_ok, path_ok}
use Rattle.rules.specs.Ways.{Way, everywhere, by_path, along_link, by_return, blocked, way_on}
use Rattle.rules.specs.Tests.{is_there, leaving_port}
use Rattle.rules.specs.Judging.{Plan, dropped, delivered, follows, onward_plan, plan}
use Rattle.rules.specs.Writes.{announced_place}
use Rattle.rules.specs.declared.Link.{Link}
use Rattle.rules.specs.declared.Rated.{Rated}
use Rattle.rules.specs.declared.Reason.TheVariants.{NoWayOn}
use Rattle.tables.specs.Places.{table_size, paths_at, path_width, links_at, link_width, returns_at, return_width}
use Rattle.tables.specs.Records.{path_of, link_of, return_of}
use Rattle.tables.specs.Layout.{record_at, relay_of, well_formed}
use Rattle.plan.specs.declared.Arrived.{Arrived}
use Rattle.plan.specs.declared.Decision.{Decision}
use Rattle.plan.specs.declared.Decision.TheVariants.{Drop, Deliver, Announce, Data, Request, Carry, Receipt}

-- a packet's bytes, and how they came
abbrev pub arrival_of : List ℕ → Arrived → Arrival
arrival_of bytes m = record { bytes = bytes; port = m.port; clock = m.clock; signed = m.signed }

-- ---- the records that the tables hold
abbrev pub path_at : List ℕ → ℕ → Path
path_at t place = path_of (record_at paths_at path_width t place)

abbrev pub link_at : List ℕ → ℕ → Link
link_at t place = link_of (record_at links_at link_width t place)

abbrev pub return_at : List ℕ → ℕ → Return
return_at t place = return_of (record_at returns_at return_width t place)

-- ---- what a caller shows
-- the packet reads, and the tables have their length
pub record CanRead (packet t : List ℕ) : Type 0 where
  pub readable : reads longest_packet packet ≡ true
  pub size : length t ≡ table_size

-- .. and are well formed
pub record CanJudge (packet t : List ℕ) : Type 0 where
  pub readable : reads longest_packet packet ≡ true
  pub formed : well_formed t ≡ true

-- the path at a place keeps row 7, and so do the announce rate's settings
pub record CanKnow (t : List ℕ) (place : ℕ) : Type 0 where
  pub within : place < path_count
  pub fine : path_ok (path_at t place) ≡ true
  pub sound : rate_settings_ok (relay_of t).rate ≡ true

-- ---- the hash that goes with a packet: nothing uses an exempt packet's, and zeros stand in its place
unfoldable pub used_hash : List ℕ → List ℕ
used_hash packet = exempt packet then replicate digest_width 0 otherwise packet_hash packet

-- .. and whether it is live: an exempt packet's is not looked for
unfoldable pub hash_live : View → Arrival → Bool
hash_live v a = not (exempt a.bytes) and v.remembered (hash a)

-- ---- what the tables show
-- at the packet's clock
abbrev pub seen : Arrived → List ℕ → View
seen m t = view_at m.clock (relay_of t)

-- what the rate rule says of an announce at a clock for the path at a place
abbrev pub rated_on : List ℕ → ℕ → ℕ → Rated
rated_on t place clock = rated (relay_of t).rate clock (path_at t place).rate

-- ---- decisions
unfoldable pub decided_way : Relay → Arrival → Way → Decision
decided_way r a (everywhere known) = Announce (announced_place a known r) (is_there known)
decided_way r a (by_path p) =
    is_data (header a)
    then Data (path_place a.clock r (destination a))
    otherwise Request (path_place a.clock r (destination a)) (free_link a.clock r) (link_id a.bytes)
decided_way r a (along_link l) = Carry (link_place a.clock r (destination a)) (leaving_port a (along_link l))
decided_way r a (by_return t) = Receipt (return_place a.clock r (destination a)) (leaving_port a (by_return t))
decided_way r a (blocked why) = Drop (NoWayOn why)

unfoldable pub decided : Relay → Arrival → Plan → Decision
decided r a (dropped reason) = Drop reason
decided r a delivered = Deliver
decided r a (follows w) = decided_way r a w

-- the decision of an accepted packet
unfoldable pub decision : Relay → Arrival → Decision
decision r a = decided r a (plan (view_at a.clock r) a)

abbrev pub decision_on : List ℕ → Arrived → List ℕ → Decision
decision_on packet m t = decision (relay_of t) (arrival_of packet m)

-- the decision of tests 6 to 13
unfoldable pub onward : Relay → Arrival → Decision
onward r a = decided r a (onward_plan (view_at a.clock r) a (way_on (view_at a.clock r) a))

abbrev pub onward_on : List ℕ → Arrived → List ℕ → Decision
onward_on packet m t = onward (relay_of t) (arrival_of packet m)
