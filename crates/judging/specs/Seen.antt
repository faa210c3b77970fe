-- What the structs of src/lib.rt stand for, and when a struct says what a view shows to one packet.
use Rattle.std.specs.Prelude.{ℕ, ◌≤◌, true, false, Option, Some, None, List, ◌≡◌, get_or}
use Rattle.octets.specs.Choice.{◌then◌otherwise◌}
use Rattle.numbers.specs.Numbers.{longest_packet, blob_limit}
use Rattle.packet.specs.Header.{is_link_request}
use Rattle.packet.specs.Read.{header_of, parts_of}
use Rattle.packet.specs.Hash.{link_id}
use Rattle.rules.specs.Relay.{Slot, empty, used, Path, Return, Blobs, make_path, make_return}
use Rattle.rules.specs.View.{View}
use Rattle.rules.specs.Arrival.{Arrival, destination, hash}
use Rattle.rules.specs.Refusals.{rate_settings_ok, rate_entry_ok}
use Rattle.rules.specs.Ways.{Way, everywhere, by_path, along_link, by_return, blocked}
use Rattle.rules.specs.Judging.{Plan, dropped, delivered, follows}
use Rattle.rules.specs.declared.Link.{Link}
use Rattle.judging.specs.declared.Stored.{Stored}
use Rattle.judging.specs.declared.Arrived.{Arrived}
use Rattle.judging.specs.declared.SeenPort.{SeenPort}
use Rattle.judging.specs.declared.SeenPath.{SeenPath}
use Rattle.judging.specs.declared.SeenReturn.{SeenReturn}
use Rattle.judging.specs.declared.Seen.{Seen}
use Rattle.judging.specs.declared.SeenWay.{SeenWay}
use Rattle.judging.specs.declared.SeenWay.TheVariants.{Everywhere, ByPath, AlongLink, ByReturn, Blocked}
use Rattle.judging.specs.declared.Planned.{Planned}
use Rattle.judging.specs.declared.Planned.TheVariants.{Drop, Deliver, Follow}

-- a packet's bytes, and how they came
abbrev pub arrival_of : List ℕ → Arrived → Arrival
arrival_of bytes m = record { bytes = bytes; port = m.port; clock = m.clock; signed = m.signed }

-- ---- the records, under the key that they were looked for by
abbrev pub blobs_of : Stored → Blobs
blobs_of s = record { count = s.count; places = s.places }

abbrev pub path_record : List ℕ → SeenPath → Path
path_record destination s = make_path destination s.port s.hops s.next_hop s.expiry s.rate s.notes (blobs_of s.blobs)

abbrev pub return_record_of : List ℕ → SeenReturn → Return
return_record_of key s = make_return key s.arrival s.leaving s.expiry

abbrev pub slot_of : {A B : Type 0} → (A → B) → Option A → Slot B
slot_of record_of None = empty
slot_of record_of (Some s) = used (record_of s)

abbrev pub path_of : List ℕ → Option SeenPath → Slot Path
path_of destination = slot_of (path_record destination)

abbrev pub link_of : Option Link → Slot Link
link_of = slot_of (λ l. l)

abbrev pub return_of : List ℕ → Option SeenReturn → Slot Return
return_of key = slot_of (return_record_of key)

-- ---- the view of one packet
-- judging looks for one link: a link request's own, for test 7, and the destination's of any other packet
unfoldable pub link_key_of : List ℕ → List ℕ
link_key_of p = is_link_request (header_of p) then link_id p otherwise (parts_of p).destination

abbrev pub link_key : Arrival → List ℕ
link_key a = link_key_of a.bytes

-- a number that no port has: off
abbrev pub no_seen_port : SeenPort
no_seen_port = record { on = false; mode = 0; size = longest_packet }

abbrev pub port_of : Seen → ℕ → SeenPort
port_of s port = get_or s.ports port no_seen_port

-- all keys but the packet's own are forgotten. There is room, and no expired path is seen
unfoldable pub view_of : Seen → Arrival → View
view_of s a =
    record {
      own = s.own;
      rate = s.rate;
      on = λ port. (port_of s port).on;
      mode = λ port. (port_of s port).mode;
      size = λ port. (port_of s port).size;
      local = λ key. s.local;
      remembered = λ key. s.remembered;
      path = λ key. path_of (destination a) s.path;
      expired = λ key. empty;
      link = λ key. link_of s.link;
      return = λ key. return_of (destination a) s.back;
      room_for_path = true;
      room_for_link = true;
    }

-- s says what v shows to the packet a. Then judging by s is judging by v: proofs/Narrow.antt
pub record Sees (s : Seen) (v : View) (a : Arrival) : Type 0 where
  pub own : s.own ≡ v.own
  pub rate : s.rate ≡ v.rate
  pub on : (port : ℕ) → (port_of s port).on ≡ v.on port
  pub mode : (port : ℕ) → (port_of s port).mode ≡ v.mode port
  pub size : (port : ℕ) → (port_of s port).size ≡ v.size port
  pub local : s.local ≡ v.local (destination a)
  pub remembered : s.remembered ≡ v.remembered (hash a)
  pub path : path_of (destination a) s.path ≡ v.path (destination a)
  pub link : link_of s.link ≡ v.link (link_key a)
  pub return : return_of (destination a) s.back ≡ v.return (destination a)
  pub expired : v.expired (destination a) ≡ empty
  pub room_for_path : v.room_for_path ≡ true
  pub room_for_link : v.room_for_link ≡ true

-- refusal 7's bounds, as far as judging needs them
pub record PathFits (s : SeenPath) : Type 0 where
  pub entry : rate_entry_ok s.rate ≡ true
  pub blobs : s.blobs.count ≤ blob_limit

abbrev pub EachFits : Option SeenPath → Type 0
EachFits None = Unit {0}
EachFits (Some s) = PathFits s

pub record Fits (s : Seen) : Type 0 where
  pub settings : rate_settings_ok s.rate ≡ true
  pub path : EachFits s.path

-- ---- plans, by the records that are seen
abbrev pub way_of : Seen → Arrival → SeenWay → Way
way_of s a Everywhere = everywhere (path_of (destination a) s.path)
way_of s a (ByPath p) = by_path (path_record (destination a) p)
way_of s a (AlongLink l) = along_link l
way_of s a (ByReturn t) = by_return (return_record_of (destination a) t)
way_of s a (Blocked why) = blocked why

abbrev pub plan_of : Seen → Arrival → Planned → Plan
plan_of s a (Drop reason) = dropped reason
plan_of s a Deliver = delivered
plan_of s a (Follow w) = follows (way_of s a w)

-- ---- a test, as the struct shows it to a packet that so came
abbrev pub as_seen : {A : Type 0} → (View → Arrival → A) → Seen → List ℕ → Arrived → A
as_seen test s bytes m = test (view_of s (arrival_of bytes m)) (arrival_of bytes m)

-- .. and one of the way that it would follow
abbrev pub on_seen_way : {A : Type 0} → (View → Arrival → Way → A) → Seen → List ℕ → Arrived → SeenWay → A
on_seen_way test s bytes m w = test (view_of s (arrival_of bytes m)) (arrival_of bytes m) (way_of s (arrival_of bytes m) w)
