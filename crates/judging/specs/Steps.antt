-- For the contracts of helpers: not part of what a reader must believe, but for `settings_view`, `left_return` and `limited`.
use Rattle.std.specs.Prelude.{ℕ, ◌+◌, ◌≤◌, Option, Some, None, Bool, true, false, not, List, [], ◌≡◌, eqb, ltb, leb, length, get_or}
use Rattle.octets.specs.Index.{◌and◌}
use Rattle.octets.specs.Choice.{◌then◌otherwise◌}
use Rattle.octets.specs.Listed.{◌each_give◌otherwise◌, first_of}
use Rattle.octets.specs.Part.{patch}
use Rattle.packet.specs.Read.{longest_packet, reads, payload}
use Rattle.packet.specs.Announce.{emission_of}
use Rattle.packet.specs.Places.{blob_end}
use Rattle.numbers.specs.Numbers.{blob_limit, return_lifetime}
use Rattle.rules.specs.Relay.{empty, Blobs, Path}
use Rattle.rules.specs.View.{View}
use Rattle.rules.specs.Arrival.{Arrival, destination}
use Rattle.rules.specs.Blobs.{held, greatest_emission, one_blob, store_blob}
use Rattle.rules.specs.Rate.{starts_at, entry_accepted, entry_revived, entry_dropped}
use Rattle.rules.specs.Tests.{of_known, known_tests}
use Rattle.rules.specs.Ways.{Way}
use Rattle.rules.specs.Outgoing.{outgoing}
use Rattle.rules.specs.Judging.{Plan, dropped, follows, leaving_tests, way_verdict, leaves}
use Rattle.rules.specs.Writes.{remembers_drop}
use Rattle.rules.specs.declared.RateSettings.{RateSettings}
use Rattle.rules.specs.declared.RateEntry.{RateEntry}
use Rattle.rules.specs.declared.Verdict.{Verdict}
use Rattle.judging.specs.declared.Arrived.{Arrived}
use Rattle.judging.specs.declared.SeenPort.{SeenPort}
use Rattle.judging.specs.declared.SeenPath.{SeenPath}
use Rattle.judging.specs.declared.SeenReturn.{SeenReturn}
use Rattle.judging.specs.declared.Seen.{Seen}
use Rattle.judging.specs.declared.SeenWay.{SeenWay}
use Rattle.judging.specs.declared.SeenWay.TheVariants.{Everywhere}
use Rattle.judging.specs.declared.Planned.{Planned}
use Rattle.judging.specs.declared.Planned.TheVariants.{Drop, Deliver, Follow}
use Rattle.judging.specs.Seen.{arrival_of, blobs_of, path_record, no_seen_port, view_of, PathFits, Fits, way_of}

-- ---- the tests of a known path
-- what a caller shows: only an announce goes everywhere, and its form is good
pub record CanTest (s : Seen) (packet : List ℕ) (w : SeenWay) : Type 0 where
  pub readable : reads longest_packet packet ≡ true
  pub fits : Fits s
  pub long : w ≡ Everywhere → blob_end ≤ length (payload packet)

-- what they are made of
pub record CanKnow (s : SeenPath) (packet : List ℕ) : Type 0 where
  pub readable : reads longest_packet packet ≡ true
  pub fits : PathFits s
  pub long : blob_end ≤ length (payload packet)

-- one of them, of a path that is seen
abbrev pub of_seen_path : (Arrival → Path → Bool) → SeenPath → List ℕ → Arrived → Bool
of_seen_path test s packet m = test (arrival_of packet m) (path_record (destination (arrival_of packet m)) s)

-- the path that they are made of, if they are
abbrev pub Tested : Seen → List ℕ → Arrived → SeenWay → Option SeenPath → Type 0
Tested s packet m w None = (test : Path → Bool) → of_known (arrival_of packet m) test (way_of s (arrival_of packet m) w) ≡ false
Tested s packet m w (Some p) =
    CanKnow p packet
    × ((test : Arrival → Path → Bool)
    → of_known (arrival_of packet m) (test (arrival_of packet m)) (way_of s (arrival_of packet m) w) ≡ of_seen_path test p packet m)

-- the plan of tests 12, 16 and 13, and of all behind 9
unfoldable pub leaving_plan : View → Arrival → Way → Plan
leaving_plan v a w = first_of (leaving_tests v a w) (follows w)

unfoldable pub last_plan : View → Arrival → Way → Plan
last_plan v a w = first_of (known_tests v a w each_give dropped otherwise leaving_tests v a w) (follows w)

-- ---- what leaves
-- whether an announce that came in by a port, and is so long once spread, leaves by another
abbrev pub spreads_to : List SeenPort → ℕ → ℕ → ℕ → Bool
spreads_to ports arrival long port = (get_or ports port no_seen_port).on and not (eqb port arrival) and not (ltb (get_or ports port no_seen_port).size long)

-- the verdict r and the output o, by the way that the packet follows
abbrev pub Sends : Seen → Arrival → SeenWay → List ℕ → Verdict → List ℕ → Type 0
Sends s a w output r o =
    (r ≡ way_verdict (view_of s a) a (way_of s a w))
    × (o ≡ (leaves r then patch output 0 (outgoing (view_of s a) a (way_of s a w)) otherwise output))

-- ---- what a packet leaves behind
-- a view of which only the rate settings and the arrival port's mode are known: an accepted announce's path reads no more of it (`announced_by_lem`,
-- proofs/Narrow.antt)
abbrev pub settings_view : RateSettings → ℕ → View
settings_view settings mode =
    record {
      own = [];
      rate = settings;
      on = λ port. false;
      mode = λ port. mode;
      size = λ port. 0;
      local = λ key. false;
      remembered = λ key. false;
      path = λ key. empty;
      expired = λ key. empty;
      link = λ key. empty;
      return = λ key. empty;
      room_for_path = true;
      room_for_link = true;
    }

abbrev pub revived_by : SeenPath → List ℕ → Bool
revived_by s blob = s.notes.marked and leb (greatest_emission (held (blobs_of s.blobs))) (emission_of blob)

abbrev pub rate_announced : RateSettings → Option SeenPath → List ℕ → ℕ → RateEntry
rate_announced settings None blob clock = starts_at clock
rate_announced settings (Some s) blob clock = revived_by s blob then entry_revived clock s.rate otherwise entry_accepted settings clock s.rate

abbrev pub blobs_announced : Option SeenPath → List ℕ → Blobs
blobs_announced None blob = one_blob blob_limit blob
blobs_announced (Some s) blob = store_blob blob_limit blob (blobs_of s.blobs)

-- wish 5: "A rate drop changes violations and blocked-until alone, besides what every drop changes"
abbrev pub limited : RateSettings → ℕ → SeenPath → SeenPath
limited settings clock s = record s { rate = entry_dropped settings clock s.rate }

-- the return record of any packet that so came and goes by the path: `return_left`, proofs/Left.antt
abbrev pub left_return : SeenPath → Arrived → SeenReturn
left_return s m = record { arrival = m.port; leaving = s.port; expiry = m.clock + return_lifetime }

abbrev pub plan_remembers : Planned → Bool
plan_remembers (Drop reason) = remembers_drop reason
plan_remembers Deliver = true
plan_remembers (Follow w) = true
