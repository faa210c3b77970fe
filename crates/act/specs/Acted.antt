-- What an accepted packet leaves: the rules' verdict, tables and output, on the bytes.
-- For the contracts of helpers: not part of what a reader must believe.
use Rattle.std.specs.Prelude.{ℕ, ◌≤◌, ◌<◌, Bool, true, not, List, ◌≡◌, eqb, ltb, length}
use Rattle.octets.specs.Index.{◌and◌}
use Rattle.packet.specs.Read.{longest_packet, reads}
use Rattle.numbers.specs.Numbers.{port_count, clock_limit}
use Rattle.rules.specs.Relay.{Relay}
use Rattle.rules.specs.View.{View, port_on, port_size}
use Rattle.rules.specs.Arrival.{Arrival, hops, destination}
use Rattle.rules.specs.Outgoing.{spread_ports, spread_packet, path_packet}
use Rattle.rules.specs.Judging.{Plan, plan, spread_verdict, verdict, output_after}
use Rattle.rules.specs.Writes.{remembers, next_hop_of, path_expiry, limit_path, write_drop, write_plan, enact}
use Rattle.rules.specs.declared.RateEntry.{RateEntry}
use Rattle.rules.specs.declared.Reason.{Reason}
use Rattle.rules.specs.declared.Verdict.{Verdict}
use Rattle.tables.specs.Layout.{relay_of, bytes_of, well_formed}
use Rattle.update.specs.declared.Announced.{Announced}
use Rattle.plan.specs.declared.Arrived.{Arrived}
use Rattle.plan.specs.declared.Decision.{Decision}
use Rattle.plan.specs.Decided.{arrival_of, seen, path_at, decision_on}

-- what a caller shows of an accepted packet
pub record AcceptedOn (packet : List ℕ) (m : Arrived) (t : List ℕ) : Type 0 where
  pub formed : well_formed t ≡ true
  pub readable : reads longest_packet packet ≡ true
  pub port : m.port < port_count
  pub clock : m.clock < clock_limit

abbrev pub plan_on : List ℕ → Arrived → List ℕ → Plan
plan_on packet m t = plan (seen m t) (arrival_of packet m)

unfoldable pub verdict_on : List ℕ → Arrived → List ℕ → Verdict
verdict_on packet m t = verdict (seen m t) (arrival_of packet m) (plan_on packet m t)

unfoldable pub tables_on : List ℕ → Arrived → List ℕ → List ℕ
tables_on packet m t = bytes_of (enact (seen m t) (arrival_of packet m) (plan_on packet m t) (relay_of t))

-- .. before the stamp
unfoldable pub written_on : List ℕ → Arrived → List ℕ → List ℕ
written_on packet m t = bytes_of (write_plan (seen m t) (arrival_of packet m) (plan_on packet m t) (relay_of t))

-- .. and whether the stamp remembers the hash
unfoldable pub remembered_on : List ℕ → Arrived → List ℕ → Bool
remembered_on packet m t = remembers (seen m t) (arrival_of packet m) (plan_on packet m t)

unfoldable pub output_on : List ℕ → Arrived → List ℕ → List ℕ → List ℕ
output_on packet m t output = output_after (seen m t) (arrival_of packet m) (plan_on packet m t) output

-- what a caller shows of a decision d that is to be carried out
pub record CanCarryOut (packet : List ℕ) (m : Arrived) (t output : List ℕ) (d : Decision) : Type 0 where
  pub accepted : AcceptedOn packet m t
  pub roomy : longest_packet ≤ length output
  pub decided : decision_on packet m t ≡ d

-- what a function leaves that carries out what was decided: all three are the rules', but for the stamp
abbrev pub CarriesOut : List ℕ → Arrived → List ℕ → List ℕ → Verdict → List ℕ → List ℕ → Type 0
CarriesOut packet m t output verdict t' output' =
    (verdict ≡ verdict_on packet m t) × (t' ≡ written_on packet m t) × (output' ≡ output_on packet m t output)

-- .. and stamps the tables
abbrev pub Acts : List ℕ → Arrived → List ℕ → List ℕ → Verdict → List ℕ → List ℕ → Type 0
Acts packet m t output verdict t' output' =
    (verdict ≡ verdict_on packet m t) × (t' ≡ tables_on packet m t) × (output' ≡ output_on packet m t output)

-- ---- what a drop by test 15 leaves, and one for any reason
unfoldable pub limited_on : List ℕ → Arrived → List ℕ → List ℕ
limited_on packet m t = bytes_of (limit_path (seen m t) (arrival_of packet m) ((seen m t).path (destination (arrival_of packet m))) (relay_of t))

unfoldable pub dropped_on : List ℕ → Arrived → Reason → List ℕ → List ℕ
dropped_on packet m reason t = bytes_of (write_drop (seen m t) (arrival_of packet m) reason (relay_of t))

-- ---- what leaves
-- by the path at a place
abbrev pub forwarded_on : List ℕ → List ℕ → ℕ → List ℕ
forwarded_on packet t path = path_packet (path_at t path).hops (path_at t path).next_hop packet

-- whether an announce that came in by a port, and is so long once spread, leaves by another
abbrev pub spreads_to : Relay → ℕ → ℕ → ℕ → Bool
spreads_to r arrival long port = port_on r port and not (eqb port arrival) and not (ltb (port_size r port) long)

-- an announce that is spread
abbrev pub spread_on : List ℕ → List ℕ → List ℕ
spread_on packet t = spread_packet (relay_of t).own packet

abbrev pub spread_verdict_on : List ℕ → Arrived → List ℕ → Verdict
spread_verdict_on packet m t = spread_verdict (spread_ports (seen m t) (arrival_of packet m)) (spread_on packet t)

-- what an announce sets of its path, beside the blob
unfoldable pub announced_by : View → Arrival → RateEntry → Announced
announced_by v a rate =
    record {
      destination = destination a;
      port = a.port;
      hops = hops a;
      next_hop = next_hop_of a.bytes;
      expiry = path_expiry v a;
      rate = rate;
    }
