-- What a packet call's input is, where the call is not refused.
use Prim.Native.Nat.{ℕ, ◌≤◌, ◌<◌}
use mathlib.Core.Bool.{true}
use mathlib.Core.Path.{◌≡◌, refl, ap, sym, ◌∙◌}
use lib.Dec.{eqb}
use borrow.Author.Tests.{ltb-true, ltb-false, leb-false, not-false}
use Rattle.octets.proofs.Index.{and_left, and_right}
use Rattle.octets.proofs.Choice.{or_no_left, or_no_right}
use Rattle.octets.specs.Index.{◌and◌}
use Rattle.octets.proofs.Listed.{all_give}
use Rattle.packet.specs.Read.{longest_packet, reading_refusal, reads}
use Rattle.packet.proofs.ReadLaws.{reads_longest}
use Rattle.numbers.specs.Numbers.{port_count, is_size, clock_limit}
use Rattle.rules.specs.Relay.{no_port, Relay}
use Rattle.rules.specs.View.{port_on, port_size}
use Rattle.rules.specs.Refusals.{port_ok, tables_ok, packet_rows, packet_refusal, refusal_by}
use Rattle.rules.specs.Arrival.{Arrival}
use Rattle.octets.proofs.Listed.{none_first, refuses, rows_passed}
use Rattle.rules.proofs.Tables.{table_get_d}

pub no_port_ok : port_ok no_port ≡ true
unfolding port_ok is_size ◌and◌
no_port_ok = refl

-- behind row 7 every port's size is one, and so what is read against it is refused by 1, 2 and 3 alone
pub arrival_size : (r : Relay) → tables_ok r ≡ true → (port : ℕ) → is_size (port_size r port) ≡ true
unfolding tables_ok port_size port_ok
arrival_size r fine port =
    and_right _ _ (table_get_d port_ok port_count r.ports (and_left _ _ (and_right _ _ (and_right _ _ fine))) port no_port no_port_ok)

pub record Accepted (r : Relay) (a : Arrival) : Type 0 where
  pub port : a.port < port_count
  pub clock : a.clock < clock_limit
  pub not_before : r.clock ≤ a.clock

module _ (r : Relay) (a : Arrival) (room : ℕ) (accepted : eqb (packet_refusal r a room) 0 ≡ true) where
  pub accepted_packet : Accepted r a
  unfolding refusal_by packet_rows port_on all_give refuses ◌and◌
  accepted_packet =
      let (_, (_, (on, (in_time, _)))) = rows_passed (packet_rows r a.port a.clock room) _ refl accepted in
      record {
        port = ltb-true _ _ (and_left _ _ (not-false _ on));
        clock = leb-false _ _ (or_no_left _ _ in_time);
        not_before = ltb-false _ _ (or_no_right _ _ in_time);
      }

  -- the packet reads at the arrival port's size
  pub accepted_fits : reads (port_size r a.port) a.bytes ≡ true
  unfolding refusal_by packet_rows all_give refuses reads ◌and◌
  accepted_fits =
      let rows = packet_rows r a.port a.clock room in
      let read = reading_refusal (port_size r a.port) a.bytes in
      sym (ap (λ (n : ℕ). eqb n 0) (none_first rows read (rows_passed rows _ refl accepted))) ∙ accepted

  -- .. and so at 500
  pub accepted_reads : reads longest_packet a.bytes ≡ true
  accepted_reads = reads_longest (port_size r a.port) a.bytes accepted_fits
