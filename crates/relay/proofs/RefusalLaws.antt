-- The refusals of a packet call on bytes, row by row; and what they leave.
use Rattle.std.proofs.Common.{◌≡◌, ℕ, ◌%◌, ◌<◌, ◌≤◌, Bool, true, false, eqb, not, leb, ltb, length, List, sym, refl, ◌∙◌, arith, ltb-false, ltb-true, le-ltb, lt-ltb, eq-eqb, le-leb, leb-false}
use borrow.Author.Tests.{lt-leb, not-false}
use Rattle.outgoing.proofs.Steps.{joined}
use Rattle.octets.specs.Index.{◌and◌}
use Rattle.octets.specs.Choice.{◌then◌otherwise◌, ◌or◌}
use Rattle.octets.proofs.Index.{and_left}
use Rattle.octets.proofs.Choice.{then_true, or_no_left}
use Rattle.octets.proofs.Listed.{all_give, NoneHolds, refuses, rows_passed}
use Rattle.packet.specs.Read.{longest_packet, reading_refusal}
use Rattle.packet.specs.Write.{least_output}
use Rattle.numbers.specs.Numbers.{port_count, clock_limit}
use Rattle.rules.specs.Relay.{Relay}
use Rattle.rules.specs.View.{port_on, port_size}
use Rattle.rules.specs.Questions.{came_with}
use Rattle.rules.proofs.Accepted.{accepted_reads}
use Rattle.octets.specs.Listed.{first_of}
use Rattle.rules.specs.Refusals.{packet_rows, refusal_by}
use Rattle.tables.specs.Layout.{relay_of, well_formed}
use Rattle.tables.specs.Places.{table_size}
use Rattle.tables.proofs.Whole.{ok_relay, formed}
use Rattle.plan.specs.Decided.{CanJudge}
use Rattle.relay.specs.Refusal.{packet_refusal_on}

-- ---- the rows, as the code tests them
pub refusal_rows : (packet : List ℕ) (port clock : ℕ) (t : List ℕ) (room : ℕ) → packet_refusal_on packet port clock t room
    ≡ (not (well_formed t) then 7 otherwise
    ltb room least_output then 6 otherwise
    not (port_on (relay_of t) port) then 4 otherwise
    leb clock_limit clock or ltb clock (relay_of t).clock then 5 otherwise
    reading_refusal (port_size (relay_of t) port) packet)
unfolding packet_refusal_on refusal_by packet_rows first_of ◌then◌otherwise◌ ◌or◌
refusal_rows packet port clock t room = go (well_formed t) refl
  where
    go : (b : Bool) → well_formed t ≡ b → (b then refusal_by (relay_of t) packet port clock room otherwise 7)
        ≡ (not b then 7 otherwise
        ltb room least_output then 6 otherwise
        not (port_on (relay_of t) port) then 4 otherwise
        leb clock_limit clock or ltb clock (relay_of t).clock then 5 otherwise
        reading_refusal (port_size (relay_of t) port) packet)
    go true h = rw (ok_relay t h)
    go false h = refl

pub well_sized : (t : List ℕ) → well_formed t ≡ true → length t ≡ table_size
well_sized t h = (formed t h).size

pub port_within : (r : Relay) (port : ℕ) → port_on r port ≡ true → port < port_count
unfolding port_on
port_within r port on = ltb-true _ _ (and_left _ _ on)

pub ruleset refusal_steps = (refusal_rows, well_sized, port_within, le-leb, lt-leb, joined)

-- ---- what is known of a call that isn't refused
module _ (packet : List ℕ) (port clock : ℕ) (t : List ℕ) (room : ℕ) (none : packet_refusal_on packet port clock t room ≡ 0) where
  pub accepted_formed : well_formed t ≡ true
  unfolding packet_refusal_on ◌then◌otherwise◌
  accepted_formed = go (well_formed t) refl
    where
      go : (h : Bool) → well_formed t ≡ h → well_formed t ≡ true
      go true h = h
      go false h = let z : ◌≡◌ {A = ℕ} 7 0 = rw h at none in absurd (omega arith)

  pub accepted_by_rules : eqb (refusal_by (relay_of t) packet port clock room) 0 ≡ true
  unfolding packet_refusal_on
  accepted_by_rules = eq-eqb _ 0 (sym (then_true _ _ accepted_formed) ∙ none)

  passed_rows : NoneHolds (packet_rows (relay_of t) port clock room)
  unfolding refusal_by packet_rows all_give refuses ◌and◌
  passed_rows = rows_passed (packet_rows (relay_of t) port clock room) _ refl accepted_by_rules

  pub accepted_judge : CanJudge packet t
  accepted_judge =
      record { readable = accepted_reads (relay_of t) (came_with packet port clock true) room accepted_by_rules; formed = accepted_formed }

  pub accepted_roomy : longest_packet ≤ room
  unfolding packet_rows
  accepted_roomy = let (_, (wide, _)) = passed_rows in ltb-false _ _ wide

  pub accepted_port : port < port_count
  unfolding packet_rows port_on
  accepted_port = let (_, (_, (on, _))) = passed_rows in ltb-true _ _ (and_left _ _ (not-false _ on))

  pub accepted_clock : clock < clock_limit
  unfolding packet_rows
  accepted_clock = let (_, (_, (_, (in_time, _)))) = passed_rows in leb-false _ _ (or_no_left _ _ in_time)
