-- The stamp, behind what a packet's decision writes, leaves the rules' tables.
use Prim.Native.Nat.{ℕ}
use mathlib.Core.Bool.{Bool, true, false, not}
use mathlib.Core.List.{List}
use mathlib.Core.Path.{◌≡◌, sym, ap, ◌∙◌}
use borrow.Author.Tests.{not-true}
use Rattle.octets.specs.Bytes.{Bytes}
use Rattle.octets.specs.Index.{◌and◌}
use Rattle.octets.specs.Choice.{◌then◌otherwise◌}
use Rattle.octets.proofs.Index.{and_left, and_false}
use Rattle.packet.specs.Hash.{packet_hash}
use Rattle.rules.specs.Relay.{Relay}
use Rattle.rules.specs.View.{View}
use Rattle.rules.specs.Arrival.{Arrival}
use Rattle.rules.specs.Exempt.{exempt}
use Rattle.rules.specs.Writes.{remembers_plan, already_live, remembers, write_plan, stamp, enact}
use Rattle.rules.proofs.Stamped.{plan_hashes}
use Rattle.tables.specs.Layout.{relay_of, bytes_of}
use Rattle.update.proofs.Enacted.{clock_stamped, hash_stamped}
use Rattle.plan.specs.declared.Arrived.{Arrived}
use Rattle.plan.specs.declared.Decision.{Decision}
use Rattle.plan.specs.declared.Decision.TheVariants.{Drop, Deliver, Announce, Data, Request, Carry, Receipt}
use Rattle.plan.specs.Decided.{used_hash, seen, arrival_of, decision}
use Rattle.plan.proofs.ContextLaws.{used_own}
use Rattle.act.specs.Stored.{decision_remembers, remembers_decided, stamped}
use Rattle.act.specs.Acted.{AcceptedOn, plan_on, tables_on, written_on, remembered_on}
use Rattle.act.proofs.Inverted.{inverted}

module _ (packet : List ℕ) (m : Arrived) (t : List ℕ) where
  abbrev a : Arrival
  a = arrival_of packet m

  abbrev v : View
  v = seen m t

  abbrev r : Relay
  r = relay_of t

  pub remembered_by : (d : Decision) → decision r a ≡ d → remembers_decided packet m t d ≡ remembered_on packet m t
  unfolding remembered_on remembers remembers_plan remembers_decided
  remembered_by (Drop reason) e = ap (remembers v a) (sym (inverted r a (Drop reason) e))
  remembered_by Deliver e = ap (remembers v a) (sym (inverted r a Deliver e))
  remembered_by (Announce place known) e = ap (remembers v a) (sym (inverted r a (Announce place known) e).1)
  remembered_by (Data path) e = ap (remembers v a) (sym (inverted r a (Data path) e).1)
  remembered_by (Request path place id) e = ap (remembers v a) (sym (inverted r a (Request path place id) e).1)
  remembered_by (Carry link port) e = ap (remembers v a) (sym (inverted r a (Carry link port) e).1)
  remembered_by (Receipt place port) e = ap (remembers v a) (sym (inverted r a (Receipt place port) e).1)

  -- drops 1 and 2 leave no hash
  pub forgotten : (d : Decision) → decision_remembers d ≡ false → remembers_decided packet m t d ≡ false
  unfolding remembers_decided
  forgotten d e =
      let tested : Bool = not (exempt packet) in
      let new : Bool = not (already_live v a) in
      ap (λ (x : Bool). tested and (new and x)) e ∙ ap (λ (x : Bool). tested and x) (and_false new) ∙ and_false tested

  -- what is remembered is of a packet that isn't exempt, whose hash is its own
  remembered_own : remembered_on packet m t ≡ true → used_hash packet ≡ packet_hash packet
  unfolding remembered_on remembers
  remembered_own kept = used_own packet (not-true _ (and_left _ _ kept))

  -- u are the tables before the stamp
  pub stamp_left : AcceptedOn packet m t → Bytes t → (hash u : List ℕ) (place : ℕ) (remembered : Bool) → hash ≡ used_hash packet → u ≡ written_on packet m t
      → place ≡ r.hashes.next → remembered ≡ remembered_on packet m t → stamped u place remembered hash m.clock ≡ tables_on packet m t
  unfolding tables_on written_on remembered_on enact stamp stamped ◌then◌otherwise◌
  stamp_left ok b hash u place true is e next kept =
      let written : Relay = write_plan v a (plan_on packet m t) r in
      hash_stamped v a t b ok.formed written u e hash place (is ∙ remembered_own (sym kept)) next (plan_hashes v a (plan_on packet m t) r)
      ∙ ap (λ (k : Bool). bytes_of (stamp a k written)) kept
  stamp_left ok b hash u place false is e next kept =
      let written : Relay = write_plan v a (plan_on packet m t) r in
      clock_stamped v a t b ok.formed written u e
      ∙ ap (λ (k : Bool). bytes_of (stamp a k written)) kept
