-- What is left by a packet that goes nowhere: dropped, or delivered; and what a drop writes.
use Prim.Native.Nat.{ℕ, ◌≤◌, ◌<◌}
use mathlib.Core.Bool.{true, false}
use mathlib.Core.List.{List}
use mathlib.Core.Path.{◌≡◌, sym, ap, ◌∙◌}
use lib.ListN.{get_or}
use lib.Dec.{eqb}
use Rattle.std.proofs.lemmas.Bool.Decides.{nat_tests}
use native.Mathlib.Omega.{arith}
use Rattle.octets.specs.Choice.{◌then◌otherwise◌}
use Rattle.octets.proofs.Choice.{then_false}
use Rattle.numbers.specs.Numbers.{path_count}
use Rattle.octets.specs.Bytes.{Bytes}
use Rattle.rules.specs.Relay.{Slot, empty, Path, Relay}
use Rattle.rules.specs.View.{View, view_at, path_place}
use Rattle.rules.specs.Arrival.{Arrival, destination}
use Rattle.rules.specs.Answers.{reason_number}
use Rattle.rules.specs.Rate.{entry_dropped}
use Rattle.rules.specs.Judging.{Plan, dropped, delivered, verdict, output_after}
use Rattle.rules.specs.Writes.{limit_path, write_drop, write_plan}
use Rattle.rules.specs.declared.RateEntry.{RateEntry}
use Rattle.rules.specs.declared.Reason.{Reason}
use Rattle.rules.specs.declared.Reason.TheVariants.{RateLimited}
use Rattle.rules.specs.declared.Verdict.{Verdict}
use Rattle.rules.specs.declared.Verdict.TheVariants.{Drop, Deliver}
use Rattle.tables.specs.Layout.{relay_of, bytes_of, well_formed}
use Rattle.tables.proofs.Whole.{again}
use Rattle.lookup.proofs.Found.{path_found, path_missing}
use Rattle.update.specs.Written.{rate_written}
use Rattle.update.proofs.Enacted.{rate_limited_lem}
use Rattle.plan.specs.declared.Arrived.{Arrived}
use Rattle.plan.specs.declared.Decision.TheVariants as decided
use Rattle.plan.specs.Decided.{seen, arrival_of, path_at, decision}
use Rattle.act.specs.Acted.{AcceptedOn, plan_on, verdict_on, written_on, output_on, CarriesOut, limited_on, dropped_on}
use Rattle.act.proofs.Inverted.{inverted}

module _ (packet : List ℕ) (m : Arrived) (t : List ℕ) (ok : AcceptedOn packet m t) (b : Bytes t) (output : List ℕ) where
  abbrev a : Arrival
  a = arrival_of packet m

  abbrev v : View
  v = seen m t

  abbrev r : Relay
  r = relay_of t

  -- a drop leaves what its reason writes
  pub drop_left : (reason : Reason) → decision r a ≡ decided.Drop reason → (x : Verdict) (u : List ℕ) → x ≡ Drop reason → u ≡ dropped_on packet m reason t
      → CarriesOut packet m t output x u output
  unfolding verdict_on written_on output_on verdict output_after write_plan dropped_on
  drop_left reason d x u is e =
      let todo : plan_on packet m t ≡ dropped reason = inverted r a (decided.Drop reason) d in (
        is ∙ ap (verdict v a) (sym todo),
        e ∙ ap (λ (y : Plan). bytes_of (write_plan v a y r)) (sym todo),
        ap (λ (y : Plan). output_after v a y output) (sym todo),
      )

  pub deliver_left : decision r a ≡ decided.Deliver → CarriesOut packet m t output Deliver t output
  unfolding verdict_on written_on output_on verdict output_after write_plan
  deliver_left d =
      let todo : plan_on packet m t ≡ delivered = inverted r a decided.Deliver d in (
        ap (verdict v a) (sym todo),
        sym (again t b ok.formed) ∙ ap (λ (y : Plan). bytes_of (write_plan v a y r)) (sym todo),
        ap (λ (y : Plan). output_after v a y output) (sym todo),
      )

-- ---- test 15's
not_limited : (reason : Reason) → (reason ≡ RateLimited → ⊥) → eqb (reason_number reason) 15 ≡ false
not_limited reason other = grind (arith, nat_tests)

module _ (packet : List ℕ) (m : Arrived) (t : List ℕ) (h : well_formed t ≡ true) (b : Bytes t) where
  abbrev came : Arrival
  came = arrival_of packet m

  module _ (place : ℕ) (e : place ≡ path_place m.clock (relay_of t) (destination came)) where
    pub limit_left : place < path_count → (rate : RateEntry) (u : List ℕ)
        → rate ≡ entry_dropped (relay_of t).rate m.clock (path_at t place).rate → u ≡ rate_written t place rate → u ≡ limited_on packet m t
    unfolding limited_on view_at
    limit_left l rate u is w =
        let found = path_found t m.clock (destination came) place e l in
        rate_limited_lem (seen m t) came t b h (path_at t place) rate place u l e
        (ap (λ (k : ℕ). get_or (relay_of t).paths k empty) e ∙ found) is w
        ∙ ap (λ (s : Slot Path). bytes_of (limit_path (seen m t) came s (relay_of t))) (sym found)

    pub limit_none : path_count ≤ place → t ≡ limited_on packet m t
    unfolding limited_on limit_path
    limit_none l =
        sym (again t b h)
        ∙ ap (λ (s : Slot Path). bytes_of (limit_path (seen m t) came s (relay_of t)))
        (sym (path_missing t m.clock (destination came) place e l))

  pub drop_limited : (reason : Reason) → reason ≡ RateLimited → limited_on packet m t ≡ dropped_on packet m reason t
  unfolding limited_on dropped_on write_drop ◌then◌otherwise◌
  drop_limited reason e = rw e

  pub drop_stays : (reason : Reason) → (reason ≡ RateLimited → ⊥) → t ≡ dropped_on packet m reason t
  unfolding dropped_on write_drop
  drop_stays reason other = sym (again t b h) ∙ ap bytes_of (sym (then_false _ _ (not_limited reason other)))
