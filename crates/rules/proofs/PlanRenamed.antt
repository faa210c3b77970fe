-- What is planned of a renamed packet by a renamed view, and answered: what was, renamed; and the same bytes leave.
use Prim.Native.Nat.{ℕ}
use mathlib.Core.Bool.{Bool, true, false, not}
use mathlib.Core.List.{List}
use mathlib.Core.Path.{◌≡◌, refl, sym, ap, ap₂, ◌∙◌}
use lib.Dec.{eqb}
use lib.ListN.{length}
use Rattle.octets.specs.Index.{◌and◌}
use Rattle.octets.specs.Choice.{◌then◌otherwise◌}
use Rattle.octets.specs.Part.{patch}
use Rattle.octets.proofs.Index.{and_no}
use Rattle.octets.proofs.Choice.{then_ap}
use Rattle.octets.specs.Listed.{valued}
use Rattle.rules.specs.View.{View}
use Rattle.rules.specs.Renumbering.{image, one_to_one, preimage}
use Rattle.rules.specs.Arrival.{Arrival}
use Rattle.rules.specs.Ways.{Way, everywhere, by_path, along_link, by_return, blocked, way_on}
use Rattle.rules.specs.Answers.{port_set, image_set, rename_verdict}
use Rattle.rules.specs.Outgoing.{spread_packet, exceeds, spread_ports, outgoing}
use Rattle.rules.specs.Judging.{Plan, dropped, delivered, follows, early_tests, onward_tests, onward_plan, plan, spread_verdict, way_verdict, verdict, leaves, output_after}
use Rattle.rules.specs.Run.{rename_arrival}
use Rattle.rules.specs.declared.Verdict.{Verdict}
use Rattle.rules.specs.declared.Verdict.TheVariants.{Drop, Deliver, Forward, Spread, Kept}
use Rattle.octets.proofs.Listed.{first_ap}
use Rattle.octets.proofs.JoinedTests.{joined_valued}
use Rattle.rules.proofs.Images.{image_port, image_eqb, preimage_holds, source, source_port}
use Rattle.rules.proofs.PortSets.{image_set_lem, image_set_empty}
use Rattle.rules.proofs.ViewRenamed.{rename_view}
use Rattle.rules.proofs.TestsRenamed.{rename_way, way_on_renamed, not_ours_renamed, duplicate_renamed, bytes_renamed, own_announce_renamed, delivered_here_renamed, no_way_on_renamed, why_blocked_renamed, already_known_renamed, wrong_side_renamed, not_signed_renamed, known_tests_renamed, leaving_port_renamed, port_off_renamed, too_long_for_port_renamed, no_room_renamed, outgoing_renamed}
use Rattle.numbers.specs.Numbers.{port_count}

unfoldable pub rename_plan : List ℕ → Plan → Plan
rename_plan m (dropped reason) = dropped reason
rename_plan m delivered = delivered
rename_plan m (follows w) = follows (rename_way m w)

module _ (m : List ℕ) (ok : one_to_one m ≡ true) where
  early_renamed : (v : View) (a : Arrival) → early_tests (rename_view m v) (rename_arrival m a) ≡ valued (rename_plan m) (early_tests v a)
  unfolding early_tests valued rename_plan
  early_renamed v a =
      rw (
        not_ours_renamed m v a,
        duplicate_renamed m v a,
        own_announce_renamed m v a,
        delivered_here_renamed m v a,
        bytes_renamed m a,
      )

  onward_renamed : (v : View) (a : Arrival) (w : Way)
      → onward_tests (rename_view m v) (rename_arrival m a) (rename_way m w) ≡ valued (rename_plan m) (onward_tests v a w)
  unfolding onward_tests valued rename_plan
  onward_renamed v a w =
      rw (
        no_way_on_renamed m w,
        why_blocked_renamed m w,
        already_known_renamed m v a w,
        wrong_side_renamed m ok a w,
        not_signed_renamed m a,
        known_tests_renamed m v a w,
        joined_valued dropped (rename_plan m),
        port_off_renamed m ok v a w,
        too_long_for_port_renamed m ok v a w,
        no_room_renamed m v a w,
      )

  pub plan_renamed : (v : View) (a : Arrival) → plan (rename_view m v) (rename_arrival m a) ≡ rename_plan m (plan v a)
  unfolding plan onward_plan rename_plan
  plan_renamed v a =
      rw (way_on_renamed m v a, onward_renamed v a (way_on v a), early_renamed v a) (sym (simp (first_ap (rename_plan m))))

  -- ---- the answer
  -- the ports on but the arrival port that carry the announce, by their new numbers
  spread_ports_renamed : (v : View) (a : Arrival) → v.on port_count ≡ false → spread_ports (rename_view m v) (rename_arrival m a) ≡ image_set m (spread_ports v a)
  unfolding spread_ports rename_view rename_arrival
  spread_ports_renamed v a none-on =
      let carried : ℕ → Bool = λ port. not (exceeds (spread_packet v.own a.bytes) (v.size port)) in
      image_set_lem m ok (λ port. v.on port and not (eqb port a.port) and carried port)
      (λ n. v.on (source m n) and not (eqb n (image m a.port)) and carried (source m n))
      (λ n l b.
      ap₂ (λ (k : ℕ) (t : Bool). v.on k and not t and carried k) (source_port m n l)
      (ap (λ (k : ℕ). eqb k (image m a.port)) (sym (image_port m (preimage m n) b ∙ preimage_holds m n b))
      ∙ image_eqb m ok (preimage m n) a.port))
      (λ n l b. and_no _ (ap v.on (source_port m n l ∙ b) ∙ none-on))

  spread_verdict_renamed : (f : ℕ → Bool) (packet : List ℕ)
      → spread_verdict (image_set m (port_set f)) packet ≡ rename_verdict m (spread_verdict (port_set f) packet)
  unfolding spread_verdict rename_verdict
  spread_verdict_renamed f packet = rw (image_set_empty m ok f) (sym (then_ap (rename_verdict m) _ _ _))

  way_verdict_renamed : (v : View) (a : Arrival) (w : Way) → v.on port_count ≡ false
      → way_verdict (rename_view m v) (rename_arrival m a) (rename_way m w) ≡ rename_verdict m (way_verdict v a w)
  unfolding way_verdict rename_verdict rename_way spread_ports
  way_verdict_renamed v a (everywhere known) none-on =
      ap₂ spread_verdict (spread_ports_renamed v a none-on) (outgoing_renamed m v a (everywhere known))
      ∙ spread_verdict_renamed _ (outgoing v a (everywhere known))
  way_verdict_renamed v a (by_path p) none-on =
      ap₂ Forward (leaving_port_renamed m ok a (by_path p)) (ap length (outgoing_renamed m v a (by_path p)))
  way_verdict_renamed v a (along_link l) none-on =
      ap₂ Forward (leaving_port_renamed m ok a (along_link l)) (ap length (outgoing_renamed m v a (along_link l)))
  way_verdict_renamed v a (by_return t) none-on =
      ap₂ Forward (leaving_port_renamed m ok a (by_return t)) (ap length (outgoing_renamed m v a (by_return t)))
  way_verdict_renamed v a (blocked why) none-on = refl

  pub verdict_renamed : (v : View) (a : Arrival) (todo : Plan) → v.on port_count ≡ false
      → verdict (rename_view m v) (rename_arrival m a) (rename_plan m todo) ≡ rename_verdict m (verdict v a todo)
  unfolding verdict rename_verdict rename_plan
  verdict_renamed v a (dropped reason) none-on = refl
  verdict_renamed v a delivered none-on = refl
  verdict_renamed v a (follows w) none-on = way_verdict_renamed v a w none-on

  -- ---- the output
  leaves_renamed : (x : Verdict) → leaves (rename_verdict m x) ≡ leaves x
  unfolding leaves rename_verdict
  leaves_renamed (Drop reason) = refl
  leaves_renamed Deliver = refl
  leaves_renamed (Forward port length) = refl
  leaves_renamed (Spread ports length) = refl
  leaves_renamed Kept = refl

  pub output_renamed : (v : View) (a : Arrival) (todo : Plan) (output : List ℕ) → v.on port_count ≡ false
      → output_after (rename_view m v) (rename_arrival m a) (rename_plan m todo) output ≡ output_after v a todo output
  unfolding output_after rename_plan
  output_renamed v a (dropped reason) output none-on = refl
  output_renamed v a delivered output none-on = refl
  output_renamed v a (follows w) output none-on =
      ap₂ (λ (b : Bool) (packet : List ℕ). b then patch output 0 packet otherwise output)
      (ap leaves (way_verdict_renamed v a w none-on) ∙ leaves_renamed (way_verdict v a w))
      (outgoing_renamed m v a w)
