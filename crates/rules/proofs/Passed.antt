-- The tests that a packet passed that follows a way, each by its name; and the test that an answer names.
use mathlib.Core.Bool.{Bool, true, false, not}
use Prim.Native.Nat.{ℕ}
use mathlib.Core.Path.{◌≡◌, refl, sym, ap, subst, ◌∙◌}
use lib.Dec.{eqb}
use lib.ListN.{length}
use Rattle.octets.specs.Index.{◌and◌}
use Rattle.octets.specs.Choice.{◌then◌otherwise◌, ◌or◌}
use Rattle.octets.specs.Listed.{any_holds}
use Rattle.octets.proofs.Index.{and_true}
use Rattle.octets.proofs.Listed.{all_give}
use Rattle.packet.specs.Read.{longest_packet}
use Rattle.rules.specs.Relay.{empty, used}
use Rattle.rules.specs.View.{View}
use Rattle.rules.specs.Arrival.{Arrival, hops}
use Rattle.rules.specs.Ways.{Way, everywhere, by_path, along_link, by_return, blocked, way_on}
use Rattle.rules.specs.Tests.{not_ours, duplicate, bad_form, own_announce, delivered_here, too_many_hops, no_way_on, already_known, wrong_side, not_signed, revives, of_known, known_tests, port_off, too_long_for_port, no_room}
use Rattle.rules.specs.Answers.{reason_number}
use Rattle.rules.specs.Outgoing.{spread_ports, outgoing, exceeds}
use Rattle.rules.specs.Judging.{Plan, dropped, delivered, follows, early_tests, onward_tests, onward_plan, plan, spread_verdict, way_verdict, verdict}
unfoldable pub use Rattle.rules.specs.Questions.{of_test}
use Rattle.rules.specs.declared.Verdict.{Verdict}
use Rattle.rules.specs.declared.Verdict.TheVariants.{Drop, Deliver, Forward, Spread, Kept}
use Rattle.octets.proofs.Listed.{NoneHolds, none_first, none_any, none_holds}
use Rattle.octets.proofs.JoinedTests.{joined_none}

-- the packet goes no further
unfoldable pub stops : Plan → Bool
stops (dropped reason) = true
stops delivered = true
stops (follows w) = false

pub record Passed (v : View) (a : Arrival) (w : Way) : Type 0 where
  pub ours : not_ours v a ≡ false
  pub new : duplicate v a ≡ false
  pub form : bad_form a.bytes ≡ false
  pub not_own : own_announce v a ≡ false
  pub elsewhere : delivered_here v a ≡ false
  pub few_hops : too_many_hops (hops a) ≡ false
  pub some_way : no_way_on w ≡ false
  pub unknown : already_known v a w ≡ false
  pub side : wrong_side a w ≡ false
  pub signed : not_signed a ≡ false
  pub known : NoneHolds (known_tests v a w)
  pub port_on : port_off v a w ≡ false
  pub fits : too_long_for_port v a w ≡ false
  pub room : no_room v a w ≡ false

-- where tests of a known path aren't made, none holds
pub none_known : (v : View) (a : Arrival) (w : Way) → of_known a (λ p. true) w ≡ false → NoneHolds (known_tests v a w)
unfolding known_tests of_known any_holds ◌or◌ ◌and◌
none_known v a (everywhere empty) e = none_any (known_tests v a (everywhere empty)) refl
none_known v a (everywhere (used p)) e = none_any (known_tests v a (everywhere (used p))) (rw (sym (and_true (not (revives a p))) ∙ e))
none_known v a (by_path p) e = none_any (known_tests v a (by_path p)) refl
none_known v a (along_link l) e = none_any (known_tests v a (along_link l)) refl
none_known v a (by_return t) e = none_any (known_tests v a (by_return t)) refl
none_known v a (blocked why) e = none_any (known_tests v a (blocked why)) refl

module _ (v : View) (a : Arrival) where
  passed_all : (w : Way) → NoneHolds (early_tests v a) → NoneHolds (onward_tests v a w) → Passed v a w
  unfolding early_tests onward_tests
  passed_all w early late =
      let (ours, (new, (form, (not_own, (elsewhere, (few_hops, _)))))) = early in
      let (some_way, (unknown, (side, (signed, more)))) = late in
      let (known, (port_on, (fits, (room, _)))) = joined_none dropped (known_tests v a w) _ more in
      record {
        ours = ours;
        new = new;
        form = form;
        not_own = not_own;
        elsewhere = elsewhere;
        few_hops = few_hops;
        some_way = some_way;
        unknown = unknown;
        side = side;
        signed = signed;
        known = known;
        port_on = port_on;
        fits = fits;
        room = room;
      }

  -- no test holds of such a packet, and the way is the one that the rules find
  pub none_held : (w : Way) → plan v a ≡ follows w → (way_on v a ≡ w) × NoneHolds (early_tests v a) × NoneHolds (onward_tests v a w)
  unfolding plan onward_plan early_tests onward_tests known_tests all_give stops ◌and◌
  none_held w e =
      let early : NoneHolds (early_tests v a) = none_holds stops (early_tests v a) _ refl (ap stops e) in
      let on : onward_plan v a (way_on v a) ≡ follows w = sym (none_first (early_tests v a) _ early) ∙ e in
      let late : NoneHolds (onward_tests v a (way_on v a)) = none_holds stops (onward_tests v a (way_on v a)) _ refl (ap stops on) in
      let end : follows (way_on v a) ≡ follows w = sym (none_first (onward_tests v a (way_on v a)) _ late) ∙ on in
      let way : way_on v a ≡ w = cc in
      (way, early, subst (λ (x : Way). NoneHolds (onward_tests v a x)) way late)

  pub passed : (w : Way) → plan v a ≡ follows w → (way_on v a ≡ w) × Passed v a w
  passed w e = let (way, early, late) = none_held w e in (way, passed_all w early late)

-- ---- the answer names this test
unfoldable pub names_test : ℕ → Verdict → Bool
names_test n (Drop reason) = eqb (reason_number reason) n
names_test n Deliver = false
names_test n (Forward port length) = false
names_test n (Spread ports length) = false
names_test n Kept = false

-- as the plan does; a way that is blocked, which no plan follows, would be answered by test 6
pub names_test_lem : (v : View) (a : Arrival) (n : ℕ) → eqb 6 n ≡ false → (todo : Plan) → names_test n (verdict v a todo) ≡ of_test n todo
unfolding names_test verdict way_verdict spread_verdict of_test ◌then◌otherwise◌
names_test_lem v a n other (dropped reason) = refl
names_test_lem v a n other delivered = refl
names_test_lem v a n other (follows (everywhere known)) = go (eqb (spread_ports v a) 0 or exceeds (outgoing v a (everywhere known)) longest_packet)
  where
    go : (b : Bool) → names_test n (b then Kept otherwise Spread (spread_ports v a) (length (outgoing v a (everywhere known)))) ≡ false
    go true = refl
    go false = refl
names_test_lem v a n other (follows (by_path p)) = refl
names_test_lem v a n other (follows (along_link l)) = refl
names_test_lem v a n other (follows (by_return t)) = refl
names_test_lem v a n other (follows (blocked why)) = other
