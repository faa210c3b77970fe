-- Wish 6: no test holds of an announce at least as new as what its marked path holds, so it is accepted, and the path is unmarked.
use Prim.Native.Nat.{ℕ}
use mathlib.Core.Bool.{Bool, true, false, not}
use mathlib.Core.List.{List}
use mathlib.Core.Path.{◌≡◌, refl, ap, ◌∙◌}
use borrow.Author.Tests.{le-leb}
use Rattle.octets.specs.Index.{◌and◌}
use Rattle.octets.specs.Choice.{◌or◌}
use Rattle.octets.proofs.Index.{and_both, and_no, and_false}
use Rattle.octets.proofs.Listed.{none_first}
use Rattle.octets.proofs.JoinedTests.{none_joined}
use Rattle.rules.proofs.Passed.{none_known}
use Rattle.packet.specs.Header.{is_announce}
use Rattle.rules.specs.Relay.{used, Path, Relay}
use Rattle.rules.specs.View.{View, view_at}
use Rattle.rules.specs.Arrival.{Arrival, header, is_link_proof}
use Rattle.rules.specs.Ways.{everywhere}
use Rattle.rules.specs.Tests.{own_announce, no_way_on, wrong_side, not_signed, revives, of_known, known_tests, port_off, too_long_for_port, no_room}
use Rattle.rules.specs.Judging.{dropped, follows, early_tests, onward_tests, onward_plan, plan}
use Rattle.rules.specs.Rate.{entry_revived}
use Rattle.rules.specs.Writes.{announced_rate, announced_path}
use Rattle.rules.specs.DeadPaths.{NewEnough, NewEnoughRevives}
use Rattle.rules.specs.declared.RateEntry.{RateEntry}
use Rattle.octets.proofs.Choice.{then_true}
use Rattle.rules.proofs.ChattyPlan.{announce_way}
use Rattle.rules.proofs.AnnounceTests.{announce_ours, announce_not_here, announce_unknown, announce_untested}
use Rattle.rules.proofs.Announced.{says_accepted_lem, shown_after}

module _ (p : Path) (a : Arrival) (output : List ℕ) (r : Relay) (h : NewEnough p a output r) where
  abbrev seen : View
  seen = view_at a.clock r

  -- ---- tests 1 to 5
  not_own_lem : own_announce seen a ≡ false
  unfolding own_announce
  not_own_lem = ap (λ (b : Bool). is_announce (header a) and b) h.elsewhere ∙ and_false _

  -- ---- tests 6 to 13: 10, 11 and 15 aren't made
  new_enough : revives a p ≡ true
  unfolding revives
  new_enough = and_both h.is_marked_lem (le-leb _ _ h.as_new)

  not_made : of_known a (λ q. true) (everywhere (used p)) ≡ false
  unfolding of_known
  not_made = and_no _ (ap not new_enough)

  is_signed : not_signed a ≡ false
  unfolding not_signed
  is_signed = ap (λ (b : Bool). (is_announce (header a) or is_link_proof a.bytes) and not b) h.signed ∙ and_false _

  -- announces skip tests 12 and 16
  skipped : (b : Bool) → (not (is_announce (header a)) and b) ≡ false
  skipped b = and_no b (ap not h.announce)

  accepted_then : plan seen a ≡ follows (everywhere (used p))
  unfolding plan onward_plan early_tests onward_tests no_way_on wrong_side port_off too_long_for_port no_room
  accepted_then =
      none_first (early_tests seen a) _ (
        announce_ours seen a h.announce,
        (
          announce_untested seen a h.announce p h.single h.live h.is_marked_lem,
          (h.formed, (not_own_lem, (announce_not_here seen a h.announce, (h.few_hops_lem, tt)))),
        ),
      )
      ∙ ap (onward_plan seen a) (announce_way seen a h.announce ∙ ap everywhere h.live)
      ∙ none_first (onward_tests seen a (everywhere (used p))) _ (
        refl,
        (
          announce_unknown seen a h.announce _,
          (
            refl,
            (
              is_signed,
              none_joined dropped (known_tests seen a (everywhere (used p))) _ (none_known seen a (everywhere (used p)) not_made)
                  (skipped _, (skipped _, (refl, tt))),
            ),
          ),
        ),
      )

  last_moves : (announced_rate seen a (used p)).last ≡ a.clock
  unfolding announced_rate entry_revived
  last_moves = ap (λ (e : RateEntry). e.last) (then_true _ _ new_enough)

pub new_enough_revives : NewEnoughRevives
unfolding announced_path
new_enough_revives p a output r t h =
    record {
      accepted = says_accepted_lem a output r t h.not_refused (used p) (accepted_then p a output r h);
      path = announced_path (view_at a.clock r) a (used p);
      live = shown_after a output r t h.not_refused p h.live (accepted_then p a output r h);
      unmarked = refl;
      by_port = refl;
      with_hops = refl;
      next_hop_lem = refl;
      last = last_moves p a output r h;
    }
