-- An accepted announce of a known path: it is answered Spread or Kept, and the live path then is the one that it sets.
use Prim.Native.Nat.{ℕ, ◌<◌}
use native.Mathlib.Omega.{arith}
use mathlib.Core.Bool.{true}
use mathlib.Core.List.{List}
use mathlib.Core.Path.{◌≡◌, refl, sym, ap, subst, ◌∙◌}
use lib.Dec.{eqb, leb, lit<}
use lib.ListN.{length, set}
use borrow.Author.Tests.{lt-ltb}
use Rattle.octets.specs.Choice.{◌or◌}
use Rattle.octets.proofs.Choice.{then_true}
use Rattle.numbers.specs.Numbers.{path_count, path_lifetime}
use Rattle.packet.specs.Read.{longest_packet}
use Rattle.rules.specs.Relay.{Slot, used, Path, Relay, with_paths}
use Rattle.rules.specs.View.{View, view_at, is_live_path, path_place}
use Rattle.rules.specs.Refusals.{slot_ok, path_ok, packet_refusal}
use Rattle.rules.specs.Arrival.{Arrival, destination}
use Rattle.rules.specs.Ways.{everywhere}
use Rattle.rules.specs.Answers.{verdict_kind}
use Rattle.rules.specs.Outgoing.{spread_ports, outgoing, exceeds}
use Rattle.rules.specs.Judging.{Plan, follows, plan, spread_verdict, way_verdict, verdict}
use Rattle.rules.specs.Writes.{path_expiry, announced_path, announced_place, put_path, write_way, write_plan}
use Rattle.rules.specs.Calls.{Judgement, judged, judge, packet_call}
use Rattle.rules.specs.Run.{packet, answered, of_judgement, perform}
use Rattle.rules.specs.DeadPaths.{says_accepted}
use Rattle.rules.specs.declared.Verdict.{Verdict}
use Rattle.rules.specs.declared.Tally.{Tally}
use Rattle.rules.proofs.Choices.{either}
use Rattle.rules.proofs.Tables.{table_length}
use Rattle.rules.proofs.Lowest.{Lowest, lowest_found, found_lowest, lowest_renewed}
use Rattle.rules.proofs.Stamped.{enact_paths}
use Rattle.rules.proofs.Held.{judged_relay}
use Rattle.rules.proofs.Valid.{accepted_valid}

lifetime_some : (mode : ℕ) → 0 < path_lifetime mode
unfolding path_lifetime
lifetime_some mode =
    either (λ (n : ℕ). 0 < n) _ (λ _. lit< tt)
    (λ _. either (λ (n : ℕ). 0 < n) _ (λ _. lit< tt) (λ _. lit< tt))

abbrev pub LowestPath : ℕ → List (Slot Path) → ℕ → Path → Type 0
LowestPath = Lowest (λ (p : Path). p.destination) (λ (p : Path). p.expiry) path_count

module _ (a : Arrival) (output : List ℕ) (r : Relay) (t : Tally) (taken : eqb (packet_refusal r a (length output)) 0 ≡ true) where
  abbrev seen : View
  seen = view_at a.clock r

  abbrev R : Relay
  R = (perform (packet a output) r t).relay

  -- of a known path or a new one
  pub says_accepted_lem : (known : Slot Path) → plan seen a ≡ follows (everywhere known) → says_accepted (perform (packet a output) r t).reply ≡ true
  unfolding perform of_judgement packet_call judge judged verdict way_verdict spread_verdict
  says_accepted_lem known todo =
      ap (λ (j : Judgement). says_accepted (answered j.answer j.output)) (then_true _ _ taken)
      ∙ ap (λ (x : Plan). leb 4 (verdict_kind (verdict seen a x))) todo
      ∙ either (λ (x : Verdict). leb 4 (verdict_kind x) ≡ true) (eqb (spread_ports seen a) 0 or exceeds (outgoing seen a (everywhere known)) longest_packet)
      (λ _. refl) (λ _. refl)

  module _ (p : Path) (known : seen.path (destination a) ≡ used p) (todo : plan seen a ≡ follows (everywhere (used p))) where
    abbrev after : Path
    after = announced_path seen a (used p)

    new_paths_lem : R.paths ≡ set r.paths (path_place a.clock r (destination a)) (used after)
    unfolding write_plan write_way put_path announced_place with_paths
    new_paths_lem =
        ap (λ (s : Relay). s.paths) (judged_relay a r t output taken)
        ∙ enact_paths seen a (plan seen a) r
        ∙ ap (λ (x : Plan). (write_plan seen a x r).paths) todo

    lowest_after : LowestPath a.clock R.paths (path_place a.clock r (destination a)) after
    unfolding view_at path_place is_live_path announced_path
    lowest_after =
        let size : length r.paths ≡ path_count =
        table_length (slot_ok path_ok) path_count r.paths (accepted_valid r a (length output) taken).paths in
        let (key, _, low) = found_lowest _ _ path_count a.clock r.paths size (destination a) p known in
        subst (λ (paths : List (Slot Path)). LowestPath a.clock paths (path_place a.clock r (destination a)) after) (sym new_paths_lem)
        (lowest_renewed _ _ path_count a.clock r.paths size _ p low after (sym key))

    pub shown_after : (view_at a.clock R).path (destination a) ≡ used after
    unfolding view_at path_place is_live_path announced_path
    shown_after =
        let some = lifetime_some (seen.mode a.port) in
        lowest_found _ _ path_count a.clock R.paths _ after lowest_after (lt-ltb a.clock (path_expiry seen a) (omega (arith, some)))
