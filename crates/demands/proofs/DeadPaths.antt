-- Document 02, wish 6, about the bytes: "When a box dies, we sit on its path until something newer comes." Once the path is marked, what is at least as new
-- revives it, and until then the mark stays.
use Prim.Native.Nat.{ℕ, ◌≤◌}
use mathlib.Core.Bool.{true}
use mathlib.Core.List.{List}
use mathlib.Core.Path.{◌≡◌, sym, ap, subst, ◌∙◌}
use borrow.Author.Tests.{eq-eqb}
use lib.Dec.{eqb}
use Rattle.octets.specs.Bytes.{Bytes}
use Rattle.rules.specs.Relay.{used, Path, Relay}
use Rattle.rules.specs.View.{view_at}
use Rattle.rules.specs.Refusals.{tables_ok}
use Rattle.rules.specs.Arrival.{Arrival}
use Rattle.rules.specs.Calls.{settle, settled, table_refusal, marks}
use Rattle.rules.specs.Run.{Call, packet, marking, numbered, of_setting, perform, relay_after, none_loads}
use Rattle.rules.specs.DeadPaths.{NewEnough, Revived, NoneAccepted, MarkedAt}
use Rattle.rules.specs.declared.Tally.{Tally}
use Rattle.rules.proofs.Valid.{step_ok, stays_ok}
use Rattle.rules.proofs.Revived.{new_enough_revives}
use Rattle.rules.proofs.StaysMarked.{mark_stays}
use Rattle.tables.specs.Layout.{relay_of, bytes_of, well_formed}
use Rattle.tables.specs.Shape.{shaped}
use Rattle.tables.proofs.Whole.{again, ok_relay, shaped_of, back}
use Rattle.demands.specs.Given.{CallBytes, CallsBytes}
use Rattle.demands.specs.Bytes.{OutcomeOn, perform_on, replies_on, tables_after_on}
use Rattle.demands.specs.DeadPaths.{AcceptedMark, StaysMarkedOn}
use Rattle.demands.proofs.Shape.{step_shaped, stays_shaped}
use Rattle.demands.proofs.Demand2.{FollowsTheRules, outcome_on, call_on_lem, by_the_rules, run_on}

-- ---- on a relay's bytes: the mark, and the calls after it
module _ (r : Relay) (s : shaped r ≡ true) (ok : tables_ok r ≡ true) (t : Tally) (d : List ℕ) (clock : ℕ) (given : CallBytes (marking d clock)) (p : Path)
    (cs : List Call) (each : CallsBytes cs) (none : none_loads cs ≡ true) where
  abbrev one : Relay
  one = (perform (marking d clock) r t).relay

  stays_bytes : eqb (table_refusal (marks d clock) r) 0 ≡ true → (view_at clock r).path d ≡ used p → NoneAccepted d cs (replies_on cs (bytes_of one) t)
      → StaysMarkedOn d p cs (bytes_of one) t
  stays_bytes taken known quiet now after before =
      let fine : tables_ok one ≡ true = step_ok (marking d clock) r t ok in
      let form : shaped one ≡ true = step_shaped (marking d clock) r t given ok s in
      let follows : FollowsTheRules cs (bytes_of one) t one = run_on cs one t each fine form in
      let there : relay_of (tables_after_on cs (bytes_of one) t) ≡ relay_after cs one t =
      ap relay_of follows.tables ∙ back (relay_after cs one t) (stays_shaped cs one t each fine form) (stays_ok cs one t fine) in
      subst (MarkedAt d p.expiry now) (sym there)
      (mark_stays d clock r t p taken known cs none (subst (NoneAccepted d cs) follows.answers quiet) now
      (subst (λ (x : Relay). x.clock ≤ now) there after) before)

-- a mark that replies 0 is refused by no row
none_refuses : (d : List ℕ) (clock : ℕ) (r : Relay) (t : Tally) → (perform (marking d clock) r t).reply ≡ numbered 0
    → eqb (table_refusal (marks d clock) r) 0 ≡ true
unfolding perform of_setting settle settled
none_refuses d clock r t e = eq-eqb (table_refusal (marks d clock) r) 0 cc

-- ---- the theorems, from any tables that are well formed, and any tally
module _ (tables : List ℕ) (tally : Tally) (b : Bytes tables) (h : well_formed tables ≡ true) where
  -- "a packet not refused that is an announce of kind single passing test 3, with hops under 128 and the word yes, for a destination that isn't local and whose
  -- live path at its clock is marked, with an emission not below the greatest stored, is answered Spread or Kept; the live path then is unmarked, with its
  -- arrival port, hops and next hop, last = clock"
  pub new_enough_revives_on : (p : Path) (a : Arrival) (output : List ℕ) → CallBytes (packet a output) → NewEnough p a output (relay_of tables)
      → Revived a (perform_on (packet a output) tables tally).reply (relay_of (perform_on (packet a output) tables tally).tables)
  new_enough_revives_on p a output given new =
      by_the_rules (Revived a) (packet a output) tables tally given b h (new_enough_revives p a output (relay_of tables) tally new)

  -- "an accepted mark leaves the live path marked until an announce for it is accepted or it expires, over any list without a load"
  module _ (d : List ℕ) (clock : ℕ) (given : CallBytes (marking d clock)) where
    abbrev marked : OutcomeOn
    marked = perform_on (marking d clock) tables tally

    pub mark_stays_on : (p : Path) → AcceptedMark d clock p tables tally
        → (cs : List Call) → CallsBytes cs → none_loads cs ≡ true → NoneAccepted d cs (replies_on cs marked.tables marked.tally)
        → StaysMarkedOn d p cs marked.tables marked.tally
    unfolding outcome_on perform of_setting
    mark_stays_on p mark cs each none =
        let r : Relay = relay_of tables in
        let s = shaped_of tables b h in
        let ok = ok_relay tables h in
        let same : perform_on (marking d clock) tables tally ≡ outcome_on (perform (marking d clock) r tally) =
        ap (λ (x : List ℕ). perform_on (marking d clock) x tally) (sym (again tables b h)) ∙ call_on_lem r s ok tally (marking d clock) given in
        let taken = none_refuses d clock r tally (sym (ap (λ (o : OutcomeOn). o.reply) same) ∙ mark.accepted) in
        subst (λ (o : OutcomeOn). NoneAccepted d cs (replies_on cs o.tables o.tally) → StaysMarkedOn d p cs o.tables o.tally) (sym same)
        (stays_bytes r s ok tally d clock given p cs each none taken mark.live)
