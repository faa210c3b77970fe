-- Wish 5's theorems on announces of one destination, on the bytes: three without a target interval and three that keep it, from fresh; one while the
-- destination is blocked, and one at the clock until which it is.
use Prim.Native.Nat.{ℕ}
use native.Mathlib.Omega.{arith}
use mathlib.Core.Bool.{true}
use mathlib.Core.List.{List, [], ◌∷◌}
use mathlib.Core.Path.{◌≡◌, refl, sym, ap, subst, ◌∙◌}
use Rattle.octets.specs.Index.{◌and◌}
use Rattle.rules.specs.Relay.{used, Path, Relay, fresh}
use Rattle.rules.specs.View.{view_at}
use Rattle.rules.specs.Refusals.{all, table_ok}
use Rattle.rules.specs.Calls.{new_tally, rule_of}
use Rattle.rules.specs.Run.{EachCall, Call, port_setting, rate_setting, Reply, numbered, none_loads, no_call, sets_relay}
use Rattle.rules.specs.Chatty.{NoRateDrop, replies_without, NoneRateDrop, target_of, NoTarget, RateOff, WhileBlocked, OnTime, LetBy}
use Rattle.rules.proofs.Unfolding.{rules}
use Rattle.rules.proofs.Valid.{fresh_ok}
use Rattle.rules.proofs.Scene.{own, blank, destination, arrival}
use Rattle.rules.proofs.ChattyScene.{sent, hears, spread_of, counting, port_one, port_two, strict_set, blocked_path, blocked_relay, still_blocked, first_heard, second_dropped, third_dropped, while_blocked, on_time, fourth_reaches, thrice, AllHeard, all_without, all_spaced, calls, calls_spaced}
use Rattle.tables.specs.Layout.{relay_of, bytes_of}
use Rattle.tables.specs.Called.{Called}
use Rattle.tables.specs.Shape.{is_byte, is_bytes}
use Rattle.tables.proofs.Whole.{back, ok_bytes, bytes_bytes}
use Rattle.demands.specs.Given.{CallBytes, CallsBytes}
use Rattle.demands.specs.Bytes.{perform_on, replies_on}
use Rattle.demands.specs.Chatty.{SpacedOn, NeverBlockedOn}
use Rattle.demands.proofs.Shape.{fresh_shaped}
use Rattle.demands.proofs.Demand2.{fresh_made}
use Rattle.demands.proofs.Chatty.{spaced_on, off_without_target_on, spaced_never_blocked_on, blocked_announce_stays_on, on_time_let_by_on}
use Rattle.demands.proofs.InstanceCalls.{Runs, no_call_lem, ◌first◌}
use Rattle.demands.proofs.Instance2.{buffer, size, sixteen, start, Goes, goes, Held, held}

-- ---- three announces, 300 s apart
given : (target : ℕ) → CallsBytes (calls target)
unfolding EachCall CallBytes rule_of is_bytes is_byte table_ok all ◌and◌
given target = (refl, (refl, (refl, (refl, (refl, (refl, (refl, tt)))))))

none_load : (target : ℕ) → none_loads (calls target) ≡ true
unfolding no_call sets_relay ◌and◌
none_load target = refl

-- all are spread
abbrev said : List Reply
said = numbered 0 ∷ numbered 0 ∷ numbered 0 ∷ numbered 9 ∷ spread_of 1 ∷ spread_of 2 ∷ spread_of 3 ∷ []

run : (target : ℕ) → AllHeard target → Runs (calls target) (fresh own) new_tally said (thrice target) (counting 0 3)
run target h = port_one first port_two first h.set.accepted first h.set.refused first h.one first h.two first h.three first no_call_lem

-- ---- (a) with the target 0
no_target : NoTarget (calls 0) said
unfolding NoTarget target_of
no_target = (λ _. refl, (λ _. refl, (λ _. refl, (λ e. let z : ◌≡◌ {A = ℕ} 9 0 = cc in absurd (omega arith), (λ _. refl, (λ _. refl, (λ _. refl, tt)))))))

abbrev without_run : Goes (calls 0) said (thrice 0) (counting 0 3)
without_run = goes (given 0) (run 0 all_without)

off : RateOff (calls 0) (fresh own) new_tally (replies_on (calls 0) start new_tally)
off =
    off_without_target_on buffer own size (calls 0) (given 0) sixteen (none_load 0)
    (subst (NoTarget (calls 0)) (sym without_run.answers) no_target)

pub none_dropped : NoneRateDrop (replies_on (calls 0) start new_tally)
none_dropped = off.none_dropped

-- the rules without test 15 reply the same
pub spread_without : replies_without (calls 0) (fresh own) new_tally ≡ said
spread_without = sym off.without ∙ without_run.answers

-- ---- (d) with the target 300
pub never_blocked : NeverBlockedOn destination (calls 300) start new_tally
never_blocked =
    spaced_never_blocked_on buffer own size (calls 300) (given 300) sixteen (none_load 300) destination
    (subst (λ (x : Called). SpacedOn destination (calls 300) x.tables new_tally) (sym (fresh_made buffer own size))
    (spaced_on destination (calls 300) (fresh own) new_tally (given 300) (fresh_ok own) (fresh_shaped own sixteen) calls_spaced))

-- the second came at last + 300
pub spread_spaced : replies_on (calls 300) start new_tally ≡ said
spread_spaced = (goes (given 300) (run 300 all_spaced)).answers

-- ---- with a target of 1,000 s and no grace, 400 s apart
abbrev chattering : List Call
chattering = port_setting 1 true 2 500 ∷ port_setting 2 true 0 500 ∷ rate_setting 1000 0 600 ∷ hears 1 1000 ∷ hears 2 1400 ∷ []

abbrev chattering_on : List Call
chattering_on = port_setting 1 true 2 500 ∷ port_setting 2 true 0 500 ∷ rate_setting 1000 0 600 ∷ hears 1 1000 ∷ hears 2 1400 ∷ hears 3 1800 ∷ []

chattering_given : CallsBytes chattering
unfolding EachCall CallBytes rule_of is_bytes is_byte table_ok all ◌and◌
chattering_given = (refl, (refl, (refl, (refl, (refl, tt)))))

chattering_on_given : CallsBytes chattering_on
unfolding EachCall CallBytes rule_of is_bytes is_byte table_ok all ◌and◌
chattering_on_given = (refl, (refl, (refl, (refl, (refl, (refl, tt))))))

blocked_held : Held blocked_relay
blocked_held = held chattering_given (port_one first port_two first strict_set.accepted first first_heard first second_dropped first no_call_lem)

still_held : Held still_blocked
still_held =
    held chattering_on_given
    (port_one first port_two first strict_set.accepted first first_heard first second_dropped first third_dropped first no_call_lem)

third_given : CallBytes (hears 3 1800)
unfolding CallBytes is_bytes is_byte table_ok all ◌and◌
third_given = refl

fourth_given : CallBytes (hears 4 2600)
unfolding CallBytes is_bytes is_byte table_ok all ◌and◌
fourth_given = refl

-- ---- (b) the third comes while the destination is blocked
pub third_stays : (relay_of (perform_on (hears 3 1800) (bytes_of blocked_relay) (counting 1 1)).tables).paths ≡ blocked_relay.paths
third_stays =
    let h = blocked_held in
    let there : relay_of (bytes_of blocked_relay) ≡ blocked_relay = back blocked_relay h.shape h.ok in
    blocked_announce_stays_on (bytes_of blocked_relay) (counting 1 1) (bytes_bytes blocked_relay h.shape h.ok) (ok_bytes blocked_relay h.shape h.ok)
    blocked_path (arrival (sent 3) 1800 1) blank third_given (subst (WhileBlocked blocked_path (arrival (sent 3) 1800 1)) (sym there) while_blocked)
    ∙ ap (λ (r : Relay). r.paths) there

-- ---- (c) the fourth at the clock until which it is
abbrev fourth_tables : List ℕ
fourth_tables = (perform_on (hears 4 2600) (bytes_of still_blocked) (counting 2 1)).tables

fourth_let_by : LetBy blocked_path (arrival (sent 4) 2600 1) blank still_blocked (perform_on (hears 4 2600) (bytes_of still_blocked) (counting 2 1)).reply
    (relay_of fourth_tables)
fourth_let_by =
    let h = still_held in
    let there : relay_of (bytes_of still_blocked) ≡ still_blocked = back still_blocked h.shape h.ok in
    let reply : Reply = (perform_on (hears 4 2600) (bytes_of still_blocked) (counting 2 1)).reply in
    subst (λ (r : Relay). LetBy blocked_path (arrival (sent 4) 2600 1) blank r reply (relay_of fourth_tables)) there
    (on_time_let_by_on (bytes_of still_blocked) (counting 2 1) (bytes_bytes still_blocked h.shape h.ok) (ok_bytes still_blocked h.shape h.ok)
    blocked_path (arrival (sent 4) 2600 1) blank fourth_given (subst (OnTime blocked_path (arrival (sent 4) 2600 1)) (sym there) on_time))

pub fourth_not_dropped : NoRateDrop (perform_on (hears 4 2600) (bytes_of still_blocked) (counting 2 1)).reply
fourth_not_dropped = fourth_let_by.not_dropped

-- its one violation is forgiven
pub fourth_forgiven : (p : Path) × ((view_at 2600 (relay_of fourth_tables)).path destination ≡ used p) × (p.rate.violations ≡ 0) × (p.rate.last ≡ 2600)
unfolding rules
fourth_forgiven = let (p, shown, kept) = fourth_let_by.forgiven fourth_reaches in (p, shown, kept.violations, kept.last)
