-- Wish 5, (a): from fresh with no load, where no accepted setting has a target above 0, test 15 is as if it weren't there.
use Prim.Native.Nat.{ℕ, ◌-◌, ◌≤◌}
use native.Mathlib.Nat.{le_refl}
use native.Mathlib.Omega.{arith}
use mathlib.Core.Bool.{Bool, true, false, not, false≢true}
use mathlib.Core.List.{List, [], ◌∷◌}
use mathlib.Core.Path.{◌≡◌, refl, sym, ap, subst, ◌∙◌}
use lib.Dec.{eqb}
use lib.ListN.{length}
use borrow.Author.Tests.{eqb-true}
use Rattle.octets.proofs.Index.{and_false}
use Rattle.octets.specs.Index.{◌and◌}
use Rattle.octets.proofs.Choice.{then_true, then_false}
use Rattle.octets.proofs.Listed.{NoneHolds}
use Rattle.numbers.specs.Numbers.{path_count}
use Rattle.rules.specs.Relay.{Slot, empty, used, Path, Relay, fresh, with_paths}
use Rattle.rules.specs.View.{View, view_at}
use Rattle.rules.specs.Renumbering.{rename_path}
use Rattle.rules.specs.Refusals.{packet_refusal}
use Rattle.rules.specs.Arrival.{Arrival, destination}
use Rattle.rules.specs.Rate.{lets_by, rated, entry_accepted, entry_revived, entry_dropped}
use Rattle.rules.specs.Ways.{Way, everywhere, by_path, along_link, by_return, blocked, way_on}
use Rattle.rules.specs.Tests.{revives, of_known}
use Rattle.rules.specs.Judging.{Plan, dropped, delivered, follows, plan}
use Rattle.rules.specs.Writes.{announced_rate, announced_path, put_path, limit_path, enact}
use Rattle.rules.specs.Calls.{new_tally, judged, judge, packet_call, TableCall, sets_port, sets_rate, adds, removes, renumbers, notes_path, rule_of, table_refusal, settle, settled}
use Rattle.rules.specs.Saved.{save_refusal, load_refusal}
use Rattle.rules.specs.Run.{Call, packet, on_tables, asks, saves, loads, Reply, answered, numbered, told, saved, unsaved, Outcome, of_judgement, of_setting, of_told, save_reply, of_said, perform, replies, sets_relay, none_loads}
use Rattle.rules.specs.Chatty.{plan_if, packet_call_without, perform_without, replies_without, NoRateDrop, NoneRateDrop, target_of, NoTarget, RateOff, OffWithoutTarget}
use Rattle.rules.specs.declared.RateEntry.{RateEntry}
use Rattle.rules.specs.declared.Rated.{Rated}
use Rattle.rules.specs.declared.Tally.{Tally}
use Rattle.rules.proofs.Choices.{either}
use Rattle.rules.proofs.Rows.{table_passed}
use Rattle.rules.proofs.Slots.{Every, every_set, every_fresh, every_renamed}
use Rattle.rules.proofs.Accepted.{accepted_packet}
use Rattle.rules.proofs.Followed.{Found, Planned, planned, found_way}
use Rattle.rules.proofs.Stamped.{enact_clock}
use Rattle.rules.proofs.Held.{Property, Holds, WayKeeps, PlanKeeps, TableKeeps, enact_held, table_held, packet_kept, table_kept_by, ask_kept, save_kept, load_kept, first_none, others_none}
use Rattle.rules.proofs.Noted.{noted_every}
use Rattle.rules.proofs.Unique.{table_clock}
use Rattle.rules.proofs.RateLaws.{rated_on_time}
use Rattle.rules.proofs.ChattyPlan.{rate_limited, plan_if_lem, dropped_reached, rate_dropped}

-- ---- what holds all along: the target is 0, no path is blocked, and none was announced after the last clock
abbrev Calm : ℕ → Path → Type 0
Calm now p = (p.rate.blocked_until ≡ 0) × (p.rate.last ≤ now)

abbrev calm_at : ℕ → Property
calm_at now =
    record {
      own = λ own. Unit {0};
      clock = λ clock. Unit {0};
      rate = λ rate. rate.target ≡ 0;
      ports = λ ports. Unit {0};
      locals = λ locals. Unit {0};
      paths = Every (λ (p : Path). true) (Calm now);
      links = λ links. Unit {0};
      returns = λ returns. Unit {0};
      hashes = λ hashes. Unit {0};
    }

abbrev CalmRelay : Relay → Type 0
CalmRelay r = Holds (calm_at r.clock) r

calm_later : {now later : ℕ} (r : Relay) → now ≤ later → Holds (calm_at now) r → Holds (calm_at later) r
calm_later r l h =
    record {
      own = tt;
      clock = tt;
      rate = h.rate;
      ports = tt;
      locals = tt;
      paths = λ i p e live. let (free, before) = h.paths i p e live in (free, omega (arith, before, l));
      links = tt;
      returns = tt;
      hashes = tt;
    }

calm_fresh : (own : List ℕ) → CalmRelay (fresh own)
unfolding fresh
calm_fresh own =
    record {
      own = tt;
      clock = tt;
      rate = refl;
      ports = tt;
      locals = tt;
      paths = every_fresh _ _ path_count;
      links = tt;
      returns = tt;
      hashes = tt;
    }

-- ---- a packet at a clock not before the last
module _ (a : Arrival) (r : Relay) (h : Holds (calm_at a.clock) r) where
  abbrev seen : View
  seen = view_at a.clock r

  -- every known path's announce is on time
  module _ (p : Path) (known : seen.path (destination a) ≡ used p) where
    calm : Calm a.clock p
    unfolding view_at
    calm = h.paths _ p known refl

    on_time : rated seen.rate a.clock p.rate ≡ lets_by (p.rate.violations - 1) p.rate.blocked_until
    unfolding view_at
    on_time =
        let (free, before) = calm in
        let none = h.rate in
        rated_on_time r.rate a.clock p.rate (omega (arith, free)) (omega (arith, before, none))

    unblocked : (rated seen.rate a.clock p.rate).blocked_until ≡ 0
    unblocked = ap (λ (x : Rated). x.blocked_until) on_time ∙ calm.0

  way_off : (w : Way) → Found seen a w → rate_limited seen a w ≡ false
  unfolding of_known
  way_off (everywhere empty) f = refl
  way_off (everywhere (used p)) f = ap (λ (x : Rated). not (revives a p) and x.dropped) (on_time p f) ∙ and_false _
  way_off (by_path p) f = refl
  way_off (along_link l) f = refl
  way_off (by_return t) f = refl
  way_off (blocked why) f = refl

  off : rate_limited seen a (way_on seen a) ≡ false
  off = way_off (way_on seen a) (found_way seen a)

  announced_calm : (known : Slot Path) → seen.path (destination a) ≡ known → Calm a.clock (announced_path seen a known)
  unfolding announced_path announced_rate entry_accepted entry_revived
  announced_calm empty e = (refl, le_refl a.clock)
  announced_calm (used p) e =
      either (λ (x : RateEntry). (x.blocked_until ≡ 0) × (x.last ≤ a.clock)) (revives a p)
      (λ _. ((calm p e).0, le_refl a.clock)) (λ _. (unblocked p e, le_refl a.clock))

  limit_calm : (known : Slot Path) → seen.path (destination a) ≡ known → (calm_at a.clock).paths (limit_path seen a known r).paths
  unfolding limit_path with_paths entry_dropped
  limit_calm empty e = h.paths
  limit_calm (used p) e = every_set _ _ r.paths _ _ h.paths (unblocked p e, (calm p e).1)

  way_calm : (w : Way) → Found seen a w → WayKeeps (calm_at a.clock) seen a r w
  unfolding put_path with_paths
  way_calm (everywhere known) f = every_set _ _ r.paths _ _ h.paths (announced_calm known f)
  way_calm (by_path p) f = (λ _. tt, λ _. tt)
  way_calm (along_link l) f = tt
  way_calm (by_return t) f = tt
  way_calm (blocked why) f = tt

  plan_calm : (todo : Plan) → Planned seen a todo → PlanKeeps (calm_at a.clock) seen a r todo
  plan_calm (dropped reason) f = λ _. limit_calm _ refl
  plan_calm delivered f = tt
  plan_calm (follows w) f = way_calm w f.found

  enact_calm : CalmRelay (enact seen a (plan seen a) r)
  enact_calm =
      subst (λ (now : ℕ). Holds (calm_at now) (enact seen a (plan seen a) r)) (sym (enact_clock seen a (plan seen a) r))
      (enact_held h seen a (plan seen a) (record { writes = plan_calm (plan seen a) (planned seen a); clock = tt; hash = λ _. tt }))

-- ---- one call
-- a call on the tables that isn't refused replies 0
table_accepted : (c : TableCall) (r : Relay) (t : Tally) → eqb (table_refusal c r) 0 ≡ true → (perform (on_tables c) r t).reply ≡ numbered 0
unfolding perform of_setting settle settled
table_accepted c r t e = ap numbered (eqb-true _ _ e)

table_calm : (c : TableCall) (r : Relay) → CalmRelay r → target_of (on_tables c) ≡ 0 → NoneHolds ((rule_of c).rows r) → CalmRelay ((rule_of c).after r)
unfolding target_of rename_path
table_calm c r before none n = table_held h c (go c none)
  where
    now : ℕ
    now = ((rule_of c).after r).clock

    h : Holds (calm_at now) r
    h = calm_later r (table_clock c r n) before

    go : (c : TableCall) → target_of (on_tables c) ≡ 0 → TableKeeps (calm_at now) r c
    go (sets_port port on mode size) none = tt
    go (sets_rate target grace penalty) none = none
    go (adds address) none = tt
    go (removes address) none = tt
    go (renumbers images) none = (tt, every_renamed _ _ (rename_path images) (λ _. refl) (renamed images) r.paths h.paths, tt, tt)
      where
        renamed : (m : List ℕ) (p : Path) → Calm now p → Calm now (rename_path m p)
        renamed m p k = k
    go (notes_path note destination clock) none = (tt, noted_every note destination clock r _ (λ _. refl) _ (λ _ k. k) h.paths)

-- only a packet is answered
is_answer : Reply → Bool
is_answer (answered answer output) = true
is_answer (numbered refusal) = false
is_answer (told x) = false
is_answer (saved r t room) = false
is_answer (unsaved refusal room) = false

no_answer : {x : Reply} → is_answer x ≡ false → NoRateDrop x
unfolding is_answer
no_answer none room e = false≢true (sym none ∙ ap is_answer e)

-- what a call replies and leaves, and what the rules without test 15 give
record Off (c : Call) (r : Relay) (t : Tally) : Type 0 where
  not_dropped : NoRateDrop (perform c r t).reply
  same : perform c r t ≡ perform_without c r t
  calm_after : CalmRelay (perform c r t).relay

module _ (r : Relay) (h : CalmRelay r) (t : Tally) where
  packet_off : (a : Arrival) (output : List ℕ) → Off (packet a output) r t
  unfolding perform_without packet_call_without perform packet_call judge
  packet_off a output =
      record {
        not_dropped = λ room says.
            let (taken, dropped-then) = rate_dropped a output r t room says in
            false≢true (sym (off a r (now taken)) ∙ (dropped_reached (view_at a.clock r) a dropped-then).0);
        same = ap of_judgement (go (eqb (packet_refusal r a (length output)) 0) refl);
        calm_after = packet_kept CalmRelay h a t output (λ taken. enact_calm a r (now taken));
      }
    where
      now : eqb (packet_refusal r a (length output)) 0 ≡ true → Holds (calm_at a.clock) r
      now taken = calm_later r (accepted_packet r a (length output) taken).not_before h

      as_planned : eqb (packet_refusal r a (length output)) 0 ≡ true → plan (view_at a.clock r) a ≡ plan_if false (view_at a.clock r) a
      as_planned taken = plan_if_lem (view_at a.clock r) a ∙ ap (λ (b : Bool). plan_if b (view_at a.clock r) a) (off a r (now taken))

      go : (b : Bool) → eqb (packet_refusal r a (length output)) 0 ≡ b → packet_call a r t output ≡ packet_call_without a r t output
      go true e =
          then_true _ _ e
          ∙ ap (λ (todo : Plan). judged a todo (view_at a.clock r) r t output) (as_planned e)
          ∙ sym (then_true _ _ e)
      go false e = sym (then_false _ _ e)

  call_off : (c : Call) → sets_relay c ≡ false → ((perform c r t).reply ≡ numbered 0 → target_of c ≡ 0) → Off c r t
  unfolding perform perform_without of_setting of_told save_reply of_said sets_relay is_answer
  call_off (packet a output) none target = packet_off a output
  call_off (on_tables c) none target =
      record {
        not_dropped = no_answer refl;
        same = refl;
        calm_after = table_kept_by CalmRelay h c t (λ e. table_calm c r h (target (table_accepted c r t e)) (table_passed c r e));
      }
  call_off (asks q) none target = record { not_dropped = no_answer refl; same = refl; calm_after = ask_kept CalmRelay h q t }
  call_off (saves f room) none target =
      record {
        not_dropped = no_answer (either (λ (x : Reply). is_answer x ≡ false) (eqb (save_refusal f (length room) r) 0) (λ _. refl) (λ _. refl));
        same = refl;
        calm_after = save_kept CalmRelay h f room t;
      }
  call_off (loads f file) none target =
      record {
        not_dropped = no_answer (either (λ (o : Outcome). is_answer o.reply ≡ false) (eqb (load_refusal (f.says file)) 0) (λ _. refl) (λ _. refl));
        same = refl;
        calm_after = load_kept CalmRelay h f file t (λ e. absurd (false≢true (sym none ∙ e)));
      }

-- ---- any list
calls_off : (cs : List Call) (r : Relay) (t : Tally) → CalmRelay r → none_loads cs ≡ true → NoTarget cs (replies cs r t)
    → RateOff cs r t (replies cs r t)
unfolding NoTarget NoneRateDrop replies replies_without
calls_off [] r t h none target = record { none_dropped = tt; without = refl }
calls_off (c ∷ cs) r t h none target =
    let x : Off c r t = call_off r h t c (first_none sets_relay c cs none) target.0 in
    let o : Outcome = perform c r t in
    let rest : RateOff cs o.relay o.tally (replies cs o.relay o.tally) =
    calls_off cs o.relay o.tally x.calm_after (others_none sets_relay c cs none) target.1 in
    record {
      none_dropped = (x.not_dropped, rest.none_dropped);
      without =
          ap (λ (said : List Reply). o.reply ∷ said) rest.without
          ∙ ap (λ (y : Outcome). y.reply ∷ replies_without cs y.relay y.tally) x.same;
    }

pub off_without_target : OffWithoutTarget
off_without_target own cs none target = calls_off cs (fresh own) new_tally (calm_fresh own) none target
