-- What holds of each part of a relay holds after a call, if it holds of the parts that the call writes: one family of laws. It serves refusal
-- 7 (Valid), keys that are live once (Unique), and what bytes can hold (demands).
use Prim.Native.Nat.{ℕ}
use mathlib.Core.Bool.{Bool, true, false}
use mathlib.Core.List.{List, [], ◌∷◌, map}
use mathlib.Core.Path.{◌≡◌, ap}
use lib.Dec.{eqb}
use lib.ListN.{length, set}
use borrow.Author.Tests.{not-true}
use Rattle.octets.proofs.Index.{and_left, and_right}
use Rattle.octets.proofs.Choice.{then_true}
use Rattle.packet.specs.Header.{is_data}
use Rattle.rules.specs.Relay.{Port, Slot, empty, used, Path, Return, Remembered, Ring, make_port, make_rate_settings, with_slots, Relay, with_clock, with_rate, with_ports, with_locals, with_paths, with_links, with_returns, with_hashes}
use Rattle.rules.specs.View.{View, view_at, local_place}
use Rattle.rules.specs.Renumbering.{moved_ports, rename_path, rename_link, rename_return, rename_slot, renumbered}
use Rattle.rules.specs.Refusals.{packet_refusal, empty_local}
use Rattle.rules.specs.Arrival.{Arrival, header, destination}
use Rattle.rules.specs.Ways.{Way, everywhere, by_path, along_link, by_return, blocked}
use Rattle.rules.specs.Judging.{Plan, dropped, delivered, follows, plan, verdict, output_after}
use Rattle.rules.specs.Writes.{remembers, remember, put_path, limit_path, note_path, put_return, empty_return, put_link, renew_link, write_way, is_rate_drop, write_drop, write_plan, stamp, enact}
use Rattle.rules.specs.Calls.{Judgement, judged, judge, packet_call, settled, TableCall, sets_port, sets_rate, adds, removes, renumbers, notes_path, rule_of, table_refusal, settle}
use Rattle.rules.specs.Questions.{Question}
use Rattle.rules.specs.Saved.{Format, load_refusal}
use Rattle.rules.specs.Run.{Call, packet, on_tables, asks, saves, loads, EachCall, answered, Outcome, of_judgement, of_setting, of_told, of_said, perform, relay_after, no_call}
use Rattle.rules.specs.declared.Link.{Link}
use Rattle.rules.specs.declared.RateSettings.{RateSettings}
use Rattle.rules.specs.declared.Tally.{Tally}
use Rattle.rules.specs.declared.Answer.TheVariants.{Judged}
use Rattle.octets.proofs.Listed.{NoneHolds}
use Rattle.rules.proofs.Choices.{either}
use Rattle.rules.proofs.Rows.{table_passed}
use Rattle.rules.proofs.Stamped.{plan_hashes}

-- what is said of each part
pub record Property : Type 1 where
  pub own : List ℕ → Type 0
  pub clock : ℕ → Type 0
  pub rate : RateSettings → Type 0
  pub ports : List Port → Type 0
  pub locals : List (Slot (List ℕ)) → Type 0
  pub paths : List (Slot Path) → Type 0
  pub links : List (Slot Link) → Type 0
  pub returns : Ring Return → Type 0
  pub hashes : Ring Remembered → Type 0

-- it holds of each part of the relay
pub record Holds (P : Property) (r : Relay) : Type 0 where
  pub own : P.own r.own
  pub clock : P.clock r.clock
  pub rate : P.rate r.rate
  pub ports : P.ports r.ports
  pub locals : P.locals r.locals
  pub paths : P.paths r.paths
  pub links : P.links r.links
  pub returns : P.returns r.returns
  pub hashes : P.hashes r.hashes

-- ---- a relay with one part changed
module _ {P : Property} where
  held : {r : Relay} → P.own r.own → P.clock r.clock → P.rate r.rate → P.ports r.ports → P.locals r.locals → P.paths r.paths
      → P.links r.links → P.returns r.returns → P.hashes r.hashes → Holds P r
  held own clock rate ports locals paths links returns hashes =
      record {
        own = own;
        clock = clock;
        rate = rate;
        ports = ports;
        locals = locals;
        paths = paths;
        links = links;
        returns = returns;
        hashes = hashes;
      }

  module _ {r : Relay} (h : Holds P r) where
    pub clock_held : {c : ℕ} → P.clock c → Holds P (with_clock c r)
    unfolding with_clock
    clock_held k = held h.own k h.rate h.ports h.locals h.paths h.links h.returns h.hashes

    pub rate_held : {x : RateSettings} → P.rate x → Holds P (with_rate x r)
    unfolding with_rate
    rate_held k = held h.own h.clock k h.ports h.locals h.paths h.links h.returns h.hashes

    pub ports_held : {x : List Port} → P.ports x → Holds P (with_ports x r)
    unfolding with_ports
    ports_held k = held h.own h.clock h.rate k h.locals h.paths h.links h.returns h.hashes

    pub locals_held : {x : List (Slot (List ℕ))} → P.locals x → Holds P (with_locals x r)
    unfolding with_locals
    locals_held k = held h.own h.clock h.rate h.ports k h.paths h.links h.returns h.hashes

    pub paths_held : {x : List (Slot Path)} → P.paths x → Holds P (with_paths x r)
    unfolding with_paths
    paths_held k = held h.own h.clock h.rate h.ports h.locals k h.links h.returns h.hashes

    pub links_held : {x : List (Slot Link)} → P.links x → Holds P (with_links x r)
    unfolding with_links
    links_held k = held h.own h.clock h.rate h.ports h.locals h.paths k h.returns h.hashes

    pub returns_held : {x : Ring Return} → P.returns x → Holds P (with_returns x r)
    unfolding with_returns
    returns_held k = held h.own h.clock h.rate h.ports h.locals h.paths h.links k h.hashes

    pub hashes_held : {x : Ring Remembered} → P.hashes x → Holds P (with_hashes x r)
    unfolding with_hashes
    hashes_held k = held h.own h.clock h.rate h.ports h.locals h.paths h.links h.returns k

-- ---- a packet
-- it holds of the part that a packet writes which follows a way
abbrev pub WayKeeps : Property → View → Arrival → Relay → Way → Type 0
WayKeeps P v a r (everywhere known) = P.paths (put_path v a known r).paths
WayKeeps P v a r (by_path p) =
    (is_data (header a) ≡ true → P.returns (put_return a p r).returns) × (is_data (header a) ≡ false → P.links (put_link a p r).links)
WayKeeps P v a r (along_link l) = P.links (renew_link a l r).links
WayKeeps P v a r (by_return t) = P.returns (empty_return a r).returns
WayKeeps P v a r (blocked why) = Unit {0}

abbrev pub PlanKeeps : Property → View → Arrival → Relay → Plan → Type 0
PlanKeeps P v a r (dropped reason) = is_rate_drop reason ≡ true → P.paths (limit_path v a (v.path (destination a)) r).paths
PlanKeeps P v a r delivered = Unit {0}
PlanKeeps P v a r (follows w) = WayKeeps P v a r w

-- .. and of the clock, and of the hashes where the packet is remembered
pub record EnactKeeps (P : Property) (v : View) (a : Arrival) (r : Relay) (todo : Plan) : Type 0 where
  pub writes : PlanKeeps P v a r todo
  pub clock : P.clock a.clock
  pub hash : remembers v a todo ≡ true → P.hashes (remember a r).hashes

module _ {P : Property} {r : Relay} (h : Holds P r) where
  way_held : (v : View) (a : Arrival) (w : Way) → WayKeeps P v a r w → Holds P (write_way v a w r)
  unfolding write_way put_path put_return put_link renew_link empty_return with_paths with_links with_returns
  way_held v a (everywhere known) k = paths_held h k
  way_held v a (by_path p) k = either (Holds P) (is_data (header a)) (λ e. returns_held h (k.0 e)) (λ e. links_held h (k.1 e))
  way_held v a (along_link l) k = links_held h k
  way_held v a (by_return t) k = returns_held h k
  way_held v a (blocked why) k = h

  limit_held : (v : View) (a : Arrival) (s : Slot Path) → P.paths (limit_path v a s r).paths → Holds P (limit_path v a s r)
  unfolding limit_path with_paths
  limit_held v a empty k = h
  limit_held v a (used p) k = paths_held h k

  plan_held : (v : View) (a : Arrival) (todo : Plan) → PlanKeeps P v a r todo → Holds P (write_plan v a todo r)
  unfolding write_plan write_drop
  plan_held v a (dropped reason) k = either (Holds P) (is_rate_drop reason) (λ e. limit_held v a _ (k e)) (λ _. h)
  plan_held v a delivered k = h
  plan_held v a (follows w) k = way_held v a w k

  -- what a packet's own records leave, the hashes are as they were
  remember_same : (v : View) (a : Arrival) (todo : Plan) → P.hashes (remember a r).hashes
      → P.hashes (remember a (with_clock a.clock (write_plan v a todo r))).hashes
  unfolding remember with_hashes with_clock
  remember_same v a todo k = rw plan_hashes k

  pub enact_held : (v : View) (a : Arrival) (todo : Plan) → EnactKeeps P v a r todo → Holds P (enact v a todo r)
  unfolding enact stamp remember with_hashes
  enact_held v a todo k =
      let now : Holds P (with_clock a.clock (write_plan v a todo r)) = clock_held (plan_held v a todo k.writes) k.clock in
      either (Holds P) (remembers v a todo) (λ e. hashes_held now (remember_same v a todo (k.hash e))) (λ _. now)

-- ---- a call on the tables
abbrev pub TableKeeps : Property → Relay → TableCall → Type 0
TableKeeps P r (sets_port port on mode size) = P.ports (set r.ports port (make_port on mode size))
TableKeeps P r (sets_rate target grace penalty) = P.rate (make_rate_settings target grace penalty)
TableKeeps P r (adds address) = P.locals (set r.locals (empty_local r) (used address))
TableKeeps P r (removes address) = P.locals (set r.locals (local_place r address) empty)
TableKeeps P r (renumbers images) =
    P.ports (moved_ports images r.ports)
    × P.paths (map (rename_slot (rename_path images)) r.paths)
    × P.links (map (rename_slot (rename_link images)) r.links)
    × P.returns (with_slots (map (rename_slot (rename_return images)) r.returns.slots) r.returns)
TableKeeps P r (notes_path note destination clock) = P.clock clock × P.paths (note_path note destination clock r).paths

pub table_held : {P : Property} {r : Relay} → Holds P r → (c : TableCall) → TableKeeps P r c → Holds P ((rule_of c).after r)
unfolding rule_of renumbered note_path with_paths
table_held h (sets_port port on mode size) k = ports_held h k
table_held h (sets_rate target grace penalty) k = rate_held h k
table_held h (adds address) k = locals_held h k
table_held h (removes address) k = locals_held h k
table_held h (renumbers images) k = ports_held (paths_held (links_held (returns_held h k.3) k.2) k.1) k.0
table_held h (notes_path note destination clock) k = clock_held (paths_held h k.1) k.0

-- ---- any call: a refused one leaves the relay as it was
pub judged_relay : (a : Arrival) (r : Relay) (t : Tally) (output : List ℕ) → eqb (packet_refusal r a (length output)) 0 ≡ true
    → (perform (packet a output) r t).relay ≡ enact (view_at a.clock r) a (plan (view_at a.clock r) a) r
unfolding perform of_judgement packet_call judge judged
judged_relay a r t output taken = ap (λ (j : Judgement). j.relay) (then_true _ _ taken)

pub judged_reply : (a : Arrival) (r : Relay) (t : Tally) (output : List ℕ) → eqb (packet_refusal r a (length output)) 0 ≡ true
    → (perform (packet a output) r t).reply
    ≡ answered (Judged (verdict (view_at a.clock r) a (plan (view_at a.clock r) a)))
    (output_after (view_at a.clock r) a (plan (view_at a.clock r) a) output)
unfolding perform of_judgement packet_call judge judged
judged_reply a r t output taken = ap (λ (j : Judgement). answered j.answer j.output) (then_true _ _ taken)

module _ (Q : Relay → Type 0) {r : Relay} (q : Q r) where
  pub packet_kept : (a : Arrival) (t : Tally) (output : List ℕ)
      → (eqb (packet_refusal r a (length output)) 0 ≡ true → Q (enact (view_at a.clock r) a (plan (view_at a.clock r) a) r))
      → Q (perform (packet a output) r t).relay
  unfolding perform of_judgement packet_call judge judged
  packet_kept a t output accepted =
      either (λ (j : Judgement). Q j.relay) (eqb (packet_refusal r a (length output)) 0) accepted (λ _. q)

  pub table_kept_by : (c : TableCall) (t : Tally) → (eqb (table_refusal c r) 0 ≡ true → Q ((rule_of c).after r)) → Q (perform (on_tables c) r t).relay
  unfolding perform of_setting settle settled
  table_kept_by c t accepted = either Q _ accepted (λ _. q)

  pub table_kept : (c : TableCall) (t : Tally) → (NoneHolds ((rule_of c).rows r) → Q ((rule_of c).after r)) → Q (perform (on_tables c) r t).relay
  table_kept c t accepted = table_kept_by c t (λ e. accepted (table_passed c r e))

  pub ask_kept : (question : Question) (t : Tally) → Q (perform (asks question) r t).relay
  unfolding perform of_told
  ask_kept question t = q

  pub save_kept : (f : Format) (room : List ℕ) (t : Tally) → Q (perform (saves f room) r t).relay
  unfolding perform
  save_kept f room t = q

  pub load_kept : (f : Format) (file : List ℕ) (t : Tally) → (eqb (load_refusal (f.says file)) 0 ≡ true → Q (f.says file).relay)
      → Q (perform (loads f file) r t).relay
  unfolding perform of_said
  load_kept f file t accepted = either (λ (o : Outcome). Q o.relay) (eqb (load_refusal (f.says file)) 0) accepted (λ _. q)

-- ---- any list of calls, each of which is given what it needs
-- where none needs anything
pub any_calls : (cs : List Call) → EachCall (λ c. Unit {0}) cs
unfolding EachCall
any_calls [] = tt
any_calls (c ∷ cs) = (tt, any_calls cs)

-- a list without such calls: its first, the others, and each
module _ (such : Call → Bool) where
  pub first_none : (c : Call) (cs : List Call) → no_call such (c ∷ cs) ≡ true → such c ≡ false
  unfolding no_call
  first_none c cs h = not-true _ (and_left _ _ h)

  pub others_none : (c : Call) (cs : List Call) → no_call such (c ∷ cs) ≡ true → no_call such cs ≡ true
  unfolding no_call
  others_none c cs h = and_right _ _ h

  pub each_none : (cs : List Call) → no_call such cs ≡ true → EachCall (λ c. such c ≡ false) cs
  unfolding EachCall
  each_none [] h = tt
  each_none (c ∷ cs) h = (first_none c cs h, each_none cs (others_none c cs h))

pub stays : (Q : Relay → Type 0) (given : Call → Type 0)
    → ((c : Call) (r : Relay) (t : Tally) → given c → Q r → Q (perform c r t).relay)
    → (cs : List Call) (r : Relay) (t : Tally) → EachCall given cs → Q r → Q (relay_after cs r t)
unfolding relay_after EachCall
stays Q given step [] r t g q = q
stays Q given step (c ∷ cs) r t g q = stays Q given step cs (perform c r t).relay (perform c r t).tally g.1 (step c r t g.0 q)
