-- The tally counts history: after any list of calls each counter is what it was at the start plus the number of such accepted packet
-- calls, modulo 2^32. The numbers are counted over what the calls replied. An accepted load sets the tally: it is a start of its own. The last
-- clock has its history too: it is that of the last packet or mark that was accepted.
use Prim.Native.Nat.{ℕ, ◌+◌, ◌%◌, ◌^◌, ◌<◌}
use native.Mathlib.Omega.{arith}
use mathlib.Core.Bool.{Bool, true, false, false≢true}
use mathlib.Core.List.{List, [], ◌∷◌}
use mathlib.Core.Path.{◌≡◌, refl, sym, ap, ◌∙◌}
use lib.Dec.{eqb}
use lib.ListN.{length}
use Rattle.octets.specs.Choice.{◌then◌otherwise◌}
use Rattle.octets.proofs.Choice.{then_ap}
use Rattle.rules.specs.Relay.{Relay, with_clock, with_rate, with_ports, with_locals}
use Rattle.rules.specs.View.{View, view_at}
use Rattle.rules.specs.Renumbering.{renumbered}
use Rattle.rules.specs.Refusals.{packet_refusal}
use Rattle.rules.specs.Judging.{plan, verdict}
use Rattle.rules.specs.Calls.{new_tally, up, counted, Judgement, judged, judge, packet_call, settled, TableCall, sets_port, sets_rate, adds, removes, renumbers, notes_path, rule_of, table_refusal, settle}
use Rattle.rules.specs.Questions.{question_refusal}
use Rattle.rules.specs.Saved.{Said, save_refusal, load_refusal}
use Rattle.rules.specs.Run.{Call, packet, on_tables, asks, saves, loads, Reply, answered, numbered, told, saved, unsaved, Outcome, of_judgement, of_setting, of_told, save_reply, of_said, perform, replies, relay_after, tally_after, sets_relay, none_loads}
use Rattle.rules.specs.Keepalives.{accepted}
use Rattle.rules.specs.Answers.{verdict_kind}
use Rattle.rules.specs.declared.Verdict.{Verdict}
use Rattle.rules.specs.declared.Verdict.TheVariants.{Drop, Deliver, Forward, Spread, Kept}
use Rattle.rules.specs.declared.Answer.TheVariants.{Refused, Judged}
use Rattle.rules.specs.declared.Tally.{Tally}
use Rattle.rules.proofs.Choices.{either}
use Rattle.rules.proofs.Stamped.{enact_clock}
use Rattle.rules.proofs.Held.{first_none, others_none}

-- ---- counting
-- an accepted packet's answer counts where it is of the kind; a refusal, and what another call returns, doesn't
abbrev pub counts : (Verdict → Bool) → Reply → ℕ
counts kind (answered (Refused number) output) = 0
counts kind (answered (Judged verdict) output) = kind verdict then 1 otherwise 0
counts kind (numbered refusal) = 0
counts kind (told x) = 0
counts kind (saved r t room) = 0
counts kind (unsaved refusal room) = 0

unfoldable pub number : (Verdict → Bool) → List Reply → ℕ
number kind [] = 0
number kind (reply ∷ replies) = counts kind reply + number kind replies

abbrev pub is_drop : Verdict → Bool
is_drop verdict = eqb (verdict_kind verdict) 1

abbrev pub is_delivery : Verdict → Bool
is_delivery verdict = eqb (verdict_kind verdict) 2

abbrev pub is_forward : Verdict → Bool
is_forward verdict = eqb (verdict_kind verdict) 3

abbrev pub is_spread : Verdict → Bool
is_spread verdict = eqb (verdict_kind verdict) 4

abbrev pub is_kept : Verdict → Bool
is_kept verdict = eqb (verdict_kind verdict) 5

abbrev pub is_any : Verdict → Bool
is_any verdict = true

-- ---- one counter
same_count : (n : ℕ) → n < 2 ^ 32 → n ≡ (n + 0) % 2 ^ 32
same_count n small = omega arith

-- it goes up by one at a verdict of the kind, and stays at any other
module _ (kind : Verdict → Bool) (counter : Tally → ℕ)
    (law : (v : Verdict) (t : Tally) → counter (counted v t) ≡ (kind v then up (counter t) otherwise counter t)) where
  after_verdict : (v : Verdict) (t : Tally) → counter t < 2 ^ 32 → counter (counted v t) ≡ (counter t + (kind v then 1 otherwise 0)) % 2 ^ 32
  unfolding up ◌then◌otherwise◌
  after_verdict v t small = law v t ∙ go (kind v)
    where
      go : (b : Bool) → (b then up (counter t) otherwise counter t) ≡ (counter t + (b then 1 otherwise 0)) % 2 ^ 32
      go true = refl
      go false = same_count (counter t) small

  -- a save's reply doesn't count
  saved_count : (n : ℕ) (r : Relay) (t : Tally) (room : List ℕ) → counts kind (save_reply n r t room) ≡ 0
  unfolding save_reply
  saved_count n r t room = either (λ (x : Reply). counts kind x ≡ 0) (eqb n 0) (λ _. refl) (λ _. refl)

  -- a load that is refused leaves the tally
  refused_load : (s : Said) (r : Relay) (t : Tally) → eqb (load_refusal s) 0 ≡ false → counter t < 2 ^ 32
      → counter (of_said s r t).tally ≡ (counter t + counts kind (of_said s r t).reply) % 2 ^ 32
  unfolding of_said
  refused_load s r t none small =
      either (λ (o : Outcome). counter o.tally ≡ (counter t + counts kind o.reply) % 2 ^ 32) (eqb (load_refusal s) 0)
      (λ e. absurd (false≢true (sym none ∙ e))) (λ _. same_count (counter t) small)

  after_call : (c : Call) (r : Relay) (t : Tally) → sets_relay c ≡ false → counter t < 2 ^ 32
      → counter (perform c r t).tally ≡ (counter t + counts kind (perform c r t).reply) % 2 ^ 32
  unfolding perform of_judgement of_setting of_told packet_call judge judged sets_relay ◌then◌otherwise◌
  after_call (packet a output) r t none small = go (eqb (packet_refusal r a (length output)) 0)
    where
      -- `accepted` chooses as the call does
      result : Bool → Judgement
      result accepted =
          accepted then judge a r t output otherwise
          record { answer = Refused (packet_refusal r a (length output)); relay = r; tally = t; output = output }

      go : (accepted : Bool) → counter (result accepted).tally ≡ (counter t + counts kind (of_judgement (result accepted)).reply) % 2 ^ 32
      go true = after_verdict (verdict (view_at a.clock r) a (plan (view_at a.clock r) a)) t small
      go false = same_count (counter t) small
  after_call (on_tables c) r t none small = same_count (counter t) small
  after_call (asks q) r t none small = same_count (counter t) small
  after_call (saves f room) r t none small = rw (saved_count (save_refusal f (length room) r) r t room) (same_count (counter t) small)
  after_call (loads f file) r t none small = refused_load (f.says file) r t none small

  after_calls : (cs : List Call) (r : Relay) (t : Tally) → none_loads cs ≡ true → counter t < 2 ^ 32
      → counter (tally_after cs r t) ≡ (counter t + number kind (replies cs r t)) % 2 ^ 32
  unfolding tally_after replies number
  after_calls [] r t none small = same_count (counter t) small
  after_calls (c ∷ cs) r t none small =
      let e : counter (perform c r t).tally ≡ (counter t + counts kind (perform c r t).reply) % 2 ^ 32 =
      after_call c r t (first_none sets_relay c cs none) small in
      let l : counter (perform c r t).tally < 2 ^ 32 = omega arith in
      after_calls cs (perform c r t).relay (perform c r t).tally (others_none sets_relay c cs none) l ∙ omega arith

-- ---- all six
pub record TallyFits (t : Tally) : Type 0 where
  pub total : t.total < 2 ^ 32
  pub dropped : t.dropped < 2 ^ 32
  pub delivered : t.delivered < 2 ^ 32
  pub forwarded : t.forwarded < 2 ^ 32
  pub spread : t.spread < 2 ^ 32
  pub kept : t.kept < 2 ^ 32

pub record CountsHistory (said : List Reply) (before after : Tally) : Type 0 where
  pub total : after.total ≡ (before.total + number is_any said) % 2 ^ 32
  pub dropped : after.dropped ≡ (before.dropped + number is_drop said) % 2 ^ 32
  pub delivered : after.delivered ≡ (before.delivered + number is_delivery said) % 2 ^ 32
  pub forwarded : after.forwarded ≡ (before.forwarded + number is_forward said) % 2 ^ 32
  pub spread : after.spread ≡ (before.spread + number is_spread said) % 2 ^ 32
  pub kept : after.kept ≡ (before.kept + number is_kept said) % 2 ^ 32

-- each counter goes up at its own kind
by_kind : (v : Verdict) (t : Tally)
    → counted v t ≡ record {
      total = is_any v then up t.total otherwise t.total;
      dropped = is_drop v then up t.dropped otherwise t.dropped;
      delivered = is_delivery v then up t.delivered otherwise t.delivered;
      forwarded = is_forward v then up t.forwarded otherwise t.forwarded;
      spread = is_spread v then up t.spread otherwise t.spread;
      kept = is_kept v then up t.kept otherwise t.kept;
    }
unfolding counted ◌then◌otherwise◌
by_kind (Drop reason) t = refl
by_kind Deliver t = refl
by_kind (Forward port length) t = refl
by_kind (Spread ports length) t = refl
by_kind Kept t = refl

-- the tally counts history, over calls among which no load is accepted
pub history : (cs : List Call) (r : Relay) (t : Tally) → none_loads cs ≡ true → TallyFits t → CountsHistory (replies cs r t) t (tally_after cs r t)
history cs r t none small =
    record {
      total = after_calls is_any (λ t. t.total) (λ v t. ap (λ (t : Tally). t.total) (by_kind v t)) cs r t none small.total;
      dropped = after_calls is_drop (λ t. t.dropped) (λ v t. ap (λ (t : Tally). t.dropped) (by_kind v t)) cs r t none small.dropped;
      delivered = after_calls is_delivery (λ t. t.delivered) (λ v t. ap (λ (t : Tally). t.delivered) (by_kind v t)) cs r t none small.delivered;
      forwarded = after_calls is_forward (λ t. t.forwarded) (λ v t. ap (λ (t : Tally). t.forwarded) (by_kind v t)) cs r t none small.forwarded;
      spread = after_calls is_spread (λ t. t.spread) (λ v t. ap (λ (t : Tally). t.spread) (by_kind v t)) cs r t none small.spread;
      kept = after_calls is_kept (λ t. t.kept) (λ v t. ap (λ (t : Tally). t.kept) (by_kind v t)) cs r t none small.kept;
    }

-- since fresh, whatever the relay
pub history_since_fresh : (cs : List Call) (r : Relay) → none_loads cs ≡ true → CountsHistory (replies cs r new_tally) new_tally (tally_after cs r new_tally)
unfolding new_tally
history_since_fresh cs r none = history cs r new_tally none (omega arith)

-- ---- the last clock
-- after a call that is accepted: "every accepted packet, dropped or not, .. sets the last clock"; wish 6: "An accepted mark sets the last clock." The others
-- leave it
unfoldable pub clock_after : Call → ℕ → ℕ
clock_after (packet a output) last = a.clock
clock_after (on_tables (sets_port port on mode size)) last = last
clock_after (on_tables (sets_rate target grace penalty)) last = last
clock_after (on_tables (adds address)) last = last
clock_after (on_tables (removes address)) last = last
clock_after (on_tables (renumbers images)) last = last
clock_after (on_tables (notes_path note destination clock)) last = clock
clock_after (asks q) last = last
clock_after (saves f room) last = last
clock_after (loads f file) last = last

unfoldable pub last_clock : List Call → Relay → Tally → ℕ → ℕ
last_clock [] r t last = last
last_clock (c ∷ cs) r t last =
    last_clock cs (perform c r t).relay (perform c r t).tally (accepted c r then clock_after c last otherwise last)

table_after : (c : TableCall) (r : Relay) → ((rule_of c).after r).clock ≡ clock_after (on_tables c) r.clock
unfolding rule_of clock_after with_clock with_rate with_ports with_locals renumbered
table_after (sets_port port on mode size) r = refl
table_after (sets_rate target grace penalty) r = refl
table_after (adds address) r = refl
table_after (removes address) r = refl
table_after (renumbers images) r = refl
table_after (notes_path note destination clock) r = refl

clock_after_lem : (c : Call) (r : Relay) (t : Tally) → sets_relay c ≡ false
    → (perform c r t).relay.clock ≡ (accepted c r then clock_after c r.clock otherwise r.clock)
unfolding perform of_judgement of_setting of_told of_said packet_call judge judged settle settled sets_relay accepted clock_after ◌then◌otherwise◌
clock_after_lem (packet a output) r t none =
    let v : View = view_at a.clock r in
    then_ap (λ (j : Judgement). j.relay.clock) (eqb (packet_refusal r a (length output)) 0) (judge a r t output) _
    ∙ ap (λ (n : ℕ). eqb (packet_refusal r a (length output)) 0 then n otherwise r.clock) (enact_clock v a (plan v a) r)
clock_after_lem (on_tables c) r t none =
    then_ap (λ (s : Relay). s.clock) (eqb (table_refusal c r) 0) ((rule_of c).after r) r
    ∙ ap (λ (n : ℕ). eqb (table_refusal c r) 0 then n otherwise r.clock) (table_after c r)
clock_after_lem (asks q) r t none = either (λ (n : ℕ). r.clock ≡ n) (eqb (question_refusal q r) 0) (λ _. refl) (λ _. refl)
clock_after_lem (saves f room) r t none = either (λ (n : ℕ). r.clock ≡ n) (eqb (save_refusal f (length room) r) 0) (λ _. refl) (λ _. refl)
clock_after_lem (loads f file) r t none = rw none

-- over calls among which no load is accepted
pub clock_history : (cs : List Call) (r : Relay) (t : Tally) → none_loads cs ≡ true → (relay_after cs r t).clock ≡ last_clock cs r t r.clock
unfolding relay_after last_clock
clock_history [] r t none = refl
clock_history (c ∷ cs) r t none =
    clock_history cs (perform c r t).relay (perform c r t).tally (others_none sets_relay c cs none)
    ∙ ap (last_clock cs (perform c r t).relay (perform c r t).tally) (clock_after_lem c r t (first_none sets_relay c cs none))
