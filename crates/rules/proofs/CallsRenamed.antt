-- A renamed call on a renumbered relay: it answers what the call answers, renamed, and leaves the relay that it leaves, renumbered.
use Prim.Native.Nat.{ℕ}
use mathlib.Core.Bool.{Bool, true, false, not, false≢true}
use mathlib.Core.List.{List, []}
use mathlib.Core.Path.{◌≡◌, refl, sym, ap, ◌∙◌}
use lib.Dec.{eqb}
use lib.ListN.{length, set}
use borrow.Author.Tests.{not-false}
use Rattle.octets.specs.Choice.{◌then◌otherwise◌}
use Rattle.octets.proofs.Choice.{then_ap}
use Rattle.octets.specs.Listed.{◌gives◌otherwise◌, first_of}
use Rattle.rules.specs.Relay.{Port, make_port, Relay, with_rate, with_ports, with_locals}
use Rattle.rules.specs.View.{View, view_at, is_local, local_place}
use Rattle.rules.specs.Renumbering.{image, one_to_one, rename_path, renumbered}
use Rattle.rules.specs.Refusals.{tables_ok, clock_bad, packet_refusal, empty_local}
use Rattle.rules.specs.Arrival.{Arrival}
use Rattle.rules.specs.Tests.{is_there}
use Rattle.rules.specs.Answers.{rename_verdict, rename_answer}
use Rattle.rules.specs.Judging.{Plan, plan, verdict}
use Rattle.rules.specs.Calls.{counted, Judgement, judged, judge, packet_call, Setting, settled, TableCall, sets_port, sets_rate, adds, removes, renumbers, notes_path, rule_of, table_refusal, settle}
use Rattle.rules.specs.Saved.{Said, Format, save_refusal, load_refusal}
use Rattle.rules.specs.Run.{Call, packet, on_tables, asks, saves, loads, renumbering, Reply, numbered, saved, unsaved, moves_ports, sets_relay, Outcome, of_judgement, of_setting, of_told, save_reply, of_said, perform, rename_arrival, rename_call, rename_reply}
use Rattle.rules.specs.declared.Verdict.{Verdict}
use Rattle.rules.specs.declared.Verdict.TheVariants.{Drop, Deliver, Forward, Spread, Kept}
use Rattle.rules.specs.declared.Answer.TheVariants.{Refused, Judged}
use Rattle.rules.specs.declared.Tally.{Tally}
use Rattle.octets.proofs.Listed.{NoneHolds}
use Rattle.rules.proofs.Rows.{table_passed}
use Rattle.rules.proofs.Images.{image_leb}
use Rattle.rules.proofs.MovedPorts.{moved_set}
use Rattle.rules.proofs.ViewRenamed.{rename_view, no_port_on, path_renamed, view_renamed}
use Rattle.rules.proofs.TestsRenamed.{is_there_renamed}
use Rattle.rules.proofs.PlanRenamed.{rename_plan, plan_renamed, verdict_renamed, output_renamed}
use Rattle.rules.proofs.WritesRenamed.{note_renamed, enact_renamed}
use Rattle.rules.proofs.QuestionsRenamed.{sixteen_ports, packet_refusal_renamed, tell_renamed}
use Rattle.numbers.specs.Numbers.{port_count}

-- ---- a refusal's number and a relay, renamed
unfoldable rename_judgement : List ℕ → Judgement → Judgement
rename_judgement m j = record { answer = rename_answer m j.answer; relay = renumbered m j.relay; tally = j.tally; output = j.output }

unfoldable rename_setting : List ℕ → Setting → Setting
rename_setting m s = record { refusal = s.refusal; relay = renumbered m s.relay }

unfoldable pub rename_outcome : List ℕ → Outcome → Outcome
rename_outcome m o = record { reply = rename_reply m o.reply; relay = renumbered m o.relay; tally = o.tally }

counted_renamed : (m : List ℕ) (x : Verdict) (t : Tally) → counted (rename_verdict m x) t ≡ counted x t
unfolding counted rename_verdict
counted_renamed m (Drop reason) t = refl
counted_renamed m Deliver t = refl
counted_renamed m (Forward port length) t = refl
counted_renamed m (Spread ports length) t = refl
counted_renamed m Kept t = refl

-- a renumbering by a one-to-one map is accepted
pub accepted : (m : List ℕ) (r : Relay) (t : Tally) → tables_ok r ≡ true → one_to_one m ≡ true
    → perform (renumbering m) r t ≡ record { reply = numbered 0; relay = renumbered m r; tally = t }
unfolding perform of_setting settle table_refusal rule_of first_of settled ◌then◌otherwise◌
accepted m r t fine ok = rw (fine, ok)

-- a renamed call is given the same addresses
pub addresses_renamed : (m : List ℕ) (c : TableCall) → (rule_of ((rule_of c).renamed m)).addresses ≡ (rule_of c).addresses
unfolding rule_of
addresses_renamed m (sets_port port on mode size) = refl
addresses_renamed m (sets_rate target grace penalty) = refl
addresses_renamed m (adds address) = refl
addresses_renamed m (removes address) = refl
addresses_renamed m (renumbers images) = refl
addresses_renamed m (notes_path note destination clock) = refl

-- ---- one call
module _ (m : List ℕ) (ok : one_to_one m ≡ true) (r : Relay) (fine : tables_ok r ≡ true) (fine' : tables_ok (renumbered m r) ≡ true) where
  judged_renamed : (v : View) (a : Arrival) (todo : Plan) (t : Tally) (output : List ℕ) → v.on port_count ≡ false
      → judged (rename_arrival m a) (rename_plan m todo) (rename_view m v) (renumbered m r) t output ≡ rename_judgement m (judged a todo v r t output)
  unfolding judged rename_judgement rename_answer
  judged_renamed v a todo t output none-on = λ i.
      record {
        answer = Judged (verdict_renamed m ok v a todo none-on i);
        relay = enact_renamed m ok v a todo r i;
        tally = (ap (λ (x : Verdict). counted x t) (verdict_renamed m ok v a todo none-on) ∙ counted_renamed m (verdict v a todo) t) i;
        output = output_renamed m ok v a todo output none-on i;
      }

  judge_renamed : (a : Arrival) (t : Tally) (output : List ℕ)
      → judge (rename_arrival m a) (renumbered m r) t output ≡ rename_judgement m (judge a r t output)
  unfolding judge rename_arrival
  judge_renamed a t output =
      let v : View = view_at a.clock r in
      ap (λ (w : View). judged (rename_arrival m a) (plan w (rename_arrival m a)) w (renumbered m r) t output)
      (view_renamed m a.clock r (sixteen_ports r fine))
      ∙ ap (λ (todo : Plan). judged (rename_arrival m a) todo (rename_view m v) (renumbered m r) t output) (plan_renamed m ok v a)
      ∙ judged_renamed v a (plan v a) t output (no_port_on a.clock r)

  packet_call_renamed : (a : Arrival) (t : Tally) (output : List ℕ)
      → packet_call (rename_arrival m a) (renumbered m r) t output ≡ rename_judgement m (packet_call a r t output)
  unfolding packet_call rename_judgement rename_answer
  packet_call_renamed a t output =
      let refusal : ℕ = packet_refusal r a (length output) in
      let refused : Judgement = record { answer = Refused refusal; relay = r; tally = t; output = output } in
      ap
      (λ (n : ℕ).
      eqb n 0
      then judge (rename_arrival m a) (renumbered m r) t output
      otherwise record { answer = Refused n; relay = renumbered m r; tally = t; output = output })
      (packet_refusal_renamed m ok r fine fine' a (length output))
      ∙ ap (λ (j : Judgement). eqb refusal 0 then j otherwise rename_judgement m refused) (judge_renamed a t output)
      ∙ sym (then_ap (rename_judgement m) (eqb refusal 0) (judge a r t output) refused)

  -- ---- a port set, a local address added or removed
  ports_renamed : (port : ℕ) (x : Port)
      → with_ports (set (renumbered m r).ports (image m port) x) (renumbered m r) ≡ renumbered m (with_ports (set r.ports port x) r)
  unfolding with_ports renumbered
  ports_renamed port x = ap (λ (ports : List Port). with_ports ports (renumbered m r)) (moved_set m r.ports (sixteen_ports r fine) ok port x)

  rows_renamed : (c : TableCall) → (rule_of ((rule_of c).renamed m)).rows (renumbered m r) ≡ (rule_of c).rows r
  unfolding rule_of is_local local_place empty_local renumbered
  rows_renamed (sets_port port on mode size) = rw (image_leb m ok port)
  rows_renamed (sets_rate target grace penalty) = refl
  rows_renamed (adds address) = refl
  rows_renamed (removes address) = refl
  rows_renamed (renumbers images) = refl
  rows_renamed (notes_path note destination clock) =
      let there : is_there ((view_at clock (renumbered m r)).path destination) ≡ is_there ((view_at clock r).path destination) =
      ap is_there (path_renamed m clock r destination) ∙ is_there_renamed m (rename_path m) ((view_at clock r).path destination) in
      ap (λ (b : Bool). clock_bad r clock gives 5 otherwise not b gives 12 otherwise []) there

  after_renamed : (c : TableCall) → (rule_of c).moves_ports ≡ false → NoneHolds ((rule_of c).rows r)
      → (rule_of ((rule_of c).renamed m)).after (renumbered m r) ≡ renumbered m ((rule_of c).after r)
  unfolding rule_of local_place empty_local with_rate with_locals renumbered
  after_renamed (sets_port port on mode size) no-map n = ports_renamed port (make_port on mode size)
  after_renamed (sets_rate target grace penalty) no-map n = refl
  after_renamed (adds address) no-map n = refl
  after_renamed (removes address) no-map n = refl
  after_renamed (renumbers images) no-map n = absurd (false≢true (sym no-map ∙ not-false _ n.0))
  after_renamed (notes_path note destination clock) no-map n = note_renamed m ok note destination clock r

  settle_renamed : (c : TableCall) → (rule_of c).moves_ports ≡ false → settle ((rule_of c).renamed m) (renumbered m r) ≡ rename_setting m (settle c r)
  unfolding settle settled rename_setting ◌then◌otherwise◌
  settle_renamed c no-map = rw refusal (go (eqb (table_refusal c r) 0) refl)
    where
      refusal : table_refusal ((rule_of c).renamed m) (renumbered m r) ≡ table_refusal c r
      refusal = unfold table_refusal in rw (fine, fine', rows_renamed c)

      go : (b : Bool) → eqb (table_refusal c r) 0 ≡ b
          → ◌≡◌ {A = Setting}
          (record { refusal = table_refusal c r; relay = b then (rule_of ((rule_of c).renamed m)).after (renumbered m r) otherwise renumbered m r })
          (record { refusal = table_refusal c r; relay = renumbered m (b then (rule_of c).after r otherwise r) })
      go true e = ap (λ (x : Relay). record { refusal = table_refusal c r; relay = x }) (after_renamed c no-map (table_passed c r e))
      go false e = refl

  -- ---- the first of calls among which no renumbering is accepted
  setting_renamed : (t : Tally) (s : Setting) → of_setting t (rename_setting m s) ≡ rename_outcome m (of_setting t s)
  unfolding of_setting rename_setting rename_outcome rename_reply
  setting_renamed t s = refl

  judgement_renamed : (j : Judgement) → of_judgement (rename_judgement m j) ≡ rename_outcome m (of_judgement j)
  unfolding of_judgement rename_judgement rename_outcome rename_reply
  judgement_renamed j = refl

  -- a save is of the renamed relay, by the same rows
  saved_renamed : (n : ℕ) (t : Tally) (room : List ℕ) → save_reply n (renumbered m r) t room ≡ rename_reply m (save_reply n r t room)
  unfolding save_reply rename_reply
  saved_renamed n t room = sym (then_ap (rename_reply m) (eqb n 0) (saved r t room) (unsaved n room))

  save_renamed : (f : Format) (room : List ℕ) (t : Tally)
      → save_reply (save_refusal f (length room) (renumbered m r)) (renumbered m r) t room ≡ rename_reply m (save_reply (save_refusal f (length room) r) r t room)
  unfolding save_refusal
  save_renamed f room t = rw (fine, fine') (saved_renamed _ t room)

  -- a load that is refused leaves either relay
  load_renamed : (s : Said) (t : Tally) → eqb (load_refusal s) 0 ≡ false → of_said s (renumbered m r) t ≡ rename_outcome m (of_said s r t)
  unfolding of_said rename_outcome rename_reply ◌then◌otherwise◌
  load_renamed s t none = rw none

  pub call_renamed : (c : Call) (t : Tally) → moves_ports c ≡ false → sets_relay c ≡ false
      → perform (rename_call m c) (renumbered m r) t ≡ rename_outcome m (perform c r t)
  unfolding perform rename_call rename_reply rename_setting rename_outcome moves_ports sets_relay of_told
  call_renamed (packet a output) t h none = ap of_judgement (packet_call_renamed a t output) ∙ judgement_renamed (packet_call a r t output)
  call_renamed (on_tables c) t h none = ap (of_setting t) (settle_renamed c h) ∙ setting_renamed t _
  call_renamed (asks q) t h none = ap (of_told (renumbered m r) t) (tell_renamed m ok r fine fine' q)
  call_renamed (saves f room) t h none = ap (λ (x : Reply). record { reply = x; relay = renumbered m r; tally = t }) (save_renamed f room t)
  call_renamed (loads f file) t h none = load_renamed (f.says file) t none
