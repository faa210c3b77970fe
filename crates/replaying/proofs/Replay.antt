-- A replay is its steps in order: for a file that the reader takes, the steps over entries 0 to count - 1 answer, print and leave what the replay does, whose
-- answers, tables and tally are those of the entries' packet calls, one by one. A refused file has no step: nothing changes.
use Prim.Native.Nat.{ℕ, zero, suc, ◌+◌, ◌≤◌}
use native.Mathlib.Omega.{arith}
use mathlib.Core.Bool.{true}
use mathlib.Core.List.{List, [], ◌∷◌, ◌++◌, append-nil, append_assoc}
use mathlib.Core.Path.{◌≡◌, refl, sym, ap, ◌∙◌}
use lib.ListN.{length}
use borrow.Author.Tests.{eq-eqb, ne_eqb}
use Rattle.octets.specs.Index.{list_of}
use Rattle.octets.proofs.Choice.{then_true, then_false}
use Rattle.octets.proofs.ListOf.{list_of_length}
use Rattle.rules.specs.declared.Tally.{Tally}
use Rattle.relay.specs.Promise.{JudgementOn}
use Rattle.recording.specs.Shape.{count_of}
use Rattle.recording.specs.Format.{Entry}
use Rattle.recording.specs.Reader.{file_refusal, entry_of, entries_of}
use Rattle.recording.proofs.ReadLaws.{taken, taken_there}
use Rattle.text.specs.Words.{words_line, refused_words}
use Rattle.replaying.specs.Lines.{answer_line, lines_from}
use Rattle.replaying.specs.Promise.{entry_call, StepOn, step_of, step_on, ReplayOn, goes_on, replay_from, replay_on, one_more, steps_on}
use Rattle.replaying.proofs.StepLaws.{step_there}

-- ---- the entries' calls, and one more
-- a call as a step whose line is counted so
abbrev numbered : ℕ → JudgementOn → StepOn
numbered n j = record { there = true; answer = j.answer; line = answer_line n j.answer; tables = j.tables; tally = j.tally }

abbrev with_entry : ℕ → ReplayOn → Entry → ReplayOn
with_entry n r e = one_more r (numbered n (entry_call e r.tables r.tally))

last_entry : (k : ℕ) (es : List Entry) (e : Entry) (t : List ℕ) (tally : Tally)
    → replay_from k (es ++ (e ∷ [])) t tally ≡ with_entry (k + length es) (replay_from k es t tally) e
unfolding replay_from goes_on one_more
last_entry k [] e t tally =
    let j : JudgementOn = entry_call e t tally in
    let none : k + 0 ≡ k = omega arith in
    ap (λ (x : List ℕ). record { refusal = 0; answers = j.answer ∷ []; text = x; tables = j.tables; tally = j.tally })
    (append-nil (answer_line k j.answer) ∙ ap (λ (n : ℕ). answer_line n j.answer) (sym none))
last_entry k (x ∷ es) e t tally =
    let first : JudgementOn = entry_call x t tally in
    let r : ReplayOn = replay_from (k + 1) es first.tables first.tally in
    let j : JudgementOn = entry_call e r.tables r.tally in
    let more : k + 1 + length es ≡ k + suc (length es) = omega arith in
    ap (goes_on k first) (last_entry (k + 1) es e first.tables first.tally)
    ∙ ap (λ (y : List ℕ).
    record { refusal = r.refusal; answers = first.answer ∷ (r.answers ++ (j.answer ∷ [])); text = y; tables = j.tables; tally = j.tally })
    (sym (append_assoc (answer_line k first.answer) r.text (answer_line (k + 1 + length es) j.answer))
    ∙ ap (λ (n : ℕ). (answer_line k first.answer ++ r.text) ++ answer_line n j.answer) more)

-- the text is the answers' lines, counted from there
pub text_lines : (k : ℕ) (es : List Entry) (t : List ℕ) (tally : Tally) → (replay_from k es t tally).text ≡ lines_from k (replay_from k es t tally).answers
unfolding replay_from goes_on lines_from
text_lines k [] t tally = refl
text_lines k (e ∷ es) t tally =
    let j : JudgementOn = entry_call e t tally in
    ap (λ (x : List ℕ). answer_line k j.answer ++ x) (text_lines (k + 1) es j.tables j.tally)

-- ---- the steps in order
module _ (f t : List ℕ) (tally : Tally) where
  module _ (e : file_refusal f ≡ 0) where
    pub steps_calls : (n : ℕ) → n ≤ count_of f → steps_on f n t tally ≡ replay_from 1 (list_of (entry_of f) n) t tally
    unfolding steps_on list_of replay_from step_of
    steps_calls zero l = refl
    steps_calls (suc n) l =
        let r : ReplayOn = replay_from 1 (list_of (entry_of f) n) t tally in
        let before : steps_on f n t tally ≡ r = steps_calls n (omega arith) in
        let number : n + 1 ≡ 1 + length (list_of (entry_of f) n) = omega (arith, list_of_length (entry_of f) n) in
        ap (λ (x : ReplayOn). one_more x (step_on f n x.tables x.tally)) before
        ∙ ap (one_more r) (step_there f n r.tables r.tally (taken_there f (taken f e) n (omega arith)))
        ∙ ap (λ (k : ℕ). with_entry k r (entry_of f n)) number
        ∙ sym (last_entry 1 (list_of (entry_of f) n) (entry_of f n) t tally)

    -- the calls one by one are the replay
    pub replay_calls : replay_on f t tally ≡ replay_from 1 (entries_of f) t tally
    unfolding replay_on
    replay_calls = then_true _ _ (eq-eqb (file_refusal f) 0 e)

    -- its text is its answers' lines, counted from 1
    pub replay_lines : (replay_on f t tally).text ≡ lines_from 1 (replay_on f t tally).answers
    replay_lines = rw replay_calls (text_lines 1 (entries_of f) t tally)

    -- the steps in order are the replay
    pub steps_replay : steps_on f (count_of f) t tally ≡ replay_on f t tally
    unfolding entries_of
    steps_replay = steps_calls (count_of f) (omega arith) ∙ sym replay_calls

  -- a refused file
  pub replay_refused : (file_refusal f ≡ 0 → ⊥)
      → replay_on f t tally ≡ record { refusal = file_refusal f; answers = []; text = words_line (refused_words (file_refusal f)); tables = t; tally = tally }
  unfolding replay_on
  replay_refused ne = then_false _ _ (ne_eqb (file_refusal f) 0 ne)
