-- A recording's replay, step by step: its entries with their answers, and the counters after them.
use Rattle.std.proofs.Common.{◌≡◌, ℕ, zero, suc, ◌+◌, ◌<◌, ◌≤◌, eqb, List, [], ◌∷◌, ◌++◌, length, get_or, set, sym, refl, ap, ◌∙◌, ap₂, add-one, arith, length-append, eq-eqb, ne_eqb, le-leb}
use borrow.Author.Tests.{lt-leb}
use Rattle.octets.specs.Index.{list_of}
use Rattle.octets.specs.Choice.{◌then◌otherwise◌}
use Rattle.octets.proofs.Choice.{then_true, then_false}
use Rattle.octets.proofs.ListOf.{list_of_length}
use Rattle.rules.specs.Calls.{new_tally}
use Rattle.rules.specs.declared.Answer.{Answer}
use Rattle.rules.specs.declared.Tally.{Tally}
use Rattle.recording.specs.Shape.{count_of}
use Rattle.recording.specs.Format.{Entry}
use Rattle.recording.specs.Reader.{file_refusal, fields_of, body_of, entry_of, entries_of}
use Rattle.replaying.specs.Promise.{step_on, ReplayOn, replay_on, one_more, steps_on}
use Rattle.replaying.proofs.Replay.{steps_replay, replay_refused}
use Rattle.surveying.specs.Counts.{Answered, answered_as, answered}
use Rattle.surveying.specs.Survey.{recording_limit, late_number, one_too_many, answers_from}
use Rattle.surveying.specs.Promise.{add_one, add_all, noted, read_on, recording_on}
use Rattle.surveying.proofs.CountLaws.{add_last}

-- ---- entries with their answers
answered_last : (es : List Entry) (answers : List Answer) → length es ≡ length answers → (e : Entry) (answer : Answer)
    → answered (es ++ (e ∷ [])) (answers ++ (answer ∷ [])) ≡ answered es answers ++ (answered_as e answer ∷ [])
unfolding answered
answered_last [] [] same e answer = refl
answered_last [] (a ∷ answers) same e answer = absurd (omega (arith, same))
answered_last (x ∷ es) [] same e answer = absurd (omega (arith, same))
answered_last (x ∷ es) (a ∷ answers) same e answer =
    ap (λ (rest : List Answered). answered_as x a ∷ rest) (answered_last es answers (omega (arith, same)) e answer)

pub answered_none : (es : List Entry) → answered es [] ≡ []
unfolding answered
answered_none [] = refl
answered_none (e ∷ es) = refl

-- ---- step by step
module _ (f t : List ℕ) (tally : Tally) where
  one_answer : (i : ℕ) → length (steps_on f i t tally).answers ≡ i
  unfolding steps_on one_more
  one_answer zero = refl
  one_answer (suc i) =
      let r : ReplayOn = steps_on f i t tally in
      let a : Answer = (step_on f i r.tables r.tally).answer in
      omega (arith, length-append r.answers (a ∷ []), one_answer i)

  -- the first i entries with their answers
  unfoldable pub answers_up_to : ℕ → List Answered
  answers_up_to i = answered (list_of (entry_of f) i) (steps_on f i t tally).answers

  answers_more : (i : ℕ) → answers_up_to (i + 1)
      ≡ answers_up_to i ++ (answered_as (entry_of f i) (step_on f i (steps_on f i t tally).tables (steps_on f i t tally).tally).answer ∷ [])
  unfolding answers_up_to steps_on one_more list_of
  answers_more i =
      let r : ReplayOn = steps_on f i t tally in
      ap answers_up_to (add-one i)
      ∙ answered_last (list_of (entry_of f) i) r.answers (list_of_length (entry_of f) i ∙ sym (one_answer i)) (entry_of f i)
      (step_on f i r.tables r.tally).answer

  -- one turn of the loop: the tables u, the tally y and the counters as the steps so far left them
  module _ (i : ℕ) (u : List ℕ) (y : Tally) (eu : u ≡ (steps_on f i t tally).tables) (ey : y ≡ (steps_on f i t tally).tally) where
    pub next : one_more (steps_on f i t tally) (step_on f i u y) ≡ steps_on f (i + 1) t tally
    unfolding steps_on
    next = rw (eu, ey, add-one) refl

    pub next_tables : (v : List ℕ) → v ≡ (step_on f i u y).tables → v ≡ (steps_on f (i + 1) t tally).tables
    unfolding one_more
    next_tables v q = q ∙ ap (λ (r : ReplayOn). r.tables) next

    pub next_tally : (z : Tally) → z ≡ (step_on f i u y).tally → z ≡ (steps_on f (i + 1) t tally).tally
    unfolding one_more
    next_tally z q = q ∙ ap (λ (r : ReplayOn). r.tally) next

    pub next_counts : (counts grown more : List ℕ) → grown ≡ add_all counts (answers_up_to i)
        → (port : ℕ) → port ≡ (fields_of f i).port → (body : List ℕ) → body ≡ body_of f i → (answer : Answer) → answer ≡ (step_on f i u y).answer
        → more ≡ add_one grown (record { port = port; size = length body; answer = answer })
        → more ≡ add_all counts (answers_up_to (i + 1))
    unfolding answered_as entry_of
    next_counts counts grown more held port ep body eb answer ea q =
        let r : ReplayOn = steps_on f i t tally in
        let same : answer ≡ (step_on f i r.tables r.tally).answer = ea ∙ ap₂ (λ (x : List ℕ) (z : Tally). (step_on f i x z).answer) eu ey in
        let entry : record { port = port; size = length body; answer = answer }
        ≡ answered_as (entry_of f i) (step_on f i r.tables r.tally).answer =
        λ k. record { port = ep k; size = length (eb k); answer = same k } in
        q
        ∙ ap₂ add_one held entry
        ∙ add_last (answers_up_to i) (answered_as (entry_of f i) (step_on f i r.tables r.tally).answer) counts
        ∙ ap (add_all counts) (sym (answers_more i))

  pub no_answers : answers_up_to 0 ≡ []
  unfolding answers_up_to list_of steps_on answered
  no_answers = refl

-- ---- a recording that the reader takes is its steps; one that is refused has no answers
module _ (f start : List ℕ) where
  pub taken_answers : file_refusal f ≡ 0 → answered (entries_of f) (steps_on f (count_of f) start new_tally).answers ≡ answers_from start f
  unfolding answers_from
  taken_answers e = ap (λ (r : ReplayOn). answered (entries_of f) r.answers) (steps_replay f start new_tally e)

  pub refused_answers : (file_refusal f ≡ 0 → ⊥) → answers_from start f ≡ []
  unfolding answers_from
  refused_answers some =
      ap (λ (r : ReplayOn). answered (entries_of f) r.answers) (replay_refused f start new_tally some) ∙ answered_none (entries_of f)

-- ---- the cases of a recording: one too many, refused, read
module _ (f start work counts refusals : List ℕ) where
  pub too_many : recording_limit ≤ get_or refusals 0 0 → recording_on f start work counts refusals
      ≡ record { refusal = one_too_many; start = start; work = work; counts = counts; refusals = set refusals late_number one_too_many }
  unfolding recording_on
  too_many l = then_true _ _ (le-leb recording_limit (get_or refusals 0 0) l)

  pub is_read : get_or refusals 0 0 < recording_limit → recording_on f start work counts refusals ≡ read_on f start work counts refusals
  unfolding recording_on
  is_read l = then_false _ _ (lt-leb recording_limit (get_or refusals 0 0) l)

  pub read_refused : (file_refusal f ≡ 0 → ⊥) → read_on f start work counts refusals
      ≡ record { refusal = file_refusal f; start = start; work = work; counts = counts; refusals = noted refusals (file_refusal f) }
  unfolding read_on add_all
  read_refused some = λ i.
      record {
        refusal = file_refusal f;
        start = start;
        work = then_false (replay_on f start new_tally).tables work (ne_eqb (file_refusal f) 0 some) i;
        counts = add_all counts (refused_answers f start some i);
        refusals = noted refusals (file_refusal f);
      }

  pub read_taken : file_refusal f ≡ 0 → read_on f start work counts refusals
      ≡ record {
        refusal = file_refusal f;
        start = start;
        work = (steps_on f (count_of f) start new_tally).tables;
        counts = add_all counts (answered (entries_of f) (steps_on f (count_of f) start new_tally).answers);
        refusals = noted refusals (file_refusal f);
      }
  unfolding read_on
  read_taken none =
      let tables : (eqb (file_refusal f) 0 then (replay_on f start new_tally).tables otherwise work) ≡ (steps_on f (count_of f) start new_tally).tables =
      then_true _ _ (eq-eqb (file_refusal f) 0 none) ∙ ap (λ (r : ReplayOn). r.tables) (sym (steps_replay f start new_tally none)) in
      let answers = ap (add_all counts) (sym (taken_answers f start none)) in
      λ i.
      record {
        refusal = file_refusal f;
        start = start;
        work = tables i;
        counts = answers i;
        refusals = noted refusals (file_refusal f);
      }
