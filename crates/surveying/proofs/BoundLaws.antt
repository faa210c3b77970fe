-- No counter of a survey can reach 2^64: a recording has at most 60,000 bytes, and what an entry adds is at most as much.
use Rattle.std.proofs.Common.{◌≡◌, ℕ, zero, suc, ◌+◌, ◌-◌, ◌*◌, ◌≤◌, Bool, true, false, not, eqb, ltb, List, [], ◌∷◌, ◌++◌, length, sym, refl, ap, subst, arith, lit≤, length-drop, length-take, eqb-true, leb-true}
use borrow.Author.Tests.{eqb-false}
use Rattle.octets.specs.Index.{◌and◌, list_of}
use Rattle.octets.specs.Choice.{◌then◌otherwise◌}
use Rattle.octets.specs.Part.{part}
use Rattle.octets.proofs.Index.{and_left}
use Rattle.octets.proofs.ListOf.{list_of_length}
use Rattle.numbers.specs.Numbers.{longest_packet}
use Rattle.rules.specs.Answers.{in_set}
use Rattle.rules.specs.Calls.{new_tally}
use Rattle.rules.specs.Lengths.{verdict_length_ok, answer_length_ok}
use Rattle.rules.specs.declared.Verdict.{Verdict}
use Rattle.rules.specs.declared.Verdict.TheVariants.{Drop, Deliver, Forward, Spread, Kept}
use Rattle.rules.specs.declared.Answer.{Answer}
use Rattle.rules.specs.declared.Answer.TheVariants.{Refused, Judged}
use Rattle.rules.specs.declared.Tally.{Tally}
use Rattle.rules.proofs.Choices.{either}
use Rattle.relay.specs.Promise.{JudgementOn}
use Rattle.relay.proofs.LengthLaws.{lengths_on}
use Rattle.recording.specs.Shape.{count_of}
use Rattle.recording.specs.Format.{Entry, longest_file, most_entries}
use Rattle.recording.specs.Reader.{file_refusal, body_of, entry_of, entries_of}
use Rattle.recording.proofs.ReadLaws.{taken}
use Rattle.replaying.specs.Promise.{entry_call, ReplayOn, goes_on, replay_from}
use Rattle.replaying.proofs.Replay.{replay_calls}
use Rattle.surveying.specs.Counts.{Answered, answered_as, answered, sent_by, leaving_by, test_of, accepted_on, packets_on, bytes_in_on, bytes_out_by, dropped_on, dropped_by, sum_over}
use Rattle.surveying.specs.Survey.{answers_from}
use Rattle.surveying.specs.Promise.{bytes_in_at, bytes_out_at, dropped_at, tests_at, counted_at}
use Rattle.surveying.proofs.ReplayLaws.{refused_answers}

-- ---- what an entry adds: wish 9's lengths bound what leaves
sent_small : (p : List ℕ) (port : ℕ) (v : Verdict) → verdict_length_ok p v ≡ true → sent_by port v ≤ longest_packet
unfolding sent_by verdict_length_ok
sent_small p port (Drop reason) h = lit≤ tt
sent_small p port Deliver h = lit≤ tt
sent_small p port (Forward by n) h =
    either (λ (x : ℕ). x ≤ longest_packet) (eqb by port) (λ _. leb-true n longest_packet (and_left _ _ h)) (λ _. lit≤ tt)
sent_small p port (Spread ports n) h =
    either (λ (x : ℕ). x ≤ longest_packet) (in_set ports port) (λ _. leb-true n longest_packet (and_left _ _ h)) (λ _. lit≤ tt)
sent_small p port Kept h = lit≤ tt

leaving_small : (p : List ℕ) (port : ℕ) (a : Answer) → answer_length_ok p a ≡ true → leaving_by port a ≤ longest_packet
unfolding leaving_by answer_length_ok
leaving_small p port (Refused number) h = lit≤ tt
leaving_small p port (Judged v) h = sent_small p port v h

one_or_none : (b : Bool) (n : ℕ) → n ≤ longest_file → (b then n otherwise 0) ≤ longest_file
one_or_none b n l = either (λ (x : ℕ). x ≤ longest_file) b (λ _. l) (λ _. lit≤ tt)

counted_small : (k : ℕ) (x : Answered) → x.size ≤ longest_file → ((port : ℕ) → leaving_by port x.answer ≤ longest_packet) → counted_at k x ≤ longest_file
unfolding counted_at packets_on bytes_in_on bytes_out_by dropped_on dropped_by
counted_small k x size leaves =
    either (λ (v : ℕ). v ≤ longest_file) (ltb k bytes_in_at) (λ _. one_or_none (accepted_on k x) 1 (lit≤ tt)) (λ _.
    either (λ (v : ℕ). v ≤ longest_file) (ltb k bytes_out_at) (λ _. one_or_none (accepted_on _ x) x.size size) (λ _.
    either (λ (v : ℕ). v ≤ longest_file) (ltb k dropped_at) (λ _. omega (arith, leaves (k - bytes_out_at))) (λ _.
    either (λ (v : ℕ). v ≤ longest_file) (ltb k tests_at)
    (λ _. one_or_none (not (eqb (test_of x.answer) 0) and accepted_on _ x) 1 (lit≤ tt))
    (λ _. one_or_none (eqb (test_of x.answer) _) 1 (lit≤ tt)))))

-- ---- the entries of a recording
Short : List Entry → Type 0
Short [] = Unit {0}
Short (e ∷ es) = (length e.body ≤ longest_file) × Short es

short_append : (es ds : List Entry) → Short es → Short ds → Short (es ++ ds)
unfolding Short
short_append [] ds h k = k
short_append (e ∷ es) ds h k = (h.0, short_append es ds h.1 k)

entries_short : (f : List ℕ) → length f ≤ longest_file → (n : ℕ) → Short (list_of (entry_of f) n)
unfolding Short list_of entry_of body_of part
entries_short f l zero = tt
entries_short f l (suc n) =
    short_append (list_of (entry_of f) n) (entry_of f n ∷ []) (entries_short f l n) (simp (length-take, length-drop) (omega arith), tt)

replay_small : (k : ℕ) (es : List Entry) → Short es → (n : ℕ) (t : List ℕ) (y : Tally)
    → sum_over (counted_at k) (answered es (replay_from n es t y).answers) ≤ longest_file * length es
unfolding Short sum_over answered answered_as replay_from goes_on entry_call
replay_small k [] h n t y = lit≤ tt
replay_small k (e ∷ es) h n t y =
    let j : JudgementOn = entry_call e t y in
    let x : Answered = answered_as e j.answer in
    let first : counted_at k x ≤ longest_file =
    counted_small k x h.0 (λ port. leaving_small e.body port j.answer (lengths_on e.body e.port e.clock (eqb e.word 1) t y _)) in
    let rest = replay_small k es h.1 (n + 1) j.tables j.tally in
    omega (arith, first, rest)

-- ---- a recording that is read; one that is refused adds nothing
-- the entries whose contents the longest file has room for: 4,615
module _ (k : ℕ) (start f : List ℕ) where
  taken_small : file_refusal f ≡ 0 → sum_over (counted_at k) (answers_from start f) ≤ longest_file * most_entries
  unfolding answers_from entries_of
  taken_small none =
      let t = taken f none in
      let all : sum_over (counted_at k) (answers_from start f) ≤ longest_file * length (entries_of f) =
      subst (λ (r : ReplayOn). sum_over (counted_at k) (answered (entries_of f) r.answers) ≤ longest_file * length (entries_of f))
      (sym (replay_calls f start new_tally none))
      (replay_small k (entries_of f) (entries_short f t.short (count_of f)) 1 start new_tally) in
      omega (arith, all, list_of_length (entry_of f) (count_of f), t.short, t.shaped.whole)

  refused_adds : (file_refusal f ≡ 0 → ⊥) → sum_over (counted_at k) (answers_from start f) ≡ 0
  unfolding sum_over
  refused_adds some = ap (sum_over (counted_at k)) (refused_answers f start some)

  pub answers_small : sum_over (counted_at k) (answers_from start f) ≤ longest_file * most_entries
  answers_small = go (eqb (file_refusal f) 0) refl
    where
      go : (b : Bool) → eqb (file_refusal f) 0 ≡ b → sum_over (counted_at k) (answers_from start f) ≤ longest_file * most_entries
      go true e = taken_small (eqb-true (file_refusal f) 0 e)
      go false e = omega (arith, refused_adds (eqb-false (file_refusal f) 0 e))

-- sixteen of them are far below 2^64
pub files_small : (k : ℕ) (start : List ℕ) (files : List (List ℕ))
    → sum_over (λ (f : List ℕ). sum_over (counted_at k) (answers_from start f)) files ≤ longest_file * most_entries * length files
unfolding sum_over
files_small k start [] = lit≤ tt
files_small k start (f ∷ files) = omega (arith, answers_small k start f, files_small k start files)
