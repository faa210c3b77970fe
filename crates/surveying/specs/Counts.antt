-- Document 02, Wish 14: what is counted. "by port and by reason: packets, bytes in, bytes sent out (a spread counts once per port in its set), and the share of
-- packets dropped". "Numbers are exact totals over the replays' answers." "Packets and bytes in are of those accepted on that port."
use Rattle.std.specs.Prelude.{ℕ, ◌+◌, Bool, true, false, not, List, [], ◌∷◌, length, ◌==◌, nat_eq}
use Rattle.octets.specs.Choice.{◌then◌otherwise◌}
use Rattle.octets.specs.Index.{◌and◌}
use Rattle.rules.specs.Answers.{reason_number, in_set}
use Rattle.rules.specs.declared.Verdict.{Verdict}
use Rattle.rules.specs.declared.Verdict.TheVariants.{Drop, Deliver, Forward, Spread, Kept}
use Rattle.rules.specs.declared.Answer.{Answer}
use Rattle.rules.specs.declared.Answer.TheVariants.{Refused, Judged}
use Rattle.recording.specs.Format.{Entry}

-- ---- an entry of a recording and what the replay answered: the port that the packet came in by, its bytes, and the answer
pub record Answered : Type 0 where
  pub port : ℕ
  pub size : ℕ
  pub answer : Answer

unfoldable pub answered_as : Entry → Answer → Answered
answered_as e answer = record { port = e.port; size = length e.body; answer = answer }

-- the entries, each with its answer, in order. A replay that is refused has no answers
unfoldable pub answered : List Entry → List Answer → List Answered
answered [] answers = []
answered (e ∷ es) [] = []
answered (e ∷ es) (answer ∷ answers) = answered_as e answer ∷ answered es answers

-- ---- what an answer says
-- document 01: "A drop is not a refusal: the packet was accepted and judged."
unfoldable pub is_accepted : Answer → Bool
is_accepted (Refused number) = false
is_accepted (Judged verdict) = true

-- the bytes of what leaves by a port: "a spread counts once per port in its set"
unfoldable pub sent_by : ℕ → Verdict → ℕ
sent_by port (Drop reason) = 0
sent_by port Deliver = 0
sent_by port (Forward by size) = by == port then size otherwise 0
sent_by port (Spread ports size) = in_set ports port then size otherwise 0
sent_by port Kept = 0

unfoldable pub leaving_by : ℕ → Answer → ℕ
leaving_by port (Refused number) = 0
leaving_by port (Judged verdict) = sent_by port verdict

-- the test that dropped the packet, whichever its clause or case; 0 where it wasn't dropped
unfoldable pub verdict_test : Verdict → ℕ
verdict_test (Drop reason) = reason_number reason
verdict_test Deliver = 0
verdict_test (Forward by size) = 0
verdict_test (Spread ports size) = 0
verdict_test Kept = 0

unfoldable pub test_of : Answer → ℕ
test_of (Refused number) = 0
test_of (Judged verdict) = verdict_test verdict

-- ---- what one answered entry adds
unfoldable pub accepted_on : ℕ → Answered → Bool
accepted_on port x = is_accepted x.answer and nat_eq x.port port

-- packets accepted on a port, and their bytes
unfoldable pub packets_on : ℕ → Answered → ℕ
packets_on port x = accepted_on port x then 1 otherwise 0

unfoldable pub bytes_in_on : ℕ → Answered → ℕ
bytes_in_on port x = accepted_on port x then x.size otherwise 0

-- bytes sent out by a port
unfoldable pub bytes_out_by : ℕ → Answered → ℕ
bytes_out_by port x = leaving_by port x.answer

-- packets accepted on a port and dropped, and packets dropped by a test
unfoldable pub dropped_on : ℕ → Answered → ℕ
dropped_on port x = not (test_of x.answer == 0) and accepted_on port x then 1 otherwise 0

unfoldable pub dropped_by : ℕ → Answered → ℕ
dropped_by test x = test_of x.answer == test then 1 otherwise 0

-- ---- a sum over a list
unfoldable pub sum_over : {A : Type 0} → (A → ℕ) → List A → ℕ
sum_over quantity [] = 0
sum_over quantity (x ∷ xs) = quantity x + sum_over quantity xs

-- ---- "one for each test, 1 to 11, 15, 12, 16, 13"
abbrev pub test_order : List ℕ
test_order = 1 ∷ 2 ∷ 3 ∷ 4 ∷ 5 ∷ 6 ∷ 7 ∷ 8 ∷ 9 ∷ 10 ∷ 11 ∷ 15 ∷ 12 ∷ 16 ∷ 13 ∷ []

abbrev pub test_count : ℕ
test_count = length test_order
