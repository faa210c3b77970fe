-- Document 02, Wish 1: "prints one line per entry, counted from 1: `1 forward 4`, `2 drop 6`, `3 deliver`, `4 spread 1 5` (rising), `5 kept`; an entry that
-- the core refuses prints as `6 refused 1`". Wish 10 amends the drops by tests 3 and 6: "`2 drop 3.4 148`, `2 drop 3.1 0`, `2 drop 6.3 22600`, `2 drop 6.1`".
use Rattle.std.specs.Prelude.{ℕ, zero, suc, ◌+◌, ◌*◌, List, [], ◌∷◌, ◌++◌, eqb, length}
use Rattle.octets.specs.Choice.{◌then◌otherwise◌}
use Rattle.numbers.specs.Numbers.{port_count}
use Rattle.rules.specs.Answers.{ReasonNumbers, reason_numbers, tells_value, in_set}
use Rattle.rules.specs.declared.Verdict.{Verdict}
use Rattle.rules.specs.declared.Verdict.TheVariants.{Drop, Deliver, Forward, Spread, Kept}
use Rattle.rules.specs.declared.Answer.{Answer}
use Rattle.rules.specs.declared.Answer.TheVariants.{Refused, Judged}
use Rattle.text.specs.Numerals.{decimal, short_digits}
use Rattle.text.specs.Words.{words_line, refused_words}
use Rattle.replaying.specs.Words.{forward_word, drop_word, deliver_word, spread_word, kept_word, point}

-- how long an answer's words are at most, each behind a space: a word of seven letters, and a short number for every port
abbrev pub longest_word : ℕ
longest_word = length forward_word

abbrev pub longest_answer : ℕ
longest_answer = (1 + longest_word) + port_count * (1 + short_digits)

-- the ports of a set that are below n, rising
unfoldable pub ports_below : (set n : ℕ) → List (List ℕ)
ports_below set zero = []
ports_below set (suc n) = ports_below set n ++ (in_set set n then decimal n ∷ [] otherwise [])

-- the test, and behind a point its clause or case, where it has one
unfoldable pub test_word : (test clause : ℕ) → List ℕ
test_word test clause = eqb clause 0 then decimal test otherwise decimal test ++ (point ∷ decimal clause)

-- a reason's numbers, one by one
abbrev pub numbers_of : (test clause value : ℕ) → ReasonNumbers
numbers_of test clause value = record { test = test; clause = clause; value = value }

-- .. and the value, where it is told
unfoldable pub reason_words : ReasonNumbers → List (List ℕ)
reason_words r = test_word r.test r.clause ∷ (tells_value r then decimal r.value ∷ [] otherwise [])

unfoldable pub verdict_words : Verdict → List (List ℕ)
verdict_words (Drop reason) = drop_word ∷ reason_words (reason_numbers reason)
verdict_words Deliver = deliver_word ∷ []
verdict_words (Forward port length) = forward_word ∷ decimal port ∷ []
verdict_words (Spread ports length) = spread_word ∷ ports_below ports port_count
verdict_words Kept = kept_word ∷ []

unfoldable pub answer_words : Answer → List (List ℕ)
answer_words (Refused number) = refused_words number
answer_words (Judged verdict) = verdict_words verdict

-- the line of the entry that is counted so, with the line's end
unfoldable pub answer_line : ℕ → Answer → List ℕ
answer_line number answer = words_line (decimal number ∷ answer_words answer)

-- the lines of answers, the first counted so
unfoldable pub lines_from : ℕ → List Answer → List ℕ
lines_from number [] = []
lines_from number (a ∷ more) = answer_line number a ++ lines_from (number + 1) more
