-- Document 02's lines, whole: Wish 1's `1 forward 4`, `3 deliver`, `4 spread 1 5`, `5 kept`, `6 refused 1`, and Wish 10's drops.
use Rattle.std.specs.Prelude.{ℕ, List, [], ◌∷◌, ◌≡◌, refl}
use Rattle.octets.specs.Part.{joined}
use Rattle.octets.specs.Choice.{◌then◌otherwise◌, ◌or◌}
use Rattle.octets.specs.Index.{◌and◌}
use Rattle.rules.specs.Answers.{tells_value, in_set}
use Rattle.rules.specs.declared.Clause.TheVariants.{TypeTwoProof, AnnounceTooShort}
use Rattle.rules.specs.declared.Blocked.TheVariants.{NotAsking, OnlyExpired}
use Rattle.rules.specs.declared.Reason.TheVariants.{Duplicate, BadForm, NoWayOn, TooLongForPort}
use Rattle.rules.specs.declared.Verdict.TheVariants.{Drop, Deliver, Forward, Spread, Kept}
use Rattle.rules.specs.declared.Answer.TheVariants.{Refused, Judged}
use Rattle.text.specs.Numerals.{digit, numeral_within, numeral}
use Rattle.text.specs.Words.{spaced, words_line}
use Rattle.replaying.specs.Lines.{ports_below, test_word, reason_words, verdict_words, answer_words, answer_line}

-- ports 1 and 5 are bits 1 and 5: 2 + 32
pub lines : ◌≡◌ {A = List (List ℕ)}
    (answer_line 1 (Judged (Forward 4 100)) ∷
    answer_line 3 (Judged Deliver) ∷
    answer_line 4 (Judged (Spread 34 200)) ∷
    answer_line 5 (Judged Kept) ∷
    answer_line 6 (Refused 1) ∷ [])
    ((49 ∷ 32 ∷ 102 ∷ 111 ∷ 114 ∷ 119 ∷ 97 ∷ 114 ∷ 100 ∷ 32 ∷ 52 ∷ 10 ∷ []) ∷
    (51 ∷ 32 ∷ 100 ∷ 101 ∷ 108 ∷ 105 ∷ 118 ∷ 101 ∷ 114 ∷ 10 ∷ []) ∷
    (52 ∷ 32 ∷ 115 ∷ 112 ∷ 114 ∷ 101 ∷ 97 ∷ 100 ∷ 32 ∷ 49 ∷ 32 ∷ 53 ∷ 10 ∷ []) ∷
    (53 ∷ 32 ∷ 107 ∷ 101 ∷ 112 ∷ 116 ∷ 10 ∷ []) ∷
    (54 ∷ 32 ∷ 114 ∷ 101 ∷ 102 ∷ 117 ∷ 115 ∷ 101 ∷ 100 ∷ 32 ∷ 49 ∷ 10 ∷ []) ∷ [])
unfolding digit numeral_within numeral spaced words_line joined in_set ports_below verdict_words answer_words answer_line ◌then◌otherwise◌
lines = refl

-- `2 drop 3.4 148`, `2 drop 3.1 0`, `2 drop 6.3 22600`, `2 drop 6.1`, and two of tests that are not split, Wish 11's among them
pub drops : ◌≡◌ {A = List (List ℕ)}
    (answer_line 2 (Judged (Drop (BadForm (AnnounceTooShort 148)))) ∷
    answer_line 2 (Judged (Drop (BadForm TypeTwoProof))) ∷
    answer_line 2 (Judged (Drop (NoWayOn (OnlyExpired 22600)))) ∷
    answer_line 2 (Judged (Drop (NoWayOn NotAsking))) ∷
    answer_line 2 (Judged (Drop Duplicate)) ∷
    answer_line 2 (Judged (Drop TooLongForPort)) ∷ [])
    ((50 ∷ 32 ∷ 100 ∷ 114 ∷ 111 ∷ 112 ∷ 32 ∷ 51 ∷ 46 ∷ 52 ∷ 32 ∷ 49 ∷ 52 ∷ 56 ∷ 10 ∷ []) ∷
    (50 ∷ 32 ∷ 100 ∷ 114 ∷ 111 ∷ 112 ∷ 32 ∷ 51 ∷ 46 ∷ 49 ∷ 32 ∷ 48 ∷ 10 ∷ []) ∷
    (50 ∷ 32 ∷ 100 ∷ 114 ∷ 111 ∷ 112 ∷ 32 ∷ 54 ∷ 46 ∷ 51 ∷ 32 ∷ 50 ∷ 50 ∷ 54 ∷ 48 ∷ 48 ∷ 10 ∷ []) ∷
    (50 ∷ 32 ∷ 100 ∷ 114 ∷ 111 ∷ 112 ∷ 32 ∷ 54 ∷ 46 ∷ 49 ∷ 10 ∷ []) ∷
    (50 ∷ 32 ∷ 100 ∷ 114 ∷ 111 ∷ 112 ∷ 32 ∷ 50 ∷ 10 ∷ []) ∷
    (50 ∷ 32 ∷ 100 ∷ 114 ∷ 111 ∷ 112 ∷ 32 ∷ 49 ∷ 54 ∷ 10 ∷ []) ∷ [])
unfolding digit numeral_within numeral spaced words_line joined tells_value test_word reason_words verdict_words answer_words answer_line ◌then◌otherwise◌ ◌or◌ ◌and◌
drops = refl
