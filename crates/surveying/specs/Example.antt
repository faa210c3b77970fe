-- Document 02, Wish 14: its lines, whole, and the numbers of a short list of answers.
use Rattle.std.specs.Prelude.{◌≡◌, ℕ, List, [], ◌∷◌, refl}
use Rattle.octets.specs.Part.{joined}
use Rattle.octets.specs.Choice.{◌then◌otherwise◌}
use Rattle.octets.specs.Index.{◌and◌}
use Rattle.rules.specs.Answers.{in_set}
use Rattle.rules.specs.declared.Blocked.TheVariants.{OnlyExpired}
use Rattle.rules.specs.declared.Reason.TheVariants.{Duplicate, NoWayOn, TooLongForPort}
use Rattle.rules.specs.declared.Verdict.TheVariants.{Drop, Deliver, Forward, Spread}
use Rattle.rules.specs.declared.Answer.{Answer}
use Rattle.rules.specs.declared.Answer.TheVariants.{Refused, Judged}
use Rattle.text.specs.Numerals.{digit, numeral_within, numeral}
use Rattle.text.specs.Words.{spaced, words_line}
use Rattle.surveying.specs.Counts.{Answered, is_accepted, sent_by, leaving_by, verdict_test, test_of, accepted_on, packets_on, bytes_in_on, bytes_out_by, dropped_on, dropped_by, sum_over}
use Rattle.surveying.specs.Fraction.{greatest_up_to, divides_both, greatest_common_divisor, lowest_terms, share}
use Rattle.surveying.specs.Lines.{survey_line, settings_line, recording_line, fraction_word, port_line, reason_line}

-- `survey`, `settings refused 24`, `recording 2 refused 21`, `port 3 packets 10 in 900 out 450 dropped 1/5`, `port 0 packets 0 in 0 out 0 dropped 0/1`,
-- `reason 2 2`: two of ten packets are a fifth
pub lines : ◌≡◌ {A = List (List ℕ)}
    (survey_line ∷
    settings_line 24 ∷
    recording_line 2 21 ∷
    port_line 3 10 900 450 2 ∷
    port_line 0 0 0 0 0 ∷
    reason_line 2 2 ∷ [])
    ((115 ∷ 117 ∷ 114 ∷ 118 ∷ 101 ∷ 121 ∷ 10 ∷ []) ∷
    (115 ∷ 101 ∷ 116 ∷ 116 ∷ 105 ∷ 110 ∷ 103 ∷ 115 ∷ 32 ∷ 114 ∷ 101 ∷ 102 ∷ 117 ∷ 115 ∷ 101 ∷ 100 ∷ 32 ∷ 50 ∷ 52 ∷ 10 ∷ []) ∷
    (114 ∷ 101 ∷ 99 ∷ 111 ∷ 114 ∷ 100 ∷ 105 ∷ 110 ∷ 103 ∷ 32 ∷ 50 ∷ 32 ∷ 114 ∷ 101 ∷ 102 ∷ 117 ∷ 115 ∷ 101 ∷ 100 ∷ 32 ∷ 50 ∷ 49 ∷ 10 ∷ []) ∷
    (112 ∷ 111 ∷ 114 ∷ 116 ∷ 32 ∷ 51 ∷ 32 ∷ 112 ∷ 97 ∷ 99 ∷ 107 ∷ 101 ∷ 116 ∷ 115 ∷ 32 ∷ 49 ∷ 48 ∷ 32 ∷ 105 ∷ 110 ∷ 32 ∷ 57 ∷ 48 ∷ 48 ∷ 32 ∷
    111 ∷ 117 ∷ 116 ∷ 32 ∷ 52 ∷ 53 ∷ 48 ∷ 32 ∷ 100 ∷ 114 ∷ 111 ∷ 112 ∷ 112 ∷ 101 ∷ 100 ∷ 32 ∷ 49 ∷ 47 ∷ 53 ∷ 10 ∷ []) ∷
    (112 ∷ 111 ∷ 114 ∷ 116 ∷ 32 ∷ 48 ∷ 32 ∷ 112 ∷ 97 ∷ 99 ∷ 107 ∷ 101 ∷ 116 ∷ 115 ∷ 32 ∷ 48 ∷ 32 ∷ 105 ∷ 110 ∷ 32 ∷ 48 ∷ 32 ∷
    111 ∷ 117 ∷ 116 ∷ 32 ∷ 48 ∷ 32 ∷ 100 ∷ 114 ∷ 111 ∷ 112 ∷ 112 ∷ 101 ∷ 100 ∷ 32 ∷ 48 ∷ 47 ∷ 49 ∷ 10 ∷ []) ∷
    (114 ∷ 101 ∷ 97 ∷ 115 ∷ 111 ∷ 110 ∷ 32 ∷ 50 ∷ 32 ∷ 50 ∷ 10 ∷ []) ∷ [])
unfolding digit numeral_within numeral spaced words_line joined fraction_word share lowest_terms greatest_common_divisor greatest_up_to divides_both
    ◌then◌otherwise◌ ◌and◌
lines = refl

-- ---- answers: by port 3 come a packet of 100 bytes that leaves by 4, one of 50 that is dropped as a duplicate, one of 60 that is refused, and one
-- of 70 that is delivered; by port 4 an announce of 167 that is spread to 1 and 5 with 183, one of 35 that finds only an expired path, and one of 90
-- that is too long for the port to leave by
abbrev came : ℕ → ℕ → Answer → Answered
came port size answer = record { port = port; size = size; answer = answer }

abbrev day : List Answered
day =
    came 3 100 (Judged (Forward 4 100)) ∷
    came 3 50 (Judged (Drop Duplicate)) ∷
    came 3 60 (Refused 5) ∷
    came 3 70 (Judged Deliver) ∷
    came 4 167 (Judged (Spread 34 183)) ∷
    came 4 35 (Judged (Drop (NoWayOn (OnlyExpired 22600)))) ∷
    came 4 90 (Judged (Drop TooLongForPort)) ∷ []

-- packets, bytes in and dropped of ports 3 and 4; bytes out by 1, 3, 4 and 5; drops by tests 2, 3, 6 and 16
pub counted : ◌≡◌ {A = List ℕ}
    (sum_over (packets_on 3) day ∷ sum_over (bytes_in_on 3) day ∷ sum_over (dropped_on 3) day ∷
    sum_over (packets_on 4) day ∷ sum_over (bytes_in_on 4) day ∷ sum_over (dropped_on 4) day ∷
    sum_over (bytes_out_by 1) day ∷ sum_over (bytes_out_by 3) day ∷ sum_over (bytes_out_by 4) day ∷ sum_over (bytes_out_by 5) day ∷
    sum_over (dropped_by 2) day ∷ sum_over (dropped_by 3) day ∷ sum_over (dropped_by 6) day ∷ sum_over (dropped_by 16) day ∷ [])
    (3 ∷ 220 ∷ 1 ∷ 3 ∷ 292 ∷ 2 ∷ 183 ∷ 0 ∷ 100 ∷ 183 ∷ 1 ∷ 0 ∷ 1 ∷ 1 ∷ [])
unfolding is_accepted sent_by leaving_by verdict_test test_of accepted_on packets_on bytes_in_on bytes_out_by dropped_on dropped_by sum_over in_set ◌then◌otherwise◌ ◌and◌
counted = refl
