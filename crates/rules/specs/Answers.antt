-- What a call answers, in document 01's numbers.
use Rattle.std.specs.Prelude.{ℕ, zero, suc, ◌+◌, ◌/◌, ◌%◌, ◌^◌, Bool, List, eqb}
use Rattle.octets.specs.Index.{◌and◌}
use Rattle.octets.specs.Choice.{◌then◌otherwise◌, ◌or◌}
use Rattle.numbers.specs.Numbers.{port_count, least_link_request, shorter_link_proof}
use Rattle.rules.specs.Renumbering.{image, preimage}
use Rattle.rules.specs.declared.Clause.{Clause}
use Rattle.rules.specs.declared.Clause.TheVariants.{TypeTwoProof, TypeTwoOfKindLink, AnnounceNotSingle, AnnounceTooShort, AnnounceOfAnother, RequestOfKindLink, RequestTooShort, LinkProofLength}
use Rattle.rules.specs.declared.Blocked.{Blocked}
use Rattle.rules.specs.declared.Blocked.TheVariants.{NotAsking, NoPath, OnlyExpired, NoLink, NotProved, NoReturn}
use Rattle.rules.specs.declared.Reason.{Reason}
use Rattle.rules.specs.declared.Reason.TheVariants.{NotOurs, Duplicate, BadForm, OwnAnnounce, TooManyHops, NoWayOn, AlreadyKnown, WrongSide, NotSigned, Replay, NotBetter, RateLimited, PortOff, TooLongForPort, NoRoom}
use Rattle.rules.specs.declared.Verdict.{Verdict}
use Rattle.rules.specs.declared.Verdict.TheVariants.{Drop, Deliver, Forward, Spread, Kept}
use Rattle.rules.specs.declared.Answer.{Answer}
use Rattle.rules.specs.declared.Answer.TheVariants.{Refused, Judged}

-- Wish 10: "the first failing clause of test 3 (3.1 to 3.8, a link request having two)"
abbrev pub clause_number : Clause → ℕ
clause_number TypeTwoProof = 1
clause_number TypeTwoOfKindLink = 2
clause_number AnnounceNotSingle = 3
clause_number (AnnounceTooShort least) = 4
clause_number AnnounceOfAnother = 5
clause_number RequestOfKindLink = 6
clause_number RequestTooShort = 7
clause_number LinkProofLength = 8

-- "and the least payload length that would have served, or 0 where length isn't the fault". Of a link proof's two lengths it is 96
abbrev pub least_length : Clause → ℕ
least_length TypeTwoProof = 0
least_length TypeTwoOfKindLink = 0
least_length AnnounceNotSingle = 0
least_length (AnnounceTooShort least) = least
least_length AnnounceOfAnother = 0
least_length RequestOfKindLink = 0
least_length RequestTooShort = least_link_request
least_length LinkProofLength = shorter_link_proof

-- "6.1 type 1 packet not asking to be relayed; 6.2 no path record; 6.3 only expired path records lying in their slots, with the greatest expiry; 6.4 no
-- live link; 6.5 link not proved yet; 6.6 no live return record"
abbrev pub case_number : Blocked → ℕ
case_number NotAsking = 1
case_number NoPath = 2
case_number (OnlyExpired expiry) = 3
case_number NoLink = 4
case_number NotProved = 5
case_number NoReturn = 6

abbrev pub greatest_expiry : Blocked → ℕ
greatest_expiry NotAsking = 0
greatest_expiry NoPath = 0
greatest_expiry (OnlyExpired expiry) = expiry
greatest_expiry NoLink = 0
greatest_expiry NotProved = 0
greatest_expiry NoReturn = 0

-- a reason's numbers: the test that dropped the packet, its clause or case, and the value that goes with it. 0 where there is none
pub record ReasonNumbers : Type 0 where
  pub test : ℕ
  pub clause : ℕ
  pub value : ℕ

abbrev pub by_test : ℕ → ReasonNumbers
by_test test = record { test = test; clause = 0; value = 0 }

abbrev pub reason_numbers : Reason → ReasonNumbers
reason_numbers NotOurs = by_test 1
reason_numbers Duplicate = by_test 2
reason_numbers (BadForm clause) = record { test = 3; clause = clause_number clause; value = least_length clause }
reason_numbers OwnAnnounce = by_test 4
reason_numbers TooManyHops = by_test 5
reason_numbers (NoWayOn why) = record { test = 6; clause = case_number why; value = greatest_expiry why }
reason_numbers AlreadyKnown = by_test 7
reason_numbers WrongSide = by_test 8
reason_numbers NotSigned = by_test 9
reason_numbers Replay = by_test 10
reason_numbers NotBetter = by_test 11
reason_numbers RateLimited = by_test 15
reason_numbers PortOff = by_test 12
reason_numbers TooLongForPort = by_test 16
reason_numbers NoRoom = by_test 13

-- the test that dropped the packet, whichever its clause or case
abbrev pub reason_number : Reason → ℕ
reason_number reason = (reason_numbers reason).test

-- whether a value is told: with every clause of test 3, 0 too, and with case 6.3
unfoldable pub tells_value : ReasonNumbers → Bool
tells_value r = eqb r.test 3 or eqb r.test 6 and eqb r.clause 3

-- which of the five answers it is; 0 is left for a refusal
abbrev pub verdict_kind : Verdict → ℕ
verdict_kind (Drop reason) = 1
verdict_kind Deliver = 2
verdict_kind (Forward port length) = 3
verdict_kind (Spread ports length) = 4
verdict_kind Kept = 5

-- ---- a port set is a number: bit i says whether port i is in it. Document 01 leaves the encoding free
unfoldable pub set_below : (ℕ → Bool) → ℕ → ℕ
set_below test zero = 0
set_below test (suc n) = set_below test n + (test n then 2 ^ n otherwise 0)

-- the ports that pass the test
unfoldable pub port_set : (ℕ → Bool) → ℕ
port_set test = set_below test port_count

unfoldable pub in_set : ℕ → ℕ → Bool
in_set set port = eqb (set / 2 ^ port % 2) 1

-- ---- renamed: a port's image, a set's images, all else equal
unfoldable pub image_set : List ℕ → ℕ → ℕ
image_set m set = port_set (λ n. in_set set (preimage m n))

unfoldable pub rename_verdict : List ℕ → Verdict → Verdict
rename_verdict m (Drop reason) = Drop reason
rename_verdict m Deliver = Deliver
rename_verdict m (Forward port length) = Forward (image m port) length
rename_verdict m (Spread ports length) = Spread (image_set m ports) length
rename_verdict m Kept = Kept

unfoldable pub rename_answer : List ℕ → Answer → Answer
rename_answer m (Refused number) = Refused number
rename_answer m (Judged verdict) = Judged (rename_verdict m verdict)
