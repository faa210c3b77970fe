-- Document 02, Wish 10, what a drop tells: each clause of test 3 and each case of test 6 by its own sentence, with its value. Proved in
-- proofs/Reasons.antt of what the rules answer.
use Rattle.std.specs.Prelude.{ℕ, zero, suc, Bool, false, not, List, [], ◌∷◌, eqb}
use Rattle.octets.specs.Index.{◌and◌}
use Rattle.octets.specs.Choice.{◌or◌}
use Rattle.octets.specs.Listed.{Test, ◌gives◌otherwise◌}
use Rattle.packet.specs.Header.{type_two, of_kind_link, is_data, is_announce, is_link_request, is_proof}
use Rattle.packet.specs.Read.{header_of}
use Rattle.packet.specs.Announce.{least_announce}
use Rattle.rules.specs.Relay.{Slot, empty, used}
use Rattle.rules.specs.View.{View}
use Rattle.rules.specs.Arrival.{Arrival, header, hops, destination, is_link_proof}
use Rattle.rules.specs.Tests.{not_ours, duplicate, type_two_proof, type_two_of_kind_link, announce_not_single, announce_too_short, announce_of_another, request_of_kind_link, request_too_short, link_proof_length, bad_form, own_announce, delivered_here, too_many_hops, is_there}
use Rattle.rules.specs.Answers.{reason_number, reason_numbers}
use Rattle.rules.specs.declared.Link.{Link}
use Rattle.rules.specs.declared.Verdict.{Verdict}
use Rattle.rules.specs.declared.Verdict.TheVariants.{Drop, Deliver, Forward, Spread, Kept}
use Rattle.rules.specs.declared.Answer.{Answer}
use Rattle.rules.specs.declared.Answer.TheVariants.{Refused, Judged}
use Rattle.numbers.specs.Numbers.{least_link_request, shorter_link_proof}

-- ---- what an answer tells. A refusal is no drop
-- it is a drop by test n
unfoldable pub drop_by : ℕ → Verdict → Bool
drop_by n (Drop reason) = eqb (reason_number reason) n
drop_by n Deliver = false
drop_by n (Forward port length) = false
drop_by n (Spread ports length) = false
drop_by n Kept = false

unfoldable pub dropped_by : ℕ → Answer → Bool
dropped_by n (Refused number) = false
dropped_by n (Judged verdict) = drop_by n verdict

-- it is a drop by test n that names clause or case k, with the value x
unfoldable pub drop_as : (n k x : ℕ) → Verdict → Bool
drop_as n k x (Drop reason) =
    eqb (reason_numbers reason).test n and eqb (reason_numbers reason).clause k and eqb (reason_numbers reason).value x
drop_as n k x Deliver = false
drop_as n k x (Forward port length) = false
drop_as n k x (Spread ports length) = false
drop_as n k x Kept = false

unfoldable pub dropped_as : (n k x : ℕ) → Answer → Bool
dropped_as n k x (Refused number) = false
dropped_as n k x (Judged verdict) = drop_as n k x verdict

-- ---- which tests come before
-- neither test 1 nor test 2 holds
unfoldable pub reaches_form : View → Arrival → Bool
reaches_form v a = not (not_ours v a) and not (duplicate v a)

-- .. nor does any of 3, 4 and 5, and the packet isn't delivered
unfoldable pub reaches_way : View → Arrival → Bool
reaches_way v a =
    reaches_form v a
    and not (bad_form a.bytes)
    and not (own_announce v a)
    and not (delivered_here v a)
    and not (too_many_hops (hops a))

-- ---- test 3's sentences, 3.1 to 3.8, each with "the least payload length that would have served, or 0 where length isn't the fault"
unfoldable pub clauses : List ℕ → List (Test ℕ)
clauses p =
    type_two_proof p gives 0 otherwise
    type_two_of_kind_link p gives 0 otherwise
    announce_not_single p gives 0 otherwise
    announce_too_short p gives least_announce (header_of p) otherwise
    announce_of_another p gives 0 otherwise
    request_of_kind_link p gives 0 otherwise
    request_too_short p gives least_link_request otherwise
    link_proof_length p gives shorter_link_proof otherwise
    []

-- ---- test 6's sentences, 6.1 to 6.6. No two hold together
-- a data packet or link request not of kind link
unfoldable pub wants_path : Arrival → Bool
wants_path a = not (of_kind_link (header a)) and (is_data (header a) or is_link_request (header a))

-- for kind link. No announce of that kind comes so far
unfoldable pub of_link : Arrival → Bool
of_link a = of_kind_link (header a) and not (is_announce (header a))

-- an ordinary proof (any other kind)
unfoldable pub is_ordinary_proof : Arrival → Bool
is_ordinary_proof a = not (of_kind_link (header a)) and is_proof (header a)

-- a link that is there and isn't proved
unfoldable pub is_unproved : Slot Link → Bool
is_unproved empty = false
is_unproved (used l) = not l.proved

-- the greatest expiry, where there is one
unfoldable pub expiry_or0 : Slot ℕ → ℕ
expiry_or0 empty = 0
expiry_or0 (used expiry) = expiry

-- "6.1 type 1 packet not asking to be relayed; 6.2 no path record; 6.3 only expired path records lying in their slots, with the greatest expiry; 6.4 no
-- live link; 6.5 link not proved yet; 6.6 no live return record"
unfoldable pub cases : View → Arrival → List (Test ℕ)
cases v a =
    wants_path a and not (type_two (header a)) gives 0 otherwise
    wants_path a and type_two (header a) and not (is_there (v.path (destination a))) and not (is_there (v.expired (destination a))) gives 0 otherwise
    wants_path a and type_two (header a) and not (is_there (v.path (destination a))) and is_there (v.expired (destination a))
    gives expiry_or0 (v.expired (destination a)) otherwise
    of_link a and not (is_there (v.link (destination a))) gives 0 otherwise
    of_link a and is_unproved (v.link (destination a)) and not (is_link_proof a.bytes) gives 0 otherwise
    is_ordinary_proof a and not (is_there (v.return (destination a))) gives 0 otherwise
    []

-- the sentence with k before it holds, none of those does, and its value is x
unfoldable pub holds_first : (k x : ℕ) → List (Test ℕ) → Bool
holds_first k x [] = false
holds_first zero x (t ∷ ts) = t.holds and eqb t.value x
holds_first (suc k) x (t ∷ ts) = not t.holds and holds_first k x ts

-- "Bad form names the first failing clause of test 3": number k + 1 is told with x
unfoldable pub tells_clause : View → Arrival → (k x : ℕ) → Bool
tells_clause v a k x = reaches_form v a and holds_first k x (clauses a.bytes)

-- "Split 6 into": case k + 1 is told with x
unfoldable pub tells_case : View → Arrival → (k x : ℕ) → Bool
tells_case v a k x = reaches_way v a and holds_first k x (cases v a)
