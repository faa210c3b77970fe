-- Wish 10's theorems on tables that an announce led to, which holds a path until 22,600: what is told of packets that are dropped by test 3 and by test 6,
-- and that nothing of it is told of one that is forwarded and of one that is refused.
use Prim.Native.Nat.{ℕ, ◌+◌}
use mathlib.Core.Bool.{Bool, true, false, not}
use mathlib.Core.List.{List, [], ◌∷◌, ◌++◌}
use mathlib.Core.Path.{◌≡◌, refl, ap, subst, ◌∙◌}
use lib.Dec.{eqb}
use lib.ListN.{replicate}
use Rattle.octets.specs.Index.{◌and◌}
use Rattle.octets.specs.Choice.{same}
use Rattle.packet.specs.Hash.{packet_hash}
use Rattle.numbers.specs.Numbers.{live}
use Rattle.rules.specs.View.{View, view_at}
use Rattle.rules.specs.Arrival.{Arrival, hops, hash}
use Rattle.rules.specs.Refusals.{packet_refusal}
use Rattle.rules.specs.Tests.{not_ours, tested_as_duplicate, duplicate, bad_form, own_announce, delivered_here, too_many_hops}
use Rattle.rules.specs.Calls.{new_tally}
use Rattle.rules.specs.Run.{packet, Outcome}
use Rattle.rules.specs.Reasons.{dropped_as, reaches_form, reaches_way, clauses, wants_path, of_link, is_ordinary_proof, is_unproved, expiry_or0, cases, holds_first, tells_clause, tells_case}
use Rattle.rules.specs.declared.Tally.{Tally}
use Rattle.rules.proofs.Unfolding.{rules}
use Rattle.rules.proofs.Shortcut.{passes, seen_quick, good_plan, good_judge}
use Rattle.rules.proofs.Passed.{of_test}
use Rattle.rules.proofs.Valid.{stays_ok}
use Rattle.rules.proofs.Scene.{own, blank, destination, announce_bytes, data_bytes, data_body, receipt_bytes, link_bytes, arrival}
use Rattle.rules.proofs.Outcomes.{prepared_relay, announced_relay, judged_at, announce_new, announce_form, tally_of}
use Rattle.tables.specs.Layout.{bytes_of}
use Rattle.tables.proofs.Whole.{back}
use Rattle.demands.specs.Refusals.{refusal, refusal_on}
use Rattle.demands.proofs.Demand2.{after_seven_lem}
use Rattle.demands.proofs.Shape.{stays_shaped}
use Rattle.demands.proofs.Instance2.{Held, announce, announce_given, prepared_held}
use Rattle.demands.proofs.Reasons.{answer_on, taken, shown, clause_on, case_on}

abbrev tally : Tally
tally = tally_of 1 0

held : Held announced_relay
unfolding rules good_plan good_judge of_test
held =
    subst Held (ap (λ (o : Outcome). o.relay) (judged_at announce_bytes 1000 prepared_relay new_tally announce_new announce_form 1 refl))
    (record {
      shape = stays_shaped announce prepared_relay new_tally announce_given prepared_held.ok prepared_held.shape;
      ok = stays_ok announce prepared_relay new_tally prepared_held.ok;
    })

-- what comes before tests 3 and 6, with test 2's search decided apart
unfoldable reaches_by : Bool → View → Arrival → Bool
reaches_by seen v a = not (not_ours v a) and not (tested_as_duplicate v a and seen)

reaches_is : (v : View) (a : Arrival) {seen : Bool} → v.remembered (hash a) ≡ seen → reaches_form v a ≡ reaches_by seen v a
unfolding reaches_form duplicate reaches_by
reaches_is v a s = rw s refl

unfoldable passes4 : View → Arrival → Bool
passes4 v a = not (bad_form a.bytes) and not (own_announce v a) and not (delivered_here v a) and not (too_many_hops (hops a))

-- a packet that comes in by a port at a clock
module _ (bytes : List ℕ) (clock port : ℕ) where
  abbrev a : Arrival
  a = arrival bytes clock port

  abbrev view : View
  view = view_at clock announced_relay

  -- an answer names clause k + 1 with x
  abbrev pub Clause : (k x : ℕ) → Bool → Type 0
  Clause k x b = dropped_as 3 (1 + k) x (answer_on a (bytes_of announced_relay) tally blank) ≡ b

  abbrev pub Case : (k x : ℕ) → Bool → Type 0
  Case k x b = dropped_as 6 (1 + k) x (answer_on a (bytes_of announced_relay) tally blank) ≡ b

  -- where no row refuses it, and no hash is equal
  taken_is : {n : ℕ} → packet_refusal announced_relay a 500 ≡ n → taken a (bytes_of announced_relay) tally blank ≡ eqb n 0
  unfolding refusal_on refusal
  taken_is e = ap (λ (m : ℕ). eqb m 0) (after_seven_lem announced_relay held.shape held.ok (packet a blank) ∙ e)

  shown_is : shown a (bytes_of announced_relay) tally blank ≡ view
  shown_is = ap (view_at clock) (back announced_relay held.shape held.ok)

  clause_is : {n : ℕ} (k x : ℕ) {seen b : Bool} → packet_refusal announced_relay a 500 ≡ n → view.remembered (hash a) ≡ seen
      → (eqb n 0 and reaches_by seen view a and holds_first k x (clauses bytes)) ≡ b → Clause k x b
  unfolding tells_clause
  clause_is k x e s h =
      clause_on a (bytes_of announced_relay) tally blank k x ∙ rw (taken_is e, shown_is, reaches_is view a s) h

  case_is : {n : ℕ} (k x : ℕ) {seen b : Bool} → packet_refusal announced_relay a 500 ≡ n → view.remembered (hash a) ≡ seen
      → (eqb n 0 and (reaches_by seen view a and passes4 view a) and holds_first k x (cases view a)) ≡ b → Case k x b
  unfolding tells_case reaches_way passes4
  case_is k x e s h =
      case_on a (bytes_of announced_relay) tally blank k x ∙ rw (taken_is e, shown_is, reaches_is view a s) h

-- where the announce's hash has expired, no hash is compared
new : (bytes : List ℕ) (clock : ℕ) → passes (λ m. live clock m.expiry and same m.hash (packet_hash bytes)) announced_relay.hashes.slots ≡ false
    → (view_at clock announced_relay).remembered (packet_hash bytes) ≡ false
unfolding rules
new bytes clock e = seen_quick clock announced_relay (packet_hash bytes) refl ∙ e

-- ---- test 3
abbrev type_two_proof_bytes : List ℕ
type_two_proof_bytes = 0x43 ∷ 0 ∷ (own ++ (destination ++ (0x00 ∷ [])))

-- an announce of 147 bytes, and one of 179 with the context flag: of another destination too, which is the clause behind
abbrev short_announce : (header size : ℕ) → List ℕ
short_announce header size = header ∷ 0 ∷ (own ++ (0x00 ∷ replicate size 0x11))

abbrev short_request : List ℕ
short_request = 0x02 ∷ 0 ∷ (destination ++ (0x00 ∷ replicate 63 0x66))

abbrev short_proof : List ℕ
short_proof = 0x0f ∷ 0 ∷ (destination ++ (0xff ∷ replicate 97 0x88))

-- 3.1 0, 3.4 148, 3.4 180, 3.7 64, 3.8 96; and no other clause
pub clauses_told : Clause type_two_proof_bytes 2000 2 0 0 true
    × Clause (short_announce 0x01 147) 2000 2 3 148 true
    × Clause (short_announce 0x21 179) 2000 2 3 180 true
    × Clause (short_announce 0x01 147) 2000 2 4 0 false
    × Clause short_request 2000 2 6 64 true
    × Clause short_proof 2000 2 7 96 true
unfolding rules passes reaches_by clauses holds_first
clauses_told = (
  clause_is type_two_proof_bytes 2000 2 0 0 refl (new type_two_proof_bytes 2000 refl) refl,
  clause_is (short_announce 0x01 147) 2000 2 3 148 refl (new (short_announce 0x01 147) 2000 refl) refl,
  clause_is (short_announce 0x21 179) 2000 2 3 180 refl (new (short_announce 0x21 179) 2000 refl) refl,
  clause_is (short_announce 0x01 147) 2000 2 4 0 refl (new (short_announce 0x01 147) 2000 refl) refl,
  clause_is short_request 2000 2 6 64 refl (new short_request 2000 refl) refl,
  clause_is short_proof 2000 2 7 96 refl (new short_proof 2000 refl) refl,
)

-- ---- test 6
abbrev plain_data : List ℕ
plain_data = 0x00 ∷ 0 ∷ (destination ++ (0x00 ∷ data_body))

abbrev strange_data : List ℕ
strange_data = 0x50 ∷ 0 ∷ (own ++ (own ++ (0x00 ∷ data_body)))

-- 6.1, 6.2, 6.3 22600 from the clock on at which the path is over, 6.4, 6.6; and no 6.2 where an expired record lies there
pub cases_told : Case plain_data 2000 2 0 0 true
    × Case strange_data 2000 2 1 0 true
    × Case data_bytes 22600 2 2 22600 true
    × Case data_bytes 22600 2 1 0 false
    × Case (link_bytes 0) 2000 2 3 0 true
    × Case (receipt_bytes 5) 2000 2 5 0 true
unfolding rules passes reaches_by passes4 wants_path of_link is_ordinary_proof is_unproved expiry_or0 cases holds_first
cases_told = (
  case_is plain_data 2000 2 0 0 refl (new plain_data 2000 refl) refl,
  case_is strange_data 2000 2 1 0 refl (new strange_data 2000 refl) refl,
  case_is data_bytes 22600 2 2 22600 refl (new data_bytes 22600 refl) refl,
  case_is data_bytes 22600 2 1 0 refl (new data_bytes 22600 refl) refl,
  case_is (link_bytes 0) 2000 2 3 0 refl (new (link_bytes 0) 2000 refl) refl,
  case_is (receipt_bytes 5) 2000 2 5 0 refl (new (receipt_bytes 5) 2000 refl) refl,
)

-- ---- a packet that is forwarded, and one that comes by no port: neither is told of
pub not_told : Case data_bytes 22599 2 2 22600 false × Case data_bytes 22600 77 2 22600 false
unfolding rules passes reaches_by passes4 wants_path of_link is_ordinary_proof is_unproved expiry_or0 cases holds_first
not_told = (
  case_is data_bytes 22599 2 2 22600 refl (new data_bytes 22599 refl) refl,
  case_is data_bytes 22600 77 2 22600 refl (new data_bytes 22600 refl) refl,
)
