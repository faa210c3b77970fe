-- The numbers of every reason that is given fit their bits: the test a byte, the clause or case 4 bits, the value 41.
use Prim.Native.Nat.{ℕ, ◌+◌, ◌<◌, ◌^◌}
use native.Mathlib.Omega.{arith}
use mathlib.Core.Bool.{Bool, true}
use mathlib.Core.List.{List}
use mathlib.Core.Path.{◌≡◌, refl, sym, ap, ◌∙◌}
use lib.Dec.{eqb, ltb}
use lib.ListN.{get_or}
use borrow.Author.Tests.{lt-ltb, ltb-true, not-false}
use Rattle.octets.specs.Index.{◌and◌}
use Rattle.octets.specs.Choice.{◌or◌}
use Rattle.octets.proofs.Index.{and_left, and_right}
use Rattle.octets.proofs.Listed.{all_give, all_first, refuses, rows_passed}
use Rattle.packet.specs.Header.{context_flag}
use Rattle.packet.specs.Read.{header_of}
use Rattle.packet.specs.Announce.{ratchet_length, least_announce}
use Rattle.packet.specs.Places.{blob_end, signature_width}
use Rattle.numbers.specs.Numbers.{path_count, time_limit}
use Rattle.rules.specs.Relay.{Slot, empty, used, Path, Relay}
use Rattle.rules.specs.View.{is_expired_path, expiry_if, expired_path, View, view_at}
use Rattle.rules.specs.Arrival.{Arrival, is_link_proof}
use Rattle.rules.specs.Refusals.{slot_ok, path_ok, packet_rows, refusal_by, packet_refusal}
use Rattle.rules.specs.Ways.{Way, no_path, path_way, link_way, return_way, way_on}
use Rattle.rules.specs.Tests.{form_tests, failing, why_blocked, known_tests}
use Rattle.rules.specs.Answers.{reason_numbers}
use Rattle.rules.specs.Judging.{Plan, dropped, delivered, follows, early_tests, onward_tests, onward_plan, plan}
use Rattle.rules.specs.declared.Link.{Link}
use Rattle.rules.specs.Relay.{Return}
use Rattle.rules.specs.declared.Clause.TheVariants.{TypeTwoProof}
use Rattle.rules.specs.declared.Reason.{Reason}
use Rattle.rules.specs.declared.Reason.TheVariants.{BadForm, NoWayOn}
use Rattle.rules.proofs.Choices.{either}
use Rattle.rules.proofs.Latest.{AtMost, latest_most}
use Rattle.rules.proofs.Ranges.{path_time}
use Rattle.rules.proofs.Tables.{table_get_d}
use Rattle.rules.proofs.Valid.{valid_of}

abbrev pub ReasonFits : Reason → Type 0
ReasonFits reason = ((reason_numbers reason).test < 256) × ((reason_numbers reason).clause < 16) × ((reason_numbers reason).value < 2 ^ 41)

-- the same as a test
abbrev in_bits : Reason → Bool
in_bits reason = ltb (reason_numbers reason).test 256 and ltb (reason_numbers reason).clause 16 and ltb (reason_numbers reason).value (2 ^ 41)

fits_of : (reason : Reason) → in_bits reason ≡ true → ReasonFits reason
fits_of reason h =
    (ltb-true _ _ (and_left _ _ h), ltb-true _ _ (and_left _ _ (and_right _ _ h)), ltb-true _ _ (and_right _ _ (and_right _ _ h)))

-- ---- the clauses
least_small : (h : ℕ) → ltb (least_announce h) (2 ^ 41) ≡ true
unfolding least_announce ratchet_length
least_small h = either (λ n. ltb (blob_end + n + signature_width) (2 ^ 41) ≡ true) (context_flag h) (λ _. refl) (λ _. refl)

clause_fits : (p : List ℕ) → in_bits (BadForm (failing p)) ≡ true
unfolding failing form_tests all_give ◌and◌
clause_fits p = all_first (λ c. in_bits (BadForm c)) (form_tests p) TypeTwoProof (rw (least_small (header_of p))) refl

-- ---- the cases
module _ (v : View) (a : Arrival) (past : (d : List ℕ) → AtMost time_limit (v.expired d)) where
  abbrev WayFits : Way → Type 0
  WayFits w = in_bits (NoWayOn (why_blocked w)) ≡ true

  path_fits : (s : Slot Path) (expired : Slot ℕ) → AtMost time_limit expired → WayFits (path_way s expired)
  unfolding path_way no_path why_blocked ◌and◌
  path_fits (used p) expired l = refl
  path_fits empty empty l = refl
  path_fits empty (used expiry) l = lt-ltb expiry (2 ^ 41) (omega (arith, l))

  link_fits : (s : Slot Link) → WayFits (link_way (is_link_proof a.bytes) s)
  unfolding link_way why_blocked ◌and◌
  link_fits empty = refl
  link_fits (used l) = either WayFits (l.proved or is_link_proof a.bytes) (λ _. refl) (λ _. refl)

  return_fits : (s : Slot Return) → WayFits (return_way s)
  unfolding return_way why_blocked ◌and◌
  return_fits empty = refl
  return_fits (used t) = refl

  case_fits : WayFits (way_on v a)
  unfolding way_on why_blocked ◌and◌
  case_fits =
      either WayFits _ (λ _. refl)
      (λ _. either WayFits _ (λ _. link_fits _)
      (λ _. either WayFits _ (λ _. return_fits _)
      (λ _. either WayFits _ (λ _. refl) (λ _. path_fits _ _ (past _)))))

  -- ---- whatever is planned
  abbrev plan_fits : Plan → Bool
  plan_fits (dropped reason) = in_bits reason
  plan_fits delivered = true
  plan_fits (follows w) = true

  plan_fits_lem : plan_fits (plan v a) ≡ true
  unfolding plan onward_plan early_tests onward_tests known_tests all_give ◌and◌
  plan_fits_lem =
      all_first plan_fits (early_tests v a) _ (rw (clause_fits a.bytes))
      (all_first plan_fits (onward_tests v a (way_on v a)) _ (rw case_fits) refl)

  pub plan_reason_fits : (reason : Reason) → plan v a ≡ dropped reason → ReasonFits reason
  plan_reason_fits reason e = fits_of reason (sym (ap plan_fits e) ∙ plan_fits_lem)

-- ---- what an accepted packet's relay has expired
slot_most : (test : Path → Bool) (s : Slot Path) → slot_ok path_ok s ≡ true → AtMost time_limit (expiry_if test s)
unfolding slot_ok expiry_if
slot_most test empty h = tt
slot_most test (used p) h = either (AtMost time_limit) (test p) (λ _. path_time p h) (λ _. tt)

pub expired_most : (r : Relay) (a : Arrival) (room : ℕ) → eqb (packet_refusal r a room) 0 ≡ true
    → (d : List ℕ) → AtMost time_limit ((view_at a.clock r).expired d)
unfolding refusal_by packet_rows refuses all_give view_at expired_path ◌and◌ slot_ok
expired_most r a room accepted d = latest_most time_limit _ path_count (λ i. slot_most (is_expired_path a.clock d) _ (ok i))
  where
    ok : (i : ℕ) → slot_ok path_ok (get_or r.paths i empty) ≡ true
    ok i =
        table_get_d (slot_ok path_ok) path_count r.paths
        (valid_of r (not-false _ (rows_passed (packet_rows r a.port a.clock room) _ refl accepted).0)).paths i empty refl
