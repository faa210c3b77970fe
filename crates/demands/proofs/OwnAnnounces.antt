-- Document 02, Wish 12, about the packet call: "What is built passes tests 3 and 5 of any other relay that doesn't refuse it or own the address".
--   form_passed, hops_passed    tests 3 and 5 don't hold of what is built;
--   goes_on                     by the rules: any relay that doesn't own the address judges it as a duplicate, or by tests 6 to 13 on its way everywhere;
--   never_dropped               about the bytes: on any tables no packet call answers it with a drop by 3 or 5, whatever port, clock, word and buffers.
use Prim.Native.Nat.{ℕ}
use native.Mathlib.Omega.{arith}
use mathlib.Core.Bool.{Bool, true, false, not, false≢true}
use mathlib.Core.List.{List}
use mathlib.Core.Path.{◌≡◌, refl, sym, ap, subst, ◌∙◌}
use lib.Dec.{ltb}
use lib.ListN.{length, drop}
use borrow.Author.Tests.{le-ltb}
use Rattle.octets.specs.Index.{◌and◌}
use Rattle.octets.specs.Choice.{◌then◌otherwise◌, ◌or◌, same}
use Rattle.octets.specs.Listed.{first_of, any_holds}
use Rattle.octets.proofs.Index.{and_left, and_right, and_no}
use Rattle.octets.proofs.Choice.{eq_same}
use Rattle.octets.proofs.Listed.{all_give, all_first, past, none_first}
use Rattle.packet.specs.Header.{type_two, packet_kind, destination_kind}
use Rattle.packet.specs.Read.{header_of, parts_of, payload}
use Rattle.packet.specs.Announce.{ratchet_length, least_announce, announced_destination}
use Rattle.packet.specs.declared.Parts.{Parts}
use Rattle.rules.specs.View.{View, view_at}
use Rattle.rules.specs.Arrival.{Arrival, is_link_proof}
use Rattle.rules.specs.Ways.{Way, everywhere, by_path, along_link, by_return, blocked, way_on}
use Rattle.rules.specs.Tests.{not_ours, duplicate, type_two_proof, type_two_of_kind_link, announce_not_single, announce_too_short, announce_of_another, request_of_kind_link, request_too_short, link_proof_length, form_tests, bad_form, own_announce, delivered_here, too_many_hops, known_tests}
use Rattle.rules.specs.Judging.{Plan, dropped, follows, early_tests, onward_tests, onward_plan, plan, spread_verdict, way_verdict, verdict}
use Rattle.rules.specs.Calls.{Judgement, judged, judge, packet_call}
use Rattle.rules.specs.Reasons.{drop_by, dropped_by}
use Rattle.rules.specs.declared.Reason.TheVariants.{Duplicate}
use Rattle.rules.specs.declared.Verdict.{Verdict}
use Rattle.rules.specs.declared.Answer.{Answer}
use Rattle.rules.specs.declared.Answer.TheVariants.{Judged}
use Rattle.rules.specs.declared.Tally.{Tally}
use Rattle.rules.proofs.Choices.{either}
use Rattle.tables.specs.Layout.{relay_of, well_formed}
use Rattle.announcing.specs.Announcing.{Announce, destination, payload_with, head_of, announce_with, announce_refusal}
use Rattle.announcing.proofs.Lengths.{head_one, payload_length, Buildable, buildable}
use Rattle.announcing.proofs.Fields.{head_announce, head_single, built_header, built_payload, built_parts, flagged, destination_found}
use Rattle.announcing.proofs.RoundTrip.{built_in, built_stands}
use Rattle.relay.specs.Promise.{JudgementOn, in_bytes, packet_on}

-- ---- the rules, for what is built of parts that nothing refuses
module _ (a : Announce) (signature : List ℕ) {room : ℕ} (b : Buildable a signature room) where
  abbrev p : List ℕ
  p = announce_with a signature

  two : type_two (header_of p) ≡ false
  two = ap type_two (built_header a signature) ∙ head_one (destination a) (length a.ratchet)

  kind : packet_kind (header_of p) ≡ 1
  kind = ap packet_kind (built_header a signature) ∙ head_announce (destination a) (length a.ratchet)

  single : destination_kind (header_of p) ≡ 0
  single = ap destination_kind (built_header a signature) ∙ head_single (destination a) (length a.ratchet)

  long : ltb (length (payload p)) (least_announce (header_of p)) ≡ false
  unfolding least_announce
  long =
      let flag : ratchet_length (header_of p) ≡ length a.ratchet = ap ratchet_length (built_header a signature) ∙ flagged a signature b in
      let body : length (payload p) ≡ length (payload_with a signature) = ap length (built_payload a signature) in
      let w = b.lengths in
      le-ltb (length (payload p)) (least_announce (header_of p))
      (omega (arith, flag, body, payload_length a signature, w.keys, w.name_hash, w.random, w.signature))

  mine : same (parts_of p).destination (announced_destination (payload p)) ≡ true
  unfolding head_of
  mine =
      eq_same (parts_of p).destination (announced_destination (payload p))
      (ap (λ (q : Parts). q.destination) (built_parts a signature)
      ∙ sym (ap announced_destination (built_payload a signature) ∙ destination_found a signature b))

  pub form_passed : bad_form p ≡ false
  unfolding bad_form form_tests any_holds type_two_proof type_two_of_kind_link announce_not_single announce_too_short announce_of_another request_of_kind_link
      request_too_short link_proof_length is_link_proof ◌and◌ ◌or◌
  form_passed = rw (two, kind, single, long, mine)

  pub hops_passed : too_many_hops (parts_of p).hops ≡ false
  unfolding too_many_hops head_of
  hops_passed = ap (λ (q : Parts). too_many_hops q.hops) (built_parts a signature)

  module _ (v : View) (port clock : ℕ) (signed : Bool) where
    abbrev arrival : Arrival
    arrival = record { bytes = p; port = port; clock = clock; signed = signed }

    ours : not_ours v arrival ≡ false
    unfolding not_ours
    ours = and_no _ two

    elsewhere : delivered_here v arrival ≡ false
    unfolding delivered_here ◌and◌ ◌or◌
    elsewhere = rw kind

    way : way_on v arrival ≡ everywhere (v.path (destination a))
    unfolding way_on head_of ◌then◌otherwise◌
    way = rw kind (ap (λ (q : Parts). everywhere (v.path q.destination)) (built_parts a signature))

    not_own_lem : v.local (destination a) ≡ false → own_announce v arrival ≡ false
    unfolding own_announce head_of ◌and◌
    not_own_lem l = rw kind (ap (λ (q : Parts). v.local q.destination) (built_parts a signature) ∙ l)

    pub goes_on_lem : v.local (destination a) ≡ false
        → plan v arrival ≡ (duplicate v arrival then dropped Duplicate otherwise onward_plan v arrival (everywhere (v.path (destination a))))
    unfolding plan early_tests first_of
    goes_on_lem l =
        past _ _ (drop 1 (early_tests v arrival)) _ ours
        ∙ ap (λ (r : Plan). duplicate v arrival then dropped Duplicate otherwise r)
        (none_first (drop 2 (early_tests v arrival)) (onward_plan v arrival (way_on v arrival)) (form_passed, (not_own_lem l, (elsewhere, (hops_passed, tt))))
        ∙ ap (onward_plan v arrival) way)

    -- neither 3 nor 5
    apart : Plan → Bool
    apart todo = not (dropped_by 3 (Judged (verdict v arrival todo))) and not (dropped_by 5 (Judged (verdict v arrival todo)))

    way_apart : (w : Way) → apart (follows w) ≡ true
    unfolding apart verdict way_verdict spread_verdict drop_by dropped_by ◌and◌
    way_apart (everywhere known) =
        either (λ (x : Verdict). (not (dropped_by 3 (Judged x)) and not (dropped_by 5 (Judged x))) ≡ true) _ (λ _. refl) (λ _. refl)
    way_apart (by_path q) = refl
    way_apart (along_link l) = refl
    way_apart (by_return t) = refl
    way_apart (blocked why) = refl

    onward_apart : (w : Way) → apart (onward_plan v arrival w) ≡ true
    unfolding onward_plan onward_tests known_tests all_give apart verdict drop_by dropped_by ◌and◌
    onward_apart w = all_first apart (onward_tests v arrival w) (follows w) refl (way_apart w)

    plan_apart : apart (plan v arrival) ≡ true
    unfolding plan early_tests first_of apart verdict drop_by dropped_by ◌and◌
    plan_apart =
        let P : Plan → Type 0 = λ todo. apart todo ≡ true in
        either P _ (λ _. refl)
        (λ _. either P _ (λ _. refl)
        (λ _. either P _ (λ t. absurd (false≢true (sym form_passed ∙ t)))
        (λ _. either P _ (λ _. refl)
        (λ _. either P _ (λ _. refl)
        (λ _. either P _ (λ t. absurd (false≢true (sym hops_passed ∙ t)))
        (λ _. onward_apart (way_on v arrival)))))))

-- ---- the bytes
never : Answer → Bool
never answer = not (dropped_by 3 answer) and not (dropped_by 5 answer)

not_yes : (t : Bool) → not t ≡ true → t ≡ false
not_yes true e = sym e
not_yes false e = refl

module _ (a : Announce) (signature room : List ℕ) (z : announce_refusal a signature (length room) ≡ 0)
    (port clock : ℕ) (signed : Bool) (tables : List ℕ) (tally : Tally) (output : List ℕ) where
  abbrev x : Arrival
  x = record { bytes = announce_with a signature; port = port; clock = clock; signed = signed }

  answer_never : never (packet_on (announce_with a signature) port clock signed tables tally output).answer ≡ true
  unfolding packet_on in_bytes packet_call judge judged never apart drop_by dropped_by ◌and◌
  answer_never =
      either (λ (o : JudgementOn). never o.answer ≡ true) (well_formed tables)
      (λ _. either (λ (j : Judgement). never j.answer ≡ true) _
      (λ _. plan_apart a signature (buildable a signature (length room) z) (view_at clock (relay_of tables)) port clock signed)
      (λ _. refl))
      (λ _. refl)

  abbrev pub answered_to : Answer
  answered_to = (packet_on (built_in a signature room z) port clock signed tables tally output).answer

  pub never_dropped : (dropped_by 3 answered_to ≡ false) × (dropped_by 5 answered_to ≡ false)
  unfolding never
  never_dropped =
      let both : never answered_to ≡ true =
      subst (λ (q : List ℕ). never (packet_on q port clock signed tables tally output).answer ≡ true) (sym (built_stands a signature room z)) answer_never in
      (not_yes _ (and_left _ _ both), not_yes _ (and_right _ _ both))
