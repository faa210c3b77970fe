-- The laws of test 3.
use Prim.Native.Nat.{ℕ}
use mathlib.Core.Bool.{Bool, true, false, not}
use mathlib.Core.List.{List}
use Rattle.std.specs.Prelude.{Some, None}
use mathlib.Core.Path.{◌≡◌, refl, ◌∙◌}
use lib.Dec.{ltb}
use lib.ListN.{length}
use Rattle.octets.specs.Index.{◌and◌}
use Rattle.octets.specs.Choice.{◌then◌otherwise◌}
use Rattle.octets.specs.Listed.{first_of, valued}
use Rattle.octets.proofs.Listed.{first_any}
use Rattle.packet.specs.Header.{type_two, of_kind_link, of_kind_single, is_announce, is_link_request, is_proof}
use Rattle.packet.specs.Read.{header_of, payload}
use Rattle.packet.specs.Announce.{least_announce}
use Rattle.numbers.specs.Numbers.{least_link_request}
use Rattle.rules.specs.Tests.{form_tests, type_two_proof, type_two_of_kind_link, announce_not_single, announce_too_short, announce_of_another, request_of_kind_link, request_too_short, link_proof_length, bad_form, failing}
use Rattle.rules.specs.declared.Clause.{Clause}
use Rattle.rules.specs.declared.Clause.TheVariants.{TypeTwoProof, TypeTwoOfKindLink, AnnounceNotSingle, AnnounceTooShort, AnnounceOfAnother, RequestOfKindLink, RequestTooShort, LinkProofLength}
use Rattle.outgoing.proofs.Steps.{reading}
use Rattle.forms.specs.Form.{form_of}

module _ (p : List ℕ) where
  -- ---- what the code finds is what the rules say
  form_is : form_of p ≡ (bad_form p then Some (failing p) otherwise None)
  unfolding form_of bad_form failing
  form_is = first_any Some (form_tests p) TypeTwoProof None

  pub form_bad : {clause : Clause} → Some clause ≡ form_of p → (bad_form p ≡ true) × (clause ≡ failing p)
  unfolding ◌then◌otherwise◌
  form_bad {clause} e = go (bad_form p) refl (e ∙ form_is)
    where
      go : (b : Bool) → bad_form p ≡ b → Some clause ≡ (b then Some (failing p) otherwise None) → (bad_form p ≡ true) × (clause ≡ failing p)
      go true q h = (q, cc)
      go false q h = cc

  pub form_good : None ≡ form_of p → bad_form p ≡ false
  unfolding ◌then◌otherwise◌
  form_good e = go (bad_form p) refl (e ∙ form_is)
    where
      go : (b : Bool) → bad_form p ≡ b → None ≡ (b then Some (failing p) otherwise None) → bad_form p ≡ false
      go true q h = cc
      go false q h = q

  -- ---- the clauses as the code tests them
  pub form_clauses : form_of p
      ≡ (type_two (header_of p) and is_proof (header_of p) then Some TypeTwoProof otherwise
      type_two (header_of p) and of_kind_link (header_of p) then Some TypeTwoOfKindLink otherwise
      is_announce (header_of p) and not (of_kind_single (header_of p)) then Some AnnounceNotSingle otherwise
      is_announce (header_of p) and ltb (length (payload p)) (least_announce (header_of p))
      then Some (AnnounceTooShort (least_announce (header_of p))) otherwise
      announce_of_another p then Some AnnounceOfAnother otherwise
      is_link_request (header_of p) and of_kind_link (header_of p) then Some RequestOfKindLink otherwise
      is_link_request (header_of p) and ltb (length (payload p)) least_link_request then Some RequestTooShort otherwise
      link_proof_length p then Some LinkProofLength otherwise
      None)
  unfolding form_of first_of valued form_tests type_two_proof type_two_of_kind_link announce_not_single announce_too_short request_of_kind_link request_too_short
  form_clauses = refl

pub ruleset form_steps = (form_clauses, reading)
