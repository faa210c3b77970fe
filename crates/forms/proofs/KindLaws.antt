-- What a packet's kind and a good form rule out.
use Prim.Native.Nat.{ℕ, ◌+◌, ◌≤◌, ◌<◌}
use native.Mathlib.Omega.{arith}
use mathlib.Core.Bool.{Bool, true, false}
use mathlib.Core.Path.{◌≡◌, refl, sym, ap, ◌∙◌}
use lib.Dec.{eqb, ltb}
use lib.ListN.{length, get_or}
use borrow.Author.Tests.{eq-eqb, eqb-true, eqb-false, ltb-false, le-leb, lt-leb}
use Rattle.octets.specs.Index.{◌and◌}
use Rattle.octets.specs.Choice.{◌then◌otherwise◌}
use Rattle.octets.proofs.Index.{and_no, and_yes}
use Rattle.octets.proofs.Listed.{none_any}
use Rattle.packet.specs.Header.{context_flag, packet_kind, of_kind_link, is_data, is_announce, is_link_request, is_proof}
use Rattle.packet.specs.Announce.{ratchet_length, least_announce}
use Rattle.packet.specs.Places.{blob_end, signature_width, ratchet_width, hops_at}
use Rattle.packet.proofs.ReadLaws.{parts_hops}
use Rattle.rules.specs.Arrival.{Arrival, header, hops, body, is_link_proof}
use Rattle.rules.specs.Tests.{announce_too_short, request_of_kind_link, form_tests, bad_form, too_many_hops}
use Rattle.numbers.specs.Numbers.{hops_limit}

-- ---- kinds: a packet is of one of four
pub other_kind : (n k m : ℕ) → eqb n k ≡ true → eqb k m ≡ false → eqb n m ≡ false
other_kind n k m e d = ap (λ (x : ℕ). eqb x m) (eqb-true n k e) ∙ d

pub request_left : (h : ℕ) → is_data h ≡ false → is_announce h ≡ false → is_proof h ≡ false → is_link_request h ≡ true
unfolding packet_kind
request_left h d a p =
    eq-eqb (packet_kind h) 2
    (omega (arith, eqb-false (packet_kind h) 0 d, eqb-false (packet_kind h) 1 a, eqb-false (packet_kind h) 3 p))

-- ---- link proofs
module _ (a : Arrival) where
  pub no_link_proof : is_proof (header a) ≡ false → is_link_proof a.bytes ≡ false
  unfolding is_link_proof
  no_link_proof e = and_no _ e

  pub no_link_proof_kind : of_kind_link (header a) ≡ false → is_link_proof a.bytes ≡ false
  unfolding is_link_proof ◌and◌
  no_link_proof_kind e = go (is_proof (header a)) refl
    where
      go : (t : Bool) → is_proof (header a) ≡ t → is_link_proof a.bytes ≡ false
      go true q = rw (q, e)
      go false q = rw q

-- ---- what a good form says
module _ (a : Arrival) (good : bad_form a.bytes ≡ false) where
  -- an announce has room for its blob
  pub announce_long : is_announce (header a) ≡ true → blob_end ≤ length (body a)
  unfolding bad_form form_tests announce_too_short ratchet_length least_announce ◌then◌otherwise◌
  announce_long is = go (context_flag (header a)) refl
    where
      short : ltb (length (body a)) (least_announce (header a)) ≡ false
      short = let (_, (_, (_, (long, _)))) = none_any (form_tests a.bytes) good in sym (and_yes _ is) ∙ long

      go : (t : Bool) → context_flag (header a) ≡ t → blob_end ≤ length (body a)
      go true q = let l : blob_end + ratchet_width + signature_width ≤ length (body a) = ltb-false _ _ (rw q at short) in omega arith
      go false q = let l : blob_end + signature_width ≤ length (body a) = ltb-false _ _ (rw q at short) in omega arith

  -- no link request is of kind link
  pub link_no_request : of_kind_link (header a) ≡ true → is_link_request (header a) ≡ false
  unfolding bad_form form_tests request_of_kind_link ◌and◌
  link_no_request is = go (is_link_request (header a)) refl
    where
      none : (is_link_request (header a) and of_kind_link (header a)) ≡ false
      none = let (_, (_, (_, (_, (_, (other, _)))))) = none_any (form_tests a.bytes) good in other

      go : (t : Bool) → is_link_request (header a) ≡ t → is_link_request (header a) ≡ false
      go true q = let z : true ≡ false = sym (rw (q, is)) ∙ none in q ∙ z
      go false q = q

-- ---- hops are byte 1
module _ (a : Arrival) where
  pub hops_many : hops_limit ≤ get_or a.bytes hops_at 0 → too_many_hops (hops a) ≡ true
  unfolding too_many_hops
  hops_many l = le-leb hops_limit (hops a) (omega (arith, l, parts_hops a.bytes))

  pub hops_few : get_or a.bytes hops_at 0 < hops_limit → too_many_hops (hops a) ≡ false
  unfolding too_many_hops
  hops_few l = lt-leb hops_limit (hops a) (omega (arith, l, parts_hops a.bytes))
