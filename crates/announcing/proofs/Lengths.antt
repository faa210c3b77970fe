-- How long what is built is, and what is known where nothing is refused.
use Prim.Native.Nat.{ℕ, ◌+◌, ◌^◌, ◌≤◌, ◌<◌}
use native.Mathlib.Omega.{arith}
use mathlib.Core.Bool.{Bool, true, false, not}
use mathlib.Core.List.{List, ◌++◌}
use mathlib.Core.Path.{◌≡◌, refl, sym, subst, ◌∙◌}
use lib.Dec.{eqb, lit≤}
use lib.ListN.{length, length-append}
use borrow.Author.Tests.{eq-eqb, ne_eqb, eqb-true, ltb-false, leb-false}
use Rattle.octets.specs.Index.{◌and◌}
use Rattle.octets.specs.Choice.{◌then◌otherwise◌, ◌or◌}
use Rattle.octets.specs.Listed.{first_of}
use Rattle.octets.specs.Part.{patch}
use Rattle.octets.proofs.Choice.{or_no_left, or_no_right}
use Rattle.octets.proofs.BigEndian.{big_endian_length}
use Rattle.octets.proofs.Listed.{all_give, refuses, rows_passed}
use Rattle.packet.specs.Header.{type_two}
use Rattle.packet.specs.Read.{payload_start}
use Rattle.packet.specs.Write.{Wide}
use Rattle.packet.specs.Places.{address_width, type_one_start, keys_width, name_hash_width, random_width, ratchet_width, signature_width, emission_width}
use Rattle.packet.proofs.ReadLaws.{start_one}
use Rattle.packet.proofs.WriteLaws.{packet_length}
use Rattle.packet.proofs.Widths.{announced_length}
use Rattle.announcing.specs.Announcing.{Announce, blob, destination, signed_bytes, payload_with, head_of, parts_for, announce_with, wrong_lengths, announce_rows, announce_refusal, any_signature, laid, signing, building, Lays}
use Rattle.announcing.specs.Steps.{announce_length}
use Rattle.numbers.specs.Numbers.{longest_packet, least_output}

-- ---- the head
pub head_wide : (d : List ℕ) (n : ℕ) → length d ≡ address_width → Wide (head_of d n)
unfolding head_of
head_wide d n e = record { relay = refl; destination = e }

-- what holds of both headers holds of the head's
pub head_either : (P : ℕ → Type 0) (d : List ℕ) (n : ℕ) → P 0x01 → P 0x21 → P (head_of d n).header
unfolding head_of ◌then◌otherwise◌
head_either P d n one two = go (eqb n 0)
  where
    go : (t : Bool) → P (t then 0x01 otherwise 0x21)
    go true = one
    go false = two

pub head_one : (d : List ℕ) (n : ℕ) → type_two (head_of d n).header ≡ false
unfolding type_two
head_one d n = head_either (λ h. type_two h ≡ false) d n refl refl

pub destination_length : (a : Announce) → length (destination a) ≡ address_width
unfolding destination
destination_length a = announced_length (a.keys ++ a.name_hash)

pub parts_wide : (a : Announce) → Wide (parts_for a)
parts_wide a = head_wide (destination a) (length a.ratchet) (destination_length a)

pub parts_start : (a : Announce) → payload_start (parts_for a).header ≡ type_one_start
parts_start a = start_one (parts_for a).header (head_one (destination a) (length a.ratchet))

-- ---- lengths
module _ (a : Announce) (signature : List ℕ) where
  blob_length : length (blob a) ≡ length a.random + emission_width
  unfolding blob
  blob_length = simp (length-append, big_endian_length) (omega arith)

  pub payload_length : length (payload_with a signature)
      ≡ length a.keys + (length a.name_hash + (length a.random + emission_width + (length a.ratchet + (length signature + length a.app_data))))
  unfolding payload_with
  payload_length = simp length-append (omega (arith, blob_length))

  pub announce_length_lem : length (announce_with a signature)
      ≡ type_one_start + (length a.keys +
      (length a.name_hash + (length a.random + emission_width + (length a.ratchet + (length signature + length a.app_data)))))
  unfolding announce_with
  announce_length_lem =
      packet_length (parts_for a) (payload_with a signature) (parts_wide a) ∙ omega (arith, parts_start a, payload_length)

  pub signed_length : length (signed_bytes a)
      ≡ address_width + (length a.keys + (length a.name_hash + (length a.random + emission_width + (length a.ratchet + length a.app_data))))
  unfolding signed_bytes
  signed_length = simp length-append (omega (arith, blob_length, destination_length a))

-- ---- 26: what is known where no length is wrong
pub record Right (k n r t s : ℕ) : Type 0 where
  pub keys : k ≡ keys_width
  pub name_hash : n ≡ name_hash_width
  pub random : r ≡ random_width
  pub ratchet : (eqb t 0 or eqb t ratchet_width) ≡ true
  pub signature : s ≡ signature_width

not_no : (t : Bool) → not t ≡ false → t ≡ true
not_no true e = refl
not_no false e = sym e

module _ (k n r t s : ℕ) where
  pub right : wrong_lengths k n r t s ≡ false → Right k n r t s
  unfolding wrong_lengths
  right e =
      let e1 = or_no_right _ _ e in
      let e2 = or_no_right _ _ e1 in
      let e3 = or_no_right _ _ e2 in
      record {
        keys = eqb-true k keys_width (not_no _ (or_no_left _ _ e));
        name_hash = eqb-true n name_hash_width (not_no _ (or_no_left _ _ e1));
        random = eqb-true r random_width (not_no _ (or_no_left _ _ e2));
        ratchet = not_no _ (or_no_left _ _ e3);
        signature = eqb-true s signature_width (not_no _ (or_no_right _ _ e3));
      }

-- a ratchet of right length has 32 bytes or none
pub ratchet_right : (t : ℕ) (P : ℕ → Type 0) → (eqb t 0 or eqb t ratchet_width) ≡ true → P 0 → P ratchet_width → P t
unfolding ◌or◌
ratchet_right t P e none some = go (eqb t 0) refl e
  where
    go : (v : Bool) → eqb t 0 ≡ v → (v or eqb t ratchet_width) ≡ true → P t
    go true z h = subst P (sym (eqb-true t 0 z)) none
    go false z h = subst P (sym (eqb-true t ratchet_width h)) some

pub ratchet_most : (t : ℕ) → (eqb t 0 or eqb t ratchet_width) ≡ true → t ≤ ratchet_width
ratchet_most t e = ratchet_right t (λ n. n ≤ ratchet_width) e (lit≤ tt) (lit≤ tt)

-- ---- the refusal by lengths alone: 27 is asked only where all lengths are right
module _ (a : Announce) (signature : List ℕ) where
  wrong : Bool
  wrong = wrong_lengths (length a.keys) (length a.name_hash) (length a.random) (length a.ratchet) (length signature)

  pub built_length : Right (length a.keys) (length a.name_hash) (length a.random) (length a.ratchet) (length signature)
      → length (announce_with a signature) ≡ announce_length (length a.ratchet) (length a.app_data)
  built_length w = announce_length_lem a signature ∙ omega (arith, w.keys, w.name_hash, w.random, w.signature)

  pub refusal_by_lem : (room : ℕ)
      → announce_refusal a signature room
      ≡ first_of (announce_rows (length a.keys) (length a.name_hash) (length a.random) (length a.ratchet) (length signature) a.clock
      (announce_length (length a.ratchet) (length a.app_data)) room) 0
  unfolding announce_refusal announce_rows first_of ◌then◌otherwise◌ wrong
  refusal_by_lem room = go wrong refl
    where
      go : (v : Bool) → wrong ≡ v
          → announce_refusal a signature room
          ≡ first_of (announce_rows (length a.keys) (length a.name_hash) (length a.random) (length a.ratchet) (length signature) a.clock
          (announce_length (length a.ratchet) (length a.app_data)) room) 0
      go true e = rw e
      go false e = rw (e, built_length (right _ _ _ _ _ e))

-- ---- what is known where nothing is refused
pub record Buildable (a : Announce) (signature : List ℕ) (room : ℕ) : Type 0 where
  pub lengths : Right (length a.keys) (length a.name_hash) (length a.random) (length a.ratchet) (length signature)
  pub clock : a.clock < 2 ^ 40
  pub short : announce_length (length a.ratchet) (length a.app_data) ≤ longest_packet
  pub roomy : least_output ≤ room

pub buildable : (a : Announce) (signature : List ℕ) (room : ℕ) → announce_refusal a signature room ≡ 0 → Buildable a signature room
unfolding announce_rows all_give refuses ◌and◌
buildable a signature room e =
    let rows = announce_rows (length a.keys) (length a.name_hash) (length a.random) (length a.ratchet) (length signature) a.clock
    (announce_length (length a.ratchet) (length a.app_data)) room in
    let (wrong, (late, (long, (small, _)))) = rows_passed rows 0 refl (eq-eqb _ 0 (sym (refusal_by_lem a signature room) ∙ e)) in
    record {
      lengths = right _ _ _ _ _ wrong;
      clock = leb-false _ _ late;
      short = ltb-false _ _ long;
      roomy = ltb-false _ _ small;
    }

-- ---- the answer and the room of a call that is refused, and of one that isn't
module _ {refusal n : ℕ} (bytes room : List ℕ) where
  pub laid_refused : n ≡ refusal → (n ≡ 0 → ⊥) → Lays (laid refusal bytes room) (record { refusal = n; length = 0 }) room
  unfolding laid ◌then◌otherwise◌
  laid_refused e ne = rw (e, ne_eqb refusal 0 (λ z. ne (e ∙ z))) (refl, refl)

  pub laid_done : {after : List ℕ} → refusal ≡ 0 → n ≡ length bytes → after ≡ patch room 0 bytes
      → Lays (laid refusal bytes room) (record { refusal = 0; length = n }) after
  unfolding laid ◌then◌otherwise◌
  laid_done z e w = rw (eq-eqb refusal 0 z, e, w) (refl, refl)

-- the refusal is answered; then no length is, and the room is as it was
module _ (refusal : ℕ) (bytes room : List ℕ) where
  pub laid_refusal : (laid refusal bytes room).answer.refusal ≡ refusal
  unfolding laid ◌then◌otherwise◌
  laid_refusal = go (eqb refusal 0) refl
    where
      go : (v : Bool) → eqb refusal 0 ≡ v → (laid refusal bytes room).answer.refusal ≡ refusal
      go true e = rw e (sym (eqb-true refusal 0 e))
      go false e = rw e

  pub laid_stays : eqb refusal 0 ≡ false → ((laid refusal bytes room).answer.length ≡ 0) × ((laid refusal bytes room).output ≡ room)
  unfolding laid ◌then◌otherwise◌
  laid_stays z = rw z (refl, refl)

-- ---- what a call says it wrote is at most 500 bytes
laid_most : (refusal : ℕ) (bytes room : List ℕ) → (refusal ≡ 0 → length bytes ≤ longest_packet) → (laid refusal bytes room).answer.length ≤ longest_packet
unfolding laid ◌then◌otherwise◌
laid_most refusal bytes room h = go (eqb refusal 0) refl
  where
    go : (v : Bool) → eqb refusal 0 ≡ v → (laid refusal bytes room).answer.length ≤ longest_packet
    go true e = rw e (h (eqb-true refusal 0 e))
    go false e = rw e (lit≤ tt)

pub building_most : (a : Announce) (signature room : List ℕ) → (building a signature room).answer.length ≤ longest_packet
unfolding building
building_most a signature room =
    laid_most _ (announce_with a signature) room (λ z.
    let b = buildable a signature (length room) z in omega (arith, built_length a signature b.lengths, b.short))

pub signing_most : (a : Announce) (room : List ℕ) → (signing a room).answer.length ≤ longest_packet
unfolding signing
signing_most a room =
    laid_most _ (signed_bytes a) room (λ z.
    let b = buildable a any_signature (length room) z in
    let w = b.lengths in
    omega (arith, signed_length a any_signature, b.short, w.keys, w.name_hash, w.random))
