-- The fields of an announce that was built, found in it by their places.
use Prim.Native.Nat.{ℕ, ◌+◌}
use native.Mathlib.Omega.{arith}
use mathlib.Core.Bool.{false}
use mathlib.Core.List.{List, [], ◌++◌, append_assoc, append-nil}
use mathlib.Core.Path.{◌≡◌, refl, sym, ap, ap₂, ◌∙◌}
use lib.ListN.{length, drop, length-append}
use lib.Seq.{drop_at}
use Rattle.octets.specs.Choice.{◌then◌otherwise◌}
use Rattle.octets.specs.Part.{part}
use Rattle.octets.specs.BigEndian.{number, big_endian}
use Rattle.octets.proofs.Choice.{then_false}
use Rattle.octets.proofs.Part.{part_mid}
use Rattle.octets.proofs.BigEndian.{big_endian_length, number_big_endian}
use Rattle.packet.specs.Header.{access_code, context_flag, packet_kind, destination_kind}
use Rattle.packet.specs.Read.{header_of, parts_of, payload}
use Rattle.packet.specs.Write.{packet_of, read_back}
use Rattle.packet.specs.Announce.{keys_of, name_hash_of, blob_of, emission_of, ratchet_length, ratchet_of, signature_of, least_announce, app_data_of, identity_hash, announced_destination}
use Rattle.packet.specs.Places.{blob_width, keys_width, name_hash_at, name_hash_width, blob_at, blob_end, emission_width, ratchet_width, signature_width, random_width}
use Rattle.packet.proofs.RoundTrip.{write_parts, write_payload}
use Rattle.announcing.specs.Announcing.{Announce, blob, destination, payload_with, head_of, parts_for, announce_with}
use Rattle.announcing.proofs.Lengths.{head_either, head_one, parts_wide, ratchet_right, Buildable}

-- ---- the head
-- both headers are those of an announce of kind single without an access code
module _ (d : List ℕ) (n : ℕ) where
  pub head_free : access_code (head_of d n).header ≡ false
  unfolding access_code
  head_free = head_either (λ h. access_code h ≡ false) d n refl refl

  pub head_announce : packet_kind (head_of d n).header ≡ 1
  unfolding packet_kind
  head_announce = head_either (λ h. packet_kind h ≡ 1) d n refl refl

  pub head_single : destination_kind (head_of d n).header ≡ 0
  unfolding destination_kind
  head_single = head_either (λ h. destination_kind h ≡ 0) d n refl refl

-- the destination goes by keys and name hash alone
announced_by_lem : (x y : List ℕ) → keys_of x ≡ keys_of y → name_hash_of x ≡ name_hash_of y → announced_destination x ≡ announced_destination y
unfolding announced_destination identity_hash
announced_by_lem x y k n = rw (k, n)

module _ (a : Announce) (signature : List ℕ) where
  abbrev pub built : List ℕ
  built = announce_with a signature

  pub built_header : header_of built ≡ (parts_for a).header
  unfolding announce_with packet_of
  built_header = refl

  pub built_payload : payload built ≡ payload_with a signature
  unfolding announce_with
  built_payload = write_payload (parts_for a) (payload_with a signature) (parts_wide a)

  pub read_back_lem : read_back (parts_for a) ≡ parts_for a
  unfolding read_back head_of
  read_back_lem = then_false _ _ (head_one (destination a) (length a.ratchet))

  pub built_parts : parts_of built ≡ parts_for a
  unfolding announce_with
  built_parts = write_parts (parts_for a) (payload_with a signature) (parts_wide a) ∙ read_back_lem

  module _ {room : ℕ} (b : Buildable a signature room) where
    -- the context flag stands for the ratchet
    pub flagged : ratchet_length (parts_for a).header ≡ length a.ratchet
    unfolding ratchet_length head_of context_flag ◌then◌otherwise◌
    flagged =
        ratchet_right (length a.ratchet) (λ n. (context_flag (head_of (destination a) n).header then ratchet_width otherwise 0) ≡ n)
        b.lengths.ratchet refl refl

    blob_length : length (blob a) ≡ blob_width
    unfolding blob
    blob_length = simp (length-append, big_endian_length) (omega (arith, b.lengths.random))

    -- keys, name hash and blob
    abbrev start : List ℕ
    start = a.keys ++ (a.name_hash ++ blob a)

    start_length : length start ≡ blob_end
    start_length = simp length-append (omega (arith, b.lengths.keys, b.lengths.name_hash, blob_length))

    abbrev body : List ℕ
    body = payload_with a signature

    pub keys_found : keys_of body ≡ a.keys
    unfolding keys_of payload_with
    keys_found = part_mid [] a.keys _ 0 keys_width refl b.lengths.keys

    pub name_found : name_hash_of body ≡ a.name_hash
    unfolding name_hash_of payload_with
    name_found = part_mid a.keys a.name_hash _ name_hash_at name_hash_width b.lengths.keys b.lengths.name_hash

    pub blob_found : blob_of body ≡ blob a
    unfolding blob_of payload_with
    blob_found =
        let two : length (a.keys ++ a.name_hash) ≡ blob_at = length-append a.keys a.name_hash ∙ omega (arith, b.lengths.keys, b.lengths.name_hash) in
        ap (λ (r : List ℕ). part r blob_at blob_width) (sym (append_assoc a.keys a.name_hash (blob a ++ _)))
        ∙ part_mid (a.keys ++ a.name_hash) (blob a) _ blob_at blob_width two blob_length

    pub random_found : part (blob a) 0 random_width ≡ a.random
    unfolding blob
    random_found = part_mid [] a.random (big_endian emission_width a.clock) 0 random_width refl b.lengths.random

    pub clock_found : emission_of (blob a) ≡ a.clock
    unfolding emission_of blob
    clock_found =
        let time = big_endian emission_width a.clock in
        ap (λ (r : List ℕ). number (part (a.random ++ r) random_width emission_width)) (sym (append-nil time))
        ∙ ap number (part_mid a.random time [] random_width emission_width b.lengths.random (big_endian_length emission_width a.clock))
        ∙ number_big_endian emission_width a.clock b.clock

    -- the payload behind them
    behind : body ≡ start ++ (a.ratchet ++ (signature ++ a.app_data))
    unfolding payload_with
    behind = simp append_assoc

    pub ratchet_found : ratchet_of (parts_for a).header body ≡ a.ratchet
    unfolding ratchet_of
    ratchet_found =
        ap₂ (λ (r : List ℕ) (n : ℕ). part r blob_end n) behind flagged
        ∙ part_mid start a.ratchet (signature ++ a.app_data) blob_end (length a.ratchet) start_length refl

    four_length : length (start ++ a.ratchet) ≡ blob_end + length a.ratchet
    four_length = length-append start a.ratchet ∙ ap (λ (n : ℕ). n + length a.ratchet) start_length

    pub signature_found : signature_of (parts_for a).header body ≡ signature
    unfolding signature_of
    signature_found =
        ap₂ (λ (r : List ℕ) (n : ℕ). part r (blob_end + n) signature_width) (behind ∙ sym (append_assoc start a.ratchet (signature ++ a.app_data))) flagged
        ∙ part_mid (start ++ a.ratchet) signature a.app_data (blob_end + length a.ratchet) signature_width four_length b.lengths.signature

    pub app_data_found : app_data_of (parts_for a).header body ≡ a.app_data
    unfolding app_data_of least_announce
    app_data_found =
        let five : length ((start ++ a.ratchet) ++ signature) ≡ blob_end + length a.ratchet + signature_width =
        length-append (start ++ a.ratchet) signature ∙ omega (arith, four_length, b.lengths.signature) in
        ap₂ (λ (r : List ℕ) (n : ℕ). drop (blob_end + n + signature_width) r)
        (behind ∙ sym (append_assoc start a.ratchet (signature ++ a.app_data)) ∙ sym (append_assoc (start ++ a.ratchet) signature a.app_data)) flagged
        ∙ drop_at ((start ++ a.ratchet) ++ signature) a.app_data (blob_end + length a.ratchet + signature_width) five

    -- the destination is the one that test 3 finds
    pub destination_found : announced_destination body ≡ destination a
    unfolding destination keys_of name_hash_of
    destination_found =
        announced_by_lem body (a.keys ++ a.name_hash)
        (keys_found ∙ sym (part_mid [] a.keys a.name_hash 0 keys_width refl b.lengths.keys))
        (name_found
        ∙ sym (part_mid a.keys a.name_hash [] name_hash_at name_hash_width b.lengths.keys b.lengths.name_hash)
        ∙ ap (λ (r : List ℕ). part (a.keys ++ r) name_hash_at name_hash_width) (append-nil a.name_hash))
