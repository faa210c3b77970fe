-- What the code writes one after the other is what is to stand there.
use Prim.Native.Nat.{ℕ, ◌+◌, ◌≤◌}
use native.Mathlib.Omega.{arith}
use mathlib.Core.List.{List, [], ◌++◌, append_assoc}
use mathlib.Core.Path.{◌≡◌, ap, ◌∙◌}
use lib.ListN.{length, length-append}
use Rattle.octets.specs.Part.{patch}
use Rattle.octets.specs.BigEndian.{big_endian}
use Rattle.octets.proofs.Part.{patch_join, patch_whole}
use Rattle.octets.proofs.BigEndian.{big_endian_length}
use Rattle.packet.specs.Write.{packet_of}
use Rattle.packet.specs.Places.{address_width, type_one_start, keys_width, name_hash_at, name_hash_width, blob_at, blob_end, random_width, emission_width, signature_width}
use Rattle.packet.proofs.WriteLaws.{packet_length, packet_behind}
use Rattle.announcing.specs.Announcing.{Announce, blob, destination, signed_bytes, payload_with, parts_for, announce_with}
use Rattle.announcing.specs.Steps.{fields}
use Rattle.announcing.proofs.Lengths.{destination_length, parts_wide, parts_start, Buildable}

-- two runs that fill a buffer
pub filled : (t x y : List ℕ) (n : ℕ) → length x ≡ n → n + length y ≡ length t → patch (patch t 0 x) n y ≡ x ++ y
filled t x y n e h =
    patch_join t 0 n x y (omega arith) (omega arith) ∙ patch_whole t (x ++ y) (length-append x y ∙ omega arith)

-- keys, name hash, random bytes, clock and ratchet
module _ (out keys name random : List ℕ) (clock : ℕ) (ratchet : List ℕ) (at : ℕ)
    (k : length keys ≡ keys_width) (n : length name ≡ name_hash_width) (r : length random ≡ random_width) (room : at + blob_end + length ratchet ≤ length out) where
  pub fields_written : patch
      (patch (patch (patch (patch out at keys) (at + name_hash_at) name) (at + blob_at) random) (at + blob_at + random_width) (big_endian emission_width clock))
      (at + blob_end) ratchet
      ≡ patch out at (fields keys name random clock ratchet)
  unfolding fields
  fields_written =
      let time = big_endian emission_width clock in
      let time-length : length time ≡ emission_width = big_endian_length emission_width clock in
      let two : length (keys ++ name) ≡ blob_at = length-append keys name ∙ omega arith in
      let three : length ((keys ++ name) ++ random) ≡ (blob_at + random_width) = length-append (keys ++ name) random ∙ omega arith in
      let four : length (((keys ++ name) ++ random) ++ time) ≡ blob_end = length-append ((keys ++ name) ++ random) time ∙ omega arith in
      ap (λ (x : List ℕ). patch (patch (patch x (at + blob_at) random) (at + blob_at + random_width) time) (at + blob_end) ratchet)
      (patch_join out at (at + name_hash_at) keys name (omega arith) (omega arith))
      ∙ ap (λ (x : List ℕ). patch (patch x (at + blob_at + random_width) time) (at + blob_end) ratchet)
      (patch_join out at (at + blob_at) (keys ++ name) random (omega arith) (omega arith))
      ∙ ap (λ (x : List ℕ). patch x (at + blob_end) ratchet)
      (patch_join out at (at + blob_at + random_width) ((keys ++ name) ++ random) time (omega arith) (omega arith))
      ∙ patch_join out at (at + blob_end) (((keys ++ name) ++ random) ++ time) ratchet (omega arith) (omega arith)
      ∙ ap (patch out at) (simp append_assoc)

  pub fields_length : length (fields keys name random clock ratchet) ≡ blob_end + length ratchet
  unfolding fields
  fields_length = simp (length-append, big_endian_length) (omega arith)

module _ (a : Announce) (signature out : List ℕ) (b : Buildable a signature (length out)) where
  abbrev all : List ℕ
  all = fields a.keys a.name_hash a.random a.clock a.ratchet

  all_length : length all ≡ blob_end + length a.ratchet
  all_length =
      fields_length out a.keys a.name_hash a.random a.clock a.ratchet 0 b.lengths.keys b.lengths.name_hash b.lengths.random
      (omega (arith, b.short, b.roomy))

  pub signed_written : patch (patch (patch out 0 (destination a)) address_width all) (address_width + blob_end + length a.ratchet) a.app_data
      ≡ patch out 0 (signed_bytes a)
  unfolding signed_bytes blob fields
  signed_written =
      let one = destination_length a in
      let two : length (destination a ++ all) ≡ address_width + blob_end + length a.ratchet = length-append (destination a) all ∙ omega (arith, all_length) in
      ap (λ (x : List ℕ). patch x (address_width + blob_end + length a.ratchet) a.app_data)
      (patch_join out 0 address_width (destination a) all (omega arith) (omega (arith, all_length, b.short, b.roomy)))
      ∙ patch_join out 0 (address_width + blob_end + length a.ratchet) (destination a ++ all) a.app_data (omega arith) (omega (arith, b.short, b.roomy))
      ∙ ap (patch out 0) (simp append_assoc)

  pub announce_written : patch
      (patch (patch (patch out 0 (packet_of (parts_for a) [])) type_one_start all) (type_one_start + blob_end + length a.ratchet) signature)
      (type_one_start + blob_end + length a.ratchet + signature_width) a.app_data
      ≡ patch out 0 (announce_with a signature)
  unfolding announce_with payload_with blob fields
  announce_written =
      let head = packet_of (parts_for a) [] in
      let one : length head ≡ type_one_start = packet_length (parts_for a) [] (parts_wide a) ∙ omega (arith, parts_start a) in
      let two : length (head ++ all) ≡ type_one_start + blob_end + length a.ratchet = length-append head all ∙ omega (arith, all_length) in
      let sixty-four = b.lengths.signature in
      let three : length ((head ++ all) ++ signature) ≡ type_one_start + blob_end + signature_width + length a.ratchet = length-append (head ++ all) signature
      ∙ omega arith in
      let t = length a.ratchet in
      ap (λ (x : List ℕ). patch (patch x (type_one_start + blob_end + t) signature) (type_one_start + blob_end + t + signature_width) a.app_data)
      (patch_join out 0 type_one_start head all (omega arith) (omega (arith, all_length, b.short, b.roomy)))
      ∙ ap (λ (x : List ℕ). patch x (type_one_start + blob_end + t + signature_width) a.app_data)
      (patch_join out 0 (type_one_start + blob_end + t) (head ++ all) signature (omega arith) (omega (arith, b.short, b.roomy)))
      ∙ patch_join out 0 (type_one_start + blob_end + t + signature_width) ((head ++ all) ++ signature) a.app_data (omega arith)
      (omega (arith, b.short, b.roomy))
      ∙ ap (patch out 0) (append_assoc (head ++ all) signature a.app_data ∙ append_assoc head all (signature ++ a.app_data)
      ∙ packet_behind (parts_for a) (all ++ (signature ++ a.app_data)) ∙ ap (packet_of (parts_for a)) (simp append_assoc))
