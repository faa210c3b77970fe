-- The laws of the hashed part: from its destination on a packet is hashed as it lies.
use Prim.Native.Nat.{ℕ, ◌+◌, ◌-◌, ◌%◌, ◌≤◌}
use native.Mathlib.Omega.{arith}
use mathlib.Core.Bool.{Bool, true, false}
use mathlib.Core.List.{List, ◌∷◌}
use mathlib.Core.Path.{◌≡◌, refl, sym, ap, ◌∙◌}
use lib.ListN.{length, take, drop, length-drop}
use lib.Seq.{take_all}
use Rattle.octets.specs.Part.{part}
use Rattle.sha256.specs.Sha256.{sha256_of}
use Rattle.packet.specs.Header.{type_two}
use Rattle.packet.specs.Read.{header_of, type_one_parts, type_two_parts, parts_of, payload_start, payload}
use Rattle.packet.specs.Hash.{hashed_part, packet_hash, link_id}
use Rattle.packet.specs.declared.Parts.{Parts}
use Rattle.packet.specs.Places.{address_width, second_address_at, type_one_start, type_two_start, end_width, link_payload_width, address_at}
use Rattle.packet.proofs.ListLaws.{behind_cut}
use Rattle.packet.proofs.ReadLaws.{start_two, start_one, parts_two, parts_one, payload_least}
use Rattle.numbers.specs.Numbers.{longest_packet}

module _ (p : List ℕ) (whole : payload_start (header_of p) ≤ length p) where
  -- the hashed part, its payload cut to k bytes
  hashed_cut : (k : ℕ) → hashed_part (parts_of p) (take k (payload p)) ≡ header_of p % 16 ∷ take (end_width + k) (drop (payload_start (header_of p) - end_width) p)
  unfolding hashed_part payload type_one_parts type_two_parts
  hashed_cut k = go (type_two (header_of p)) refl
    where
      at : (q : Parts) (start : ℕ) → parts_of p ≡ q → payload_start (header_of p) ≡ start
          → hashed_part q (take k (drop start p)) ≡ header_of p % 16 ∷ take (end_width + k) (drop (start - end_width) p)
          → hashed_part (parts_of p) (take k (payload p)) ≡ header_of p % 16 ∷ take (end_width + k) (drop (payload_start (header_of p) - end_width) p)
      at q start eq es e = rw (eq, es) e

      go : (t : Bool) → type_two (header_of p) ≡ t
          → hashed_part (parts_of p) (take k (payload p)) ≡ header_of p % 16 ∷ take (end_width + k) (drop (payload_start (header_of p) - end_width) p)
      go true e =
          let start : payload_start (header_of p) ≡ type_two_start = start_two (header_of p) e in
          at (type_two_parts p) type_two_start (parts_two p e) start (ap (λ (r : List ℕ). header_of p % 16 ∷ r) (behind_cut p second_address_at (omega arith) k))
      go false e =
          let start : payload_start (header_of p) ≡ type_one_start = start_one (header_of p) e in
          at (type_one_parts p) type_one_start (parts_one p e) start (ap (λ (r : List ℕ). header_of p % 16 ∷ r) (behind_cut p address_at (omega arith) k))

  -- the whole of it
  hashed_whole : hashed_part (parts_of p) (payload p) ≡ header_of p % 16 ∷ drop (payload_start (header_of p) - end_width) p
  hashed_whole =
      ap (hashed_part (parts_of p)) (sym (take_all (length p) (payload p) (payload_least p)))
      ∙ hashed_cut (length p)
      ∙ ap (λ (r : List ℕ). header_of p % 16 ∷ r)
      (take_all (end_width + length p) (drop (payload_start (header_of p) - end_width) p) (simp length-drop (omega arith)))

  -- packet hash and link id, as the code takes them
  pub packet_hashed : packet_hash p ≡ sha256_of (header_of p % 16 ∷ drop (payload_start (header_of p) - end_width) p)
  unfolding packet_hash
  packet_hashed = ap sha256_of hashed_whole

  pub link_hashed : link_id p ≡ take address_width (sha256_of (header_of p % 16 ∷ part p (payload_start (header_of p) - end_width) (end_width + link_payload_width)))
  unfolding link_id part
  link_hashed = ap (λ (m : List ℕ). take address_width (sha256_of m)) (hashed_cut link_payload_width)

-- from its destination on, a packet leaves room for one byte more in a buffer for the longest packet
pub behind_short : (p : List ℕ) (n : ℕ) → type_one_start ≤ n → length p ≤ longest_packet → 1 + length (drop (n - end_width) p) ≤ longest_packet
behind_short p n l h = simp length-drop (omega arith)
