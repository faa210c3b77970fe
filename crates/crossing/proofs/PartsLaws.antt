-- The parts of a packet, written one after the other over 35 bytes.
use Prim.Native.Nat.{ℕ, ◌+◌}
use native.Mathlib.Omega.{arith}
use mathlib.Core.List.{List, [], ◌∷◌, ◌++◌, append_assoc}
use mathlib.Core.Path.{◌≡◌, refl, ap, ◌∙◌}
use lib.ListN.{length, length-append}
use Rattle.octets.specs.Part.{patch}
use Rattle.octets.proofs.Part.{patch_join, patch_whole}
use Rattle.packet.specs.Write.{Wide}
use Rattle.packet.specs.declared.Parts.{Parts}
use Rattle.packet.specs.Places.{address_width, hops_at, address_at, second_address_at, type_two_context_at, type_two_start, end_width}
use Rattle.crossing.specs.Packets.{parts_bytes}

module _ (old : List ℕ) (room : length old ≡ type_two_start) (q : Parts) (wide : Wide q) where
  pub parts_written : patch
      (patch (patch (patch (patch old 0 (q.header ∷ [])) hops_at (q.hops ∷ [])) address_at q.relay) second_address_at q.destination)
      type_two_context_at (q.context ∷ [])
      ≡ parts_bytes q
  unfolding parts_bytes
  parts_written =
      let head : List ℕ = q.header ∷ q.hops ∷ [] in
      let addresses : List ℕ = q.relay ++ q.destination in
      let two : length addresses ≡ address_width + address_width = length-append q.relay q.destination ∙ omega (arith, wide.relay, wide.destination) in
      let one : length (addresses ++ (q.context ∷ [])) ≡ address_width + end_width = length-append addresses (q.context ∷ []) ∙ omega arith in
      let context : List ℕ → List ℕ = λ r. patch r type_two_context_at (q.context ∷ []) in
      let destination : List ℕ → List ℕ = λ r. patch r second_address_at q.destination in
      let relay : List ℕ → List ℕ = λ r. patch r address_at q.relay in
      ap (λ (r : List ℕ). context (destination (relay r))) (patch_join old 0 hops_at (q.header ∷ []) (q.hops ∷ []) refl (omega arith))
      ∙ ap (λ (r : List ℕ). context (destination r)) (patch_join old 0 address_at head q.relay refl (omega (arith, wide.relay)))
      ∙ ap context (patch_join old 0 second_address_at (head ++ q.relay) q.destination (omega (arith, wide.relay)) (omega (arith, wide.destination)))
      ∙ patch_join old 0 type_two_context_at (head ++ addresses) (q.context ∷ []) (omega arith) (omega arith)
      ∙ patch_whole old (head ++ (addresses ++ (q.context ∷ []))) (omega arith)
      ∙ ap (λ (r : List ℕ). q.header ∷ q.hops ∷ r) (append_assoc q.relay q.destination (q.context ∷ []))
