-- The laws of writing: how long a packet is, what is written, and the bytes that the code writes one after the other.
use Prim.Native.Nat.{ℕ, ◌+◌, ◌≤◌}
use native.Mathlib.Omega.{arith}
use mathlib.Core.Bool.{Bool, true, false}
use mathlib.Core.List.{List, [], ◌∷◌, ◌++◌, append_assoc}
use mathlib.Core.Path.{◌≡◌, refl, sym, ap, ◌∙◌}
use lib.ListN.{length, length-append}
use borrow.Author.Tests.{le-ltb, ltb-false, eq-eqb, ne_eqb}
use Rattle.octets.specs.Part.{patch}
use Rattle.octets.specs.Index.{◌and◌}
use Rattle.octets.proofs.Part.{patch_join}
use Rattle.octets.proofs.Choice.{then_true, then_false}
use Rattle.octets.proofs.Listed.{all_give, refuses, none_first, rows_passed}
use Rattle.packet.specs.Header.{access_code, type_two}
use Rattle.packet.specs.Read.{payload_start, longest_packet}
use Rattle.packet.specs.Write.{Wide, addresses, packet_of, least_output, writing_rows, writing_refusal, writing}
use Rattle.packet.specs.declared.Parts.{Parts}
use Rattle.packet.specs.Places.{address_width, second_address_at, type_one_start, type_two_start, end_width, hops_at, address_at}
use Rattle.packet.proofs.ReadLaws.{start_two, start_one}

-- a packet is its head, and the payload behind it
pub packet_behind : (q : Parts) (body : List ℕ) → packet_of q [] ++ body ≡ packet_of q body
unfolding packet_of
packet_behind q body = ap (λ (r : List ℕ). q.header ∷ q.hops ∷ r) (append_assoc (addresses q) (q.context ∷ []) body)

-- ---- the packet, by the header's type
module _ (q : Parts) (body : List ℕ) where
  pub packet_two : type_two q.header ≡ true → packet_of q body ≡ q.header ∷ q.hops ∷ (q.relay ++ (q.destination ++ (q.context ∷ body)))
  unfolding packet_of addresses
  packet_two t =
      ap (λ (a : List ℕ). q.header ∷ q.hops ∷ (a ++ (q.context ∷ body))) (then_true (q.relay ++ q.destination) q.destination t)
      ∙ ap (λ (r : List ℕ). q.header ∷ q.hops ∷ r) (append_assoc q.relay q.destination (q.context ∷ body))

  pub packet_one : type_two q.header ≡ false → packet_of q body ≡ q.header ∷ q.hops ∷ (q.destination ++ (q.context ∷ body))
  unfolding packet_of addresses
  packet_one t = ap (λ (a : List ℕ). q.header ∷ q.hops ∷ (a ++ (q.context ∷ body))) (then_false (q.relay ++ q.destination) q.destination t)

  pub packet_length : Wide q → length (packet_of q body) ≡ payload_start q.header + length body
  packet_length w = go (type_two q.header) refl
    where
      go : (t : Bool) → type_two q.header ≡ t → length (packet_of q body) ≡ payload_start q.header + length body
      go true e =
          let end = q.destination ++ (q.context ∷ body) in
          let long = length-append q.relay end in
          ap length (packet_two e)
          ∙ omega (arith, length-append q.destination (q.context ∷ body), w.relay, w.destination, start_two q.header e)
      go false e =
          ap length (packet_one e)
          ∙ omega (arith, length-append q.destination (q.context ∷ body), w.destination, start_one q.header e)

-- ---- what is written where nothing refuses it
pub record Writable (room : ℕ) (q : Parts) (body : List ℕ) : Type 0 where
  pub roomy : least_output ≤ room
  pub fits : length (packet_of q body) ≤ longest_packet
  pub free : access_code q.header ≡ false

module _ (room : ℕ) (q : Parts) (body : List ℕ) where
  pub writable : writing_refusal room q body ≡ 0 → Writable room q body
  unfolding writing_refusal writing_rows all_give refuses ◌and◌
  writable e =
      let (roomy, (fits, (free, _))) = rows_passed (writing_rows room q body) 0 refl (eq-eqb _ 0 e) in
      record { roomy = ltb-false room least_output roomy; fits = ltb-false longest_packet (length (packet_of q body)) fits; free = free }

  pub accepted_writing : Writable room q body → writing_refusal room q body ≡ 0
  unfolding writing_refusal writing_rows
  accepted_writing w =
      none_first (writing_rows room q body) 0
      (le-ltb room least_output w.roomy, (le-ltb longest_packet (length (packet_of q body)) w.fits, (w.free, tt)))

-- ---- `writing`, by its refusal
module _ (q : Parts) (body output : List ℕ) where
  pub writing_done : writing_refusal (length output) q body ≡ 0
      → writing q body output ≡ record { answer = record { refusal = 0; length = length (packet_of q body) }; output = patch output 0 (packet_of q body) }
  unfolding writing
  writing_done e = then_true _ _ (eq-eqb (writing_refusal (length output) q body) 0 e)

  pub writing_refused : (writing_refusal (length output) q body ≡ 0 → ⊥)
      → writing q body output ≡ record { answer = record { refusal = writing_refusal (length output) q body; length = 0 }; output = output }
  unfolding writing
  writing_refused ne = then_false _ _ (ne_eqb (writing_refusal (length output) q body) 0 ne)

-- ---- what the code of writing leaves: bytes written one after the other are one write
module _ (out : List ℕ) (at : ℕ) (destination : List ℕ) (context : ℕ) (body : List ℕ) (wide : length destination ≡ address_width)
    (room : at + end_width + length body ≤ length out) where
  pub end_written : patch (patch (patch out at destination) (at + address_width) (context ∷ [])) (at + end_width) body
      ≡ patch out at (destination ++ (context ∷ body))
  end_written =
      ap (λ (r : List ℕ). patch r (at + end_width) body) (patch_join out at (at + address_width) destination (context ∷ []) (omega arith) (omega arith))
      ∙ patch_join out at (at + end_width) (destination ++ (context ∷ [])) body (omega (arith, length-append destination (context ∷ []))) (omega arith)
      ∙ ap (patch out at) (append_assoc destination (context ∷ []) body)

module _ (out : List ℕ) (q : Parts) (body : List ℕ) (wide : Wide q) (room : payload_start q.header + length body ≤ length out) where
  -- what both types begin and end with
  abbrev begun : List ℕ
  begun = patch (patch out 0 (q.header ∷ [])) hops_at (q.hops ∷ [])

  abbrev end : List ℕ
  end = q.destination ++ (q.context ∷ body)

  end_length : length end ≡ end_width + length body
  end_length = length-append q.destination (q.context ∷ body) ∙ omega (arith, wide.destination)

  begun_written : address_at ≤ length out → begun ≡ patch out 0 (q.header ∷ q.hops ∷ [])
  begun_written l = patch_join out 0 hops_at (q.header ∷ []) (q.hops ∷ []) refl l

  pub one_written : type_two q.header ≡ false → patch begun address_at end ≡ patch out 0 (packet_of q body)
  one_written t =
      let start : payload_start q.header ≡ type_one_start = start_one q.header t in
      ap (λ (r : List ℕ). patch r address_at end) (begun_written (omega arith))
      ∙ patch_join out 0 address_at (q.header ∷ q.hops ∷ []) end refl (omega (arith, end_length))
      ∙ ap (patch out 0) (sym (packet_one q body t))

  pub two_written : type_two q.header ≡ true → patch (patch begun address_at q.relay) second_address_at end ≡ patch out 0 (packet_of q body)
  two_written t =
      let start : payload_start q.header ≡ type_two_start = start_two q.header t in
      let relayed = patch_join out 0 address_at (q.header ∷ q.hops ∷ []) q.relay refl (omega (arith, wide.relay)) in
      ap (λ (r : List ℕ). patch (patch r address_at q.relay) second_address_at end) (begun_written (omega arith))
      ∙ ap (λ (r : List ℕ). patch r second_address_at end) relayed
      ∙ patch_join out 0 second_address_at (q.header ∷ q.hops ∷ q.relay) end (omega (arith, wide.relay)) (omega (arith, end_length))
      ∙ ap (patch out 0) (sym (packet_two q body t))
