-- The laws of what leaves: how long it is, and the bytes that the code writes one after the other.
use Prim.Native.Nat.{ℕ, ◌+◌, ◌%◌, ◌≤◌, ◌<◌}
use native.Mathlib.Nat.{not-suc-le-zero, le_of_suc-le-suc}
use native.Mathlib.Omega.{arith}
use mathlib.Core.Bool.{Bool, true, false}
use mathlib.Core.List.{List, [], ◌∷◌}
use mathlib.Core.Path.{◌≡◌, refl, sym, ap, ◌∙◌}
use lib.Dec.{eqb}
use lib.ListN.{length, get_or, set}
use borrow.Author.Tests.{eqb-true, eqb-false}
use Rattle.octets.specs.Choice.{◌then◌otherwise◌}
use Rattle.octets.specs.Part.{patch}
use Rattle.octets.proofs.Part.{patch_join}
use Rattle.octets.proofs.Choice.{then_true, then_false}
use Rattle.packet.specs.Header.{type_two}
use Rattle.packet.specs.Read.{header_of, no_address, payload_start, payload, reads}
use Rattle.packet.specs.Write.{packet_of}
use Rattle.packet.specs.declared.Parts.{Parts}
use Rattle.packet.specs.Places.{type_one_start, type_two_start}
use Rattle.packet.proofs.ReadLaws.{start_one, start_least, reads_readable}
use Rattle.packet.proofs.WriteLaws.{packet_length, packet_behind}
use Rattle.rules.specs.Outgoing.{rewritten, spread_header, path_packet, carried_packet, spread_packet}
use Rattle.rules.proofs.Lengths.{last_hop_start, spread_start, body_length, rewritten_wide, rewritten_length, path_last, path_next_hop, carried_is}
use Rattle.outgoing.specs.Leaving.{rewritten_parts, spread_length, path_length}
use Rattle.numbers.specs.Numbers.{address_width}

-- ---- a packet that reads
module _ (size : ℕ) (p : List ℕ) (h : reads size p ≡ true) where
  pub whole : payload_start (header_of p) ≤ length p
  whole = (reads_readable size p h).whole

  pub long : type_one_start ≤ length p
  long = omega (arith, start_least (header_of p), whole)

  -- spread
  pub spread_length_lem : (own : List ℕ) → length own ≡ address_width → length (spread_packet own p) ≡ spread_length p
  unfolding spread_packet spread_length
  spread_length_lem own wide =
      rewritten_length size p h (spread_header (header_of p)) own wide
      ∙ ap (λ (k : ℕ). k + length (payload p)) (spread_start (header_of p))

  pub spread_result : (own : List ℕ) → length own ≡ address_width → (body : List ℕ) → body ≡ payload p → type_two_start + length body ≡ length (spread_packet own p)
  unfolding spread_length
  spread_result own wide body e = ap (λ (b : List ℕ). type_two_start + length b) e ∙ sym (spread_length_lem own wide)

  -- type 1 grows by 16 bytes, so that 484 bytes are the most that spread
  pub spread_one : type_two (header_of p) ≡ false → spread_length p ≡ length p + address_width
  unfolding spread_length
  spread_one e = omega (arith, body_length size p h, start_one (header_of p) e)

  -- by a path: on the last hop a packet of type 2 loses the relay address, and otherwise it stays as long
  pub path_room : (payload_start (header_of p % 16) + length (payload p) ≤ length p) × (payload_start (header_of p) + length (payload p) ≤ length p)
  path_room =
      let body = body_length size p h in
      (omega (arith, body, start_least (header_of p), last_hop_start (header_of p)), omega (arith, body))

  pub path_length_lem : (hops : ℕ) (next_hop : List ℕ) → length next_hop ≡ address_width → length (path_packet hops next_hop p) ≡ path_length hops p
  unfolding path_length
  path_length_lem hops next_hop wide = go (eqb hops 0) refl
    where
      go : (b : Bool) → eqb hops 0 ≡ b → length (path_packet hops next_hop p) ≡ (eqb hops 0 then type_one_start + length (payload p) otherwise length p)
      go true e =
          ap length (path_last hops next_hop p (eqb-true hops 0 e))
          ∙ rewritten_length size p h (header_of p % 16) no_address refl
          ∙ ap (λ (k : ℕ). k + length (payload p)) (last_hop_start (header_of p))
          ∙ sym (then_true _ _ e)
      go false e =
          ap length (path_next_hop hops next_hop p (eqb-false hops 0 e))
          ∙ rewritten_length size p h (header_of p) next_hop wide
          ∙ body_length size p h
          ∙ sym (then_false _ _ e)

-- ---- what the code writes
module _ (size : ℕ) (out own p : List ℕ) (h : reads size p ≡ true) (wide : length own ≡ address_width) (room : spread_length p ≤ length out) where
  pub spread_written : patch (patch out 0 (packet_of (rewritten_parts (spread_header (header_of p)) own p) [])) type_two_start (payload p)
      ≡ patch out 0 (spread_packet own p)
  unfolding spread_packet rewritten spread_length
  spread_written =
      let q : Parts = rewritten_parts (spread_header (header_of p)) own p in
      let q-wide = rewritten_wide size p h (spread_header (header_of p)) own wide in
      let head : length (packet_of q []) ≡ type_two_start = packet_length q [] q-wide ∙ ap (λ (k : ℕ). k + 0) (spread_start (header_of p)) in
      patch_join out 0 type_two_start (packet_of q []) (payload p) (omega (arith, head)) room ∙ ap (patch out 0) (packet_behind q (payload p))

-- a packet whose byte 1 is written over
carry_over : (out p : List ℕ) (v : ℕ) → 1 < length p → patch (patch out 0 p) 1 (v ∷ []) ≡ patch out 0 (set p 1 v)
unfolding patch
carry_over out [] v l = absurd (not-suc-le-zero l)
carry_over out (x ∷ []) v l = absurd (not-suc-le-zero (le_of_suc-le-suc l))
carry_over out (x ∷ y ∷ p) v l = refl

module _ (p : List ℕ) where
  pub carried_written : (out : List ℕ) → 1 < length p → patch (patch out 0 p) 1 ((get_or p 1 0 + 1) ∷ []) ≡ patch out 0 (carried_packet p)
  carried_written out l = carry_over out p (get_or p 1 0 + 1) l ∙ ap (patch out 0) (sym (carried_is p))
