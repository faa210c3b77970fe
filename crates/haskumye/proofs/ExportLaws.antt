-- What the code of the exports leaves: the caller's buffer by the refusal, the place and the number.
use Prim.Native.Nat.{ℕ, ◌-◌, ◌≤◌, ◌<◌}
use native.Mathlib.Omega.{arith}
use mathlib.Core.Bool.{Bool, true, false}
use mathlib.Core.List.{List}
use mathlib.Core.Path.{◌≡◌, refl, sym, ap, ◌∙◌}
use lib.Dec.{ltb}
use lib.ListN.{length, length-drop}
use borrow.Author.Tests.{ltb-true, ltb-false, eq-eqb, ne_eqb}
use Rattle.octets.proofs.Choice.{then_true, then_false}
use Rattle.packet.specs.Read.{header_of, payload_start, payload, longest_packet}
use Rattle.packet.specs.Write.{Writing, writing, writing_refusal}
use Rattle.packet.specs.declared.Parts.{Parts}
use Rattle.numbers.specs.Refusals.{Written}
use Rattle.packet.proofs.ReadLaws.{payload_least}
use Rattle.packet.proofs.WriteLaws.{writable, writing_done, writing_refused}
use Rattle.crossing.specs.Packets.{payload_place}
use Rattle.haskumye.specs.Packets.{buffer_after}

-- ---- the buffer after a call whose refusal is n, as promised m, and which has `new` to write, as promised
module _ (n m : ℕ) (q : n ≡ m) (promised old : List ℕ) where
  pub written : (new : List ℕ) → new ≡ promised → n ≡ 0 → (0 ≡ m) × (new ≡ buffer_after m promised old)
  unfolding buffer_after
  written new e h = (sym h ∙ q, e ∙ sym (then_true promised old (eq-eqb m 0 (sym q ∙ h))))

  pub untouched : (n ≡ 0 → ⊥) → (n ≡ m) × (old ≡ buffer_after m promised old)
  unfolding buffer_after
  untouched ne = (q, sym (then_false promised old (ne_eqb m 0 (λ (e : m ≡ 0). ne (q ∙ e)))))

-- ---- the payload's place, by the lengths
pub place_found : (p body : List ℕ) → body ≡ payload p → length p - length body ≡ payload_place p
unfolding payload payload_place
place_found p body e = go (ltb (length p) (payload_start (header_of p))) refl
  where
    start : ℕ
    start = payload_start (header_of p)

    size : length body ≡ length p - start
    size = ap length e ∙ length-drop start p

    go : (v : Bool) → ltb (length p) start ≡ v → length p - length body ≡ payload_place p
    go true t =
        let past : length p < start = ltb-true (length p) start t in
        let at : length p - length body ≡ length p = omega (arith, size) in
        at ∙ sym (then_true (length p) start t)
    go false t =
        let within : start ≤ length p = ltb-false (length p) start t in
        let at : length p - length body ≡ start = omega (arith, size) in
        at ∙ sym (then_false (length p) start t)

pub payload_short : (p body : List ℕ) → body ≡ payload p → length body ≤ length p
payload_short p body e = omega (arith, ap length e, payload_least p)

-- ---- a writing's length is at most 500
pub written_most : (w : Written) (q : Parts) (body output : List ℕ) → w ≡ (writing q body output).answer → w.length ≤ longest_packet
written_most w q body output e = go (ltb 0 refusal) refl
  where
    refusal : ℕ
    refusal = writing_refusal (length output) q body

    size : (x : Writing) → writing q body output ≡ x → w.length ≡ x.answer.length
    size x d = ap (λ (a : Written). a.length) e ∙ ap (λ (y : Writing). y.answer.length) d

    go : (v : Bool) → ltb 0 refusal ≡ v → w.length ≤ longest_packet
    go true t =
        let refused : 0 < refusal = ltb-true 0 refusal t in
        omega (arith, size _ (writing_refused q body output (λ (z : refusal ≡ 0). omega arith)))
    go false t =
        let least : refusal ≤ 0 = ltb-false 0 refusal t in
        let zero : refusal ≡ 0 = omega arith in
        omega (arith, size _ (writing_done q body output zero), (writable (length output) q body zero).fits)
