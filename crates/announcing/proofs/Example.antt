-- One announce without a ratchet and one with, built and signed; and every refusal: what is stated of all announces is stated of some.
use Prim.Native.Nat.{ℕ, ◌+◌, ◌-◌, ◌^◌}
use mathlib.Core.List.{List, [], ◌∷◌, ◌++◌}
use mathlib.Core.Path.{◌≡◌, refl, sym, ap, ◌∙◌}
use lib.Dec.{lit≤}
use lib.ListN.{length, replicate}
use Rattle.octets.specs.Choice.{◌then◌otherwise◌, ◌or◌}
use Rattle.octets.specs.Listed.{first_of}
use Rattle.octets.specs.BigEndian.{big_endian}
use Rattle.packet.specs.Header.{type_two}
use Rattle.packet.specs.Read.{payload}
use Rattle.packet.specs.Write.{addresses, packet_of}
use Rattle.packet.specs.Announce.{blob_of, emission_of}
use Rattle.announcing.specs.Announcing.{Announce, make_announce, blob, destination, signed_bytes, payload_with, head_of, announce_with, wrong_lengths, announce_rows, announce_refusal, any_signature, signing, signed_in}
use Rattle.announcing.proofs.Lengths.{refusal_by_lem, announce_length_lem}
use Rattle.announcing.proofs.RoundTrip.{GivesBack, built_stands, built_in, built_read, signed_exactly, refused_alike, laid_stands}

-- ---- refusals, by the lengths of keys, name hash, random bytes, ratchet and signature, the clock, and the lengths of app data and room
abbrev given : (k n r t clock d : ℕ) → Announce
given k n r t clock d =
    make_announce (replicate k 0x11) (replicate n 0x22) (replicate r 0x33) clock (replicate t 0x44) (replicate d 0x66)

abbrev Refused : (k n r t s clock d room number : ℕ) → Type 0
Refused k n r t s clock d room number = announce_refusal (given k n r t clock d) (replicate s 0x55) room ≡ number

refused : (k n r t s clock d room : ℕ)
    → announce_refusal (given k n r t clock d) (replicate s 0x55) room
    ≡ first_of (announce_rows (length (replicate {A = ℕ} k 0x11)) (length (replicate {A = ℕ} n 0x22)) (length (replicate {A = ℕ} r 0x33))
    (length (replicate {A = ℕ} t 0x44)) (length (replicate {A = ℕ} s 0x55)) clock
    (19 + 84 + length (replicate {A = ℕ} t 0x44) + 64 + length (replicate {A = ℕ} d 0x66)) room) 0
refused k n r t s clock d room = refusal_by_lem (given k n r t clock d) (replicate s 0x55) room

-- the longest app data, without a ratchet and with
pub longest : Refused 64 10 5 0 64 (2 ^ 40 - 1) 333 500 0 × Refused 64 10 5 32 64 (2 ^ 40 - 1) 301 500 0
unfolding announce_rows wrong_lengths first_of ◌then◌otherwise◌ ◌or◌
longest = (refused 64 10 5 0 64 (2 ^ 40 - 1) 333 500, refused 64 10 5 32 64 (2 ^ 40 - 1) 301 500)

-- one byte too many, or too few
pub each_length : Refused 63 10 5 0 64 0 0 500 26
    × Refused 64 11 5 0 64 0 0 500 26
    × Refused 64 10 10 0 64 0 0 500 26
    × Refused 64 10 5 31 64 0 0 500 26
    × Refused 64 10 5 0 63 0 0 500 26
    × Refused 64 10 5 0 64 0 334 500 27
    × Refused 64 10 5 32 64 0 302 500 27
    × Refused 64 10 5 0 64 0 0 499 6
unfolding announce_rows wrong_lengths first_of ◌then◌otherwise◌ ◌or◌
each_length = (
  refused 63 10 5 0 64 0 0 500,
  refused 64 11 5 0 64 0 0 500,
  refused 64 10 10 0 64 0 0 500,
  refused 64 10 5 31 64 0 0 500,
  refused 64 10 5 0 63 0 0 500,
  refused 64 10 5 0 64 0 334 500,
  refused 64 10 5 32 64 0 302 500,
  refused 64 10 5 0 64 0 0 499,
)

-- where more than one row holds, the earlier one's number
pub in_order : Refused 64 10 5 33 64 (2 ^ 40) 334 499 26 × Refused 64 10 5 0 64 (2 ^ 40) 334 499 5 × Refused 64 10 5 0 64 0 334 499 27
unfolding announce_rows wrong_lengths first_of ◌then◌otherwise◌ ◌or◌
in_order = (
  refused 64 10 5 33 64 (2 ^ 40) 334 499,
  refused 64 10 5 0 64 (2 ^ 40) 334 499,
  refused 64 10 5 0 64 0 334 499,
)

-- ---- an announce with this ratchet, emitted at 1,700,000,000, with the app data "hi"
abbrev example : List ℕ → Announce
example ratchet = make_announce (replicate 64 0x11) (replicate 10 0x22) (replicate 5 0x33) 1700000000 ratchet (0x68 ∷ 0x69 ∷ [])

abbrev signature : List ℕ
signature = replicate 64 0x55

abbrev room : List ℕ
room = replicate 600 0xee

abbrev emission : List ℕ
emission = 0x00 ∷ 0x65 ∷ 0x53 ∷ 0xf1 ∷ 0x00 ∷ []

abbrev old_ratchet : List ℕ
old_ratchet = replicate 32 0x44

pub plain_accepted : announce_refusal (example []) signature (length room) ≡ 0
unfolding announce_rows wrong_lengths first_of ◌then◌otherwise◌ ◌or◌
plain_accepted = refusal_by_lem (example []) signature (length room)

pub ratchet_accepted : announce_refusal (example old_ratchet) signature (length room) ≡ 0
unfolding announce_rows wrong_lengths first_of ◌then◌otherwise◌ ◌or◌
ratchet_accepted = refusal_by_lem (example old_ratchet) signature (length room)

-- built: header 01, hops 0, destination, context 0; then the payload
pub plain_built : built_in (example []) signature room plain_accepted
    ≡ 0x01 ∷ 0 ∷ (destination (example []) ++ (0 ∷ (replicate 64 0x11 ++ (replicate 10 0x22 ++ (replicate 5 0x33 ++ (emission
    ++ (replicate 64 0x55 ++ (0x68 ∷ 0x69 ∷ []))))))))
unfolding announce_with payload_with blob head_of packet_of addresses type_two big_endian ◌then◌otherwise◌
plain_built = built_stands (example []) signature room plain_accepted

-- header 21, with the ratchet before the signature
pub ratchet_built : built_in (example old_ratchet) signature room ratchet_accepted
    ≡ 0x21 ∷ 0 ∷ (destination (example old_ratchet) ++ (0 ∷ (replicate 64 0x11 ++ (replicate 10 0x22 ++ (replicate 5 0x33 ++ (emission
    ++ (replicate 32 0x44 ++ (replicate 64 0x55 ++ (0x68 ∷ 0x69 ∷ [])))))))))
unfolding announce_with payload_with blob head_of packet_of addresses type_two big_endian ◌then◌otherwise◌
ratchet_built = built_stands (example old_ratchet) signature room ratchet_accepted

-- read back at the announce's own size
own_size : length (built_in (example old_ratchet) signature room ratchet_accepted) ≡ 201
own_size = ap length (built_stands (example old_ratchet) signature room ratchet_accepted) ∙ announce_length_lem (example old_ratchet) signature

abbrev back : GivesBack 201 (built_in (example old_ratchet) signature room ratchet_accepted) (example old_ratchet) signature
back = built_read (example old_ratchet) signature room ratchet_accepted 201 (rw own_size (lit≤ tt)) (lit≤ tt)

pub clock_back : emission_of (blob_of (payload (built_in (example old_ratchet) signature room ratchet_accepted))) ≡ 1700000000
clock_back = back.clock

-- what is signed: destination, keys, name hash, blob, ratchet, app data
pub signed : signed_in (built_in (example old_ratchet) signature room ratchet_accepted)
    ≡ destination (example old_ratchet) ++ (replicate 64 0x11 ++ (replicate 10 0x22 ++ (replicate 5 0x33 ++ (emission ++ (replicate 32 0x44
    ++ (0x68 ∷ 0x69 ∷ []))))))
unfolding signing signed_bytes blob big_endian
signed =
    let accepted = refused_alike (example old_ratchet) signature (length room) refl ∙ ratchet_accepted in
    sym (signed_exactly (example old_ratchet) signature room ratchet_accepted room accepted)
    ∙ laid_stands (announce_refusal (example old_ratchet) any_signature (length room)) (signed_bytes (example old_ratchet)) room accepted
