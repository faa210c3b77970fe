-- Wish 12's theorems on one announce: built of its parts it is the announce of the scene, byte for byte, and a relay that hears it spreads it.
use Prim.Native.Nat.{ℕ}
use mathlib.Core.Bool.{true, false}
use mathlib.Core.List.{List, [], ◌∷◌, ◌++◌}
use mathlib.Core.Path.{◌≡◌, refl, ap, ◌∙◌}
use lib.ListN.{length, replicate}
use Rattle.octets.specs.Choice.{◌then◌otherwise◌, ◌or◌}
use Rattle.octets.specs.Listed.{first_of}
use Rattle.octets.specs.BigEndian.{big_endian}
use Rattle.packet.specs.Header.{type_two}
use Rattle.packet.specs.Write.{addresses, packet_of}
use Rattle.rules.specs.Calls.{new_tally}
use Rattle.rules.proofs.Unfolding.{rules, hashing}
use Rattle.rules.proofs.Scene.{blank, emission, announce_body, destination, announce_bytes, arrives}
use Rattle.rules.proofs.Outcomes.{spreads, spread_bytes, prepared_relay}
use Rattle.tables.specs.Layout.{bytes_of}
use Rattle.announcing.specs.Announcing as own
use Rattle.announcing.specs.Announcing.{Announce, make_announce, blob, payload_with, head_of, announce_with, wrong_lengths, announce_rows, announce_refusal}
use Rattle.announcing.proofs.Lengths.{refusal_by_lem}
use Rattle.announcing.proofs.RoundTrip.{built_in, built_stands}
use Rattle.demands.specs.Bytes.{replies_on}
use Rattle.rules.specs.Reasons.{dropped_by}
use Rattle.demands.proofs.OwnAnnounces.{answered_to, never_dropped}
use Rattle.demands.proofs.Instance2.{announce_said}

-- ---- the parts of the scene's announce
abbrev given : Announce
given = make_announce (replicate 64 0x11) (replicate 10 0x22) (replicate 5 0x33) 1700000000 (replicate 32 0x44) []

abbrev signature : List ℕ
signature = replicate 64 0x44

pub accepted : announce_refusal given signature (length blank) ≡ 0
unfolding announce_rows wrong_lengths first_of ◌then◌otherwise◌ ◌or◌
accepted = refusal_by_lem given signature (length blank)

-- keys and name hash give the destination
pub named : own.destination given ≡ destination
unfolding own.destination rules hashing
named = refl

pub built : built_in given signature blank accepted ≡ announce_bytes
unfolding announce_with payload_with blob head_of packet_of addresses type_two big_endian ◌then◌otherwise◌
built =
    built_stands given signature blank accepted ∙ ap (λ (d : List ℕ). 0x21 ∷ 0 ∷ (d ++ (0x00 ∷ announce_body emission))) named

-- ---- a relay with two ports on spreads it
pub spread : replies_on (arrives (built_in given signature blank accepted) 1000 1 ∷ []) (bytes_of prepared_relay) new_tally ≡ spreads spread_bytes 2 ∷ []
spread = ap (λ (p : List ℕ). replies_on (arrives p 1000 1 ∷ []) (bytes_of prepared_relay) new_tally) built ∙ announce_said new_tally

-- ---- never_dropped, where it is spread and where it is refused
pub passes : (dropped_by 3 (answered_to given signature blank accepted 1 1000 true (bytes_of prepared_relay) new_tally blank) ≡ false)
    × (dropped_by 5 (answered_to given signature blank accepted 77 1000 true [] new_tally blank) ≡ false)
passes = (
  (never_dropped given signature blank accepted 1 1000 true (bytes_of prepared_relay) new_tally blank).0,
  (never_dropped given signature blank accepted 77 1000 true [] new_tally blank).1,
)
