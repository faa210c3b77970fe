-- Document 02, wish 7: "Say what an old announce can do." Three sentences, each said of one packet: by the relay before it, the reply, and the relay after it.
-- A destination's path and a key's return record are what the view gives at the packet's clock: from fresh with no load the only live one (`unique_after`,
-- proofs/Unique.antt). Proved in proofs/OldAnnounces.antt and proofs/ReturnedProofs.antt.
use Rattle.std.specs.Prelude.{ℕ, ◌≤◌, Bool, true, false, not, List, ◌≡◌, eqb, length}
use Rattle.octets.specs.Index.{◌and◌}
use Rattle.packet.specs.Header.{is_announce}
use Rattle.packet.specs.Announce.{emission_of}
use Rattle.packet.specs.Places.{blob_end}
use Rattle.rules.specs.Relay.{Slot, empty, used, Path, Return, Relay, fresh}
use Rattle.rules.specs.View.{View, view_at}
use Rattle.rules.specs.Refusals.{packet_refusal}
use Rattle.rules.specs.Arrival.{Arrival, header, hops, destination, body, blob}
use Rattle.rules.specs.Blobs.{held, is_among, greatest_emission}
use Rattle.rules.specs.Ways.{by_return}
use Rattle.rules.specs.Tests.{bad_form, own_announce, too_many_hops, not_signed, port_off, too_long_for_port}
use Rattle.rules.specs.Answers.{verdict_kind}
use Rattle.rules.specs.Calls.{new_tally}
use Rattle.rules.specs.Run.{Call, packet, Reply, answered, numbered, told, saved, unsaved, perform, relay_after, tally_after, none_loads}
use Rattle.rules.specs.DeadPaths.{says_accepted}
use Rattle.rules.specs.Reasons.{reaches_way, is_ordinary_proof}
use Rattle.rules.specs.declared.Tally.{Tally}
use Rattle.rules.specs.declared.Reason.TheVariants.{Duplicate}
use Rattle.rules.specs.declared.Verdict.TheVariants.{Drop, Forward}
use Rattle.rules.specs.declared.Answer.TheVariants.{Refused, Judged}

-- ---- "Show of packets not refused, over every sequence of calls from a fresh relay with no load:"
-- a sentence about the packet a: the relay was r, the reply is this, and the relay is r'
abbrev pub Sentence : Type 1
Sentence = (a : Arrival) (r : Relay) (reply : Reply) (r' : Relay) → Type 0

-- .. said of a packet call that isn't refused
abbrev pub OfPacket : Sentence → Arrival → List ℕ → Relay → Tally → Type 0
OfPacket says a output r t =
    eqb (packet_refusal r a (length output)) 0 ≡ true → says a r (perform (packet a output) r t).reply (perform (packet a output) r t).relay

-- .. behind any calls cs on a fresh relay: renumberings and refused calls may stand among them, but of loads only refused ones
abbrev pub FromFresh : Sentence → Type 0
FromFresh says =
    (own : List ℕ) (cs : List Call) → none_loads cs ≡ true → (a : Arrival) (output : List ℕ)
    → OfPacket says a output (relay_after cs (fresh own) new_tally) (tally_after cs (fresh own) new_tally)

-- the destination's live path
abbrev pub LivePath : List ℕ → Path → Arrival → Relay → Type 0
LivePath d p a r = (view_at a.clock r).path d ≡ used p

-- "an announce for it whose blob it holds": of any type, kind, length and word. The blob is payload bytes 74..83: under 84 bytes there is none
pub record HeldAnnounce (d : List ℕ) (p : Path) (a : Arrival) : Type 0 where
  pub announce : is_announce (header a) ≡ true
  pub for_it : destination a ≡ d
  pub has_blob : blob_end ≤ length (body a)
  pub is_held : is_among (blob a) (held p.blobs) ≡ true

-- ---- 1. "while a destination's path is live and unmarked, a packet dropped as duplicate, and an announce for it whose blob it holds, leave its port, next
-- hop, hops, expiry and blobs as they were."
pub record AsItWas (d : List ℕ) (p : Path) (a : Arrival) (r' : Relay) : Type 0 where
  pub path : Path
  pub live : LivePath d path a r'
  pub port : path.port ≡ p.port
  pub next_hop_lem : path.next_hop ≡ p.next_hop
  pub hops : path.hops ≡ p.hops
  pub expiry : path.expiry ≡ p.expiry
  pub blobs : path.blobs ≡ p.blobs

pub record Leaves (d : List ℕ) (p : Path) (a : Arrival) (reply : Reply) (r' : Relay) : Type 0 where
  -- whatever packet it is, for this destination or another
  pub duplicate : (output : List ℕ) → reply ≡ answered (Judged (Drop Duplicate)) output → AsItWas d p a r'
  pub held_announce : HeldAnnounce d p a → AsItWas d p a r'

-- live and unmarked before the packet, at its clock
abbrev pub OldLeavesPath : Sentence
OldLeavesPath a r reply r' = (d : List ℕ) (p : Path) → LivePath d p a r → p.notes.marked ≡ false → Leaves d p a reply r'

-- ---- 2. "And an ordinary proof is forwarded only by the arrival port of the live return record, and exactly if that record's leaving port is where it came in
-- and tests 1 to 5 and 12 let it by." Wish 11: "Wish 7's condition for proofs now names drop 16 too."
abbrev pub says_forwarded : Reply → Bool
says_forwarded (answered (Refused number) output) = false
says_forwarded (answered (Judged verdict) output) = eqb (verdict_kind verdict) 3
says_forwarded (numbered refusal) = false
says_forwarded (told x) = false
says_forwarded (saved r t room) = false
says_forwarded (unsaved refusal room) = false

-- of the live return record whose key is its destination, if there is one. `reaches_way`: tests 1 to 5 let it by; it also says that the packet isn't delivered,
-- which no proof is (`proof_not_delivered`, proofs/ReturnedProofs.antt). Tests 12 and 16 are of the port to leave by
unfoldable pub goes_back : View → Arrival → Slot Return → Bool
goes_back v a empty = false
goes_back v a (used t) =
    eqb a.port t.leaving
    and reaches_way v a
    and not (port_off v a (by_return t))
    and not (too_long_for_port v a (by_return t))

pub record Returns (a : Arrival) (r : Relay) (reply : Reply) : Type 0 where
  pub only_by : (port n : ℕ) (output : List ℕ) → reply ≡ answered (Judged (Forward port n)) output
      → (t : Return) × ((view_at a.clock r).return (destination a) ≡ used t) × (port ≡ t.arrival)
  -- both directions
  pub exactly : says_forwarded reply ≡ goes_back (view_at a.clock r) a ((view_at a.clock r).return (destination a))

abbrev pub ProofReturns : Sentence
ProofReturns a r reply r' = is_ordinary_proof a ≡ true → Returns a r reply

-- ---- 3. "Beside it, the marked case: an announce for a live marked path that holds its blob is spread or Kept exactly if its emission is the greatest held
-- and tests 3, 4, 5 and 9 let it by; the blobs then stay."
unfoldable pub is_newest : Path → Arrival → Bool
is_newest p a = eqb (emission_of (blob a)) (greatest_emission (held p.blobs))

unfoldable pub is_let_by : View → Arrival → Bool
is_let_by v a = not (bad_form a.bytes) and not (own_announce v a) and not (too_many_hops (hops a)) and not (not_signed a)

pub record TakenAgain (d : List ℕ) (p : Path) (a : Arrival) (r : Relay) (reply : Reply) (r' : Relay) : Type 0 where
  -- both directions
  pub exactly : says_accepted reply ≡ (is_newest p a and is_let_by (view_at a.clock r) a)
  pub blobs_stay : says_accepted reply ≡ true → (p' : Path) × LivePath d p' a r' × (p'.blobs ≡ p.blobs)

abbrev pub MarkedTakesAgain : Sentence
MarkedTakesAgain a r reply r' =
    (d : List ℕ) (p : Path) → LivePath d p a r → p.notes.marked ≡ true → HeldAnnounce d p a → TakenAgain d p a r reply r'
