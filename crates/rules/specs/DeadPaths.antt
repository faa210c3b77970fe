-- Document 02, wish 6, what was wanted: "When a box dies, we sit on its path until something newer comes." An announce at least as new revives a marked path,
-- and until then the mark stays. Both are said of every relay that keeps row 7. Proved in proofs/Revived.antt and proofs/StaysMarked.antt.
use Rattle.std.specs.Prelude.{ℕ, ◌≤◌, ◌<◌, Bool, true, false, List, [], ◌∷◌, ◌≡◌, eqb, leb, length}
use Rattle.packet.specs.Header.{of_kind_single, is_announce}
use Rattle.packet.specs.Announce.{emission_of}
use Rattle.rules.specs.Relay.{used, Path, Relay}
use Rattle.rules.specs.View.{view_at}
use Rattle.rules.specs.Refusals.{packet_refusal}
use Rattle.rules.specs.Arrival.{Arrival, header, hops, destination, blob}
use Rattle.rules.specs.Blobs.{held, greatest_emission}
use Rattle.rules.specs.Tests.{bad_form, too_many_hops}
use Rattle.rules.specs.Answers.{verdict_kind}
use Rattle.rules.specs.Writes.{next_hop_of}
use Rattle.rules.specs.Calls.{marks, table_refusal}
use Rattle.rules.specs.Run.{Call, packet, on_tables, asks, saves, loads, marking, Reply, answered, numbered, told, saved, unsaved, perform, replies, relay_after, none_loads}
use Rattle.rules.specs.declared.Tally.{Tally}
use Rattle.rules.specs.declared.Answer.TheVariants.{Refused, Judged}

-- an answer Spread or Kept: the announce is accepted
abbrev pub says_accepted : Reply → Bool
says_accepted (answered (Refused number) output) = false
says_accepted (answered (Judged verdict) output) = leb 4 (verdict_kind verdict)
says_accepted (numbered refusal) = false
says_accepted (told x) = false
says_accepted (saved r t room) = false
says_accepted (unsaved refusal room) = false

-- ---- "a packet not refused that is an announce of kind single passing test 3, with hops under 128 and the word yes, for a destination that isn't local and
-- whose live path at its clock is marked, with an emission not below the greatest stored"
pub record NewEnough (p : Path) (a : Arrival) (output : List ℕ) (r : Relay) : Type 0 where
  pub not_refused : eqb (packet_refusal r a (length output)) 0 ≡ true
  pub announce : is_announce (header a) ≡ true
  pub single : of_kind_single (header a) ≡ true
  pub formed : bad_form a.bytes ≡ false
  pub few_hops_lem : too_many_hops (hops a) ≡ false
  pub signed : a.signed ≡ true
  pub elsewhere : (view_at a.clock r).local (destination a) ≡ false
  pub live : (view_at a.clock r).path (destination a) ≡ used p
  pub is_marked_lem : p.notes.marked ≡ true
  pub as_new : greatest_emission (held p.blobs) ≤ emission_of (blob a)

-- "is answered Spread or Kept; the live path then is unmarked, with its arrival port, hops and next hop, last = clock"
pub record Revived (a : Arrival) (reply : Reply) (r' : Relay) : Type 0 where
  pub accepted : says_accepted reply ≡ true
  pub path : Path
  pub live : (view_at a.clock r').path (destination a) ≡ used path
  pub unmarked : path.notes.marked ≡ false
  pub by_port : path.port ≡ a.port
  pub with_hops : path.hops ≡ hops a
  pub next_hop_lem : path.next_hop ≡ next_hop_of a.bytes
  pub last : path.rate.last ≡ a.clock

abbrev pub NewEnoughRevives : Type 0
NewEnoughRevives =
    (p : Path) (a : Arrival) (output : List ℕ) (r : Relay) (t : Tally) → NewEnough p a output r
    → Revived a (perform (packet a output) r t).reply (perform (packet a output) r t).relay

-- ---- "an accepted mark leaves the live path marked until an announce for it is accepted or it expires, over any list without a load"
-- a packet to the destination
abbrev pub IsFor : List ℕ → Call → Type 0
IsFor d (packet a output) = destination a ≡ d
IsFor d (on_tables c) = ⊥
IsFor d (asks q) = ⊥
IsFor d (saves f room) = ⊥
IsFor d (loads f file) = ⊥

-- no announce for it is accepted, by what each call replied
unfoldable pub NoneAccepted : List ℕ → List Call → List Reply → Type 0
NoneAccepted d [] said = Unit {0}
NoneAccepted d (c ∷ cs) [] = Unit {0}
NoneAccepted d (c ∷ cs) (x ∷ said) = (IsFor d c → says_accepted x ≡ false) × NoneAccepted d cs said

-- the live path at a clock, marked, with this expiry
pub record MarkedAt (d : List ℕ) (expiry now : ℕ) (r : Relay) : Type 0 where
  pub path : Path
  pub live : (view_at now r).path d ≡ used path
  pub is_marked_lem : path.notes.marked ≡ true
  pub expires : path.expiry ≡ expiry

-- p is the live path that is marked, cs are the calls after the mark, and `now` is at the last accepted clock or later
abbrev pub MarkStays : Type 0
MarkStays =
    (d : List ℕ) (clock : ℕ) (r : Relay) (t : Tally) (p : Path) → eqb (table_refusal (marks d clock) r) 0 ≡ true → (view_at clock r).path d ≡ used p
    → (cs : List Call) → none_loads cs ≡ true → NoneAccepted d cs (replies cs (perform (marking d clock) r t).relay t)
    → (now : ℕ) → (relay_after cs (perform (marking d clock) r t).relay t).clock ≤ now → now < p.expiry
    → MarkedAt d p.expiry now (relay_after cs (perform (marking d clock) r t).relay t)
