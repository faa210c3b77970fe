-- Document 02, wish 2, what was wanted: a keepalive is forwarded and renews its link, however often it came, and a link whose keepalives come
-- in time lives through any list of calls. Wish 11: one that is too long for the port of the other side is dropped, and is none of these. Proved in
-- proofs/Keepalive.antt and proofs/Lasting.antt.
use Rattle.std.specs.Prelude.{ℕ, ◌+◌, ◌≤◌, Bool, true, false, not, List, [], ◌∷◌, ◌≡◌, eqb, ltb, length}
use Rattle.octets.specs.Index.{◌and◌}
use Rattle.octets.specs.Choice.{◌then◌otherwise◌, ◌or◌, same}
use Rattle.octets.specs.Part.{patch}
use Rattle.packet.specs.Header.{type_two, of_kind_link, is_data}
use Rattle.packet.specs.Read.{header_of, parts_of}
use Rattle.numbers.specs.Numbers.{proved_lifetime}
use Rattle.rules.specs.Relay.{used, with_link_state, Relay}
use Rattle.rules.specs.View.{view_at, port_on, port_size}
use Rattle.rules.specs.Refusals.{packet_refusal}
use Rattle.rules.specs.Arrival.{Arrival, destination}
use Rattle.rules.specs.Ways.{along_link}
use Rattle.rules.specs.Tests.{too_many_hops, from_answering_side, from_asking_side, leaving_port}
use Rattle.rules.specs.Outgoing.{exceeds, carried_packet}
use Rattle.rules.specs.Calls.{sets_port, sets_rate, adds, removes, renumbers, notes_path, table_refusal}
use Rattle.rules.specs.Questions.{question_refusal}
use Rattle.rules.specs.Saved.{save_refusal, load_refusal}
use Rattle.rules.specs.Run.{Call, packet, on_tables, asks, saves, loads, Reply, answered, perform}
use Rattle.rules.specs.declared.Link.{Link}
use Rattle.rules.specs.declared.Tally.{Tally}
use Rattle.rules.specs.declared.Verdict.TheVariants.{Forward}
use Rattle.rules.specs.declared.Answer.TheVariants.{Judged}

-- ---- a keepalive: type 1, kind link, packet kind data, context 0xFA, hops under 128
unfoldable pub is_keepalive : List ℕ → Bool
is_keepalive p =
    not (type_two (header_of p))
    and of_kind_link (header_of p)
    and is_data (header_of p)
    and eqb (parts_of p).context 0xfa
    and not (too_many_hops (parts_of p).hops)

-- one for this link, from either side with that side's hops, that is not too long for the port of the other side
unfoldable pub keeps_alive : Relay → Link → Arrival → Bool
keeps_alive r l a =
    is_keepalive a.bytes
    and same l.id (destination a)
    and (from_answering_side l a or from_asking_side l a)
    and not (exceeds a.bytes (port_size r (leaving_port a (along_link l))))

-- ---- the link
-- proved, with this expiry
abbrev pub until : Link → ℕ → Link
until l expiry = with_link_state true expiry l

-- live and proved at a clock, with this expiry
abbrev pub LivesAt : Link → ℕ → ℕ → Relay → Type 0
LivesAt l expiry clock r = (view_at clock r).link l.id ≡ used (until l expiry)

-- .. and both its ports are on
pub record UpAt (l : Link) (expiry clock : ℕ) (r : Relay) : Type 0 where
  pub lives : LivesAt l expiry clock r
  pub asking : port_on r l.asking ≡ true
  pub answering : port_on r l.answering ≡ true

-- ---- one keepalive: the relay was r and is r'
-- it is forwarded by the port of its link's other side, and the link's expiry is its clock + 720
pub record Carried (l : Link) (a : Arrival) (output : List ℕ) (reply : Reply) (r' : Relay) : Type 0 where
  pub forwarded : reply
      ≡ answered (Judged (Forward (leaving_port a (along_link l)) (length a.bytes))) (patch output 0 (carried_packet a.bytes))
  pub renewed : LivesAt l (a.clock + proved_lifetime) a.clock r'

-- ---- a list of calls
-- a call that isn't refused
unfoldable pub accepted : Call → Relay → Bool
accepted (packet a output) r = eqb (packet_refusal r a (length output)) 0
accepted (on_tables c) r = eqb (table_refusal c r) 0
accepted (asks q) r = eqb (question_refusal q r) 0
accepted (saves f room) r = eqb (save_refusal f (length room) r) 0
accepted (loads f file) r = eqb (load_refusal (f.says file)) 0

-- which calls may be accepted while the link must be kept before a deadline. "No call is accepted at a clock more than 719 s after the last"
-- keepalive; "no accepted renumbering, and no accepted setting that leaves either port off", and no accepted load
unfoldable pub fair : Link → ℕ → Call → Bool
fair l deadline (packet a output) = ltb a.clock deadline
fair l deadline (on_tables (sets_port port on mode size)) = on or not (eqb port l.asking or eqb port l.answering)
fair l deadline (on_tables (sets_rate target grace penalty)) = true
fair l deadline (on_tables (adds address)) = true
fair l deadline (on_tables (removes address)) = true
fair l deadline (on_tables (renumbers images)) = false
fair l deadline (on_tables (notes_path note destination clock)) = ltb clock deadline
-- a question changes nothing, whatever its clock
fair l deadline (asks q) = true
-- nor does a save; a load sets everything
fair l deadline (saves f room) = true
fair l deadline (loads f file) = false

-- a keepalive that is accepted sets it anew: "at most 719 s from each to the next"
unfoldable pub next_deadline : Relay → Link → ℕ → Call → Bool → ℕ
next_deadline r l deadline (packet a output) taken = taken and keeps_alive r l a then a.clock + proved_lifetime otherwise deadline
next_deadline r l deadline (on_tables c) taken = deadline
next_deadline r l deadline (asks q) taken = deadline
next_deadline r l deadline (saves f room) taken = deadline
next_deadline r l deadline (loads f file) taken = deadline

-- "from the start": the link is up, and is to be kept before the deadline. That is its expiry, or less, and is at most 720 s ahead: where the
-- link was renewed at the start, "at most 719 s from the start"
pub record Starts (l : Link) (deadline : ℕ) (r : Relay) : Type 0 where
  pub expiry : ℕ
  pub up : UpAt l expiry r.clock r
  pub lasts : deadline ≤ expiry
  pub near : deadline ≤ r.clock + proved_lifetime

unfoldable pub InTime : Link → ℕ → List Call → Relay → Tally → Type 0
InTime l deadline [] r t = Unit {0}
InTime l deadline (c ∷ cs) r t =
    (accepted c r ≡ true → fair l deadline c ≡ true)
    × InTime l (next_deadline r l deadline c (accepted c r)) cs (perform c r t).relay (perform c r t).tally

-- "each keepalive was forwarded": the relay was r and is r'
unfoldable pub CarriedIf : Link → Call → Bool → Relay → Reply → Relay → Type 0
CarriedIf l (packet a output) taken r reply r' = taken ≡ true → keeps_alive r l a ≡ true → Carried l a output reply r'
CarriedIf l (on_tables c) taken r reply r' = Unit {0}
CarriedIf l (asks q) taken r reply r' = Unit {0}
CarriedIf l (saves f room) taken r reply r' = Unit {0}
CarriedIf l (loads f file) taken r reply r' = Unit {0}

-- "the link is live and proved after every call": at the last clock that was accepted
abbrev pub IsUp : Link → Relay → Type 0
IsUp l r = (expiry : ℕ) × LivesAt l expiry r.clock r

unfoldable pub Lasts : Link → List Call → Relay → Tally → Type 0
Lasts l [] r t = Unit {0}
Lasts l (c ∷ cs) r t =
    CarriedIf l c (accepted c r) r (perform c r t).reply (perform c r t).relay
    × IsUp l (perform c r t).relay
    × Lasts l cs (perform c r t).relay (perform c r t).tally
