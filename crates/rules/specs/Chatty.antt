-- Document 02, wish 5, what was wanted: what test 15 leaves alone, and what it does to a destination that announces too often. (a) and (d) are said of every
-- list of calls from fresh with no load, (b) and (c) of one packet and every relay. Proved in proofs/Chatty*.antt; that the rule keeps row 7's bounds is
-- `accepted_rate_ok` and `dropped_rate_ok` of proofs/Ranges.antt.
use Rattle.std.specs.Prelude.{ℕ, ◌+◌, ◌-◌, ◌≤◌, ◌<◌, Bool, true, false, List, [], ◌∷◌, ◌≡◌, eqb, length, get_or}
use Rattle.octets.specs.Index.{◌and◌}
use Rattle.octets.specs.Choice.{◌then◌otherwise◌}
use Rattle.octets.specs.Listed.{Test, ◌gives◌otherwise◌, first_of}
use Rattle.packet.specs.Header.{is_announce}
use Rattle.rules.specs.Relay.{empty, used, Path, Relay, fresh}
use Rattle.rules.specs.View.{View, view_at}
use Rattle.rules.specs.Refusals.{packet_refusal}
use Rattle.rules.specs.Arrival.{Arrival, header, destination}
use Rattle.rules.specs.Ways.{way_on}
use Rattle.rules.specs.Tests.{of_known}
use Rattle.rules.specs.Judging.{Plan, follows, early_tests, onward_tests}
use Rattle.rules.specs.Calls.{new_tally, Judgement, judged, packet_call, sets_port, sets_rate, adds, removes, renumbers, notes_path}
use Rattle.rules.specs.Questions.{of_test}
use Rattle.rules.specs.Run.{Call, packet, on_tables, asks, saves, loads, Reply, answered, numbered, Outcome, of_judgement, perform, replies, none_loads}
use Rattle.rules.specs.declared.Tally.{Tally}
use Rattle.rules.specs.declared.Answer.TheVariants.{Judged}
use Rattle.rules.specs.declared.Reason.TheVariants.{RateLimited}
use Rattle.rules.specs.declared.Verdict.TheVariants.{Drop}

-- ---- the rules with what test 15 says given
unfoldable pub rate_says : Bool → List (Test Plan) → List (Test Plan)
rate_says b [] = []
rate_says b (t ∷ ts) = (of_test 15 t.value then b otherwise t.holds) gives t.value otherwise rate_says b ts

unfoldable pub plan_if : Bool → View → Arrival → Plan
plan_if b v a = first_of (early_tests v a) (first_of (rate_says b (onward_tests v a (way_on v a))) (follows (way_on v a)))

-- "the rules without test 15": it never holds
unfoldable pub packet_call_without : Arrival → Relay → Tally → List ℕ → Judgement
packet_call_without a r t output =
    eqb (packet_refusal r a (length output)) 0
    then judged a (plan_if false (view_at a.clock r) a) (view_at a.clock r) r t output
    otherwise packet_call a r t output

unfoldable pub perform_without : Call → Relay → Tally → Outcome
perform_without (packet a output) r t = of_judgement (packet_call_without a r t output)
perform_without (on_tables c) r t = perform (on_tables c) r t
perform_without (asks q) r t = perform (asks q) r t
perform_without (saves f room) r t = perform (saves f room) r t
perform_without (loads f file) r t = perform (loads f file) r t

unfoldable pub replies_without : List Call → Relay → Tally → List Reply
replies_without [] r t = []
replies_without (c ∷ cs) r t = (perform_without c r t).reply ∷ replies_without cs (perform_without c r t).relay (perform_without c r t).tally

-- dropped by test 15
abbrev pub RateDrop : List ℕ → Reply
RateDrop output = answered (Judged (Drop RateLimited)) output

-- a reply that says otherwise, whatever the output
abbrev pub NoRateDrop : Reply → Type 0
NoRateDrop reply = (output : List ℕ) → reply ≡ RateDrop output → ⊥

unfoldable pub NoneRateDrop : List Reply → Type 0
NoneRateDrop [] = Unit {0}
NoneRateDrop (x ∷ xs) = NoRateDrop x × NoneRateDrop xs

-- ---- (a) "over every list of calls from fresh with no load in which no accepted rate setting has a target above 0"
unfoldable pub target_of : Call → ℕ
target_of (packet a output) = 0
target_of (on_tables (sets_port port on mode size)) = 0
target_of (on_tables (sets_rate target grace penalty)) = target
target_of (on_tables (adds address)) = 0
target_of (on_tables (removes address)) = 0
target_of (on_tables (renumbers images)) = 0
target_of (on_tables (notes_path note destination clock)) = 0
target_of (asks q) = 0
target_of (saves f room) = 0
target_of (loads f file) = 0

-- by what each call replied
unfoldable pub NoTarget : List Call → List Reply → Type 0
NoTarget [] said = Unit {0}
NoTarget (c ∷ cs) [] = Unit {0}
NoTarget (c ∷ cs) (x ∷ said) = (x ≡ numbered 0 → target_of c ≡ 0) × NoTarget cs said

-- "no packet is dropped by 15, and every answer is the one that the rules without test 15 give"
pub record RateOff (cs : List Call) (r : Relay) (t : Tally) (said : List Reply) : Type 0 where
  pub none_dropped : NoneRateDrop said
  pub without : said ≡ replies_without cs r t

abbrev pub OffWithoutTarget : Type 0
OffWithoutTarget =
    (own : List ℕ) (cs : List Call) → none_loads cs ≡ true → NoTarget cs (replies cs (fresh own) new_tally)
    → RateOff cs (fresh own) new_tally (replies cs (fresh own) new_tally)

-- ---- (b) "an announce for a live path at clock < blocked-until changes nothing in the record (from request 6 on: an unmarked one)"
pub record WhileBlocked (p : Path) (a : Arrival) (r : Relay) : Type 0 where
  pub announce : is_announce (header a) ≡ true
  pub live : (view_at a.clock r).path (destination a) ≡ used p
  pub unmarked : p.notes.marked ≡ false
  pub blocked : a.clock < p.rate.blocked_until

-- nor in any other path's
abbrev pub PathsStay : Relay → Relay → Type 0
PathsStay r r' = r'.paths ≡ r.paths

abbrev pub BlockedStays : Type 0
BlockedStays =
    (p : Path) (a : Arrival) (output : List ℕ) (r : Relay) (t : Tally) → WhileBlocked p a r → PathsStay r (perform (packet a output) r t).relay

-- ---- (c) "from a live path with clock >= blocked-until and clock >= last + target, 15 doesn't drop, and one violation, if any, is forgiven"
pub record OnTime (p : Path) (a : Arrival) (r : Relay) : Type 0 where
  pub announce : is_announce (header a) ≡ true
  pub live : (view_at a.clock r).path (destination a) ≡ used p
  pub free : p.rate.blocked_until ≤ a.clock
  pub spaced : p.rate.last + r.rate.target ≤ a.clock

pub record Forgiven (p p' : Path) (a : Arrival) : Type 0 where
  pub last : p'.rate.last ≡ a.clock
  pub violations : p'.rate.violations ≡ p.rate.violations - 1
  pub stays : p'.rate.blocked_until ≡ p.rate.blocked_until

-- test 15 is made: of an announce for a known path, and wish 6 doesn't leave it out
unfoldable pub rate_is_made : View → Arrival → Bool
rate_is_made v a = of_known a (λ p. true) (way_on v a)

-- a packet reaches test 15 if it is made of it, and would drop it, were it to hold
unfoldable pub reaches_rate : Arrival → ℕ → Relay → Bool
reaches_rate a room r =
    eqb (packet_refusal r a room) 0
    and rate_is_made (view_at a.clock r) a
    and of_test 15 (plan_if true (view_at a.clock r) a)

-- an announce of a known path that gets past test 15 is accepted
pub record LetBy (p : Path) (a : Arrival) (output : List ℕ) (r : Relay) (reply : Reply) (r' : Relay) : Type 0 where
  pub not_dropped : NoRateDrop reply
  pub forgiven : reaches_rate a (length output) r ≡ true
      → (p' : Path) × ((view_at a.clock r').path (destination a) ≡ used p') × Forgiven p p' a

abbrev pub OnTimeLetBy : Type 0
OnTimeLetBy =
    (p : Path) (a : Arrival) (output : List ℕ) (r : Relay) (t : Tally) → OnTime p a r
    → LetBy p a output r (perform (packet a output) r t).reply (perform (packet a output) r t).relay

-- ---- (d) "over every list from fresh with no load: if each announce for a destination that reaches test 15 comes at last + target or later, by the
-- target set then"
abbrev pub SpacedCall : List ℕ → Call → Relay → Type 0
SpacedCall d (packet a output) r =
    (p : Path) → is_announce (header a) ≡ true → destination a ≡ d → (view_at a.clock r).path d ≡ used p → reaches_rate a (length output) r ≡ true
    → p.rate.last + r.rate.target ≤ a.clock
SpacedCall d (on_tables c) r = Unit {0}
SpacedCall d (asks q) r = Unit {0}
SpacedCall d (saves f room) r = Unit {0}
SpacedCall d (loads f file) r = Unit {0}

unfoldable pub Spaced : List ℕ → List Call → Relay → Tally → Type 0
Spaced d [] r t = Unit {0}
Spaced d (c ∷ cs) r t = SpacedCall d c r × Spaced d cs (perform c r t).relay (perform c r t).tally

-- "its blocked-until stays 0", in whichever slot, live or expired
abbrev pub NotBlocked : List ℕ → Relay → Type 0
NotBlocked d r = (i : ℕ) (p : Path) → get_or r.paths i empty ≡ used p → p.destination ≡ d → p.rate.blocked_until ≡ 0

-- "and none is dropped by 15"
abbrev pub NotDropped : List ℕ → Call → Reply → Type 0
NotDropped d (packet a output) reply = is_announce (header a) ≡ true → destination a ≡ d → NoRateDrop reply
NotDropped d (on_tables c) reply = Unit {0}
NotDropped d (asks q) reply = Unit {0}
NotDropped d (saves f room) reply = Unit {0}
NotDropped d (loads f file) reply = Unit {0}

unfoldable pub NeverBlocked : List ℕ → List Call → Relay → Tally → Type 0
NeverBlocked d [] r t = Unit {0}
NeverBlocked d (c ∷ cs) r t =
    NotDropped d c (perform c r t).reply
    × NotBlocked d (perform c r t).relay
    × NeverBlocked d cs (perform c r t).relay (perform c r t).tally

abbrev pub SpacedNeverBlocked : Type 0
SpacedNeverBlocked =
    (own d : List ℕ) (cs : List Call) → none_loads cs ≡ true → Spaced d cs (fresh own) new_tally → NeverBlocked d cs (fresh own) new_tally
