-- Document 01, "Edges": those that are to be proved, as one table with one theorem. A row's left side is the rules' own reading, step or
-- liveness, on the packets and the run of Scene; its right side is what document 01 says.
use Prim.Native.Nat.{ℕ}
use mathlib.Core.Bool.{Bool, true, false}
use mathlib.Core.List.{List, [], ◌∷◌}
use mathlib.Core.Path.{◌≡◌, refl, ap, ◌∙◌}
use lib.ListN.{length, replicate}
use Rattle.octets.proofs.Choice.{eq_same}
use Rattle.packet.specs.Read.{header_of, longest_packet, no_address, no_parts, reading}
use Rattle.packet.specs.Hash.{packet_hash}
use Rattle.packet.specs.Announce.{emission_of}
use Rattle.packet.specs.declared.Parts.{Parts}
use Rattle.packet.specs.Read.{Reading}
use Rattle.rules.specs.Relay.{empty, used}
use Rattle.rules.specs.View.{view_at}
use Rattle.rules.specs.Refusals.{packet_refusal}
use Rattle.rules.specs.Arrival.{blob}
use Rattle.rules.specs.Run.{Reply, answered, numbered, told, saved, unsaved, Outcome, of_judgement}
use Rattle.rules.specs.declared.Reason.TheVariants.{Duplicate, Replay}
use Rattle.rules.specs.declared.Verdict.TheVariants.{Drop}
use Rattle.rules.specs.declared.Answer.TheVariants.{Judged}
use Rattle.rules.proofs.Unfolding.{rules}
use Rattle.rules.proofs.Shortcut.{passes, seen_quick, good_plan, good_judge}
use Rattle.rules.proofs.Passed.{of_test}
use Rattle.rules.proofs.Scene.{blank, destination, announce_with, announce_bytes, request_bytes, arrival, arrives, next, announced, asked}
use Rattle.rules.proofs.Outcomes.{known_path, tally_of, announced_relay, judged_at, announce_form, announced_is, asked_is}

-- a row: what the rules say, and what document 01 says
pub record Edge : Type 1 where
  pub Value : Type 0
  pub rules : Value
  pub document : Value

infix 10 ◌is◌
abbrev pub ◌is◌ : {A : Type 0} → A → A → Edge
◌is◌ {A} x y = record { Value = A; rules = x; document = y }

-- ---- the table
abbrev refused : ℕ → Reading
refused number = record { refusal = number; parts = no_parts }

abbrev read : Parts → Reading
read parts = record { refusal = 0; parts = parts }

-- the parts of a packet of bytes 11 behind its header
abbrev elevens : ℕ → List ℕ → Parts
elevens header relay = record { header = header; hops = 0x11; relay = relay; destination = replicate 16 0x11; context = 0x11 }

-- the header that came in, and the one that left
abbrev headers : List ℕ → Reply → List ℕ
headers bytes (answered answer output) = header_of bytes ∷ header_of output ∷ []
headers bytes (numbered refusal) = []
headers bytes (told x) = []
headers bytes (saved r t room) = []
headers bytes (unsaved refusal room) = []

abbrev pub table : List Edge
table =
    -- 18 bytes: refusal 1
    (reading longest_packet (0x00 ∷ replicate 17 0x11) is refused 1)
    -- 19 of header 00: read
    ∷ (reading longest_packet (0x00 ∷ replicate 18 0x11) is read (elevens 0x00 no_address))
    -- 34 of 40: refusal 1
    ∷ (reading longest_packet (0x40 ∷ replicate 33 0x11) is refused 1)
    -- 35: read
    ∷ (reading longest_packet (0x40 ∷ replicate 34 0x11) is read (elevens 0x40 (replicate 16 0x11)))
    -- 500 read
    ∷ (reading longest_packet (0x00 ∷ replicate 499 0x11) is read (elevens 0x00 no_address))
    -- 501 refusal 2
    ∷ (reading longest_packet (0x00 ∷ replicate 500 0x11) is refused 2)
    -- 80, 19 bytes: refusal 3
    ∷ (reading longest_packet (0x80 ∷ replicate 18 0x11) is refused 3)
    -- emission 00 65 53 f1 00 is 1,700,000,000
    ∷ (emission_of (blob (arrival (announce_with (0x00 ∷ 0x65 ∷ 0x53 ∷ 0xf1 ∷ 0x00 ∷ [])) 1000 1)) is 1_700_000_000)
    -- announce at 1,000, roaming: live at 22,599
    ∷ ((view_at 22599 announced.relay).path destination is used known_path)
    -- not at 22,600
    ∷ ((view_at 22600 announced.relay).path destination is empty)
    -- hash at 1,000: duplicate at 1,299
    ∷ ((next (arrives announce_bytes 1299 1) announced).reply is answered (Judged (Drop Duplicate)) blank)
    -- not at 1,300: the tests go on, and test 10 finds the announce's blob
    ∷ ((next (arrives announce_bytes 1300 1) announced).reply is answered (Judged (Drop Replay)) blank)
    -- header 52 on the last hop leaves as 02
    ∷ (headers request_bytes asked.reply is 0x52 ∷ 0x02 ∷ [])
    -- header 21 spreads as 71
    ∷ (headers announce_bytes announced.reply is 0x21 ∷ 0x71 ∷ [])
    ∷ []

-- every row holds
infixr 5 ◌also◌
pub data Hold : List Edge → Type 1 where
  no_more : Hold []
  ◌also◌ : {e : Edge} {es : List Edge} → e.rules ≡ e.document → Hold es → Hold (e ∷ es)

-- ---- the announce once more
seen_at_1299 : (view_at 1299 announced_relay).remembered (packet_hash announce_bytes) ≡ true
unfolding rules passes
seen_at_1299 = seen_quick 1299 announced_relay (packet_hash announce_bytes) refl ∙ rw (eq_same (packet_hash announce_bytes) (packet_hash announce_bytes) refl)

unseen_at_1300 : (view_at 1300 announced_relay).remembered (packet_hash announce_bytes) ≡ false
unfolding rules passes
unseen_at_1300 = seen_quick 1300 announced_relay (packet_hash announce_bytes) refl

again : (clock : ℕ) {seen : Bool} → (view_at clock announced_relay).remembered (packet_hash announce_bytes) ≡ seen
    → packet_refusal announced_relay (arrival announce_bytes clock 1) (length blank) ≡ 0
    → next (arrives announce_bytes clock 1) announced ≡ of_judgement (good_judge seen (arrival announce_bytes clock 1) announced_relay (tally_of 1 0) blank)
again clock s accepted =
    ap (next (arrives announce_bytes clock 1)) announced_is
    ∙ judged_at announce_bytes clock announced_relay (tally_of 1 0) s announce_form 1 accepted

pub edges : Hold table
unfolding rules good_plan good_judge of_test
edges =
    refl
    also refl
    also refl
    also refl
    also refl
    also refl
    also refl
    also refl
    also ap (λ (o : Outcome). (view_at 22599 o.relay).path destination) announced_is
    also ap (λ (o : Outcome). (view_at 22600 o.relay).path destination) announced_is
    also ap (λ (o : Outcome). o.reply) (again 1299 seen_at_1299 refl)
    also ap (λ (o : Outcome). o.reply) (again 1300 unseen_at_1300 refl)
    also ap (λ (o : Outcome). headers request_bytes o.reply) asked_is
    also ap (λ (o : Outcome). headers announce_bytes o.reply) announced_is
    also no_more
