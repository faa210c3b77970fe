-- Wish 5's theorems on announces of one destination, with a target interval and without: what each call gives is what the rules make of it.
use Prim.Native.Nat.{ℕ, ◌+◌, ◌≤◌}
use mathlib.Core.Bool.{true, false}
use mathlib.Core.List.{List, [], ◌∷◌, ◌++◌}
use mathlib.Core.Path.{◌≡◌, refl, sym, subst, ◌∙◌}
use lib.Dec.{lit≤}
use lib.ListN.{length, replicate}
use Rattle.octets.specs.Index.{◌and◌}
use Rattle.octets.specs.Choice.{same}
use Rattle.octets.proofs.Index.{and_both}
use Rattle.packet.specs.Hash.{packet_hash}
use Rattle.numbers.specs.Numbers.{blob_limit, hash_count, live}
use Rattle.notes.specs.Notes.{no_notes}
use Rattle.rules.specs.Relay.{make_rate_settings, make_rate_entry, Slot, empty, used, Blobs, Path, Remembered, Relay, fresh, with_rate}
use Rattle.rules.specs.Blobs.{no_blob, add_blob}
use Rattle.rules.specs.View.{View, view_at}
use Rattle.rules.specs.Refusals.{packet_refusal}
use Rattle.rules.specs.Arrival.{Arrival}
use Rattle.rules.specs.Ways.{everywhere}
use Rattle.rules.specs.Tests.{bad_form}
use Rattle.rules.specs.Calls.{new_tally}
use Rattle.rules.specs.Run.{Call, port_setting, rate_setting, Reply, numbered, Outcome, of_judgement, perform}
use Rattle.rules.specs.Chatty.{RateDrop, WhileBlocked, OnTime, rate_is_made, reaches_rate, SpacedCall, Spaced}
use Rattle.rules.specs.declared.RateSettings.{RateSettings}
use Rattle.rules.specs.declared.RateEntry.{RateEntry}
use Rattle.rules.specs.declared.Tally.{Tally}
use Rattle.rules.proofs.Unfolding.{rules, hashing}
use Rattle.rules.proofs.Shortcut.{passes, seen_quick, good_plan, plan_good, good_judge}
use Rattle.rules.proofs.Passed.{of_test}
use Rattle.rules.proofs.Scene.{own, blank, blob_with, announce_body, destination, announce_with, arrival, arrives}
use Rattle.rules.proofs.Outcomes.{spreads, relay_of, remembers, prepared_relay, judged_at}
use Rattle.rules.proofs.Slots.{used_same, used_not_empty}
use Rattle.rules.proofs.ChattyPlan.{follows_reached}

-- ---- the announces: each emitted a second after the one before
abbrev emitted : ℕ → List ℕ
emitted k = 0x00 ∷ 0x65 ∷ 0x53 ∷ 0xf1 ∷ k ∷ []

abbrev pub sent : ℕ → List ℕ
sent k = announce_with (emitted k)

-- one comes in by port 1 at a clock
abbrev pub hears : ℕ → ℕ → Call
hears k clock = arrives (sent k) clock 1

-- .. and is spread to port 2
abbrev pub spread_of : ℕ → Reply
spread_of k = spreads (0x71 ∷ 1 ∷ (own ++ (destination ++ (0x00 ∷ announce_body (emitted k))))) 2

pub form : (k : ℕ) → bad_form (sent k) ≡ false
unfolding rules hashing
form k = refl

-- ---- relays: the path of the announces that were accepted, and the hashes of those that were heard
-- the blobs of announces that came one after the other
abbrev stored : Blobs → List ℕ → Blobs
stored blobs [] = blobs
stored blobs (k ∷ ks) = stored (add_blob blob_limit (blob_with (emitted k)) blobs) ks

abbrev blobs_of : List ℕ → Blobs
blobs_of ks = stored (record { count = 0; places = replicate blob_limit no_blob }) ks

abbrev pub path_of : ℕ → RateEntry → List ℕ → Path
path_of expiry rate ks =
    record { destination = destination; port = 1; hops = 0; next_hop = destination; expiry = expiry; rate = rate; notes = no_notes; blobs = blobs_of ks }

abbrev pub counting : (dropped spread : ℕ) → Tally
counting dropped spread = record { total = dropped + spread; dropped = dropped; delivered = 0; forwarded = 0; spread = spread; kept = 0 }

abbrev pub heard_relay : RateSettings → ℕ → Path → List (Slot Remembered) → Relay
heard_relay s clock p hashes = with_rate s (relay_of clock (used p ∷ []) [] [] hashes)

-- a packet that is new and isn't refused is judged
pub hear : (k clock : ℕ) (r : Relay) (t : Tally) → length r.hashes.slots ≡ hash_count
    → passes (λ m. live clock m.expiry and same m.hash (packet_hash (sent k))) r.hashes.slots ≡ false
    → packet_refusal r (arrival (sent k) clock 1) (length blank) ≡ 0
    → perform (hears k clock) r t ≡ of_judgement (good_judge false (arrival (sent k) clock 1) r t blank)
hear k clock r t whole new accepted = judged_at (sent k) clock r t (seen_quick clock r (packet_hash (sent k)) whole ∙ new) (form k) 1 accepted

-- ---- the ports on, and then these settings
abbrev pub one_port : Relay
one_port = (perform (port_setting 1 true 2 500) (fresh own) new_tally).relay

pub port_one : perform (port_setting 1 true 2 500) (fresh own) new_tally ≡ record { reply = numbered 0; relay = one_port; tally = new_tally }
unfolding rules
port_one = refl

pub port_two : perform (port_setting 2 true 0 500) one_port new_tally ≡ record { reply = numbered 0; relay = prepared_relay; tally = new_tally }
unfolding rules
port_two = refl

abbrev pub new_relay : RateSettings → Relay
new_relay s = with_rate s prepared_relay

-- they are accepted, and those after them, with a target above the bound, are not
pub record Set (s : RateSettings) : Type 0 where
  pub accepted : perform (rate_setting s.target s.grace s.penalty) prepared_relay new_tally
      ≡ record { reply = numbered 0; relay = new_relay s; tally = new_tally }
  pub refused : perform (rate_setting 86401 0 0) (new_relay s) new_tally ≡ record { reply = numbered 9; relay = new_relay s; tally = new_tally }

-- ---- target interval 1,000 s, grace 0, penalty 600 s: the second announce, 400 s after the first, is one too many
abbrev pub strict : RateSettings
strict = make_rate_settings 1000 0 600

pub strict_set : Set strict
unfolding rules
strict_set = record { accepted = refl; refused = refl }

abbrev pub heard_once : Relay
heard_once = heard_relay strict 1000 (path_of 22600 (make_rate_entry 1000 0 0) (1 ∷ [])) (remembers (sent 1) 1300 ∷ [])

-- until 1,000 + 1,000 + 600
abbrev pub blocked_path : Path
blocked_path = path_of 22600 (make_rate_entry 1000 1 2600) (1 ∷ [])

abbrev pub blocked_relay : Relay
blocked_relay = heard_relay strict 1400 blocked_path (remembers (sent 1) 1300 ∷ remembers (sent 2) 1700 ∷ [])

-- no path changes
abbrev pub still_blocked : Relay
still_blocked = heard_relay strict 1800 blocked_path (remembers (sent 1) 1300 ∷ remembers (sent 2) 1700 ∷ remembers (sent 3) 2100 ∷ [])

-- the violation is forgiven
abbrev pub forgiven_path : Path
forgiven_path = path_of 24200 (make_rate_entry 2600 0 2600) (1 ∷ 4 ∷ [])

abbrev pub forgiven_relay : Relay
forgiven_relay =
    heard_relay strict 2600 forgiven_path
    (remembers (sent 1) 1300 ∷ remembers (sent 2) 1700 ∷ remembers (sent 3) 2100 ∷ remembers (sent 4) 2900 ∷ [])

pub first_heard : perform (hears 1 1000) (new_relay strict) new_tally ≡ record { reply = spread_of 1; relay = heard_once; tally = counting 0 1 }
unfolding rules passes good_plan good_judge of_test
first_heard = hear 1 1000 (new_relay strict) new_tally refl refl refl

pub second_dropped : perform (hears 2 1400) heard_once (counting 0 1) ≡ record { reply = RateDrop blank; relay = blocked_relay; tally = counting 1 1 }
unfolding rules passes good_plan good_judge of_test
second_dropped = hear 2 1400 heard_once (counting 0 1) refl refl refl

pub third_dropped : perform (hears 3 1800) blocked_relay (counting 1 1) ≡ record { reply = RateDrop blank; relay = still_blocked; tally = counting 2 1 }
unfolding rules passes good_plan good_judge of_test
third_dropped = hear 3 1800 blocked_relay (counting 1 1) refl refl refl

pub fourth_heard : perform (hears 4 2600) still_blocked (counting 2 1) ≡ record { reply = spread_of 4; relay = forgiven_relay; tally = counting 2 2 }
unfolding rules passes good_plan good_judge of_test
fourth_heard = hear 4 2600 still_blocked (counting 2 1) refl refl refl

-- the third came while the path was blocked, the fourth at the clock until which it was
pub while_blocked : WhileBlocked blocked_path (arrival (sent 3) 1800 1) blocked_relay
unfolding rules
while_blocked = record { announce = refl; live = refl; unmarked = refl; blocked = lit≤ tt }

pub on_time : OnTime blocked_path (arrival (sent 4) 2600 1) still_blocked
unfolding rules
on_time = record { announce = refl; live = refl; free = lit≤ tt; spaced = lit≤ tt }

pub fourth_reaches : reaches_rate (arrival (sent 4) 2600 1) (length blank) still_blocked ≡ true
unfolding rules passes good_plan of_test reaches_rate rate_is_made
fourth_reaches =
    let a : Arrival = arrival (sent 4) 2600 1 in
    let v : View = view_at 2600 still_blocked in
    and_both refl
    (and_both refl
    (follows_reached v a (everywhere (used blocked_path)) (plan_good v a (seen_quick 2600 still_blocked (packet_hash (sent 4)) refl) (form 4))))

-- ---- target interval 0 or 300 s: the announces come every 300 s, and all are spread
module _ (target : ℕ) where
  abbrev pub mild : RateSettings
  mild = make_rate_settings target 0 600

  abbrev pub once : Relay
  once = heard_relay mild 1000 (path_of 22600 (make_rate_entry 1000 0 0) (1 ∷ [])) (remembers (sent 1) 1300 ∷ [])

  abbrev pub twice : Relay
  twice = heard_relay mild 1300 (path_of 22900 (make_rate_entry 1300 0 0) (1 ∷ 2 ∷ [])) (remembers (sent 1) 1300 ∷ remembers (sent 2) 1600 ∷ [])

  abbrev pub thrice : Relay
  thrice =
      heard_relay mild 1600 (path_of 23200 (make_rate_entry 1600 0 0) (1 ∷ 2 ∷ 3 ∷ []))
      (remembers (sent 1) 1300 ∷ remembers (sent 2) 1600 ∷ remembers (sent 3) 1900 ∷ [])

  pub record AllHeard : Type 0 where
    pub set : Set mild
    pub one : perform (hears 1 1000) (new_relay mild) new_tally ≡ record { reply = spread_of 1; relay = once; tally = counting 0 1 }
    pub two : perform (hears 2 1300) once (counting 0 1) ≡ record { reply = spread_of 2; relay = twice; tally = counting 0 2 }
    pub three : perform (hears 3 1600) twice (counting 0 2) ≡ record { reply = spread_of 3; relay = thrice; tally = counting 0 3 }

pub all_without : AllHeard 0
unfolding rules passes good_plan good_judge of_test
all_without =
    record {
      set = record { accepted = refl; refused = refl };
      one = hear 1 1000 (new_relay (mild 0)) new_tally refl refl refl;
      two = hear 2 1300 (once 0) (counting 0 1) refl refl refl;
      three = hear 3 1600 (twice 0) (counting 0 2) refl refl refl;
    }

pub all_spaced : AllHeard 300
unfolding rules passes good_plan good_judge of_test
all_spaced =
    record {
      set = record { accepted = refl; refused = refl };
      one = hear 1 1000 (new_relay (mild 300)) new_tally refl refl refl;
      two = hear 2 1300 (once 300) (counting 0 1) refl refl refl;
      three = hear 3 1600 (twice 300) (counting 0 2) refl refl refl;
    }

-- ---- with the target 300 they keep the interval
abbrev pub calls : ℕ → List Call
calls target =
    port_setting 1 true 2 500 ∷ port_setting 2 true 0 500 ∷ rate_setting target 0 600 ∷ rate_setting 86401 0 0
    ∷ hears 1 1000 ∷ hears 2 1300 ∷ hears 3 1600 ∷ []

record Spacing (cs : List Call) (r : Relay) (t : Tally) : Type 0 where
  is_spaced : Spaced destination cs r t

no_calls : {r : Relay} {t : Tally} → Spacing [] r t
unfolding Spaced
no_calls = record { is_spaced = tt }

-- a call, and those after it
spacing : {c : Call} {cs : List Call} {r between : Relay} {t counts : Tally} {reply : Reply}
    → perform c r t ≡ record { reply = reply; relay = between; tally = counts } → SpacedCall destination c r → Spacing cs between counts → Spacing (c ∷ cs) r t
unfolding Spaced
spacing {c} {cs} done this rest =
    record { is_spaced = (this, subst (λ (o : Outcome). Spaced destination cs o.relay o.tally) (sym done) rest.is_spaced) }

-- the destination's path at the clock is this one, or there is none
known_spaced : (k clock : ℕ) (r : Relay) (p : Path) → (view_at clock r).path destination ≡ used p → p.rate.last + r.rate.target ≤ clock
    → SpacedCall destination (hears k clock) r
known_spaced k clock r p shown l q announce is known reach =
    subst (λ (x : Path). x.rate.last + r.rate.target ≤ clock) (used_same (sym shown ∙ known)) l

new_spaced : (k clock : ℕ) (r : Relay) → (view_at clock r).path destination ≡ empty → SpacedCall destination (hears k clock) r
new_spaced k clock r none q announce is known reach = absurd (used_not_empty (sym none ∙ known))

spaced_two : SpacedCall destination (hears 2 1300) (once 300)
unfolding rules
spaced_two = known_spaced 2 1300 (once 300) (path_of 22600 (make_rate_entry 1000 0 0) (1 ∷ [])) refl (lit≤ tt)

spaced_three : SpacedCall destination (hears 3 1600) (twice 300)
unfolding rules
spaced_three = known_spaced 3 1600 (twice 300) (path_of 22900 (make_rate_entry 1300 0 0) (1 ∷ 2 ∷ [])) refl (lit≤ tt)

spaced_one : SpacedCall destination (hears 1 1000) (new_relay (mild 300))
unfolding rules
spaced_one = new_spaced 1 1000 (new_relay (mild 300)) refl

pub calls_spaced : Spaced destination (calls 300) (fresh own) new_tally
calls_spaced =
    let h : AllHeard 300 = all_spaced in
    (spacing port_one tt
    (spacing port_two tt
    (spacing h.set.accepted tt
    (spacing h.set.refused tt
    (spacing h.one spaced_one (spacing h.two spaced_two (spacing h.three spaced_three no_calls))))))).is_spaced
