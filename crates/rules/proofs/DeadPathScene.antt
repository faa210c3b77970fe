-- Wish 6's theorems on one destination's announces, with a target interval of 1,000 s: the one that made the path comes again, is a duplicate, and revives the
-- path once that is marked; then, marked again and blocked, the path is left by an older announce and by data as it is, and revived once more.
use Prim.Native.Nat.{ℕ, ◌+◌}
use mathlib.Core.Bool.{true, false}
use mathlib.Core.List.{List, [], ◌∷◌}
use mathlib.Core.Path.{◌≡◌, refl, ap, ◌∙◌}
use lib.Dec.{lit≤}
use lib.ListN.{replicate}
use Rattle.octets.proofs.Choice.{eq_same}
use Rattle.packet.specs.Hash.{packet_hash}
use Rattle.rules.specs.Relay.{make_rate_entry, make_return, Slot, used, Path, Return, Remembered, Relay, with_rate}
use Rattle.rules.specs.View.{view_at}
use Rattle.rules.specs.Calls.{new_tally}
use Rattle.rules.specs.Chatty.{RateDrop}
use Rattle.rules.specs.Run.{marking, answered, numbered, Outcome, perform}
use Rattle.rules.specs.DeadPaths.{NewEnough}
use Rattle.rules.specs.declared.Tally.{Tally}
use Rattle.rules.specs.declared.Answer.TheVariants.{Refused, Judged}
use Rattle.rules.specs.declared.Reason.TheVariants.{Duplicate, NotBetter}
use Rattle.rules.specs.declared.Verdict.TheVariants.{Drop}
use Rattle.rules.proofs.Noted.{with_path_mark}
use Rattle.rules.proofs.Unfolding.{rules}
use Rattle.rules.proofs.Shortcut.{passes, seen_quick, good_plan, good_judge}
use Rattle.rules.proofs.Passed.{of_test}
use Rattle.rules.proofs.Scene.{blank, destination, data_bytes, data_key, arrival, arrives}
use Rattle.rules.proofs.Outcomes.{forwards, data_last_hop, relay_of, remembers, judged_at, data_key_lem}
use Rattle.rules.proofs.ChattyScene.{sent, hears, spread_of, form, hear, path_of, strict, new_relay}

-- a destination that never announced
abbrev pub stranger : List ℕ
stranger = replicate 16 0x0c

abbrev pub counting : (dropped forwarded spread : ℕ) → Tally
counting dropped forwarded spread =
    record { total = dropped + forwarded + spread; dropped = dropped; delivered = 0; forwarded = forwarded; spread = spread; kept = 0 }

abbrev at : ℕ → Path → List (Slot Return) → List (Slot Remembered) → Relay
at clock p returns hashes = with_rate strict (relay_of clock (used p ∷ []) [] returns hashes)

-- ---- the first mark
abbrev pub one_path : Path
one_path = path_of 22600 (make_rate_entry 1000 0 0) (2 ∷ [])

abbrev pub heard_relay : Relay
heard_relay = at 1000 one_path [] (remembers (sent 2) 1300 ∷ [])

abbrev pub heard_again : Relay
heard_again = at 1100 one_path [] (remembers (sent 2) 1300 ∷ [])

abbrev pub marked_relay : Relay
marked_relay = at 1200 (with_path_mark one_path) [] (remembers (sent 2) 1300 ∷ [])

-- the hash is live, so it is not remembered anew, and the blob is not stored twice
abbrev pub revived_relay : Relay
revived_relay = at 1250 (path_of 22850 (make_rate_entry 1250 0 0) (2 ∷ [])) [] (remembers (sent 2) 1300 ∷ [])

pub first_heard : perform (hears 2 1000) (new_relay strict) new_tally ≡ record { reply = spread_of 2; relay = heard_relay; tally = counting 0 0 1 }
unfolding rules passes good_plan good_judge of_test
first_heard = hear 2 1000 (new_relay strict) new_tally refl refl refl

-- its hash is live until 1,300
again_at_1100 : (view_at 1100 heard_relay).remembered (packet_hash (sent 2)) ≡ true
unfolding rules passes
again_at_1100 = seen_quick 1100 heard_relay (packet_hash (sent 2)) refl ∙ rw (eq_same (packet_hash (sent 2)) (packet_hash (sent 2)) refl)

again_at_1250 : (view_at 1250 marked_relay).remembered (packet_hash (sent 2)) ≡ true
unfolding rules passes
again_at_1250 = seen_quick 1250 marked_relay (packet_hash (sent 2)) refl ∙ rw (eq_same (packet_hash (sent 2)) (packet_hash (sent 2)) refl)

pub again_dropped : perform (hears 2 1100) heard_relay (counting 0 0 1)
    ≡ record { reply = answered (Judged (Drop Duplicate)) blank; relay = heard_again; tally = counting 1 0 1 }
unfolding rules good_plan good_judge of_test
again_dropped = judged_at (sent 2) 1100 heard_relay (counting 0 0 1) again_at_1100 (form 2) 1 refl

-- 12, and 5
pub no_path_lem : perform (marking stranger 1100) heard_again (counting 1 0 1)
    ≡ record { reply = numbered 12; relay = heard_again; tally = counting 1 0 1 }
unfolding rules
no_path_lem = refl

pub early_mark : perform (marking destination 1099) heard_again (counting 1 0 1)
    ≡ record { reply = numbered 5; relay = heard_again; tally = counting 1 0 1 }
unfolding rules
early_mark = refl

pub marked : perform (marking destination 1200) heard_again (counting 1 0 1)
    ≡ record { reply = numbered 0; relay = marked_relay; tally = counting 1 0 1 }
unfolding rules
marked = refl

-- the mark has set the last clock: 5
pub early_refused : perform (hears 2 1199) marked_relay (counting 1 0 1)
    ≡ record { reply = answered (Refused 5) blank; relay = marked_relay; tally = counting 1 0 1 }
unfolding rules
early_refused = refl

pub revived : perform (hears 2 1250) marked_relay (counting 1 0 1) ≡ record { reply = spread_of 2; relay = revived_relay; tally = counting 1 0 2 }
unfolding rules good_plan good_judge of_test
revived = judged_at (sent 2) 1250 marked_relay (counting 1 0 1) again_at_1250 (form 2) 1 refl

-- ---- the second mark, of a path that is blocked until 1,250 + 1,000 + 600
abbrev pub blocked_path : Path
blocked_path = path_of 22850 (make_rate_entry 1250 1 2850) (2 ∷ [])

abbrev pub blocked_relay : Relay
blocked_relay = at 1600 blocked_path [] (remembers (sent 2) 1300 ∷ remembers (sent 3) 1900 ∷ [])

abbrev pub marked_again : Relay
marked_again = at 1900 (with_path_mark blocked_path) [] (remembers (sent 2) 1300 ∷ remembers (sent 3) 1900 ∷ [])

abbrev pub still_marked : Relay
still_marked = at 1900 (with_path_mark blocked_path) [] (remembers (sent 2) 1300 ∷ remembers (sent 3) 1900 ∷ remembers (sent 1) 2200 ∷ [])

-- data goes by a marked path as by any other; 1,800 s
abbrev carried_relay : List ℕ → Relay
carried_relay key =
    at 2200 (with_path_mark blocked_path) (used (make_return key 2 1 4000) ∷ [])
    (remembers (sent 2) 1300 ∷ remembers (sent 3) 1900 ∷ remembers (sent 1) 2200 ∷ remembers data_bytes 2500 ∷ [])

abbrev pub carried_marked : Relay
carried_marked = carried_relay data_key

-- the block goes on
abbrev pub revived_again : Relay
revived_again =
    at 2500 (path_of 24100 (make_rate_entry 2500 1 2850) (2 ∷ [])) (used (make_return data_key 2 1 4000) ∷ [])
    (remembers (sent 2) 1300 ∷ remembers (sent 3) 1900 ∷ remembers (sent 1) 2200 ∷ remembers data_bytes 2500 ∷ remembers (sent 2) 2800 ∷ [])

abbrev pub last_relay : Relay
last_relay =
    at 2800 (path_of 24100 (make_rate_entry 2500 1 2850) (2 ∷ [])) (used (make_return data_key 2 1 4000) ∷ [])
    (remembers (sent 2) 1300 ∷ remembers (sent 3) 1900 ∷ remembers (sent 1) 2200 ∷ remembers data_bytes 2500 ∷ remembers (sent 2) 2800
    ∷ remembers (sent 4) 3100 ∷ [])

pub third_dropped : perform (hears 3 1600) revived_relay (counting 1 0 2)
    ≡ record { reply = RateDrop blank; relay = blocked_relay; tally = counting 2 0 2 }
unfolding rules passes good_plan good_judge of_test
third_dropped = hear 3 1600 revived_relay (counting 1 0 2) refl refl refl

pub marked_blocked : perform (marking destination 1900) blocked_relay (counting 2 0 2)
    ≡ record { reply = numbered 0; relay = marked_again; tally = counting 2 0 2 }
unfolding rules
marked_blocked = refl

-- before the mark's clock: 5; where there is no path: 12; and marked twice, it is as after the first
pub late_refused : perform (hears 2 1899) marked_again (counting 2 0 2)
    ≡ record { reply = answered (Refused 5) blank; relay = marked_again; tally = counting 2 0 2 }
unfolding rules
late_refused = refl

pub still_no_path : perform (marking stranger 1900) marked_again (counting 2 0 2)
    ≡ record { reply = numbered 12; relay = marked_again; tally = counting 2 0 2 }
unfolding rules
still_no_path = refl

pub marked_twice : perform (marking destination 1900) marked_again (counting 2 0 2)
    ≡ record { reply = numbered 0; relay = marked_again; tally = counting 2 0 2 }
unfolding rules
marked_twice = refl

-- emitted before the one that is stored
pub older_dropped : perform (hears 1 1900) marked_again (counting 2 0 2)
    ≡ record { reply = answered (Judged (Drop NotBetter)) blank; relay = still_marked; tally = counting 3 0 2 }
unfolding rules passes good_plan good_judge of_test
older_dropped = hear 1 1900 marked_again (counting 2 0 2) refl refl refl

data_new : (view_at 2200 still_marked).remembered (packet_hash data_bytes) ≡ false
unfolding rules passes
data_new = seen_quick 2200 still_marked (packet_hash data_bytes) refl

abbrev carried_by : List ℕ → Outcome
carried_by key = record { reply = forwards data_last_hop 1; relay = carried_relay key; tally = counting 3 1 2 }

pub data_carried : perform (arrives data_bytes 2200 2) still_marked (counting 3 0 2)
    ≡ record { reply = forwards data_last_hop 1; relay = carried_marked; tally = counting 3 1 2 }
unfolding rules good_plan good_judge of_test
data_carried = judged_at data_bytes 2200 still_marked (counting 3 0 2) data_new refl 2 refl ∙ ap carried_by data_key_lem

pub revived_again_lem : perform (hears 2 2500) carried_marked (counting 3 1 2) ≡ record { reply = spread_of 2; relay = revived_again; tally = counting 3 1 3 }
unfolding rules passes good_plan good_judge of_test
revived_again_lem = hear 2 2500 carried_marked (counting 3 1 2) refl refl refl

pub fourth_dropped : perform (hears 4 2800) revived_again (counting 3 1 3)
    ≡ record { reply = RateDrop blank; relay = last_relay; tally = counting 4 1 3 }
unfolding rules passes good_plan good_judge of_test
fourth_dropped = hear 4 2800 revived_again (counting 3 1 3) refl refl refl

-- ---- what the first theorem asks
pub as_new_first : NewEnough (with_path_mark one_path) (arrival (sent 2) 1250 1) blank marked_relay
unfolding rules
as_new_first =
    record {
      not_refused = refl;
      announce = refl;
      single = refl;
      formed = form 2;
      few_hops_lem = refl;
      signed = refl;
      elsewhere = refl;
      live = refl;
      is_marked_lem = refl;
      as_new = lit≤ tt;
    }
