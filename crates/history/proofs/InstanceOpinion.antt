-- The second opinion on one list of calls, with what it replies to each written out: packets that are spread, forwarded, dropped and refused, marks that are
-- accepted and refused. The rules' replies are computed in rules' DeadPathScene, call by call; the last packet finds an ended path, which the rules tell as
-- 6.3 and the second opinion as 6.2.
use Prim.Native.Nat.{ℕ, suc, ◌+◌, ◌-◌, ◌≤◌}
use native.Mathlib.Nat.{le_refl}
use native.Mathlib.Omega.{arith}
use mathlib.Core.Bool.{true, false}
use mathlib.Core.List.{List, [], ◌∷◌, ◌++◌}
use mathlib.Core.Path.{◌≡◌, refl, sym, ap, subst, ◌∙◌}
use lib.Dec.{lit≤}
use lib.ListN.{length, take, replicate}
use Rattle.octets.specs.Index.{◌and◌}
use Rattle.octets.specs.Choice.{◌then◌otherwise◌}
use Rattle.packet.specs.Hash.{packet_hash}
use Rattle.numbers.specs.Numbers.{hash_count, is_size}
use Rattle.rules.specs.Relay.{empty, used, make_remembered, Relay, fresh, with_clock, with_hashes}
use Rattle.rules.specs.Writes.{put_next}
use Rattle.rules.specs.View.{view_at}
use Rattle.rules.specs.Calls.{new_tally}
use Rattle.rules.specs.Chatty.{RateDrop}
use Rattle.rules.specs.Run.{Call, packet, on_tables, asks, saves, loads, port_setting, rate_setting, marking, Reply, answered, numbered, Outcome, perform, replies, no_call, sets_relay}
use Rattle.rules.specs.declared.Blocked.TheVariants.{NoPath, OnlyExpired, NoLink}
use Rattle.rules.specs.declared.Reason.TheVariants.{Duplicate, NotBetter, NoWayOn}
use Rattle.rules.specs.declared.Verdict.TheVariants.{Drop}
use Rattle.rules.specs.declared.Answer.TheVariants.{Refused, Judged}
use Rattle.rules.specs.declared.Tally.{Tally}
use Rattle.rules.proofs.Choices.{either}
use Rattle.rules.proofs.Unfolding.{rules}
use Rattle.rules.proofs.Shortcut.{passes, seen_quick, good_plan, good_judge}
use Rattle.rules.proofs.Passed.{of_test}
use Rattle.rules.proofs.Scene.{own, blank, destination, announce_bytes, data_bytes, data_key, receipt_bytes, request_bytes, link, link_proof_bytes, arrives, next, announced, carried, asked, proved}
use Rattle.rules.proofs.Outcomes.{spreads, forwards, spread_bytes, data_last_hop, request_last_hop, tally_of, relay_of, remembers, known_path, prepared_relay, announced_relay, carried_relay, asked_relay, proved_relay, judged_at, prepared_is, announced_is, carried_is, asked_is, proved_is}
use Rattle.rules.proofs.ChattyScene.{hears, spread_of, port_one, port_two, strict_set}
use Rattle.rules.proofs.DeadPathScene.{stranger, counting, last_relay, first_heard, again_dropped, no_path_lem, early_mark, marked, early_refused, revived, third_dropped, marked_blocked, late_refused, still_no_path, marked_twice, older_dropped, data_carried, revived_again_lem, fourth_dropped}
use Rattle.history.specs.After.{Entry}
use Rattle.history.specs.Opinion.{list_limit, listed}
use Rattle.history.specs.SecondOpinion.{coarse_reason, coarse_verdict, coarse_answer, coarse, RepliesAlike, AllReplyAlike}
use Rattle.history.proofs.SecondOpinion.{second_opinion}

-- the second opinion replies so to each call of a list
unfoldable pub Replies : List ℕ → List Entry → List Call → List Reply → Type 0
Replies own entries [] [] = Unit {0}
Replies own entries [] (x ∷ xs) = ⊥
Replies own entries (c ∷ cs) [] = ⊥
Replies own entries (c ∷ cs) (x ∷ xs) = RepliesAlike own entries c x × Replies own (listed own entries c) cs xs

-- the rules reply so to each call of a list
infixr 5 ◌and_then◌
data Run : List Call → Relay → Tally → List Reply → Type 0 where
  done : {r : Relay} {t : Tally} → Run [] r t []
  ◌and_then◌ : {c : Call} {cs : List Call} {r : Relay} {t : Tally} {o : Outcome} {xs : List Reply}
      → perform c r t ≡ o → Run cs o.relay o.tally xs → Run (c ∷ cs) r t (o.reply ∷ xs)

abbrev pub day : List Call
day =
    port_setting 1 true 2 500
    ∷ port_setting 2 true 0 500
    ∷ rate_setting 1000 0 600
    ∷ hears 2 1000
    ∷ hears 2 1100
    ∷ marking stranger 1100
    ∷ marking destination 1099
    ∷ marking destination 1200
    ∷ hears 2 1199
    ∷ hears 2 1250
    ∷ hears 3 1600
    ∷ marking destination 1900
    ∷ hears 2 1899
    ∷ marking stranger 1900
    ∷ marking destination 1900
    ∷ hears 1 1900
    ∷ arrives data_bytes 2200 2
    ∷ hears 2 2500
    ∷ hears 4 2800
    ∷ arrives data_bytes 30000 2
    ∷ []

-- the path ended at 24,100
abbrev after_late : Relay
after_late =
    with_hashes (put_next hash_count (used (make_remembered (packet_hash data_bytes) 30300)) last_relay.hashes) (with_clock 30000 last_relay)

late_new : (view_at 30000 last_relay).remembered (packet_hash data_bytes) ≡ false
unfolding rules passes
late_new = seen_quick 30000 last_relay (packet_hash data_bytes) refl

late_dropped : perform (arrives data_bytes 30000 2) last_relay (counting 4 1 3)
    ≡ record { reply = answered (Judged (Drop (NoWayOn (OnlyExpired 24100)))) blank; relay = after_late; tally = counting 5 1 3 }
unfolding rules good_plan good_judge of_test
late_dropped = judged_at data_bytes 30000 last_relay (counting 4 1 3) late_new refl 2 refl

-- ---- a call lists at most itself, so up to 64 calls each find under 64 listed
pub listed_one : (own : List ℕ) (entries : List Entry) (c : Call) → length (listed own entries c) ≤ suc (length entries)
unfolding listed
listed_one own entries (packet a output) = either (λ (es : List Entry). length es ≤ suc (length entries)) _ (λ _. le_refl _) (λ _. omega arith)
listed_one own entries (on_tables c) = either (λ (es : List Entry). length es ≤ suc (length entries)) _ (λ _. le_refl _) (λ _. omega arith)
listed_one own entries (asks q) = omega arith
listed_one own entries (saves f room) = omega arith
listed_one own entries (loads f file) = omega arith

pub replies_alike : (own : List ℕ) (entries : List Entry) (cs : List Call) (r : Relay) (t : Tally)
    → length entries + length cs ≤ list_limit → AllReplyAlike own entries cs r t → Replies own entries cs (replies cs r t)
unfolding Replies AllReplyAlike replies
replies_alike own entries [] r t few h = tt
replies_alike own entries (c ∷ cs) r t few h = (
  h.0 (omega arith),
  replies_alike own (listed own entries c) cs (perform c r t).relay (perform c r t).tally (omega (arith, listed_one own entries c)) h.1,
)

replies_so : (own : List ℕ) (entries : List Entry) {cs : List Call} {r : Relay} {t : Tally} {xs : List Reply} → Run cs r t xs
    → length entries + length cs ≤ list_limit → AllReplyAlike own entries cs r t → Replies own entries cs xs
unfolding Replies AllReplyAlike
replies_so own entries done few h = tt
replies_so own entries (◌and_then◌ {c = c} {cs = cs} e run) few h = (
  subst (λ (o : Outcome). RepliesAlike own entries c o.reply) e (h.0 (omega arith)),
  replies_so own (listed own entries c) run (omega (arith, listed_one own entries c))
      (subst (λ (o : Outcome). AllReplyAlike own (listed own entries c) cs o.relay o.tally) e h.1),
)

-- ---- what it replies
abbrev pub said : List Reply
said =
    numbered 0
    ∷ numbered 0
    ∷ numbered 0
    ∷ spread_of 2
    ∷ answered (Judged (Drop Duplicate)) blank
    ∷ numbered 12
    ∷ numbered 5
    ∷ numbered 0
    ∷ answered (Refused 5) blank
    ∷ spread_of 2
    ∷ RateDrop blank
    ∷ numbered 0
    ∷ answered (Refused 5) blank
    ∷ numbered 12
    ∷ numbered 0
    ∷ answered (Judged (Drop NotBetter)) blank
    ∷ forwards data_last_hop 1
    ∷ spread_of 2
    ∷ RateDrop blank
    ∷ answered (Judged (Drop (NoWayOn NoPath))) blank
    ∷ []

run : Run day (fresh own) new_tally (take 19 said ++ (answered (Judged (Drop (NoWayOn (OnlyExpired 24100)))) blank ∷ []))
run =
    port_one
    and_then port_two
    and_then strict_set.accepted
    and_then first_heard
    and_then again_dropped
    and_then no_path_lem
    and_then early_mark
    and_then marked
    and_then early_refused
    and_then revived
    and_then third_dropped
    and_then marked_blocked
    and_then late_refused
    and_then still_no_path
    and_then marked_twice
    and_then older_dropped
    and_then data_carried
    and_then revived_again_lem
    and_then fourth_dropped
    and_then late_dropped
    and_then done

pub day_said : Replies own [] day said
unfolding Replies RepliesAlike coarse coarse_answer coarse_verdict coarse_reason ◌and◌ ◌then◌otherwise◌ no_call sets_relay
day_said = replies_so own [] run (lit≤ tt) (second_opinion own day new_tally refl)

-- ---- a receipt comes home, and a link is proved
abbrev pub start : List Call
start = port_setting 1 true 2 500 ∷ port_setting 2 true 0 500 ∷ arrives announce_bytes 1000 1 ∷ []

pub announce_spread : perform (arrives announce_bytes 1000 1) prepared_relay new_tally
    ≡ record { reply = spreads spread_bytes 2; relay = announced_relay; tally = tally_of 1 0 }
unfolding announced
announce_spread = sym (ap (next (arrives announce_bytes 1000 1)) prepared_is) ∙ announced_is

data_forwarded : perform (arrives data_bytes 2000 2) announced_relay (tally_of 1 0)
    ≡ record { reply = forwards data_last_hop 1; relay = carried_relay data_key; tally = tally_of 1 1 }
unfolding carried
data_forwarded = sym (ap (next (arrives data_bytes 2000 2)) announced_is) ∙ carried_is

request_forwarded : perform (arrives request_bytes 2000 2) announced_relay (tally_of 1 0)
    ≡ record { reply = forwards request_last_hop 1; relay = asked_relay link; tally = tally_of 1 1 }
unfolding asked
request_forwarded = sym (ap (next (arrives request_bytes 2000 2)) announced_is) ∙ asked_is

proof_carried : perform (arrives (link_proof_bytes 0) 2001 1) (asked_relay link) (tally_of 1 1)
    ≡ record { reply = forwards (link_proof_bytes 1) 2; relay = proved_relay; tally = tally_of 1 2 }
unfolding proved
proof_carried = sym (ap (next (arrives (link_proof_bytes 0) 2001 1)) asked_is) ∙ proved_is

receipt_new : (view_at 2500 (carried_relay data_key)).remembered (packet_hash (receipt_bytes 5)) ≡ false
unfolding rules passes
receipt_new = seen_quick 2500 (carried_relay data_key) (packet_hash (receipt_bytes 5)) refl

-- its return record is gone
abbrev home_relay : Relay
home_relay =
    relay_of 2500 (used known_path ∷ []) [] (empty ∷ [])
    (remembers announce_bytes 1300 ∷ remembers data_bytes 2300 ∷ remembers (receipt_bytes 5) 2800 ∷ [])

receipt_home : perform (arrives (receipt_bytes 5) 2500 1) (carried_relay data_key) (tally_of 1 1)
    ≡ record { reply = forwards (receipt_bytes 6) 2; relay = home_relay; tally = tally_of 1 2 }
unfolding rules good_plan good_judge of_test
receipt_home = judged_at (receipt_bytes 5) 2500 (carried_relay data_key) (tally_of 1 1) receipt_new refl 1 refl

pub home_said : Replies own [] (start ++ (arrives data_bytes 2000 2 ∷ arrives (receipt_bytes 5) 2500 1 ∷ []))
    (numbered 0 ∷ numbered 0 ∷ spreads spread_bytes 2 ∷ forwards data_last_hop 1 ∷ forwards (receipt_bytes 6) 2 ∷ [])
unfolding Replies RepliesAlike coarse coarse_answer coarse_verdict no_call sets_relay ◌and◌
home_said =
    replies_so own [] (port_one and_then port_two and_then announce_spread and_then data_forwarded and_then receipt_home and_then done) (lit≤ tt)
    (second_opinion own _ new_tally refl)

pub link_said : Replies own [] (start ++ (arrives request_bytes 2000 2 ∷ arrives (link_proof_bytes 0) 2001 1 ∷ []))
    (numbered 0 ∷ numbered 0 ∷ spreads spread_bytes 2 ∷ forwards request_last_hop 1 ∷ forwards (link_proof_bytes 1) 2 ∷ [])
unfolding Replies RepliesAlike coarse coarse_answer coarse_verdict no_call sets_relay ◌and◌
link_said =
    replies_so own [] (port_one and_then port_two and_then announce_spread and_then request_forwarded and_then proof_carried and_then done) (lit≤ tt)
    (second_opinion own _ new_tally refl)

-- ---- wish 11: sizes 18 and 501 are refused, and what comes in by a port of 255 bytes is read against its size
abbrev small_relay : Relay
small_relay = (perform (port_setting 1 true 2 255) (fresh own) new_tally).relay

small_set : perform (port_setting 1 true 2 255) (fresh own) new_tally ≡ record { reply = numbered 0; relay = small_relay; tally = new_tally }
unfolding rules
small_set = refl

no_size : (size : ℕ) → is_size size ≡ false
    → perform (port_setting 1 true 2 size) small_relay new_tally ≡ record { reply = numbered 9; relay = small_relay; tally = new_tally }
unfolding rules
no_size size none = rw none refl

-- a packet of a link that is not known, n bytes long
abbrev stray_bytes : ℕ → List ℕ
stray_bytes n = 0x0c ∷ 0 ∷ replicate (n - 2) 0x99

stray_refused : perform (arrives (stray_bytes 256) 1000 1) small_relay new_tally
    ≡ record { reply = answered (Refused 2) blank; relay = small_relay; tally = new_tally }
unfolding rules
stray_refused = refl

stray_new : (view_at 1000 small_relay).remembered (packet_hash (stray_bytes 255)) ≡ false
unfolding rules passes
stray_new = seen_quick 1000 small_relay (packet_hash (stray_bytes 255)) refl

abbrev after_stray : Relay
after_stray =
    with_hashes (put_next hash_count (used (make_remembered (packet_hash (stray_bytes 255)) 1300)) small_relay.hashes) (with_clock 1000 small_relay)

stray_dropped : perform (arrives (stray_bytes 255) 1000 1) small_relay new_tally
    ≡ record { reply = answered (Judged (Drop (NoWayOn NoLink))) blank; relay = after_stray; tally = counting 1 0 0 }
unfolding rules good_plan good_judge of_test
stray_dropped = judged_at (stray_bytes 255) 1000 small_relay new_tally stray_new refl 1 refl

pub sizes_said : Replies own []
    (port_setting 1 true 2 255
    ∷ port_setting 1 true 2 18
    ∷ port_setting 1 true 2 501
    ∷ arrives (stray_bytes 256) 1000 1
    ∷ arrives (stray_bytes 255) 1000 1
    ∷ [])
    (numbered 0 ∷ numbered 9 ∷ numbered 9 ∷ answered (Refused 2) blank ∷ answered (Judged (Drop (NoWayOn NoLink))) blank ∷ [])
unfolding Replies RepliesAlike coarse coarse_answer coarse_verdict coarse_reason no_call sets_relay is_size ◌and◌ ◌then◌otherwise◌
sizes_said =
    replies_so own [] (small_set and_then no_size 18 refl and_then no_size 501 refl and_then stray_refused and_then stray_dropped and_then done) (lit≤ tt)
    (second_opinion own _ new_tally refl)
