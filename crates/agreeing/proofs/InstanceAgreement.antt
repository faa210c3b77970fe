-- `engine_and_core` on two lists of calls, from a fresh log and fresh tables. Of the first each reply of both is written out: to settings, and to packets
-- that are spread, forwarded, delivered, dropped and refused; of the second the engine's, and the core's with 6.3 told as 6.2. The replies are computed by
-- the rules, call by call, and are the engine's by `second_opinion`.
use Prim.Native.Nat.{ℕ, ◌+◌, ◌^◌}
use mathlib.Core.Bool.{true, false}
use mathlib.Core.List.{List, [], ◌∷◌, ◌++◌, map}
use mathlib.Core.Path.{◌≡◌, refl, sym, ap, subst, ◌∙◌}
use lib.Dec.{lit≤}
use lib.ListN.{length}
use Rattle.octets.specs.Index.{◌and◌}
use Rattle.octets.specs.Choice.{◌then◌otherwise◌}
use Rattle.octets.specs.Part.{patch}
use Rattle.octets.proofs.Choice.{eq_same}
use Rattle.packet.specs.Hash.{packet_hash}
use Rattle.rules.specs.Relay.{used, Relay, fresh}
use Rattle.rules.specs.View.{view_at}
use Rattle.rules.specs.Refusals.{all, table_ok}
use Rattle.rules.specs.Calls.{new_tally, rule_of}
use Rattle.rules.specs.Run.{Call, EachCall, port_setting, adding, removing, renumbering, Reply, answered, numbered, perform, no_call, sets_relay, none_loads}
use Rattle.rules.specs.declared.Reason.TheVariants.{Duplicate}
use Rattle.rules.specs.declared.Verdict.TheVariants.{Drop, Deliver, Forward, Spread}
use Rattle.rules.specs.declared.Answer.TheVariants.{Refused, Judged}
use Rattle.rules.specs.declared.Tally.{Tally}
use Rattle.rules.proofs.Unfolding.{rules}
use Rattle.rules.proofs.Shortcut.{passes, seen_quick, good_plan, good_judge}
use Rattle.rules.proofs.Passed.{of_test}
use Rattle.rules.proofs.Scene.{own, blank, announce_bytes, data_body, data_bytes, data_key, arrives}
use Rattle.rules.proofs.Outcomes.{spread_bytes, data_last_hop, relay_of, remembers, known_path, return_of, judged_at}
use Rattle.rules.proofs.Sanity.{one_up}
use Rattle.tables.specs.Layout.{bytes_of}
use Rattle.tables.specs.Shape.{is_byte, is_bytes}
use Rattle.history.specs.SecondOpinion.{coarse_reason, coarse_verdict, coarse_answer, coarse}
use Rattle.history.proofs.SecondOpinion.{second_opinion}
use Rattle.history.proofs.InstanceOpinion.{Replies, replies_alike, day, said, day_said}
use Rattle.opinion.proofs.Inhabited.{AskedEach}
use Rattle.demands.specs.Given.{CallBytes, CallsBytes}
use Rattle.demands.specs.Bytes.{replies_on}
use Rattle.demands.proofs.Demand3.{both_given}
use Rattle.demands.proofs.InstanceCalls.{guest, before, given_before, Runs, no_call_lem, ◌first◌, duplicate, hosting, midway_relay, midway_tally, before_then}
use Rattle.demands.proofs.Instance2.{sixteen}
use Rattle.agreeing.proofs.Replied.{is_asked, each_asked, reason_no_path, verdict_no_path, answer_no_path, says_no_path, none_says_no_path, replies_fine, empty_log, engine_said, core_said}

-- ---- the first list: the calls, and the reply to each. Each packet lends `blank` as its output
-- data to the guest
abbrev guest_bytes : List ℕ
guest_bytes = 0x00 ∷ 3 ∷ (guest ++ (0x00 ∷ data_body))

-- one byte too few
abbrev short_bytes : List ℕ
short_bytes = 0x00 ∷ 3 ∷ guest

abbrev pub calls : List Call
calls =
    renumbering one_up
    ∷ port_setting 1 true 2 500
    ∷ port_setting 2 true 0 500
    ∷ adding guest
    ∷ adding guest
    ∷ arrives announce_bytes 1000 1
    ∷ arrives announce_bytes 1000 1
    ∷ arrives data_bytes 2000 77
    ∷ arrives data_bytes 2000 2
    ∷ arrives guest_bytes 2500 2
    ∷ arrives short_bytes 2500 2
    ∷ removing guest
    ∷ removing guest
    ∷ arrives guest_bytes 2500 2
    ∷ []

abbrev pub answers : List Reply
answers =
    numbered 0
    ∷ numbered 0
    ∷ numbered 0
    ∷ numbered 0
    ∷ numbered 11
    ∷ answered (Judged (Spread (2 ^ 2) (length spread_bytes))) (patch blank 0 spread_bytes)
    ∷ answered (Judged (Drop Duplicate)) blank
    ∷ answered (Refused 4) blank
    ∷ answered (Judged (Forward 1 (length data_last_hop))) (patch blank 0 data_last_hop)
    ∷ answered (Judged Deliver) blank
    ∷ answered (Refused 1) blank
    ∷ numbered 0
    ∷ numbered 11
    ∷ answered (Judged (Drop Duplicate)) blank
    ∷ []

-- ---- by the rules, call by call. The first nine are demand 2's: demands' InstanceCalls
abbrev visit : List Call
visit = arrives guest_bytes 2500 2 ∷ arrives short_bytes 2500 2 ∷ removing guest ∷ removing guest ∷ arrives guest_bytes 2500 2 ∷ []

abbrev met_relay : Relay
met_relay =
    relay_of 2500 (used known_path ∷ []) [] (used (return_of data_key) ∷ [])
    (remembers announce_bytes 1300 ∷ remembers data_bytes 2300 ∷ remembers guest_bytes 2800 ∷ [])

abbrev counting : (dropped : ℕ) → Tally
counting dropped = record { total = dropped + 3; dropped = dropped; delivered = 1; forwarded = 1; spread = 1; kept = 0 }

guest_new : (view_at 2500 midway_relay).remembered (packet_hash guest_bytes) ≡ false
unfolding rules passes
guest_new = seen_quick 2500 midway_relay (packet_hash guest_bytes) refl

guest_met : perform (arrives guest_bytes 2500 2) midway_relay midway_tally
    ≡ record { reply = answered (Judged Deliver) blank; relay = hosting met_relay; tally = counting 1 }
unfolding rules good_plan good_judge of_test
guest_met = judged_at guest_bytes 2500 midway_relay midway_tally guest_new refl 2 refl

too_short : perform (arrives short_bytes 2500 2) (hosting met_relay) (counting 1)
    ≡ record { reply = answered (Refused 1) blank; relay = hosting met_relay; tally = counting 1 }
unfolding rules
too_short = refl

guest_gone : perform (removing guest) (hosting met_relay) (counting 1) ≡ record { reply = numbered 0; relay = met_relay; tally = counting 1 }
unfolding rules
guest_gone = refl

no_guest : perform (removing guest) met_relay (counting 1) ≡ record { reply = numbered 11; relay = met_relay; tally = counting 1 }
unfolding rules
no_guest = refl

guest_seen : (view_at 2500 met_relay).remembered (packet_hash guest_bytes) ≡ true
unfolding rules passes
guest_seen = seen_quick 2500 met_relay (packet_hash guest_bytes) refl ∙ rw (eq_same (packet_hash guest_bytes) (packet_hash guest_bytes) refl)

guest_dropped : perform (arrives guest_bytes 2500 2) met_relay (counting 1) ≡ record { reply = duplicate; relay = met_relay; tally = counting 2 }
unfolding rules good_plan good_judge of_test
guest_dropped = judged_at guest_bytes 2500 met_relay (counting 1) guest_seen refl 2 refl

run : Runs calls (fresh own) new_tally answers met_relay (counting 2)
run = before_then (guest_met first too_short first guest_gone first no_guest first guest_dropped first no_call_lem)

given_visit : CallsBytes visit
unfolding EachCall CallBytes rule_of is_bytes is_byte table_ok all ◌and◌
given_visit = (refl, (refl, (refl, (refl, (refl, tt)))))

given : CallsBytes calls
given = both_given before visit given_before given_visit

none_load : none_loads calls ≡ true
unfolding no_call sets_relay ◌and◌
none_load = refl

-- ---- and so by the engine and by the core
second_said : Replies own [] calls answers
second_said =
    subst (Replies own [] calls) run.answers
    (replies_alike own [] calls (fresh own) new_tally (lit≤ tt) (second_opinion own calls new_tally none_load))

answers_coarse : map coarse answers ≡ answers
unfolding coarse coarse_answer coarse_verdict coarse_reason ◌and◌ ◌then◌otherwise◌
answers_coarse = refl

-- the engine's replies ..
pub engine_answers : AskedEach calls (empty_log own sixteen) answers
engine_answers = subst (AskedEach calls (empty_log own sixteen)) answers_coarse (engine_said own sixteen calls answers given second_said)

-- .. and the core's, by `engine_and_core`
pub core_answers : replies_on calls (bytes_of (fresh own)) new_tally ≡ answers
unfolding each_asked is_asked none_says_no_path says_no_path answer_no_path verdict_no_path reason_no_path ◌and◌
core_answers =
    let alike = core_said own sixteen calls new_tally given none_load refl (lit≤ tt) answers engine_answers in
    sym (replies_fine (replies_on calls (bytes_of (fresh own)) new_tally) (ap none_says_no_path alike)) ∙ alike

-- ---- the second list: history's day, whose last packet finds an ended path: 6.3 by the rules, which the engine tells as 6.2
given_day : CallsBytes day
unfolding EachCall CallBytes rule_of is_bytes is_byte table_ok all ◌and◌
given_day = (
  refl,
  (
    refl,
    (
      refl,
      (
        refl,
        (
          refl,
          (
            refl,
            (
              refl,
              (
                refl,
                (
                  refl,
                  (
                    refl,
                    (
                      refl,
                      (
                        refl,
                        (
                          refl,
                          (
                            refl,
                            (
                              refl,
                              (
                                refl,
                                (
                                  refl,
                                  (
                                    refl,
                                    (
                                      refl,
                                      (
                                        refl,
                                        tt,
                                      ),
                                    ),
                                  ),
                                ),
                              ),
                            ),
                          ),
                        ),
                      ),
                    ),
                  ),
                ),
              ),
            ),
          ),
        ),
      ),
    ),
  ),
)

said_coarse : map coarse said ≡ said
unfolding coarse coarse_answer coarse_verdict coarse_reason ◌and◌ ◌then◌otherwise◌
said_coarse = refl

pub engine_day : AskedEach day (empty_log own sixteen) said
engine_day = subst (AskedEach day (empty_log own sixteen)) said_coarse (engine_said own sixteen day said given_day day_said)

pub core_day : map coarse (replies_on day (bytes_of (fresh own)) new_tally) ≡ said
unfolding each_asked is_asked no_call sets_relay ◌and◌
core_day = core_said own sixteen day new_tally given_day refl refl (lit≤ tt) said engine_day
