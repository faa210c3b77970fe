-- Wish 11's theorem on one list of calls from fresh tables. Port 1 carries 255 bytes, port 2 all 500 and port 3 carries 214. An announce comes in by port 1:
-- spread it has 215 bytes, and port 2 alone carries them. Data of 272 bytes would leave by port 1 with 256, and is dropped by 16; data of 271 leaves with 255,
-- and comes in by port 1 too long. Renumbered, the spread's set is that of the ports' images.
use Prim.Native.Nat.{ℕ}
use mathlib.Core.Bool.{Bool, true, false}
use mathlib.Core.List.{List, [], ◌∷◌, ◌++◌, map}
use mathlib.Core.Path.{◌≡◌, refl, sym, ap, ◌∙◌}
use lib.ListN.{take, drop, replicate}
use Rattle.octets.specs.Index.{◌and◌, all_below}
use Rattle.octets.specs.Choice.{◌or◌}
use Rattle.packet.specs.Hash.{packet_hash}
use Rattle.rules.specs.Relay.{fresh_port, make_port, make_return, make_relay, used, Relay, fresh}
use Rattle.rules.specs.View.{view_at, port_size}
use Rattle.rules.specs.Refusals.{all, table_ok}
use Rattle.rules.specs.Answers.{in_set, image_set, rename_verdict, rename_answer}
use Rattle.rules.specs.Calls.{new_tally, rule_of}
use Rattle.rules.specs.Lengths.{verdict_size_ok, answer_size_ok}
use Rattle.rules.specs.Run.{EachCall, Call, port_setting, renumbering, Reply, answered, numbered, rename_arrival, rename_call, rename_reply, no_call, moves_ports, sets_relay, perform}
use Rattle.rules.specs.declared.Reason.TheVariants.{TooLongForPort}
use Rattle.rules.specs.declared.Verdict.{Verdict}
use Rattle.rules.specs.declared.Verdict.TheVariants.{Drop, Forward, Spread}
use Rattle.rules.specs.declared.Answer.TheVariants.{Refused, Judged}
use Rattle.rules.proofs.Unfolding.{rules}
use Rattle.rules.proofs.Shortcut.{passes, seen_quick, good_plan, good_judge}
use Rattle.rules.proofs.Passed.{of_test}
use Rattle.rules.proofs.Scene.{own, blank, destination, announce_bytes, arrives}
use Rattle.rules.proofs.Outcomes.{spreads, forwards, spread_bytes, relay_of, remembers, known_path, prepared_relay, announced_relay, judged_at, announce_form}
use Rattle.rules.proofs.Sanity.{one_up}
use Rattle.tables.specs.Shape.{is_byte, is_bytes}
use Rattle.demands.specs.Given.{CallBytes, CallsBytes}
use Rattle.demands.specs.Bytes.{replies_on}
use Rattle.demands.specs.Lengths.{sizes_ok}
use Rattle.demands.proofs.Demand3.{both_given, forgets_nothing_fresh}
use Rattle.demands.proofs.Lengths.{sizes_on_calls}
use Rattle.demands.proofs.InstanceCalls.{Runs, no_call_lem, ◌first◌, counting}
use Rattle.demands.proofs.Instance2.{buffer, size, sixteen, start, Goes, goes}
use Rattle.demands.proofs.Instance3.{one_up_ok}

-- ---- the calls
abbrev settings : List Call
settings =
    port_setting 1 true 2 255
    ∷ port_setting 2 true 0 500
    ∷ port_setting 3 true 0 214
    -- no sizes: 9
    ∷ port_setting 3 true 0 18
    ∷ port_setting 3 true 0 501
    ∷ []

-- data to the announced destination, with a payload of n bytes
abbrev data_of : ℕ → List ℕ
data_of n = 0x50 ∷ 3 ∷ (own ++ (destination ++ (0x00 ∷ replicate n 0x55)))

-- on the last hop it is sixteen bytes shorter
abbrev last_hop_of : ℕ → List ℕ
last_hop_of n = 0x00 ∷ 4 ∷ (destination ++ (0x00 ∷ replicate n 0x55))

-- one port is where the announce comes in, the other where the data does
abbrev packets_by : (one other : ℕ) → List Call
packets_by one other =
    arrives announce_bytes 1000 one
    ∷ arrives (data_of 237) 2000 other
    ∷ arrives (data_of 236) 2400 other
    ∷ arrives (data_of 236) 2400 one
    ∷ []

given_settings : CallsBytes settings
unfolding EachCall CallBytes rule_of is_bytes is_byte table_ok all ◌and◌
given_settings = (refl, (refl, (refl, (refl, (refl, tt)))))

given_packets : CallsBytes (packets_by 1 2)
unfolding EachCall CallBytes is_bytes is_byte table_ok all ◌and◌
given_packets = (refl, (refl, (refl, (refl, tt))))

-- ---- what they reply
abbrev said_first : List Reply
said_first = numbered 0 ∷ numbered 0 ∷ numbered 0 ∷ numbered 9 ∷ numbered 9 ∷ []

-- spread to the other port alone, dropped, forwarded by the one, refused
abbrev said_by : (one other : ℕ) → List Reply
said_by one other =
    spreads spread_bytes other
    ∷ answered (Judged (Drop TooLongForPort)) blank
    ∷ forwards (last_hop_of 236) one
    ∷ answered (Refused 2) blank
    ∷ []

-- ---- what they leave
abbrev sized : Relay → Relay
sized r =
    make_relay own r.clock r.rate (fresh_port ∷ make_port true 2 255 ∷ make_port true 0 500 ∷ make_port true 0 214 ∷ replicate 12 fresh_port) r.locals
    r.paths r.links r.returns r.hashes

abbrev dropped_relay : Relay
dropped_relay = sized (relay_of 2000 (used known_path ∷ []) [] [] (remembers announce_bytes 1300 ∷ remembers (data_of 237) 2300 ∷ []))

abbrev end_relay : Relay
end_relay =
    sized
    (relay_of 2400 (used known_path ∷ []) [] (used (make_return (take 16 (packet_hash (data_of 236))) 2 1 4200) ∷ [])
    (remembers announce_bytes 1300 ∷ remembers (data_of 237) 2300 ∷ remembers (data_of 236) 2700 ∷ []))

abbrev one_set : Relay
one_set = (perform (port_setting 1 true 2 255) (fresh own) new_tally).relay

abbrev two_set : Relay
two_set = (perform (port_setting 2 true 0 500) one_set new_tally).relay

-- ---- call by call
one_set_lem : perform (port_setting 1 true 2 255) (fresh own) new_tally ≡ record { reply = numbered 0; relay = one_set; tally = new_tally }
unfolding rules
one_set_lem = refl

two_set_lem : perform (port_setting 2 true 0 500) one_set new_tally ≡ record { reply = numbered 0; relay = two_set; tally = new_tally }
unfolding rules
two_set_lem = refl

three_set : perform (port_setting 3 true 0 214) two_set new_tally ≡ record { reply = numbered 0; relay = sized prepared_relay; tally = new_tally }
unfolding rules
three_set = refl

too_small : perform (port_setting 3 true 0 18) (sized prepared_relay) new_tally
    ≡ record { reply = numbered 9; relay = sized prepared_relay; tally = new_tally }
unfolding rules
too_small = refl

too_large : perform (port_setting 3 true 0 501) (sized prepared_relay) new_tally
    ≡ record { reply = numbered 9; relay = sized prepared_relay; tally = new_tally }
unfolding rules
too_large = refl

announce_new : (view_at 1000 (sized prepared_relay)).remembered (packet_hash announce_bytes) ≡ false
unfolding rules passes
announce_new = seen_quick 1000 (sized prepared_relay) (packet_hash announce_bytes) refl

announce_spread : perform (arrives announce_bytes 1000 1) (sized prepared_relay) new_tally
    ≡ record { reply = spreads spread_bytes 2; relay = sized announced_relay; tally = counting 0 0 1 }
unfolding rules good_plan good_judge of_test
announce_spread = judged_at announce_bytes 1000 (sized prepared_relay) new_tally announce_new announce_form 1 refl

longer_new : (view_at 2000 (sized announced_relay)).remembered (packet_hash (data_of 237)) ≡ false
unfolding rules passes
longer_new = seen_quick 2000 (sized announced_relay) (packet_hash (data_of 237)) refl

longer_dropped : perform (arrives (data_of 237) 2000 2) (sized announced_relay) (counting 0 0 1)
    ≡ record { reply = answered (Judged (Drop TooLongForPort)) blank; relay = dropped_relay; tally = counting 1 0 1 }
unfolding rules good_plan good_judge of_test
longer_dropped = judged_at (data_of 237) 2000 (sized announced_relay) (counting 0 0 1) longer_new refl 2 refl

data_new : (view_at 2400 dropped_relay).remembered (packet_hash (data_of 236)) ≡ false
unfolding rules passes
data_new = seen_quick 2400 dropped_relay (packet_hash (data_of 236)) refl

data_forwarded : perform (arrives (data_of 236) 2400 2) dropped_relay (counting 1 0 1)
    ≡ record { reply = forwards (last_hop_of 236) 1; relay = end_relay; tally = counting 1 1 1 }
unfolding rules good_plan good_judge of_test
data_forwarded = judged_at (data_of 236) 2400 dropped_relay (counting 1 0 1) data_new refl 2 refl

data_refused : perform (arrives (data_of 236) 2400 1) end_relay (counting 1 1 1)
    ≡ record { reply = answered (Refused 2) blank; relay = end_relay; tally = counting 1 1 1 }
unfolding rules
data_refused = refl

run : Runs (settings ++ packets_by 1 2) (fresh own) new_tally (said_first ++ said_by 1 2) end_relay (counting 1 1 1)
run =
    one_set_lem first two_set_lem first three_set first too_small first too_large first announce_spread first longer_dropped first data_forwarded
    first data_refused first no_call_lem

pub plain : Goes (settings ++ packets_by 1 2) (said_first ++ said_by 1 2) end_relay (counting 1 1 1)
plain = goes (both_given settings (packets_by 1 2) given_settings given_packets) run

-- ---- the theorem on the list
pub sizes_so : sizes_ok (settings ++ packets_by 1 2) start new_tally ≡ true
sizes_so = sizes_on_calls (settings ++ packets_by 1 2) start new_tally

-- it tells other answers apart: the longer data forwarded, the spread by port 3 as well, and by it alone; what was answered fits
abbrev answer_fits : Verdict → Bool
answer_fits verdict = answer_size_ok (sized announced_relay) (Judged verdict)

pub others_not : (answer_fits (Forward 1 256) ≡ false)
    × (answer_fits (Spread 12 215) ≡ false)
    × (answer_fits (Spread 8 215) ≡ false)
    × (answer_fits (Forward 1 255) ≡ true)
    × (answer_fits (Spread 4 215) ≡ true)
unfolding answer_size_ok verdict_size_ok port_size in_set all_below ◌and◌ ◌or◌
others_not = (refl, refl, refl, refl, refl)

-- ---- demand 3: with every port one up the sizes go with their ports, and the spread's set is that of the images
packets_up : map (rename_call one_up) (packets_by 1 2) ≡ packets_by 2 3
unfolding rules rename_call rename_arrival
packets_up = refl

said_up : map (rename_reply one_up) (said_by 1 2) ≡ said_by 2 3
unfolding rules rename_reply rename_answer rename_verdict image_set in_set
said_up = refl

pub one_up_lem : replies_on (settings ++ (renumbering one_up ∷ packets_by 2 3)) start new_tally ≡ said_first ++ (numbered 0 ∷ said_by 2 3)
unfolding no_call moves_ports sets_relay ◌and◌
one_up_lem =
    ap (λ (cs : List Call). replies_on (settings ++ (renumbering one_up ∷ cs)) start new_tally) (sym packets_up)
    ∙ (forgets_nothing_fresh settings (packets_by 1 2) given_settings given_packets buffer own size sixteen one_up one_up_ok refl refl).answers
    ∙ ap (λ (x : List Reply). take 5 x ++ (numbered 0 ∷ map (rename_reply one_up) (drop 5 x))) plain.answers
    ∙ ap (λ (x : List Reply). said_first ++ (numbered 0 ∷ x)) said_up
