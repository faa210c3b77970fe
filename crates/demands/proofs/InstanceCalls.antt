-- One list of calls on which the demands' theorems are tried: calls of every kind, among them packets that are accepted, dropped and refused, before
-- the place where a renumbering is put in and after it. What they give by the rules is computed here, call by call.
use Prim.Native.Nat.{ℕ, ◌+◌, ◌-◌}
use mathlib.Core.Bool.{true, false}
use mathlib.Core.List.{List, [], ◌∷◌, ◌++◌}
use mathlib.Core.Path.{◌≡◌, refl, ap, ap₂, ◌∙◌}
use lib.ListN.{replicate, length-replicate}
use Rattle.octets.specs.Index.{◌and◌}
use Rattle.octets.specs.Choice.{◌then◌otherwise◌}
use Rattle.octets.specs.Listed.{first_of}
use Rattle.octets.proofs.Choice.{eq_same}
use Rattle.octets.proofs.Bytes.{nil_bytes}
use Rattle.packet.specs.Hash.{packet_hash}
use Rattle.rules.specs.Relay.{fresh_port, make_rate_settings, make_port, Port, make_relay, empty, used, Path, Relay, fresh, with_path_port}
use Rattle.rules.specs.View.{view_at}
use Rattle.rules.specs.Refusals.{all, table_ok, tables_ok}
use Rattle.rules.specs.Saved.{save_refusal}
use Rattle.rules.specs.Judging.{Plan}
use Rattle.rules.specs.Calls.{new_tally, packet_call, rule_of}
use Rattle.rules.specs.Questions.{rate_settings, a_rate, path_at, link_at, whether_word_matters, Told, none, a_path, yes_or_no, came_with, tell}
use Rattle.rules.specs.Run.{EachCall, Call, asks, port_setting, rate_setting, adding, removing, renumbering, marking, Reply, answered, numbered, told, saved, unsaved, save_reply, Outcome, of_setting, of_told, perform, replies, relay_after, tally_after, no_call, sets_relay, none_loads}
use Rattle.rules.specs.declared.Reason.TheVariants.{Duplicate}
use Rattle.rules.specs.declared.Verdict.TheVariants.{Drop}
use Rattle.rules.specs.declared.Answer.TheVariants.{Refused, Judged}
use Rattle.rules.specs.declared.RateSettings.{RateSettings}
use Rattle.rules.specs.declared.Tally.{Tally}
use Rattle.rules.proofs.Noted.{with_path_mark}
use Rattle.rules.proofs.Unfolding.{rules}
use Rattle.rules.proofs.Shortcut.{passes, seen_quick, good_plan, plan_good, good_judge}
use Rattle.rules.proofs.Passed.{of_test}
use Rattle.rules.proofs.Scene.{own, blank, destination, announce_bytes, data_bytes, data_key, receipt_bytes, arrives, prepared}
use Rattle.rules.proofs.Outcomes.{spreads, forwards, spread_bytes, data_last_hop, relay_of, remembers, known_path, prepared_relay, announced_relay, carried_relay, judged_at, announce_form, announce_new, data_new, data_key_lem, prepared_is}
use Rattle.rules.proofs.Sanity.{one_up}
use Rattle.rules.proofs.RunRenamed.{replies_append, relay_append, tally_append}
use Rattle.rules.proofs.SignatureWord.{word_matters_exactly}
use Rattle.tables.specs.Shape.{is_byte, is_bytes}
use Rattle.saved.specs.File.{saved_size}
use Rattle.saved.specs.Format.{said_by, saved_format, saving, loading}
use Rattle.saved.proofs.Example.{computing}
use Rattle.demands.specs.Given.{CallBytes, CallsBytes}

-- ---- the calls
abbrev pub guest : List ℕ
guest = replicate 16 0x0b

-- eight bytes more than a file has
abbrev pub room : List ℕ
room = replicate (saved_size + 8) 0xee

-- a byte too few
abbrev pub short_room : List ℕ
short_room = replicate (saved_size - 1) 0xee

abbrev pub before : List Call
before =
    renumbering one_up
    ∷ port_setting 1 true 2 500
    ∷ port_setting 2 true 0 500
    ∷ adding guest
    -- there already: 11
    ∷ adding guest
    ∷ arrives announce_bytes 1000 1
    -- once more: drop 2
    ∷ arrives announce_bytes 1000 1
    -- by no port of the sixteen: 4
    ∷ arrives data_bytes 2000 77
    ∷ arrives data_bytes 2000 2
    ∷ []

-- the last ones, with the receipt by this port, and settings for that one
abbrev pub later_by : (from port : ℕ) → List Call
later_by from port =
    arrives (receipt_bytes 5) 2500 77
    -- no map of the sixteen: 8
    ∷ renumbering []
    ∷ arrives (receipt_bytes 5) 2500 from
    ∷ arrives (receipt_bytes 5) 2500 from
    ∷ rate_setting 3600 5 7200
    -- a target over a day: 9
    ∷ rate_setting 86401 5 7200
    ∷ port_setting port true 1 500
    -- no port: 9
    ∷ port_setting 77 true 1 500
    ∷ removing guest
    -- the destination's path is marked; the guest has none: 12
    ∷ marking destination 2500
    ∷ marking guest 2500
    -- the announce rate; the path; whether the announce's signature would matter, now that it is remembered no more; and what is no place
    ∷ asks rate_settings
    ∷ asks (path_at 0)
    ∷ asks (whether_word_matters announce_bytes from 3000 500)
    ∷ asks (link_at 64)
    -- no file: 20
    ∷ loading []
    -- all of it; and with a byte too little room: 25
    ∷ saving room
    ∷ saving short_room
    ∷ []

abbrev pub later : List Call
later = later_by 1 5

-- each is given bytes
pub given_before : CallsBytes before
unfolding EachCall CallBytes rule_of is_bytes is_byte table_ok all ◌and◌
given_before = (refl, (refl, (refl, (refl, (refl, (refl, (refl, (refl, (refl, tt)))))))))

pub given_later : (from port : ℕ) → CallsBytes (later_by from port)
unfolding EachCall CallBytes rule_of is_bytes is_byte table_ok all ◌and◌
given_later from port =
    (refl, (refl, (refl, (refl, (refl, (refl, (refl, (refl, (refl, (refl, (refl, (tt, (tt, (tt, (tt, ((refl, nil_bytes), (refl, (refl, tt))))))))))))))))))

-- none loads: the one that would is refused
pub none_load : none_loads (before ++ later) ≡ true
unfolding rules no_call sets_relay said_by computing
none_load = refl

pub none_load_later : none_loads later ≡ true
unfolding rules no_call sets_relay said_by computing
none_load_later = refl

-- ---- a list of calls by the rules
pub record Runs (cs : List Call) (r : Relay) (t : Tally) (said : List Reply) (after : Relay) (counts : Tally) : Type 0 where
  pub answers : replies cs r t ≡ said
  pub relay : relay_after cs r t ≡ after
  pub tally : tally_after cs r t ≡ counts

pub no_call_lem : {r : Relay} {t : Tally} → Runs [] r t [] r t
unfolding replies relay_after tally_after
no_call_lem = record { answers = refl; relay = refl; tally = refl }

-- a call, and those after it
infixr 5 ◌first◌
pub ◌first◌ : {c : Call} {cs : List Call} {r between after : Relay} {t counts end : Tally} {reply : Reply} {said : List Reply}
    → perform c r t ≡ record { reply = reply; relay = between; tally = counts }
    → Runs cs between counts said after end → Runs (c ∷ cs) r t (reply ∷ said) after end
unfolding replies relay_after tally_after
◌first◌ {c} {cs} {r} {between} {after} {t} {counts} {end} {reply} {said} e rest =
    record {
      answers = ap (λ (o : Outcome). o.reply ∷ replies cs o.relay o.tally) e ∙ ap (λ (l : List Reply). reply ∷ l) rest.answers;
      relay = ap (λ (o : Outcome). relay_after cs o.relay o.tally) e ∙ rest.relay;
      tally = ap (λ (o : Outcome). tally_after cs o.relay o.tally) e ∙ rest.tally;
    }

-- two lists
infixr 4 ◌then_runs◌
pub ◌then_runs◌ : {cs ds : List Call} {r between after : Relay} {t counts end : Tally} {said rest : List Reply}
    → Runs cs r t said between counts → Runs ds between counts rest after end → Runs (cs ++ ds) r t (said ++ rest) after end
◌then_runs◌ {cs} {ds} {r} {between} {after} {t} {counts} {end} {said} {rest} x y =
    record {
      answers =
          replies_append cs ds r t
          ∙ ap₂ (λ (l k : List Reply). l ++ k) x.answers (ap₂ (replies ds) x.relay x.tally ∙ y.answers);
      relay = relay_append cs ds r t ∙ ap₂ (relay_after ds) x.relay x.tally ∙ y.relay;
      tally = tally_append cs ds r t ∙ ap₂ (tally_after ds) x.relay x.tally ∙ y.tally;
    }

-- ---- what they leave
abbrev pub counting : (dropped forwarded spread : ℕ) → Tally
counting dropped forwarded spread =
    record { total = dropped + forwarded + spread; dropped = dropped; delivered = 0; forwarded = forwarded; spread = spread; kept = 0 }

abbrev pub last_tally : Tally
last_tally = counting 2 2 1

abbrev pub duplicate : Reply
duplicate = answered (Judged (Drop Duplicate)) blank

abbrev unknown_port : Reply
unknown_port = answered (Refused 4) blank

abbrev pub said_before : List Reply
said_before =
    numbered 0 ∷ numbered 0 ∷ numbered 0 ∷ numbered 0 ∷ numbered 11
    ∷ spreads spread_bytes 2 ∷ duplicate ∷ unknown_port ∷ forwards data_last_hop 1 ∷ []

-- the announce rate that is set
abbrev pub hourly : RateSettings
hourly = make_rate_settings 3600 5 7200

abbrev marked_path : Path
marked_path = with_path_mark known_path

-- the receipt leaves by this port, and the path by that one; the file is of this relay
abbrev pub said_later : (by path : ℕ) → Relay → List Reply
said_later by path end =
    unknown_port ∷ numbered 8 ∷ forwards (receipt_bytes 6) by ∷ duplicate ∷ numbered 0 ∷ numbered 9 ∷ numbered 0 ∷ numbered 9 ∷ numbered 0
    ∷ numbered 0 ∷ numbered 12
    ∷ told (a_rate hourly) ∷ told (a_path (with_path_port path marked_path)) ∷ told (yes_or_no true) ∷ told none
    ∷ numbered 20 ∷ saved end last_tally room ∷ unsaved 25 short_room ∷ []

-- the guest in the lowest place
abbrev pub hosting : Relay → Relay
hosting r = make_relay r.own r.clock r.rate r.ports (used guest ∷ replicate 15 empty) r.paths r.links r.returns r.hashes

-- the receipt carried
abbrev pub received_relay : Relay
received_relay =
    relay_of 2500 (used known_path ∷ []) [] (empty ∷ [])
    (remembers announce_bytes 1300 ∷ remembers data_bytes 2300 ∷ remembers (receipt_bytes 5) 2800 ∷ [])

abbrev rated_relay : Relay
rated_relay =
    make_relay own 2500 hourly received_relay.ports received_relay.locals received_relay.paths received_relay.links received_relay.returns
    received_relay.hashes

-- the end, with these settings of ports and this path
abbrev end_with : List Port → Path → Relay
end_with ports path =
    make_relay own 2500 hourly ports (replicate 16 empty)
    (used path ∷ replicate 63 empty)
    received_relay.links received_relay.returns received_relay.hashes

-- the path is marked, and leaves by this port
abbrev pub last_relay : List Port → ℕ → Relay
last_relay ports port = end_with ports (with_path_port port marked_path)

abbrev pub plain_ports : List Port
plain_ports = fresh_port ∷ make_port true 2 500 ∷ make_port true 0 500 ∷ fresh_port ∷ fresh_port ∷ make_port true 1 500 ∷ replicate 10 fresh_port

-- before the mark
abbrev unmarked_relay : Relay
unmarked_relay = end_with plain_ports known_path

-- ---- call by call
fresh_moved : perform (renumbering one_up) (fresh own) new_tally ≡ record { reply = numbered 0; relay = fresh own; tally = new_tally }
unfolding rules
fresh_moved = refl

first_port : perform (port_setting 1 true 2 500) (fresh own) new_tally
    ≡ record { reply = numbered 0; relay = (perform (port_setting 1 true 2 500) (fresh own) new_tally).relay; tally = new_tally }
unfolding rules
first_port = refl

guest_added : perform (adding guest) prepared_relay new_tally ≡ record { reply = numbered 0; relay = hosting prepared_relay; tally = new_tally }
unfolding rules
guest_added = refl

guest_there : perform (adding guest) (hosting prepared_relay) new_tally ≡ record { reply = numbered 11; relay = hosting prepared_relay; tally = new_tally }
unfolding rules
guest_there = refl

pub announce_spread : perform (arrives announce_bytes 1000 1) (hosting prepared_relay) new_tally
    ≡ record { reply = spreads spread_bytes 2; relay = hosting announced_relay; tally = counting 0 0 1 }
unfolding rules good_plan good_judge of_test
announce_spread = judged_at announce_bytes 1000 (hosting prepared_relay) new_tally announce_new announce_form 1 refl

announce_seen : (view_at 1000 (hosting announced_relay)).remembered (packet_hash announce_bytes) ≡ true
unfolding rules passes
announce_seen =
    seen_quick 1000 (hosting announced_relay) (packet_hash announce_bytes) refl
    ∙ rw (eq_same (packet_hash announce_bytes) (packet_hash announce_bytes) refl)

pub announce_dropped : perform (arrives announce_bytes 1000 1) (hosting announced_relay) (counting 0 0 1)
    ≡ record { reply = duplicate; relay = hosting announced_relay; tally = counting 1 0 1 }
unfolding rules good_plan good_judge of_test
announce_dropped = judged_at announce_bytes 1000 (hosting announced_relay) (counting 0 0 1) announce_seen announce_form 1 refl

data_refused : perform (arrives data_bytes 2000 77) (hosting announced_relay) (counting 1 0 1)
    ≡ record { reply = unknown_port; relay = hosting announced_relay; tally = counting 1 0 1 }
unfolding rules
data_refused = refl

abbrev pub carried_by : List ℕ → Outcome
carried_by key = record { reply = forwards data_last_hop 1; relay = hosting (carried_relay key); tally = counting 1 1 1 }

pub data_carried : perform (arrives data_bytes 2000 2) (hosting announced_relay) (counting 1 0 1) ≡ carried_by data_key
unfolding rules good_plan good_judge of_test
data_carried = judged_at data_bytes 2000 (hosting announced_relay) (counting 1 0 1) data_new refl 2 refl ∙ ap carried_by data_key_lem

receipt_refused : perform (arrives (receipt_bytes 5) 2500 77) (hosting (carried_relay data_key)) (counting 1 1 1)
    ≡ record { reply = unknown_port; relay = hosting (carried_relay data_key); tally = counting 1 1 1 }
unfolding rules
receipt_refused = refl

map_refused : perform (renumbering []) (hosting (carried_relay data_key)) (counting 1 1 1)
    ≡ record { reply = numbered 8; relay = hosting (carried_relay data_key); tally = counting 1 1 1 }
unfolding rules
map_refused = refl

pub receipt_new : (view_at 2500 (hosting (carried_relay data_key))).remembered (packet_hash (receipt_bytes 5)) ≡ false
unfolding rules passes
receipt_new = seen_quick 2500 (hosting (carried_relay data_key)) (packet_hash (receipt_bytes 5)) refl

receipt_home : perform (arrives (receipt_bytes 5) 2500 1) (hosting (carried_relay data_key)) (counting 1 1 1)
    ≡ record { reply = forwards (receipt_bytes 6) 2; relay = hosting received_relay; tally = counting 1 2 1 }
unfolding rules good_plan good_judge of_test
receipt_home = judged_at (receipt_bytes 5) 2500 (hosting (carried_relay data_key)) (counting 1 1 1) receipt_new refl 1 refl

receipt_seen : (view_at 2500 (hosting received_relay)).remembered (packet_hash (receipt_bytes 5)) ≡ true
unfolding rules passes
receipt_seen =
    seen_quick 2500 (hosting received_relay) (packet_hash (receipt_bytes 5)) refl
    ∙ rw (eq_same (packet_hash (receipt_bytes 5)) (packet_hash (receipt_bytes 5)) refl)

receipt_dropped : perform (arrives (receipt_bytes 5) 2500 1) (hosting received_relay) (counting 1 2 1)
    ≡ record { reply = duplicate; relay = hosting received_relay; tally = last_tally }
unfolding rules good_plan good_judge of_test
receipt_dropped = judged_at (receipt_bytes 5) 2500 (hosting received_relay) (counting 1 2 1) receipt_seen refl 1 refl

rate_set : perform (rate_setting 3600 5 7200) (hosting received_relay) last_tally
    ≡ record { reply = numbered 0; relay = hosting rated_relay; tally = last_tally }
unfolding rules
rate_set = refl

no_rate : perform (rate_setting 86401 5 7200) (hosting rated_relay) last_tally
    ≡ record { reply = numbered 9; relay = hosting rated_relay; tally = last_tally }
unfolding rules
no_rate = refl

port_set_lem : perform (port_setting 5 true 1 500) (hosting rated_relay) last_tally
    ≡ record { reply = numbered 0; relay = hosting unmarked_relay; tally = last_tally }
unfolding rules
port_set_lem = refl

no_port_lem : perform (port_setting 77 true 1 500) (hosting unmarked_relay) last_tally
    ≡ record { reply = numbered 9; relay = hosting unmarked_relay; tally = last_tally }
unfolding rules
no_port_lem = refl

guest_removed : perform (removing guest) (hosting unmarked_relay) last_tally ≡ record { reply = numbered 0; relay = unmarked_relay; tally = last_tally }
unfolding rules
guest_removed = refl

path_marked : perform (marking destination 2500) unmarked_relay last_tally
    ≡ record { reply = numbered 0; relay = last_relay plain_ports 1; tally = last_tally }
unfolding rules
path_marked = refl

no_path_lem : perform (marking guest 2500) (last_relay plain_ports 1) last_tally
    ≡ record { reply = numbered 12; relay = last_relay plain_ports 1; tally = last_tally }
unfolding rules
no_path_lem = refl

rate_told_lem : perform (asks rate_settings) (last_relay plain_ports 1) last_tally
    ≡ record { reply = told (a_rate hourly); relay = last_relay plain_ports 1; tally = last_tally }
unfolding rules
rate_told_lem = refl

path_told : perform (asks (path_at 0)) (last_relay plain_ports 1) last_tally
    ≡ record { reply = told (a_path marked_path); relay = last_relay plain_ports 1; tally = last_tally }
unfolding rules
path_told = refl

announce_forgotten : (view_at 3000 (last_relay plain_ports 1)).remembered (packet_hash announce_bytes) ≡ false
unfolding rules passes
announce_forgotten = seen_quick 3000 (last_relay plain_ports 1) (packet_hash announce_bytes) refl

word_yes : tell (whether_word_matters announce_bytes 1 3000 500) (last_relay plain_ports 1) ≡ yes_or_no true
unfolding rules good_plan
word_yes =
    ap (λ (todo : Plan). yes_or_no (of_test 9 todo))
    (plan_good (view_at 3000 (last_relay plain_ports 1)) (came_with announce_bytes 1 3000 false) announce_forgotten announce_form)

-- so the two words give two answers
pub words_differ : (packet_call (came_with announce_bytes 1 3000 true) (last_relay plain_ports 1) last_tally blank).answer
    ≡ (packet_call (came_with announce_bytes 1 3000 false) (last_relay plain_ports 1) last_tally blank).answer → ⊥
words_differ = (word_matters_exactly (came_with announce_bytes 1 3000 false) (last_relay plain_ports 1) last_tally blank).yes_differs word_yes

word_told : perform (asks (whether_word_matters announce_bytes 1 3000 500)) (last_relay plain_ports 1) last_tally
    ≡ record { reply = told (yes_or_no true); relay = last_relay plain_ports 1; tally = last_tally }
unfolding perform of_told
word_told = ap (λ (x : Told). record { reply = told x; relay = last_relay plain_ports 1; tally = last_tally }) word_yes

nothing_told : perform (asks (link_at 64)) (last_relay plain_ports 1) last_tally
    ≡ record { reply = told none; relay = last_relay plain_ports 1; tally = last_tally }
unfolding rules
nothing_told = refl

end_ok : tables_ok (last_relay plain_ports 1) ≡ true
unfolding rules
end_ok = refl

none_loaded : perform (loading []) (last_relay plain_ports 1) last_tally
    ≡ record { reply = numbered 20; relay = last_relay plain_ports 1; tally = last_tally }
unfolding rules said_by computing
none_loaded = refl

-- a save, with so much room
with_room : (r : Relay) (t : Tally) (n : ℕ) (k : ℕ) → save_refusal saved_format n r ≡ k
    → perform (saving (replicate n 0xee)) r t ≡ record { reply = save_reply k r t (replicate n 0xee); relay = r; tally = t }
unfolding perform
with_room r t n k e =
    ap (λ (i : ℕ). record { reply = save_reply i r t (replicate n 0xee); relay = r; tally = t })
    (ap (λ (i : ℕ). save_refusal saved_format i r) (length-replicate {A = ℕ} n 0xee) ∙ e)

pub all_saved : (r : Relay) (t : Tally) → tables_ok r ≡ true → perform (saving room) r t ≡ record { reply = saved r t room; relay = r; tally = t }
unfolding save_refusal save_reply first_of ◌then◌otherwise◌
all_saved r t ok = with_room r t (saved_size + 8) 0 (rw ok refl)

pub room_short : (r : Relay) (t : Tally) → tables_ok r ≡ true
    → perform (saving short_room) r t ≡ record { reply = unsaved 25 short_room; relay = r; tally = t }
unfolding save_refusal save_reply first_of ◌then◌otherwise◌
room_short r t ok = with_room r t (saved_size - 1) 25 (rw ok refl)

-- ---- all of them
abbrev pub midway_relay : Relay
midway_relay = hosting (carried_relay data_key)

abbrev pub midway_tally : Tally
midway_tally = counting 1 1 1

pub later_run : Runs later midway_relay midway_tally (said_later 2 1 (last_relay plain_ports 1)) (last_relay plain_ports 1) last_tally
later_run =
    receipt_refused first map_refused first receipt_home first receipt_dropped first rate_set first no_rate first port_set_lem first no_port_lem
    first guest_removed first path_marked first no_path_lem first rate_told_lem first path_told first word_told first nothing_told first none_loaded
    first all_saved (last_relay plain_ports 1) last_tally end_ok first room_short (last_relay plain_ports 1) last_tally end_ok first no_call_lem

second_port : perform (port_setting 2 true 0 500) (perform (port_setting 1 true 2 500) (fresh own) new_tally).relay new_tally
    ≡ record { reply = numbered 0; relay = prepared_relay; tally = new_tally }
unfolding prepared perform of_setting
second_port = prepared_is

pub before_then : {rest : List Call} {said : List Reply} {after : Relay} {end : Tally}
    → Runs rest midway_relay midway_tally said after end → Runs (before ++ rest) (fresh own) new_tally (said_before ++ said) after end
before_then rest =
    fresh_moved first first_port first second_port first guest_added first guest_there first announce_spread first announce_dropped
    first data_refused first data_carried first rest

pub before_run : Runs before (fresh own) new_tally said_before midway_relay midway_tally
before_run = before_then no_call_lem

pub plain_run : Runs (before ++ later) (fresh own) new_tally (said_before ++ said_later 2 1 (last_relay plain_ports 1)) (last_relay plain_ports 1) last_tally
plain_run = before_then later_run
