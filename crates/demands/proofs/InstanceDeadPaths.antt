-- Wish 6's theorems on one destination's announces, on the bytes. The announce that made the path comes again and is a duplicate; a mark is refused by 12 and
-- by 5, and accepted; then the same announce is spread. The path is marked again while it is blocked, and stays so through calls among which packets are
-- forwarded, dropped and refused, an older announce with them.
use Prim.Native.Nat.{ℕ, ◌≤◌}
use mathlib.Core.Bool.{true}
use mathlib.Core.List.{List, [], ◌∷◌, ◌++◌}
use mathlib.Core.Path.{◌≡◌, refl, sym, ap, subst, ◌∙◌}
use lib.Dec.{lit≤}
use Rattle.octets.specs.Index.{◌and◌}
use Rattle.rules.specs.Relay.{used, Relay, fresh, with_rate}
use Rattle.rules.specs.View.{view_at}
use Rattle.rules.specs.Refusals.{all, table_ok}
use Rattle.rules.specs.Calls.{new_tally, rule_of}
use Rattle.rules.specs.Chatty.{RateDrop}
use Rattle.rules.specs.Run.{EachCall, Call, port_setting, rate_setting, marking, Reply, answered, numbered, none_loads, no_call, sets_relay}
use Rattle.rules.specs.DeadPaths.{NewEnough, Revived, NoneAccepted, MarkedAt}
use Rattle.rules.specs.declared.Answer.TheVariants.{Refused, Judged}
use Rattle.rules.specs.declared.Reason.TheVariants.{Duplicate, NotBetter}
use Rattle.rules.specs.declared.Verdict.TheVariants.{Drop}
use Rattle.rules.proofs.Noted.{with_path_mark}
use Rattle.rules.proofs.Unfolding.{rules}
use Rattle.rules.proofs.History.{last_clock, clock_history}
use Rattle.rules.proofs.Scene.{own, blank, destination, data_bytes, arrival, arrives}
use Rattle.rules.proofs.Outcomes.{forwards, data_last_hop}
use Rattle.rules.proofs.ChattyScene.{sent, hears, spread_of, port_one, port_two, strict_set}
use Rattle.rules.proofs.DeadPathScene.{stranger, counting, one_path, marked_relay, blocked_path, blocked_relay, marked_again, carried_marked, last_relay, first_heard, again_dropped, no_path_lem, early_mark, marked, early_refused, revived, third_dropped, marked_blocked, late_refused, still_no_path, marked_twice, older_dropped, data_carried, revived_again_lem, fourth_dropped, as_new_first}
use Rattle.tables.specs.Layout.{relay_of, bytes_of}
use Rattle.tables.specs.Shape.{is_byte, is_bytes}
use Rattle.tables.proofs.Whole.{back, ok_bytes, bytes_bytes}
use Rattle.demands.specs.Given.{CallBytes, CallsBytes}
use Rattle.demands.specs.Bytes.{OutcomeOn, perform_on, replies_on, tables_after_on}
use Rattle.demands.specs.DeadPaths.{StaysMarkedOn}
use Rattle.demands.proofs.Demand2.{FollowsTheRules, outcome_on, call_on_lem, run_on}
use Rattle.demands.proofs.Demand3.{both_given}
use Rattle.demands.proofs.DeadPaths.{new_enough_revives_on, mark_stays_on}
use Rattle.demands.proofs.InstanceCalls.{Runs, no_call_lem, ◌first◌, ◌then_runs◌}
use Rattle.demands.proofs.Instance2.{Goes, goes, Held, held}

-- ---- the calls
abbrev until_mark : List Call
until_mark =
    port_setting 1 true 2 500
    ∷ port_setting 2 true 0 500
    ∷ rate_setting 1000 0 600
    ∷ hears 2 1000
    -- once more: drop 2
    ∷ hears 2 1100
    -- no path: 12; before the last clock: 5
    ∷ marking stranger 1100
    ∷ marking destination 1099
    ∷ marking destination 1200
    -- before the mark's clock: 5
    ∷ hears 2 1199
    ∷ []

abbrev until_block : List Call
until_block =
    -- the same announce, while its hash is live, its blob stored and the target interval not over
    hears 2 1250
    -- too early: drop 15
    ∷ hears 3 1600
    ∷ []

abbrev again : List Call
again = marking destination 1900 ∷ []

-- those after the second mark
abbrev pub since_mark : List Call
since_mark =
    hears 2 1899
    ∷ marking stranger 1900
    ∷ marking destination 1900
    -- an older announce: drop 11
    ∷ hears 1 1900
    ∷ arrives data_bytes 2200 2
    ∷ []

abbrev at_last : List Call
at_last =
    hears 2 2500
    -- still blocked: drop 15
    ∷ hears 4 2800
    ∷ []

abbrev pub calls : List Call
calls = until_mark ++ (until_block ++ (again ++ (since_mark ++ at_last)))

given_mark : CallsBytes until_mark
unfolding EachCall CallBytes rule_of is_bytes is_byte table_ok all ◌and◌
given_mark = (refl, (refl, (refl, (refl, (refl, (refl, (refl, (refl, (refl, tt)))))))))

given_block : CallsBytes until_block
unfolding EachCall CallBytes rule_of is_bytes is_byte table_ok all ◌and◌
given_block = (refl, (refl, tt))

given_since : CallsBytes since_mark
unfolding EachCall CallBytes rule_of is_bytes is_byte table_ok all ◌and◌
given_since = (refl, (refl, (refl, (refl, (refl, tt)))))

given_last : CallsBytes at_last
unfolding EachCall CallBytes rule_of is_bytes is_byte table_ok all ◌and◌
given_last = (refl, (refl, tt))

given_again : CallsBytes again
unfolding EachCall CallBytes rule_of is_bytes is_byte table_ok all ◌and◌
given_again = (refl, tt)

given_mark_again : CallBytes (marking destination 1900)
unfolding CallBytes rule_of is_bytes is_byte table_ok all ◌and◌
given_mark_again = refl

given_second : CallBytes (hears 2 1250)
unfolding CallBytes is_bytes is_byte table_ok all ◌and◌
given_second = refl

given_blocked : CallsBytes (until_mark ++ until_block)
given_blocked = both_given until_mark until_block given_mark given_block

given : CallsBytes calls
given =
    both_given until_mark _ given_mark
    (both_given until_block _ given_block (both_given again _ given_again (both_given since_mark at_last given_since given_last)))

-- ---- what they reply
abbrev refused : Reply
refused = answered (Refused 5) blank

abbrev said_mark : List Reply
said_mark =
    numbered 0 ∷ numbered 0 ∷ numbered 0
    ∷ spread_of 2 ∷ answered (Judged (Drop Duplicate)) blank ∷ numbered 12 ∷ numbered 5 ∷ numbered 0 ∷ refused ∷ []

abbrev said_block : List Reply
said_block = spread_of 2 ∷ RateDrop blank ∷ []

abbrev pub said_since_lem : List Reply
said_since_lem = refused ∷ numbered 12 ∷ numbered 0 ∷ answered (Judged (Drop NotBetter)) blank ∷ forwards data_last_hop 1 ∷ []

abbrev said_last : List Reply
said_last = spread_of 2 ∷ RateDrop blank ∷ []

mark_run : Runs until_mark (fresh own) new_tally said_mark marked_relay (counting 1 0 1)
mark_run =
    port_one first port_two first strict_set.accepted first first_heard first again_dropped first no_path_lem first early_mark first marked
    first early_refused first no_call_lem

block_run : Runs until_block marked_relay (counting 1 0 1) said_block blocked_relay (counting 2 0 2)
block_run = revived first third_dropped first no_call_lem

since_run : Runs since_mark marked_again (counting 2 0 2) said_since_lem carried_marked (counting 3 1 2)
since_run = late_refused first still_no_path first marked_twice first older_dropped first data_carried first no_call_lem

again_run : Runs again blocked_relay (counting 2 0 2) (numbered 0 ∷ []) marked_again (counting 2 0 2)
again_run = marked_blocked first no_call_lem

last_run : Runs at_last carried_marked (counting 3 1 2) said_last last_relay (counting 4 1 3)
last_run = revived_again_lem first fourth_dropped first no_call_lem

-- demand 2 over them, on the bytes
pub all_said : Goes calls (said_mark ++ (said_block ++ ((numbered 0 ∷ []) ++ (said_since_lem ++ said_last)))) last_relay (counting 4 1 3)
all_said = goes given (mark_run then_runs (block_run then_runs (again_run then_runs (since_run then_runs last_run))))

-- ---- new_enough_revives_on: the announce whose hash is live and whose blob is stored
marked_held : Held marked_relay
marked_held = held given_mark mark_run

abbrev second : OutcomeOn
second = perform_on (hears 2 1250) (bytes_of marked_relay) (counting 1 0 1)

pub second_revives : Revived (arrival (sent 2) 1250 1) second.reply (relay_of second.tables)
second_revives =
    let h = marked_held in
    let s = h.shape in
    let ok = h.ok in
    let there : relay_of (bytes_of marked_relay) ≡ marked_relay = back marked_relay s ok in
    new_enough_revives_on (bytes_of marked_relay) (counting 1 0 1) (bytes_bytes marked_relay s ok) (ok_bytes marked_relay s ok) (with_path_mark one_path)
    (arrival (sent 2) 1250 1) blank given_second (subst (NewEnough (with_path_mark one_path) (arrival (sent 2) 1250 1) blank) (sym there) as_new_first)

-- ---- mark_stays_on: through the calls after the second mark
blocked_held : Held blocked_relay
blocked_held = held given_blocked (mark_run then_runs block_run)

again_held : Held marked_again
again_held =
    held (both_given until_mark _ given_mark (both_given until_block again given_block given_again)) (mark_run then_runs (block_run then_runs again_run))

none_load : none_loads since_mark ≡ true
unfolding no_call sets_relay ◌and◌
none_load = refl

none_accepted : NoneAccepted destination since_mark said_since_lem
unfolding NoneAccepted
none_accepted = (λ _. refl, (λ _. refl, (λ _. refl, (λ _. refl, (λ _. refl, tt)))))

abbrev mark : OutcomeOn
mark = perform_on (marking destination 1900) (bytes_of blocked_relay) (counting 2 0 2)

mark_is : mark ≡ record { reply = numbered 0; tables = bytes_of marked_again; tally = counting 2 0 2 }
unfolding outcome_on
mark_is =
    call_on_lem blocked_relay blocked_held.shape blocked_held.ok (counting 2 0 2) (marking destination 1900) given_mark_again
    ∙ ap outcome_on marked_blocked

-- the calls after it, on its bytes
since_follows : FollowsTheRules since_mark (bytes_of marked_again) (counting 2 0 2) marked_again
since_follows = run_on since_mark marked_again (counting 2 0 2) given_since again_held.ok again_held.shape

since_said : replies_on since_mark mark.tables mark.tally ≡ said_since_lem
since_said =
    ap (λ (o : OutcomeOn). replies_on since_mark o.tables o.tally) mark_is
    ∙ since_follows.answers
    ∙ since_run.answers

known : (view_at 1900 blocked_relay).path destination ≡ used blocked_path
unfolding rules
known = refl

stays_marked : StaysMarkedOn destination blocked_path since_mark mark.tables mark.tally
stays_marked =
    let h = blocked_held in
    let s = h.shape in
    let ok = h.ok in
    let there : relay_of (bytes_of blocked_relay) ≡ blocked_relay = back blocked_relay s ok in
    mark_stays_on (bytes_of blocked_relay) (counting 2 0 2) (bytes_bytes blocked_relay s ok) (ok_bytes blocked_relay s ok) destination 1900 given_mark_again
    blocked_path
    (record {
      accepted = ap (λ (o : OutcomeOn). o.reply) mark_is;
      live = ap (λ (r : Relay). (view_at 1900 r).path destination) there ∙ known;
    })
    since_mark given_since none_load (subst (NoneAccepted destination since_mark) (sym since_said) none_accepted)

abbrev last_tables_lem : List ℕ
last_tables_lem = tables_after_on since_mark mark.tables mark.tally

the_last_clock : (relay_of last_tables_lem).clock ≡ 2200
unfolding with_rate
the_last_clock =
    let h = held (both_given until_mark _ given_mark (both_given until_block _ given_block (both_given again since_mark given_again given_since)))
    (mark_run then_runs (block_run then_runs (again_run then_runs since_run))) in
    ap (λ (o : OutcomeOn). (relay_of (tables_after_on since_mark o.tables o.tally)).clock) mark_is
    ∙ ap (λ (x : List ℕ). (relay_of x).clock) (since_follows.tables ∙ ap bytes_of since_run.relay)
    ∙ ap (λ (r : Relay). r.clock) (back carried_marked h.shape h.ok)

-- in the last second before the path expires, too
pub still_marked_lem : MarkedAt destination 22850 22849 (relay_of last_tables_lem)
still_marked_lem = stays_marked 22849 (subst (λ (n : ℕ). n ≤ 22849) (sym the_last_clock) (lit≤ tt)) (lit≤ tt)

-- ---- clock_history: the last clock is the mark's, and then that of the data
none_load_again : none_loads again ≡ true
unfolding no_call sets_relay ◌and◌
none_load_again = refl

pub clock_of_mark : last_clock again blocked_relay (counting 2 0 2) 1600 ≡ 1900
unfolding with_rate
clock_of_mark = sym (clock_history again blocked_relay (counting 2 0 2) none_load_again) ∙ ap (λ (r : Relay). r.clock) again_run.relay

pub clock_of_data : last_clock since_mark marked_again (counting 2 0 2) 1900 ≡ 2200
unfolding with_rate
clock_of_data = sym (clock_history since_mark marked_again (counting 2 0 2) none_load) ∙ ap (λ (r : Relay). r.clock) since_run.relay
