-- Wish 2's theorem on one list of calls, on the bytes of a relay with a proved link: keepalives from both sides, the same bytes twice within 300 s
-- and the last one 719 s after the one before, with calls that are accepted, dropped and refused between them.
use Prim.Native.Nat.{ℕ, ◌+◌}
use mathlib.Core.Bool.{Bool, true, false, false≢true}
use mathlib.Core.List.{List, [], ◌∷◌, ◌++◌}
use mathlib.Core.Path.{◌≡◌, refl, sym, ap, subst, ◌∙◌}
use lib.Dec.{lit≤}
use lib.ListN.{replicate}
use borrow.Author.Tests.{eqb-true}
use Rattle.octets.specs.Index.{◌and◌}
use Rattle.rules.specs.Relay.{fresh_port, no_rate_settings, make_port, Port, make_relay, empty, used, Relay, fresh}
use Rattle.rules.specs.View.{view_at}
use Rattle.rules.specs.Refusals.{all, table_ok}
use Rattle.rules.specs.Arrival.{Arrival}
use Rattle.rules.specs.Calls.{new_tally, rule_of}
use Rattle.rules.specs.Run.{EachCall, Call, packet, port_setting, renumbering, Reply, answered, numbered, Outcome, perform, relay_after}
use Rattle.rules.specs.Keepalives.{is_keepalive, keeps_alive, UpAt, Carried, accepted, fair, next_deadline, Starts, InTime, CarriedIf}
use Rattle.rules.specs.declared.Link.{Link}
use Rattle.rules.specs.declared.Tally.{Tally}
use Rattle.rules.specs.declared.Reason.TheVariants.{WrongSide}
use Rattle.rules.specs.declared.Verdict.TheVariants.{Drop}
use Rattle.rules.specs.declared.Answer.TheVariants.{Refused, Judged}
use Rattle.rules.proofs.Unfolding.{rules}
use Rattle.rules.proofs.Scene.{own, blank, announce_bytes, request_bytes, link, link_proof_bytes, arrival, arrives, proved, asked, announced, prepared}
use Rattle.rules.proofs.Outcomes.{forwards, link_of, proved_relay, proved_is}
use Rattle.rules.proofs.Valid.{stays_ok, fresh_ok, step_ok}
use Rattle.tables.specs.Layout.{relay_of, bytes_of}
use Rattle.tables.specs.Shape.{is_byte, is_bytes}
use Rattle.tables.proofs.Whole.{back, ok_bytes, bytes_bytes}
use Rattle.demands.specs.Given.{CallBytes, CallsBytes}
use Rattle.demands.specs.Bytes.{OutcomeOn, perform_on}
use Rattle.demands.specs.Refusals.{refusal_on}
use Rattle.demands.specs.Keepalives.{LastsOn}
use Rattle.demands.proofs.Shape.{step_shaped, stays_shaped, fresh_shaped}
use Rattle.demands.proofs.Demand2.{outcome_on, call_on_lem}
use Rattle.demands.proofs.Instance2.{sixteen, Held}
use Rattle.demands.proofs.Keepalives.{accepted_bytes, keepalive_carried_on, keepalives_keep_on}

-- ---- the calls
-- a keepalive of the link, with the hops given
abbrev keepalive_bytes : ℕ → List ℕ
keepalive_bytes hops = 0x0c ∷ hops ∷ (link ++ (0xfa ∷ 0xff ∷ []))

-- from the answering side
abbrev first_call : Call
first_call = arrives (keepalive_bytes 0) 2100 1

-- the same bytes 100 s later
abbrev again_call : Call
again_call = arrives (keepalive_bytes 0) 2200 1

-- by no port of the sixteen: 4
abbrev refused_call : Call
refused_call = arrives (keepalive_bytes 0) 9000 77

-- with the hops of neither side: drop 8
abbrev dropped_call : Call
dropped_call = arrives (keepalive_bytes 9) 2850 1

-- from the asking side, 719 s after the last
abbrev last_call : Call
last_call = arrives (keepalive_bytes 3) 2919 2

-- all behind the first
abbrev later : List Call
later =
    again_call ∷ refused_call
    -- no map of the sixteen: 8
    ∷ renumbering []
    -- a port of the link, still on, and its size that of a keepalive
    ∷ port_setting 1 true 1 20
    ∷ dropped_call ∷ last_call ∷ []

abbrev pub calls : List Call
calls = first_call ∷ later

given : CallsBytes calls
unfolding EachCall CallBytes rule_of is_bytes is_byte table_ok all ◌and◌
given = (refl, (refl, (refl, (refl, (refl, (refl, (refl, tt)))))))

-- ---- the start: a relay that calls from fresh lead to, whose link was proved at 2,001 and has 720 s to live
abbrev link_is : ℕ → Link
link_is expiry = link_of link 2 1 true expiry

abbrev l : Link
l = link_is 2721

abbrev setup : List Call
setup =
    port_setting 1 true 2 500 ∷ port_setting 2 true 0 500 ∷ arrives announce_bytes 1000 1 ∷ arrives request_bytes 2000 2
    ∷ arrives (link_proof_bytes 0) 2001 1 ∷ []

setup_given : CallsBytes setup
unfolding EachCall CallBytes rule_of is_bytes is_byte table_ok all ◌and◌
setup_given = (refl, (refl, (refl, (refl, (refl, tt)))))

setup_leads : relay_after setup (fresh own) new_tally ≡ proved_relay
unfolding relay_after proved asked announced prepared
setup_leads = ap (λ (o : Outcome). o.relay) proved_is

start_held : Held proved_relay
start_held =
    subst Held setup_leads
    (record {
      shape = stays_shaped setup (fresh own) new_tally setup_given (fresh_ok own) (fresh_shaped own sixteen);
      ok = stays_ok setup (fresh own) new_tally (fresh_ok own);
    })

start_up : Starts l 2721 proved_relay
unfolding rules
start_up =
    record {
      expiry = 2721;
      up = record { lives = refl; asking = refl; answering = refl };
      lasts = lit≤ tt;
      near = lit≤ tt;
    }

-- ---- call by call
-- the link with this expiry, at a clock, with these settings of ports
abbrev up_relay : List Port → ℕ → ℕ → Relay
up_relay ports clock expiry =
    make_relay own clock no_rate_settings ports proved_relay.locals proved_relay.paths (used (link_is expiry) ∷ replicate 63 empty) proved_relay.returns
    proved_relay.hashes

abbrev ports_by : (mode size : ℕ) → List Port
ports_by mode size = fresh_port ∷ make_port true mode size ∷ make_port true 0 500 ∷ replicate 13 fresh_port

abbrev counting : (dropped forwarded : ℕ) → Tally
counting dropped forwarded =
    record { total = dropped + forwarded; dropped = dropped; delivered = 0; forwarded = forwarded; spread = 0; kept = 0 }

first_done : perform first_call proved_relay new_tally
    ≡ record { reply = forwards (keepalive_bytes 1) 2; relay = up_relay (ports_by 2 500) 2100 2820; tally = counting 0 1 }
unfolding rules
first_done = refl

again_done : perform again_call (up_relay (ports_by 2 500) 2100 2820) (counting 0 1)
    ≡ record { reply = forwards (keepalive_bytes 1) 2; relay = up_relay (ports_by 2 500) 2200 2920; tally = counting 0 2 }
unfolding rules
again_done = refl

refused_done : perform refused_call (up_relay (ports_by 2 500) 2200 2920) (counting 0 2)
    ≡ record { reply = answered (Refused 4) blank; relay = up_relay (ports_by 2 500) 2200 2920; tally = counting 0 2 }
unfolding rules
refused_done = refl

map_done : perform (renumbering []) (up_relay (ports_by 2 500) 2200 2920) (counting 0 2)
    ≡ record { reply = numbered 8; relay = up_relay (ports_by 2 500) 2200 2920; tally = counting 0 2 }
unfolding rules
map_done = refl

port_done : perform (port_setting 1 true 1 20) (up_relay (ports_by 2 500) 2200 2920) (counting 0 2)
    ≡ record { reply = numbered 0; relay = up_relay (ports_by 1 20) 2200 2920; tally = counting 0 2 }
unfolding rules
port_done = refl

dropped_done : perform dropped_call (up_relay (ports_by 1 20) 2200 2920) (counting 0 2)
    ≡ record { reply = answered (Judged (Drop WrongSide)) blank; relay = up_relay (ports_by 1 20) 2850 2920; tally = counting 1 2 }
unfolding rules
dropped_done = refl

-- ---- they come in time
record Timely (deadline : ℕ) (cs : List Call) (r : Relay) (t : Tally) : Type 0 where
  in_time : InTime l deadline cs r t

-- what one call has to be, and the deadline behind it
record TallyFits (c : Call) (r : Relay) (deadline : ℕ) (taken : Bool) (next : ℕ) : Type 0 where
  is : accepted c r ≡ taken
  justly : taken ≡ true → fair l deadline c ≡ true
  then : next_deadline r l deadline c taken ≡ next

-- a call, and those after it
timely : {c : Call} {cs : List Call} {r between : Relay} {t counts : Tally} {reply : Reply} {deadline next : ℕ} {taken : Bool}
    → perform c r t ≡ record { reply = reply; relay = between; tally = counts } → TallyFits c r deadline taken next
    → Timely next cs between counts → Timely deadline (c ∷ cs) r t
unfolding InTime
timely {c} {cs} {r} {between} {t} {counts} {deadline = deadline} done fits rest =
    record {
      in_time = (
        λ e. fits.justly (sym fits.is ∙ e),
        subst (λ (o : Outcome). InTime l (next_deadline r l deadline c (accepted c r)) cs o.relay o.tally) (sym done)
            (subst (λ (n : ℕ). InTime l n cs between counts) (sym (ap (next_deadline r l deadline c) fits.is ∙ fits.then)) rest.in_time),
      );
    }

first_fits : TallyFits first_call proved_relay 2721 true 2820
unfolding rules accepted fair next_deadline keeps_alive is_keepalive
first_fits = record { is = refl; justly = λ _. refl; then = refl }

again_fits : TallyFits again_call (up_relay (ports_by 2 500) 2100 2820) 2820 true 2920
unfolding rules accepted fair next_deadline keeps_alive is_keepalive
again_fits = record { is = refl; justly = λ _. refl; then = refl }

refused_fits : TallyFits refused_call (up_relay (ports_by 2 500) 2200 2920) 2920 false 2920
unfolding rules accepted next_deadline
refused_fits = record { is = refl; justly = λ e. absurd (false≢true e); then = refl }

map_fits : TallyFits (renumbering []) (up_relay (ports_by 2 500) 2200 2920) 2920 false 2920
unfolding rules accepted next_deadline
map_fits = record { is = refl; justly = λ e. absurd (false≢true e); then = refl }

port_fits : TallyFits (port_setting 1 true 1 20) (up_relay (ports_by 2 500) 2200 2920) 2920 true 2920
unfolding rules accepted fair next_deadline
port_fits = record { is = refl; justly = λ _. refl; then = refl }

dropped_fits : TallyFits dropped_call (up_relay (ports_by 1 20) 2200 2920) 2920 true 2920
unfolding rules accepted fair next_deadline keeps_alive is_keepalive
dropped_fits = record { is = refl; justly = λ _. refl; then = refl }

last_timely : Timely 2920 (last_call ∷ []) (up_relay (ports_by 1 20) 2850 2920) (counting 1 2)
unfolding rules InTime fair
last_timely = record { in_time = (λ _. refl, tt) }

all_timely : Timely 2721 calls proved_relay new_tally
all_timely =
    timely first_done first_fits
    (timely again_done again_fits
    (timely refused_done refused_fits (timely map_done map_fits (timely port_done port_fits (timely dropped_done dropped_fits last_timely)))))

-- ---- the theorem
lasts : LastsOn l calls (bytes_of proved_relay) new_tally
lasts =
    let h = start_held in
    let there : proved_relay ≡ relay_of (bytes_of proved_relay) = sym (back proved_relay h.shape h.ok) in
    keepalives_keep_on (bytes_of proved_relay) new_tally (bytes_bytes proved_relay h.shape h.ok) (ok_bytes proved_relay h.shape h.ok) l calls 2721
    given (subst (Starts l 2721) there start_up) (subst (λ (r : Relay). InTime l 2721 calls r new_tally) there all_timely.in_time)

-- ---- what it says, on tables that are written out
record Left (cs : List Call) (r : Relay) (t : Tally) : Type 0 where
  held : Held r
  given_rest : CallsBytes cs
  lasts_on : LastsOn l cs (bytes_of r) t

begin : Left calls proved_relay new_tally
begin = record { held = start_held; given_rest = given; lasts_on = lasts }

-- behind a call
past : {c : Call} {cs : List Call} {r between : Relay} {t counts : Tally} {reply : Reply} → Left (c ∷ cs) r t
    → perform c r t ≡ record { reply = reply; relay = between; tally = counts } → Left cs between counts
unfolding EachCall LastsOn outcome_on
past {c} {cs} {r} {between} {t} left done =
    let h = left.held in
    record {
      held =
          subst Held (ap (λ (o : Outcome). o.relay) done)
          (record { shape = step_shaped c r t left.given_rest.0 h.ok h.shape; ok = step_ok c r t h.ok });
      given_rest = left.given_rest.1;
      lasts_on =
          subst (λ (o : OutcomeOn). LastsOn l cs o.tables o.tally) (call_on_lem r h.shape h.ok t c left.given_rest.0 ∙ ap outcome_on done)
          left.lasts_on.2;
    }

-- of a keepalive
said : {a : Arrival} {output : List ℕ} {cs : List Call} {r : Relay} {t : Tally} → Left (packet a output ∷ cs) r t
    → accepted (packet a output) r ≡ true → keeps_alive r l a ≡ true
    → Carried l a output (perform_on (packet a output) (bytes_of r) t).reply (relay_of (perform_on (packet a output) (bytes_of r) t).tables)
unfolding EachCall LastsOn CarriedIf
said {a} {output} {cs} {r} left taken k =
    left.lasts_on.0 (accepted_bytes r left.held.shape left.held.ok (packet a output) left.given_rest.0 ∙ taken)
    (ap (λ (r : Relay). keeps_alive r l a) (back r left.held.shape left.held.ok) ∙ k)

behind_first : Left later (up_relay (ports_by 2 500) 2100 2820) (counting 0 1)
behind_first = past begin first_done

before_last : Left (last_call ∷ []) (up_relay (ports_by 1 20) 2850 2920) (counting 1 2)
before_last = past (past (past (past (past behind_first again_done) refused_done) map_done) port_done) dropped_done

pub again_forwarded : (perform_on again_call (bytes_of (up_relay (ports_by 2 500) 2100 2820)) (counting 0 1)).reply ≡ forwards (keepalive_bytes 1) 2
unfolding rules accepted keeps_alive is_keepalive
again_forwarded = (said behind_first refl refl).forwarded

pub last_forwarded : (perform_on last_call (bytes_of (up_relay (ports_by 1 20) 2850 2920)) (counting 1 2)).reply ≡ forwards (keepalive_bytes 4) 1
unfolding rules accepted keeps_alive is_keepalive
last_forwarded = (said before_last refl refl).forwarded

abbrev last_tables : List ℕ
last_tables = (perform_on last_call (bytes_of (up_relay (ports_by 1 20) 2850 2920)) (counting 1 2)).tables

pub last_renewed : (view_at 2919 (relay_of last_tables)).link link ≡ used (link_is 3639)
unfolding rules accepted keeps_alive is_keepalive
last_renewed = (said before_last refl refl).renewed

-- ---- the theorem about one keepalive, on the same tables
pub one_forwarded : (perform_on first_call (bytes_of proved_relay) new_tally).reply ≡ forwards (keepalive_bytes 1) 2
unfolding rules EachCall accepted keeps_alive is_keepalive
one_forwarded =
    let h = start_held in
    let there : proved_relay ≡ relay_of (bytes_of proved_relay) = sym (back proved_relay h.shape h.ok) in
    let up : UpAt l 2721 2100 proved_relay = record { lives = refl; asking = refl; answering = refl } in
    let none : refusal_on first_call (bytes_of proved_relay) ≡ 0 = eqb-true _ 0 (accepted_bytes proved_relay h.shape h.ok first_call given.0) in
    (keepalive_carried_on (bytes_of proved_relay) new_tally (bytes_bytes proved_relay h.shape h.ok) (ok_bytes proved_relay h.shape h.ok) l 2721
    (arrival (keepalive_bytes 0) 2100 1) blank given.0 (subst (UpAt l 2721 2100) there up)
    (ap (λ (r : Relay). keeps_alive r l (arrival (keepalive_bytes 0) 2100 1)) (sym there)) none).forwarded

-- ---- wish 11: where the port of the other side carries a byte less, it is no keepalive that keeps the link
pub too_long : keeps_alive (up_relay (ports_by 1 19) 2850 2920) l (arrival (keepalive_bytes 3) 2919 2) ≡ false
unfolding rules keeps_alive is_keepalive
too_long = refl
