-- Document 02, wish 5, about the bytes: "A new sensor announces every few seconds." What test 15 leaves alone, and what it does to a destination that
-- announces too often.
use Prim.Native.Nat.{ℕ}
use mathlib.Core.Bool.{true}
use mathlib.Core.List.{List, [], ◌∷◌}
use mathlib.Core.Path.{◌≡◌, sym, subst}
use lib.ListN.{length}
use Rattle.octets.specs.Bytes.{Bytes}
use Rattle.rules.specs.Relay.{Path, Relay, fresh}
use Rattle.rules.specs.Refusals.{tables_ok}
use Rattle.rules.specs.Arrival.{Arrival}
use Rattle.rules.specs.Calls.{new_tally}
use Rattle.rules.specs.Run.{Call, packet, EachCall, Outcome, perform, none_loads}
use Rattle.rules.specs.Chatty.{NoTarget, RateOff, WhileBlocked, PathsStay, OnTime, LetBy, SpacedCall, Spaced, NotDropped, NotBlocked, NeverBlocked}
use Rattle.rules.specs.declared.Tally.{Tally}
use Rattle.rules.proofs.Valid.{step_ok, fresh_ok}
use Rattle.rules.proofs.ChattyPacket.{blocked_announce_stays, on_time_let_by}
use Rattle.rules.proofs.ChattyOff.{off_without_target}
use Rattle.rules.proofs.ChattySpaced.{spaced_never_blocked}
use Rattle.tables.specs.Places.{address_width, table_size}
use Rattle.tables.specs.Layout.{relay_of, bytes_of, well_formed}
use Rattle.tables.specs.Shape.{is_bytes, shaped}
use Rattle.tables.specs.Called.{Called}
use Rattle.tables.proofs.Whole.{back}
use Rattle.settings.specs.Calls.{fresh_on}
use Rattle.demands.specs.Given.{CallBytes, CallsBytes}
use Rattle.demands.specs.Bytes.{OutcomeOn, perform_on, replies_on}
use Rattle.demands.specs.Chatty.{SpacedOn, NeverBlockedOn}
use Rattle.demands.proofs.Shape.{step_shaped, fresh_shaped}
use Rattle.demands.proofs.Demand2.{outcome_on, call_on_lem, relay_bytes, reply_bytes, by_the_rules, fresh_made, follows_the_rules_fresh}

-- ---- lists of calls on a relay's bytes
spaced_by : (d : List ℕ) (cs : List Call) (r : Relay) (t : Tally) → CallsBytes cs → tables_ok r ≡ true → shaped r ≡ true → SpacedOn d cs (bytes_of r) t
    → Spaced d cs r t
unfolding EachCall Spaced SpacedOn outcome_on
spaced_by d [] r t b ok s spaced = tt
spaced_by d (c ∷ cs) r t b ok s spaced =
    let o : Outcome = perform c r t in
    let rest = subst (λ (y : OutcomeOn). SpacedOn d cs y.tables y.tally) (call_on_lem r s ok t c b.0) spaced.1 in (
      subst (SpacedCall d c) (back r s ok) spaced.0,
      spaced_by d cs o.relay o.tally b.1 (step_ok c r t ok) (step_shaped c r t b.0 ok s) rest,
    )

-- .. and the other way
pub spaced_on : (d : List ℕ) (cs : List Call) (r : Relay) (t : Tally) → CallsBytes cs → tables_ok r ≡ true → shaped r ≡ true → Spaced d cs r t
    → SpacedOn d cs (bytes_of r) t
unfolding EachCall Spaced SpacedOn outcome_on
spaced_on d [] r t b ok s spaced = tt
spaced_on d (c ∷ cs) r t b ok s spaced =
    let o : Outcome = perform c r t in
    let rest : SpacedOn d cs (bytes_of o.relay) o.tally =
    spaced_on d cs o.relay o.tally b.1 (step_ok c r t ok) (step_shaped c r t b.0 ok s) spaced.1 in (
      subst (SpacedCall d c) (sym (back r s ok)) spaced.0,
      subst (λ (y : OutcomeOn). SpacedOn d cs y.tables y.tally) (sym (call_on_lem r s ok t c b.0)) rest,
    )

never_on : (d : List ℕ) (cs : List Call) (r : Relay) (t : Tally) → CallsBytes cs → tables_ok r ≡ true → shaped r ≡ true → NeverBlocked d cs r t
    → NeverBlockedOn d cs (bytes_of r) t
unfolding EachCall NeverBlocked NeverBlockedOn outcome_on
never_on d [] r t b ok s never = tt
never_on d (c ∷ cs) r t b ok s never =
    let o : Outcome = perform c r t in
    let rest : NeverBlockedOn d cs (bytes_of o.relay) o.tally =
    never_on d cs o.relay o.tally b.1 (step_ok c r t ok) (step_shaped c r t b.0 ok s) never.2 in (
      subst (NotDropped d c) (sym (reply_bytes r s ok t c b.0)) never.0,
      subst (NotBlocked d) (sym (relay_bytes r s ok t c b.0)) never.1,
      subst (λ (y : OutcomeOn). NeverBlockedOn d cs y.tables y.tally) (sym (call_on_lem r s ok t c b.0)) rest,
    )

-- ---- the theorems over lists, from the bytes that `fresh` makes of a buffer of the right size, whatever it held, with tally 0
module _ (buffer own : List ℕ) (size : length buffer ≡ table_size) (cs : List Call) (given : CallsBytes cs) (h : is_bytes address_width own ≡ true)
    (none : none_loads cs ≡ true) where
  abbrev start : List ℕ
  start = (fresh_on buffer own).tables

  -- (a) where no accepted rate setting has a target above 0, no packet is dropped by 15, and each answer is the one that the rules without it give
  pub off_without_target_on : NoTarget cs (replies_on cs start new_tally) → RateOff cs (fresh own) new_tally (replies_on cs start new_tally)
  off_without_target_on target =
      let same = (follows_the_rules_fresh buffer own size cs given h).answers in
      subst (RateOff cs (fresh own) new_tally) (sym same) (off_without_target own cs none (subst (NoTarget cs) same target))

  -- (d) a destination whose announces keep the target interval is never blocked
  pub spaced_never_blocked_on : (d : List ℕ) → SpacedOn d cs start new_tally → NeverBlockedOn d cs start new_tally
  spaced_never_blocked_on d spaced =
      let made = fresh_made buffer own size in
      let spaced' : SpacedOn d cs (bytes_of (fresh own)) new_tally = subst (λ (x : Called). SpacedOn d cs x.tables new_tally) made spaced in
      subst (λ (x : Called). NeverBlockedOn d cs x.tables new_tally) (sym made)
      (never_on d cs (fresh own) new_tally given (fresh_ok own) (fresh_shaped own h)
      (spaced_never_blocked own d cs none (spaced_by d cs (fresh own) new_tally given (fresh_ok own) (fresh_shaped own h) spaced')))

-- ---- the theorems about one packet, from any tables that are well formed, and any tally
module _ (tables : List ℕ) (tally : Tally) (b : Bytes tables) (h : well_formed tables ≡ true) (p : Path) (a : Arrival) (output : List ℕ)
    (given : CallBytes (packet a output)) where
  abbrev after : OutcomeOn
  after = perform_on (packet a output) tables tally

  -- (b) an announce for a live path at clock < blocked-until changes no record of a path
  pub blocked_announce_stays_on : WhileBlocked p a (relay_of tables) → PathsStay (relay_of tables) (relay_of after.tables)
  blocked_announce_stays_on blocked =
      by_the_rules (λ _. PathsStay (relay_of tables)) (packet a output) tables tally given b h
      (blocked_announce_stays p a output (relay_of tables) tally blocked)

  -- (c) at clock >= blocked-until and clock >= last + target, 15 doesn't drop, and one violation, if any, is forgiven
  pub on_time_let_by_on : OnTime p a (relay_of tables) → LetBy p a output (relay_of tables) after.reply (relay_of after.tables)
  on_time_let_by_on on_time =
      by_the_rules (LetBy p a output (relay_of tables)) (packet a output) tables tally given b h
      (on_time_let_by p a output (relay_of tables) tally on_time)
