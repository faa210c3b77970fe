-- Document 02, wish 2, about the bytes: "A keepalive is the same bytes each time, so within 300 s the second drops as a duplicate and the link dies."
-- Now it is forwarded, however often it came, and a link whose keepalives come in time lives through any list of calls on well-formed tables.
use Prim.Native.Nat.{ℕ}
use mathlib.Core.Bool.{Bool, true}
use mathlib.Core.List.{List, [], ◌∷◌}
use mathlib.Core.Path.{◌≡◌, refl, sym, ap, subst, ◌∙◌}
use lib.Dec.{eqb}
use borrow.Author.Tests.{eq-eqb}
use Rattle.octets.specs.Bytes.{Bytes}
use Rattle.rules.specs.Relay.{Relay}
use Rattle.rules.specs.Refusals.{tables_ok}
use Rattle.rules.specs.Arrival.{Arrival}
use Rattle.rules.specs.Run.{Call, packet, on_tables, asks, saves, loads, EachCall, Outcome, perform}
use Rattle.rules.specs.Keepalives.{keeps_alive, UpAt, Carried, accepted, Starts, InTime, CarriedIf, IsUp, Lasts}
use Rattle.rules.specs.declared.Link.{Link}
use Rattle.rules.specs.declared.Tally.{Tally}
use Rattle.rules.proofs.Valid.{step_ok}
use Rattle.rules.proofs.Lasting.{keepalive_carried, keepalives_keep}
use Rattle.tables.specs.Layout.{relay_of, bytes_of, well_formed}
use Rattle.tables.specs.Shape.{shaped}
use Rattle.tables.proofs.Whole.{again, ok_relay, shaped_of, back}
use Rattle.demands.specs.Given.{CallBytes, CallsBytes}
use Rattle.demands.specs.Bytes.{OutcomeOn, perform_on}
use Rattle.demands.specs.Refusals.{refusal, refusal_on}
use Rattle.demands.specs.Keepalives.{LastsOn}
use Rattle.demands.proofs.Shape.{step_shaped}
use Rattle.demands.proofs.Demand2.{refusal_bytes, outcome_on, call_on_lem, relay_bytes, reply_bytes, by_the_rules}

-- ---- one call on a relay's bytes
by_rules : (c : Call) (r : Relay) → eqb (refusal c r) 0 ≡ accepted c r
unfolding refusal accepted
by_rules (packet a output) r = refl
by_rules (on_tables c) r = refl
by_rules (asks q) r = refl
by_rules (saves format room) r = refl
by_rules (loads format file) r = refl

module _ (r : Relay) (s : shaped r ≡ true) (ok : tables_ok r ≡ true) where
  pub accepted_bytes : (c : Call) → CallBytes c → eqb (refusal_on c (bytes_of r)) 0 ≡ accepted c r
  accepted_bytes c given = ap (λ (n : ℕ). eqb n 0) (refusal_bytes r s ok c given) ∙ by_rules c r

-- ---- lists of calls on a relay's bytes
lasts_on : (l : Link) (cs : List Call) (r : Relay) (t : Tally) → CallsBytes cs → tables_ok r ≡ true → shaped r ≡ true → Lasts l cs r t
    → LastsOn l cs (bytes_of r) t
unfolding EachCall Lasts LastsOn outcome_on
lasts_on l [] r t b ok s lasts = tt
lasts_on l (c ∷ cs) r t b ok s lasts =
    let o : Outcome = perform c r t in
    let x : OutcomeOn = perform_on c (bytes_of r) t in
    let relay : o.relay ≡ relay_of x.tables = sym (relay_bytes r s ok t c b.0) in
    let was : r ≡ relay_of (bytes_of r) = sym (back r s ok) in
    let sized = subst (λ (y : Relay). CarriedIf l c (accepted c r) y o.reply o.relay) was lasts.0 in
    let carried = subst (λ (y : Relay). CarriedIf l c (accepted c r) (relay_of (bytes_of r)) o.reply y) relay sized in
    let told = subst (λ y. CarriedIf l c (accepted c r) (relay_of (bytes_of r)) y (relay_of x.tables)) (sym (reply_bytes r s ok t c b.0)) carried in
    let taken = subst (λ (y : Bool). CarriedIf l c y (relay_of (bytes_of r)) x.reply (relay_of x.tables)) (sym (accepted_bytes r s ok c b.0)) told in
    let rest : LastsOn l cs (bytes_of o.relay) o.tally =
    lasts_on l cs o.relay o.tally b.1 (step_ok c r t ok) (step_shaped c r t b.0 ok s) lasts.2 in (
      taken,
      subst (IsUp l) relay lasts.1,
      subst (λ (y : OutcomeOn). LastsOn l cs y.tables y.tally) (sym (call_on_lem r s ok t c b.0)) rest,
    )

-- ---- the theorems, from any tables that are well formed, and any tally
-- where the view at its clock has the link live and proved and both its ports are on, a keepalive that isn't refused, nor too long for the port of the other
-- side, is forwarded, and the link's expiry is its clock + 720: whatever hashes the tables hold
module _ (tables : List ℕ) (tally : Tally) (b : Bytes tables) (h : well_formed tables ≡ true) where
  pub keepalive_carried_on : (l : Link) (expiry : ℕ) (a : Arrival) (output : List ℕ) → CallBytes (packet a output)
      → UpAt l expiry a.clock (relay_of tables) → keeps_alive (relay_of tables) l a ≡ true → refusal_on (packet a output) tables ≡ 0
      → Carried l a output (perform_on (packet a output) tables tally).reply (relay_of (perform_on (packet a output) tables tally).tables)
  keepalive_carried_on l expiry a output given up k none =
      let c : Call = packet a output in
      let r : Relay = relay_of tables in
      let s = shaped_of tables b h in
      let ok = ok_relay tables h in
      let zero : eqb (refusal_on c (bytes_of r)) 0 ≡ true = eq-eqb _ 0 (ap (refusal_on c) (again tables b h) ∙ none) in
      by_the_rules (Carried l a output) c tables tally given b h
      (keepalive_carried l expiry r a output tally up k (sym (accepted_bytes r s ok c given) ∙ zero))

  -- and where such keepalives come in time, the link lives through any list of calls
  pub keepalives_keep_on : (l : Link) (cs : List Call) (deadline : ℕ) → CallsBytes cs
      → Starts l deadline (relay_of tables) → InTime l deadline cs (relay_of tables) tally → LastsOn l cs tables tally
  keepalives_keep_on l cs deadline given starts in_time =
      subst (λ (x : List ℕ). LastsOn l cs x tally) (again tables b h)
      (lasts_on l cs (relay_of tables) tally given (ok_relay tables h) (shaped_of tables b h)
      (keepalives_keep l cs deadline (relay_of tables) tally starts in_time))
