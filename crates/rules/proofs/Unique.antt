-- From fresh with no load, no table has two live records of one key, nor a live path two equal blobs, at any clock not below the last.
use Prim.Native.Nat.{ℕ, ◌≤◌}
use native.Mathlib.Nat.{le_refl}
use native.Mathlib.Omega.{arith}
use mathlib.Core.Bool.{true, false, false≢true}
use mathlib.Core.List.{List}
use mathlib.Core.Path.{◌≡◌, sym, subst, ◌∙◌}
use lib.ListN.{length}
use borrow.Author.Tests.{ltb-false, eqb-true}
use Rattle.octets.specs.Choice.{same}
use Rattle.octets.proofs.Choice.{eq_same, or_no_right}
use Rattle.numbers.specs.Numbers.{local_count, path_count, link_count, return_count, hash_count}
use Rattle.rules.specs.Relay.{Relay, fresh, lowest, with_clock, with_rate, with_ports, with_locals}
use Rattle.rules.specs.View.{View, view_at, local_place, is_local}
use Rattle.rules.specs.Renumbering.{renumbered}
use Rattle.rules.specs.Refusals.{tables_ok}
use Rattle.rules.specs.Arrival.{Arrival}
use Rattle.rules.specs.Judging.{plan}
use Rattle.rules.specs.Writes.{enact}
use Rattle.rules.specs.Calls.{TableCall, sets_port, sets_rate, adds, removes, renumbers, notes_path, rule_of}
use Rattle.rules.specs.Run.{Call, packet, on_tables, asks, saves, loads, of_told, perform, relay_after, sets_relay, none_loads}
use Rattle.rules.specs.declared.Tally.{Tally}
use Rattle.octets.proofs.Listed.{NoneHolds}
use Rattle.rules.proofs.Held.{TableKeeps, enact_held, table_held, packet_kept, table_kept, save_kept, load_kept, each_none, stays}
use Rattle.rules.proofs.Slots.{every_fresh, single_fresh, single_set, single_emptied, none_passes, not_found}
use Rattle.rules.proofs.Followed.{planned, remembered_new}
use Rattle.rules.proofs.Stamped.{enact_clock}
use Rattle.rules.proofs.Accepted.{Accepted, accepted_packet}
use Rattle.rules.proofs.Valid.{Valid, valid_of, step_ok, fresh_ok}
use Rattle.rules.proofs.UniqueAt.{once_at, UniqueAt, later, note_keeps, renumbering_keeps}
use Rattle.rules.proofs.UniqueWrites.{plan_keeps, hash_put}

-- at any clock not below the last
abbrev pub Unique : Relay → Type 0
Unique r = (clock : ℕ) → r.clock ≤ clock → UniqueAt clock r

pub fresh_unique : (own : List ℕ) → Unique (fresh own)
unfolding fresh
fresh_unique own clock l =
    record {
      own = tt;
      clock = tt;
      rate = tt;
      ports = tt;
      locals = single_fresh _ _ local_count;
      paths = (single_fresh _ _ path_count, every_fresh _ _ path_count, every_fresh _ _ path_count);
      links = single_fresh _ _ link_count;
      returns = single_fresh _ _ return_count;
      hashes = single_fresh _ _ hash_count;
    }

-- ---- the calls
enact_unique : (a : Arrival) (r : Relay) → Valid r → UniqueAt a.clock r
    → UniqueAt a.clock (enact (view_at a.clock r) a (plan (view_at a.clock r) a) r)
enact_unique a r valid u =
    let v : View = view_at a.clock r in
    enact_held u v a (plan v a)
    (record { writes = plan_keeps a r valid u (plan v a) (planned v a); clock = tt; hash = λ e. hash_put a r valid u (remembered_new v a e) })

packet_unique : (a : Arrival) (r : Relay) (t : Tally) (output : List ℕ) → Valid r → Unique r → Unique (perform (packet a output) r t).relay
packet_unique a r t output valid u =
    packet_kept Unique u a t output
    (λ e clock l.
    let accepted : Accepted r a = accepted_packet r a (length output) e in
    let v : View = view_at a.clock r in
    later (enact v a (plan v a) r) (subst (λ (c : ℕ). c ≤ clock) (enact_clock v a (plan v a) r) l)
    (enact_unique a r valid (u a.clock accepted.not_before)))

table_keeps : (c : TableCall) (r : Relay) (clock : ℕ) → Valid r → UniqueAt clock r → NoneHolds ((rule_of c).rows r) → TableKeeps (once_at clock) r c
unfolding rule_of is_local local_place
table_keeps (sets_port port on mode size) r clock valid u n = tt
table_keeps (sets_rate target grace penalty) r clock valid u n = tt
-- an added local address is none of those there
table_keeps (adds address) r clock valid u n =
    let size : length r.locals ≡ local_count = eqb-true _ _ valid.locals in
    let absent : local_count ≤ lowest (same address) local_count r.locals = ltb-false _ _ n.0 in
    let found = not_found (same address) local_count r.locals size absent in
    single_set _ _ r.locals _ address u.locals
    (λ j x _ o _ q. none_passes (same address) local_count r.locals size found j x o (eq_same address x (sym q)))
table_keeps (removes address) r clock valid u n = single_emptied _ _ r.locals _ u.locals
table_keeps (renumbers images) r clock valid u n = renumbering_keeps clock r u images
table_keeps (notes_path note destination now) r clock valid u n = (tt, note_keeps clock r u note destination now)

-- a note sets the last clock, which is not before it, and the other calls on the tables leave it
pub table_clock : (c : TableCall) (r : Relay) → NoneHolds ((rule_of c).rows r) → r.clock ≤ ((rule_of c).after r).clock
unfolding rule_of with_clock with_rate with_ports with_locals renumbered
table_clock (sets_port port on mode size) r n = le_refl r.clock
table_clock (sets_rate target grace penalty) r n = le_refl r.clock
table_clock (adds address) r n = le_refl r.clock
table_clock (removes address) r n = le_refl r.clock
table_clock (renumbers images) r n = le_refl r.clock
table_clock (notes_path note destination clock) r n = ltb-false _ _ (or_no_right _ _ n.0)

table_unique : (c : TableCall) (r : Relay) → Valid r → Unique r → NoneHolds ((rule_of c).rows r) → Unique ((rule_of c).after r)
table_unique c r valid u n clock l =
    let now : UniqueAt clock r = u clock (omega (arith, table_clock c r n, l)) in
    table_held now c (table_keeps c r clock valid now n)

-- one call keeps it, of a relay that keeps row 7
pub step_unique : (c : Call) (r : Relay) (t : Tally) → sets_relay c ≡ false → tables_ok r ≡ true → Unique r → Unique (perform c r t).relay
unfolding perform of_told sets_relay
step_unique (packet arrival output) r t none ok u = packet_unique arrival r t output (valid_of r ok) u
step_unique (on_tables c) r t none ok u = table_kept Unique u c t (table_unique c r (valid_of r ok) u)
step_unique (asks q) r t none ok u = u
step_unique (saves f room) r t none ok u = save_kept Unique u f room t
step_unique (loads f file) r t none ok u = load_kept Unique u f file t (λ e. absurd (false≢true (sym none ∙ e)))

pub stays_unique : (cs : List Call) (r : Relay) (t : Tally) → none_loads cs ≡ true → tables_ok r ≡ true → Unique r → Unique (relay_after cs r t)
stays_unique cs r t none ok u =
    (stays (λ s. (tables_ok s ≡ true) × Unique s) (λ c. sets_relay c ≡ false)
    (λ c s t g q. (step_ok c s t q.0, step_unique c s t g q.0 q.1))
    cs r t (each_none sets_relay cs none) (ok, u)).1

-- after any list of calls on a fresh relay, among them no accepted load: a file may hold tables with two live records of one key
pub unique_after : (own : List ℕ) (cs : List Call) (t : Tally) → none_loads cs ≡ true → Unique (relay_after cs (fresh own) t)
unique_after own cs t none = stays_unique cs (fresh own) t none (fresh_ok own) (fresh_unique own)
