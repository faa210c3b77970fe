-- No list of calls leads from a relay that keeps row 7 to one that breaks it; a fresh relay keeps it.
use Prim.Native.Nat.{ℕ, ◌<◌}
use native.Mathlib.Omega.{arith}
use mathlib.Core.Bool.{Bool, true, false}
use mathlib.Core.List.{List}
use mathlib.Core.Path.{◌≡◌, refl, subst}
use lib.Dec.{eqb, ltb, lit<, lit≤}
use lib.ListN.{length, get_or, set, length-set}
use borrow.Author.Tests.{lt-ltb, le-leb, leb-false, not-false}
use Rattle.octets.specs.Index.{◌and◌}
use Rattle.octets.proofs.Index.{and_left, and_right, and_both}
use Rattle.octets.proofs.Choice.{or_no_left, or_no_right}
use Rattle.numbers.specs.Numbers.{port_count, local_count, path_count, link_count, return_count, hash_count, clock_limit, time_limit, mode_count, is_size}
use Rattle.rules.specs.Relay.{fresh_port, no_port, Slot, empty, used, Path, Ring, Relay, fresh, with_paths, with_links, with_returns, with_hashes}
use Rattle.rules.specs.View.{View, view_at}
use Rattle.rules.specs.Renumbering.{one_to_one, preimage, moved_ports, rename_path, rename_link, rename_return}
use Rattle.rules.specs.Refusals.{time_ok, rate_settings_ok, port_ok, path_ok, link_ok, return_ok, hash_ok, slot_ok, table_ok, tables_ok, packet_rows, packet_refusal, refusal_by}
use Rattle.rules.specs.Arrival.{Arrival, hops}
use Rattle.rules.specs.Ways.{Way, everywhere, by_path, along_link, by_return, blocked}
use Rattle.rules.specs.Tests.{too_many_hops}
use Rattle.rules.specs.Judging.{Plan, dropped, delivered, follows, plan}
use Rattle.rules.specs.Writes.{remember, put_path, limit_path, note_path, emptied_where, put_return, empty_return, put_link, renew_link, enact}
use Rattle.rules.specs.Calls.{TableCall, sets_port, sets_rate, adds, removes, renumbers, notes_path, rule_of}
use Rattle.rules.specs.Run.{Call, packet, on_tables, asks, saves, loads, of_told, perform, relay_after}
use Rattle.rules.specs.declared.Link.{Link}
use Rattle.rules.specs.declared.Tally.{Tally}
use Rattle.octets.proofs.Listed.{NoneHolds, all_give, refuses, rows_passed}
use Rattle.rules.proofs.Held.{Property, Holds, WayKeeps, PlanKeeps, TableKeeps, enact_held, table_held, packet_kept, table_kept, save_kept, load_kept, any_calls, stays}
use Rattle.rules.proofs.Rows.{loaded_ok}
use Rattle.rules.proofs.Tables.{table_list_of, table_replicate, table_set, table_map, table_get_d}
use Rattle.rules.proofs.Followed.{Found, Planned, planned}
use Rattle.rules.proofs.Accepted.{no_port_ok, Accepted, accepted_packet}
use Rattle.rules.proofs.Ranges.{put_next_lem, place_next, emptied_ok, dropped_rate_ok, path_rate, limited_ok, noted_ok, time_small, announced_ok, return_ok_lem, link_ok_lem, renewed_ok, path_renamed, link_renamed, return_renamed, slot_renamed}

-- ---- row 7, part by part
-- a ring whose records keep a rule and whose place is one of its own
abbrev pub RingOk : {A : Type 0} → ℕ → (A → Bool) → Ring A → Type 0
RingOk n ok ring = (table_ok n (slot_ok ok) ring.slots ≡ true) × (ltb ring.next n ≡ true)

abbrev pub row_seven : Property
row_seven =
    record {
      own = λ own. Unit {0};
      clock = λ clock. time_ok clock ≡ true;
      rate = λ rate. rate_settings_ok rate ≡ true;
      ports = λ ports. table_ok port_count port_ok ports ≡ true;
      locals = λ locals. eqb (length locals) local_count ≡ true;
      paths = λ paths. table_ok path_count (slot_ok path_ok) paths ≡ true;
      links = λ links. table_ok link_count (slot_ok link_ok) links ≡ true;
      returns = RingOk return_count return_ok;
      hashes = RingOk hash_count hash_ok;
    }

abbrev pub Valid : Relay → Type 0
Valid = Holds row_seven

pub valid_of : (r : Relay) → tables_ok r ≡ true → Valid r
unfolding tables_ok
valid_of r h₁ =
    let h₂ = and_right _ _ h₁ in
    let h₃ = and_right _ _ h₂ in
    let h₄ = and_right _ _ h₃ in
    let h₅ = and_right _ _ h₄ in
    let h₆ = and_right _ _ h₅ in
    let h₇ = and_right _ _ h₆ in
    let h₈ = and_right _ _ h₇ in
    let h₉ = and_right _ _ h₈ in
    record {
      own = tt;
      clock = and_left _ _ h₁;
      rate = and_left _ _ h₂;
      ports = and_left _ _ h₃;
      locals = and_left _ _ h₄;
      paths = and_left _ _ h₅;
      links = and_left _ _ h₆;
      returns = (and_left _ _ h₇, and_left _ _ h₈);
      hashes = (and_left _ _ h₉, and_right _ _ h₉);
    }

pub ok_of : (r : Relay) → Valid r → tables_ok r ≡ true
unfolding tables_ok
ok_of r v =
    and_both v.clock
    (and_both v.rate
    (and_both v.ports
    (and_both v.locals
    (and_both v.paths
    (and_both v.links
    (and_both v.returns.0
    (and_both v.returns.1
    (and_both v.hashes.0 v.hashes.1))))))))

fresh_valid : (own : List ℕ) → Valid (fresh own)
unfolding fresh time_ok rate_settings_ok port_ok slot_ok is_size ◌and◌
fresh_valid own =
    record {
      own = tt;
      clock = refl;
      rate = and_both refl (and_both refl refl);
      ports = table_replicate port_ok port_count fresh_port refl;
      locals = refl;
      paths = table_replicate (slot_ok path_ok) path_count empty refl;
      links = table_replicate (slot_ok link_ok) link_count empty refl;
      returns = (table_replicate (slot_ok return_ok) return_count empty refl, refl);
      hashes = (table_replicate (slot_ok hash_ok) hash_count empty refl, refl);
    }

-- ---- what an accepted packet writes
-- the records that a way follows keep row 7
abbrev WayOk : Way → Type 0
WayOk (everywhere known) = slot_ok path_ok known ≡ true
WayOk (by_path p) = path_ok p ≡ true
WayOk (along_link l) = link_ok l ≡ true
WayOk (by_return t) = Unit {0}
WayOk (blocked why) = Unit {0}

module _ (r : Relay) (valid : Valid r) where
  path_ok_lem : (place : ℕ) → slot_ok path_ok (get_or r.paths place empty) ≡ true
  unfolding slot_ok
  path_ok_lem place = table_get_d (slot_ok path_ok) path_count r.paths valid.paths place empty refl

  link_found_ok : (place : ℕ) → slot_ok link_ok (get_or r.links place empty) ≡ true
  unfolding slot_ok
  link_found_ok place = table_get_d (slot_ok link_ok) link_count r.links valid.links place empty refl

  found_ok : (c : ℕ) (a : Arrival) (w : Way) → Found (view_at c r) a w → WayOk w
  unfolding view_at slot_ok
  found_ok c a (everywhere known) f = subst (λ (s : Slot Path). slot_ok path_ok s ≡ true) f (path_ok_lem _)
  found_ok c a (by_path p) f = subst (λ (s : Slot Path). slot_ok path_ok s ≡ true) f.0 (path_ok_lem _)
  found_ok c a (along_link l) f = subst (λ (s : Slot Link). slot_ok link_ok s ≡ true) f (link_found_ok _)
  found_ok c a (by_return t) f = tt
  found_ok c a (blocked why) f = tt

  module _ (a : Arrival) (port : a.port < port_count) (clock : a.clock < clock_limit) where
    path_changed : (i : ℕ) (p : Path) → path_ok p ≡ true → row_seven.paths (set r.paths i (used p))
    unfolding slot_ok
    path_changed i p h = table_set (slot_ok path_ok) path_count r.paths valid.paths i (used p) h

    link_changed : (i : ℕ) (l : Link) → link_ok l ≡ true → row_seven.links (set r.links i (used l))
    unfolding slot_ok
    link_changed i l h = table_set (slot_ok link_ok) link_count r.links valid.links i (used l) h

    return_put_lem : (p : Path) → path_ok p ≡ true → row_seven.returns (put_return a p r).returns
    unfolding put_return with_returns emptied_where slot_ok
    return_put_lem p ok = (
      put_next_lem return_ok return_count (lit< tt) _ _
          (table_map (slot_ok return_ok) return_count r.returns.slots valid.returns.0 _ (emptied_ok return_ok _)) (return_ok_lem a port clock p ok),
      place_next return_ok return_count (lit< tt) _ _,
    )

    way_keeps : (v : View) (w : Way) → rate_settings_ok v.rate ≡ true → too_many_hops (hops a) ≡ false → WayOk w → WayKeeps row_seven v a r w
    unfolding put_path put_link renew_link empty_return with_paths with_links with_returns slot_ok
    way_keeps v (everywhere known) sound few ok = path_changed _ _ (announced_ok a port clock v known sound few ok)
    way_keeps v (by_path p) sound few ok = (λ _. return_put_lem p ok, λ _. link_changed _ _ (link_ok_lem a port clock p ok))
    way_keeps v (along_link l) sound few ok = link_changed _ _ (renewed_ok a port clock l ok)
    way_keeps v (by_return t) sound few ok =
        (table_set (slot_ok return_ok) return_count r.returns.slots valid.returns.0 _ empty refl, valid.returns.1)
    way_keeps v (blocked why) sound few ok = tt

    -- a rate drop keeps the path's other fields, and the rule its bounds
    limit_keeps : (v : View) → rate_settings_ok v.rate ≡ true → (known : Slot Path) → slot_ok path_ok known ≡ true
        → row_seven.paths (limit_path v a known r).paths
    unfolding limit_path with_paths slot_ok
    limit_keeps v sound empty ok = valid.paths
    limit_keeps v sound (used p) ok =
        path_changed _ _ (limited_ok p ok _ (dropped_rate_ok v.rate p.rate a.clock sound (path_rate p ok)))

    plan_keeps : (todo : Plan) → Planned (view_at a.clock r) a todo → PlanKeeps row_seven (view_at a.clock r) a r todo
    unfolding view_at
    plan_keeps (dropped reason) h = λ _. limit_keeps (view_at a.clock r) valid.rate _ (path_ok_lem _)
    plan_keeps delivered h = tt
    plan_keeps (follows w) h = way_keeps (view_at a.clock r) w valid.rate h.few_hops (found_ok a.clock a w h.found)

    hash_put : row_seven.hashes (remember a r).hashes
    unfolding remember with_hashes slot_ok hash_ok
    hash_put =
        (put_next_lem hash_ok hash_count (lit< tt) _ _ valid.hashes.0 (time_small a port clock _ (lit≤ tt)), place_next hash_ok hash_count (lit< tt) _ _)

    enacted : Valid (enact (view_at a.clock r) a (plan (view_at a.clock r) a) r)
    unfolding time_ok
    enacted =
        let v : View = view_at a.clock r in
        enact_held valid v a (plan v a)
        (record {
          writes = plan_keeps (plan v a) (planned v a);
          clock = le-leb a.clock time_limit (omega arith);
          hash = λ _. hash_put;
        })

-- ---- the calls
-- row 7 comes first
pub accepted_valid : (r : Relay) (a : Arrival) (room : ℕ) → eqb (packet_refusal r a room) 0 ≡ true → Valid r
unfolding refusal_by packet_rows all_give refuses ◌and◌
accepted_valid r a room taken =
    valid_of r (not-false _ (rows_passed (packet_rows r a.port a.clock room) _ refl taken).0)

renumbering_keeps : (m : List ℕ) → one_to_one m ≡ true → (r : Relay) → Valid r → TableKeeps row_seven r (renumbers m)
unfolding moved_ports
renumbering_keeps m ok r v = (
  table_list_of port_ok port_count _ (λ n. table_get_d port_ok port_count r.ports v.ports (preimage m n) no_port no_port_ok),
  table_map (slot_ok path_ok) path_count r.paths v.paths _ (slot_renamed path_ok (rename_path m) (path_renamed m ok)),
  table_map (slot_ok link_ok) link_count r.links v.links _ (slot_renamed link_ok (rename_link m) (link_renamed m ok)),
  (
    table_map (slot_ok return_ok) return_count r.returns.slots v.returns.0 _ (slot_renamed return_ok (rename_return m) (return_renamed m ok)),
    v.returns.1,
  ),
)

table_keeps : (c : TableCall) (r : Relay) → Valid r → NoneHolds ((rule_of c).rows r) → TableKeeps row_seven r c
unfolding rule_of port_ok time_ok note_path with_paths view_at
table_keeps (sets_port port on mode size) r v n =
    let rest = or_no_right _ _ n.0 in
    table_set port_ok port_count r.ports v.ports _ _
    (and_both (lt-ltb mode mode_count (leb-false _ _ (or_no_left _ _ rest))) (not-false _ (or_no_right _ _ rest)))
table_keeps (sets_rate target grace penalty) r v n = not-false _ n.0
table_keeps (adds address) r v n = rw length-set v.locals
table_keeps (removes address) r v n = rw length-set v.locals
table_keeps (renumbers images) r v n = renumbering_keeps images (not-false _ n.0) r v
table_keeps (notes_path note destination clock) r v n =
    let l : clock < clock_limit = leb-false _ _ (or_no_left _ _ n.0) in (
      le-leb clock time_limit (omega arith),
      table_set (slot_ok path_ok) path_count r.paths v.paths _ _ (noted_ok note _ (path_ok_lem r v _)),
    )

call_valid : (c : Call) (r : Relay) (t : Tally) → Valid r → Valid (perform c r t).relay
unfolding perform of_told
call_valid (packet a output) r t v =
    packet_kept Valid v a t output
    (λ e. let accepted : Accepted r a = accepted_packet r a (length output) e in enacted r v a accepted.port accepted.clock)
call_valid (on_tables c) r t v = table_kept Valid v c t (λ n. table_held v c (table_keeps c r v n))
call_valid (asks q) r t v = v
call_valid (saves f room) r t v = save_kept Valid v f room t
call_valid (loads f file) r t v = load_kept Valid v f file t (λ e. valid_of (f.says file).relay (loaded_ok (f.says file) e))

-- one call keeps row 7
pub step_ok : (c : Call) (r : Relay) (t : Tally) → tables_ok r ≡ true → tables_ok (perform c r t).relay ≡ true
step_ok c r t ok = ok_of (perform c r t).relay (call_valid c r t (valid_of r ok))

-- no list of calls leads to a relay that refusal 7 would name
pub stays_ok : (cs : List Call) (r : Relay) (t : Tally) → tables_ok r ≡ true → tables_ok (relay_after cs r t) ≡ true
stays_ok cs r t ok = stays (λ s. tables_ok s ≡ true) (λ c. Unit {0}) (λ c s u _. step_ok c s u) cs r t (any_calls cs) ok

pub fresh_ok : (own : List ℕ) → tables_ok (fresh own) ≡ true
fresh_ok own = ok_of (fresh own) (fresh_valid own)

-- after any list of calls on a fresh relay
pub ok_after : (own : List ℕ) (cs : List Call) (t : Tally) → tables_ok (relay_after cs (fresh own) t) ≡ true
ok_after own cs t = stays_ok cs (fresh own) t (fresh_ok own)
