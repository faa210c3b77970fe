-- What tables can hold stays what tables can hold: no list of calls that are given bytes leads to a relay that has none.
use Prim.Native.Nat.{ℕ, ◌≤◌}
use mathlib.Core.Bool.{true}
use mathlib.Core.List.{List}
use mathlib.Core.Path.{◌≡◌, refl, sym, subst, ◌∙◌}
use lib.Dec.{eqb}
use lib.ListN.{length}
use borrow.Author.Tests.{eqb-true}
use Rattle.octets.specs.Bytes.{Bytes}
use Rattle.octets.proofs.Index.{and_left, and_right, and_both}
use Rattle.packet.specs.Read.{payload_start}
use Rattle.numbers.specs.Numbers.{path_count}
use Rattle.rules.specs.Relay.{Slot, empty, used, Path, Relay, with_paths, with_links, with_returns, with_hashes}
use Rattle.rules.specs.View.{View, view_at}
use Rattle.rules.specs.Renumbering.{rename_path, rename_link, rename_return}
use Rattle.rules.specs.Refusals.{path_ok, slot_ok, all, tables_ok}
use Rattle.rules.specs.Arrival.{Arrival, header}
use Rattle.rules.specs.Ways.{Way, everywhere, by_path, along_link, by_return, blocked}
use Rattle.rules.specs.Judging.{Plan, dropped, delivered, follows, plan}
use Rattle.rules.specs.Writes.{put_next, remember, put_path, limit_path, noted_slot, note_path, emptied_where, put_return, empty_return, put_link, renew_link, enact}
use Rattle.rules.specs.Saved.{Format, load_refusal}
use Rattle.rules.specs.Calls.{TableCall, sets_port, sets_rate, adds, removes, renumbers, notes_path, rule_of}
use Rattle.rules.specs.Run.{Call, packet, on_tables, asks, saves, loads, of_told, perform, relay_after}
use Rattle.notes.specs.declared.Note.{Note}
use Rattle.rules.specs.declared.Link.{Link}
use Rattle.rules.specs.declared.Tally.{Tally}
use Rattle.notes.proofs.NoteLaws.{noted_shaped}
use Rattle.rules.proofs.Held.{WayKeeps, PlanKeeps, TableKeeps, enact_held, table_held, packet_kept, table_kept, save_kept, load_kept, stays}
use Rattle.rules.proofs.Tables.{all_set, all_map, all_get_d, table_get_d}
use Rattle.rules.proofs.Followed.{Found, Planned, planned}
use Rattle.rules.proofs.Ranges.{emptied_ok, slot_renamed}
use Rattle.rules.proofs.Valid.{Valid, valid_of, step_ok}
use Rattle.tables.specs.Places.{address_width}
use Rattle.tables.specs.Shape.{is_bytes, path_shaped, link_shaped, return_shaped, hash_shaped, shaped}
use Rattle.tables.proofs.All.{is_each}
use Rattle.tables.proofs.Shaped.{shape, Shaped, shaped_parts, shaped_from}
use Rattle.saved.specs.Format.{said_by}
use Rattle.saved.proofs.FormatLaws.{said_shaped, load_refused_alike}
pub use Rattle.settings.proofs.Shaped.{fresh_shaped}
use Rattle.demands.specs.Given.{CallBytes, CallsBytes}
use Rattle.demands.proofs.Announced.{WayBlob, PlanBlob, plan_blob}
use Rattle.demands.proofs.Made.{remembered_shaped, return_shaped_lem, link_made, link_renewed, path_made, accepted_whole, path_renumbered, link_renumbered, return_renumbered}

-- ---- what an accepted packet writes
-- the records that a way follows are of their shapes, and a path's hops are a byte
abbrev WayShaped : Way → Type 0
WayShaped (everywhere known) = slot_ok path_shaped known ≡ true
WayShaped (by_path p) = path_ok p ≡ true
WayShaped (along_link l) = link_shaped l ≡ true
WayShaped (by_return t) = Unit {0}
WayShaped (blocked why) = Unit {0}

module _ (r : Relay) (v : Valid r) (s : Shaped r) where
  found_shaped : (c : ℕ) (a : Arrival) (w : Way) → Found (view_at c r) a w → WayShaped w
  unfolding view_at slot_ok
  found_shaped c a (everywhere known) f =
      subst (λ (x : Slot Path). slot_ok path_shaped x ≡ true) f (all_get_d (slot_ok path_shaped) r.paths _ empty s.paths refl)
  found_shaped c a (by_path p) f =
      subst (λ (x : Slot Path). slot_ok path_ok x ≡ true) f.0 (table_get_d (slot_ok path_ok) path_count r.paths v.paths _ empty refl)
  found_shaped c a (along_link l) f =
      subst (λ (x : Slot Link). slot_ok link_shaped x ≡ true) f (all_get_d (slot_ok link_shaped) r.links _ empty s.links refl)
  found_shaped c a (by_return t) f = tt
  found_shaped c a (blocked why) f = tt

  module _ (a : Arrival) (b : Bytes a.bytes) (whole : payload_start (header a) ≤ length a.bytes) where
    return_put_lem : (p : Path) → shape.returns (put_return a p r).returns
    unfolding put_return with_returns emptied_where put_next slot_ok
    return_put_lem p =
        all_set (slot_ok return_shaped) _ _ _
        (all_map (slot_ok return_shaped) _ (emptied_ok return_shaped _) r.returns.slots s.returns) (return_shaped_lem a b p)

    way_keeps : (view : View) (w : Way) → WayBlob a w → WayShaped w → WayKeeps shape view a r w
    unfolding put_path put_link renew_link empty_return with_paths with_links with_returns slot_ok
    way_keeps view (everywhere known) long ok =
        all_set (slot_ok path_shaped) r.paths _ _ s.paths (path_made a b whole long view known ok)
    way_keeps view (by_path p) long ok =
        (λ _. return_put_lem p, λ _. all_set (slot_ok link_shaped) r.links _ _ s.links (link_made a b p ok))
    way_keeps view (along_link l) long ok = all_set (slot_ok link_shaped) r.links _ _ s.links (link_renewed a b l ok)
    way_keeps view (by_return t) long ok = all_set (slot_ok return_shaped) r.returns.slots _ empty s.returns refl
    way_keeps view (blocked why) long ok = tt

    -- a rate drop leaves the path's addresses and blobs
    limit_keeps : (view : View) (known : Slot Path) → slot_ok path_shaped known ≡ true → shape.paths (limit_path view a known r).paths
    unfolding limit_path with_paths slot_ok path_shaped
    limit_keeps view empty ok = s.paths
    limit_keeps view (used p) ok = all_set (slot_ok path_shaped) r.paths _ _ s.paths ok

    plan_keeps : (todo : Plan) → Planned (view_at a.clock r) a todo → PlanBlob a todo → PlanKeeps shape (view_at a.clock r) a r todo
    unfolding view_at slot_ok
    plan_keeps (dropped reason) h long = λ _.
        limit_keeps (view_at a.clock r) _ (all_get_d (slot_ok path_shaped) r.paths _ empty s.paths refl)
    plan_keeps delivered h long = tt
    plan_keeps (follows w) h long = way_keeps (view_at a.clock r) w long (found_shaped a.clock a w h.found)

    hash_put : shape.hashes (remember a r).hashes
    unfolding remember with_hashes put_next slot_ok
    hash_put = all_set (slot_ok hash_shaped) r.hashes.slots _ _ s.hashes (remembered_shaped a b _)

    enacted : Shaped (enact (view_at a.clock r) a (plan (view_at a.clock r) a) r)
    enacted =
        let view : View = view_at a.clock r in
        enact_held s view a (plan view a)
        (record { writes = plan_keeps (plan view a) (planned view a) (plan_blob view a); clock = tt; hash = λ _. hash_put })

-- ---- the calls
-- a note leaves all of a path's shape but the notes
slot_noted : (note : Note) (x : Slot Path) → slot_ok path_shaped x ≡ true → slot_ok path_shaped (noted_slot note x) ≡ true
unfolding noted_slot slot_ok path_shaped
slot_noted note empty h = h
slot_noted note (used p) h =
    let h1 = and_right _ _ h in
    let h2 = and_right _ _ h1 in
    and_both (and_left _ _ h) (and_both (and_left _ _ h1) (and_both (and_left _ _ h2) (noted_shaped note p.notes (and_right _ _ h2))))

note_keeps : (note : Note) (destination : List ℕ) (clock : ℕ) (r : Relay) → Shaped r → shape.paths (note_path note destination clock r).paths
unfolding note_path with_paths view_at slot_ok
note_keeps note destination clock r s =
    all_set (slot_ok path_shaped) r.paths _ _ s.paths (slot_noted note _ (all_get_d (slot_ok path_shaped) r.paths _ empty s.paths refl))

table_keeps : (c : TableCall) (r : Relay) → all (is_bytes address_width) (rule_of c).addresses ≡ true → Shaped r → TableKeeps shape r c
unfolding rule_of all slot_ok
table_keeps (sets_port port on mode size) r b s = tt
table_keeps (sets_rate target grace penalty) r b s = tt
table_keeps (adds address) r b s = all_set (slot_ok (is_bytes address_width)) r.locals _ (used address) s.locals (and_left _ _ b)
table_keeps (removes address) r b s = all_set (slot_ok (is_bytes address_width)) r.locals _ empty s.locals refl
table_keeps (renumbers images) r b s = (
  tt,
  all_map (slot_ok path_shaped) _ (slot_renamed path_shaped (rename_path images) (path_renumbered images)) r.paths s.paths,
  all_map (slot_ok link_shaped) _ (slot_renamed link_shaped (rename_link images) (link_renumbered images)) r.links s.links,
  all_map (slot_ok return_shaped) _ (slot_renamed return_shaped (rename_return images) (return_renumbered images)) r.returns.slots s.returns,
)
table_keeps (notes_path note destination clock) r b s = (tt, note_keeps note destination clock r s)

-- a load that isn't refused sets what tables can hold
load_shaped : (format : Format) (file : List ℕ) → CallBytes (loads format file) → eqb (load_refusal (format.says file)) 0 ≡ true
    → shaped (format.says file).relay ≡ true
unfolding CallBytes said_by
load_shaped format file (e, b) taken =
    let zero : eqb (load_refusal (said_by file)) 0 ≡ true = subst (λ (f : Format). eqb (load_refusal (f.says file)) 0 ≡ true) e taken in
    subst (λ (f : Format). shaped (f.says file).relay ≡ true) (sym e) (said_shaped file b (sym (load_refused_alike file b) ∙ eqb-true _ 0 zero))

call_shaped : (c : Call) (r : Relay) (t : Tally) → CallBytes c → Valid r → Shaped r → Shaped (perform c r t).relay
unfolding CallBytes perform of_told
call_shaped (packet a output) r t b ok s =
    packet_kept Shaped s a t output (λ e. enacted r ok s a (is_each _ a.bytes b) (accepted_whole r a (length output) e))
call_shaped (on_tables c) r t b ok s = table_kept Shaped s c t (λ _. table_held s c (table_keeps c r b s))
call_shaped (asks q) r t b ok s = s
call_shaped (saves format room) r t b ok s = save_kept Shaped s format room t
call_shaped (loads format file) r t b ok s = load_kept Shaped s format file t (λ e. shaped_parts (format.says file).relay (load_shaped format file b e))

-- one call keeps the shape
pub step_shaped : (c : Call) (r : Relay) (t : Tally) → CallBytes c → tables_ok r ≡ true → shaped r ≡ true → shaped (perform c r t).relay ≡ true
step_shaped c r t b ok s = shaped_from (perform c r t).relay (call_shaped c r t b (valid_of r ok) (shaped_parts r s))

-- and so does any list of calls
pub stays_shaped : (cs : List Call) (r : Relay) (t : Tally) → CallsBytes cs → tables_ok r ≡ true → shaped r ≡ true → shaped (relay_after cs r t) ≡ true
stays_shaped cs r t b ok s =
    (stays (λ x. (tables_ok x ≡ true) × (shaped x ≡ true)) CallBytes
    (λ c x u g q. (step_ok c x u q.0, step_shaped c x u g q.0 q.1))
    cs r t b (ok, s)).1
