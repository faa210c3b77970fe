-- Wish 6: an accepted mark leaves the live path marked until an announce for it is accepted or it expires, over any list without a load.
use Prim.Native.Nat.{ℕ, ◌≤◌, ◌<◌}
use native.Mathlib.Decide.{dec_lt}
use native.Mathlib.Nat.{le_refl}
use native.Mathlib.Omega.{arith}
use mathlib.Core.Bool.{true, false, false≢true}
use mathlib.Core.List.{List, [], ◌∷◌}
use mathlib.Core.Path.{◌≡◌, refl, sym, ap, subst, ◌∙◌}
use lib.Dec.{eqb}
use lib.ListN.{length, get_or, set}
use borrow.Author.Tests.{lt-ltb, not-true}
use Rattle.octets.proofs.Index.{first_holds}
use Rattle.octets.proofs.Choice.{then_true}
use Rattle.octets.proofs.Listed.{NoneHolds}
use Rattle.packet.specs.Header.{is_data}
use Rattle.numbers.specs.Numbers.{path_count, live}
use Rattle.rules.specs.Relay.{Slot, empty, used, Path, with_path_rate, with_note, Relay, holds, free, lowest_free, with_clock, with_rate, with_ports, with_locals, with_paths, with_links, with_returns}
use Rattle.rules.specs.View.{View, view_at, is_live_path, path_place, free_path}
use Rattle.rules.specs.Renumbering.{rename_path, rename_slot, renumbered}
use Rattle.rules.specs.Refusals.{slot_ok, path_ok, tables_ok}
use Rattle.rules.specs.Arrival.{Arrival, header, destination}
use Rattle.rules.specs.Rate.{entry_dropped}
use Rattle.rules.specs.Ways.{Way, everywhere, by_path, along_link, by_return, blocked}
use Rattle.rules.specs.Judging.{Plan, dropped, delivered, follows, plan}
use Rattle.rules.specs.Writes.{announced_path, announced_place, put_path, limit_path, noted_slot, note_path, put_return, empty_return, put_link, renew_link, write_way, is_rate_drop, write_drop, write_plan, enact}
use Rattle.rules.specs.Calls.{TableCall, sets_port, sets_rate, adds, removes, renumbers, notes_path, marks, rule_of, table_refusal, settle, settled}
use Rattle.rules.specs.Run.{Call, packet, on_tables, asks, saves, loads, marking, of_setting, perform, replies, relay_after, sets_relay, none_loads}
use Rattle.rules.specs.DeadPaths.{says_accepted, IsFor, NoneAccepted, MarkedAt, MarkStays}
use Rattle.rules.specs.declared.Tally.{Tally}
use Rattle.notes.specs.declared.Note.TheVariants.{Unresponsive}
use Rattle.rules.proofs.Choices.{either}
use Rattle.rules.proofs.Rows.{table_ok_lem}
use Rattle.rules.proofs.Tables.{table_length}
use Rattle.rules.proofs.Slots.{used_same}
use Rattle.rules.proofs.Lowest.{lowest_later, lowest_found, found_lowest, lowest_other, lowest_renewed, lowest_mapped, lowest_changed}
use Rattle.rules.proofs.Accepted.{accepted_packet}
use Rattle.rules.proofs.Followed.{Planned, planned}
use Rattle.rules.proofs.Stamped.{enact_clock, enact_paths}
use Rattle.rules.proofs.Held.{packet_kept, table_kept, ask_kept, save_kept, load_kept, first_none, others_none}
use Rattle.rules.proofs.Valid.{valid_of, step_ok}
use Rattle.notes.proofs.NoteLaws.{keeps_mark}
use Rattle.rules.proofs.Noted.{with_path_mark, noted_is}
use Rattle.rules.proofs.Unique.{table_clock}
use Rattle.rules.proofs.Announced.{LowestPath, says_accepted_lem}

-- ---- no call but a load sets the clock back
clock_forward : (c : Call) (r : Relay) (t : Tally) → sets_relay c ≡ false → r.clock ≤ (perform c r t).relay.clock
unfolding sets_relay
clock_forward (packet a output) r t none =
    packet_kept (λ s. r.clock ≤ s.clock) (le_refl r.clock) a t output
    (λ e. subst (λ (c : ℕ). r.clock ≤ c) (sym (enact_clock (view_at a.clock r) a (plan (view_at a.clock r) a) r))
    (accepted_packet r a (length output) e).not_before)
clock_forward (on_tables c) r t none = table_kept (λ s. r.clock ≤ s.clock) (le_refl r.clock) c t (table_clock c r)
clock_forward (asks q) r t none = ask_kept (λ s. r.clock ≤ s.clock) (le_refl r.clock) q t
clock_forward (saves f room) r t none = save_kept (λ s. r.clock ≤ s.clock) (le_refl r.clock) f room t
clock_forward (loads f file) r t none = load_kept (λ s. r.clock ≤ s.clock) (le_refl r.clock) f file t (λ e. absurd (false≢true (sym none ∙ e)))

clocks_forward : (cs : List Call) (r : Relay) (t : Tally) → none_loads cs ≡ true → r.clock ≤ (relay_after cs r t).clock
unfolding relay_after
clocks_forward [] r t none = le_refl r.clock
clocks_forward (c ∷ cs) r t none =
    let one = clock_forward c r t (first_none sets_relay c cs none) in
    let rest = clocks_forward cs (perform c r t).relay (perform c r t).tally (others_none sets_relay c cs none) in
    omega (arith, one, rest)

-- ---- the destination's lowest live record, marked, followed through the writes
module _ (d : List ℕ) (expiry : ℕ) where
  record Marked (now : ℕ) (slots : List (Slot Path)) : Type 0 where
    place : ℕ
    path : Path
    low : LowestPath now slots place path
    is_for : path.destination ≡ d
    is_marked_lem : path.notes.marked ≡ true
    expires : path.expiry ≡ expiry

  marked_later : {now clock : ℕ} (slots : List (Slot Path)) → now ≤ clock → Marked now slots → Marked clock slots
  marked_later {now} {clock} slots l m =
      record {
        place = m.place;
        path = m.path;
        low = lowest_later _ _ path_count now clock l slots m.place m.path m.low;
        is_for = m.is_for;
        is_marked_lem = m.is_marked_lem;
        expires = m.expires;
      }

  -- a record is changed where it stands, and keeps destination, expiry and mark
  changed : (change : Path → Path) → ((p : Path) → (change p).destination ≡ p.destination) → ((p : Path) → (change p).expiry ≡ p.expiry)
      → ((p : Path) → p.notes.marked ≡ true → (change p).notes.marked ≡ true) → (now : ℕ) (slots : List (Slot Path))
      → length slots ≡ path_count → Marked now slots → (j : ℕ) → Marked now (set slots j (rename_slot change (get_or slots j empty)))
  changed change keyed kept stays now slots size m j =
      let (y, low, q, e, so) =
      lowest_changed _ _ path_count change keyed kept (λ p. p.notes.marked ≡ true) stays now slots size m.place m.path m.low m.is_marked_lem j in
      record { place = m.place; path = y; low = low; is_for = q ∙ m.is_for; is_marked_lem = so; expires = e ∙ m.expires }

  shown_at : (now : ℕ) (r : Relay) → Marked now r.paths → now < expiry → MarkedAt d expiry now r
  unfolding view_at path_place is_live_path
  shown_at now r m l =
      let lives = lt-ltb now m.path.expiry (omega (arith, l, m.expires)) in
      record {
        path = m.path;
        live =
            subst (λ (k : List ℕ). (view_at now r).path k ≡ used m.path) m.is_for
            (lowest_found _ _ path_count now r.paths m.place m.path m.low lives);
        is_marked_lem = m.is_marked_lem;
        expires = m.expires;
      }

  -- ---- a packet at a clock before its expiry
  module _ (a : Arrival) (r : Relay) (size : length r.paths ≡ path_count) (m : Marked a.clock r.paths) (before : a.clock < expiry) where
    abbrev seen : View
    seen = view_at a.clock r

    lives : live a.clock m.path.expiry ≡ true
    lives = lt-ltb a.clock m.path.expiry (omega (arith, before, m.expires))

    -- a path of another destination is written elsewhere
    module _ (other : destination a ≡ d → ⊥) where
      elsewhere : (known : Slot Path) → seen.path (destination a) ≡ known → announced_place a known r ≡ m.place → ⊥
      unfolding view_at announced_place path_place is_live_path free_path lowest_free free holds
      elsewhere empty e q = go (dec_lt (free_path a.clock r) path_count)
        where
          go : Dec (free_path a.clock r < path_count) → ⊥
          go (no n) = omega (arith, m.low.inside, q)
          go (yes n) =
              let is_free = first_holds (λ i. free (λ (x : Path). live a.clock x.expiry) (get_or r.paths i empty)) path_count n in
              let here = ap (holds (λ (x : Path). live a.clock x.expiry)) (ap (λ (i : ℕ). get_or r.paths i empty) q ∙ m.low.here) in
              false≢true (sym (not-true _ is_free) ∙ here ∙ lives)
      elsewhere (used p) e q =
          let its_key = (found_lowest _ _ path_count a.clock r.paths size (destination a) p e).0 in
          let same-record : used p ≡ used m.path = sym e ∙ ap (λ (i : ℕ). get_or r.paths i empty) q ∙ m.low.here in
          other (sym its_key ∙ ap (λ (x : Path). x.destination) (used_same same-record) ∙ m.is_for)

      announced_other : (known : Slot Path) → seen.path (destination a) ≡ known → Marked a.clock (put_path seen a known r).paths
      unfolding put_path with_paths announced_path
      announced_other known e =
          record {
            place = m.place;
            path = m.path;
            low =
                lowest_other _ _ path_count a.clock r.paths size m.place m.path m.low _ (announced_path seen a known)
                (elsewhere known e) (λ q. other (q ∙ m.is_for));
            is_for = m.is_for;
            is_marked_lem = m.is_marked_lem;
            expires = m.expires;
          }

    -- a rate drop leaves destination, expiry and mark
    limited : (known : Slot Path) → seen.path (destination a) ≡ known → Marked a.clock (limit_path seen a known r).paths
    unfolding limit_path with_paths view_at rename_slot
    limited empty e = m
    limited (used p) e =
        let entry = entry_dropped seen.rate a.clock p.rate in
        let place : ℕ = path_place a.clock r (destination a) in
        subst (λ (s : Slot Path). Marked a.clock (set r.paths place (rename_slot (with_path_rate entry) s))) e
        (changed (with_path_rate entry) (λ _. refl) (λ _. refl) (λ _ h. h) a.clock r.paths size m place)

    way_marked : (w : Way) → Planned seen a (follows w) → ((known : Slot Path) → w ≡ everywhere known → destination a ≡ d → ⊥)
        → Marked a.clock (write_way seen a w r).paths
    unfolding write_way put_return put_link renew_link empty_return with_links with_returns
    way_marked (everywhere known) f other = announced_other (other known refl) known f.found
    way_marked (by_path p) f other = either (λ (s : Relay). Marked a.clock s.paths) (is_data (header a)) (λ _. m) (λ _. m)
    way_marked (along_link l) f other = m
    way_marked (by_return t) f other = m
    way_marked (blocked why) f other = m

    plan_marked : (todo : Plan) → Planned seen a todo → ((known : Slot Path) → todo ≡ follows (everywhere known) → destination a ≡ d → ⊥)
        → Marked a.clock (write_plan seen a todo r).paths
    unfolding write_plan write_drop
    plan_marked (dropped reason) f other =
        either (λ (s : Relay). Marked a.clock s.paths) (is_rate_drop reason) (λ _. limited _ refl) (λ _. m)
    plan_marked delivered f other = m
    plan_marked (follows w) f other = way_marked w f (λ known e. other known (ap follows e))

  -- ---- one call
  module _ (r : Relay) (fine : tables_ok r ≡ true) (m : Marked r.clock r.paths) where
    size : length r.paths ≡ path_count
    size = table_length (slot_ok path_ok) path_count r.paths (valid_of r fine).paths

    abbrev Still : Relay → Type 0
    Still s = s.clock < expiry → Marked s.clock s.paths

    packet_marked : (a : Arrival) (output : List ℕ) (t : Tally) → (destination a ≡ d → says_accepted (perform (packet a output) r t).reply ≡ false)
        → Still (perform (packet a output) r t).relay
    packet_marked a output t none =
        packet_kept Still (λ _. m) a t output
        (λ taken before.
        let v : View = view_at a.clock r in
        let clock = enact_clock v a (plan v a) r in
        let now = marked_later r.paths (accepted_packet r a (length output) taken).not_before m in
        let after = plan_marked a r size now (subst (λ (c : ℕ). c < expiry) clock before) (plan v a) (planned v a)
        (λ known e is. false≢true (sym (none is) ∙ says_accepted_lem a output r t taken known e)) in
        subst (λ (c : ℕ). Marked c (enact v a (plan v a) r).paths) (sym clock)
        (subst (Marked a.clock) (sym (enact_paths v a (plan v a) r)) after))

    table_marked : (c : TableCall) → NoneHolds ((rule_of c).rows r) → Marked ((rule_of c).after r).clock ((rule_of c).after r).paths
    unfolding rule_of with_clock with_rate with_ports with_locals renumbered note_path with_paths view_at rename_path
    table_marked (sets_port port on mode size) n = m
    table_marked (sets_rate target grace penalty) n = m
    table_marked (adds address) n = m
    table_marked (removes address) n = m
    table_marked (renumbers images) n =
        record {
          place = m.place;
          path = rename_path images m.path;
          low = lowest_mapped _ _ path_count (rename_path images) (λ _. refl) (λ _. refl) r.clock r.paths m.place m.path m.low;
          is_for = m.is_for;
          is_marked_lem = m.is_marked_lem;
          expires = m.expires;
        }
    table_marked (notes_path note destination clock) n =
        let place : ℕ = path_place clock r destination in
        subst (λ (s : Slot Path). Marked clock (set r.paths place s)) (sym (noted_is note (get_or r.paths place empty)))
        (changed (with_note note) (λ _. refl) (λ _. refl) (λ p h. keeps_mark note p.notes h) clock r.paths size
        (marked_later r.paths (table_clock (notes_path note destination clock) r n) m) place)

    call_marked : (c : Call) (t : Tally) → sets_relay c ≡ false → (IsFor d c → says_accepted (perform c r t).reply ≡ false)
        → Still (perform c r t).relay
    unfolding sets_relay
    call_marked (packet a output) t none quiet = packet_marked a output t quiet
    call_marked (on_tables c) t none quiet = table_kept Still (λ _. m) c t (λ n _. table_marked c n)
    call_marked (asks q) t none quiet = ask_kept Still (λ _. m) q t
    call_marked (saves f room) t none quiet = save_kept Still (λ _. m) f room t
    call_marked (loads f file) t none quiet = load_kept Still (λ _. m) f file t (λ e. absurd (false≢true (sym none ∙ e)))

  -- ---- any list
  calls_marked : (cs : List Call) (r : Relay) (t : Tally) → tables_ok r ≡ true → Marked r.clock r.paths → none_loads cs ≡ true
      → NoneAccepted d cs (replies cs r t) → (relay_after cs r t).clock < expiry → Marked (relay_after cs r t).clock (relay_after cs r t).paths
  unfolding relay_after replies NoneAccepted
  calls_marked [] r t fine m none quiet before = m
  calls_marked (c ∷ cs) r t fine m none quiet before =
      let later = clocks_forward cs (perform c r t).relay (perform c r t).tally (others_none sets_relay c cs none) in
      let next = call_marked r fine m c t (first_none sets_relay c cs none) quiet.0 (omega (arith, later, before)) in
      calls_marked cs (perform c r t).relay (perform c r t).tally (step_ok c r t fine) next (others_none sets_relay c cs none) quiet.1 before

-- ---- the mark itself
module _ (d : List ℕ) (clock : ℕ) (r : Relay) (t : Tally) (p : Path) (taken : eqb (table_refusal (marks d clock) r) 0 ≡ true)
    (known : (view_at clock r).path d ≡ used p) where
  abbrev marked : Relay
  marked = (perform (marking d clock) r t).relay

  is_after : marked ≡ with_clock clock (note_path Unresponsive d clock r)
  unfolding perform of_setting settle settled rule_of
  is_after = then_true _ _ taken

  just_marked : Marked d p.expiry clock (note_path Unresponsive d clock r).paths
  unfolding note_path with_paths view_at path_place is_live_path noted_slot
  just_marked =
      let place : ℕ = path_place clock r d in
      let size : length r.paths ≡ path_count =
      table_length (slot_ok path_ok) path_count r.paths (valid_of r (table_ok_lem (marks d clock) r taken)).paths in
      let (is_for, _, low) = found_lowest _ _ path_count clock r.paths size d p known in
      subst (λ (s : Slot Path). Marked d p.expiry clock (set r.paths place (noted_slot Unresponsive s))) (sym known)
      (record {
        place = place;
        path = with_path_mark p;
        low = lowest_renewed _ _ path_count clock r.paths size place p low (with_path_mark p) refl;
        is_for = is_for;
        is_marked_lem = refl;
        expires = refl;
      })

  marked_then : Marked d p.expiry marked.clock marked.paths
  unfolding with_clock
  marked_then = subst (λ (s : Relay). Marked d p.expiry s.clock s.paths) (sym is_after) just_marked

pub mark_stays : MarkStays
mark_stays d clock r t p taken known cs none quiet now after before =
    let one : Relay = (perform (marking d clock) r t).relay in
    let fine : tables_ok one ≡ true = step_ok (marking d clock) r t (table_ok_lem (marks d clock) r taken) in
    let last = calls_marked d p.expiry cs one t fine (marked_then d clock r t p taken known) none quiet (omega (arith, after, before)) in
    shown_at d p.expiry now (relay_after cs one t) (marked_later d p.expiry (relay_after cs one t).paths after last) before
