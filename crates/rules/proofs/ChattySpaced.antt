-- Wish 5, (d): from fresh with no load, a destination whose announces keep the target interval is never blocked, whatever the others do.
use Prim.Native.Nat.{ℕ, ◌-◌}
use native.Mathlib.Omega.{arith}
use mathlib.Core.Bool.{true, false, not, false≢true}
use mathlib.Core.List.{List, [], ◌∷◌}
use mathlib.Core.Path.{◌≡◌, refl, sym, ap, subst, ◌∙◌}
use lib.Dec.{eqb}
use lib.ListN.{length}
use borrow.Author.Tests.{not-true}
use Rattle.octets.proofs.Index.{and_left, and_right, and_both}
use Rattle.packet.specs.Header.{is_announce}
use Rattle.numbers.specs.Numbers.{path_count, live}
use Rattle.rules.specs.Relay.{Slot, empty, used, Path, Relay, fresh, with_paths}
use Rattle.rules.specs.View.{View, view_at, is_live_path, path_place}
use Rattle.rules.specs.Renumbering.{rename_path}
use Rattle.rules.specs.Refusals.{slot_ok, path_ok, packet_refusal}
use Rattle.rules.specs.Arrival.{Arrival, header, destination}
use Rattle.rules.specs.Rate.{lets_by, rated, entry_accepted, entry_revived, entry_dropped}
use Rattle.rules.specs.Ways.{Way, everywhere, by_path, along_link, by_return, blocked, way_on}
use Rattle.rules.specs.Tests.{revives, of_known}
use Rattle.rules.specs.Judging.{Plan, dropped, delivered, follows, plan}
use Rattle.rules.specs.Writes.{announced_rate, announced_path, put_path, limit_path, enact}
use Rattle.rules.specs.Calls.{new_tally, TableCall, sets_port, sets_rate, adds, removes, renumbers, notes_path, rule_of}
use Rattle.rules.specs.Questions.{of_test}
use Rattle.rules.specs.Run.{Call, packet, on_tables, asks, saves, loads, perform, sets_relay, none_loads}
use Rattle.rules.specs.Chatty.{plan_if, reaches_rate, SpacedCall, Spaced, NotDropped, NeverBlocked, SpacedNeverBlocked}
use Rattle.rules.specs.declared.RateEntry.{RateEntry}
use Rattle.rules.specs.declared.Rated.{Rated}
use Rattle.rules.proofs.Choices.{either}
use Rattle.rules.specs.declared.Tally.{Tally}
use Rattle.rules.proofs.Tables.{table_length}
use Rattle.rules.proofs.Slots.{Every, every_set, every_fresh, every_renamed, found_key}
use Rattle.rules.proofs.Passed.{passed}
use Rattle.rules.proofs.Followed.{Planned, planned}
use Rattle.rules.proofs.Held.{Property, Holds, WayKeeps, PlanKeeps, TableKeeps, enact_held, table_held, packet_kept, table_kept_by, ask_kept, save_kept, load_kept, first_none, others_none}
use Rattle.rules.proofs.Valid.{accepted_valid}
use Rattle.rules.proofs.Noted.{noted_every}
use Rattle.rules.proofs.RateLaws.{rated_on_time}
use Rattle.rules.proofs.ChattyPlan.{rate_limited, is_spread, spread_announce, known_spread, announce_way, follows_reached, dropped_reached, rate_dropped}
use Rattle.rules.proofs.ChattyPacket.{known_limited, known_made}

module _ (d : List ℕ) where
  -- ---- what holds all along: no record of the destination is blocked
  abbrev Free : Path → Type 0
  Free p = p.destination ≡ d → p.rate.blocked_until ≡ 0

  abbrev free : Property
  free =
      record {
        own = λ own. Unit {0};
        clock = λ clock. Unit {0};
        rate = λ rate. Unit {0};
        ports = λ ports. Unit {0};
        locals = λ locals. Unit {0};
        paths = Every (λ (p : Path). true) Free;
        links = λ links. Unit {0};
        returns = λ returns. Unit {0};
        hashes = λ hashes. Unit {0};
      }

  abbrev FreeRelay : Relay → Type 0
  FreeRelay = Holds free

  free_fresh : (own : List ℕ) → FreeRelay (fresh own)
  unfolding fresh
  free_fresh own =
      record {
        own = tt;
        clock = tt;
        rate = tt;
        ports = tt;
        locals = tt;
        paths = every_fresh _ _ path_count;
        links = tt;
        returns = tt;
        hashes = tt;
      }

  -- ---- a packet that isn't refused
  module _ (a : Arrival) (output : List ℕ) (r : Relay) (h : FreeRelay r) (spaced : SpacedCall d (packet a output) r)
      (taken : eqb (packet_refusal r a (length output)) 0 ≡ true) where
    abbrev seen : View
    seen = view_at a.clock r

    -- the live path is one of the destination that is announced
    its_key : (p : Path) → seen.path (destination a) ≡ used p → p.destination ≡ destination a
    unfolding view_at path_place is_live_path
    its_key p known =
        let size : length r.paths ≡ path_count =
        table_length (slot_ok path_ok) path_count r.paths (accepted_valid r a (length output) taken).paths in
        (found_key (λ (p : Path). live a.clock p.expiry) (λ (p : Path). p.destination) (destination a) path_count r.paths size p known).0

    not_blocked : destination a ≡ d → (p : Path) → seen.path (destination a) ≡ used p → p.rate.blocked_until ≡ 0
    unfolding view_at
    not_blocked is p known = h.paths _ p known refl (its_key p known ∙ is)

    -- an announce that test 15 is made of
    module _ (announce : is_announce (header a) ≡ true) (is : destination a ≡ d) (reach : of_test 15 (plan_if true seen a) ≡ true)
        (p : Path) (known : seen.path (destination a) ≡ used p) (made : revives a p ≡ false) where
      on_time : rated seen.rate a.clock p.rate ≡ lets_by (p.rate.violations - 1) p.rate.blocked_until
      unfolding view_at reaches_rate
      on_time =
          let none = not_blocked is p known in
          let is_made = known_made seen a p announce known ∙ and_both (ap not made) refl in
          rated_on_time r.rate a.clock p.rate (omega (arith, none))
          (spaced p announce is (subst (λ (x : List ℕ). (view_at a.clock r).path x ≡ used p) is known) (and_both taken (and_both is_made reach)))

      still_free : (rated seen.rate a.clock p.rate).blocked_until ≡ 0
      still_free = ap (λ (x : Rated). x.blocked_until) on_time ∙ not_blocked is p known

      lets_by_lem : (rated seen.rate a.clock p.rate).dropped ≡ false
      lets_by_lem = ap (λ (x : Rated). x.dropped) on_time

    -- where it holds, it is made
    holds_made : is_announce (header a) ≡ true → (p : Path) → seen.path (destination a) ≡ used p → rate_limited seen a (way_on seen a) ≡ true
        → (revives a p ≡ false) × ((rated seen.rate a.clock p.rate).dropped ≡ true)
    holds_made announce p known holds_then =
        let both = sym (known_limited seen a p announce known) ∙ holds_then in
        (not-true _ (and_left _ _ both), and_right _ _ both)

    -- test 15 drops no announce of it
    unlimited : is_announce (header a) ≡ true → destination a ≡ d → of_test 15 (plan seen a) ≡ true → ⊥
    unfolding of_known
    unlimited announce is by15 =
        let (holds_then, reach) = dropped_reached seen a by15 in
        go reach holds_then (seen.path (destination a)) refl
      where
        go : of_test 15 (plan_if true seen a) ≡ true → rate_limited seen a (way_on seen a) ≡ true → (s : Slot Path) → seen.path (destination a) ≡ s → ⊥
        go reach holds_then empty e =
            false≢true (sym (ap (rate_limited seen a) (announce_way seen a announce ∙ ap everywhere e)) ∙ holds_then)
        go reach holds_then (used p) e =
            let (made, dropped-then) = holds_made announce p e holds_then in
            false≢true (sym (lets_by_lem announce is reach p e made) ∙ dropped-then)

    limit_free : of_test 15 (plan seen a) ≡ true → (s : Slot Path) → seen.path (destination a) ≡ s → free.paths (limit_path seen a s r).paths
    unfolding limit_path with_paths entry_dropped
    limit_free by15 empty e = h.paths
    limit_free by15 (used p) e =
        let (holds_then, reach) = dropped_reached seen a by15 in
        let announce = spread_announce seen a (known_spread seen a _ (way_on seen a) holds_then) in
        let made = (holds_made announce p e holds_then).0 in
        every_set _ _ r.paths _ _ h.paths (λ is. still_free announce (sym (its_key p e) ∙ is) reach p e made)

    announced_free : is_announce (header a) ≡ true → of_test 15 (plan_if true seen a) ≡ true → (s : Slot Path) → seen.path (destination a) ≡ s
        → Free (announced_path seen a s)
    unfolding announced_path announced_rate entry_accepted entry_revived
    announced_free announce reach empty e is = refl
    announced_free announce reach (used p) e is =
        either (λ (x : RateEntry). x.blocked_until ≡ 0) (revives a p)
        (λ _. not_blocked is p e) (λ made. still_free announce is reach p e made)

    way_free : (w : Way) → Planned seen a (follows w) → plan seen a ≡ follows w → WayKeeps free seen a r w
    unfolding put_path with_paths is_spread
    way_free (everywhere known) f e =
        let announce = spread_announce seen a (ap is_spread (passed seen a (everywhere known) e).0) in
        every_set _ _ r.paths _ _ h.paths (announced_free announce (follows_reached seen a (everywhere known) e) known f.found)
    way_free (by_path p) f e = (λ _. tt, λ _. tt)
    way_free (along_link l) f e = tt
    way_free (by_return t) f e = tt
    way_free (blocked why) f e = tt

    plan_free : (todo : Plan) → Planned seen a todo → plan seen a ≡ todo → PlanKeeps free seen a r todo
    unfolding of_test
    plan_free (dropped reason) f e = λ by15. limit_free (ap (of_test 15) e ∙ by15) _ refl
    plan_free delivered f e = tt
    plan_free (follows w) f e = way_free w f e

    enact_free : FreeRelay (enact seen a (plan seen a) r)
    enact_free =
        enact_held h seen a (plan seen a) (record { writes = plan_free (plan seen a) (planned seen a) refl; clock = tt; hash = λ _. tt })

  -- ---- one call
  table_free : (c : TableCall) (r : Relay) → FreeRelay r → FreeRelay ((rule_of c).after r)
  unfolding rename_path
  table_free c r h = table_held h c (go c)
    where
      go : (c : TableCall) → TableKeeps free r c
      go (sets_port port on mode size) = tt
      go (sets_rate target grace penalty) = tt
      go (adds address) = tt
      go (removes address) = tt
      go (renumbers images) = (tt, every_renamed _ _ (rename_path images) (λ _. refl) (λ p k. k) r.paths h.paths, tt, tt)
      go (notes_path note destination clock) = (tt, noted_every note destination clock r _ (λ _. refl) _ (λ p k. k) h.paths)

  module _ (r : Relay) (h : FreeRelay r) (t : Tally) where
    call_free : (c : Call) → sets_relay c ≡ false → SpacedCall d c r → FreeRelay (perform c r t).relay
    unfolding sets_relay
    call_free (packet a output) none spaced = packet_kept FreeRelay h a t output (enact_free a output r h spaced)
    call_free (on_tables c) none spaced = table_kept_by FreeRelay h c t (λ _. table_free c r h)
    call_free (asks q) none spaced = ask_kept FreeRelay h q t
    call_free (saves f room) none spaced = save_kept FreeRelay h f room t
    call_free (loads f file) none spaced = load_kept FreeRelay h f file t (λ e. absurd (false≢true (sym none ∙ e)))

    call_not_dropped : (c : Call) → SpacedCall d c r → NotDropped d c (perform c r t).reply
    call_not_dropped (packet a output) spaced = λ announce is room says.
        let (taken, by15) = rate_dropped a output r t room says in
        unlimited a output r h spaced taken announce is by15
    call_not_dropped (on_tables c) spaced = tt
    call_not_dropped (asks q) spaced = tt
    call_not_dropped (saves f room) spaced = tt
    call_not_dropped (loads f file) spaced = tt

  -- ---- any list
  calls_free : (cs : List Call) (r : Relay) (t : Tally) → FreeRelay r → none_loads cs ≡ true → Spaced d cs r t → NeverBlocked d cs r t
  unfolding Spaced NeverBlocked
  calls_free [] r t h none spaced = tt
  calls_free (c ∷ cs) r t h none spaced =
      let after : FreeRelay (perform c r t).relay = call_free r h t c (first_none sets_relay c cs none) spaced.0 in (
        call_not_dropped r h t c spaced.0,
        λ i p e. after.paths i p e refl,
        calls_free cs (perform c r t).relay (perform c r t).tally after (others_none sets_relay c cs none) spaced.1,
      )

pub spaced_never_blocked : SpacedNeverBlocked
spaced_never_blocked own d cs none spaced = calls_free d cs (fresh own) new_tally (free_fresh d own) none spaced
