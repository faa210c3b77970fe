-- A call on the tables: it is refused alike by what is known and by the tables, and leaves both agreeing.
use Prim.Native.Nat.{ℕ, suc, ◌+◌, ◌-◌, ◌≤◌, ◌<◌}
use native.Mathlib.Decide.{dec_lt, ℕ_discrete}
use native.Mathlib.Nat.{le_refl}
use native.Mathlib.Omega.{arith}
use mathlib.Core.Bool.{Bool, true, false, not, false≢true}
use mathlib.Core.List.{List, []}
use mathlib.Core.Path.{◌≡◌, refl, sym, ap, ap₂, ◌∙◌}
use lib.Dec.{eqb, ltb, leb}
use lib.ListN.{get_or, set, get_or-eq_default}
use lib.Seq.{get_or-set_same, get_or-set_other}
use borrow.Author.Tests.{leb-false, ltb-false, eq-eqb, ne_eqb, not-false}
use Rattle.octets.specs.Choice.{◌then◌otherwise◌, ◌or◌, same}
use Rattle.octets.specs.Listed.{◌gives◌otherwise◌, first_of}
use Rattle.octets.proofs.Index.{first_cong}
use Rattle.octets.proofs.Choice.{same_eq, then_true, then_false, or_no_left, or_no_right}
use Rattle.octets.proofs.Listed.{NoneHolds}
use Rattle.numbers.specs.Numbers.{port_count, local_count, clock_limit}
use Rattle.rules.specs.Relay.{Port, no_port, make_port, Slot, empty, used, Path, with_note, Relay, lowest, with_clock, with_rate, with_ports, with_locals, with_paths}
use Rattle.rules.specs.View.{View, view_at, is_local, local_place, is_live_path, path_place}
use Rattle.rules.specs.Renumbering.{one_to_one, preimage, moved_ports, rename_path, rename_link, rename_return, renumbered}
use Rattle.rules.specs.Refusals.{empty_local}
use Rattle.rules.specs.Tests.{is_there}
use Rattle.rules.specs.Writes.{noted_slot, note_path}
use Rattle.notes.specs.declared.Note.{Note}
use Rattle.rules.specs.Calls.{TableCall, sets_port, sets_rate, adds, removes, renumbers, notes_path, rule_of}
use Rattle.rules.proofs.Slots.{used_not_empty}
use Rattle.rules.proofs.Images.{image_below, preimage_holds, source, source_port, source_other}
use Rattle.rules.proofs.MovedPorts.{moved_at}
use Rattle.rules.proofs.Valid.{Valid}
use Rattle.rules.proofs.UniqueAt.{UniqueAt, later}
use Rattle.history.specs.Known.{Known, only_if, seen_at, now_under, change_path}
use Rattle.history.specs.After.{renumbered_known, after_call}
use Rattle.history.specs.Opinion.{list_limit, call_rows}
use Rattle.history.proofs.Looking.{of_key, look, tells_same, tells_over, tells_new}
use Rattle.history.proofs.Taken.{taken_more, taken_less, spare_dead, spare_empty, full_same}
use Rattle.history.proofs.Holding.{table_changed, table_renamed, ring_renamed}
use Rattle.history.proofs.Agrees.{local_kind, locals_of, AmongLocals, local_test, Agrees, agree, agrees_later, agrees_more, local_agrees, seen_agrees, sixteen, clock_agrees, rate_agrees, port_agrees, locals_agree, paths_agree}
use Rattle.history.proofs.Coarse.{unexpired}

module _ (r : Relay) (valid : Valid r) (n : ℕ) (under : n < list_limit) (k : Known) (h : Agrees r.clock n k r) where
  -- ---- refusals
  mark_agrees : (destination : List ℕ) (clock : ℕ) (b : Bool) → (leb clock_limit clock or ltb clock r.clock) ≡ b
      → ◌≡◌ {A = ℕ} (first_of (b gives 5 otherwise not (is_there ((view_at clock r).path destination)) gives 12 otherwise []) 0)
      (first_of (b gives 5 otherwise not (is_there ((seen_at clock k).path destination)) gives 12 otherwise []) 0)
  unfolding first_of ◌then◌otherwise◌ unexpired
  mark_agrees destination clock true e = refl
  mark_agrees destination clock false e =
      ap (λ (v : View). not (is_there (v.path destination)) then 12 otherwise 0)
      (seen_agrees h valid under clock (ltb-false _ _ (or_no_right _ _ e)))

  pub rows_agree : (c : TableCall) → first_of ((rule_of c).rows r) 0 ≡ first_of (call_rows k c) 0
  unfolding rule_of call_rows empty_local
  rows_agree (sets_port port on mode size) = refl
  rows_agree (sets_rate target grace penalty) = refl
  rows_agree (adds address) =
      ap₂ (λ (there full : Bool). first_of (there gives 11 otherwise full gives 10 otherwise []) 0) (local_agrees h address)
      (full_same local_count r.locals h.locals.tells.size ∙ ap (leb local_count) h.locals.counted)
  rows_agree (removes address) = ap (λ (there : Bool). first_of (not there gives 11 otherwise []) 0) (local_agrees h address)
  rows_agree (renumbers images) = refl
  rows_agree (notes_path note destination clock) =
      mark_agrees destination clock _ refl
      ∙ ap (λ (last : ℕ).
      first_of (leb clock_limit clock or ltb clock last gives 5 otherwise not (is_there ((seen_at clock k).path destination)) gives 12 otherwise []) 0) h.clock

  -- ---- a port's settings
  port_set_lem : (port : ℕ) → port < port_count → (new : Port) (p : ℕ) → get_or (set r.ports port new) p no_port ≡ (eqb p port then new otherwise k.port p)
  port_set_lem port l new p = go (ℕ_discrete p port)
    where
      go : Dec (p ≡ port) → get_or (set r.ports port new) p no_port ≡ (eqb p port then new otherwise k.port p)
      go (yes e) =
          ap (λ (p : ℕ). get_or (set r.ports port new) p no_port) e
          ∙ get_or-set_same r.ports port new no_port (omega (arith, sixteen h valid))
          ∙ sym (then_true _ _ (eq-eqb p port e))
      go (no e) = get_or-set_other r.ports port p new no_port e ∙ h.ports p ∙ sym (then_false _ _ (ne_eqb p port e))

  -- ---- local addresses
  local_known : (address : List ℕ) (new : Bool) (j : List ℕ)
      → now_under address (new then used address otherwise empty) (locals_of k.local) j ≡ locals_of (now_under address new k.local) j
  unfolding now_under ◌then◌otherwise◌
  local_known address new j = go (same address j) refl
    where
      go : (b : Bool) → same address j ≡ b
          → (b then (new then used address otherwise empty) otherwise (k.local j then used j otherwise empty))
          ≡ ((b then new otherwise k.local j) then used j otherwise empty)
      go true e = ap (λ (x : List ℕ). new then used x otherwise empty) (same_eq address j e)
      go false e = refl

  told_local : (address : List ℕ) → look local_kind 0 r.locals address ≡ only_if (local_kind.alive 0) (locals_of k.local address)
  told_local = h.locals.tells.told 0 (le_refl 0)

  local_look : (address : List ℕ) (b : Bool) → k.local address ≡ b → look local_kind 0 r.locals address ≡ (b then used address otherwise empty)
  unfolding only_if ◌then◌otherwise◌
  local_look address true e = told_local address ∙ ap (λ (b : Bool). only_if (local_kind.alive 0) (b then used address otherwise empty)) e
  local_look address false e = told_local address ∙ ap (λ (b : Bool). only_if (local_kind.alive 0) (b then used address otherwise empty)) e

  added : (address : List ℕ) → is_local r address ≡ false → empty_local r < local_count
      → AmongLocals (set r.locals (empty_local r) (used address)) (now_under address true k.local) (k.locals + 1)
  unfolding empty_local ◌then◌otherwise◌
  added address new l =
      record {
        tells =
            tells_same (local_known address true)
            (tells_new h.locals.tells _ l address (local_look address false (sym (local_agrees h address) ∙ new))
            (spare_dead (λ x. true) local_count r.locals l) address refl);
        counted =
            taken_more r.locals _ address (omega (arith, h.locals.tells.size)) (spare_empty local_count r.locals h.locals.tells.size l)
            ∙ ap (λ (n : ℕ). n + 1) h.locals.counted;
      }

  -- the rules look it up the other way round
  local_place_lem : (address : List ℕ) → local_place r address ≡ lowest (of_key local_kind 0 address) local_count r.locals
  unfolding local_place lowest
  local_place_lem address = first_cong _ _ local_count (λ i l. local_test address (get_or r.locals i empty))

  removed : UniqueAt r.clock r → (address : List ℕ) → is_local r address ≡ true
      → AmongLocals (set r.locals (local_place r address) empty) (now_under address false k.local) (k.locals - 1)
  unfolding ◌then◌otherwise◌
  removed u address there =
      let f : look local_kind 0 r.locals address ≡ used address = local_look address true (sym (local_agrees h address) ∙ there) in
      rw local_place_lem
      (record {
        tells = tells_same (local_known address false) (tells_over h.locals.tells u.locals address address f empty (λ x e. absurd (used_not_empty e)));
        counted = omega (arith, taken_less r.locals _ address f, h.locals.counted);
      })

  -- ---- renumbering
  ports_moved : (images : List ℕ) → one_to_one images ≡ true → (port : ℕ) → get_or (moved_ports images r.ports) port no_port ≡ k.port (preimage images port)
  ports_moved images ok port = moved_at images r.ports (sixteen h valid) port ∙ go (dec_lt port port_count) ∙ h.ports (preimage images port)
    where
      nowhere : port_count ≤ port → Dec (preimage images port < port_count) → port_count ≤ preimage images port
      nowhere l (yes m) =
          let z : ⊥ = omega (arith, image_below images ok (preimage images port) m, preimage_holds images port m) in
          absurd z
      nowhere l (no m) = omega arith

      go : Dec (port < port_count) → get_or r.ports (source images port) no_port ≡ get_or r.ports (preimage images port) no_port
      go (yes l) = ap (λ (p : ℕ). get_or r.ports p no_port) (source_port images port l)
      go (no l) =
          let m : port_count ≤ preimage images port = nowhere (omega arith) (dec_lt (preimage images port) port_count) in
          ap (λ (p : ℕ). get_or r.ports p no_port) (source_other images port (omega arith))
          ∙ get_or-eq_default r.ports no_port {n = port} (omega (arith, sixteen h valid))
          ∙ sym (get_or-eq_default r.ports no_port {n = preimage images port} (omega (arith, sixteen h valid)))

  renumbering_agrees : (images : List ℕ) → one_to_one images ≡ true → Agrees r.clock n (renumbered_known images k) (renumbered images r)
  unfolding renumbered_known renumbered rename_path rename_link rename_return
  renumbering_agrees images ok =
      agree h.own h.clock h.rate (ports_moved images ok) h.locals
      (table_renamed h.paths (rename_path images) (λ _. refl) (λ _ _. refl))
      (table_renamed h.links (rename_link images) (λ _. refl) (λ _ _. refl))
      (ring_renamed h.returns (rename_return images) (λ _. refl) (λ _ _. refl)) h.hashes

  -- ---- a mark
  noted : UniqueAt r.clock r → (note : Note) (destination : List ℕ) (clock : ℕ) → r.clock ≤ clock → is_there ((view_at clock r).path destination) ≡ true
      → Agrees clock (suc n) (change_path destination (with_note note) k) (note_path note destination clock r)
  unfolding change_path note_path noted_slot view_at path_place is_live_path is_there
  noted u note destination clock l there = go ((view_at clock r).path destination) refl there
    where
      go : (s : Slot Path) → (view_at clock r).path destination ≡ s → is_there s ≡ true
          → Agrees clock (suc n) (change_path destination (with_note note) k) (with_paths (set r.paths (path_place clock r destination) (noted_slot note s)) r)
      go empty f t = absurd (false≢true t)
      go (used p) f t =
          let now : Agrees clock n k r = agrees_later h l in
          paths_agree (agrees_more now) destination _ (table_changed now.paths (later r l u).paths.0 destination p f (with_note note) (λ _. refl))

  -- ---- each call, where no row refuses it
  pub call_agrees : UniqueAt r.clock r → (c : TableCall) → NoneHolds ((rule_of c).rows r)
      → Agrees ((rule_of c).after r).clock (suc n) (after_call c k) ((rule_of c).after r)
  unfolding rule_of after_call is_local with_clock with_rate with_ports with_locals renumbered
  call_agrees u (sets_port port on mode size) p =
      port_agrees (agrees_more h) port (make_port on mode size) _ (port_set_lem port (leb-false _ _ (or_no_left _ _ p.0)) (make_port on mode size))
  call_agrees u (sets_rate target grace penalty) p = rate_agrees (agrees_more h) _
  call_agrees u (adds address) p = locals_agree (agrees_more h) address true (added address p.0 (leb-false _ _ p.1.0))
  call_agrees u (removes address) p = locals_agree (agrees_more h) address false (removed u address (not-false _ p.0))
  call_agrees u (renumbers images) p = agrees_more (renumbering_agrees images (not-false _ p.0))
  call_agrees u (notes_path note destination clock) p =
      clock_agrees (noted u note destination clock (ltb-false _ _ (or_no_right _ _ p.0)) (not-false _ p.1.0)) clock
