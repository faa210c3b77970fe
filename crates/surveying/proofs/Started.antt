-- The start of every recording holds what its settings' relay has of own address, ports, announce rate and local addresses, and is fresh otherwise.
use Rattle.std.proofs.Common.{◌≡◌, ℕ, zero, suc, ◌+◌, ◌<◌, ◌≤◌, Bool, true, false, List, [], ◌∷◌, ◌++◌, map, length, get_or, set, sym, refl, ap, ◌∙◌, subst, append_assoc, add-one, arith, length-append, ltb-true, eqb-true}
use mathlib.Core.List.{map-append}
use lib.ListN.{length-replicate}
use borrow.Author.Tests.{lt-leb}
use Rattle.octets.specs.Bytes.{Bytes}
use Rattle.octets.specs.Index.{list_of}
use Rattle.octets.specs.Choice.{◌then◌otherwise◌, ◌or◌, same}
use Rattle.octets.specs.Listed.{first_of}
use Rattle.octets.proofs.Choice.{or_left, or_else, or_false, same_eq}
use Rattle.octets.proofs.Index.{and_left, and_right}
use Rattle.octets.proofs.ListOf.{mixed, mixed_more, mixed_all}
use Rattle.numbers.specs.Numbers.{is_size, port_count, local_count, mode_count}
use Rattle.rules.specs.Relay.{Port, fresh_port, no_port, Slot, empty, used, Relay, fresh, with_rate, with_ports, with_locals, holds}
use Rattle.rules.specs.View.{is_local}
use Rattle.rules.specs.Refusals.{rate_settings_ok, port_ok, slot_ok, all, table_ok, tables_ok}
use Rattle.rules.specs.Calls.{new_tally, TableCall, sets_port, adds, rule_of, table_refusal, settled, settle}
use Rattle.rules.specs.Run.{on_tables, of_setting, perform}
use Rattle.rules.proofs.Tables.{table_length, all_set}
use Rattle.rules.proofs.Held.{TableKeeps, table_held, table_kept}
use Rattle.rules.proofs.Valid.{step_ok, fresh_ok}
use Rattle.tables.specs.Places.{address_width, table_size}
use Rattle.tables.specs.Layout.{relay_of, bytes_of, well_formed}
use Rattle.tables.specs.Called.{written, called, call_on}
use Rattle.tables.specs.Shape.{is_bytes, shaped}
use Rattle.tables.proofs.Shaped.{shape, Shaped, shaped_parts, shaped_from}
use Rattle.tables.proofs.Whole.{back, ok_bytes}
use Rattle.settings.proofs.Shaped.{fresh_shaped}
use Rattle.saved.specs.Load.{load_refusal, held_in}
use Rattle.saved.proofs.FormatLaws.{said_ok, said_shaped}
use Rattle.surveying.specs.Start.{port_call, rate_call, local_calls, setting_calls, tables_after, start_of, StartsAs}
use Rattle.surveying.proofs.SettingLaws.{port_fine}
use Rattle.surveying.proofs.AddressLaws.{any, any_append, or_assoc, local_any, packed, packed_length, packed_any, known_address, new_address}

-- ---- the calls by the rules, one after another
unfoldable pub settled_by : List TableCall → Relay → Relay
settled_by [] s = s
settled_by (c ∷ cs) s = settled_by cs (settle c s).relay

settled_append : (cs ds : List TableCall) (s : Relay) → settled_by (cs ++ ds) s ≡ settled_by ds (settled_by cs s)
unfolding settled_by
settled_append [] ds s = refl
settled_append (c ∷ cs) ds s = settled_append cs ds (settle c s).relay

step_fine : (c : TableCall) (s : Relay) → tables_ok s ≡ true → tables_ok (settle c s).relay ≡ true
unfolding perform of_setting
step_fine c s ok = step_ok (on_tables c) s new_tally ok

settled_ok : (cs : List TableCall) (s : Relay) → tables_ok s ≡ true → tables_ok (settled_by cs s) ≡ true
unfolding settled_by
settled_ok [] s ok = ok
settled_ok (c ∷ cs) s ok = settled_ok cs (settle c s).relay (step_fine c s ok)

-- ---- the calls on the bytes, where each leaves what tables can hold
abbrev Keep : List TableCall → Type 0
Keep [] = Unit {0}
Keep (c ∷ cs) = ((s : Relay) → Shaped s → TableKeeps shape s c) × Keep cs

step_shaped : (c : TableCall) (s : Relay) → ((r : Relay) → Shaped r → TableKeeps shape r c) → shaped s ≡ true → shaped (settle c s).relay ≡ true
unfolding perform of_setting
step_shaped c s keeps h =
    let parts : Shaped s = shaped_parts s h in
    shaped_from (settle c s).relay (table_kept Shaped parts c new_tally (λ _. table_held parts c (keeps s parts)))

call_bytes : (c : TableCall) (s : Relay) → shaped s ≡ true → tables_ok s ≡ true → (call_on (bytes_of s) c).tables ≡ bytes_of (settle c s).relay
unfolding called written ◌then◌otherwise◌
call_bytes c s h ok = rw (ok_bytes s h ok, back s h ok)

on_bytes : (cs : List TableCall) → Keep cs → (s : Relay) → shaped s ≡ true → tables_ok s ≡ true
    → (tables_after cs (bytes_of s) ≡ bytes_of (settled_by cs s)) × (shaped (settled_by cs s) ≡ true)
unfolding tables_after settled_by
on_bytes [] keep s h ok = (refl, h)
on_bytes (c ∷ cs) keep s h ok =
    let rest = on_bytes cs keep.1 (settle c s).relay (step_shaped c s keep.0 h) (step_fine c s ok) in
    (ap (tables_after cs) (call_bytes c s h ok) ∙ rest.0, rest.1)

-- ---- ports
port_set_lem : (s : Relay) → tables_ok s ≡ true → (i : ℕ) (p : Port) → i < port_count → p.mode < mode_count → is_size p.size ≡ true
    → (settle (sets_port i p.on p.mode p.size) s).relay ≡ with_ports (set s.ports i p) s
unfolding settle settled table_refusal rule_of first_of ◌then◌otherwise◌ ◌or◌
port_set_lem s ok i p l m z = rw (ok, lt-leb port_count i l, lt-leb mode_count p.mode m, z)

module _ (r : Relay) (ok : tables_ok r ≡ true) (own : List ℕ) where
  ports_fine : table_ok port_count port_ok r.ports ≡ true
  unfolding tables_ok
  ports_fine = and_left _ _ (and_right _ _ (and_right _ _ ok))

  set_fine : (i : ℕ) → ((get_or r.ports i no_port).mode < mode_count) × (is_size (get_or r.ports i no_port).size ≡ true)
  unfolding port_ok
  set_fine i = (ltb-true _ mode_count (and_left _ _ (port_fine r ok i)), and_right _ _ (port_fine r ok i))

  old : List Port
  old = (fresh own).ports

  alike : length r.ports ≡ length old
  unfolding old fresh
  alike = table_length port_ok port_count r.ports ports_fine ∙ sym (length-replicate {A = Port} port_count fresh_port)

  old_length : length old ≡ port_count
  unfolding old fresh
  old_length = length-replicate {A = Port} port_count fresh_port

  ports_set : (n : ℕ) → n ≤ port_count → settled_by (list_of (port_call r) n) (fresh own) ≡ with_ports (mixed n r.ports old) (fresh own)
  unfolding settled_by list_of port_call with_ports old
  ports_set zero l = refl
  ports_set (suc n) l =
      let p : Port = get_or r.ports n no_port in
      let before : settled_by (list_of (port_call r) n) (fresh own) ≡ with_ports (mixed n r.ports old) (fresh own) = ports_set n (omega arith) in
      let fine : tables_ok (with_ports (mixed n r.ports old) (fresh own)) ≡ true =
      subst (λ (s : Relay). tables_ok s ≡ true) before (settled_ok (list_of (port_call r) n) (fresh own) (fresh_ok own)) in
      settled_append (list_of (port_call r) n) (port_call r n ∷ []) (fresh own)
      ∙ ap (λ (s : Relay). (settle (sets_port n p.on p.mode p.size) s).relay) before
      ∙ port_set_lem (with_ports (mixed n r.ports old) (fresh own)) fine n p (omega arith) (set_fine n).0 (set_fine n).1
      ∙ ap (λ (ports : List Port). with_ports ports (fresh own))
      (mixed_more r.ports old alike n no_port (omega (arith, old_length)) ∙ ap (λ (k : ℕ). mixed k r.ports old) (add-one n))

  all_ports : settled_by (list_of (port_call r) port_count) (fresh own) ≡ with_ports r.ports (fresh own)
  all_ports =
      ports_set port_count (omega arith)
      ∙ ap (λ (ports : List Port). with_ports ports (fresh own)) (mixed_all r.ports old alike port_count (omega (arith, old_length)))

  -- ---- the announce rate
  rate_fine : rate_settings_ok r.rate ≡ true
  unfolding tables_ok
  rate_fine = and_left _ _ (and_right _ _ ok)

  rate_set : (s : Relay) → tables_ok s ≡ true → (settle (rate_call r) s).relay ≡ with_rate r.rate s
  unfolding settle settled table_refusal rule_of rate_call first_of ◌then◌otherwise◌
  rate_set s fine = rw (fine, rate_fine)

-- ---- local addresses: those of the slots are there afterwards, and those that were before
abbrev Added : List (Slot (List ℕ)) → Relay → List (List ℕ) → Type 0
Added slots s d =
    (after : List (List ℕ))
    × (length after ≤ length d + length slots)
    × (settled_by (local_calls slots) s ≡ with_locals (packed after) s)
    × ((a : List ℕ) → any (holds (same a)) (map used after) ≡ (any (holds (same a)) (map used d) or any (holds (same a)) slots))

-- an address that is there already, put before others
known_twice : (a x : List ℕ) (d : List (List ℕ)) (rest : Bool) → any (holds (same x)) (map used d) ≡ true
    → (any (holds (same a)) (map used d) or rest) ≡ (any (holds (same a)) (map used d) or (same a x or rest))
known_twice a x d rest there = go (same a x) refl
  where
    go : (b : Bool) → same a x ≡ b → (any (holds (same a)) (map used d) or rest) ≡ (any (holds (same a)) (map used d) or (same a x or rest))
    go true e =
        let held : any (holds (same a)) (map used d) ≡ true =
        subst (λ (y : List ℕ). any (holds (same y)) (map used d) ≡ true) (sym (same_eq a x e)) there in
        or_left rest held ∙ sym (or_left (same a x or rest) held)
    go false e = ap (λ (b : Bool). any (holds (same a)) (map used d) or b) (sym (or_else rest e))

one_more_lem : (a x : List ℕ) (d : List (List ℕ)) (rest : Bool)
    → (any (holds (same a)) (map used (d ++ (x ∷ []))) or rest) ≡ (any (holds (same a)) (map used d) or (same a x or rest))
unfolding any holds
one_more_lem a x d rest =
    let there : any (holds (same a)) (map used (d ++ (x ∷ []))) ≡ (any (holds (same a)) (map used d) or same a x) =
    ap (any (holds (same a))) (map-append used d (x ∷ []))
    ∙ any_append (holds (same a)) (map used d) (used x ∷ [])
    ∙ ap (λ (b : Bool). any (holds (same a)) (map used d) or b) (or_false (same a x)) in
    ap (λ (b : Bool). b or rest) there ∙ or_assoc (any (holds (same a)) (map used d)) (same a x) rest

module _ (s : Relay) (ok : tables_ok s ≡ true) (d : List (List ℕ)) (is : s.locals ≡ packed d) (x : List ℕ) (slots : List (Slot (List ℕ))) where
  is_there_lem : length d ≤ local_count → is_local s x ≡ any (holds (same x)) (map used d)
  is_there_lem l = local_any s (ap length is ∙ packed_length d l) x ∙ ap (any (holds (same x))) is ∙ packed_any x d

  add_known : length d ≤ local_count → is_local s x ≡ true → Added slots s d → Added (used x ∷ slots) s d
  unfolding settled_by local_calls any holds
  add_known l e rest = (
    rest.0,
    omega (arith, rest.1),
    ap (settled_by (local_calls slots)) (known_address s ok x e) ∙ rest.2,
    λ a. rest.3 a ∙ known_twice a x d (any (holds (same a)) slots) (sym (is_there_lem l) ∙ e),
  )

  abbrev grown : Relay
  grown = with_locals (packed (d ++ (x ∷ []))) s

  add_new : length d < local_count → is_local s x ≡ false → Added slots grown (d ++ (x ∷ [])) → Added (used x ∷ slots) s d
  unfolding settled_by local_calls any holds with_locals
  add_new l e rest = (
    rest.0,
    omega (arith, rest.1, length-append d (x ∷ [])),
    ap (settled_by (local_calls slots)) (new_address s ok x d is l e) ∙ rest.2,
    λ a. rest.3 a ∙ one_more_lem a x d (any (holds (same a)) slots),
  )

  grown_ok : length d < local_count → is_local s x ≡ false → tables_ok grown ≡ true
  unfolding settled_by
  grown_ok l e = subst (λ (y : Relay). tables_ok y ≡ true) (new_address s ok x d is l e) (settled_ok (adds x ∷ []) s ok)

adding : (slots : List (Slot (List ℕ))) (s : Relay) → tables_ok s ≡ true → (d : List (List ℕ)) → s.locals ≡ packed d → length d + length slots ≤ local_count
    → Added slots s d
unfolding settled_by local_calls any holds ◌or◌ with_locals
adding [] s ok d is room = (d, omega arith, ap (λ (v : List (Slot (List ℕ))). with_locals v s) is, λ a. sym (or_false _))
adding (empty ∷ slots) s ok d is room =
    let rest = adding slots s ok d is (omega (arith, room)) in
    (rest.0, omega (arith, rest.1), rest.2, rest.3)
adding (used x ∷ slots) s ok d is room =
    go (is_local s x) refl (adding slots s ok d is (omega (arith, room)))
    (λ e. adding slots (with_locals (packed (d ++ (x ∷ []))) s) (grown_ok s ok d is x slots (omega (arith, room)) e) (d ++ (x ∷ [])) refl
    (omega (arith, room, length-append d (x ∷ []))))
  where
    go : (b : Bool) → is_local s x ≡ b → Added slots s d
        → (is_local s x ≡ false → Added slots (with_locals (packed (d ++ (x ∷ []))) s) (d ++ (x ∷ []))) → Added (used x ∷ slots) s d
    go true e known new = add_known s ok d is x slots (omega (arith, room)) e known
    go false e known new = add_new s ok d is x slots (omega (arith, room)) e (new e)

-- ---- the calls keep what tables can hold: the addresses that they add are some that tables held
keep_append : (cs ds : List TableCall) → Keep cs → Keep ds → Keep (cs ++ ds)
keep_append [] ds h k = k
keep_append (c ∷ cs) ds h k = (h.0, keep_append cs ds h.1 k)

ports_keep : (r : Relay) (n : ℕ) → Keep (list_of (port_call r) n)
unfolding list_of port_call
ports_keep r zero = tt
ports_keep r (suc n) = keep_append (list_of (port_call r) n) (port_call r n ∷ []) (ports_keep r n) (λ s h. tt, tt)

locals_keep : (slots : List (Slot (List ℕ))) → all (slot_ok (is_bytes address_width)) slots ≡ true → Keep (local_calls slots)
unfolding local_calls all slot_ok
locals_keep [] h = tt
locals_keep (empty ∷ slots) h = locals_keep slots (and_right _ _ h)
locals_keep (used x ∷ slots) h = (
  λ s k. all_set (slot_ok (is_bytes address_width)) s.locals _ (used x) k.locals (and_left _ _ h),
  locals_keep slots (and_right _ _ h),
)

-- ---- the start
module _ (r : Relay) (s : shaped r ≡ true) (ok : tables_ok r ≡ true) where
  keep : Keep (setting_calls r)
  unfolding setting_calls shaped rate_call
  keep =
      keep_append (list_of (port_call r) port_count) (rate_call r ∷ local_calls r.locals) (ports_keep r port_count)
      (λ x h. tt, locals_keep r.locals (and_left _ _ (and_right _ _ s)))

  local_places : length r.locals ≡ local_count
  unfolding tables_ok
  local_places = eqb-true (length r.locals) local_count (and_left _ _ (and_right _ _ (and_right _ _ (and_right _ _ ok))))

  abbrev set_up : Relay
  set_up = with_rate r.rate (with_ports r.ports (fresh r.own))

  calls_before : List TableCall
  calls_before = list_of (port_call r) port_count ++ (rate_call r ∷ [])

  before_locals : settled_by calls_before (fresh r.own) ≡ set_up
  unfolding calls_before settled_by
  before_locals =
      let fine : tables_ok (with_ports r.ports (fresh r.own)) ≡ true =
      subst (λ (x : Relay). tables_ok x ≡ true) (all_ports r ok r.own)
      (settled_ok (list_of (port_call r) port_count) (fresh r.own) (fresh_ok r.own)) in
      settled_append (list_of (port_call r) port_count) (rate_call r ∷ []) (fresh r.own)
      ∙ ap (λ (x : Relay). (settle (rate_call r) x).relay) (all_ports r ok r.own)
      ∙ rate_set r ok r.own (with_ports r.ports (fresh r.own)) fine

  set_up_ok : tables_ok set_up ≡ true
  set_up_ok = subst (λ (x : Relay). tables_ok x ≡ true) before_locals (settled_ok calls_before (fresh r.own) (fresh_ok r.own))

  set_up_locals : set_up.locals ≡ packed []
  unfolding with_rate with_ports fresh packed
  set_up_locals = refl

  added : Added r.locals set_up []
  added = adding r.locals set_up set_up_ok [] set_up_locals (omega (arith, local_places))

  by_rules : settled_by (setting_calls r) (fresh r.own) ≡ with_locals (packed added.0) set_up
  unfolding setting_calls calls_before settled_by
  by_rules =
      ap (λ (cs : List TableCall). settled_by cs (fresh r.own))
      (sym (append_assoc (list_of (port_call r) port_count) (rate_call r ∷ []) (local_calls r.locals)))
      ∙ settled_append calls_before (local_calls r.locals) (fresh r.own)
      ∙ ap (settled_by (local_calls r.locals)) before_locals
      ∙ added.2

  fresh_fits : shaped (fresh r.own) ≡ true
  unfolding shaped
  fresh_fits = fresh_shaped r.own (and_left _ _ s)

  made : (start_of r ≡ bytes_of (settled_by (setting_calls r) (fresh r.own))) × (shaped (settled_by (setting_calls r) (fresh r.own)) ≡ true)
  unfolding start_of
  made = on_bytes (setting_calls r) keep (fresh r.own) fresh_fits (fresh_ok r.own)

  made_ok : tables_ok (settled_by (setting_calls r) (fresh r.own)) ≡ true
  made_ok = settled_ok (setting_calls r) (fresh r.own) (fresh_ok r.own)

  start_relay : relay_of (start_of r) ≡ with_locals (packed added.0) set_up
  start_relay = ap relay_of made.0 ∙ back (settled_by (setting_calls r) (fresh r.own)) made.1 made_ok ∙ by_rules

  same_locals : (a : List ℕ) → is_local (with_locals (packed added.0) set_up) a ≡ is_local r a
  unfolding with_locals any ◌or◌
  same_locals a =
      local_any (with_locals (packed added.0) set_up) (packed_length added.0 (omega (arith, added.1, local_places))) a
      ∙ packed_any a added.0
      ∙ added.3 a
      ∙ sym (local_any r local_places a)

  -- fresh tables with the settings and the local addresses
  pub starts_as : StartsAs r (relay_of (start_of r))
  unfolding with_locals with_rate with_ports fresh
  starts_as =
      record {
        own = ap (λ (x : Relay). x.own) start_relay;
        ports = ap (λ (x : Relay). x.ports) start_relay;
        rate = ap (λ (x : Relay). x.rate) start_relay;
        locals = λ a. ap (λ (x : Relay). is_local x a) start_relay ∙ same_locals a;
        clock = ap (λ (x : Relay). x.clock) start_relay;
        paths = ap (λ (x : Relay). x.paths) start_relay;
        links = ap (λ (x : Relay). x.links) start_relay;
        returns = ap (λ (x : Relay). x.returns) start_relay;
        hashes = ap (λ (x : Relay). x.hashes) start_relay;
      }

  -- refusal 7 never names them
  pub start_formed : well_formed (start_of r) ≡ true
  start_formed = ap well_formed made.0 ∙ ok_bytes (settled_by (setting_calls r) (fresh r.own)) made.1 made_ok

-- ---- the start by a settings file that isn't refused
pub starts_as_saved : (file : List ℕ) → Bytes file → load_refusal file table_size ≡ 0 → StartsAs (held_in file).0 (relay_of (start_of (held_in file).0))
starts_as_saved file b none = starts_as (held_in file).0 (said_shaped file b none) (said_ok file b none)
