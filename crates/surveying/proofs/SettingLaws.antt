-- Setting a relay as another is set: the calls one after another, and what each is told.
use Rattle.std.proofs.Common.{◌≡◌, ℕ, ◌+◌, ◌<◌, ◌≤◌, Bool, true, false, eqb, leb, List, [], ◌∷◌, ◌++◌, length, get_or, take, sym, refl, ap, ◌∙◌, append_assoc, append-nil, add-one, arith, length-append, take_all, take-suc, leb-true}
use borrow.Author.Tests.{lt-leb}
use Rattle.octets.specs.Index.{◌and◌, list_of}
use Rattle.octets.specs.Choice.{◌then◌otherwise◌}
use Rattle.octets.specs.Part.{part}
use Rattle.octets.specs.BigEndian.{number, big_endian}
use Rattle.octets.proofs.Index.{and_left, and_right}
use Rattle.octets.proofs.Choice.{then_false}
use Rattle.octets.proofs.Part.{part_mid}
use Rattle.octets.proofs.BigEndian.{big_endian_length, number_big_endian}
use Rattle.numbers.specs.Numbers.{longest_packet, is_size, port_count, target_limit, grace_limit, penalty_limit}
use Rattle.rules.specs.Relay.{Port, no_port, Slot, empty, used, Relay}
use Rattle.rules.specs.Refusals.{port_ok, rate_settings_ok, tables_ok}
use Rattle.rules.specs.Calls.{TableCall, sets_port, adds}
use Rattle.rules.specs.Questions.{port_settings, rate_settings, local_at, Told, none, a_port, an_address, told_of, question_rule, question_refusal}
use Rattle.rules.specs.declared.RateSettings.{RateSettings}
use Rattle.rules.proofs.Accepted.{no_port_ok}
use Rattle.rules.proofs.Tables.{table_get_d}
use Rattle.tables.specs.Places.{setting_width, size_width}
use Rattle.tables.specs.Records.{mark_of}
use Rattle.tables.specs.Layout.{relay_of, well_formed}
use Rattle.tables.specs.Called.{call_on}
use Rattle.tables.specs.Asked.{tell_on, told_number, told_bytes, Tells}
use Rattle.tables.proofs.Whole.{ok_relay}
use Rattle.status.proofs.Asked.{asked}
use Rattle.surveying.specs.Start.{port_call, rate_call, local_calls, setting_calls, tables_after}
use Rattle.surveying.specs.Steps.{size_at, size_told, rate_told, grace_at, penalty_at}

-- ---- calls one after another
after_append : (cs ds : List TableCall) (t : List ℕ) → tables_after (cs ++ ds) t ≡ tables_after ds (tables_after cs t)
unfolding tables_after
after_append [] ds t = refl
after_append (c ∷ cs) ds t = after_append cs ds (call_on t c).tables

after_last : (cs : List TableCall) (c : TableCall) (t : List ℕ) → (call_on (tables_after cs t) c).tables ≡ tables_after (cs ++ (c ∷ [])) t
unfolding tables_after
after_last cs c t = sym (after_append cs (c ∷ []) t)

locals_append : (xs ys : List (Slot (List ℕ))) → local_calls (xs ++ ys) ≡ local_calls xs ++ local_calls ys
unfolding local_calls
locals_append [] ys = refl
locals_append (empty ∷ xs) ys = locals_append xs ys
locals_append (used address ∷ xs) ys = ap (λ (cs : List TableCall). adds address ∷ cs) (locals_append xs ys)

-- port after port
pub no_port_set : (r : Relay) (t : List ℕ) → t ≡ tables_after (list_of (port_call r) 0) t
unfolding list_of tables_after
no_port_set r t = refl

pub port_more : (r : Relay) (t u : List ℕ) (i : ℕ) → u ≡ tables_after (list_of (port_call r) i) t → (v : List ℕ) → v ≡ (call_on u (port_call r i)).tables
    → v ≡ tables_after (list_of (port_call r) (i + 1)) t
unfolding list_of
port_more r t u i e v q =
    q
    ∙ ap (λ (x : List ℕ). (call_on x (port_call r i)).tables) e
    ∙ after_last (list_of (port_call r) i) (port_call r i) t
    ∙ ap (λ (n : ℕ). tables_after (list_of (port_call r) n) t) (sym (add-one i))

-- place after place
module _ (slots : List (Slot (List ℕ))) (t : List ℕ) where
  pub no_local_added : t ≡ tables_after (local_calls (take 0 slots)) t
  unfolding local_calls tables_after
  no_local_added = refl

  pub local_more : (u : List ℕ) (i : ℕ) → i < length slots → u ≡ tables_after (local_calls (take i slots)) t
      → (v : List ℕ) → v ≡ tables_after (local_calls (get_or slots i empty ∷ [])) u → v ≡ tables_after (local_calls (take (i + 1) slots)) t
  local_more u i l e v q =
      let one : List (Slot (List ℕ)) = get_or slots i empty ∷ [] in
      q
      ∙ ap (tables_after (local_calls one)) e
      ∙ sym (after_append (local_calls (take i slots)) (local_calls one) t)
      ∙ ap (λ (cs : List TableCall). tables_after cs t) (sym (locals_append (take i slots) one) ∙ ap local_calls (sym (take-suc slots i empty l)))
      ∙ ap (λ (n : ℕ). tables_after (local_calls (take n slots)) t) (sym (add-one i))

  pub locals_added : (u : List ℕ) (i : ℕ) → length slots ≤ i → u ≡ tables_after (local_calls (take i slots)) t → u ≡ tables_after (local_calls slots) t
  locals_added u i l e = e ∙ ap (λ (s : List (Slot (List ℕ))). tables_after (local_calls s) t) (take_all i slots l)

-- ports, announce rate and local addresses
pub all_set : (r : Relay) (t u v w : List ℕ) → u ≡ tables_after (list_of (port_call r) port_count) t → v ≡ (call_on u (rate_call r)).tables
    → w ≡ tables_after (local_calls r.locals) v → w ≡ tables_after (setting_calls r) t
unfolding setting_calls tables_after
all_set r t u v w q1 q2 q3 =
    q3
    ∙ ap (tables_after (local_calls r.locals)) (q2 ∙ ap (λ (x : List ℕ). (call_on x (rate_call r)).tables) q1)
    ∙ sym (after_append (list_of (port_call r) port_count) (rate_call r ∷ local_calls r.locals) t)

-- ---- what is told
mark_told : (b : Bool) → eqb (mark_of b) 1 ≡ b
unfolding mark_of ◌then◌otherwise◌
mark_told true = refl
mark_told false = refl

-- a port's mode and size are in range, whichever its number
pub port_fine : (r : Relay) → tables_ok r ≡ true → (i : ℕ) → port_ok (get_or r.ports i no_port) ≡ true
unfolding tables_ok
port_fine r ok i = table_get_d port_ok port_count r.ports (and_left _ _ (and_right _ _ (and_right _ _ ok))) i no_port no_port_ok

module _ (t : List ℕ) (h : well_formed t ≡ true) where
  abbrev port_there : ℕ → Port
  port_there port = get_or (relay_of t).ports port no_port

  size_small : (port : ℕ) → (port_there port).size ≤ longest_packet
  unfolding port_ok is_size
  size_small port = leb-true (port_there port).size longest_packet (and_right _ _ (and_right _ _ (port_fine (relay_of t) (ok_relay t h) port)))

  pub port_told_as : (port : ℕ) → port < port_count → (old told : List ℕ) → told ≡ told_bytes (tell_on t (port_settings port)) old
      → sets_port port (eqb (get_or told 0 0) 1) (get_or told 1 0) (size_told told) ≡ port_call (relay_of t) port
  unfolding port_call question_refusal question_rule told_bytes size_told
  port_told_as port l old told q =
      let p : Port = port_there port in
      let is : tell_on t (port_settings port) ≡ a_port p =
      asked t h (port_settings port) refl ∙ then_false none (a_port p) (lt-leb port_count port l) in
      let z : List ℕ = big_endian size_width p.size in
      let bytes : told ≡ mark_of p.on ∷ p.mode ∷ z = q ∙ ap (λ (x : Told). told_bytes x old) is in
      let size : number (part (mark_of p.on ∷ p.mode ∷ z) size_at size_width) ≡ p.size =
      ap number
      (ap (λ (b : List ℕ). part (mark_of p.on ∷ p.mode ∷ b) size_at size_width) (sym (append-nil z))
      ∙ part_mid (mark_of p.on ∷ p.mode ∷ []) z [] size_at size_width refl (big_endian_length size_width p.size))
      ∙ number_big_endian size_width p.size (omega (arith, size_small port)) in
      ap (λ (b : List ℕ). sets_port port (eqb (get_or b 0 0) 1) (get_or b 1 0) (number (part b size_at size_width))) bytes
      ∙ λ i. sets_port port (mark_told p.on i) p.mode (size i)

  rate_fine : rate_settings_ok (relay_of t).rate ≡ true
  unfolding tables_ok
  rate_fine = and_left _ _ (and_right _ _ (ok_relay t h))

  pub rate_told_as : (old told : List ℕ) → told ≡ told_bytes (tell_on t rate_settings) old → rate_told told ≡ (relay_of t).rate
  unfolding rate_told rate_settings_ok question_refusal question_rule told_bytes
  rate_told_as old told q =
      let s : RateSettings = (relay_of t).rate in
      let fine : (leb s.target target_limit and leb s.grace grace_limit and leb s.penalty penalty_limit) ≡ true = rate_fine in
      let one : s.target ≤ target_limit = leb-true s.target target_limit (and_left _ _ fine) in
      let two : s.grace ≤ grace_limit = leb-true s.grace grace_limit (and_left _ _ (and_right _ _ fine)) in
      let three : s.penalty ≤ penalty_limit = leb-true s.penalty penalty_limit (and_right _ _ (and_right _ _ fine)) in
      let x : List ℕ = big_endian setting_width s.target in
      let y : List ℕ = big_endian setting_width s.grace in
      let z : List ℕ = big_endian setting_width s.penalty in
      let bytes : told ≡ x ++ (y ++ z) = q ∙ ap (λ (v : Told). told_bytes v old) (asked t h rate_settings refl) in
      let long-x : length x ≡ setting_width = big_endian_length setting_width s.target in
      let long-y : length y ≡ setting_width = big_endian_length setting_width s.grace in
      let long-z : length z ≡ setting_width = big_endian_length setting_width s.penalty in
      let first : part told 0 setting_width ≡ x =
      ap (λ (b : List ℕ). part b 0 setting_width) bytes ∙ part_mid [] x (y ++ z) 0 setting_width refl long-x in
      let second : part told grace_at setting_width ≡ y =
      ap (λ (b : List ℕ). part b grace_at setting_width) bytes ∙ part_mid x y z grace_at setting_width long-x long-y in
      let wide : length (x ++ y) ≡ penalty_at = omega (arith, length-append x y, long-x, long-y) in
      let third : part told penalty_at setting_width ≡ z =
      ap (λ (b : List ℕ). part b penalty_at setting_width) (bytes ∙ sym (append_assoc x y z) ∙ ap (λ (b : List ℕ). (x ++ y) ++ b) (sym (append-nil z)))
      ∙ part_mid (x ++ y) z [] penalty_at setting_width wide long-z in
      λ i.
      record {
        target = (ap number first ∙ number_big_endian setting_width s.target (omega (arith, one))) i;
        grace = (ap number second ∙ number_big_endian setting_width s.grace (omega (arith, two))) i;
        penalty = (ap number third ∙ number_big_endian setting_width s.penalty (omega (arith, three))) i;
      }

-- a place that holds an address, and one that doesn't
by_slot : (s : Slot (List ℕ)) (n : ℕ) (old address to : List ℕ) → n ≡ told_number (told_of an_address s) → address ≡ told_bytes (told_of an_address s) old
    → (n ≡ 0 → (call_on to (adds address)).tables ≡ tables_after (local_calls (s ∷ [])) to) × ((n ≡ 0 → ⊥) → to ≡ tables_after (local_calls (s ∷ [])) to)
unfolding told_of told_number told_bytes local_calls tables_after
by_slot empty n old address to e b = (λ z. absurd (omega (arith, e, z)), λ _. refl)
by_slot (used x) n old address to e b = (λ _. ap (λ (y : List ℕ). (call_on to (adds y)).tables) b, λ some. absurd (some e))

module _ (t : List ℕ) (h : well_formed t ≡ true) (place n : ℕ) (old address to : List ℕ) (q : Tells (tell_on t (local_at place)) old n address) where
  abbrev slot_there : Slot (List ℕ)
  slot_there = get_or (relay_of t).locals place empty

  told_slot : tell_on t (local_at place) ≡ told_of an_address slot_there
  unfolding question_refusal question_rule
  told_slot = asked t h (local_at place) refl

  by_place : (n ≡ 0 → (call_on to (adds address)).tables ≡ tables_after (local_calls (slot_there ∷ [])) to)
      × ((n ≡ 0 → ⊥) → to ≡ tables_after (local_calls (slot_there ∷ [])) to)
  by_place = by_slot slot_there n old address to (q.0 ∙ ap told_number told_slot) (q.1 ∙ ap (λ (x : Told). told_bytes x old) told_slot)

  pub local_there : n ≡ 0 → (call_on to (adds address)).tables ≡ tables_after (local_calls (slot_there ∷ [])) to
  local_there = by_place.0

  pub local_missing : (n ≡ 0 → ⊥) → to ≡ tables_after (local_calls (slot_there ∷ [])) to
  local_missing = by_place.1
