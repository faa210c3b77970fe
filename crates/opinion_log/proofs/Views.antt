-- What is seen for a packet: ports of no number, our own address, arrays filled one place after the other, and the plan's effect.
use Prim.Native.Nat.{ℕ, zero, suc, ◌+◌, ◌%◌, ◌≤◌, ◌<◌}
use native.Mathlib.Omega.{arith}
use mathlib.Core.Bool.{Bool, true, false}
use mathlib.Core.List.{List}
use mathlib.Core.Path.{◌≡◌, refl, sym, ap, subst, ◌∙◌}
use lib.Dec.{eqb, ltb}
use lib.ListN.{length, get_or, set, get_or-eq_default}
use lib.Seq.{get_or-set_same, get_or-set_other}
use borrow.Author.Tests.{ne_eqb, eqb-true, eqb-false, ltb-true, ltb-false}
use Rattle.octets.proofs.Index.{first_absent}
use Rattle.rules.specs.Relay.{Port, fresh_port}
use Rattle.octets.proofs.Choice.{then_false}
use Rattle.rules.specs.Renumbering.{preimage}
use Rattle.rules.specs.Arrival.{Arrival}
use Rattle.rules.proofs.Images.{image_port}
use Rattle.judging.specs.declared.SeenPort.{SeenPort}
use Rattle.judging.specs.Seen.{no_seen_port}
use Rattle.history.specs.Known.{Known, fresh_known, now_path, now_link, now_return, now_until, now_clock, now_rate, now_port, now_local, change_path}
use Rattle.history.specs.After.{Entry, came, after, after_call, renumbered_known, known_of}
use Rattle.opinion_log.specs.Log.{port_in, images_in, own_in, entry_of, entry_bytes, entries_of, known_in, body_at}
use Rattle.opinion_log.specs.Steps.{port_seen}
use Rattle.opinion_log.proofs.Reading.{image_at}
use Rattle.opinion_log.proofs.Entries.{by_kind}
use Rattle.opinion_log.proofs.Walk.{packet_plan, plan_stays, packet_port}
use Rattle.numbers.specs.Numbers.{port_count}

-- ---- ports of no number
no_preimage : (e : List ℕ) (port : ℕ) → port_count ≤ port → preimage (images_in e) port ≡ port_count
unfolding preimage
no_preimage e port l = first_absent (λ i. eqb (get_or (images_in e) i 0) port) port_count (λ j h. ne_eqb _ _ (differs j h))
  where
    differs : (j : ℕ) → j < port_count → get_or (images_in e) j 0 ≡ port → ⊥
    differs j h q =
        let is : get_or e (body_at + j) 0 % port_count ≡ get_or (images_in e) j 0 = image_at e j h ∙ image_port (images_in e) j h in
        omega arith

beyond_step : (e : List ℕ) (k : Known) → ((port : ℕ) → port_count ≤ port → k.port port ≡ fresh_port) → (port : ℕ) → port_count ≤ port
    → (after (entry_of e) k).port port ≡ fresh_port
unfolding after after_call now_port now_rate now_local renumbered_known now_clock change_path now_path
beyond_step e k known port l =
    by_kind e (λ (x : Entry). (after x k).port port ≡ fresh_port)
    (λ _. ap (λ (f : ℕ → Port). f port) (packet_port k _) ∙ known port l)
    (λ _. then_false _ _ (ne_eqb port (port_in e) other) ∙ known port l)
    (λ _. known port l) (λ _. known port l) (λ _. known port l) (λ _. known port l)
    (λ _. known (preimage (images_in e) port) (omega (arith, no_preimage e port l)))
  where
    other : port ≡ port_in e → ⊥
    other q = omega arith

pub port_beyond : (log : List ℕ) (n port : ℕ) → port_count ≤ port → (known_in log n).port port ≡ fresh_port
unfolding known_in entries_of known_of fresh_known
port_beyond log zero port l = refl
port_beyond log (suc n) port l = beyond_step (entry_bytes log n) (known_in log n) (port_beyond log n) port l

-- ---- our own address
packet_own : (k : Known) (a : Arrival) → (after (came a) k).own ≡ k.own
unfolding now_path now_link now_return now_until now_clock
packet_own k a =
    packet_plan (λ (x : Known). x.own) (λ _ _ _. refl) (λ _ _. refl) k a
    ∙ plan_stays (λ (x : Known). x.own) (λ _ _ _. refl) (λ _ _ _. refl) (λ _ _ _. refl) _ a _ k

own_stays : (e : List ℕ) (k : Known) → (after (entry_of e) k).own ≡ k.own
unfolding after after_call now_port now_rate now_local renumbered_known now_clock change_path now_path
own_stays e k =
    by_kind e (λ (x : Entry). (after x k).own ≡ k.own)
    (λ _. packet_own k _) (λ _. refl) (λ _. refl) (λ _. refl) (λ _. refl) (λ _. refl) (λ _. refl)

pub known_own : (log : List ℕ) (n : ℕ) → (known_in log n).own ≡ own_in log
unfolding known_in entries_of known_of fresh_known
known_own log zero = refl
known_own log (suc n) = own_stays (entry_bytes log n) (known_in log n) ∙ known_own log n

-- ---- one place more
pub filled : {A : Type 0} (P : ℕ → A → Type 0) (xs : List A) (i : ℕ) (x d : A) → i < length xs → ((j : ℕ) → j < i → P j (get_or xs j d)) → P i x
    → (j : ℕ) → j < i + 1 → P j (get_or (set xs i x) j d)
filled P xs i x d l before here j h = go (eqb j i) refl
  where
    go : (b : Bool) → eqb j i ≡ b → P j (get_or (set xs i x) j d)
    go true q =
        let at : j ≡ i = eqb-true j i q in
        subst (λ (m : ℕ). P m (get_or (set xs i x) m d)) (sym at) (subst (P i) (sym (get_or-set_same xs i x d l)) here)
    go false q =
        let apart : j ≡ i → ⊥ = eqb-false j i q in
        subst (P j) (sym (get_or-set_other xs i j x d apart)) (before j (omega arith))

-- ---- all ports
pub all_ports : (log : List ℕ) (n : ℕ) (ports : List SeenPort) → length ports ≡ port_count
    → ((port : ℕ) → port < port_count → port_seen (get_or ports port no_seen_port) ≡ (known_in log n).port port)
    → (port : ℕ) → port_seen (get_or ports port no_seen_port) ≡ (known_in log n).port port
all_ports log n ports wide each port = go (ltb port port_count) refl
  where
    go : (b : Bool) → ltb port port_count ≡ b → port_seen (get_or ports port no_seen_port) ≡ (known_in log n).port port
    go true q = each port (ltb-true port port_count q)
    go false q =
        let over : port_count ≤ port = ltb-false port port_count q in
        ap port_seen (get_or-eq_default ports no_seen_port (omega arith)) ∙ sym (port_beyond log n port over)
