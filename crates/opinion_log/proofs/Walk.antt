-- What one more entry changes of what is asked: the last clock, the rate, the ports, the local addresses and the remembered hashes.
use Prim.Native.Nat.{ℕ, ◌+◌}
use mathlib.Core.Bool.{Bool, true, false}
use mathlib.Core.List.{List}
use mathlib.Core.Path.{◌≡◌, refl, sym, ap, ◌∙◌}
use Rattle.octets.specs.Choice.{◌then◌otherwise◌}
use Rattle.octets.proofs.Choice.{then_true, then_false}
use Rattle.numbers.specs.Numbers.{hash_lifetime}
use Rattle.rules.specs.Relay.{fresh_port, no_rate_settings, Slot, empty, Path, Return}
use Rattle.rules.specs.View.{View}
use Rattle.rules.specs.Arrival.{Arrival, hash}
use Rattle.rules.specs.Ways.{Way, everywhere, by_path, along_link, by_return, blocked}
use Rattle.rules.specs.Judging.{Plan, dropped, delivered, follows, plan}
use Rattle.rules.specs.Writes.{remembers}
use Rattle.rules.specs.declared.Link.{Link}
use Rattle.rules.proofs.Choices.{either}
use Rattle.history.specs.Known.{Known, fresh_known, seen_at, now_under, now_path, now_link, now_return, now_until, now_clock, change_path}
use Rattle.rules.specs.Calls.{TableCall}
use Rattle.history.specs.After.{came, called, after_way, after_drop, after_plan, after_hash, after_packet, after_call, after, known_of}
use Rattle.opinion_log.specs.Log.{entries_of, known_in}
use Rattle.opinion_log.specs.Steps.{keeps_hash}

-- ---- a packet
-- what neither paths, links nor return records tell, a plan doesn't change
module _ {A : Type 0} (f : Known → A) (path : (d : List ℕ) (s : Slot Path) (k : Known) → f (now_path d s k) ≡ f k)
    (link : (d : List ℕ) (s : Slot Link) (k : Known) → f (now_link d s k) ≡ f k)
    (return : (d : List ℕ) (s : Slot Return) (k : Known) → f (now_return d s k) ≡ f k)
  where
    way_stays : (v : View) (a : Arrival) (w : Way) (k : Known) → f (after_way v a w k) ≡ f k
    unfolding after_way
    way_stays v a (everywhere known) k = path _ _ k
    way_stays v a (by_path p) k = either (λ (x : Known). f x ≡ f k) _ (λ _. return _ _ k) (λ _. link _ _ k)
    way_stays v a (along_link l) k = link _ _ k
    way_stays v a (by_return t) k = return _ _ k
    way_stays v a (blocked why) k = refl

    pub plan_stays : (v : View) (a : Arrival) (todo : Plan) (k : Known) → f (after_plan v a todo k) ≡ f k
    unfolding after_plan after_drop change_path
    plan_stays v a (dropped reason) k = either (λ (x : Known). f x ≡ f k) _ (λ _. path _ _ k) (λ _. refl)
    plan_stays v a delivered k = refl
    plan_stays v a (follows w) k = way_stays v a w k

-- what the hashes and the clock don't tell is what the plan makes of it
pub packet_plan : {A : Type 0} (f : Known → A) → ((h : List ℕ) (t : ℕ) (k : Known) → f (now_until h t k) ≡ f k)
    → ((t : ℕ) (k : Known) → f (now_clock t k) ≡ f k) → (k : Known) (a : Arrival)
    → f (after (came a) k) ≡ f (after_plan (seen_at a.clock k) a (plan (seen_at a.clock k) a) k)
unfolding after after_packet after_hash
packet_plan f until clock k a =
    either (λ (x : Known). f x ≡ f (after_plan (seen_at a.clock k) a (plan (seen_at a.clock k) a) k)) _
    (λ _. until _ _ _ ∙ clock _ _)
    (λ _. clock _ _)

pub packet_port : (k : Known) (a : Arrival) → (after (came a) k).port ≡ k.port
unfolding now_path now_link now_return now_until now_clock
packet_port k a =
    packet_plan (λ (x : Known). x.port) (λ _ _ _. refl) (λ _ _. refl) k a
    ∙ plan_stays (λ (x : Known). x.port) (λ _ _ _. refl) (λ _ _ _. refl) (λ _ _ _. refl) _ a _ k

pub packet_rate : (k : Known) (a : Arrival) → (after (came a) k).rate ≡ k.rate
unfolding now_path now_link now_return now_until now_clock
packet_rate k a =
    packet_plan (λ (x : Known). x.rate) (λ _ _ _. refl) (λ _ _. refl) k a
    ∙ plan_stays (λ (x : Known). x.rate) (λ _ _ _. refl) (λ _ _ _. refl) (λ _ _ _. refl) _ a _ k

pub packet_local : (k : Known) (a : Arrival) → (after (came a) k).local ≡ k.local
unfolding now_path now_link now_return now_until now_clock
packet_local k a =
    packet_plan (λ (x : Known). x.local) (λ _ _ _. refl) (λ _ _. refl) k a
    ∙ plan_stays (λ (x : Known). x.local) (λ _ _ _. refl) (λ _ _ _. refl) (λ _ _ _. refl) _ a _ k

pub packet_locals : (k : Known) (a : Arrival) → (after (came a) k).locals ≡ k.locals
unfolding now_path now_link now_return now_until now_clock
packet_locals k a =
    packet_plan (λ (x : Known). x.locals) (λ _ _ _. refl) (λ _ _. refl) k a
    ∙ plan_stays (λ (x : Known). x.locals) (λ _ _ _. refl) (λ _ _ _. refl) (λ _ _ _. refl) _ a _ k

pub packet_clock : (k : Known) (a : Arrival) → (after (came a) k).clock ≡ a.clock
unfolding after after_packet after_hash now_clock now_until
packet_clock k a = either (λ (x : Known). x.clock ≡ a.clock) _ (λ _. refl) (λ _. refl)

pub packet_until : (k : Known) (a : Arrival) (h : List ℕ)
    → (after (came a) k).until h ≡ (keeps_hash (came a) k then now_under (hash a) (a.clock + hash_lifetime) k.until h otherwise k.until h)
unfolding after after_packet after_hash keeps_hash now_until now_clock now_path now_link now_return
packet_until k a h = go (remembers v a (plan v a)) refl
  where
    v : View
    v = seen_at a.clock k

    stays : (after_plan v a (plan v a) k).until ≡ k.until
    stays = plan_stays (λ (x : Known). x.until) (λ _ _ _. refl) (λ _ _ _. refl) (λ _ _ _. refl) v a (plan v a) k

    go : (b : Bool) → remembers v a (plan v a) ≡ b
        → (after_hash v a (plan v a) (now_clock a.clock (after_plan v a (plan v a) k))).until h
        ≡ (remembers v a (plan v a) then now_under (hash a) (a.clock + hash_lifetime) k.until h otherwise k.until h)
    go true q =
        ap (λ (x : Known). x.until h) (then_true _ _ q)
        ∙ ap (λ (f : List ℕ → ℕ). now_under (hash a) (a.clock + hash_lifetime) f h) stays
        ∙ sym (then_true _ _ q)
    go false q = ap (λ (x : Known). x.until h) (then_false _ _ q) ∙ ap (λ (f : List ℕ → ℕ). f h) stays ∙ sym (then_false _ _ q)

-- ---- of an empty list
module _ (log : List ℕ) where
  pub fresh_clock : 0 ≡ (known_in log 0).clock
  unfolding known_in entries_of known_of fresh_known
  fresh_clock = refl

  pub fresh_rate : no_rate_settings ≡ (known_in log 0).rate
  unfolding known_in entries_of known_of fresh_known
  fresh_rate = refl

  pub fresh_port_lem : (port : ℕ) → fresh_port ≡ (known_in log 0).port port
  unfolding known_in entries_of known_of fresh_known
  fresh_port_lem port = refl

  pub fresh_local : (address : List ℕ) → false ≡ (known_in log 0).local address
  unfolding known_in entries_of known_of fresh_known
  fresh_local address = refl

  pub fresh_locals : 0 ≡ (known_in log 0).locals
  unfolding known_in entries_of known_of fresh_known
  fresh_locals = refl

  pub fresh_until : (h : List ℕ) → 0 ≡ (known_in log 0).until h
  unfolding known_in entries_of known_of fresh_known
  fresh_until h = refl

  pub fresh_path : (d : List ℕ) → empty ≡ (known_in log 0).path d
  unfolding known_in entries_of known_of fresh_known
  fresh_path d = refl

  pub fresh_link : (id : List ℕ) → empty ≡ (known_in log 0).link id
  unfolding known_in entries_of known_of fresh_known
  fresh_link id = refl

  pub fresh_return : (key : List ℕ) → empty ≡ (known_in log 0).return key
  unfolding known_in entries_of known_of fresh_known
  fresh_return key = refl

-- ---- a call
pub after_called : (c : TableCall) (k : Known) → after (called c) k ≡ after_call c k
unfolding after
after_called c k = refl
