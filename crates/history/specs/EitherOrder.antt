-- Document 02, wish 13: "Also: two announces for different destinations and with different packet hashes at one clock, each spread or Kept alone from the same
-- tables and two path slots empty or expired, may come in either order, and every destination then has the same live path." Proved in proofs/EitherOrder.antt.
use Rattle.std.specs.Prelude.{ℕ, ◌<◌, Bool, true, List, ◌≡◌, get_or}
use Rattle.numbers.specs.Numbers.{path_count, live}
use Rattle.rules.specs.Relay.{empty, Relay, free}
use Rattle.rules.specs.View.{view_at}
use Rattle.rules.specs.Refusals.{tables_ok}
use Rattle.rules.specs.Arrival.{Arrival, destination, hash}
use Rattle.rules.specs.Run.{packet, Outcome, perform}
use Rattle.rules.specs.DeadPaths.{says_accepted}
use Rattle.rules.specs.declared.Tally.{Tally}

-- a packet on what another call left
abbrev pub next : Arrival → List ℕ → Outcome → Outcome
next a output before = perform (packet a output) before.relay before.tally

-- a path slot that is empty or expired
unfoldable pub free_at : ℕ → Relay → ℕ → Bool
free_at clock r i = free (λ p. live clock p.expiry) (get_or r.paths i empty)

-- what is given of the two, a and b, and of the relay that both find: any tables that keep refusal 7, two live records of one key among them. `says_accepted`:
-- spread or Kept
pub record Meet (r : Relay) (t : Tally) (a b : Arrival) (out_a out_b : List ℕ) : Type 0 where
  pub ok : tables_ok r ≡ true
  pub clock : a.clock ≡ b.clock
  pub destinations : destination a ≡ destination b → ⊥
  pub hashes : hash a ≡ hash b → ⊥
  pub one_alone : says_accepted (perform (packet a out_a) r t).reply ≡ true
  pub other_alone : says_accepted (perform (packet b out_b) r t).reply ≡ true
  -- the two slots
  pub i : ℕ
  pub j : ℕ
  pub apart : i ≡ j → ⊥
  pub i_there : i < path_count
  pub j_there : j < path_count
  pub i_free : free_at a.clock r i ≡ true
  pub j_free : free_at a.clock r j ≡ true

-- "every destination then has the same live path": the whole record, wherever it lies
abbrev pub SamePaths : ℕ → Relay → Relay → Type 0
SamePaths clock r s = (d : List ℕ) → (view_at clock r).path d ≡ (view_at clock s).path d

-- "may come in either order": whichever comes second is answered as it is alone, output bytes too
pub record InEitherOrder (r : Relay) (t : Tally) (a b : Arrival) (out_a out_b : List ℕ) : Type 0 where
  pub one_second : (next a out_a (perform (packet b out_b) r t)).reply ≡ (perform (packet a out_a) r t).reply
  pub other_second : (next b out_b (perform (packet a out_a) r t)).reply ≡ (perform (packet b out_b) r t).reply
  pub paths : SamePaths a.clock (next b out_b (perform (packet a out_a) r t)).relay (next a out_a (perform (packet b out_b) r t)).relay

abbrev pub EitherOrder : Type 0
EitherOrder = (r : Relay) (t : Tally) (a b : Arrival) (out_a out_b : List ℕ) → Meet r t a b out_a out_b → InEitherOrder r t a b out_a out_b
