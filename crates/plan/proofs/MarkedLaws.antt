-- Announces for a marked path: whether a packet is one, by what the search for its path answered.
use Prim.Native.Nat.{ℕ}
use mathlib.Core.Bool.{false, true}
use mathlib.Core.List.{List}
use mathlib.Core.Path.{◌≡◌, refl, sym, ap, ◌∙◌}
use Rattle.std.specs.Prelude.{Some, None}
use Rattle.octets.proofs.Index.{and_yes}
use Rattle.packet.specs.Header.{of_kind_single, is_announce}
use Rattle.numbers.specs.Numbers.{path_count}
use mathlib.Core.Bool.{not}
use lib.Dec.{ltb}
use Rattle.octets.specs.Index.{◌and◌}
use Rattle.numbers.specs.Numbers.{hash_count}
use Rattle.rules.specs.Relay.{Relay}
use Rattle.rules.specs.View.{path_place, hash_place, view_at}
use Rattle.rules.specs.Arrival.{Arrival, header, destination, hash}
use Rattle.rules.specs.Exempt.{exempt}
use Rattle.rules.specs.Writes.{already_live}
use Rattle.outgoing.proofs.Steps.{reading}
use Rattle.rules.specs.Tests.{is_marked, for_marked_path}
use Rattle.tables.specs.Layout.{relay_of}
use Rattle.lookup.specs.Search.{found}
use Rattle.lookup.proofs.Found.{found_some, found_none, path_found, path_missing}
use Rattle.plan.specs.Decided.{path_at, hash_live}

module _ (r : Relay) (a : Arrival) where
  module _ (is : is_announce (header a) ≡ true) where
    pub by_path : of_kind_single (header a) ≡ true → is_marked ((view_at a.clock r).path (destination a)) ≡ for_marked_path (view_at a.clock r) a
    unfolding for_marked_path
    by_path single = sym (and_yes _ is ∙ and_yes _ single)

module _ (t : List ℕ) (a : Arrival) where
  pub marked_at : {i : ℕ} → Some i ≡ found path_count (path_place a.clock (relay_of t) (destination a))
      → (path_at t i).notes.marked ≡ is_marked ((view_at a.clock (relay_of t)).path (destination a))
  unfolding is_marked
  marked_at {i} answer = let (e, l) = found_some answer in sym (ap is_marked (path_found t a.clock (destination a) i e l))

  pub marked_nowhere : None ≡ found path_count (path_place a.clock (relay_of t) (destination a))
      → false ≡ is_marked ((view_at a.clock (relay_of t)).path (destination a))
  unfolding is_marked
  marked_nowhere none = sym (ap is_marked (path_missing t a.clock (destination a) _ refl (found_none none)))

-- ---- whether a hash is live, and what is said of a live one
module _ (clock : ℕ) (r : Relay) (a : Arrival) where
  pub live_clauses : hash_live (view_at clock r) a ≡ (not (exempt a.bytes) and ltb (hash_place clock r (hash a)) hash_count)
  unfolding hash_live view_at
  live_clauses = refl

  pub already_clauses : already_live (view_at clock r) a ≡ (for_marked_path (view_at clock r) a and ltb (hash_place clock r (hash a)) hash_count)
  unfolding already_live view_at
  already_clauses = refl

pub ruleset live_steps = (live_clauses, already_clauses, reading)
