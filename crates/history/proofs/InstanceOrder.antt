-- Two announces at one clock, in both orders on a relay with two ports on: the desk's by port 1 and the store's by port 2. Each is spread, whichever comes
-- first; the tables differ, for the first has the lower slot, and each destination has the same path.
use Prim.Native.Nat.{ℕ, ◌-◌}
use native.Mathlib.Omega.{arith}
use mathlib.Core.Bool.{true, false}
use mathlib.Core.List.{List, [], ◌∷◌, ◌++◌}
use mathlib.Core.Path.{◌≡◌, refl, sym, ap, subst, ◌∙◌}
use lib.Dec.{lit<}
use lib.ListN.{replicate}
use Rattle.octets.specs.Choice.{same}
use Rattle.octets.proofs.Choice.{same_ne}
use Rattle.packet.specs.Hash.{packet_hash}
use Rattle.numbers.specs.Numbers.{blob_limit}
use Rattle.notes.specs.Notes.{no_notes}
use Rattle.rules.specs.Relay.{used, Path, Relay}
use Rattle.rules.specs.Blobs.{no_blob}
use Rattle.rules.specs.Rate.{starts_at}
use Rattle.rules.specs.View.{view_at}
use Rattle.rules.specs.Refusals.{tables_ok}
use Rattle.rules.specs.Arrival.{Arrival}
use Rattle.rules.specs.Tests.{bad_form}
use Rattle.rules.specs.Calls.{new_tally}
use Rattle.rules.specs.Run.{port_setting, Outcome, perform, relay_after}
use Rattle.rules.specs.DeadPaths.{says_accepted}
use Rattle.rules.proofs.Unfolding.{rules, hashing}
use Rattle.rules.proofs.Shortcut.{passes, seen_quick, good_plan, good_judge}
use Rattle.rules.proofs.Passed.{of_test}
use Rattle.rules.proofs.Scene.{own, blank, blob_with, emission, destination, announce_bytes, arrival, arrives, prepared}
use Rattle.rules.proofs.Outcomes.{spreads, spread_bytes, tally_of, relay_of, remembers, known_path, prepared_relay, announced_relay, judged_at, prepared_is, announce_form}
use Rattle.rules.proofs.Valid.{ok_after}
use Rattle.history.specs.EitherOrder.{next, free_at, Meet, SamePaths, InEitherOrder}
use Rattle.history.proofs.EitherOrder.{either_order}
use Rattle.history.proofs.InstanceOpinion.{announce_spread}

-- ---- the store's announce, of other keys
abbrev pub store : List ℕ
store = 0xd9 ∷ 0x25 ∷ 0xbe ∷ 0xcd ∷ 0xaf ∷ 0xde ∷ 0x8d ∷ 0x47 ∷ 0xd2 ∷ 0x48 ∷ 0x00 ∷ 0xbb ∷ 0xf6 ∷ 0xcf ∷ 0xb5 ∷ 0x20 ∷ []

abbrev store_body : List ℕ
store_body = replicate 64 0x12 ++ (replicate 10 0x22 ++ (blob_with emission ++ replicate 96 0x44))

abbrev pub store_bytes : List ℕ
store_bytes = 0x21 ∷ 0 ∷ (store ++ (0x00 ∷ store_body))

abbrev store_spread : List ℕ
store_spread = 0x71 ∷ 1 ∷ (own ++ (store ++ (0x00 ∷ store_body)))

-- port 2 is boundary: 604,800 s
abbrev store_path : Path
store_path =
    record {
      destination = store;
      port = 2;
      hops = 0;
      next_hop = store;
      expiry = 605800;
      rate = starts_at 1000;
      notes = no_notes;
      blobs = record { count = 1; places = blob_with emission ∷ replicate (blob_limit - 1) no_blob };
    }

abbrev pub from_desk : Arrival
from_desk = arrival announce_bytes 1000 1

abbrev pub from_store : Arrival
from_store = arrival store_bytes 1000 2

store_form : bad_form store_bytes ≡ false
unfolding rules hashing
store_form = refl

-- ---- in both orders
abbrev store_relay : Relay
store_relay = relay_of 1000 (used store_path ∷ []) [] [] (remembers store_bytes 1300 ∷ [])

abbrev desk_first : Relay
desk_first = relay_of 1000 (used known_path ∷ used store_path ∷ []) [] [] (remembers announce_bytes 1300 ∷ remembers store_bytes 1300 ∷ [])

abbrev store_first : Relay
store_first = relay_of 1000 (used store_path ∷ used known_path ∷ []) [] [] (remembers store_bytes 1300 ∷ remembers announce_bytes 1300 ∷ [])

store_new : (view_at 1000 prepared_relay).remembered (packet_hash store_bytes) ≡ false
unfolding rules passes
store_new = seen_quick 1000 prepared_relay (packet_hash store_bytes) refl

-- the two hashes are compared
store_differs : (view_at 1000 announced_relay).remembered (packet_hash store_bytes) ≡ false
unfolding rules passes hashing
store_differs = seen_quick 1000 announced_relay (packet_hash store_bytes) refl

desk_differs : (view_at 1000 store_relay).remembered (packet_hash announce_bytes) ≡ false
unfolding rules passes hashing
desk_differs = seen_quick 1000 store_relay (packet_hash announce_bytes) refl

store_alone : perform (arrives store_bytes 1000 2) prepared_relay new_tally
    ≡ record { reply = spreads store_spread 1; relay = store_relay; tally = tally_of 1 0 }
unfolding rules good_plan good_judge of_test
store_alone = judged_at store_bytes 1000 prepared_relay new_tally store_new store_form 2 refl

store_second : perform (arrives store_bytes 1000 2) announced_relay (tally_of 1 0)
    ≡ record { reply = spreads store_spread 1; relay = desk_first; tally = tally_of 2 0 }
unfolding rules good_plan good_judge of_test
store_second = judged_at store_bytes 1000 announced_relay (tally_of 1 0) store_differs store_form 2 refl

desk_second : perform (arrives announce_bytes 1000 1) store_relay (tally_of 1 0)
    ≡ record { reply = spreads spread_bytes 2; relay = store_first; tally = tally_of 2 0 }
unfolding rules good_plan good_judge of_test
desk_second = judged_at announce_bytes 1000 store_relay (tally_of 1 0) desk_differs announce_form 1 refl

-- ---- what the theorem asks, and what it says
prepared_ok : tables_ok prepared_relay ≡ true
unfolding relay_after prepared
prepared_ok =
    subst (λ (o : Outcome). tables_ok o.relay ≡ true) prepared_is (ok_after own (port_setting 1 true 2 500 ∷ port_setting 2 true 0 500 ∷ []) new_tally)

hashes_differ : same (packet_hash announce_bytes) (packet_hash store_bytes) ≡ false
unfolding rules hashing
hashes_differ = refl

pub meets : Meet prepared_relay new_tally from_desk from_store blank blank
unfolding rules free_at
meets =
    record {
      ok = prepared_ok;
      clock = refl;
      destinations = same_ne destination store refl;
      hashes = same_ne (packet_hash announce_bytes) (packet_hash store_bytes) hashes_differ;
      one_alone = ap (λ (o : Outcome). says_accepted o.reply) announce_spread;
      other_alone = ap (λ (o : Outcome). says_accepted o.reply) store_alone;
      i = 0;
      j = 1;
      apart = λ e. omega (arith, e);
      i_there = lit< tt;
      j_there = lit< tt;
      i_free = refl;
      j_free = refl;
    }

pub in_either_order : InEitherOrder prepared_relay new_tally from_desk from_store blank blank
in_either_order = either_order prepared_relay new_tally from_desk from_store blank blank meets

pub same_paths : SamePaths 1000 desk_first store_first
same_paths d =
    sym (ap (λ (o : Outcome). (view_at 1000 o.relay).path d) (ap (next from_store blank) announce_spread ∙ store_second))
    ∙ in_either_order.paths d
    ∙ ap (λ (o : Outcome). (view_at 1000 o.relay).path d) (ap (next from_desk blank) store_alone ∙ desk_second)
