-- Document 02, wish 7, about the bytes: "Say what an old announce can do." Each sentence holds of every packet call that isn't refused, on any tables that are
-- well formed; and so "over every sequence of calls from a fresh relay with no load".
use Prim.Native.Nat.{ℕ}
use mathlib.Core.Bool.{true}
use mathlib.Core.List.{List}
use mathlib.Core.Path.{◌≡◌, sym, subst, ◌∙◌}
use borrow.Author.Tests.{eq-eqb}
use Rattle.octets.specs.Bytes.{Bytes}
use Rattle.octets.proofs.Choice.{then_true}
use Rattle.rules.specs.Relay.{Relay, fresh}
use Rattle.rules.specs.Arrival.{Arrival}
use Rattle.rules.specs.Calls.{new_tally}
use Rattle.rules.specs.Run.{packet, relay_after, tally_after}
use Rattle.rules.specs.OldAnnounces.{Sentence, OfPacket, FromFresh, OldLeavesPath, ProofReturns, MarkedTakesAgain}
use Rattle.rules.specs.declared.Tally.{Tally}
use Rattle.rules.proofs.Valid.{stays_ok, fresh_ok}
use Rattle.rules.proofs.OldAnnounces.{old_leaves_path, old_leaves_path_fresh as leaves_fresh, marked_takes_again, marked_takes_again_fresh as takes_fresh}
use Rattle.rules.proofs.ReturnedProofs.{proof_returns, proof_returns_fresh as returns_fresh}
use Rattle.tables.specs.Layout.{relay_of, bytes_of, well_formed}
use Rattle.tables.proofs.Whole.{back, ok_bytes, bytes_bytes}
use Rattle.demands.specs.Given.{CallBytes}
use Rattle.demands.specs.Refusals.{refusal, after_seven, refusal_on}
use Rattle.demands.specs.OldAnnounces.{OfPacketOn, FromFreshOn}
use Rattle.demands.proofs.Shape.{stays_shaped, fresh_shaped}
use Rattle.demands.proofs.Demand2.{by_the_rules, follows_the_rules_fresh}

-- ---- what is said of a packet call by the rules holds of the call on the bytes
on_tables : (says : Sentence) (tables : List ℕ) (tally : Tally) → Bytes tables → well_formed tables ≡ true → (a : Arrival) (output : List ℕ)
    → CallBytes (packet a output) → OfPacket says a output (relay_of tables) tally → OfPacketOn says a output tables tally
unfolding refusal_on after_seven refusal
on_tables says tables tally b h a output given so none =
    by_the_rules (says a (relay_of tables)) (packet a output) tables tally given b h (so (eq-eqb _ 0 (sym (then_true _ _ h) ∙ none)))

-- .. behind any calls from fresh
from_fresh : (says : Sentence) → FromFresh says → FromFreshOn says
from_fresh says so buffer own size sixteen cs given none a output b =
    let follows = follows_the_rules_fresh buffer own size cs given sixteen in
    let r : Relay = relay_after cs (fresh own) new_tally in
    let t : Tally = tally_after cs (fresh own) new_tally in
    let s = stays_shaped cs (fresh own) new_tally given (fresh_ok own) (fresh_shaped own sixteen) in
    let ok = stays_ok cs (fresh own) new_tally (fresh_ok own) in
    rw (follows.tables, follows.tally)
    (on_tables says (bytes_of r) t (bytes_bytes r s ok) (ok_bytes r s ok) a output b
    (subst (λ (x : Relay). OfPacket says a output x t) (sym (back r s ok)) (so own cs none a output)))

-- ---- the theorems, "over every sequence of calls from a fresh relay with no load"
-- 1. while a destination's path is live and unmarked, a packet dropped as duplicate, and an announce for it whose blob it holds, leave its port, next hop,
-- hops, expiry and blobs as they were
pub old_leaves_path_fresh : FromFreshOn OldLeavesPath
old_leaves_path_fresh = from_fresh OldLeavesPath leaves_fresh

-- 2. an ordinary proof is forwarded only by the arrival port of the live return record, and exactly if that record's leaving port is where it came in and tests
-- 1 to 5 and 12 let it by
pub proof_returns_fresh : FromFreshOn ProofReturns
proof_returns_fresh = from_fresh ProofReturns returns_fresh

-- 3. an announce for a live marked path that holds its blob is spread or Kept exactly if its emission is the greatest held and tests 3, 4, 5 and 9 let it by;
-- the blobs then stay
pub marked_takes_again_fresh : FromFreshOn MarkedTakesAgain
marked_takes_again_fresh = from_fresh MarkedTakesAgain takes_fresh

-- ---- the same on any tables that are well formed, loaded ones too: of two live records of one key the lower place counts
module _ (tables : List ℕ) (tally : Tally) (b : Bytes tables) (h : well_formed tables ≡ true) (a : Arrival) (output : List ℕ)
    (given : CallBytes (packet a output)) where
  pub old_leaves_path_on : OfPacketOn OldLeavesPath a output tables tally
  old_leaves_path_on = on_tables OldLeavesPath tables tally b h a output given (old_leaves_path a output (relay_of tables) tally)

  pub proof_returns_on : OfPacketOn ProofReturns a output tables tally
  proof_returns_on = on_tables ProofReturns tables tally b h a output given (proof_returns a output (relay_of tables) tally)

  pub marked_takes_again_on : OfPacketOn MarkedTakesAgain a output tables tally
  marked_takes_again_on = on_tables MarkedTakesAgain tables tally b h a output given (marked_takes_again a output (relay_of tables) tally)
