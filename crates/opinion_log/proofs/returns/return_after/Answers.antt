use Rattle.std.proofs.Common.{arith}
use borrow.Author.Tests.{tests}
use Rattle.history.specs.After.{after_call, renumbered_known}
use Rattle.history.specs.Known.{now_clock, change_path, now_path, now_port, now_rate, now_local, now_under, seen_at}
use Rattle.octets.specs.Choice.{◌then◌otherwise◌}
use Rattle.rules.specs.Renumbering.{rename_slot, rename_return}
use Rattle.rules.specs.Writes.{return_key}
use Rattle.std.proofs.Common.{ℕ, List, false, get_or, ◌≡◌, sym, ap, ◌∙◌}
use Rattle.octets.proofs.Chains.{equal_is_same}
use Rattle.octets.specs.Choice.{same}
use Rattle.octets.proofs.Choice.{same_eq, eq_same}
use Rattle.numbers.specs.Numbers.{live}
use Rattle.rules.specs.Arrival.{destination}
use Rattle.judging.specs.Seen.{arrival_of}
use Rattle.history.specs.After.{Entry, came}
use Rattle.opinion_log.specs.declared.outcomes.Effect.TheVariants.{LeavesReturn, EmptiesReturn}
use Rattle.opinion_log.specs.Log.{entry_of, entry_bytes, known_in}
use Rattle.opinion_log.specs.Steps.{call_of, effect_of, idle}
use Rattle.opinion_log.proofs.Entries.{one_more}
use Rattle.opinion_log.proofs.Walk.{after_called}
use Rattle.opinion_log.proofs.Changes.{seen_used, return_made, return_emptied, return_others}
use Rattle.judging.proofs.Left.{return_left}
use Rattle.opinion_log.proofs.returns.return_after.Goals as goal

pub returns-in-LeavesReturn : goal.returns-in-LeavesReturn
unfolding after_call renumbered_known now_clock change_path now_path now_port now_rate now_local now_under ◌then◌otherwise◌ rename_slot rename_return seen_at return_key
returns-in-LeavesReturn c =
    let k = known_in c.args.log.now c.args.i in
    let a = arrival_of c.in-Came.packet.now c.in-Came.arrived in
    let is : came a ≡ entry_of (entry_bytes c.args.log.now c.args.i) = sym (ap call_of c.in-Came.is) ∙ c.entry_at.ensures.0 in
    let did : (get_or c.args.outcomes.now c.args.i idle).effect ≡ effect_of (came a) k =
    c.requires.0.1 c.args.i (omega arith) ∙ sym (ap (λ (x : Entry). effect_of x k) is) in
    let effect : effect_of (came a) k ≡ LeavesReturn = sym did ∙ c.in-LeavesReturn.is in
    let ours : return_key a ≡ c.args.key = sym c.return_key.ensures ∙ same_eq _ _ (sym (equal_is_same _ _) ∙ sym c.eq.ensures ∙ c.if-eq.true) in
    let (p, found, so) = return_made a k effect in
    let newest = seen_used (λ x. live a.clock x.expiry) (k.path (destination a)) p found in
    grind (arith, tests, c.path_of-path.ensures.0.is, newest, so c.args.key, return_left, one_more c.args.log.now c.args.i (came a) is, ours, eq_same _ _ ours)

pub returns-in-EmptiesReturn : goal.returns-in-EmptiesReturn
unfolding after_call renumbered_known now_clock change_path now_path now_port now_rate now_local now_under ◌then◌otherwise◌ rename_slot rename_return seen_at return_key
returns-in-EmptiesReturn c =
    let k = known_in c.args.log.now c.args.i in
    let a = arrival_of c.in-Came.packet.now c.in-Came.arrived in
    let is : came a ≡ entry_of (entry_bytes c.args.log.now c.args.i) = sym (ap call_of c.in-Came.is) ∙ c.entry_at.ensures.0 in
    let did : (get_or c.args.outcomes.now c.args.i idle).effect ≡ effect_of (came a) k =
    c.requires.0.1 c.args.i (omega arith) ∙ sym (ap (λ (x : Entry). effect_of x k) is) in
    let effect : effect_of (came a) k ≡ EmptiesReturn = sym did ∙ c.in-EmptiesReturn.is in
    let ours : destination a ≡ c.args.key = same_eq _ _ (grind (arith, tests, equal_is_same)) in
    grind (arith, tests, return_emptied a k effect c.args.key, one_more c.args.log.now c.args.i (came a) is, ours, eq_same _ _ ours)

pub returns-in_default-effect : goal.returns-in_default-effect
unfolding after_call renumbered_known now_clock change_path now_path now_port now_rate now_local now_under ◌then◌otherwise◌ rename_slot rename_return seen_at return_key
returns-in_default-effect c =
    let k = known_in c.args.log.now c.args.i in
    let a = arrival_of c.in-Came.packet.now c.in-Came.arrived in
    let is : came a ≡ entry_of (entry_bytes c.args.log.now c.args.i) = sym (ap call_of c.in-Came.is) ∙ c.entry_at.ensures.0 in
    let did : (get_or c.args.outcomes.now c.args.i idle).effect ≡ effect_of (came a) k =
    c.requires.0.1 c.args.i (omega arith) ∙ sym (ap (λ (x : Entry). effect_of x k) is) in
    let p : effect_of (came a) k ≡ LeavesReturn → same (return_key a) c.args.key ≡ false =
    λ e. ap (λ (x : List ℕ). same x c.args.key) (sym c.return_key.ensures) ∙ sym (equal_is_same _ _) ∙ sym c.eq.ensures ∙ c.if-eq.false in
    let q : effect_of (came a) k ≡ EmptiesReturn → same (destination a) c.args.key ≡ false = λ e. grind (arith, tests, equal_is_same) in
    grind (arith, tests, return_others a k c.args.key p q, one_more c.args.log.now c.args.i (came a) is)

pub returns-in_default-effect-2 : goal.returns-in_default-effect-2
unfolding after_call renumbered_known now_clock change_path now_path now_port now_rate now_local now_under ◌then◌otherwise◌ rename_slot rename_return seen_at return_key
returns-in_default-effect-2 c =
    let k = known_in c.args.log.now c.args.i in
    let a = arrival_of c.in-Came.packet.now c.in-Came.arrived in
    let is : came a ≡ entry_of (entry_bytes c.args.log.now c.args.i) = sym (ap call_of c.in-Came.is) ∙ c.entry_at.ensures.0 in
    let did : (get_or c.args.outcomes.now c.args.i idle).effect ≡ effect_of (came a) k =
    c.requires.0.1 c.args.i (omega arith) ∙ sym (ap (λ (x : Entry). effect_of x k) is) in
    let p : effect_of (came a) k ≡ LeavesReturn → same (return_key a) c.args.key ≡ false = λ e. grind (arith, tests, equal_is_same) in
    let q : effect_of (came a) k ≡ EmptiesReturn → same (destination a) c.args.key ≡ false = λ e. grind (arith, tests, equal_is_same) in
    grind (arith, tests, return_others a k c.args.key p q, one_more c.args.log.now c.args.i (came a) is)

pub returns-in_default-effect-3 : goal.returns-in_default-effect-3
unfolding after_call renumbered_known now_clock change_path now_path now_port now_rate now_local now_under ◌then◌otherwise◌ rename_slot rename_return seen_at return_key
returns-in_default-effect-3 c =
    let k = known_in c.args.log.now c.args.i in
    let a = arrival_of c.in-Came.packet.now c.in-Came.arrived in
    let is : came a ≡ entry_of (entry_bytes c.args.log.now c.args.i) = sym (ap call_of c.in-Came.is) ∙ c.entry_at.ensures.0 in
    let did : (get_or c.args.outcomes.now c.args.i idle).effect ≡ effect_of (came a) k =
    c.requires.0.1 c.args.i (omega arith) ∙ sym (ap (λ (x : Entry). effect_of x k) is) in
    let p : effect_of (came a) k ≡ LeavesReturn → same (return_key a) c.args.key ≡ false = λ e. grind (arith, tests, equal_is_same) in
    let q : effect_of (came a) k ≡ EmptiesReturn → same (destination a) c.args.key ≡ false = λ e. grind (arith, tests, equal_is_same) in
    grind (arith, tests, return_others a k c.args.key p q, one_more c.args.log.now c.args.i (came a) is)

pub returns-in-Renumbers : goal.returns-in-Renumbers
unfolding after_call renumbered_known now_clock change_path now_path now_port now_rate now_local now_under ◌then◌otherwise◌ rename_slot rename_return seen_at return_key
returns-in-Renumbers c = grind (arith, tests, after_called, one_more c.args.log.now c.args.i _ c.entry_at.ensures.0)

pub returns-in_default : goal.returns-in_default
unfolding after_call renumbered_known now_clock change_path now_path now_port now_rate now_local now_under ◌then◌otherwise◌ rename_slot rename_return seen_at return_key
returns-in_default c = grind (arith, tests, after_called, one_more c.args.log.now c.args.i _ c.entry_at.ensures.0)
