use Rattle.std.proofs.Common.{arith}
use borrow.Author.Tests.{tests}
use Rattle.history.specs.After.{after_call, renumbered_known, limited_path}
use Rattle.history.specs.Known.{now_clock, change_path, now_path, now_port, now_rate, now_local, now_under, seen_at}
use Rattle.octets.specs.Choice.{◌then◌otherwise◌}
use Rattle.rules.specs.Renumbering.{rename_slot, rename_path}
use Rattle.std.proofs.Common.{ℕ, ◌≡◌, sym, ap, ◌∙◌}
use Rattle.octets.proofs.Chains.{equal_is_same}
use Rattle.octets.proofs.Choice.{same_eq, eq_same}
use Rattle.numbers.specs.Numbers.{live}
use Rattle.packet.specs.declared.Parts.{Parts}
use Rattle.rules.specs.Relay.{Port}
use Rattle.rules.specs.Arrival.{destination}
use Rattle.rules.proofs.Noted.{with_path_mark}
use Rattle.judging.specs.Seen.{arrival_of}
use Rattle.history.specs.Known.{Known, only_if}
use Rattle.history.specs.After.{Entry, came}
use Rattle.opinion_log.specs.declared.outcomes.Effect.TheVariants.{AnnouncesPath, LimitsPath}
use Rattle.opinion_log.specs.Log.{entry_of, entry_bytes, known_in}
use Rattle.opinion_log.specs.Steps.{call_of, effect_of}
use Rattle.opinion_log.proofs.Entries.{one_more}
use Rattle.opinion_log.proofs.Walk.{after_called}
use Rattle.opinion_log.proofs.Changes.{path_announced, path_limited, path_stays, announced_body}
use Rattle.opinion_log.proofs.Steps.{announce_step}
use Rattle.opinion_log.proofs.paths.path_after.Goals as goal

pub announced_path-requires : goal.announced_path-requires
unfolding after_call renumbered_known now_clock change_path now_path now_port now_rate now_local now_under ◌then◌otherwise◌ rename_slot rename_path limited_path seen_at
announced_path-requires c =
    let k = known_in c.args.log.now c.args.i in
    let a = arrival_of c.in-Came.packet.now c.in-Came.arrived in
    let is : came a ≡ entry_of (entry_bytes c.args.log.now c.args.i) = sym (ap call_of c.in-Came.is) ∙ c.entry_at.ensures.0 in
    let effect : effect_of (came a) k ≡ AnnouncesPath = ap (λ (x : Entry). effect_of x k) is ∙ sym c.requires.1 ∙ c.in-AnnouncesPath.is in
    let fine = rw c.in-Came.is at c.entry_at.ensures.1 in
    (fine.0, announced_body a k effect, c.rate_at-rate.ensures.1, c.live_path-live.ensures.1, fine.1)

pub returns-in-AnnouncesPath : goal.returns-in-AnnouncesPath
unfolding after_call renumbered_known now_clock change_path now_path now_port now_rate now_local now_under ◌then◌otherwise◌ rename_slot rename_path limited_path seen_at
returns-in-AnnouncesPath c =
    let k = known_in c.args.log.now c.args.i in
    let a = arrival_of c.in-Came.packet.now c.in-Came.arrived in
    let is : came a ≡ entry_of (entry_bytes c.args.log.now c.args.i) = sym (ap call_of c.in-Came.is) ∙ c.entry_at.ensures.0 in
    let effect : effect_of (came a) k ≡ AnnouncesPath = ap (λ (x : Entry). effect_of x k) is ∙ sym c.requires.1 ∙ c.in-AnnouncesPath.is in
    let ours : destination a ≡ c.args.destination =
    ap (λ (q : Parts). q.destination) (sym c.parts_of.ensures) ∙ same_eq _ _ (sym (equal_is_same _ _) ∙ sym c.eq.ensures ∙ c.if-eq.true) in
    let seen = c.live_path-live.ensures.0 c.args.destination
    ∙ ap (only_if (λ p. live a.clock p.expiry)) c.requires.2.is in
    record {
      is = announce_step a k effect c.args.destination ours c.live_path-live.result seen c.rate_at-rate.result _ c.rate_at-rate.ensures.0
          (ap (λ (p : Port). p.mode) c.port_at-mode.ensures ∙ ap (λ (n : ℕ). (k.port n).mode) c.from.ensures) c.announced_path.result c.announced_path.ensures.0
          ∙ sym (ap (λ (x : Known). x.path c.args.destination) (one_more c.args.log.now c.args.i (came a) is));
      fits = c.announced_path.ensures.1;
    }

pub returns-in-LimitsPath : goal.returns-in-LimitsPath
unfolding after_call renumbered_known now_clock change_path now_path now_port now_rate now_local now_under ◌then◌otherwise◌ rename_slot rename_path limited_path seen_at
returns-in-LimitsPath c =
    let k = known_in c.args.log.now c.args.i in
    let a = arrival_of c.in-Came.packet.now c.in-Came.arrived in
    let is : came a ≡ entry_of (entry_bytes c.args.log.now c.args.i) = sym (ap call_of c.in-Came.is) ∙ c.entry_at.ensures.0 in
    let effect : effect_of (came a) k ≡ LimitsPath = ap (λ (x : Entry). effect_of x k) is ∙ sym c.requires.1 ∙ c.in-LimitsPath.is in
    let ours : destination a ≡ c.args.destination =
    ap (λ (q : Parts). q.destination) (sym c.parts_of.ensures) ∙ same_eq _ _ (sym (equal_is_same _ _) ∙ sym c.eq.ensures ∙ c.if-eq.true) in
    grind (arith, tests, path_limited a k effect c.args.destination, one_more c.args.log.now c.args.i (came a) is, ours, eq_same _ _ ours)

pub returns-in_default-effect : goal.returns-in_default-effect
unfolding after_call renumbered_known now_clock change_path now_path now_port now_rate now_local now_under ◌then◌otherwise◌ rename_slot rename_path limited_path seen_at
returns-in_default-effect c = grind (arith, tests, after_called, path_stays, one_more c.args.log.now c.args.i _ c.entry_at.ensures.0)

pub returns-else-eq : goal.returns-else-eq
unfolding after_call renumbered_known now_clock change_path now_path now_port now_rate now_local now_under ◌then◌otherwise◌ rename_slot rename_path limited_path seen_at
returns-else-eq c = grind (arith, tests, after_called, path_stays, equal_is_same, path_announced, path_limited, one_more c.args.log.now c.args.i _ c.entry_at.ensures.0)

pub returns-in-Some : goal.returns-in-Some
unfolding after_call renumbered_known now_clock change_path now_path now_port now_rate now_local now_under ◌then◌otherwise◌ rename_slot rename_path limited_path seen_at
returns-in-Some c = grind (arith, tests, after_called, with_path_mark, equal_is_same, same_eq, one_more c.args.log.now c.args.i _ c.entry_at.ensures.0)

pub returns-in_default-path : goal.returns-in_default-path
unfolding after_call renumbered_known now_clock change_path now_path now_port now_rate now_local now_under ◌then◌otherwise◌ rename_slot rename_path limited_path seen_at
returns-in_default-path c = grind (arith, tests, after_called, with_path_mark, equal_is_same, same_eq, one_more c.args.log.now c.args.i _ c.entry_at.ensures.0)

pub returns-else-eq-2 : goal.returns-else-eq-2
unfolding after_call renumbered_known now_clock change_path now_path now_port now_rate now_local now_under ◌then◌otherwise◌ rename_slot rename_path limited_path seen_at
returns-else-eq-2 c = grind (arith, tests, after_called, equal_is_same, one_more c.args.log.now c.args.i _ c.entry_at.ensures.0)

pub returns-in-Some-path : goal.returns-in-Some-path
unfolding after_call renumbered_known now_clock change_path now_path now_port now_rate now_local now_under ◌then◌otherwise◌ rename_slot rename_path limited_path seen_at
returns-in-Some-path c = grind (arith, tests, after_called, one_more c.args.log.now c.args.i _ c.entry_at.ensures.0)

pub returns-in_default-path-2 : goal.returns-in_default-path-2
unfolding after_call renumbered_known now_clock change_path now_path now_port now_rate now_local now_under ◌then◌otherwise◌ rename_slot rename_path limited_path seen_at
returns-in_default-path-2 c = grind (arith, tests, after_called, one_more c.args.log.now c.args.i _ c.entry_at.ensures.0)

pub returns : goal.returns
unfolding after_call renumbered_known now_clock change_path now_path now_port now_rate now_local now_under ◌then◌otherwise◌ rename_slot rename_path limited_path seen_at
returns c = grind (arith, tests, after_called, one_more c.args.log.now c.args.i _ c.entry_at.ensures.0)
