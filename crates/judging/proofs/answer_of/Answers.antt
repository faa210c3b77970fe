use mathlib.Core.Path.{sym, ap, ◌∙◌}
use borrow.Author.Tests.{leb-false}
use Rattle.octets.specs.Choice.{◌then◌otherwise◌}
use Rattle.octets.specs.Part.{patch}
use Rattle.rules.specs.Tests.{too_many_hops}
use Rattle.rules.specs.Outgoing.{outgoing}
use Rattle.rules.specs.Judging.{Plan, verdict, output_after, leaves}
use Rattle.rules.specs.declared.Verdict.{Verdict}
use Rattle.rules.proofs.Passed.{passed}
use Rattle.judging.specs.Seen.{arrival_of, view_of, way_of, plan_of}
use Rattle.judging.proofs.answer_of.Goals as goal

pub send-requires : goal.send-requires
unfolding too_many_hops
send-requires c =
    let a = arrival_of c.args.packet.now c.args.arrived in
    let s = c.args.seen.now in
    let v = view_of s a in
    let way = passed v a _ (sym c.requires.2 ∙ ap (plan_of s a) c.in-Follow.is) in
    (record { readable = c.requires.0; few_hops = leb-false _ _ way.1.few_hops }, c.requires.1)

pub returns-in-Drop : goal.returns-in-Drop
unfolding verdict output_after
returns-in-Drop c =
    let a = arrival_of c.args.packet.now c.args.arrived in
    let s = c.args.seen.now in
    let v = view_of s a in
    let todo = sym (ap (plan_of s a) c.in-Drop.is) ∙ c.requires.2 in
    (ap (verdict v a) todo, ap (λ (t : Plan). output_after v a t c.args.output.now) todo)

pub returns-in-Deliver : goal.returns-in-Deliver
unfolding verdict output_after
returns-in-Deliver c =
    let a = arrival_of c.args.packet.now c.args.arrived in
    let s = c.args.seen.now in
    let v = view_of s a in
    let todo = sym (ap (plan_of s a) c.in-Deliver.is) ∙ c.requires.2 in
    (ap (verdict v a) todo, ap (λ (t : Plan). output_after v a t c.args.output.now) todo)

pub returns-in-Follow : goal.returns-in-Follow
unfolding verdict output_after
returns-in-Follow c =
    let a = arrival_of c.args.packet.now c.args.arrived in
    let s = c.args.seen.now in
    let v = view_of s a in
    let todo = sym (ap (plan_of s a) c.in-Follow.is) ∙ c.requires.2 in
    let out = c.args.output.now in
    let sent = outgoing v a (way_of s a c.in-Follow.way) in (
      c.send.ensures.0 ∙ ap (verdict v a) todo,
      c.send.ensures.1 ∙ ap (λ (y : Verdict). leaves y then patch out 0 sent otherwise out) c.send.ensures.0
          ∙ ap (λ (t : Plan). output_after v a t out) todo,
    )
