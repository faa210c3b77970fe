use Rattle.std.proofs.Common.{sym, ◌∙◌}
use Rattle.octets.proofs.Bytes.{known_bytes}
use Rattle.numbers.proofs.RefusalNumbers.{some_number}
use Rattle.tables.proofs.Whole.{formed}
use Rattle.plan.specs.Decided.{CanRead, CanJudge}
use Rattle.relay.proofs.RefusalLaws.{accepted_judge, accepted_roomy}
use Rattle.relay.proofs.PromiseLaws.{refused_promised, accepted, judged_promised, not_ours_promised}
use Rattle.relay.proofs.judge.Goals as goal
use Rattle.relay.proofs.judge.Goals.{In-Ok}

judges : (c : In-Ok) → CanJudge c.args.packet.now c.args.tables.now
judges c = accepted_judge _ _ _ _ _ c.in-Ok.ensures.none

reads : (c : In-Ok) → CanRead c.args.packet.now c.args.tables.now
reads c = record { readable = (judges c).readable; size = (formed c.args.tables.now (judges c).formed).size }

pub returns-in-Err : goal.returns-in-Err
returns-in-Err c =
    let p = c.args in
    refused_promised p.packet.now p.port p.clock p.signed p.tables.now p.tally p.output.now
    (known_bytes p.tables.now c.slice_known-1.given) _ (c.number.ensures ∙ c.in-Err.ensures) (λ z. some_number _ (sym c.number.ensures ∙ z))

pub not_ours-requires : goal.not_ours-requires
not_ours-requires c = reads (goal.at.not_ours-requires c).In-Ok

pub set_clock-requires : goal.set_clock-requires
set_clock-requires c = (reads (goal.at.set_clock-requires c).In-Ok).size

pub returns-then-not_ours : goal.returns-then-not_ours
returns-then-not_ours c =
    let p = c.args in
    let came = c.in-Ok.ensures in
    not_ours_promised p.packet.now p.port p.clock p.signed p.tables.now p.tally p.output.now came.none _ came.port came.clock came.signed
    (known_bytes p.tables.now c.slice_known-1.given) (sym c.not_ours.ensures ∙ c.if-not_ours.true) _ _ c.set_clock.ensures c.counted.ensures

pub used_hash-hash-requires : goal.used_hash-hash-requires
used_hash-hash-requires c = (judges (goal.at.used_hash-hash-requires c).In-Ok).readable

pub hash_live-live-requires : goal.hash_live-live-requires
hash_live-live-requires c = (reads (goal.at.hash_live-live-requires c).In-Ok, c.used_hash-hash.ensures)

pub decide-decision-requires : goal.decide-decision-requires
decide-decision-requires c = (judges (goal.at.decide-decision-requires c).In-Ok, c.hash_live-live.ensures)

pub act-verdict-requires : goal.act-verdict-requires
act-verdict-requires c =
    let p = c.args in
    let came = c.in-Ok.ensures in (
      record {
        accepted = accepted p.packet.now p.port p.clock p.signed p.tables.now p.tally p.output.now came.none _ came.port came.clock came.signed;
        roomy = accepted_roomy _ _ _ _ _ came.none;
        decided = sym c.decide-decision.ensures;
      },
      c.used_hash-hash.ensures,
      c.hash_live-live.ensures,
    )

pub returns : goal.returns
returns c =
    let p = c.args in
    let came = c.in-Ok.ensures in
    let left = c.act-verdict.ensures in
    judged_promised p.packet.now p.port p.clock p.signed p.tables.now p.tally p.output.now came.none _ came.port came.clock came.signed
    _ _ _ _ left.0 left.1 left.2 c.counted-2.ensures
