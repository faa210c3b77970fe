use Rattle.std.proofs.Common.{sym, ◌∙◌}
use Rattle.std.proofs.lemmas.Result.{err_from_is_err_and}
use Rattle.numbers.proofs.RefusalNumbers.{some_number}
use Rattle.octets.specs.Choice.{◌then◌otherwise◌}
use Rattle.tables.proofs.Whole.{formed}
use Rattle.plan.specs.Decided.{CanRead, CanJudge}
use Rattle.relay.proofs.RefusalLaws.{accepted_judge}
use Rattle.relay.proofs.SignatureLaws.{word_refused, word_not_ours, word_decided}
use Rattle.relay.proofs.signature.signature_matters.Goals as goal
use Rattle.relay.proofs.signature.signature_matters.Goals.{In_ok-arrived}

judges : (c : In_ok-arrived) → CanJudge c.args.packet.now c.args.tables.now
judges c = accepted_judge _ _ _ _ _ c.in_ok-arrived.ensures.none

reads : (c : In_ok-arrived) → CanRead c.args.packet.now c.args.tables.now
reads c = record { readable = (judges c).readable; size = (formed c.args.tables.now (judges c).formed).size }

pub returns-in_err-arrived : goal.returns-in_err-arrived
returns-in_err-arrived c =
    let p = err_from_is_err_and c.from_residual.result c.from_residual.ensures.1 in
    rw (p.1, p.2) (word_refused _ _ _ _ _ _ c.in_err-arrived.ensures (some_number _))

pub not_ours-requires : goal.not_ours-requires
not_ours-requires c = reads (goal.at.not_ours-requires c).In_ok-arrived

pub returns-then-not_ours : goal.returns-then-not_ours
unfolding ◌then◌otherwise◌
returns-then-not_ours c =
    let p = c.args in
    let came = c.in_ok-arrived.ensures in
    word_not_ours p.packet.now p.port p.clock p.tables.now p.room came.none _ came.port came.clock came.signed
    (sym c.not_ours.ensures ∙ c.if-not_ours.true)

pub used_hash-hash-requires : goal.used_hash-hash-requires
used_hash-hash-requires c = (judges (goal.at.used_hash-hash-requires c).In_ok-arrived).readable

pub hash_live-live-requires : goal.hash_live-live-requires
hash_live-live-requires c = (reads (goal.at.hash_live-live-requires c).In_ok-arrived, c.used_hash-hash.ensures)

pub decide-requires : goal.decide-requires
decide-requires c = (judges (goal.at.decide-requires c).In_ok-arrived, c.hash_live-live.ensures)

pub returns : goal.returns
returns c =
    let p = c.args in
    let came = c.in_ok-arrived.ensures in
    word_decided p.packet.now p.port p.clock p.tables.now p.room came.none _ came.port came.clock came.signed
    _ c.decide.ensures _ c.decision_tells.ensures
