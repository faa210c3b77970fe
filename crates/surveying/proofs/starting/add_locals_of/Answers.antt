use Rattle.std.proofs.Common.{arith}
use Rattle.tables.specs.Layout.{relay_of}
use Rattle.tables.proofs.Seen.{locals_length}
use Rattle.surveying.proofs.SettingLaws.{no_local_added, local_more, locals_added}
use Rattle.surveying.proofs.starting.add_locals_of.Goals as goal

pub loop-place-init : goal.loop-place-init
loop-place-init c = no_local_added (relay_of c.args.from.now).locals c.args.to.now

pub add_local_of-requires : goal.add_local_of-requires
add_local_of-requires c = (c.requires, c.loop-place-test.true)

pub loop-place-preserved : goal.loop-place-preserved
loop-place-preserved c =
    let a = c.args in
    let l = c.loop-place in
    let all = locals_length a.from.now in
    local_more (relay_of a.from.now).locals a.to.now l.to l.place (omega (arith, all, c.loop-place-test.true)) l.invariant _ c.add_local_of.ensures

pub returns : goal.returns
returns c =
    let a = c.args in
    let l = c.loop-place in
    let all = locals_length a.from.now in
    locals_added (relay_of a.from.now).locals a.to.now l.to l.place (omega (arith, all, c.loop-place-test.false)) l.invariant
