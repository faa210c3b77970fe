use Rattle.tables.proofs.Whole.{formed}
use Rattle.octets.proofs.Bytes.{known_bytes}
use mathlib.Core.Path.{◌∙◌}
use Rattle.update.proofs.Sweep.{sweep_none, sweep_more, sweep_done}
use borrow.Author.Rules.{rules}
use Rattle.update.proofs.returns.empty_each.Goals as goal

pub loop-place-init : goal.loop-place-init
loop-place-init c =
    let a = c.args in
    ((formed _ c.requires.0).size, sweep_none a.clock a.key.now a.tables.now (known_bytes a.tables.now c.type_inv.tables) c.requires.0)

pub loop-place-preserved : goal.loop-place-preserved
loop-place-preserved c =
    let a = c.args in
    let place = c.loop-place in (
      search rules,
      sweep_more a.clock a.key.now a.tables.now (search rules)
          c.requires.0 place.tables place.place c.loop-place-test.true place.invariant.1 _ c.empty_if_live.ensures,
    )

pub returns : goal.returns
returns c =
    let a = c.args in
    c.loop-place.invariant.1 ∙ sweep_done a.clock a.key.now a.tables.now c.loop-place.place c.loop-place-test.false
