use mathlib.Core.Path.{◌≡◌}
use lib.ListN.{length}
use Rattle.tables.specs.Places.{address_width}
use Rattle.tables.proofs.Called.{answers, answers_after}
use Rattle.settings.proofs.Answered.{fresh_refused, fresh_done}
use borrow.Author.Rules.{rules}
use Rattle.settings.proofs.fresh.Goals as goal

pub returns-then-tables-ne-TABLE_SIZE : goal.returns-then-tables-ne-TABLE_SIZE
returns-then-tables-ne-TABLE_SIZE c = answers (fresh_refused c.args.tables.now c.args.own c.if-tables-ne-TABLE_SIZE.true)

pub returns : goal.returns
returns c =
    let a = c.args in
    let wide : length a.own ≡ address_width = search rules in
    answers_after (rw (c.put_fresh_ports.ensures, c.copy_at.ensures, c.fill.ensures.after (λ y e. e)))
    (fresh_done a.tables.now a.own c.if-tables-ne-TABLE_SIZE.false wide)
