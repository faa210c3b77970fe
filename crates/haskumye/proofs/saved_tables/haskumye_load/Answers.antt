use mathlib.Core.Path.{sym, ap, ◌∙◌}
use borrow.Author.Rules.{rules}
use Rattle.crossing.specs.Tallies.{tally_in, tally_numbers}
use Rattle.crossing.proofs.LosesNothing.{numbers_back}
use Rattle.haskumye.proofs.saved_tables.haskumye_load.Goals as goal

pub returns-in-Ok : goal.returns-in-Ok
returns-in-Ok c =
    let load = c.in-Ok.ensures (tally_in c.args.tally.now) in
    (load.0, load.1, c.tally_numbers.ensures ∙ ap tally_numbers load.2)

pub returns-in-Err : goal.returns-in-Err
returns-in-Err c =
    let tally = c.args.tally.now in
    let load = c.in-Err.ensures (tally_in tally) in
    (c.number.ensures ∙ load.0, load.1, sym (numbers_back tally (search rules)) ∙ ap tally_numbers load.2)
