use mathlib.Core.Path.{sym, ap, ◌∙◌}
use lib.Dec.{leb}
use lib.ListN.{get_or}
use Rattle.octets.proofs.Index.{and_no, and_yes}
use Rattle.tables.specs.Fields.{path_blobs_at}
use Rattle.editions.specs.Steps.{path_fine}
use Rattle.editions.proofs.Rooms.{one_path_lem}
use Rattle.editions.proofs.older.Bodies.path_fine.Goals as goal

pub returns-then-paths_each : goal.returns-then-paths_each
unfolding path_fine
returns-then-paths_each c =
    let b = c.args.path.now in
    ap (leb (get_or b path_blobs_at 0)) c.most_blobs.ensures
    ∙ sym (and_yes _ (one_path_lem b c.requires ∙ sym c.paths_each.ensures ∙ c.if-paths_each.true))

pub returns-else-paths_each : goal.returns-else-paths_each
unfolding path_fine
returns-else-paths_each c =
    let no = sym c.paths_each.ensures ∙ c.if-paths_each.false in
    c.if-paths_each.false ∙ sym (and_no _ (one_path_lem c.args.path.now c.requires ∙ no))
