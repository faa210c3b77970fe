use mathlib.Core.Bool.{true, false≢true}
use mathlib.Core.Path.{◌≡◌, sym, ◌∙◌}
use Rattle.std.proofs.Common.{length}
use Rattle.octets.specs.Index.{zeros}
use Rattle.tables.specs.Groups.{path_group_size}
use Rattle.tables.proofs.Chunks.{all_unused}
use Rattle.tables.specs.Places.{path_width}
use Rattle.tables.specs.Forms.{path_form}
use Rattle.tables.specs.Records.{path_bytes_ok}
use Rattle.tables.proofs.Tests.{unused}
use Rattle.tables.proofs.section_check.path_group_ok.Goals as goal
use Rattle.tables.proofs.section_check.path_group_ok.Goals.{then-four_marked, else-four_marked}

pub returns-then-is_zero : goal.returns-then-is_zero
unfolding path_bytes_ok
returns-then-is_zero c =
    elim c.if-four_marked.branch [
      | then-four_marked w ↦
          let zero : zeros (length c.args.group.now) c.args.group.now ≡ true = sym w.is_zero.ensures ∙ sym w.value-is ∙ c.if-is_zero.true in
          c.if-is_zero.true ∙ sym (all_unused path_bytes_ok path_width path_group_size c.args.group.now (unused path_form) c.requires zero)
      | else-four_marked w ↦ absurd (false≢true (sym w.if-four_marked.false ∙ sym w.value-is ∙ c.if-is_zero.true))
    ]
