use Rattle.std.proofs.lemmas.Grind.{common_steps}
use native.Mathlib.Omega.{arith}
use borrow.Author.Tests.{tests}
use mathlib.Core.Bool.{true}
use mathlib.Core.Path.{◌≡◌, sym, ◌∙◌}
use Rattle.std.proofs.Common.{rules, lit<, length}
use Rattle.octets.specs.Index.{zeros}
use Rattle.tables.proofs.Chunks.{every_chunk, all_unused}
use Rattle.numbers.specs.Numbers.{link_count}
use Rattle.tables.specs.Places.{link_width}
use Rattle.tables.specs.Forms.{link_form}
use Rattle.tables.specs.Records.{link_bytes_ok}
use Rattle.tables.proofs.Tests.{unused}
use Rattle.tables.proofs.section_check.links_ok.Goals as goal
use Rattle.tables.proofs.section_check.links_ok.Goals.{then-links-eq0, else-links-eq0}

pub returns-then-is_zero : goal.returns-then-is_zero
unfolding link_bytes_ok
returns-then-is_zero c =
    elim c.if-links-eq0.branch [
      | then-links-eq0 w ↦
          let zero : zeros (length c.args.links.now) c.args.links.now ≡ true = sym w.is_zero.ensures ∙ sym w.value-is ∙ c.if-is_zero.true in
          c.if-is_zero.true ∙ sym (all_unused link_bytes_ok link_width link_count c.args.links.now (unused link_form) c.requires zero)
      | else-links-eq0 w ↦ grind (arith, common_steps, tests)
    ]

pub returns-else-is_zero : goal.returns-else-is_zero
returns-else-is_zero c =
    every_chunk link_bytes_ok link_width link_count c.all.ensures.ran c.chunks_exact.ensures.size (lit< tt) (λ x b q k. search rules)
    c.args.links.now c.chunks_exact.ensures.rest c.requires
