use Rattle.std.proofs.Common.{[], sym, ◌∙◌, subst, OnOk}
use Rattle.std.specs.Io.KnownBytes.{Appends}
use Rattle.numbers.proofs.RefusalNumbers.{some_number}
use Rattle.text.proofs.TextLaws.{text_within}
use Rattle.console.proofs.Printed.{text_printed}
use Rattle.replay.proofs.Loading.{refused_printed}
use Rattle.replay.proofs.answer.Goals as goal

pub print-requires : goal.print-requires
print-requires g c = text_within c.refused_line.result _ c.refused_line.ensures

pub returns-in-Err : goal.returns-in-Err
returns-in-Err g c = (
  [],
  subst (λ x. OnOk c.print.result (Appends (g.W.Write.contents c.args.out.now) (g.W.Write.contents c.print.new.out) x))
      (text_printed c.refused_line.result _ c.refused_line.ensures
      ∙ refused_printed [] c.args.file.now c.number.result (c.number.ensures ∙ c.in-Err.ensures) (λ q. some_number _ (sym c.number.ensures ∙ q)))
      c.print.ensures,
)
