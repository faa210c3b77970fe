use Rattle.std.proofs.Common.{[], refl, sym, ◌∙◌, subst, OnOk}
use Rattle.std.specs.Io.KnownBytes.{Appends}
use Rattle.text.proofs.TextLaws.{text_within}
use Rattle.console.proofs.Printed.{text_printed}
use Rattle.surveying.proofs.StartLaws.{some_refusal}
use Rattle.survey.proofs.Printing.{settings_printed, survey_lines}
use Rattle.survey.proofs.survey_site.Goals as goal

pub returns-in-Ok : goal.returns-in-Ok
returns-in-Ok g c =
    let lines = survey_lines _ _ _ _ _ 0 _ _ _ _ _ _ _ c.in-Ok.ensures refl c.read_recordings.ensures in (
      _,
      lines.0,
      subst (λ x. OnOk c.print_lines.result (Appends (g.W.Write.contents c.args.out.now) (g.W.Write.contents c.print_lines.new.out) x))
          lines.1
          c.print_lines.ensures,
    )

pub print-requires : goal.print-requires
print-requires g c = text_within c.settings_refused.result _ c.settings_refused.ensures

pub returns-in-Err : goal.returns-in-Err
returns-in-Err g c = (
  _,
  [],
  subst (λ x. OnOk c.print.result (Appends (g.W.Write.contents c.args.out.now) (g.W.Write.contents c.print.new.out) x))
      (text_printed c.settings_refused.result _ c.settings_refused.ensures
      ∙ settings_printed _ _ _ _ _ _ (c.number.ensures ∙ c.in-Err.ensures.0) (λ q. some_refusal _ (sym c.number.ensures ∙ q)))
      c.print.ensures,
)
