use Rattle.std.proofs.Common.{refl, sym, ◌∙◌, subst, OnOk}
use Rattle.std.specs.Io.KnownBytes.{Appends}
use Rattle.numbers.proofs.RefusalNumbers.{some_number}
use Rattle.rules.specs.Calls.{new_tally}
use Rattle.text.proofs.TextLaws.{text_within}
use Rattle.console.proofs.Printed.{text_printed}
use Rattle.replay.proofs.Loading.{not_loaded_printed, loaded_printed}
use Rattle.replay.proofs.replay_over.Goals as goal

pub print-requires : goal.print-requires
print-requires g c = text_within c.tables_refused.result _ c.tables_refused.ensures

pub returns-in-Err : goal.returns-in-Err
returns-in-Err g c =
    subst (λ x. OnOk c.print.result (Appends (g.W.Write.contents c.args.out.now) (g.W.Write.contents c.print.new.out) x))
    (text_printed c.tables_refused.result _ c.tables_refused.ensures
    ∙ not_loaded_printed c.args.stored.now c.args.file.now c.requires _ new_tally refl _ (c.number.ensures ∙ (c.in-Err.ensures new_tally).0) (λ q. some_number _ (sym c.number.ensures ∙ q)))
    c.print.ensures

pub returns-in-Ok : goal.returns-in-Ok
returns-in-Ok g c =
    subst (λ x. OnOk c.replay.result (Appends (g.W.Write.contents c.args.out.now) (g.W.Write.contents c.replay.new.out) x))
    (loaded_printed c.args.stored.now c.args.file.now c.requires _ new_tally refl 0 _ _ (c.in-Ok.ensures new_tally) refl)
    c.replay.ensures.lines
