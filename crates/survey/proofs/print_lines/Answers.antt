use Rattle.std.proofs.Common.{sym, subst}
use Rattle.std.specs.Io.KnownBytes.{Appends}
use Rattle.std.proofs.KnownBytes.{Appends-nil}
use Rattle.surveying.specs.Promise.{line_at}
use Rattle.text.proofs.TextLaws.{text_within}
use Rattle.survey.proofs.Printing.{lines_none, next_line}
use Rattle.survey.proofs.print_lines.Goals as goal

pub loop-i-init : goal.loop-i-init
loop-i-init g c = subst (Appends _ _) (sym (lines_none (line_at c.args.counts.now c.args.refusals.now))) (Appends-nil _)

pub print-requires : goal.print-requires
print-requires g c = text_within c.line.result _ c.line.ensures

pub loop-i-preserved : goal.loop-i-preserved
loop-i-preserved g c =
    next_line (line_at c.args.counts.now c.args.refusals.now) c.loop-i.i _ _ _ c.line.result c.loop-i.printed c.print.result _
    c.and-printed.ensures
    c.line.ensures
    c.loop-i.invariant
    c.print.ensures
