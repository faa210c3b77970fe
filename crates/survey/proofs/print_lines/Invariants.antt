use Rattle.std.proofs.Common.{OnOk}
use Rattle.std.specs.Io.KnownBytes.{Appends}
use Rattle.octets.specs.Index.{list_of}
use Rattle.octets.specs.Part.{joined}
use Rattle.surveying.specs.Promise.{line_at}
use Rattle.survey.proofs.print_lines.Given as goal

-- the lines so far
abbrev pub invariant-loop-i : goal.invariant-loop-i
invariant-loop-i g l =
    OnOk l.printed
    (Appends (g.W.Write.contents l.initial.out) (g.W.Write.contents l.out) (joined (line_at l.counts l.refusals) (list_of (λ i. i) l.i)))
