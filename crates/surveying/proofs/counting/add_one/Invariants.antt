use Rattle.std.proofs.Common.{◌≡◌, ℕ}
use Rattle.octets.proofs.ListOf.{mixed}
use Rattle.rules.specs.declared.Answer.{Answer}
use Rattle.surveying.specs.Counts.{Answered}
use Rattle.surveying.specs.Promise.{add_one}
use Rattle.surveying.proofs.counting.add_one.Given as goal

abbrev pub entry : ℕ → ℕ → Answer → Answered
entry came size answer = record { port = came; size = size; answer = answer }

abbrev pub invariant-loop-counter : goal.invariant-loop-counter
invariant-loop-counter l = l.counts ≡ mixed l.counter (add_one l.initial.counts (entry l.came l.size l.answer)) l.initial.counts
