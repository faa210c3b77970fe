use Rattle.std.proofs.Common.{arith}
use borrow.Author.Tests.{tests}
use Rattle.std.proofs.Common.{◌≡◌, sym, ap, ◌∙◌}
use Rattle.judging.specs.Seen.{arrival_of}
use Rattle.history.specs.After.{Entry, came}
use Rattle.opinion_log.specs.Log.{entry_of, entry_bytes, known_in}
use Rattle.opinion_log.specs.Steps.{call_of, effect_of, keeps_hash}
use Rattle.opinion_log.proofs.outcomes.outcome_at.Goals as goal

pub returns-in_default : goal.returns-in_default
unfolding effect_of keeps_hash
returns-in_default c = grind (arith, tests)

pub returns-in-Came : goal.returns-in-Came
returns-in-Came c =
    let k = known_in c.args.log.now c.args.i in
    let is : came (arrival_of c.in-Came.packet.now c.in-Came.arrived) ≡ entry_of (entry_bytes c.args.log.now c.args.i)
    = sym (ap call_of c.in-Came.is) ∙ c.entry_at.ensures.0 in (
      c.packet_outcome.ensures.0 ∙ ap (λ (x : Entry). effect_of x k) is,
      c.packet_outcome.ensures.1 ∙ ap (λ (x : Entry). keeps_hash x k) is,
    )
