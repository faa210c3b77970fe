-- What a decision with the word no tells of the signature word.
-- For the contracts of helpers: not part of what a reader must believe.
use Rattle.std.specs.Prelude.{ℕ, ◌==◌}
use Rattle.octets.specs.Choice.{◌then◌otherwise◌}
use Rattle.rules.specs.Answers.{reason_number}
use Rattle.rules.specs.declared.Reason.{Reason}
use Rattle.plan.specs.declared.Decision.{Decision}
use Rattle.plan.specs.declared.Decision.TheVariants.{Drop, Deliver, Announce, Data, Request, Carry, Receipt}

-- 255 of test 9
abbrev pub reason_tells : Reason → ℕ
reason_tells reason = reason_number reason == 9 then 255 otherwise 0

abbrev pub decision_tells : Decision → ℕ
decision_tells (Drop reason) = reason_tells reason
decision_tells Deliver = 0
decision_tells (Announce place known) = 0
decision_tells (Data path) = 0
decision_tells (Request path place id) = 0
decision_tells (Carry link port) = 0
decision_tells (Receipt place port) = 0
