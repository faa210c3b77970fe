-- What a host's packet call on a log promises.
use Rattle.std.specs.Prelude.{ℕ, List, ◌≡◌}
use Rattle.rules.specs.Arrival.{Arrival}
use Rattle.rules.specs.declared.Answer.{Answer}
use Rattle.crossing.specs.Answers.{answer_number}
use Rattle.opinion.specs.Calls.{Opines}

-- the engine's packet call with its answer as one number, the packet's payload starting there. The engine has one answer (Opines.replied), so the number
-- is one
pub record OpinesBy (log : List ℕ) (a : Arrival) (start : ℕ) (output : List ℕ) (number : ℕ) (after : List ℕ) (output_after : List ℕ) : Type 0 where
  pub answer : Answer
  pub opines : Opines log a output answer after output_after
  pub numbered : number ≡ answer_number start answer
