use Rattle.std.proofs.Common.{ℕ, ◌≡◌, ◌<◌, length, get_or}
use Rattle.numbers.specs.Numbers.{port_count}
use Rattle.judging.specs.Seen.{no_seen_port}
use Rattle.opinion_log.specs.Log.{known_in}
use Rattle.opinion_log.specs.Steps.{port_seen}
use Rattle.opinion_log.proofs.ports.ports_at.Given as goal

abbrev pub invariant-loop-i : goal.invariant-loop-i
invariant-loop-i l = (length l.ports ≡ port_count) × ((j : ℕ) → j < l.i → port_seen (get_or l.ports j no_seen_port) ≡ (known_in l.log l.n).port j)
