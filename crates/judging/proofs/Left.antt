-- What is left of a packet, in the rules' words.
use Rattle.std.proofs.Common.{ℕ, List, ◌≡◌, refl}
use Rattle.rules.specs.Arrival.{destination}
use Rattle.rules.specs.Writes.{return_key, return_record}
use Rattle.judging.specs.declared.Arrived.{Arrived}
use Rattle.judging.specs.declared.SeenPath.{SeenPath}
use Rattle.judging.specs.Seen.{arrival_of, path_record, return_record_of}
use Rattle.judging.specs.Steps.{left_return}

pub return_left : (s : SeenPath) (m : Arrived) (bytes : List ℕ)
    → return_record_of (return_key (arrival_of bytes m)) (left_return s m) ≡ return_record (arrival_of bytes m) (path_record (destination (arrival_of bytes m)) s)
unfolding return_record
return_left s m bytes = refl
