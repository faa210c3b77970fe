-- A message that fills the buffer is longer than the longest, and so is refused whatever stands behind it.
use Rattle.std.proofs.Common.{◌≡◌, ℕ, ◌≤◌, ◌<◌, Bool, true, false, leb, List, length, take, refl, ap, arith, length-take, take_all}
use Rattle.std.proofs.lemmas.Bool.{leb-true, leb-false, lt-leb}
use Rattle.sha256.specs.Sha256.{answer, longest_message}

abbrev pub room : ℕ
room = 65536

pub answer_of_front : (m : List ℕ) → answer (take room m) ≡ answer m
answer_of_front m = go (leb (length m) longest_message) refl
  where
    go : (b : Bool) → leb (length m) longest_message ≡ b → answer (take room m) ≡ answer m
    go true e =
        let short : length m ≤ longest_message = leb-true _ _ e in
        ap answer (take_all room m (omega arith))
    go false e =
        let long : longest_message < length m = leb-false _ _ e in
        let cut : longest_message < length (take room m) = omega (arith, length-take room m) in
        rw (lt-leb (length (take room m)) longest_message cut, lt-leb (length m) longest_message long) refl
