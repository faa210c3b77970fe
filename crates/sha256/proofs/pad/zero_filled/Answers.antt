-- `sha256::pad::zero_filled` meets its contract.
-- Assumes nothing.
use Rattle.std.proofs.Common.{ℕ, List, ◌++◌, length, drop, replicate, ap, ◌∙◌}
use Rattle.std.proofs.lemmas.List.{drop-replicate}
use Rattle.sha256.proofs.pad.zero_filled.Goals as goal

pub returns : goal.returns
returns c =
    let n = length c.args.s.now in
    ap (λ (r : List ℕ). r ++ drop n (replicate 128 0)) c.copy_from_slice.ensures.after
    ∙ ap (λ (r : List ℕ). c.args.s.now ++ r) (drop-replicate n 128 0)
