-- `sha256::compress::rounds` meets its contract.
-- Assumes nothing.
use Rattle.std.proofs.Common.{◌≡◌, ◌+◌, length, take, refl, ap, ◌∙◌, arith}
use Rattle.sha256.specs.Constants.{K}
use Rattle.sha256.specs.Compression.{after_rounds}
use Rattle.sha256.proofs.ScheduleLaws.{first_words_take, length_expanded, expanded_words}
use Rattle.sha256.proofs.RoundLaws.{rounds_stored}
use Rattle.sha256.proofs.compress.rounds.Goals as goal

pub loop-t-init : goal.loop-t-init
unfolding after_rounds
loop-t-init c =
    let w = c.first_words-w in
    (omega arith, refl, omega arith, first_words_take _ w.result w.ensures, refl)

pub loop-t-preserved : goal.loop-t-preserved
unfolding K
loop-t-preserved c =
    let l = c.loop-t in
    let x = c.extend.ensures in
    let e : l.t + 16 + 8 ≡ l.t + 8 + 16 = omega arith in
    let stored = rw e at (ap (take (l.t + 16 + 8)) x ∙ expanded_words _ l.w (l.t + 16) 8 (omega arith) (omega arith) l.invariant.3) in
    let after =
    rounds_stored _ _ _ (l.t + 8 + 16) l.t 8 l.r _ (omega arith) (omega arith) stored l.invariant.4 c.eight_rounds-r.ensures in
    (omega arith, omega arith, ap length x ∙ length_expanded l.w (l.t + 16) 8 ∙ l.invariant.2, stored, after)

pub returns : goal.returns
unfolding K
returns c =
    let l = c.loop-t in
    let r = c.eight_rounds-q in
    let e : l.t ≡ 48 = omega arith in
    let stored = rw e at l.invariant.3 in
    rounds_stored _ _ l.w 64 56 8 r.result c.eight_rounds.result (omega arith) (omega arith) stored
    (rounds_stored _ _ l.w 64 48 8 l.r r.result (omega arith) (omega arith) stored (rw e at l.invariant.4) r.ensures)
    c.eight_rounds.ensures
