use Rattle.std.proofs.Common.{ℕ, ◌%◌, ◌^◌, ◌≤◌, ◌<◌, eqb, sym, ap, ◌∙◌, arith, le-ltb, lit<}
use Rattle.std.proofs.Math.Nat.{pow-le-pow_right, div-eq_of_lt}
use Rattle.std.proofs.lemmas.Nat.Bits.{shr_and_one}
use Rattle.rules.specs.Answers.{in_set}
use Rattle.surveying.proofs.counting.in_set.Goals as goal

pub returns-then-port-lt-PORT_COUNT : goal.returns-then-port-lt-PORT_COUNT
unfolding in_set
returns-then-port-lt-PORT_COUNT c = ap (λ (n : ℕ). eqb n 1) (shr_and_one c.args.ports c.args.port)

-- a set of sixteen ports has no bit behind them
pub returns-else-port-lt-PORT_COUNT : goal.returns-else-port-lt-PORT_COUNT
unfolding in_set
returns-else-port-lt-PORT_COUNT c =
    let a = c.args in
    let all : 2 ^ 16 ≤ 2 ^ a.port = pow-le-pow_right (lit< tt) c.if-port-lt-PORT_COUNT.false in
    let below : a.ports < 2 ^ a.port = omega (arith, c.ranges.ports.fits, all) in
    le-ltb _ _ c.if-port-lt-PORT_COUNT.false ∙ sym (ap (λ (n : ℕ). eqb (n % 2) 1) (div-eq_of_lt below))
