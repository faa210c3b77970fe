use Prim.Native.Nat.{ℕ, ◌+◌, ◌*◌}
use mathlib.Core.Path.{sym, ap₂, ◌∙◌}
use Rattle.octets.proofs.Bytes.{known_bytes}
use Rattle.octets.proofs.BigEndian.{number_nil, number_more, number_take_64}
use native.Mathlib.Omega.{arith}
use Rattle.octets.proofs.read_number.Goals as goal

pub loop-digit-init : goal.loop-digit-init
loop-digit-init c = sym number_nil

pub overflow_mul-x : goal.overflow_mul-x
overflow_mul-x c =
    let s = c.args.s.now in
    let i = c.loop-digit.digit-index in
    omega (arith, number_more s i c.loop-digit-test.true, number_take_64 s (i + 1) (known_bytes s c.type_inv.s) (omega arith) (omega arith))

pub overflow_add-x : goal.overflow_add-x
overflow_add-x c =
    let s = c.args.s.now in
    let i = c.loop-digit.digit-index in
    omega (arith, number_more s i c.loop-digit-test.true, number_take_64 s (i + 1) (known_bytes s c.type_inv.s) (omega arith) (omega arith))

pub loop-digit-preserved : goal.loop-digit-preserved
loop-digit-preserved c =
    ap₂ (λ (p q : ℕ). p * 256 + q) c.loop-digit.invariant c.from.ensures ∙ sym (number_more _ _ c.loop-digit-test.true)
