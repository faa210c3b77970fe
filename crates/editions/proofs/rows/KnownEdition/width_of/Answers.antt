use native.Mathlib.Omega.{arith}
use Rattle.editions.proofs.EditionLaws.{port_most, path_most}
use Prim.Native.Nat.{ℕ, suc, ◌*◌, ◌≤◌, zero-le}
use mathlib.Core.Path.{◌≡◌, sym, ap, ◌∙◌}
use Rattle.numbers.specs.Numbers.{port_count, path_count}
use Rattle.editions.specs.Editions.{numbered, held, edition_at, width_at}
use Rattle.editions.proofs.Widths.{width_start, width_ports, width_paths}
use Rattle.editions.proofs.rows.KnownEdition.width_of.Goals as goal

above : {k i : ℕ} → k ≤ i → (i ≡ k → ⊥) → suc k ≤ i
above l ne = omega (arith, l, ne)

pub overflow_mul-result : goal.overflow_mul-result
overflow_mul-result c =
    let most = port_most c.args.self.number in
    record { fits = omega (arith, c.port_width.ensures, most) }

pub overflow_mul-result-in-3 : goal.overflow_mul-result-in-3
overflow_mul-result-in-3 c =
    let most = path_most c.args.self.number in
    record { fits = omega (arith, c.path_width.ensures, most) }

pub returns-in-0 : goal.returns-in-0
returns-in-0 c =
    let e = numbered c.args.self.number in
    c.start_width.ensures ∙ sym (width_start e) ∙ ap (width_at (held e)) (sym c.in-0.is)

pub returns-in-1 : goal.returns-in-1
returns-in-1 c =
    let e = numbered c.args.self.number in
    ap (λ (w : ℕ). w * port_count) c.port_width.ensures ∙ sym (width_ports e) ∙ ap (width_at (held e)) (sym c.in-1.is)

pub returns-in-2 : goal.returns-in-2
unfolding width_at
returns-in-2 c = sym (ap (width_at (edition_at c.args.self.number)) c.in-2.is)

pub returns-in-3 : goal.returns-in-3
returns-in-3 c =
    let e = numbered c.args.self.number in
    ap (λ (w : ℕ). w * path_count) c.path_width.ensures ∙ sym (width_paths e) ∙ ap (width_at (held e)) (sym c.in-3.is)

pub returns-in-4 : goal.returns-in-4
unfolding width_at
returns-in-4 c = sym (ap (width_at (edition_at c.args.self.number)) c.in-4.is)

pub returns-in-5 : goal.returns-in-5
unfolding width_at
returns-in-5 c = sym (ap (width_at (edition_at c.args.self.number)) c.in-5.is)

pub returns-in-6 : goal.returns-in-6
unfolding width_at
returns-in-6 c = sym (ap (width_at (edition_at c.args.self.number)) c.in-6.is)

pub returns-in_default : goal.returns-in_default
unfolding width_at
returns-in_default c =
    let r = c.in_default.in_default-own.rest in
    let three = above (above (above (zero-le) r.0.0.0.0.0.0.1) r.0.0.0.0.0.1) r.0.0.0.0.1 in
    let seven = above (above (above (above three r.0.0.0.1) r.0.0.1) r.0.1) r.1 in
    let last : c.args.body ≡ 7 = omega (arith, seven, c.requires) in
    sym (ap (width_at (edition_at c.args.self.number)) last)
