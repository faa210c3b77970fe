use Prim.Native.Nat.{ℕ, ◌+◌, ◌*◌}
use mathlib.Core.Path.{sym, ap, ◌∙◌}
use mathlib.Core.List.{List}
use Rattle.octets.proofs.Choice.{then_true, then_false}
use Rattle.octets.proofs.Part.{part_range}
use Rattle.rules.specs.Relay.{holds}
use Rattle.rules.specs.View.{is_live_return}
use Rattle.tables.specs.Places.{returns_at, return_width}
use Rattle.tables.specs.Records.{slot_of, return_of}
use Rattle.update.specs.Written.{emptied_if_live}
use Rattle.update.proofs.returns.empty_if_live.Goals as goal

pub returns-then-is_live : goal.returns-then-is_live
unfolding emptied_if_live
returns-then-is_live c =
    let a = c.args in
    c.empty_return.ensures ∙ sym (then_true _ _ (ap (λ (x : List ℕ). holds (is_live_return a.clock a.key.now)
    (slot_of return_of x)) (sym (part_range a.tables.now (returns_at + return_width * a.place) return_width)) ∙ sym c.is_live.ensures ∙
    c.if-is_live.true))

pub returns-else-is_live : goal.returns-else-is_live
unfolding emptied_if_live
returns-else-is_live c =
    let a = c.args in
    sym (then_false _ _ (ap (λ (x : List ℕ). holds (is_live_return a.clock a.key.now) (slot_of return_of x))
    (sym (part_range a.tables.now (returns_at + return_width * a.place) return_width)) ∙ sym c.is_live.ensures ∙ c.if-is_live.false))
