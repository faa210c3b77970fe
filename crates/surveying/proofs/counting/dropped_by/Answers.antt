use Rattle.std.proofs.Common.{◌≡◌, ℕ, Bool, true, false, eqb, get_or, refl, ap, ◌∙◌}
use mir.Val.{bool_byte}
use Rattle.octets.specs.Choice.{◌then◌otherwise◌}
use Rattle.surveying.specs.Counts.{test_order}
use Rattle.surveying.proofs.counting.dropped_by.Goals as goal

one_or_none : (b : Bool) → bool_byte b ≡ (b then 1 otherwise 0)
unfolding ◌then◌otherwise◌
one_or_none true = refl
one_or_none false = refl

pub returns : goal.returns
returns c =
    c.from.ensures ∙ one_or_none _ ∙ ap (λ (n : ℕ). eqb n (get_or test_order c.args.place 0) then 1 otherwise 0) c.test_of.ensures
