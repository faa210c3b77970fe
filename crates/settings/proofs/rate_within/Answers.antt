use Prim.Native.Nat.{◌<◌}
use native.Mathlib.Omega.{arith}
use mathlib.Core.Path.{◌∙◌}
use borrow.Author.Tests.{le-leb, lt-leb}
use Rattle.numbers.specs.Numbers.{grace_limit}
use Rattle.octets.specs.Index.{◌and◌}
use Rattle.rules.specs.Refusals.{rate_settings_ok}
use Rattle.settings.proofs.rate_within.Goals.{then-target-le-TARGET_LIMIT, else-target-le-TARGET_LIMIT}
use Rattle.settings.proofs.rate_within.Goals as goal

pub returns-then-grace-le-GRACE_LIMIT : goal.returns-then-grace-le-GRACE_LIMIT
unfolding rate_settings_ok ◌and◌
returns-then-grace-le-GRACE_LIMIT c = rw (le-leb _ _ c.if-grace-le-GRACE_LIMIT.true.0, le-leb _ _ c.if-grace-le-GRACE_LIMIT.true.1)

pub returns-else-grace-le-GRACE_LIMIT : goal.returns-else-grace-le-GRACE_LIMIT
unfolding rate_settings_ok ◌and◌
returns-else-grace-le-GRACE_LIMIT c =
    elim c.if-target-le-TARGET_LIMIT.branch [
      | then-target-le-TARGET_LIMIT w ↦
          let within = w.if-target-le-TARGET_LIMIT.true in
          let long : grace_limit < c.args.grace = omega arith in
          w.t-5-is ∙ rw (le-leb _ _ within, lt-leb _ _ long)
      | else-target-le-TARGET_LIMIT w ↦ w.t-5-is ∙ rw (lt-leb _ _ w.if-target-le-TARGET_LIMIT.false)
    ]
