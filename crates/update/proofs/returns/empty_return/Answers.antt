use Prim.Native.Nat.{ℕ, ◌+◌, ◌*◌}
use native.Mathlib.Omega.{arith}
use mathlib.Core.Path.{◌≡◌, ap, ◌∙◌}
use lib.ListN.{length, replicate, length-replicate}
use Rattle.octets.specs.Part.{patch}
use Rattle.octets.proofs.Part.{patch_range, range_length}
use Rattle.tables.specs.Places.{return_width, returns_at}
use Rattle.tables.specs.Records.{slot_bytes}
use Rattle.update.specs.Written.{return_emptied}
use Rattle.update.proofs.returns.empty_return.Goals as goal

pub returns : goal.returns
unfolding return_emptied slot_bytes
returns c =
    let t = c.args.tables.now in
    let at : ℕ = returns_at + return_width * c.args.place in
    let zeros : c.fill.new.self ≡ replicate return_width 0 =
    c.fill.ensures.after (λ y h. h) ∙ ap (λ (k : ℕ). replicate k 0) (range_length t at return_width (omega (arith, c.requires))) in
    patch_range t at return_width c.fill.new.self (ap length zeros ∙ length-replicate {A = ℕ} return_width 0) ∙ ap (patch t at) zeros
