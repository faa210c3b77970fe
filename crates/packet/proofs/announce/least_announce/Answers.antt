use Rattle.packet.specs.Announce.{ratchet_length, least_announce}
use Rattle.packet.specs.Places.{blob_end, ratchet_width, signature_width}
use Rattle.octets.proofs.Choice.{then_true, then_false}
use mathlib.Core.Path.{sym, ap, ◌∙◌}
use Prim.Native.Nat.{ℕ, ◌+◌}
use Rattle.packet.proofs.announce.least_announce.Goals as goal

pub returns-then-context_flag : goal.returns-then-context_flag
unfolding ratchet_length least_announce
returns-then-context_flag c = ap (λ (n : ℕ). blob_end + n + signature_width) (sym (then_true ratchet_width 0 (sym c.context_flag.ensures ∙ c.if-context_flag.true)))

pub returns : goal.returns
unfolding ratchet_length least_announce
returns c = ap (λ (n : ℕ). blob_end + n + signature_width) (sym (then_false ratchet_width 0 (sym c.context_flag.ensures ∙ c.if-context_flag.false)))
