use mathlib.Core.Path.{sym, ap, subst, ◌∙◌}
use Prim.Native.Nat.{◌≤◌}
use native.Mathlib.Omega.{arith}
use Rattle.numbers.specs.Refusals.{Written, written_as}
use Rattle.packet.specs.Read.{longest_packet}
use Rattle.announcing.proofs.Lengths.{signing_most}
use Rattle.crossing.specs.Packets.{written_number}
use Rattle.haskumye.proofs.announces.haskumye_announce_signing_bytes.Goals as goal

pub written_number-requires : goal.written_number-requires
written_number-requires c =
    let short : (written_as c.signing_bytes.result).length ≤ longest_packet =
    subst (λ (w : Written). w.length ≤ longest_packet) (sym c.signing_bytes.ensures.0) (signing_most _ _) in
    omega (arith, short)

pub returns : goal.returns
returns c = (c.written_number.ensures ∙ ap written_number c.signing_bytes.ensures.0, c.signing_bytes.ensures.1)
