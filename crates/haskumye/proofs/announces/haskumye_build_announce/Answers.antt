use mathlib.Core.Path.{sym, ap, subst, ◌∙◌}
use Prim.Native.Nat.{◌≤◌}
use native.Mathlib.Omega.{arith}
use Rattle.numbers.specs.Refusals.{Written, written_as}
use Rattle.packet.specs.Read.{longest_packet}
use Rattle.announcing.proofs.Lengths.{building_most}
use Rattle.crossing.specs.Packets.{written_number}
use Rattle.haskumye.proofs.announces.haskumye_build_announce.Goals as goal

pub written_number-requires : goal.written_number-requires
written_number-requires c =
    let short : (written_as c.build.result).length ≤ longest_packet =
    subst (λ (w : Written). w.length ≤ longest_packet) (sym c.build.ensures.0) (building_most _ _ _) in
    omega (arith, short)

pub returns : goal.returns
returns c = (c.written_number.ensures ∙ ap written_number c.build.ensures.0, c.build.ensures.1)
