use Rattle.haskumye.proofs.ExportLaws.{place_found, payload_short}
use native.Mathlib.Omega.{arith}
use Rattle.haskumye.proofs.packets.haskumye_payload_start.Goals as goal

pub overflow_sub-result : goal.overflow_sub-result
overflow_sub-result c = omega (arith, payload_short c.args.packet.now c.payload.result.now c.payload.ensures)

pub returns : goal.returns
returns c = place_found c.args.packet.now c.payload.result.now c.payload.ensures
