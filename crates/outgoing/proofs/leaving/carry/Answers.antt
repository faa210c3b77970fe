use mathlib.Core.Path.{sym, ap, ◌∙◌}
use Prim.Native.Nat.{ℕ, ◌+◌, ◌<◌}
use mathlib.Core.List.{List, [], ◌∷◌}
use lib.ListN.{length, get_or}
use Rattle.octets.specs.Part.{patch}
use Rattle.packet.proofs.ReadLaws.{reads_readable, parts_hops}
use Rattle.rules.proofs.Lengths.{carried_length}
use Rattle.outgoing.proofs.LeavingLaws.{long, carried_written}
use native.Mathlib.Omega.{arith}
use Rattle.packet.specs.Read.{longest_packet}
use Rattle.outgoing.proofs.leaving.carry.Goals as goal

pub copy_at-requires : goal.copy_at-requires
copy_at-requires c = omega (arith, (reads_readable longest_packet c.args.packet.now c.requires.0.readable).fits, c.requires.1)

pub bounds-packet-1 : goal.bounds-packet-1
bounds-packet-1 c = omega (arith, long longest_packet c.args.packet.now c.requires.0.readable)

pub overflow_add-packet : goal.overflow_add-packet
overflow_add-packet c = omega (arith, parts_hops c.args.packet.now, c.requires.0.few_hops)

pub returns : goal.returns
returns c =
    let p = c.args.packet.now in
    let two : 1 < length p = omega (arith, long longest_packet p c.requires.0.readable) in (
      sym (carried_length p),
      c.set_at.ensures
          ∙ ap (λ (o : List ℕ). patch o 1 ((get_or p 1 0 + 1) ∷ [])) c.copy_at.ensures
          ∙ carried_written p c.args.output.now two,
    )
