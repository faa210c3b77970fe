use Rattle.outgoing.proofs.LeavingLaws.{whole}
use Rattle.numbers.specs.Numbers.{longest_packet}
use Rattle.outgoing.proofs.leaving.rewritten_parts.Goals as goal

pub parts_of-parts-requires : goal.parts_of-parts-requires
parts_of-parts-requires c = whole longest_packet c.args.packet.now c.requires.readable
