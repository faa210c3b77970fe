use Rattle.packet.specs.Read.{longest_packet}
use Rattle.packet.proofs.ReadLaws.{reads_readable}
use Rattle.rules.specs.View.{view_at}
use Rattle.act.specs.Acted.{announced_by}
use Rattle.act.proofs.announces.announced_path.Goals as goal

pub parts_of-parts-requires : goal.parts_of-parts-requires
parts_of-parts-requires c = (reads_readable longest_packet _ c.requires.0.readable).whole

pub returns : goal.returns
unfolding announced_by view_at
returns c =
    let mode = c.port_mode.ensures in
    let wide = c.from.ensures in
    rw (c.next_hop_of-next_hop.ensures, c.path_lifetime-lifetime.ensures.0, mode, wide, c.parts_of-parts.ensures)
