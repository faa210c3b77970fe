use Rattle.std.proofs.Common.{rules}
use Rattle.packet.specs.Read.{longest_packet}
use Rattle.packet.proofs.ReadLaws.{reads_readable}
use Rattle.opinion.proofs.Put.{came_put, port_put, rate_put, added_put, removed_put, mark_put, map_put}
use Rattle.opinion.proofs.writing.put.Goals as goal

pub put_entry-requires : goal.put_entry-requires
put_entry-requires c = let fine = rw c.in-Came.is at c.requires.1 in (c.requires.0, (reads_readable longest_packet c.in-Came.packet.now fine.0).fits)

pub returns-in-Came : goal.returns-in-Came
returns-in-Came c =
    let fine = rw c.in-Came.is at c.requires.1 in
    rw (c.in-Came.is, c.put_entry.ensures, c.head_of-head.ensures) (came_put c.args.log.now c.args.n c.told-log c.requires.0 c.in-Came.packet.now c.in-Came.arrived fine.0 fine.1 fine.2)

pub returns-in-SetsPort : goal.returns-in-SetsPort
returns-in-SetsPort c =
    let fine = rw c.in-SetsPort.is at c.requires.1 in
    rw (c.in-SetsPort.is, c.put_entry-in-SetsPort.ensures, c.head_of-head-in-SetsPort.ensures) (port_put c.args.log.now c.args.n c.told-log c.requires.0 c.in-SetsPort.port c.in-SetsPort.settings.on c.in-SetsPort.settings.mode c.in-SetsPort.settings.size fine.0 fine.1)

pub returns-in-SetsRate : goal.returns-in-SetsRate
returns-in-SetsRate c =
    let fine = rw c.in-SetsRate.is at c.requires.1 in
    rw (c.in-SetsRate.is, c.put_entry-in-SetsRate.ensures, c.bare_head.ensures, c.rate_body.ensures) (rate_put c.args.log.now c.args.n c.told-log c.requires.0 c.in-SetsRate.rate fine)

pub returns-in-Adds : goal.returns-in-Adds
returns-in-Adds c =
    rw (c.in-Adds.is, c.put_entry-in-Adds.ensures, c.bare_head-in-Adds.ensures) (added_put c.args.log.now c.args.n c.told-log c.requires.0 c.in-Adds.address (search rules))

pub returns-in-Removes : goal.returns-in-Removes
returns-in-Removes c =
    rw (c.in-Removes.is, c.put_entry-in-Removes.ensures, c.bare_head-in-Removes.ensures) (removed_put c.args.log.now c.args.n c.told-log c.requires.0 c.in-Removes.address (search rules))

pub returns-in-Marks : goal.returns-in-Marks
returns-in-Marks c =
    let fine = rw c.in-Marks.is at c.requires.1 in
    rw (c.in-Marks.is, c.put_entry-in-Marks.ensures, c.head_of.ensures) (mark_put c.args.log.now c.args.n c.told-log c.requires.0 c.in-Marks.destination (search rules) c.in-Marks.clock fine)

pub returns-in-Renumbers : goal.returns-in-Renumbers
returns-in-Renumbers c =
    let fine = rw c.in-Renumbers.is at c.requires.1 in
    rw (c.in-Renumbers.is, c.put_entry-in-Renumbers.ensures, c.bare_head-in-Renumbers.ensures) (map_put c.args.log.now c.args.n c.told-log c.requires.0 c.in-Renumbers.map (search rules) fine)
