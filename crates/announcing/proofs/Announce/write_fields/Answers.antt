use mathlib.Core.Path.{sym}
use Rattle.announcing.proofs.WriteLaws.{fields_written}
use Rattle.announcing.proofs.Announce.write_fields.Goals as goal

pub returns : goal.returns
returns c =
    let a = c.args in
    let i = c.self.inside in
    let pre = rw (sym c.self.view_is) at c.requires in
    rw (
      c.copy_at-4.ensures,
      c.write_number_at.ensures,
      c.copy_at-3.ensures,
      c.copy_at-2.ensures,
      c.copy_at.ensures,
      sym c.self.view_is,
    )
    (fields_written a.room.now i.keys.now i.name_hash.now i.random.now i.clock i.ratchet.now a.at pre.0 pre.1 pre.2 pre.3)
