use Rattle.saved.proofs.LoadLaws.{tally_read}
use Rattle.saved.proofs.loading.tally_at.Goals as goal

pub returns : goal.returns
returns c =
    let f = c.args.file.now in
    let last = c.counter_at-6.ensures in
    rw (
      c.counter_at.ensures,
      c.counter_at-2.ensures,
      c.counter_at-3.ensures,
      c.counter_at-4.ensures,
      c.counter_at-5.ensures,
      last,
    )
    (tally_read f c.args.at)
