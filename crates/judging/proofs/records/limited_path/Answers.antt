use Rattle.rules.specs.Rate.{entry_dropped}
use Rattle.rules.proofs.Ranges.{dropped_rate_ok}
use Rattle.judging.proofs.records.limited_path.Goals as goal

pub returns : goal.returns
unfolding entry_dropped
returns c =
    let s = c.args in
    let entry = dropped_rate_ok s.settings s.known.rate s.clock c.requires.0 c.requires.1.entry in
    (rw c.rule-rated.ensures, record { entry = rw c.rule-rated.ensures entry; blobs = c.requires.1.blobs })
