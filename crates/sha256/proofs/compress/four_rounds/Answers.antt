use Rattle.sha256.proofs.RoundLaws.{four_rounds}
use Rattle.sha256.proofs.compress.four_rounds.Goals as goal

pub returns : goal.returns
returns c =
    let a = c.args in
    four_rounds a.s c.round-s1.result c.round-s2.result c.round-s3.result c.round.result a.k.now a.w.now a.t
    c.round-s1.ensures c.round-s2.ensures c.round-s3.ensures c.round.ensures
