use Rattle.sha256.proofs.RoundLaws.{rounds_then}
use Rattle.sha256.proofs.compress.eight_rounds.Goals as goal

pub returns : goal.returns
returns c =
    let a = c.args in
    let r = c.four_rounds-r in
    rounds_then a.s r.result c.four_rounds.result a.k.now a.w.now a.t 4 4 r.ensures c.four_rounds.ensures
