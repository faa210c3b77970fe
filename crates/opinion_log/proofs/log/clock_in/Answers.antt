use Rattle.opinion_log.proofs.Reading.{clock_small}
use Rattle.octets.proofs.Bytes.{known_bytes}
use native.Mathlib.Omega.{arith}
use Rattle.opinion_log.proofs.log.clock_in.Goals as goal

pub returns : goal.returns
returns c =
    let e = c.args.e.now in
    let small = clock_small e (known_bytes e c.type_inv.e) c.requires in
    (c.number_at.ensures, omega (arith, small, c.number_at.ensures))
