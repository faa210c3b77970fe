use Rattle.octets.proofs.Bytes.{known_bytes}
use Rattle.recording.proofs.ShapeLaws.{part_lt}
use native.Mathlib.Omega.{arith}
use Rattle.editions.specs.Editions.{counter_width}
use Rattle.saved.proofs.loading.counter_at.Goals as goal

pub overflow_cast-result : goal.overflow_cast-result
overflow_cast-result c =
    let f = c.args.file.now in
    record {
      fits = omega
          (arith, c.number_at.ensures, part_lt f c.args.at counter_width (known_bytes f c.type_inv.file) c.requires);
    }
