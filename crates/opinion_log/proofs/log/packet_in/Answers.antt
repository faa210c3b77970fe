use Rattle.std.proofs.Common.{ap, ◌∙◌, arith, ℕ, min, ◌≡◌}
use Rattle.octets.proofs.Part.{part_range, range_length}
use Rattle.numbers.specs.Numbers.{longest_packet}
use Rattle.opinion_log.specs.Log.{body_at, length_in}
use Rattle.opinion_log.proofs.Reading.{part_least}
use Rattle.opinion_log.proofs.log.packet_in.Goals as goal

pub returns : goal.returns
returns c =
    let e = c.args.e.now in
    let least : c.min.result ≡ min (length_in e) longest_packet = c.min.ensures ∙ ap (λ (n : ℕ). min n longest_packet) c.length_in.ensures in (
      part_range e body_at c.min.result ∙ part_least e (length_in e) c.min.result c.requires least,
      omega (arith, range_length e body_at c.min.result (omega (arith, c.min.ensures)), c.min.ensures),
    )
