use Rattle.octets.specs.Part.{patch}
use Rattle.octets.specs.BigEndian.{big_endian}
use Rattle.opinion.proofs.writing.rate_body.Goals as goal

pub returns : goal.returns
unfolding patch big_endian
returns c = rw (c.write_number_at-3.ensures, c.write_number_at-2.ensures, c.write_number_at.ensures)
