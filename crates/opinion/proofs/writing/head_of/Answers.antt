use Rattle.octets.specs.BigEndian.{big_endian}
use Rattle.octets.specs.Part.{patch}
use Rattle.codes.specs.Codes.{mark_of}
use Rattle.opinion.proofs.writing.head_of.Goals as goal

pub returns : goal.returns
unfolding patch big_endian mark_of
returns c = rw (c.write_number_at-2.ensures, c.write_number_at.ensures, c.mark_of-mark.ensures)
