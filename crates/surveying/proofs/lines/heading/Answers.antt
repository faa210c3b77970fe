use Rattle.surveying.proofs.LineLaws.{heading_made}
use Rattle.surveying.proofs.lines.heading.Goals as goal

pub returns : goal.returns
returns c = rw (c.with_character.ensures, c.with_text.ensures, c.empty.ensures) heading_made
