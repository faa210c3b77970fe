use mathlib.Core.Path.{sym, ◌∙◌}
use borrow.Author.Tests.{lt-ltb}
use Rattle.octets.proofs.Choice.{then_true}
use Rattle.recording.specs.Shape.{count_of, contents_start}
use Rattle.recording.proofs.ShapeLaws.{count_read}
use Rattle.recording.proofs.reader.count.Goals as goal

pub returns-then-file-lt-CONTENTS_START : goal.returns-then-file-lt-CONTENTS_START
unfolding count_of
returns-then-file-lt-CONTENTS_START c = sym (then_true 0 _ (lt-ltb _ contents_start c.if-file-lt-CONTENTS_START.true))

pub returns : goal.returns
returns c = c.number_at.ensures ∙ sym (count_read c.args.file.now c.if-file-lt-CONTENTS_START.false)
