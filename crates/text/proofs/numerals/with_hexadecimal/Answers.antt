use mathlib.Core.Path.{ap, ◌∙◌}
use lib.Seq.{take_all}
use Rattle.text.specs.Text.{appended}
use Rattle.text.proofs.TextLaws.{appended_none, appended_append}
use Rattle.text.proofs.NumeralLaws.{hexadecimal_none, hexadecimal_more}
use Rattle.text.proofs.numerals.with_hexadecimal.Goals as goal

pub loop-byte-init : goal.loop-byte-init
loop-byte-init c = rw (hexadecimal_none c.args.bytes.now, appended_none)

pub loop-byte-preserved : goal.loop-byte-preserved
loop-byte-preserved c =
    let l = c.loop-byte in
    let a = c.args in
    c.with_byte-grown.ensures
    ∙ rw (l.invariant, appended_append)
    (ap (appended a.text) (hexadecimal_more a.bytes.now l.byte-index c.loop-byte-test.true))

pub returns : goal.returns
returns c = c.loop-byte.invariant ∙ rw (take_all _ _ c.loop-byte-test.false)
