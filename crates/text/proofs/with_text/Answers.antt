use mathlib.Core.Path.{◌≡◌, sym}
use lib.ListN.{length}
use Rattle.text.proofs.TextLaws.{appended_full, appended_least}
use native.Mathlib.Omega.{arith}
use borrow.Author.Rules.{rules}
use Rattle.text.specs.Text.{text_size}
use Rattle.text.proofs.with_text.Goals as goal

pub returns-then-text-ge-SIZE : goal.returns-then-text-ge-SIZE
returns-then-text-ge-SIZE c =
    let t = c.args.text in
    let wide : length t.bytes ≡ text_size = search rules in
    sym (appended_full t c.args.more.now (omega (arith, c.if-text-ge-SIZE.true)))

pub returns : goal.returns
returns c =
    let t = c.args.text in
    let wide : length t.bytes ≡ text_size = search rules in
    rw c.copy_at.ensures (appended_least t c.args.more.now c.min.result (rw wide c.min.ensures))
