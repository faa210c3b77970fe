use mathlib.Core.Path.{◌≡◌, ap, ◌∙◌}
use mathlib.Core.List.{List, [], ◌∷◌}
use Prim.Native.Nat.{ℕ}
use borrow.Author.Rules.{rules}
use borrow.Author.Tests.{ne_eqb}
use Rattle.octets.specs.Choice.{◌then◌otherwise◌}
use Rattle.text.specs.Text.{appended}
use Rattle.text.specs.Words.{spaced}
use Rattle.line.specs.Line.{kind_word}
use Rattle.line.proofs.names.with_kind.Goals.{in-0, in-1, in-2, in_default}
use Rattle.line.proofs.names.with_kind.Goals as goal

pub returns : goal.returns
unfolding kind_word ◌then◌otherwise◌
returns c =
    let a = c.args in
    let word : c.match-kind.word.now ≡ kind_word a.kind a.zero.now a.one.now a.two.now a.three.now =
    elim c.match-kind.branch [
      | in-0 w ↦ rw (w.word-is, w.in-0.is)
      | in-1 w ↦ rw (w.word-is, w.in-1.is)
      | in-2 w ↦ rw (w.word-is, w.in-2.is)
      | in_default w ↦
          let none = w.in_default in
          rw (w.word-is, ne_eqb a.kind 0 (search rules), ne_eqb a.kind 1 (search rules), ne_eqb a.kind 2 (search rules))
    ] in
    c.with_word.ensures ∙ ap (λ (l : List ℕ). appended a.line (spaced (l ∷ []))) word
