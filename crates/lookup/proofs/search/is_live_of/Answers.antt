use Rattle.std.proofs.lemmas.Grind.{common_steps}
use native.Mathlib.Omega.{arith}
use borrow.Author.Tests.{tests}
use mathlib.Core.Path.{sym, ◌∙◌}
use Rattle.octets.specs.Index.{◌and◌}
use Rattle.lookup.specs.Search.{is_live_of}
use Rattle.lookup.proofs.Searches.{other_word}
use Rattle.lookup.proofs.search.is_live_of.Goals as goal
use Rattle.lookup.proofs.search.is_live_of.Goals.{then-word_at-last, else-word_at-last}

pub returns-then-has_key : goal.returns-then-has_key
unfolding is_live_of ◌and◌
returns-then-has_key c = grind (arith, common_steps, tests)

pub returns-else-has_key : goal.returns-else-has_key
unfolding is_live_of ◌and◌
returns-else-has_key c =
    let a = c.args in
    elim c.if-word_at-last.branch [
      | then-word_at-last w ↦ grind (arith, common_steps, tests)
      | else-word_at-last w ↦
          c.if-has_key.false ∙ other_word a.key.now a.b.now a.expiry a.clock c.requires.2 (λ q. w.if-word_at-last.false (c.word_at.ensures ∙ q ∙ sym c.requires.3))
    ]
