use Rattle.opinion.specs.Steps.{with_entry}
use Rattle.opinion_log.specs.Log.{body_at, count_at, entries_at, entry_width}
use Rattle.octets.proofs.Part.{patch_join}
use Rattle.octets.specs.Part.{patch}
use lib.ListN.{length}
use mathlib.Core.List.{List, [], ◌∷◌}
use Prim.Native.Nat.{ℕ, ◌+◌, ◌*◌}
use mathlib.Core.Path.{◌≡◌, ap, ◌∙◌}
use native.Mathlib.Omega.{arith}
use borrow.Author.Rules.{rules}
use Rattle.opinion.proofs.writing.put_entry.Goals as goal

pub returns : goal.returns
unfolding with_entry
returns c =
    let log = c.args.log.now in
    let n : ℕ = c.args.n in
    let head = c.args.head in
    let body = c.args.body.now in
    let wide : length head ≡ body_at = search rules in
    c.set_at.ensures
    ∙ ap (λ (t : List ℕ). patch t count_at ((n + 1) ∷ []))
    (c.copy_at-2.ensures
    ∙ ap (λ (t : List ℕ). patch t (entries_at + entry_width * n + body_at) body) c.copy_at.ensures
    ∙ patch_join log (entries_at + entry_width * n) (entries_at + entry_width * n + body_at) head body (omega arith) (omega arith))
