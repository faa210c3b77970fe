use Prim.Native.Nat.{ℕ}
use mathlib.Core.List.{List}
use mathlib.Core.Path.{ap, ◌∙◌}
use Rattle.octets.specs.Part.{patch}
use Rattle.codes.proofs.Single.{byte_mark}
use Rattle.notes.proofs.NoteLaws.{bytes_are}
use Rattle.notes.proofs.write.Goals as goal

pub returns : goal.returns
returns c =
    let a = c.args in
    c.copy_at.ensures ∙ ap (λ (x : List ℕ). patch a.b.now a.at x) (bytes_are a.notes (c.from.ensures ∙ byte_mark a.notes.marked))
