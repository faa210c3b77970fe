use mathlib.Core.Path.{sym, ap, ◌∙◌}
use Prim.Native.Nat.{ℕ, ◌+◌, ◌*◌}
use native.Mathlib.Nat.{add-zero}
use Rattle.octets.specs.Part.{part}
use Rattle.octets.specs.BigEndian.{number}
use Rattle.recording.specs.Shape.{length_of, contents_start, offset_width, length_width, item_width}
use Rattle.saved.specs.File.{head_width}
use Rattle.saved.proofs.contents.length_of.Goals as goal

pub returns : goal.returns
unfolding length_of
returns c =
    c.number_at.ensures
    ∙ ap (λ (k : ℕ). number (part c.args.file.now (k + offset_width) length_width))
    (sym (add-zero (contents_start + item_width head_width * c.args.i)))
