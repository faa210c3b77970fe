use mathlib.Core.Path.{sym, ap, ◌∙◌}
use Prim.Native.Nat.{ℕ}
use native.Mathlib.Nat.{add_assoc}
use Rattle.octets.specs.Part.{part}
use Rattle.octets.specs.BigEndian.{number}
use Rattle.recording.specs.Shape.{entry_place, length_of, offset_width, length_width}
use Rattle.recording.specs.Format.{head_width}
use Rattle.recording.proofs.reader.length_of.Goals as goal

pub returns : goal.returns
unfolding length_of
returns c =
    c.number_at.ensures ∙ ap (λ (k : ℕ). number (part c.args.file.now k length_width))
    (sym (add_assoc (entry_place head_width c.args.i) head_width offset_width))
