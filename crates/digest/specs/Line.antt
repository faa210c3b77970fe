-- The line of a digest, or of a message that is refused.
use Rattle.std.specs.Prelude.{ℕ, List, [], ◌∷◌, eqb}
use Rattle.octets.specs.Choice.{◌then◌otherwise◌}
use Rattle.sha256.specs.Sha256.{Digest}
use Rattle.text.specs.Numerals.{hexadecimal}
use Rattle.text.specs.Words.{words_line, refused_words}

unfoldable pub digest_line : Digest → List ℕ
digest_line d = eqb d.refusal 0 then words_line (hexadecimal d.bytes ∷ []) otherwise words_line (refused_words d.refusal)
