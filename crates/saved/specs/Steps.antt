-- For the contracts of private helpers: no reader has to believe these.
use Rattle.std.specs.Prelude.{ℕ, ◌+◌, false, List, ◌∷◌, ◌++◌, ◌≡◌}
use Prim.Native.String.{String}
use Rattle.octets.specs.Index.{list_of}
use Rattle.octets.specs.Part.{joined}
use Rattle.octets.specs.BigEndian.{big_endian}
use Rattle.codes.specs.Form.{code, place_of}
use Rattle.recording.specs.Shape.{count_width, offset_width, length_width, sum_below}
use Rattle.rules.specs.declared.Tally.{Tally}
use Rattle.editions.specs.Editions.{tally_form, current_edition, current, width_at}
use Rattle.saved.specs.File.{saved_kind, body_count, bodies_at}
use Rattle.saved.specs.Load.{length_wrong, contents_wrong}

-- ---- what a save writes: kind, edition and count; the entry of body i; the first n entries; the tally
abbrev pub start_bytes : List ℕ
start_bytes = saved_kind ∷ current_edition ∷ big_endian count_width body_count

unfoldable pub entry_bytes : ℕ → ℕ → List ℕ
entry_bytes offset i = big_endian offset_width offset ++ big_endian length_width (width_at current i)

unfoldable pub contents_bytes : ℕ → List ℕ
contents_bytes n = joined (λ i. entry_bytes (bodies_at + sum_below (width_at current) i) i) (list_of (λ i. i) n)

-- where a counter stands in the tally's body
abbrev pub counter_at : String → ℕ
counter_at name = place_of tally_form name

unfoldable pub tally_bytes : Tally → List ℕ
tally_bytes tally = (code tally_form).write tally

-- ---- what a load tests and reads
-- refusals 20 and 22 are not given
abbrev pub ContentsRight : List ℕ → Type 0
ContentsRight f = (length_wrong f ≡ false) × (contents_wrong f ≡ false)

unfoldable pub tally_at : List ℕ → ℕ → Tally
tally_at f at = (code tally_form).read f at
