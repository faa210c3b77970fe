-- Document 02, Wish 4: "Save and load in the recordings' shape with kind byte 2: eight entries (..), own address and last clock, ports, local addresses,
-- paths, links, returns, hashes, tally, in that order, each with offset (4) and length (2), then the bodies."
use Rattle.std.specs.Prelude.{◌≡◌, refl, ℕ, ◌+◌, List, []}
use Rattle.octets.specs.Index.{list_of}
use Rattle.octets.specs.Part.{part}
use Rattle.recording.specs.Shape.{sum_below, shape_of}
use Rattle.codes.specs.Form.{Form, code}
use Rattle.tables.specs.Places.{table_size}
use Rattle.editions.specs.Editions.{Held, tally_form, edition_at, current_edition, current, width_at}
pub use Rattle.editions.specs.Editions.{body_count, head_width, bodies_at}

abbrev pub saved_kind : ℕ
saved_kind = 2

abbrev pub no_head : List ℕ → List ℕ
no_head body = []

abbrev pub whole_body : List ℕ → List ℕ
whole_body body = body

-- body i of what is saved
unfoldable pub body_of : Form Held → Held → ℕ → List ℕ
body_of e held i = part ((code e).write held) (sum_below (width_at e) i) (width_at e i)

-- the file of a relay and a tally in edition n; a save writes the current one
unfoldable pub file_in : ℕ → Held → List ℕ
file_in n held = shape_of saved_kind n head_width no_head whole_body (list_of (body_of (edition_at n) held) body_count)

unfoldable pub file_of : Held → List ℕ
file_of held = file_in current_edition held

-- how long every such file is
abbrev pub saved_size : ℕ
saved_size = bodies_at + (code current).width

-- contents, tables and tally
saved_size_lem : saved_size ≡ bodies_at + table_size + (code tally_form).width
saved_size_lem = refl

-- the eight bodies are all that is saved
pub widths_fill : sum_below (width_at current) body_count ≡ (code current).width
unfolding sum_below width_at
widths_fill = refl
