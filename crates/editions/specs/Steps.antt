-- For the contracts of helpers: no reader has to believe these.
use Rattle.std.specs.Prelude.{ℕ, ◌+◌, ◌-◌, ◌*◌, Bool, List, ◌++◌, leb, length, get_or, drop, replicate}
use Rattle.octets.specs.Index.{◌and◌, all_below, list_of}
use Rattle.octets.specs.Part.{part, joined}
use Rattle.codes.specs.Form.{code}
use Rattle.numbers.specs.Numbers.{port_count, local_count, path_count, blob_limit}
use Rattle.rules.specs.Relay.{fresh_port}
use Rattle.tables.specs.Forms.{BlobRoom, as_today, fewer, Edition, port_form_in, blobs_form_in}
use Rattle.tables.specs.Places.{local_width, rate_at, ports_at, back_width}
use Rattle.tables.specs.Fields.{path_rate_at, path_blobs_at, blobs_width}
use Rattle.tables.specs.Records.{port_bytes, path_bytes_ok}
use Rattle.editions.specs.Editions.{tally_form, held, bodies_at}
use Rattle.editions.specs.declared.rows.Widths.{Widths}

-- ---- an edition in numbers: how many bytes of the first body, of a port and of a path's record stand before the place where a later one has more
abbrev pub start_width : Edition → ℕ
start_width e = rate_at + (code e.rate_settings).width

abbrev pub port_width_in : Edition → ℕ
port_width_in e = (code (port_form_in e)).width

abbrev pub before_blobs : Edition → ℕ
before_blobs e = path_rate_at + (code e.rate_entry).width + (code e.notes).width

-- how many blobs a path can hold, and how wide they are with their count
abbrev pub most_blobs : BlobRoom → ℕ
most_blobs as_today = blob_limit
most_blobs (fewer most within) = most

abbrev pub blobs_width_in : Edition → ℕ
blobs_width_in e = (code (blobs_form_in e.blob_room)).width

-- these numbers, in the code's row of an edition
abbrev pub widths_in : Edition → Widths
widths_in e = record { start = start_width e; port = port_width_in e; before = before_blobs e; blobs = most_blobs e.blob_room }

-- how wide a path's record is; where ports, local addresses and paths stand in the file, what is behind them, and the tally
abbrev pub path_width_in : Edition → ℕ
path_width_in e = before_blobs e + blobs_width_in e

abbrev pub ports_place : Edition → ℕ
ports_place e = bodies_at + start_width e

abbrev pub locals_place : Edition → ℕ
locals_place e = ports_place e + port_width_in e * port_count

abbrev pub locals_width : ℕ
locals_width = local_width * local_count

abbrev pub paths_place : Edition → ℕ
paths_place e = locals_place e + locals_width

abbrev pub back_place : Edition → ℕ
back_place e = paths_place e + path_width_in e * path_count

abbrev pub tally_place : Edition → ℕ
tally_place e = back_place e + back_width

abbrev pub size_in : Edition → ℕ
size_in e = tally_place e + (code tally_form).width

-- ---- what a load tests and reads, as the tables have it: with zeros for what the edition lacks, and with a fresh port's bytes for what it lacks of a port
-- n zeros put in at place k
unfoldable pub opened : ℕ → ℕ → List ℕ → List ℕ
opened k n b = part b 0 k ++ (replicate n 0 ++ part b k (length b - k))

-- own address, last clock and settings
unfoldable pub start_now : Edition → List ℕ → List ℕ
start_now e f = opened (start_width e) (ports_at - start_width e) (part f bodies_at (start_width e))

-- the settings of port i; of the first n
unfoldable pub port_now : Edition → List ℕ → ℕ → List ℕ
port_now e f i = part f (ports_place e + port_width_in e * i) (port_width_in e) ++ drop (port_width_in e) (port_bytes fresh_port)

unfoldable pub ports_now : Edition → List ℕ → ℕ → List ℕ
ports_now e f n = joined (port_now e f) (list_of (λ i. i) n)

-- .. and local addresses: all before the paths
unfoldable pub front_now : Edition → List ℕ → List ℕ
front_now e f = start_now e f ++ (ports_now e f port_count ++ part f (locals_place e) locals_width)

-- the record of path i, with zeros before and behind its blobs; of the first n
unfoldable pub path_now : Edition → List ℕ → ℕ → List ℕ
path_now e f i =
    opened (before_blobs e) (path_blobs_at - before_blobs e) (part f (paths_place e + path_width_in e * i) (path_width_in e))
    ++ replicate (blobs_width - blobs_width_in e) 0

unfoldable pub paths_now : Edition → List ℕ → ℕ → List ℕ
paths_now e f n = joined (path_now e f) (list_of (λ i. i) n)

-- refusal 7 of a record, with the edition's limit
unfoldable pub path_fine : Edition → List ℕ → Bool
path_fine e b = path_bytes_ok b and leb (get_or b path_blobs_at 0) (most_blobs e.blob_room)

unfoldable pub paths_fine : Edition → List ℕ → ℕ → Bool
paths_fine e f n = all_below (λ i. path_fine e (path_now e f i)) n

unfoldable pub tables_now : Edition → List ℕ → List ℕ
tables_now e f = front_now e f ++ (paths_now e f path_count ++ part f (back_place e) back_width)

unfoldable pub bodies_fine : Edition → List ℕ → Bool
bodies_fine e f = (code (held e)).fine f bodies_at
