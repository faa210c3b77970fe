-- Document 02, Wish 4: loading, of any bytes of any length.
use Rattle.std.specs.Prelude.{ℕ, Bool, not, List, [], ◌≡◌, eqb, length, replicate}
use Rattle.octets.specs.Index.{◌and◌, all_below}
use Rattle.octets.specs.Choice.{◌then◌otherwise◌}
use Rattle.octets.specs.Listed.{Test, ◌gives◌otherwise◌, first_of}
use Rattle.codes.specs.Form.{Form, code}
use Rattle.recording.specs.Shape.{kind_of, edition_of, count_of, length_of, offsets_right, end_right}
use Rattle.rules.specs.declared.Tally.{Tally}
use Rattle.tables.specs.Places.{address_width, table_size}
use Rattle.tables.specs.Layout.{bytes_of}
use Rattle.editions.specs.Editions.{Held, current_edition, is_known_by, edition_at, width_at}
use Rattle.saved.specs.File.{saved_kind, body_count, head_width, bodies_at}

-- ---- "20 is any length but what the contents, by the file's own count, add up to": 4 + 6 n + the sum of the n lengths. Under 4 bytes there is no
-- count, and no entries add up to 4 bytes; a file that is shorter than its contents is shorter than they add up to
unfoldable pub length_wrong : List ℕ → Bool
length_wrong f = not (end_right head_width f)

-- 21 kind or edition: edition 0 and newer ones too. Wish 8: "a program of the earlier edition refuses it with 21", so this is said of any program, by its
-- own edition
unfoldable pub kind_wrong_by : ℕ → List ℕ → Bool
kind_wrong_by own f = not (eqb (kind_of f) saved_kind and is_known_by own (edition_of f))

unfoldable pub kind_wrong : List ℕ → Bool
kind_wrong f = kind_wrong_by current_edition f

-- 22 "eight entries (another count is 22)", or an offset that breaks the rule
unfoldable pub contents_wrong : List ℕ → Bool
contents_wrong f = not (eqb (count_of f) body_count and offsets_right head_width f)

-- 24 "body breaks refusal 7's rules, size too"
unfoldable pub sizes_right : Form Held → List ℕ → Bool
sizes_right e f = all_below (λ i. eqb (length_of head_width f i) (width_at e i)) body_count

unfoldable pub bodies_wrong : List ℕ → Bool
bodies_wrong f =
    not (sizes_right (edition_at (edition_of f)) f and (code (edition_at (edition_of f))).fine f bodies_at)

-- 25 "for a load not the tables' size, what it held unread"
unfoldable pub load_rows : List ℕ → ℕ → List (Test ℕ)
load_rows f size =
    length_wrong f gives 20 otherwise
    kind_wrong f gives 21 otherwise
    contents_wrong f gives 22 otherwise
    bodies_wrong f gives 24 otherwise
    not (eqb size table_size) gives 25 otherwise
    []

unfoldable pub load_refusal : List ℕ → ℕ → ℕ
load_refusal f size = first_of (load_rows f size) 0

-- ---- what a file that is not refused holds
unfoldable pub held_in : List ℕ → Held
held_in f = (code (edition_at (edition_of f))).read f bodies_at

-- the refusal or 0, and tables and tally after it: a refusal leaves both as they were, and a load sets all eight
pub record LoadedOn : Type 0 where
  pub refusal : ℕ
  pub tables : List ℕ
  pub tally : Tally

unfoldable pub load_on : List ℕ → List ℕ → Tally → LoadedOn
load_on f tables tally =
    eqb (load_refusal f (length tables)) 0
    then record { refusal = 0; tables = bytes_of (held_in f).0; tally = (held_in f).1 }
    otherwise record { refusal = load_refusal f (length tables); tables = tables; tally = tally }

-- what a load returned and left is this
abbrev pub Loads : LoadedOn → ℕ → List ℕ → Tally → Type 0
Loads x refusal tables tally = (refusal ≡ x.refusal) × (tables ≡ x.tables) × (tally ≡ x.tally)

-- ---- the own address in a file; zeros where a load would refuse it
unfoldable pub own_in : List ℕ → List ℕ
own_in f = eqb (load_refusal f table_size) 0 then (held_in f).0.own otherwise replicate address_width 0
