-- What a question to the tables is told: the rules' answer through the layout. Tables that are not well formed are refused. And how what is told
-- reaches the caller: the number returned, and the buffer that it lends.
use Rattle.std.specs.Prelude.{ℕ, ◌+◌, List, ◌≡◌}
use Rattle.octets.specs.Choice.{◌then◌otherwise◌}
use Rattle.octets.specs.Part.{part}
use Rattle.codes.specs.Form.{code, place_of}
use Rattle.rules.specs.Questions.{Question, Told, refused, none, a_port, a_rate, an_address, a_path, a_link, a_number, yes_or_no, tell}
use Rattle.tables.specs.Forms.{rate_settings_form, port_form, blobs_form, path_form, link_form}
use Rattle.tables.specs.Layout.{relay_of, well_formed}

-- a question to the tables t, which stay
unfoldable pub tell_on : List ℕ → Question → Told
tell_on t q = well_formed t then tell q (relay_of t) otherwise refused 7

-- a refusal's number; 0: told; 255: none. Of the signature word, 0: it isn't read; 255: it is
unfoldable pub told_number : Told → ℕ
told_number (refused number) = number
told_number none = 255
told_number (a_port port) = 0
told_number (a_rate rate) = 0
told_number (an_address address) = 0
told_number (a_path p) = 0
told_number (a_link l) = 0
told_number (a_number n) = 0
told_number (yes_or_no answer) = answer then 255 otherwise 0

-- of a path's record what stands before its blobs' places: they are counted, and not told
abbrev pub told_path_width : ℕ
told_path_width = place_of path_form "blobs" + place_of blobs_form "places"

-- the caller's buffer after the call: a record's fields in order, as the layout has them, where one is told; else what stood there
unfoldable pub told_bytes : Told → List ℕ → List ℕ
told_bytes (refused number) old = old
told_bytes none old = old
told_bytes (a_port port) old = (code port_form).write port
told_bytes (a_rate rate) old = (code rate_settings_form).write rate
told_bytes (an_address address) old = address
told_bytes (a_path p) old = part ((code path_form).write p) 0 told_path_width
told_bytes (a_link l) old = (code link_form).write l
told_bytes (a_number n) old = old
told_bytes (yes_or_no answer) old = old

-- the caller's number after the call
unfoldable pub told_count : Told → ℕ → ℕ
told_count (refused number) old = old
told_count none old = old
told_count (a_port port) old = old
told_count (a_rate rate) old = old
told_count (an_address address) old = old
told_count (a_path p) old = old
told_count (a_link l) old = old
told_count (a_number n) old = n
told_count (yes_or_no answer) old = old

-- a function that returns `number`, and leaves `new` where `old` stood, tells this
abbrev pub Tells : Told → List ℕ → ℕ → List ℕ → Type 0
Tells x old number new = (number ≡ told_number x) × (new ≡ told_bytes x old)

abbrev pub TellsNumber : Told → ℕ → ℕ → ℕ → Type 0
TellsNumber x old number new = (number ≡ told_number x) × (new ≡ told_count x old)
