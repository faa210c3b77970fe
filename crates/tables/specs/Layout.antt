-- The whole tables: what relay they hold, its bytes, and refusal 7.
use Rattle.std.specs.Prelude.{ℕ, ◌+◌, ◌*◌, Bool, List, eqb, length}
use Rattle.octets.specs.Index.{◌and◌, all_below, list_of}
use Rattle.octets.specs.Part.{part}
use Rattle.octets.specs.BigEndian.{number}
use Rattle.codes.specs.Form.{code}
use Rattle.rules.specs.Relay.{Relay}
use Rattle.rules.specs.Refusals.{time_ok, rate_settings_ok}
use Rattle.rules.specs.declared.RateSettings.{RateSettings}
use Rattle.numbers.specs.Numbers.{port_count, local_count}
use Rattle.tables.specs.Forms.{rate_settings_form, back_form, relay_form}
use Rattle.tables.specs.Places.{time_width, port_width, local_width, clock_at, rate_at, ports_at, locals_at, table_size}
use Rattle.tables.specs.Records.{port_bytes_ok, local_bytes_ok}

unfoldable pub relay_of : List ℕ → Relay
relay_of t = (code relay_form).read t 0

unfoldable pub bytes_of : Relay → List ℕ
bytes_of = (code relay_form).write

-- refusal 7 is given exactly when this is false
unfoldable pub well_formed : List ℕ → Bool
well_formed t = eqb (length t) table_size and (code relay_form).fine t 0

-- ---- the last clock and the announce rate's settings, for the contract of a helper
unfoldable pub rate_settings_in : List ℕ → RateSettings
rate_settings_in t = (code rate_settings_form).read t rate_at

unfoldable pub start_ok : List ℕ → Bool
start_ok t = time_ok (number (part t clock_at time_width)) and rate_settings_ok (rate_settings_in t)

-- ---- the records of one section, for the contracts of helpers
-- record i of the section that starts at `at`, whose records are `width` wide
abbrev pub record_at : ℕ → ℕ → List ℕ → ℕ → List ℕ
record_at at width t i = part t (at + width * i) width

-- a section's n records
abbrev pub records : {A : Type 0} → (List ℕ → A) → ℕ → ℕ → ℕ → List ℕ → List A
records record_of at width n t = list_of (λ i. record_of (record_at at width t i)) n

-- each of a section's n records keeps row 7
unfoldable pub records_ok : (List ℕ → Bool) → ℕ → ℕ → ℕ → List ℕ → Bool
records_ok ok at width n t = all_below (λ i. ok (record_at at width t i)) n

-- the sections before the paths; and those behind them, which stand from `at` on
unfoldable pub front_ok : List ℕ → Bool
front_ok t =
    start_ok t
    and records_ok port_bytes_ok ports_at port_width port_count t
    and records_ok local_bytes_ok locals_at local_width local_count t

unfoldable pub back_ok : List ℕ → ℕ → Bool
back_ok t at = (code back_form).fine t at
