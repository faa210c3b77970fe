-- For the contracts of private helpers: no reader has to believe these.
use Rattle.std.specs.Prelude.{ℕ, ◌+◌, List}
use Rattle.octets.specs.Part.{part}
use Rattle.octets.specs.BigEndian.{number}
use Rattle.rules.specs.Relay.{make_rate_settings}
use Rattle.rules.specs.declared.RateSettings.{RateSettings}
use Rattle.tables.specs.Places.{setting_width, size_width}

-- where the size is in the bytes that are told of a port: after on or off and the mode
abbrev pub size_at : ℕ
size_at = 2

-- the size there
unfoldable pub size_told : List ℕ → ℕ
size_told told = number (part told size_at size_width)

-- where grace and penalty are in the bytes that are told of the announce rate: behind the target
abbrev pub grace_at : ℕ
grace_at = setting_width

abbrev pub penalty_at : ℕ
penalty_at = grace_at + setting_width

-- the settings of the announce rate in the bytes that are told
unfoldable pub rate_told : List ℕ → RateSettings
rate_told told =
    make_rate_settings
    (number (part told 0 setting_width))
    (number (part told grace_at setting_width))
    (number (part told penalty_at setting_width))
