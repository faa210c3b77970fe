-- What a host asks of the library and of tables before any other call.
use Rattle.std.specs.Prelude.{ℕ, List}
use Rattle.octets.specs.Choice.{◌then◌otherwise◌}
use Rattle.tables.specs.Layout.{well_formed}

-- HASKUMYE_VERSION of the header that these functions are declared in
abbrev pub interface_version : ℕ
interface_version = 6

-- 7 where no relay has these bytes as its tables, else 0
unfoldable pub tables_refusal : List ℕ → ℕ
tables_refusal t = well_formed t then 0 otherwise 7
