-- The calls that need no packet, on the tables' bytes. Renumbering has its own crate.
use Rattle.std.specs.Prelude.{ℕ, Bool, List, eqb, length, replicate}
use Rattle.octets.specs.Choice.{◌then◌otherwise◌}
use Rattle.octets.specs.Part.{joined}
use Rattle.numbers.specs.Numbers.{port_count}
use Rattle.rules.specs.Relay.{fresh_port, fresh}
use Rattle.rules.specs.Calls.{sets_port, sets_rate, adds, removes, notes_path, marks}
use Rattle.notes.specs.declared.Note.{Note}
use Rattle.tables.specs.Places.{table_size}
use Rattle.tables.specs.Records.{port_bytes}
use Rattle.tables.specs.Layout.{bytes_of}
use Rattle.tables.specs.Called.{Called, refused, call_on}

-- setting a port: 7, 9
abbrev pub set_port_on : List ℕ → ℕ → Bool → ℕ → ℕ → Called
set_port_on t port on mode size = call_on t (sets_port port on mode size)

-- setting the announce rate: 7, 9
abbrev pub set_rate_on : List ℕ → ℕ → ℕ → ℕ → Called
set_rate_on t target grace penalty = call_on t (sets_rate target grace penalty)

-- adding a local address: 7, 11, 10
abbrev pub add_local_on : List ℕ → List ℕ → Called
add_local_on t address = call_on t (adds address)

-- removing one: 7, 11
abbrev pub remove_local_on : List ℕ → List ℕ → Called
remove_local_on t address = call_on t (removes address)

-- noting something of a destination's live path: 7, 5, 12
abbrev pub note_on : List ℕ → Note → List ℕ → ℕ → Called
note_on t note destination clock = call_on t (notes_path note destination clock)

-- marking it unresponsive
abbrev pub mark_on : List ℕ → List ℕ → ℕ → Called
mark_on t destination clock = call_on t (marks destination clock)

-- a fresh relay's tables: 7 where the buffer has the wrong size. What it held is not read
unfoldable pub fresh_on : List ℕ → List ℕ → Called
fresh_on t own = eqb (length t) table_size then record { refusal = 0; tables = bytes_of (fresh own) } otherwise refused 7 t

-- the bytes of all ports as a fresh relay has them, for the contract of a helper
unfoldable pub fresh_ports : List ℕ
fresh_ports = joined port_bytes (replicate port_count fresh_port)
