-- What a call on the tables returns, and the tables after it: the rules' call through the layout. Tables that are not well formed are
-- refused and stay.
use Rattle.std.specs.Prelude.{ℕ, List, ◌≡◌}
use Rattle.octets.specs.Choice.{◌then◌otherwise◌}
use Rattle.rules.specs.Relay.{Relay}
use Rattle.rules.specs.Calls.{Setting, TableCall, settle}
use Rattle.tables.specs.Layout.{relay_of, bytes_of, well_formed}

-- a refusal's number, or 0, and the tables
pub record Called : Type 0 where
  pub refusal : ℕ
  pub tables : List ℕ

abbrev pub refused : ℕ → List ℕ → Called
refused number t = record { refusal = number; tables = t }

unfoldable pub written : Setting → Called
written s = record { refusal = s.refusal; tables = bytes_of s.relay }

unfoldable pub called : List ℕ → (Relay → Setting) → Called
called t call = well_formed t then written (call (relay_of t)) otherwise refused 7 t

-- a call on the tables t
abbrev pub call_on : List ℕ → TableCall → Called
call_on t c = called t (settle c)

-- a function that returns `number` and leaves the tables `after` does as the call says
abbrev pub Returns : Called → ℕ → List ℕ → Type 0
Returns call number after = (number ≡ call.refusal) × (after ≡ call.tables)
