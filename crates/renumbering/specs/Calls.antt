-- Renumbering, on the tables' bytes.
use Rattle.std.specs.Prelude.{ℕ, List}
use Rattle.rules.specs.Calls.{renumbers}
use Rattle.tables.specs.Called.{Called, call_on}

-- 7, 8
abbrev pub renumber_on : List ℕ → List ℕ → Called
renumber_on t images = call_on t (renumbers images)
