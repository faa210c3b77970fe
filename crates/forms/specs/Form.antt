-- Document 01's test 3, as the code answers it.
-- For the contracts of helpers: not part of what a reader must believe.
use Rattle.std.specs.Prelude.{ℕ, List, Option, Some, None}
use Rattle.octets.specs.Listed.{first_of, valued}
use Rattle.rules.specs.Tests.{form_tests}
use Rattle.rules.specs.declared.Clause.{Clause}

-- of a packet's bytes: the first clause that fails
unfoldable pub form_of : List ℕ → Option Clause
form_of p = first_of (valued Some (form_tests p)) None
