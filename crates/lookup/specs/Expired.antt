-- A time that may be none as code has it, and the expiry of the path in a record's bytes.
-- For the contracts of helpers: not part of what a reader must believe.
use Rattle.std.specs.Prelude.{ℕ, Option, Some, None, List}
use Rattle.rules.specs.Relay.{Slot, empty, used}
use Rattle.rules.specs.View.{is_expired_path, expiry_if}
use Rattle.tables.specs.Records.{slot_of, path_of}

unfoldable pub latest_of : Slot ℕ → Option ℕ
latest_of empty = None
latest_of (used t) = Some t

-- the expiry of the path in b, if it is used, of the destination and not live
unfoldable pub expiry_of : ℕ → List ℕ → List ℕ → Slot ℕ
expiry_of clock destination b = expiry_if (is_expired_path clock destination) (slot_of path_of b)
