-- What a call is given: bytes.
use Rattle.std.specs.Prelude.{true, List, ◌≡◌, length}
use Rattle.rules.specs.Refusals.{all}
use Rattle.rules.specs.Calls.{rule_of}
use Rattle.octets.specs.Bytes.{Bytes}
use Rattle.rules.specs.Run.{Call, packet, on_tables, asks, saves, loads, EachCall}
use Rattle.tables.specs.Places.{address_width}
use Rattle.tables.specs.Shape.{is_bytes}
use Rattle.saved.specs.Format.{saved_format}

-- a packet or a file of bytes, however many, an address of sixteen: what the functions' types say of their arguments. Every other argument may be any
-- number. Of what a question is given nothing is stored, so it may be anything. Saving and loading are by the one format that there is
unfoldable pub CallBytes : Call → Type 0
CallBytes (packet arrival output) = is_bytes (length arrival.bytes) arrival.bytes ≡ true
CallBytes (on_tables c) = all (is_bytes address_width) (rule_of c).addresses ≡ true
CallBytes (asks q) = Unit {0}
CallBytes (saves format room) = format ≡ saved_format
CallBytes (loads format file) = (format ≡ saved_format) × Bytes file

-- each call of a list is given bytes
abbrev pub CallsBytes : List Call → Type 0
CallsBytes = EachCall CallBytes
