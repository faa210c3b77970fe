-- Saved tables as the rules see them (rules/specs/Saved.antt): how long a file is, and what a file says to a load into tables of the right size. And a
-- save's reply by the rules as what the call returns and leaves.
use Rattle.std.specs.Prelude.{ℕ, List, []}
use Rattle.octets.specs.Part.{patch}
use Rattle.rules.specs.Saved.{Said, Format}
use Rattle.rules.specs.Run.{Call, saves, loads, Reply, answered, numbered, told, saved, unsaved}
use Rattle.tables.specs.Places.{table_size}
use Rattle.saved.specs.File.{file_of, saved_size}
use Rattle.saved.specs.Save.{SavedOn}
use Rattle.saved.specs.Load.{load_refusal, held_in}

unfoldable pub said_by : List ℕ → Said
said_by f = record { refusal = load_refusal f table_size; relay = (held_in f).0; tally = (held_in f).1 }

abbrev pub saved_format : Format
saved_format = record { size = saved_size; says = said_by }

-- saving and loading such files
abbrev pub saving : (room : List ℕ) → Call
saving = saves saved_format

abbrev pub loading : (file : List ℕ) → Call
loading = loads saved_format

-- the refusal and the length, and the room: the file at its start, all else as it was. Of replies to other calls what is given is never read
unfoldable pub in_room : Reply → SavedOn
in_room (saved relay tally room) = record { answer = record { refusal = 0; length = saved_size }; room = patch room 0 (file_of (relay, tally)) }
in_room (unsaved refusal room) = record { answer = record { refusal = refusal; length = 0 }; room = room }
in_room (answered answer output) = record { answer = record { refusal = 0; length = 0 }; room = [] }
in_room (numbered refusal) = record { answer = record { refusal = 0; length = 0 }; room = [] }
in_room (told x) = record { answer = record { refusal = 0; length = 0 }; room = [] }
