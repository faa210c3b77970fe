-- What the program prints of a saved relay and a recording: a refused recording's line, else the line for a file that is no saved relay, else the replay's
-- text over the relay's tables and tally.
use Rattle.std.specs.Prelude.{ℕ, List, eqb}
use Rattle.octets.specs.Choice.{◌then◌otherwise◌}
use Rattle.tables.specs.Places.{table_size}
use Rattle.tables.specs.Layout.{bytes_of}
use Rattle.text.specs.Words.{words_line, refused_words}
use Rattle.recording.specs.Reader.{file_refusal}
use Rattle.saved.specs.Load.{load_refusal, held_in}
use Rattle.replaying.specs.Promise.{replay_on}
use Rattle.replay.specs.Line.{tables_refused}

unfoldable pub loaded : List ℕ → List ℕ → List ℕ
loaded stored file =
    eqb (load_refusal stored table_size) 0
    then (replay_on file (bytes_of (held_in stored).0) (held_in stored).1).text
    otherwise tables_refused (load_refusal stored table_size)

unfoldable pub replayed : List ℕ → List ℕ → List ℕ
replayed stored file =
    eqb (file_refusal file) 0 then loaded stored file otherwise words_line (refused_words (file_refusal file))
