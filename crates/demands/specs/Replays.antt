-- Document 02, Wish 1: "In demands 2 and 3 a replay counts as the calls it makes, one by one."
use Rattle.std.specs.Prelude.{ℕ, List, map, ◌≡◌, eqb, replicate}
use Rattle.packet.specs.Write.{least_output}
use Rattle.rules.specs.Renumbering.{image}
use Rattle.rules.specs.Run.{Call, packet, Reply, answered, numbered, told, saved, unsaved}
use Rattle.rules.specs.declared.Answer.{Answer}
use Rattle.rules.specs.declared.Answer.TheVariants.{Refused}
use Rattle.rules.specs.declared.Tally.{Tally}
use Rattle.recording.specs.Format.{Entry, file_of}
use Rattle.recording.specs.Reader.{entries_of}
use Rattle.replaying.specs.Promise.{ReplayOn}
use Rattle.demands.specs.Bytes.{replies_on, tables_after_on, tally_after_on}

-- ---- the calls: an entry's packet, port, clock and signature word, with an output of 500 zeros
unfoldable pub call_of : Entry → Call
call_of e = packet (record { bytes = e.body; port = e.port; clock = e.clock; signed = eqb e.word 1 }) (replicate least_output 0)

unfoldable pub calls_of : List ℕ → List Call
calls_of file = map call_of (entries_of file)

-- a packet call's reply without its output. Calls of other kinds are none of a replay's, and what is given for their replies is never read
unfoldable pub answer_in : Reply → Answer
answer_in (answered answer output) = answer
answer_in (numbered refusal) = Refused refusal
answer_in (told x) = Refused 0
answer_in (saved relay tally room) = Refused 0
answer_in (unsaved refusal room) = Refused 0

-- answers, tables and tally of a replay are those of these calls, one by one
pub record IsPerformed (r : ReplayOn) (cs : List Call) (start : List ℕ) (counts : Tally) : Type 0 where
  pub answers : r.answers ≡ map answer_in (replies_on cs start counts)
  pub tables : r.tables ≡ tables_after_on cs start counts
  pub tally : r.tally ≡ tally_after_on cs start counts

-- ---- the recording with its ports by their new numbers: each entry's port is its image, all else stays
unfoldable pub rename_entry : List ℕ → Entry → Entry
rename_entry m e = record { clock = e.clock; port = image m e.port; word = e.word; body = e.body }

unfoldable pub renamed_file : List ℕ → List ℕ → List ℕ
renamed_file m file = file_of (map (rename_entry m) (entries_of file))
