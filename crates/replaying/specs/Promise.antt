-- Document 02, Wish 1: "The replay makes these calls over given tables and prints one line per entry, counted from 1 .. an entry that the core refuses
-- prints as `6 refused 1` and the replay goes on. .. a refused file prints only `refused` and the number." A crate above cites nothing else of this one:
-- answers hold ports, reasons and lengths, so that who counts them reads no text.
use Rattle.std.specs.Prelude.{ℕ, zero, suc, ◌+◌, Bool, true, false, List, [], ◌∷◌, ◌++◌, ◌≡◌, eqb, replicate, Option, Some, None}
use Rattle.octets.specs.Choice.{◌then◌otherwise◌}
use Rattle.packet.specs.Write.{least_output}
use Rattle.rules.specs.declared.Answer.{Answer}
use Rattle.rules.specs.declared.Answer.TheVariants.{Refused}
use Rattle.rules.specs.declared.Tally.{Tally}
use Rattle.relay.specs.Promise.{JudgementOn, packet_on}
use Rattle.recording.specs.Format.{Entry}
use Rattle.recording.specs.Reader.{file_refusal, is_there, entry_of, entries_of}
use Rattle.text.specs.Text.{text_of}
use Rattle.text.specs.declared.Text.{Text}
use Rattle.text.specs.Words.{words_line, refused_words}
use Rattle.replaying.specs.Lines.{answer_line}
use Rattle.replaying.specs.declared.Stepped.{Stepped}

-- the packet call of an entry, with an output of its own. The signature word is yes for 1 and no for all else
unfoldable pub entry_call : Entry → List ℕ → Tally → JudgementOn
entry_call e tables tally =
    packet_on e.body e.port e.clock (eqb e.word 1) tables tally (replicate least_output 0)

-- ---- one step: entry i of any bytes, on the tables and the tally as they are
pub record StepOn : Type 0 where
  pub there : Bool
  pub answer : Answer
  pub line : List ℕ
  pub tables : List ℕ
  pub tally : Tally

-- the call's answer, and its line as number i + 1
unfoldable pub step_of : ℕ → JudgementOn → StepOn
step_of i j = record { there = true; answer = j.answer; line = answer_line (i + 1) j.answer; tables = j.tables; tally = j.tally }

-- an entry that isn't there: refusal 22, no line, and nothing changes
unfoldable pub step_on : List ℕ → ℕ → List ℕ → Tally → StepOn
step_on file i tables tally =
    is_there file i
    then step_of i (entry_call (entry_of file i) tables tally)
    otherwise record { there = false; answer = Refused 22; line = []; tables = tables; tally = tally }

-- a step with whether the entry was there, and its line as a text: empty where it wasn't
pub record Step : Type 0 where
  pub there : Bool
  pub answer : Answer
  pub tally : Tally
  pub line : Text

abbrev pub has_line : Option Text → Bool
has_line None = false
has_line (Some line) = true

abbrev pub line_in : Option Text → Text
line_in None = text_of []
line_in (Some line) = line

-- a step as the code returns it: the entry isn't there where it has no line
abbrev pub step_as : Stepped → Step
step_as s = record { there = has_line s.line; answer = s.answer; tally = s.tally; line = line_in s.line }

-- what a step returned and left is this
abbrev pub Steps : StepOn → Step → List ℕ → Type 0
Steps s r tables = (r ≡ record { there = s.there; answer = s.answer; tally = s.tally; line = text_of s.line }) × (tables ≡ s.tables)

-- ---- a replay: what it answers and prints, and the tables and the tally after it
pub record ReplayOn : Type 0 where
  pub refusal : ℕ
  pub answers : List Answer
  pub text : List ℕ
  pub tables : List ℕ
  pub tally : Tally

-- an entry's call, and the replay of those behind it
unfoldable pub goes_on : ℕ → JudgementOn → ReplayOn → ReplayOn
goes_on number j rest =
    record {
      refusal = rest.refusal;
      answers = j.answer ∷ rest.answers;
      text = answer_line number j.answer ++ rest.text;
      tables = rest.tables;
      tally = rest.tally;
    }

-- the entries' calls one by one, each on what the one before left; the first is counted so
unfoldable pub replay_from : ℕ → List Entry → List ℕ → Tally → ReplayOn
replay_from number [] tables tally = record { refusal = 0; answers = []; text = []; tables = tables; tally = tally }
replay_from number (e ∷ es) tables tally =
    let j : JudgementOn = entry_call e tables tally in
    goes_on number j (replay_from (number + 1) es j.tables j.tally)

-- a refused file changes nothing
unfoldable pub replay_on : List ℕ → List ℕ → Tally → ReplayOn
replay_on file tables tally =
    eqb (file_refusal file) 0
    then replay_from 1 (entries_of file) tables tally
    otherwise
    record { refusal = file_refusal file; answers = []; text = words_line (refused_words (file_refusal file)); tables = tables; tally = tally }

-- ---- the first n steps in order, each on what the one before left. For a file that isn't refused, all of them are the replay (Replay, steps_replay)
unfoldable pub one_more : ReplayOn → StepOn → ReplayOn
one_more r s =
    record {
      refusal = r.refusal;
      answers = r.answers ++ (s.answer ∷ []);
      text = r.text ++ s.line;
      tables = s.tables;
      tally = s.tally;
    }

unfoldable pub steps_on : List ℕ → ℕ → List ℕ → Tally → ReplayOn
steps_on file zero tables tally = record { refusal = 0; answers = []; text = []; tables = tables; tally = tally }
steps_on file (suc n) tables tally =
    let r : ReplayOn = steps_on file n tables tally in
    one_more r (step_on file n r.tables r.tally)
