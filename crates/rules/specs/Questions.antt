-- What a host asks of a relay. A question reads: relay and tally stay. It is refused with 7 where the tables break row 7; whether the signature word
-- matters is refused as the packet call is. A question's clock may be any number, and at 2^40 + 604,799 or later nothing is live.
use Rattle.std.specs.Prelude.{ℕ, zero, suc, ◌+◌, Bool, false, not, List, [], eqb, leb, get_or}
use Rattle.octets.specs.Choice.{◌then◌otherwise◌}
use Rattle.octets.specs.Listed.{◌gives◌otherwise◌, first_of}
use Rattle.numbers.specs.Numbers.{port_count, return_count, hash_count, live}
use Rattle.rules.specs.Relay.{Port, no_port, Slot, empty, used, Path, Relay, holds}
use Rattle.rules.specs.View.{view_at}
use Rattle.rules.specs.Renumbering.{image, rename_path, rename_link}
use Rattle.rules.specs.Refusals.{tables_ok, packet_refusal}
use Rattle.rules.specs.Arrival.{Arrival}
use Rattle.rules.specs.Answers.{reason_number}
use Rattle.rules.specs.Judging.{Plan, dropped, delivered, follows, plan}
use Rattle.rules.specs.declared.Link.{Link}
use Rattle.rules.specs.declared.RateSettings.{RateSettings}

pub data Question : Type 0 where
  -- a port's settings
  port_settings : (port : ℕ) → Question
  -- the announce rate: target interval, grace, penalty
  rate_settings : Question
  -- the local address, the path and the link at a place; an expired record is told too
  local_at : (place : ℕ) → Question
  path_at : (place : ℕ) → Question
  link_at : (place : ℕ) → Question
  -- a destination's live path at a clock
  live_path : (destination : List ℕ) (clock : ℕ) → Question
  -- the number of live return records, and of live hashes, at a clock
  live_returns : (clock : ℕ) → Question
  live_hashes : (clock : ℕ) → Question
  the_last_clock : Question
  -- whether the signature word matters for a packet, with an output buffer of `room` bytes
  whether_word_matters : (bytes : List ℕ) (port clock room : ℕ) → Question

pub data Told : Type 0 where
  refused : (number : ℕ) → Told
  -- a place outside the table or an empty one, a number that is no port, or no live path
  none : Told
  a_port : Port → Told
  a_rate : RateSettings → Told
  an_address : List ℕ → Told
  a_path : Path → Told
  a_link : Link → Told
  a_number : ℕ → Told
  yes_or_no : Bool → Told

-- ---- looking
-- what a slot holds, told as such
unfoldable pub told_of : {A : Type 0} → (A → Told) → Slot A → Told
told_of tells empty = none
told_of tells (used x) = tells x

-- how many indices below n pass
unfoldable pub count_below : (ℕ → Bool) → ℕ → ℕ
count_below test zero = 0
count_below test (suc n) = count_below test n + (test n then 1 otherwise 0)

-- how many of n slots hold a record that passes
unfoldable pub count_of : {A : Type 0} → (A → Bool) → ℕ → List (Slot A) → ℕ
count_of test n slots = count_below (λ i. holds test (get_or slots i empty)) n

-- ---- the signature word
-- a packet that came with this word on its signature
abbrev pub came_with : List ℕ → ℕ → ℕ → Bool → Arrival
came_with bytes port clock word = record { bytes = bytes; port = port; clock = clock; signed = word }

-- the plan of the test with this number
unfoldable pub of_test : ℕ → Plan → Bool
of_test n (dropped reason) = eqb (reason_number reason) n
of_test n delivered = false
of_test n (follows w) = false

-- with the word no, test 9 drops the packet
unfoldable pub word_matters : Relay → Arrival → Bool
word_matters r a = of_test 9 (plan (view_at a.clock r) a)

-- ---- what each question is
pub record QuestionRule : Type 0 where
  -- the number of the first row that refuses it, or 0
  pub refusal : Relay → ℕ
  -- what is told where none does
  pub answer : Relay → Told
  -- the same question with its ports by their new numbers
  pub renamed : List ℕ → Question

-- row 7 alone
unfoldable pub row_seven : Relay → ℕ
row_seven r = first_of (not (tables_ok r) gives 7 otherwise []) 0

unfoldable pub question_rule : Question → QuestionRule
question_rule (port_settings port) =
    record {
      refusal = row_seven;
      answer = λ r. leb port_count port then none otherwise a_port (get_or r.ports port no_port);
      renamed = λ m. port_settings (image m port);
    }
question_rule rate_settings = record { refusal = row_seven; answer = λ r. a_rate r.rate; renamed = λ m. rate_settings }
question_rule (local_at place) =
    record { refusal = row_seven; answer = λ r. told_of an_address (get_or r.locals place empty); renamed = λ m. local_at place }
question_rule (path_at place) =
    record { refusal = row_seven; answer = λ r. told_of a_path (get_or r.paths place empty); renamed = λ m. path_at place }
question_rule (link_at place) =
    record { refusal = row_seven; answer = λ r. told_of a_link (get_or r.links place empty); renamed = λ m. link_at place }
question_rule (live_path destination clock) =
    record { refusal = row_seven; answer = λ r. told_of a_path ((view_at clock r).path destination); renamed = λ m. live_path destination clock }
question_rule (live_returns clock) =
    record {
      refusal = row_seven;
      answer = λ r. a_number (count_of (λ t. live clock t.expiry) return_count r.returns.slots);
      renamed = λ m. live_returns clock;
    }
question_rule (live_hashes clock) =
    record {
      refusal = row_seven;
      answer = λ r. a_number (count_of (λ h. live clock h.expiry) hash_count r.hashes.slots);
      renamed = λ m. live_hashes clock;
    }
question_rule the_last_clock = record { refusal = row_seven; answer = λ r. a_number r.clock; renamed = λ m. the_last_clock }
-- 7, 6, 4, 5, 1, 2, 3, 1: as the packet call
question_rule (whether_word_matters bytes port clock room) =
    record {
      refusal = λ r. packet_refusal r (came_with bytes port clock false) room;
      answer = λ r. yes_or_no (word_matters r (came_with bytes port clock false));
      renamed = λ m. whether_word_matters bytes (image m port) clock room;
    }

unfoldable pub question_refusal : Question → Relay → ℕ
question_refusal q r = (question_rule q).refusal r

unfoldable pub tell : Question → Relay → Told
tell q r = eqb (question_refusal q r) 0 then (question_rule q).answer r otherwise refused (question_refusal q r)

-- ---- renamed: a record's ports by their images, as renumbering makes them; all else equal
unfoldable pub rename_told : List ℕ → Told → Told
rename_told m (refused number) = refused number
rename_told m none = none
rename_told m (a_port port) = a_port port
rename_told m (a_rate rate) = a_rate rate
rename_told m (an_address address) = an_address address
rename_told m (a_path p) = a_path (rename_path m p)
rename_told m (a_link l) = a_link (rename_link m l)
rename_told m (a_number n) = a_number n
rename_told m (yes_or_no answer) = yes_or_no answer
