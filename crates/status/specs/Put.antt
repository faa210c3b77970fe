-- What a question returns: the answer in code, as told by its number and by what it leaves of a caller's buffer or number, whatever stands there. And,
-- for the contracts of helpers alone, what is read of a record's bytes b, and how many records of a section are live.
use Rattle.std.specs.Prelude.{ℕ, List, Option, Some, None, Result, Ok, Err}
use Rattle.octets.specs.Choice.{◌then◌otherwise◌}
use Rattle.octets.specs.Part.{part}
use Rattle.numbers.specs.Refusals.{number_of, refused_number}
use Rattle.numbers.specs.Values.{value_or}
use Rattle.numbers.specs.declared.refusal.Refusal.{Refusal}
use Rattle.rules.specs.Questions.{Told, count_below}
use Rattle.tables.specs.Layout.{record_at}
use Rattle.tables.specs.Asked.{Tells, TellsNumber}
use Rattle.lookup.specs.Search.{is_used, is_live}

-- the number of an answer: a refusal's, 0, or 255 where there is nothing to tell
abbrev pub asked_number : {A : Type 0} → Result (Option A) Refusal → ℕ
asked_number (Ok (Some x)) = 0
asked_number (Ok None) = 255
asked_number (Err refusal) = number_of refusal

-- what is told, or what stood there
abbrev pub asked_or : {A : Type 0} → Result (Option A) Refusal → A → A
asked_or (Ok (Some x)) old = x
asked_or (Ok None) old = old
asked_or (Err refusal) old = old

abbrev pub TellsSome : Told → Result (Option (List ℕ)) Refusal → Type 0
TellsSome x answer = (old : List ℕ) → Tells x old (asked_number answer) (asked_or answer old)

abbrev pub TellsBytes : Told → Result (List ℕ) Refusal → Type 0
TellsBytes x answer = (old : List ℕ) → Tells x old (refused_number answer) (value_or answer old)

abbrev pub TellsCount : Told → Result ℕ Refusal → Type 0
TellsCount x answer = (old : ℕ) → TellsNumber x old (refused_number answer) (value_or answer old)

-- a record's first n bytes behind the mark; none of an empty one
unfoldable pub record_told : ℕ → List ℕ → Option (List ℕ)
record_told n b = is_used b then Some (part b 1 n) otherwise None

unfoldable pub live_records : ℕ → ℕ → ℕ → ℕ → ℕ → List ℕ → ℕ
live_records at width n expiry clock t = count_below (λ i. is_live expiry clock (record_at at width t i)) n
