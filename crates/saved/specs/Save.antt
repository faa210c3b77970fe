-- Document 02, Wish 4: saving. "25 room too small ..; saving gives 7, then 25. Tables and room stay."
use Rattle.std.specs.Prelude.{ℕ, not, List, [], ◌≡◌, eqb, ltb, length}
use Rattle.octets.specs.Choice.{◌then◌otherwise◌}
use Rattle.octets.specs.Listed.{Test, ◌gives◌otherwise◌, first_of}
use Rattle.octets.specs.Part.{patch}
use Rattle.numbers.specs.Refusals.{Written}
use Rattle.rules.specs.declared.Tally.{Tally}
use Rattle.tables.specs.Layout.{relay_of, well_formed}
use Rattle.saved.specs.File.{file_of, saved_size}

unfoldable pub save_rows : List ℕ → ℕ → List (Test ℕ)
save_rows tables room =
    not (well_formed tables) gives 7 otherwise
    ltb room saved_size gives 25 otherwise
    []

unfoldable pub save_refusal : List ℕ → ℕ → ℕ
save_refusal tables room = first_of (save_rows tables room) 0

-- the answer, and the room after it: a refusal leaves it as it was, and room past the file stays. Tables and tally are only read
pub record SavedOn : Type 0 where
  pub answer : Written
  pub room : List ℕ

unfoldable pub save_on : List ℕ → Tally → List ℕ → SavedOn
save_on tables tally room =
    eqb (save_refusal tables (length room)) 0
    then record { answer = record { refusal = 0; length = saved_size }; room = patch room 0 (file_of (relay_of tables, tally)) }
    otherwise record { answer = record { refusal = save_refusal tables (length room); length = 0 }; room = room }

-- what a saving returned and left is this
abbrev pub Saves : SavedOn → Written → List ℕ → Type 0
Saves x answer room = (answer ≡ x.answer) × (room ≡ x.room)
