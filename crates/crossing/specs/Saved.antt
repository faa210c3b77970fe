-- What a saving and a load return to hosts, and what they leave.
use Rattle.std.specs.Prelude.{ℕ, ◌+◌, ◌*◌, List, ◌≡◌}
use Rattle.saved.specs.Save.{SavedOn}
use Rattle.saved.specs.Load.{LoadedOn}
use Rattle.numbers.specs.Refusals.{Written}
use Rattle.crossing.specs.Tallies.{tally_numbers}
use Rattle.crossing.specs.Bits.{refusal_span}

-- a saving as one number: the refusal or 0 in the low 16 bits, the file's length in those above
unfoldable pub saved_number : Written → ℕ
saved_number s = s.length * refusal_span + s.refusal

-- what a saving returned and left is this
abbrev pub SavesAs : SavedOn → ℕ → List ℕ → Type 0
SavesAs x number room = (number ≡ saved_number x.answer) × (room ≡ x.room)

-- what a load returned and left is this
abbrev pub LoadsAs : LoadedOn → ℕ → List ℕ → List ℕ → Type 0
LoadsAs x refusal tables tally = (refusal ≡ x.refusal) × (tables ≡ x.tables) × (tally ≡ tally_numbers x.tally)
