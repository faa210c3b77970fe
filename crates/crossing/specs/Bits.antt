-- Where the fields lie in the numbers that cross to hosts: a field's span is what its bits hold, its place what those below it hold together.
use Rattle.std.specs.Prelude.{ℕ, ◌*◌, ◌/◌, ◌%◌, ◌^◌, ◌≡◌, refl}

-- ---- an answer: the kind in bits 0 to 7
abbrev pub kind_span : ℕ
kind_span = 2 ^ 8

-- a refusal's number, or the test of a drop, in bits 8 to 15
abbrev pub detail_span : ℕ
detail_span = 2 ^ 8

abbrev pub detail_place : ℕ
detail_place = kind_span

-- a port or a port set in bits 16 to 31
abbrev pub ports_span : ℕ
ports_span = 2 ^ 16

abbrev pub ports_place : ℕ
ports_place = detail_place * detail_span

-- the length in bits 32 to 47
abbrev pub length_span : ℕ
length_span = 2 ^ 16

abbrev pub length_place : ℕ
length_place = ports_place * ports_span

-- where a delivered payload starts in bits 48 to 63
abbrev pub start_span : ℕ
start_span = 2 ^ 16

abbrev pub start_place : ℕ
start_place = length_place * length_span

-- ---- a drop, behind the test: its clause or case in bits 16 to 19
abbrev pub clause_span : ℕ
clause_span = 2 ^ 4

abbrev pub clause_place : ℕ
clause_place = detail_place * detail_span

-- the value in bits 20 to 60
abbrev pub value_span : ℕ
value_span = 2 ^ 41

abbrev pub value_place : ℕ
value_place = clause_place * clause_span

-- ---- a writing or a saving: the refusal or 0 in the low 16 bits, the length in those above
abbrev pub refusal_span : ℕ
refusal_span = 2 ^ 16

-- ---- what stands in a number's bits
abbrev pub kind_in : ℕ → ℕ
kind_in n = n % kind_span

abbrev pub detail_in : ℕ → ℕ
detail_in n = n / detail_place % detail_span

abbrev pub ports_in : ℕ → ℕ
ports_in n = n / ports_place % ports_span

abbrev pub length_in : ℕ → ℕ
length_in n = n / length_place % length_span

abbrev pub start_in : ℕ → ℕ
start_in n = n / start_place

abbrev pub clause_in : ℕ → ℕ
clause_in n = n / clause_place % clause_span

abbrev pub value_in : ℕ → ℕ
value_in n = n / value_place % value_span

-- ---- the bits that the comments name
pub as_numbered : (detail_place ≡ 2 ^ 8)
    × ((ports_place ≡ 2 ^ 16) × ((length_place ≡ 2 ^ 32) × ((start_place ≡ 2 ^ 48) × ((clause_place ≡ 2 ^ 16) × (value_place ≡ 2 ^ 20)))))
as_numbered = (refl, (refl, (refl, (refl, (refl, refl)))))
