-- The emission time of a blob: its last five bytes, whatever the random ones are.
use Prim.Native.Nat.{ℕ}
use mathlib.Core.List.{[], ◌∷◌}
use mathlib.Core.Path.{◌≡◌, refl}
use Rattle.octets.specs.Part.{part}
use Rattle.octets.specs.BigEndian.{number, number_from}
use Rattle.packet.specs.Announce.{emission_of}

-- 00 65 53 f1 00 is 1,700,000,000
pub emission_example : (a b c d e : ℕ) → emission_of (a ∷ b ∷ c ∷ d ∷ e ∷ 0x00 ∷ 0x65 ∷ 0x53 ∷ 0xf1 ∷ 0x00 ∷ []) ≡ 1700000000
unfolding emission_of part number number_from
emission_example a b c d e = refl
