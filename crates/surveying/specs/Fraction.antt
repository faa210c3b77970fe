-- Document 02, Wish 14: "the share of packets dropped as a fraction in lowest terms, 0/1 where none came".
use Rattle.std.specs.Prelude.{ℕ, zero, suc, ◌+◌, ◌/◌, ◌%◌, Bool, ◌==◌, nat_eq}
use Rattle.octets.specs.Choice.{◌then◌otherwise◌}
use Rattle.octets.specs.Index.{◌and◌}
use Rattle.surveying.specs.declared.Fraction.{Fraction}

-- the greatest number from 1 to n that passes, or 0
unfoldable pub greatest_up_to : (ℕ → Bool) → ℕ → ℕ
greatest_up_to test zero = 0
greatest_up_to test (suc n) =
    let lower : ℕ = greatest_up_to test n in
    test (suc n) then suc n otherwise lower

-- d divides both
unfoldable pub divides_both : ℕ → ℕ → ℕ → Bool
divides_both a b d = nat_eq (a % d) 0 and nat_eq (b % d) 0

-- none of two numbers' common divisors is greater than their sum, unless both are 0, which then have 0
unfoldable pub greatest_common_divisor : ℕ → ℕ → ℕ
greatest_common_divisor a b = greatest_up_to (divides_both a b) (a + b)

unfoldable pub lowest_terms : ℕ → ℕ → Fraction
lowest_terms a b = record { above = a / greatest_common_divisor a b; below = b / greatest_common_divisor a b }

-- 0 of any number is 0/1 in lowest terms too
unfoldable pub share : (dropped packets : ℕ) → Fraction
share dropped packets = packets == 0 then record { above = 0; below = 1 } otherwise lowest_terms dropped packets
