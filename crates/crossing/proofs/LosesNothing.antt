-- What crosses to C and Rust loses nothing: parts and 35 bytes give each other back, and so do a tally and six numbers; the payload's place gives the
-- payload, a writing's number its refusal and its length, and an answer's its fields.
use Prim.Native.Nat.{ℕ, ◌+◌, ◌*◌, ◌/◌, ◌%◌, ◌≤◌, ◌<◌}
use native.Mathlib.Nat.{mod-eq_of_lt}
use native.Mathlib.Omega.{arith}
use mathlib.Core.Bool.{Bool, true, false}
use mathlib.Core.List.{List, [], ◌∷◌, ◌++◌}
use mathlib.Core.Path.{◌≡◌, refl, sym, ap, ◌∙◌}
use lib.Arith.{digits_div, digits_mod}
use lib.Dec.{ltb}
use lib.ListN.{length, get_or, take, drop, take-append-drop, drop_of_length-le}
use lib.Seq.{drop-cons, drop-drop, drop-length, take_at}
use borrow.Author.Tests.{ltb-true}
use Rattle.octets.specs.Index.{list_of}
use Rattle.octets.specs.Part.{part}
use Rattle.octets.proofs.Choice.{then_true, then_false}
use Rattle.octets.proofs.ListOf.{list_of_get_d}
use Rattle.packet.specs.Read.{header_of, type_two_parts, payload_start, payload}
use Rattle.packet.specs.declared.Parts.{Parts}
use Rattle.numbers.specs.Refusals.{Written}
use Rattle.packet.proofs.ListLaws.{behind, found_part, found_byte}
use Rattle.packet.proofs.ReadLaws.{start_most}
use Rattle.packet.specs.Write.{Wide}
use Rattle.packet.specs.Places.{address_width, hops_at, address_at, second_address_at, type_two_context_at, type_two_start}
use Rattle.rules.specs.declared.Tally.{Tally}
use Rattle.crossing.specs.Answers.{fields_number, drop_number}
use Rattle.crossing.specs.Packets.{parts_bytes, parts_in, payload_place, written_number}
use Rattle.crossing.specs.Tallies.{tally_numbers, tally_in, tally_count}
use Rattle.crossing.specs.Recordings.{recorded_number}
use Rattle.crossing.specs.Saved.{saved_number}
use Rattle.crossing.specs.Bits.{kind_span, detail_span, detail_place, ports_span, ports_place, length_span, length_place, start_span, start_place, clause_span, clause_place, value_span, value_place, refusal_span, kind_in, detail_in, ports_in, length_in, start_in, clause_in}

-- the parts, written to 35 bytes and read from them
pub parts_back : (q : Parts) → Wide q → parts_in (parts_bytes q) ≡ q
unfolding type_two_parts parts_bytes part
parts_back q wide =
    let head : List ℕ = q.header ∷ q.hops ∷ q.relay in
    let bytes : List ℕ = head ++ (q.destination ++ (q.context ∷ [])) in
    let eh : length head ≡ second_address_at = omega (arith, wide.relay) in
    let relay : part bytes address_at address_width ≡ q.relay = take_at q.relay (q.destination ++ (q.context ∷ [])) address_width wide.relay in
    let destination : part bytes second_address_at address_width ≡ q.destination =
    found_part head q.destination q.context [] second_address_at eh wide.destination in
    let context : get_or bytes type_two_context_at 0 ≡ q.context = found_byte head q.destination q.context [] second_address_at eh wide.destination in
    rw (relay, destination, context)

-- 35 bytes, read as parts and written again
pub bytes_back : (b : List ℕ) → length b ≡ type_two_start → parts_bytes (parts_in b) ≡ b
unfolding type_two_parts parts_bytes part
bytes_back b e =
    let none : drop type_two_start b ≡ [] = drop_of_length-le b {i = type_two_start} (omega arith) in
    let relay : List ℕ = part b address_at address_width in
    let destination : List ℕ = part b second_address_at address_width in
    ap (λ (r : List ℕ). header_of b ∷ get_or b hops_at 0 ∷ (relay ++ (destination ++ (get_or b type_two_context_at 0 ∷ r)))) (sym none)
    ∙ ap (λ (r : List ℕ). header_of b ∷ get_or b hops_at 0 ∷ (relay ++ r)) (behind b second_address_at (omega arith))
    ∙ ap (λ (r : List ℕ). header_of b ∷ get_or b hops_at 0 ∷ (take address_width (drop address_at b) ++ r)) (sym (drop-drop address_width address_at b))
    ∙ ap (λ (r : List ℕ). header_of b ∷ get_or b hops_at 0 ∷ r) (take-append-drop address_width (drop address_at b))
    ∙ ap (λ (r : List ℕ). header_of b ∷ r) (sym (drop-cons b hops_at 0 (omega arith)))
    ∙ sym (drop-cons b 0 0 (omega arith))

-- the bytes from the payload's place on
pub payload_at_place : (p : List ℕ) → drop (payload_place p) p ≡ payload p
unfolding payload payload_place
payload_at_place p = go (ltb (length p) (payload_start (header_of p))) refl
  where
    start : ℕ
    start = payload_start (header_of p)

    go : (v : Bool) → ltb (length p) start ≡ v → drop (payload_place p) p ≡ payload p
    go true t =
        let past : length p < start = ltb-true (length p) start t in
        ap (λ (n : ℕ). drop n p) (then_true (length p) start t) ∙ drop-length p ∙ sym (drop_of_length-le p {i = start} (omega arith))
    go false t = ap (λ (n : ℕ). drop n p) (then_false (length p) start t)

-- the place is 35 at most
pub place_short : (p : List ℕ) → payload_place p ≤ type_two_start
unfolding payload_place
place_short p = go (ltb (length p) (payload_start (header_of p))) refl
  where
    start : ℕ
    start = payload_start (header_of p)

    go : (v : Bool) → ltb (length p) start ≡ v → payload_place p ≤ type_two_start
    go true t = omega (arith, then_true (length p) start t, ltb-true (length p) start t, start_most (header_of p))
    go false t = omega (arith, then_false (length p) start t, start_most (header_of p))

-- a refusal's number fits the low 16 bits
module _ (w : Written) (fits : w.refusal < refusal_span) where
  pub refusal_back : written_number w % refusal_span ≡ w.refusal
  unfolding written_number
  refusal_back = digits_mod w.length fits

  pub length_back : written_number w / refusal_span ≡ w.length
  unfolding written_number
  length_back = digits_div w.length fits

-- a recording's, and a saving's
module _ (w : Written) (fits : w.refusal < refusal_span) where
  pub recorded_refusal_back : recorded_number w % refusal_span ≡ w.refusal
  unfolding recorded_number
  recorded_refusal_back = digits_mod w.length fits

  pub recorded_length_back : recorded_number w / refusal_span ≡ w.length
  unfolding recorded_number
  recorded_length_back = digits_div w.length fits

module _ (s : Written) (fits : s.refusal < refusal_span) where
  pub saved_refusal_back : saved_number s % refusal_span ≡ s.refusal
  unfolding saved_number
  saved_refusal_back = digits_mod s.length fits

  pub saved_length_back : saved_number s / refusal_span ≡ s.length
  unfolding saved_number
  saved_length_back = digits_div s.length fits

-- a tally, as six numbers and back; six numbers, as a tally and back: a step that is not made, and a load that is refused, change none
pub tally_back : (t : Tally) → tally_in (tally_numbers t) ≡ t
unfolding tally_in tally_numbers
tally_back t = refl

pub numbers_back : (ns : List ℕ) → length ns ≡ tally_count → tally_numbers (tally_in ns) ≡ ns
unfolding tally_in tally_numbers list_of
numbers_back ns six = list_of_get_d 0 ns tally_count six

-- an answer's number: each field is found at its bits
module _ (kind detail ports size start : ℕ) (k : kind < kind_span) (d : detail < detail_span) (p : ports < ports_span)
    (z : size < length_span) (s : start < start_span) where
  abbrev number : ℕ
  number = fields_number kind detail ports size start

  -- the two upper fields
  abbrev upper : ℕ
  upper = start * length_span + size

  by_bytes : number ≡ ((upper * ports_span + ports) * detail_span + detail) * kind_span + kind
  unfolding fields_number
  by_bytes = omega (arith, mod-eq_of_lt z, mod-eq_of_lt s)

  by_words : number ≡ (upper * ports_span + ports) * ports_place + (detail * detail_place + kind)
  by_words = by_bytes ∙ omega arith

  pub kind_back : kind_in number ≡ kind
  kind_back = ap (λ (n : ℕ). kind_in n) by_bytes ∙ digits_mod ((upper * ports_span + ports) * detail_span + detail) k

  pub detail_back : detail_in number ≡ detail
  detail_back =
      ap (λ (n : ℕ). detail_in n) by_bytes
      ∙ ap (λ (n : ℕ). n % detail_span) (digits_div ((upper * ports_span + ports) * detail_span + detail) k)
      ∙ digits_mod (upper * ports_span + ports) d

  above : number / ports_place ≡ upper * ports_span + ports
  above = ap (λ (n : ℕ). n / ports_place) by_words ∙ digits_div (upper * ports_span + ports) (omega arith)

  pub ports_back : ports_in number ≡ ports
  ports_back = ap (λ (n : ℕ). n % ports_span) above ∙ digits_mod upper p

  -- the three lower ones
  abbrev lower : ℕ
  lower = (ports * detail_span + detail) * kind_span + kind

  upper_back : number / length_place ≡ upper
  upper_back = ap (λ (n : ℕ). n / length_place) halves ∙ digits_div upper (omega arith)
    where
      halves : number ≡ upper * length_place + lower
      halves = by_bytes ∙ omega arith

  pub size_back : length_in number ≡ size
  size_back = ap (λ (n : ℕ). n % length_span) upper_back ∙ digits_mod start z

  pub start_back : start_in number ≡ start
  start_back = ap (λ (n : ℕ). start_in n) low_first ∙ digits_div start (omega arith)
    where
      low_first : number ≡ start * start_place + (size * length_place + lower)
      low_first = by_bytes ∙ omega arith

-- a drop's number: the test, its clause or case, and the value
module _ (test clause value : ℕ) (t : test < detail_span) (k : clause < clause_span) (x : value < value_span) where
  abbrev told : ℕ
  told = drop_number test clause value

  told_bytes_lem : told ≡ ((value * clause_span + clause) * detail_span + test) * kind_span + 1
  unfolding drop_number
  told_bytes_lem = omega (arith, mod-eq_of_lt x)

  told_words : told ≡ (value * clause_span + clause) * clause_place + (test * detail_place + 1)
  told_words = told_bytes_lem ∙ omega arith

  pub drop_back : kind_in told ≡ 1
  drop_back = ap (λ (n : ℕ). kind_in n) told_bytes_lem ∙ digits_mod ((value * clause_span + clause) * detail_span + test) (omega arith)

  pub test_back : detail_in told ≡ test
  test_back =
      ap (λ (n : ℕ). detail_in n) told_bytes_lem
      ∙ ap (λ (n : ℕ). n % detail_span) (digits_div ((value * clause_span + clause) * detail_span + test) (omega arith))
      ∙ digits_mod (value * clause_span + clause) t

  pub clause_back : clause_in told ≡ clause
  clause_back =
      ap (λ (n : ℕ). clause_in n) told_words
      ∙ ap (λ (n : ℕ). n % clause_span) (digits_div (value * clause_span + clause) (omega arith))
      ∙ digits_mod value k

  pub value_back : told / value_place ≡ value
  value_back = ap (λ (n : ℕ). n / value_place) value_first ∙ digits_div value (omega arith)
    where
      value_first : told ≡ value * value_place + (clause * clause_place + (test * detail_place + 1))
      value_first = told_bytes_lem ∙ omega arith
