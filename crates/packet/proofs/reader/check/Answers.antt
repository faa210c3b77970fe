use Prim.Native.Nat.{ℕ, ◌≤◌}
use mathlib.Core.List.{List}
use mathlib.Core.Path.{◌≡◌, sym, ap, ◌∙◌}
use mathlib.Core.Bool.{true, false, not}
use lib.Dec.{ltb}
use lib.ListN.{length}
use borrow.Author.Tests.{lt-ltb, le-ltb}
use Rattle.octets.specs.Index.{◌and◌}
use Rattle.octets.proofs.Index.{and_yes, and_no}
use Rattle.octets.proofs.Choice.{then_true, then_false}
use Rattle.octets.specs.Choice.{◌then◌otherwise◌}
use Rattle.octets.specs.Listed.{first_of}
use Rattle.octets.proofs.Listed.{here}
use Rattle.numbers.specs.Numbers.{is_size}
use Rattle.packet.specs.Header.{access_code, type_two}
use Rattle.packet.specs.Read.{header_of, reading_rows, reading_refusal}
use Rattle.packet.specs.Places.{type_one_start, type_two_start}
use Rattle.packet.proofs.ReadLaws.{refused_short}
use Rattle.packet.proofs.reader.check.Goals.{else-type_two-via-then-type_two+else-packet-lt-TYPE_TWO_START, else-type_two-via-else-type_two}
use Rattle.packet.proofs.reader.check.Goals as goal

-- the last row decides where the others passed
last_row : (size : ℕ) (p : List ℕ) → is_size size ≡ true → type_one_start ≤ length p → length p ≤ size → access_code (header_of p) ≡ false
    → reading_refusal size p ≡ (type_two (header_of p) and ltb (length p) type_two_start then 1 otherwise 0)
unfolding reading_refusal reading_rows first_of ◌then◌otherwise◌
last_row size p sized long fits free = rw (sized, le-ltb (length p) type_one_start long, le-ltb size (length p) fits, free)

pub returns-then-not-is_size : goal.returns-then-not-is_size
unfolding reading_refusal reading_rows
returns-then-not-is_size c = sym (here _ _ _ _ (ap not (sym c.is_size.ensures) ∙ (ap not c.if-not-is_size.true)))

pub returns-then-packet-lt-TYPE_ONE_START : goal.returns-then-packet-lt-TYPE_ONE_START
returns-then-packet-lt-TYPE_ONE_START c = sym (refused_short _ _ (sym c.is_size.ensures ∙ c.if-not-is_size.false) c.if-packet-lt-TYPE_ONE_START.true)

pub returns-then-size-packet : goal.returns-then-size-packet
unfolding reading_refusal reading_rows first_of ◌then◌otherwise◌
returns-then-size-packet c =
    let n = length c.args.packet.now in
    let sized : is_size c.args.size ≡ true = sym c.is_size.ensures ∙ c.if-not-is_size.false in
    rw (sized, le-ltb n type_one_start c.if-packet-lt-TYPE_ONE_START.false, lt-ltb c.args.size n c.if-size-packet.true)

pub returns-then-access_code : goal.returns-then-access_code
unfolding reading_refusal reading_rows first_of ◌then◌otherwise◌
returns-then-access_code c =
    let n = length c.args.packet.now in
    let sized : is_size c.args.size ≡ true = sym c.is_size.ensures ∙ c.if-not-is_size.false in
    let code : access_code (header_of c.args.packet.now) ≡ true = sym c.access_code.ensures ∙ c.if-access_code.true in
    rw (sized, le-ltb n type_one_start c.if-packet-lt-TYPE_ONE_START.false, le-ltb c.args.size n c.if-size-packet.false, code)

pub returns-then-packet-lt-TYPE_TWO_START : goal.returns-then-packet-lt-TYPE_TWO_START
returns-then-packet-lt-TYPE_TWO_START c =
    let sized = sym c.is_size.ensures ∙ c.if-not-is_size.false in
    let last = last_row _ _ sized c.if-packet-lt-TYPE_ONE_START.false c.if-size-packet.false (sym c.access_code.ensures ∙ c.if-access_code.false) in
    let two = sym c.type_two.ensures ∙ c.if-type_two.true in
    sym (last ∙ then_true 1 0 (and_yes _ two ∙ lt-ltb _ type_two_start c.if-packet-lt-TYPE_TWO_START.true))

pub returns : goal.returns
returns c =
    let sized = sym c.is_size.ensures ∙ c.if-not-is_size.false in
    let last = last_row _ _ sized c.if-packet-lt-TYPE_ONE_START.false c.if-size-packet.false (sym c.access_code.ensures ∙ c.if-access_code.false) in
    let two = sym c.type_two.ensures in
    sym
    (last ∙ then_false 1 0
    (elim c.else-type_two.branch [
      | else-type_two-via-then-type_two+else-packet-lt-TYPE_TWO_START w ↦
          and_yes _ (two ∙ w.if-type_two.true) ∙ le-ltb _ type_two_start w.if-packet-lt-TYPE_TWO_START.false
      | else-type_two-via-else-type_two w ↦ and_no _ (two ∙ w.if-type_two.false)
    ]))
