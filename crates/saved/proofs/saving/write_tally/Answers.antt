use mathlib.Core.Path.{ap, ◌∙◌}
use mathlib.Core.List.{List}
use Prim.Native.Nat.{ℕ, ◌+◌}
use Rattle.octets.specs.Part.{patch}
use Rattle.octets.specs.BigEndian.{big_endian}
use Rattle.saved.proofs.SaveLaws.{tally_written}
use native.Mathlib.Omega.{arith}
use Rattle.editions.specs.Editions.{counter_width}
use Rattle.saved.specs.Steps.{counter_at}
use Rattle.saved.proofs.saving.write_tally.Goals as goal

pub overflow_add-at-4 : goal.overflow_add-at-4
overflow_add-at-4 c = record { fits = omega (arith, c.requires, c.well_formed) }

pub overflow_add-at-5 : goal.overflow_add-at-5
overflow_add-at-5 c = record { fits = omega (arith, c.requires, c.well_formed) }

pub write_counter-requires-6 : goal.write_counter-requires-6
write_counter-requires-6 c =
    let later = c.write_counter-5.auto.room ∙ c.write_counter-4.auto.room
    ∙ c.write_counter-3.auto.room in
    omega (arith, later ∙ c.write_counter-2.auto.room ∙ c.write_counter.auto.room, c.requires)

pub shape_of-room : goal.shape_of-room
shape_of-room c =
    c.write_counter-6.auto.room
    ∙ c.write_counter-5.auto.room
    ∙ c.write_counter-4.auto.room
    ∙ c.write_counter-3.auto.room
    ∙ c.write_counter-2.auto.room
    ∙ c.write_counter.auto.room

pub returns : goal.returns
returns c =
    let a = c.args in
    let at = a.at in
    let put : ℕ → ℕ → List ℕ → List ℕ = λ k x r. patch r (at + k) (big_endian counter_width x) in
    let two = c.write_counter-2.ensures
    ∙ ap (put (counter_at "dropped") a.tally.dropped) c.write_counter.ensures in
    let three = c.write_counter-3.ensures ∙ ap (put (counter_at "delivered") a.tally.delivered) two in
    let four = c.write_counter-4.ensures ∙ ap (put (counter_at "forwarded") a.tally.forwarded) three in
    let five = c.write_counter-5.ensures ∙ ap (put (counter_at "spread") a.tally.spread) four in
    c.write_counter-6.ensures ∙ ap (put (counter_at "kept") a.tally.kept) five
    ∙ tally_written a.tally a.room.now at c.requires
