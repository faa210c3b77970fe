use native.Mathlib.Omega.{arith}
use mathlib.Core.Path.{sym, ◌∙◌}
use lib.ListN.{length}
use borrow.Author.Tests.{lt-ltb, le-ltb, le-leb, lt-leb}
use Rattle.octets.specs.Choice.{◌then◌otherwise◌}
use Rattle.octets.specs.Listed.{first_of}
use Rattle.announcing.specs.Announcing.{announce_rows}
use Rattle.announcing.specs.Steps.{announce_length}
use Rattle.announcing.proofs.Lengths.{right, ratchet_most}
use Rattle.numbers.specs.Numbers.{longest_packet, least_output, clock_limit}
use Rattle.announcing.proofs.Announce.check.Goals as goal

pub returns-then-wrong_lengths : goal.returns-then-wrong_lengths
unfolding announce_rows first_of ◌then◌otherwise◌
returns-then-wrong_lengths c = rw (sym c.wrong_lengths.ensures ∙ c.if-wrong_lengths.true)

pub returns-then-self-ge-CLOCK_LIMIT : goal.returns-then-self-ge-CLOCK_LIMIT
unfolding announce_rows first_of ◌then◌otherwise◌
returns-then-self-ge-CLOCK_LIMIT c =
    let given = sym c.self.view_is in
    let wrong = rw given at (sym c.wrong_lengths.ensures ∙ c.if-wrong_lengths.false) in
    rw (given, wrong, le-leb clock_limit c.self.inside.clock c.if-self-ge-CLOCK_LIMIT.true)

pub overflow_sub-self-inside : goal.overflow_sub-self-inside
overflow_sub-self-inside c =
    let wrong = rw (sym c.self.view_is) at (sym c.wrong_lengths.ensures ∙ c.if-wrong_lengths.false) in
    omega (arith, ratchet_most (length c.self.inside.ratchet.now) (right _ _ _ _ _ wrong).ratchet)

pub returns-then-self : goal.returns-then-self
unfolding announce_rows first_of ◌then◌otherwise◌
returns-then-self c =
    let i = c.self.inside in
    let given = sym c.self.view_is in
    let wrong = rw given at (sym c.wrong_lengths.ensures ∙ c.if-wrong_lengths.false) in
    let t = length i.ratchet.now in
    let most = ratchet_most t (right _ _ _ _ _ wrong).ratchet in
    rw (
      given,
      wrong,
      lt-leb clock_limit i.clock c.if-self-ge-CLOCK_LIMIT.false,
      lt-ltb longest_packet (announce_length t (length i.app_data.now)) (omega (arith, c.if-self.true)),
    )

pub returns-then-room-lt-LEAST_OUTPUT : goal.returns-then-room-lt-LEAST_OUTPUT
unfolding announce_rows first_of ◌then◌otherwise◌
returns-then-room-lt-LEAST_OUTPUT c =
    let i = c.self.inside in
    let given = sym c.self.view_is in
    let wrong = rw given at (sym c.wrong_lengths.ensures ∙ c.if-wrong_lengths.false) in
    let t = length i.ratchet.now in
    let most = ratchet_most t (right _ _ _ _ _ wrong).ratchet in
    rw (
      given,
      wrong,
      lt-leb clock_limit i.clock c.if-self-ge-CLOCK_LIMIT.false,
      le-ltb longest_packet (announce_length t (length i.app_data.now)) (omega (arith, c.if-self.false)),
      lt-ltb c.args.room least_output c.if-room-lt-LEAST_OUTPUT.true,
    )

pub returns : goal.returns
unfolding announce_rows first_of ◌then◌otherwise◌
returns c =
    let i = c.self.inside in
    let given = sym c.self.view_is in
    let wrong = rw given at (sym c.wrong_lengths.ensures ∙ c.if-wrong_lengths.false) in
    let t = length i.ratchet.now in
    let most = ratchet_most t (right _ _ _ _ _ wrong).ratchet in
    rw (
      given,
      wrong,
      lt-leb clock_limit i.clock c.if-self-ge-CLOCK_LIMIT.false,
      le-ltb longest_packet (announce_length t (length i.app_data.now)) (omega (arith, c.if-self.false)),
      le-ltb c.args.room least_output c.if-room-lt-LEAST_OUTPUT.false,
    )
