use mathlib.Core.Path.{◌≡◌, sym, ◌∙◌}
use mathlib.Core.Bool.{true, false}
use Prim.Native.Nat.{◌+◌}
use lib.ListN.{length}
use borrow.Author.Tests.{lt-ltb, le-ltb}
use Rattle.octets.specs.Choice.{◌then◌otherwise◌}
use Rattle.octets.specs.Listed.{first_of}
use Rattle.packet.specs.Header.{access_code}
use Rattle.packet.specs.Read.{payload_start}
use Rattle.packet.specs.Write.{Wide, packet_of, writing_rows, writing_refusal}
use Rattle.packet.proofs.ReadLaws.{start_most}
use Rattle.packet.proofs.WriteLaws.{packet_length}
use native.Mathlib.Omega.{arith}
use borrow.Author.Rules.{rules}
use Rattle.numbers.specs.Numbers.{longest_packet, least_output}
use Rattle.packet.proofs.writer.check_writing.Goals as goal

pub returns-then-room-lt-LEAST_OUTPUT : goal.returns-then-room-lt-LEAST_OUTPUT
unfolding writing_refusal writing_rows first_of ◌then◌otherwise◌
returns-then-room-lt-LEAST_OUTPUT c = rw (lt-ltb c.args.room least_output c.if-room-lt-LEAST_OUTPUT.true)

pub overflow_sub-start : goal.overflow_sub-start
overflow_sub-start c = omega (arith, start_most c.args.parts.header, c.payload_start-start.ensures)

pub returns-then-start-payload : goal.returns-then-start-payload
unfolding writing_refusal writing_rows first_of ◌then◌otherwise◌
returns-then-start-payload c =
    let a = c.args in
    let wide : Wide a.parts = record { relay = search rules; destination = search rules } in
    let n = length (packet_of a.parts a.payload.now) in
    let long : n ≡ payload_start a.parts.header + length a.payload.now = packet_length a.parts a.payload.now wide in
    rw (
      le-ltb a.room least_output c.if-room-lt-LEAST_OUTPUT.false,
      lt-ltb longest_packet n (omega (arith, start_most a.parts.header, c.payload_start-start.ensures, c.if-start-payload.true)),
    )

pub returns-then-access_code : goal.returns-then-access_code
unfolding writing_refusal writing_rows first_of ◌then◌otherwise◌
returns-then-access_code c =
    let a = c.args in
    let wide : Wide a.parts = record { relay = search rules; destination = search rules } in
    let n = length (packet_of a.parts a.payload.now) in
    let long : n ≡ payload_start a.parts.header + length a.payload.now = packet_length a.parts a.payload.now wide in
    let code : access_code a.parts.header ≡ true = sym c.access_code.ensures ∙ c.if-access_code.true in
    rw (
      le-ltb a.room least_output c.if-room-lt-LEAST_OUTPUT.false,
      le-ltb longest_packet n (omega (arith, start_most a.parts.header, c.payload_start-start.ensures, c.if-start-payload.false)),
      code,
    )

pub returns : goal.returns
unfolding writing_refusal writing_rows first_of ◌then◌otherwise◌
returns c =
    let a = c.args in
    let wide : Wide a.parts = record { relay = search rules; destination = search rules } in
    let n = length (packet_of a.parts a.payload.now) in
    let long : n ≡ payload_start a.parts.header + length a.payload.now = packet_length a.parts a.payload.now wide in
    let free : access_code a.parts.header ≡ false = sym c.access_code.ensures ∙ c.if-access_code.false in
    rw (
      le-ltb a.room least_output c.if-room-lt-LEAST_OUTPUT.false,
      le-ltb longest_packet n (omega (arith, start_most a.parts.header, c.payload_start-start.ensures, c.if-start-payload.false)),
      free,
    )
