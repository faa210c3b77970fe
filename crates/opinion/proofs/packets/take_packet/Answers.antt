use Prim.Native.Nat.{ℕ, ◌<◌}
use native.Mathlib.Omega.{arith}
use mathlib.Core.List.{List}
use mathlib.Core.Path.{◌≡◌, sym, ◌∙◌}
use borrow.Author.Tests.{eq-eqb}
use Rattle.numbers.specs.Numbers.{port_count}
use Rattle.numbers.proofs.RefusalNumbers.{some_number}
use Rattle.rules.specs.Arrival.{Arrival}
use Rattle.history.specs.Opinion.{packet_refused}
use Rattle.opinion_log.specs.Log.{own_in, calls_in, listed_in}
use Rattle.opinion.proofs.Settled.{NotRefused, accepted_packet, packet_refused_lem, packet_judged}
use Rattle.opinion.proofs.packets.take_packet.Goals as goal

-- what a packet that isn't refused keeps to
fine : {log : List ℕ} {a : Arrival} {room : ℕ} → 0 ≡ packet_refused (own_in log) (calls_in log) a room → NotRefused log (listed_in log) a room
fine e = accepted_packet _ _ _ _ (eq-eqb _ 0 (sym e))

pub returns-in-Err : goal.returns-in-Err
returns-in-Err c =
    let number = c.number.ensures in
    packet_refused_lem c.args.log.now _ _ _ (number ∙ c.in-Err.ensures c.args.signed) (λ e. some_number _ (sym number ∙ e))

pub overflow_cast-arrived : goal.overflow_cast-arrived
overflow_cast-arrived c =
    let small : c.args.port < port_count = (fine (c.in_default.ensures c.args.signed)).port in
    record { fits = omega arith }

pub judged-verdict-requires : goal.judged-verdict-requires
judged-verdict-requires c =
    let f = fine (c.in_default.ensures c.args.signed) in
    (c.listed-n.ensures.1, f.readable, f.wide)

pub put-requires : goal.put-requires
put-requires c =
    let f = fine (c.in_default.ensures c.args.signed) in
    (omega (arith, c.listed-n.ensures.0, f.few), (f.readable, f.port, f.clock))

pub returns : goal.returns
returns c =
    packet_judged c.args.log.now _ c.args.output.now (eq-eqb _ 0 (sym (c.in_default.ensures c.args.signed)))
    c.listed-n.result c.listed-n.ensures.0 _ _ _ c.judged-verdict.ensures.0 c.judged-verdict.ensures.1 c.put.ensures
