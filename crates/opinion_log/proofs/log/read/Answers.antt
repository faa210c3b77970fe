use Rattle.std.proofs.Common.{arith}
use borrow.Author.Tests.{tests}
use Rattle.opinion_log.specs.Log.{entry_of, kind_in}
use Rattle.packet.specs.Read.{reads}
use Rattle.octets.specs.Index.{◌and◌}
use Rattle.octets.specs.Choice.{◌then◌otherwise◌}
use Rattle.std.proofs.Common.{ℕ, List, true, eqb, ◌≡◌, refl, sym, ap, ◌∙◌}
use borrow.Author.Tests.{ne_eqb}
use Rattle.std.specs.Prelude.{Result, Ok, Err}
use Rattle.std.specs.Result.{is_ok}
use Rattle.numbers.specs.declared.refusal.Refusal.{Refusal}
use Rattle.numbers.specs.Refusals.{refused_number}
use Rattle.numbers.proofs.RefusalNumbers.{some_number}
use Rattle.packet.specs.Read.{longest_packet}
use Rattle.judging.specs.Seen.{arrival_of}
use Rattle.history.specs.After.{came}
use Rattle.opinion_log.specs.Log.{packet_in}
use Rattle.opinion_log.proofs.Entries.{kind_came, entry_came}
use Rattle.opinion_log.proofs.log.read.Goals.{in_default-via-in-1+else-is_ok, in_default-via-in-3+else-rate_within, in_default-via-in_default-1}
use Rattle.opinion_log.proofs.log.read.Goals as goal

-- a check answers Ok where the refusal's number is 0
ok_number : {A : Type 0} (r : Result A Refusal) → is_ok r ≡ eqb (refused_number r) 0
ok_number (Ok x) = refl
ok_number (Err r) = sym (ne_eqb _ 0 (some_number r))

pub returns-in-1 : goal.returns-in-1
unfolding entry_of kind_in reads ◌and◌ ◌then◌otherwise◌
returns-in-1 c =
    let e = c.args.e.now in
    let packet = c.packet_in-in-1.ensures.0 in
    let readable : reads longest_packet (packet_in e) ≡ true =
    ap (reads longest_packet) (sym c.packet_in.ensures.0)
    ∙ ap (λ (n : ℕ). eqb n 0) (sym c.check.ensures)
    ∙ sym (ok_number c.check.result)
    ∙ sym c.is_ok.ensures.value
    ∙ c.if-is_ok.true in (
      ap (λ (p : List ℕ). came (arrival_of p c.arrived_in.result)) packet
          ∙ ap came c.arrived_in.ensures.0
          ∙ sym (entry_came e (kind_came e c.in-1.is readable)),
      (ap (reads longest_packet) packet ∙ readable, c.arrived_in.ensures.1),
    )

pub returns-in-2 : goal.returns-in-2
unfolding entry_of kind_in reads ◌and◌ ◌then◌otherwise◌
returns-in-2 c = grind (arith, tests)

pub returns-in-3 : goal.returns-in-3
unfolding entry_of kind_in reads ◌and◌ ◌then◌otherwise◌
returns-in-3 c = grind (arith, tests)

pub returns-in-4 : goal.returns-in-4
unfolding entry_of kind_in reads ◌and◌ ◌then◌otherwise◌
returns-in-4 c = grind (arith, tests)

pub returns-in-5 : goal.returns-in-5
unfolding entry_of kind_in reads ◌and◌ ◌then◌otherwise◌
returns-in-5 c = grind (arith, tests)

pub returns-in-6 : goal.returns-in-6
unfolding entry_of kind_in reads ◌and◌ ◌then◌otherwise◌
returns-in-6 c = grind (arith, tests)

pub returns-in_default : goal.returns-in_default
unfolding entry_of kind_in reads ◌and◌ ◌then◌otherwise◌
returns-in_default c =
    elim c.in_default.branch [
      | in_default-via-in-1+else-is_ok w ↦ grind (arith, tests, w.packet_in.ensures.0, w.check.ensures, ok_number w.check.result, w.is_ok.ensures.value, w.if-is_ok.false, w.in-1.is)
      | in_default-via-in-3+else-rate_within w ↦ grind (arith, tests, w.rate_in.ensures, w.rate_within.ensures, w.if-rate_within.false, w.in-3.is)
      | in_default-via-in_default-1 w ↦ grind (arith, tests)
    ]
