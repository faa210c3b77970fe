use Rattle.std.proofs.lemmas.Grind.{common_steps}
use native.Mathlib.Omega.{arith}
use borrow.Author.Tests.{tests}
use mathlib.Core.Path.{◌≡◌}
use Rattle.std.proofs.Common.{rules, lit<}
use Rattle.octets.specs.Index.{◌and◌}
use Rattle.tables.specs.Layout.{records_ok}
use Rattle.tables.proofs.Chunks.{every_chunk_of}
use Rattle.numbers.specs.Numbers.{port_count, local_count}
use Rattle.tables.specs.Places.{port_width, local_width, ports_at, locals_at}
use Rattle.tables.specs.Layout.{start_ok, front_ok}
use Rattle.tables.specs.Records.{port_bytes_ok, local_bytes_ok}
use Rattle.tables.proofs.section_check.front_ok.Goals as goal
use Rattle.tables.proofs.section_check.front_ok.Goals.{Joined-start_ok, then-start_ok, else-start_ok}

-- what the two tests before the local addresses say
before : (c : Joined-start_ok) → c.if-start_ok.value ≡ (start_ok c.args.t.now and records_ok port_bytes_ok ports_at port_width port_count c.args.t.now)
unfolding ◌and◌
before c =
    elim c.if-start_ok.branch [
      | then-start_ok w ↦
          let ports = every_chunk_of port_bytes_ok port_width port_count w.all.ensures.ran w.chunks_exact.ensures.size (lit< tt) (λ x b q k. search rules)
          ports_at c.args.t.now w.chunks_exact.ensures.rest (omega (arith, c.requires)) in
          grind (arith, common_steps, tests)
      | else-start_ok w ↦ grind (arith, common_steps, tests)
    ]

pub returns-then-all : goal.returns-then-all
unfolding front_ok ◌and◌
returns-then-all c =
    let locals = every_chunk_of local_bytes_ok local_width local_count c.all-then-all.ensures.ran c.chunks_exact-then-all.ensures.size (lit< tt)
    (λ x b q k. search rules) locals_at c.args.t.now c.chunks_exact-then-all.ensures.rest (omega (arith, c.requires)) in
    let ports = before (goal.at.returns-then-all c).Joined-start_ok in
    grind (arith, common_steps, tests)

pub returns-else-all : goal.returns-else-all
unfolding front_ok ◌and◌
returns-else-all c = let ports = before (goal.at.returns-else-all c).Joined-start_ok in grind (arith, common_steps, tests)
