use Rattle.std.proofs.lemmas.Grind.{common_steps}
use native.Mathlib.Omega.{arith}
use borrow.Author.Tests.{tests}
use Prim.Native.Nat.{ℕ, ◌+◌, ◌*◌}
use lib.Dec.{ltb}
use mathlib.Core.Path.{◌≡◌, ap, ◌∙◌}
use Rattle.std.proofs.Common.{lit≤}
use Rattle.octets.specs.Index.{◌and◌}
use Rattle.octets.specs.Part.{part}
use Rattle.octets.specs.BigEndian.{number}
use Rattle.tables.specs.Layout.{records_ok}
use Rattle.tables.proofs.Plain.{returns_grouped, hashes_grouped}
use Rattle.tables.proofs.Whole.{back_clauses}
use Rattle.octets.proofs.Part.{part_range}
use Rattle.numbers.specs.Numbers.{link_count, return_count, hash_count}
use Rattle.tables.specs.Places.{ring_width, link_width, return_width, hash_width}
use Rattle.tables.specs.Records.{link_bytes_ok, return_bytes_ok, hash_bytes_ok}
use Rattle.tables.proofs.Chunks.{ring_in, records_of_part}
use Rattle.tables.proofs.section_check.back_ok.Goals as goal
use Rattle.tables.proofs.section_check.back_ok.Goals.{Joined-links_ok, then-links_ok, else-links_ok}

pub ring_ok-requires-clause-grouped : goal.ring_ok-requires-clause-grouped
ring_ok-requires-clause-grouped c = returns_grouped _ (lit≤ tt)

pub ring_ok-requires-then-ring_ok-clause-grouped : goal.ring_ok-requires-then-ring_ok-clause-grouped
ring_ok-requires-then-ring_ok-clause-grouped c = hashes_grouped _ (lit≤ tt)

before : (c : Joined-links_ok) → c.if-links_ok.value
    ≡ (records_ok link_bytes_ok c.args.at link_width link_count c.args.t.now
    and (ltb (number (part c.args.t.now (c.args.at + link_width * link_count) ring_width)) return_count
    and records_ok return_bytes_ok (c.args.at + link_width * link_count + ring_width) return_width return_count c.args.t.now))
unfolding ◌and◌
before c =
    let t = c.args.t.now in
    let a : ℕ = c.args.at + link_width * link_count in
    let links = c.links_ok.ensures ∙ ap (records_ok link_bytes_ok 0 link_width link_count) (part_range t c.args.at (link_width * link_count))
    ∙ records_of_part link_bytes_ok c.args.at link_width link_count t in
    elim c.if-links_ok.branch [
      | then-links_ok w ↦
          let returns = w.ring_ok.ensures ∙ ring_in return_bytes_ok a return_width return_count t (omega arith) (omega arith) in
          grind (arith, common_steps, tests)
      | else-links_ok w ↦ grind (arith, common_steps, tests)
    ]

pub returns-then-ring_ok : goal.returns-then-ring_ok
unfolding ◌and◌
returns-then-ring_ok c =
    let a : ℕ = c.args.at + link_width * link_count + (ring_width + return_width * return_count) in
    let front = before (goal.at.returns-then-ring_ok c).Joined-links_ok in
    let hashes = c.ring_ok-then-ring_ok.ensures ∙ ring_in hash_bytes_ok a hash_width hash_count c.args.t.now (omega arith) (omega arith) in
    rw (back_clauses c.args.t.now c.args.at) (grind (arith, common_steps, tests))

pub returns-else-ring_ok : goal.returns-else-ring_ok
unfolding ◌and◌
returns-else-ring_ok c =
    let front = before (goal.at.returns-else-ring_ok c).Joined-links_ok in
    rw (back_clauses c.args.t.now c.args.at) (grind (arith, common_steps, tests))
