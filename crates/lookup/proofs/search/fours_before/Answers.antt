use native.Mathlib.Omega.{arith}
use Prim.Native.Nat.{ℕ, ◌+◌, ◌*◌, ◌/◌}
use lib.ListN.{take, length, length-take}
use mathlib.Core.List.{List}
use mathlib.Core.Bool.{Bool, not}
use mathlib.Core.Path.{◌≡◌, sym, ap, ◌∙◌}
use Rattle.std.proofs.Common.{rules}
use Rattle.std.specs.Prelude.{unwrap_or}
use Rattle.octets.specs.Index.{first}
use Rattle.octets.proofs.Index.{first_none, first_le}
use Rattle.octets.proofs.Chains.{place_or}
use Rattle.octets.specs.Part.{part}
use Rattle.tables.specs.Layout.{record_at}
use Rattle.tables.proofs.Chunks.{chunk_place}
use Rattle.lookup.specs.Search.{none_is, lowest_record, fours_before}
use Rattle.lookup.proofs.Searches.{fours_within, lowest_of_part}
use Rattle.lookup.proofs.search.fours_before.Goals as goal

pub overflow_mul-table-2 : goal.overflow_mul-table-2
overflow_mul-table-2 c = let l = fours_within c.args.table.width c.args.table.count in search rules

pub returns-then-fours-eq0 : goal.returns-then-fours-eq0
returns-then-fours-eq0 c =
    let a = c.args in
    let p : List ℕ → Bool = λ four. not (none_is a.last (1 + a.tail) a.table.width 4 four) in
    sym (ap (λ (n : ℕ). fours_before p a.table.width n a.records.now) c.if-fours-eq0.true
    ∙ first_none (λ g. p (record_at 0 (a.table.width * 4) a.records.now g)))

pub slice_bounds-chunks_exact-end : goal.slice_bounds-chunks_exact-end
slice_bounds-chunks_exact-end c =
    let a = c.args in
    let n : ℕ = a.table.width * 4 * (a.table.count / 4) in
    omega (arith, length-take n a.records.now, fours_within a.table.width a.table.count, c.requires.0)

pub returns : goal.returns
unfolding lowest_record part
returns c =
    let a = c.args in
    let w : ℕ = a.table.width in
    let n : ℕ = a.table.count / 4 in
    let q : List ℕ → Bool = λ four. not (none_is a.last (1 + a.tail) w 4 four) in
    let xs : List ℕ = take (w * 4 * n) a.records.now in
    let long : length xs ≡ w * 4 * n =
    omega (arith, length-take (w * 4 * n) a.records.now, fours_within w a.table.count, c.requires.0) in
    c.unwrap_or.ensures
    ∙ ap (λ r. unwrap_or r n)
    (chunk_place q (w * 4) n c.chunks_exact.ensures.size (omega arith) (λ x b k s. search rules) xs c.chunks_exact.ensures.rest long c.position.ensures.ran)
    ∙ place_or (first (λ g. q (record_at 0 (w * 4) xs g)) n) n (first_le (λ g. q (record_at 0 (w * 4) xs g)) n)
    ∙ lowest_of_part q 0 (w * 4) n a.records.now
