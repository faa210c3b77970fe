use Rattle.std.proofs.iter.Serving.{serving}
use native.Mathlib.Omega.{arith}
use Prim.Native.Nat.{ℕ, ◌+◌, ◌-◌, ◌*◌, ◌≤◌}
use lib.ListN.{length, take, drop}
use mathlib.Core.List.{List}
use mathlib.Core.Bool.{Bool, false, not}
use mathlib.Core.Path.{◌≡◌, refl, sym, ◌∙◌}
use Rattle.std.proofs.Common.{rules}
use Rattle.octets.specs.Index.{first}
use Rattle.octets.specs.BigEndian.{word_width}
use Rattle.tables.specs.Layout.{record_at}
use Rattle.tables.proofs.Chunks.{chunk_place}
use Rattle.lookup.specs.Search.{last_word, none_is, is_live_of, lowest_record, found}
use Rattle.lookup.proofs.Searches.{as_found, others_four, passed_within, long_behind, no_more, none_behind, one_behind}
use Rattle.lookup.proofs.search.live_place.Goals as goal
use Rattle.lookup.proofs.search.live_place.Goals.{After-fours_before-passed, After-position}

-- the tests of a record and of a four, and how many records stand in the fours that are passed
abbrev test : After-fours_before-passed → List ℕ → Bool
test c = is_live_of c.args.key.now c.args.table.expiry c.args.clock

abbrev some : After-fours_before-passed → List ℕ → Bool
some c four = not (none_is c.word_at-last.result (1 + (length c.args.key.now - word_width)) c.args.table.width 4 four)

none : (c : After-fours_before-passed) (four : List ℕ) → some c four ≡ false → lowest_record (test c) 0 c.args.table.width 4 four ≡ 4
unfolding last_word
none c four h =
    let a = c.args in
    others_four a.key.now a.table.expiry a.clock a.table.width four c.word_at-last.result c.requires.1 c.requires.3 c.word_at-last.ensures h

few : (c : After-fours_before-passed) → c.fours_before-passed.result * 4 ≤ c.args.table.count
few c =
    let records = c.records_of-records in
    no_more (test c) (some c) c.args.table.width records.result.now (λ j. none c _) c.args.table.at c.args.table.count c.args.tables.now
    records.ensures.bytes records.ensures.long c.fours_before-passed.ensures

within : (c : After-fours_before-passed) → c.args.table.width * (c.fours_before-passed.result * 4) ≤ c.args.table.width * c.args.table.count
within c =
    let records = c.records_of-records in
    passed_within (test c) (some c) c.args.table.width records.result.now (λ j. none c _) c.args.table.at c.args.table.count c.args.tables.now
    records.ensures.bytes records.ensures.long c.fours_before-passed.ensures

pub overflow_mul-passed : goal.overflow_mul-passed
overflow_mul-passed c = let l = few c in search rules

pub overflow_mul-table : goal.overflow_mul-table
overflow_mul-table c = let l = within c in search rules

pub slice_bounds-chunks_exact-count : goal.slice_bounds-chunks_exact-count
slice_bounds-chunks_exact-count c = omega (arith, within c, c.records_of-records.ensures.long)

pub slice_bounds-chunks_exact-start : goal.slice_bounds-chunks_exact-start
slice_bounds-chunks_exact-start c = omega (arith, within c, c.records_of-records.ensures.long)

pub position-requires-clause-callable : goal.position-requires-clause-callable
unfolding last_word
position-requires-clause-callable c = grind serving

-- the bytes behind the fours, and the search through them
abbrev behind : List ℕ → ℕ → List ℕ
behind t passed = take (length t - passed) (drop passed t)

long : (c : After-fours_before-passed)
    → length (behind c.records_of-records.result.now (c.args.table.width * (c.fours_before-passed.result * 4)))
    ≡ c.args.table.width * (c.args.table.count - c.fours_before-passed.result * 4)
long c =
    let records = c.records_of-records in
    long_behind (test c) (some c) c.args.table.width records.result.now (λ j. none c _) c.args.table.at c.args.table.count c.args.tables.now records.ensures.bytes
    records.ensures.long c.fours_before-passed.ensures

of_rest : (c : After-position) → (xs : List ℕ) → xs ≡ behind c.records_of-records.result.now (c.args.table.width * (c.fours_before-passed.result * 4))
    → (n : ℕ) → length xs ≡ c.args.table.width * n
    → c.position.result ≡ found n (first (λ i. is_live_of c.args.key.now c.args.table.expiry c.args.clock (record_at 0 c.args.table.width xs i)) n)
of_rest c xs e n l =
    as_found n
    (chunk_place (is_live_of c.args.key.now c.args.table.expiry c.args.clock) c.args.table.width n c.chunks_exact.ensures.size (omega arith)
    (λ x k q s. search rules) xs (c.chunks_exact.ensures.rest ∙ sym e) l c.position.ensures.ran)
    refl

pub returns-in_err-place : goal.returns-in_err-place
returns-in_err-place c =
    let a = c.args in
    let records = c.records_of-records in
    let b = (goal.at.returns-in_err-place c).After-fours_before-passed in
    c.from_residual.ensures
    ∙ none_behind (test b) (some b) a.table.width records.result.now (λ j. none b _) a.table.at a.table.count a.tables.now records.ensures.bytes
    records.ensures.long c.fours_before-passed.ensures
    (sym c.in_err-place.was ∙ of_rest (goal.at.returns-in_err-place c).After-position _ refl (a.table.count - c.fours_before-passed.result * 4) (long b))

pub returns : goal.returns
returns c =
    let a = c.args in
    let records = c.records_of-records in
    let b = (goal.at.returns c).After-fours_before-passed in
    one_behind (test b) (some b) a.table.width records.result.now (λ j. none b _) a.table.at a.table.count a.tables.now records.ensures.bytes
    records.ensures.long c.fours_before-passed.ensures
    (sym c.in_ok-place.was ∙ of_rest (goal.at.returns c).After-position _ refl (a.table.count - c.fours_before-passed.result * 4) (long b))
