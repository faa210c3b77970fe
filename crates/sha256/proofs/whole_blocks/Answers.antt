-- `sha256::whole_blocks` meets its contract.
-- Assumes nothing.
use Rattle.std.proofs.Common.{◌≡◌, ℕ, ◌+◌, ◌-◌, ◌*◌, ◌/◌, ◌++◌, length, take, drop, sym, ap, ◌∙◌, arith, rules, length-append, length-drop, drop-drop, take_at}
use Rattle.std.proofs.lemmas.List.{drop_at}
use Rattle.std.specs.Slice.Iter.{chunks_exact_rest}
use Rattle.sha256.specs.Sha256.{hash_after}
use Rattle.sha256.proofs.BlockLaws.{hash_more}
use Rattle.sha256.proofs.whole_blocks.Goals as goal

pub loop-block-init : goal.loop-block-init
unfolding hash_after
loop-block-init c = search rules

pub loop-block-preserved : goal.loop-block-preserved
loop-block-preserved c =
    let m = c.args.message.now in
    let l = c.loop-block in
    let x = c.in-Some.block.now in
    let left = chunks_exact_rest c.next.new.self in
    let i = length l.yielded in
    let steps = c.in-Some.ensures.steps in
    let n : length x ≡ 64 = steps.1.1 ∙ l.invariant.size in
    let here : drop (64 * i) m ≡ x ++ left = sym l.invariant.rest ∙ steps.1.0 in
    let more : 64 * i + 64 ≡ 64 * (i + 1) = omega arith in
    let fits : 64 + length left ≡ length m - 64 * i =
    ap (λ (k : ℕ). k + length left) (sym n) ∙ sym (length-append x left) ∙ ap length (sym here) ∙ length-drop (64 * i) m in
    rw (length-append l.yielded)
    (record {
      size = steps.0 ∙ l.invariant.size;
      within = omega arith;
      rest = sym (drop_at x left 64 n) ∙ ap (drop 64) (sym here) ∙ drop-drop 64 (64 * i) m ∙ ap (λ (k : ℕ). drop k m) more;
      hash = hash_more m i l.s _ x l.invariant.hash (sym (take_at x left 64 n) ∙ ap (take 64) (sym here)) c.compress-s.ensures;
    })

pub returns : goal.returns
returns c =
    let m = c.args.message.now in
    let l = c.loop-block in
    let left : length (chunks_exact_rest l.block-iterator) ≡ length m - 64 * length l.yielded =
    ap length l.invariant.rest ∙ length-drop (64 * length l.yielded) m in
    let e : length l.yielded ≡ length m / 64 = omega (arith, c.in-None.ensures.steps.1.0) in
    l.invariant.hash ∙ ap (hash_after m) e
