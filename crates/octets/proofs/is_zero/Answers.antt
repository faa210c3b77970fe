-- the end and the first sixteen bytes, which are read before the loop
use Rattle.std.proofs.Common.{Bool, true, ℕ, ◌+◌, ◌-◌, ◌≤◌, List, ◌++◌, ◌≡◌, sym, ap, ◌∙◌, length, drop, take, bit_or, arith, length-drop, length-append}
use Rattle.std.proofs.Math.Seq.{take-append_seam, drop-append_seam, take_all}
use Rattle.std.proofs.Common.{ap₂, drop-drop}
use Rattle.octets.specs.Index.{◌and◌, zeros}
use Rattle.octets.specs.Part.{part}
use Rattle.octets.specs.BigEndian.{word}
use Rattle.octets.proofs.Index.{and_true, and_assoc, and_implied}
use Rattle.octets.proofs.Agree.{zeros_none}
use Rattle.octets.proofs.Part.{part_whole}
use Rattle.octets.proofs.Zeros.{zeros_over, zeros_fewer, zeros_within, word_part, word_more}
use Rattle.octets.proofs.is_zero.Goals as goal

read : (s rest : List ℕ) → ℕ
read s rest = length s - length rest

within : (s rest : List ℕ) → rest ≡ drop (length s - length rest) s → length rest ≤ length s
within s rest e = omega (arith, ap length e ∙ length-drop (length s - length rest) s)

module _ (s rest chunk after : List ℕ) (left : rest ≡ drop (length s - length rest) s) (split : rest ≡ chunk ++ after) (eight : length chunk ≡ 8) where
  counted : length rest ≡ 8 + length after
  counted = ap length split ∙ length-append chunk after ∙ ap (λ n. n + length after) eight

  turned : length s - length after ≡ length s - length rest + 8
  turned = omega (arith, counted, within s rest left)

  chunk_is : chunk ≡ part s (length s - length rest) 8
  unfolding part
  chunk_is = sym (take-append_seam chunk after) ∙ ap₂ (λ (n : ℕ) (xs : List ℕ). take n xs) eight (sym split) ∙ ap (take 8) left

  after_is : after ≡ drop (length s - length after) s
  after_is =
      sym (drop-append_seam chunk after) ∙ ap₂ (λ (n : ℕ) (xs : List ℕ). drop n xs) eight (sym split) ∙ ap (drop 8) left
      ∙ drop-drop 8 (length s - length rest) s ∙ ap (λ n. drop n s) (omega (arith, turned))

pub loop-word-init : goal.loop-word-init
loop-word-init c =
    let s = c.args.s.now in
    let from = c.args.from in
    let last = length s - 8 in
    let end : Bool = zeros 8 (part s last 8) in
    let none = word_part s last 8 (omega (arith, c.requires.0)) c.word_at.ensures
    ∙ sym (ap (λ (b : Bool). end and b) (zeros_none s) ∙ and_true end) in
    let eight = word_more s 0 8 (omega (arith, c.requires.0)) c.word_at-2.ensures c.word_at.result end none in
    let sixteen = word_more s 8 8 (omega (arith, c.requires.0)) c.word_at-3.ensures
    (bit_or c.word_at.result c.word_at-2.result) end eight in
    let rest : c.into_iter-word-iterator.result.rest.now ≡ drop from s = ap (λ r. r.rest.now) c.into_iter-word-iterator.ensures.into_iter_gives ∙ c.chunks_exact-word-items.ensures.rest
    ∙ take_all (length s - from) (drop from s) (omega (arith, length-drop from s)) in
    let place : length s - length c.into_iter-word-iterator.result.rest.now ≡ from = omega (arith, ap length rest ∙ length-drop from s, c.requires.0, c.requires.1) in
    record {
      size = ap (λ r. r.size) c.into_iter-word-iterator.ensures.into_iter_gives ∙ c.chunks_exact-word-items.ensures.size;
      rest = rest ∙ ap (λ n. drop n s) (sym place);
      zero = sixteen ∙ ap (λ (b : Bool). end and b) (sym (zeros_within s from 16 c.requires.1)) ∙ sym (and_assoc end (zeros 16 s) (zeros from s))
          ∙ ap (λ n. (end and zeros 16 s) and zeros n s) (sym place);
    }

pub loop-word-preserved : goal.loop-word-preserved
loop-word-preserved c =
    let s = c.args.s.now in
    let rest = c.loop-word.word-iterator.rest.now in
    let inv = c.loop-word.invariant in
    let steps = c.in-Some.ensures.steps in
    let chunk = c.in-Some.word.now in
    let after = c.next.new.self.rest.now in
    let eight : length chunk ≡ 8 = steps.1.1 ∙ inv.size in
    let is : chunk ≡ part s (length s - length rest) 8 = chunk_is s rest chunk after inv.rest steps.1.0 eight in
    let read = c.word_at-x.ensures ∙ ap word (part_whole chunk 8 eight ∙ is) in
    record {
      size = steps.0 ∙ inv.size;
      rest = after_is s rest chunk after inv.rest steps.1.0 eight;
      zero = word_more s (length s - length rest) 8
          (omega (arith, counted s rest chunk after inv.rest steps.1.0 eight, within s rest inv.rest)) read c.loop-word.x (zeros 8 (part s (length s - 8) 8) and zeros 16 s) inv.zero
          ∙ ap (λ n. (zeros 8 (part s (length s - 8) 8) and zeros 16 s) and zeros n s) (sym (turned s rest chunk after inv.rest steps.1.0 eight));
    }

pub returns : goal.returns
returns c =
    let s = c.args.s.now in
    let rest = c.loop-word.word-iterator.rest.now in
    let i = length s - length rest in
    let last : length s - 8 ≤ i = omega (arith, c.in-None.ensures.steps.1.0, c.loop-word.invariant.size) in
    let whole = zeros_over s i (length s - 8) 8 last (omega (arith, c.requires.0)) in
    let end : Bool = zeros 8 (part s (length s - 8) 8) in
    let sixteen : (end and zeros i s) ≡ true → zeros 16 s ≡ true =
    λ h. zeros_fewer s 16 (length s - 8 + 8) (omega (arith, c.requires.0)) (whole ∙ h) in
    c.loop-word.invariant.zero
    ∙ and_implied end (zeros 16 s) (zeros i s) sixteen
    ∙ sym whole
    ∙ ap (λ (k : ℕ). zeros k s) (omega (arith, c.requires.0))
