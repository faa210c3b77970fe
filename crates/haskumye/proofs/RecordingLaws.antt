-- What the code of the recordings' exports leaves: an entry's numbers, a writing's length, and what a step gives.
use Prim.Native.Nat.{ℕ, ◌≤◌}
use native.Mathlib.Omega.{arith}
use mathlib.Core.Bool.{Bool, true, false}
use mathlib.Core.List.{List}
use mathlib.Core.Path.{◌≡◌, refl, sym, ap, ◌∙◌}
use lib.Dec.{ltb}
use lib.ListN.{length}
use borrow.Author.Tests.{ltb-true, ltb-false}
use Rattle.octets.proofs.Choice.{then_true, then_false}
use Rattle.recording.specs.Reader.{fields_of}
use Rattle.recording.specs.Writer.{writing_refusal, Writing, writing}
use Rattle.recording.specs.Reader.{Fields}
use Rattle.numbers.specs.Refusals.{Written}
use Rattle.recording.specs.Format.{longest_file}
use Rattle.recording.proofs.WriteLaws.{writable, writing_done, writing_refused}
use Rattle.replaying.specs.Promise.{StepOn, Step}
use Rattle.replaying.proofs.StepLaws.{found}
use Rattle.text.specs.Text.{text_of}
use Rattle.crossing.specs.Recordings.{entry_numbers, entry_refusal, entry_after, line_after}

-- ---- entry i, and the caller's numbers after the call
module _ (f : List ℕ) (i : ℕ) (old : List ℕ) (fields : Fields) (e : fields ≡ fields_of f i) where
  pub entry_given : fields.there ≡ true → (new : List ℕ) → new ≡ entry_numbers fields → (0 ≡ entry_refusal f i) × (new ≡ entry_after f i old)
  unfolding entry_refusal entry_after
  entry_given there new q =
      let t = sym (found f i fields e) ∙ there in
      (sym (then_true 0 22 t), q ∙ ap entry_numbers e ∙ sym (then_true _ old t))

  pub entry_missing : fields.there ≡ false → (22 ≡ entry_refusal f i) × (old ≡ entry_after f i old)
  unfolding entry_refusal entry_after
  entry_missing gone =
      let t = sym (found f i fields e) ∙ gone in
      (sym (then_false 0 22 t), sym (then_false _ old t))

-- ---- a file's length is at most 60,000
pub recorded_most : (w : Written) (g bodies room : List ℕ) → w ≡ (writing g bodies room).answer → w.length ≤ longest_file
recorded_most w g bodies room e = go (ltb 0 refusal) refl
  where
    refusal : ℕ
    refusal = writing_refusal g bodies (length room)

    size : (x : Writing) → writing g bodies room ≡ x → w.length ≡ x.answer.length
    size x d = ap (λ (a : Written). a.length) e ∙ ap (λ (y : Writing). y.answer.length) d

    go : (v : Bool) → ltb 0 refusal ≡ v → w.length ≤ longest_file
    go true t =
        let some = ltb-true 0 refusal t in
        omega (arith, size _ (writing_refused g bodies room (λ (z : refusal ≡ 0). omega arith)))
    go false t =
        let least = ltb-false 0 refusal t in
        let zero : refusal ≡ 0 = omega arith in
        omega (arith, size _ (writing_done g bodies room zero), (writable g bodies (length room) zero).short)

-- ---- what a step returned, and the caller's line after it
module _ (s : StepOn) (r : Step) (e : r ≡ record { there = s.there; answer = s.answer; tally = s.tally; line = text_of s.line }) (old : List ℕ) where
  pub line_written : r.there ≡ true → r.line.bytes ≡ line_after s old
  unfolding line_after
  line_written t =
      ap (λ (x : Step). x.line.bytes) e ∙ sym (then_true (text_of s.line).bytes old (ap (λ (x : Step). x.there) (sym e) ∙ t))

  pub line_stays : r.there ≡ false → old ≡ line_after s old
  unfolding line_after
  line_stays t = sym (then_false (text_of s.line).bytes old (ap (λ (x : Step). x.there) (sym e) ∙ t))
