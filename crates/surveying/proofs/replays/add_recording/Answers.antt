use Rattle.std.proofs.Common.{◌≡◌, true, false, Result, Ok, Err, refl, sym, ap, ◌∙◌, arith}
use lib.ListN.{set}
use Rattle.std.specs.Result.{is_ok}
use Rattle.numbers.specs.Refusals.{refused_number}
use Rattle.numbers.specs.declared.refusal.Refusal.{Refusal}
use Rattle.numbers.proofs.RefusalNumbers.{some_number}
use Rattle.recording.specs.Reader.{file_refusal}
use Rattle.surveying.specs.Promise.{noted, SurveyOn}
use Rattle.surveying.proofs.ReplayLaws.{too_many, is_read, read_refused, read_taken}
use Rattle.surveying.proofs.replays.add_recording.Goals as goal

pub returns-then-from-ge-RECORDING_LIMIT : goal.returns-then-from-ge-RECORDING_LIMIT
returns-then-from-ge-RECORDING_LIMIT c =
    let a = c.args in
    let is = too_many a.file.now a.start.now a.work.now a.counts.now a.refusals.now (omega (arith, c.from.ensures, c.if-from-ge-RECORDING_LIMIT.true)) in (
      sym (ap (λ (s : SurveyOn). s.refusal) is),
      sym (ap (λ (s : SurveyOn). s.start) is),
      sym (ap (λ (s : SurveyOn). s.work) is),
      sym (ap (λ (s : SurveyOn). s.counts) is),
      ap (set a.refusals.now 17) c.number.ensures ∙ sym (ap (λ (s : SurveyOn). s.refusals) is),
    )

pub note-requires : goal.note-requires
note-requires c = omega (arith, c.from.ensures, c.if-from-ge-RECORDING_LIMIT.false)

-- a check's answer, and its number
taken : {A : Type 0} (r : Result A Refusal) → true ≡ is_ok r → refused_number r ≡ 0
taken (Ok x) e = refl
taken (Err refusal) e = cc

refused : {A : Type 0} (r : Result A Refusal) → false ≡ is_ok r → refused_number r ≡ 0 → ⊥
refused (Ok x) e = cc
refused (Err refusal) e = some_number refusal

pub returns-then-is_ok : goal.returns-then-is_ok
returns-then-is_ok c =
    let a = c.args in
    let f = a.file.now in
    let none : file_refusal f ≡ 0 =
    sym c.check-checked.ensures ∙ taken c.check-checked.result (sym c.if-is_ok.true ∙ c.is_ok.ensures.value) in
    let is =
    is_read f a.start.now a.work.now a.counts.now a.refusals.now (omega (arith, c.from.ensures, c.if-from-ge-RECORDING_LIMIT.false))
    ∙ read_taken f a.start.now a.work.now a.counts.now a.refusals.now none in (
      c.check-checked.ensures ∙ sym (ap (λ (s : SurveyOn). s.refusal) is),
      sym (ap (λ (s : SurveyOn). s.start) is),
      c.replay.ensures.1
          ∙ sym (ap (λ (s : SurveyOn). s.work) is),
      c.replay.ensures.0
          ∙ sym (ap (λ (s : SurveyOn). s.counts) is),
      c.note.ensures
          ∙ ap (noted a.refusals.now) (c.refused_number.ensures ∙ c.check-checked.ensures)
          ∙ sym (ap (λ (s : SurveyOn). s.refusals) is),
    )

pub returns-else-is_ok : goal.returns-else-is_ok
returns-else-is_ok c =
    let a = c.args in
    let f = a.file.now in
    let some : file_refusal f ≡ 0 → ⊥ = λ q.
    refused c.check-checked.result (sym c.if-is_ok.false ∙ c.is_ok.ensures.value) (c.check-checked.ensures ∙ q) in
    let is =
    is_read f a.start.now a.work.now a.counts.now a.refusals.now (omega (arith, c.from.ensures, c.if-from-ge-RECORDING_LIMIT.false))
    ∙ read_refused f a.start.now a.work.now a.counts.now a.refusals.now some in (
      c.check-checked.ensures ∙ sym (ap (λ (s : SurveyOn). s.refusal) is),
      sym (ap (λ (s : SurveyOn). s.start) is),
      sym (ap (λ (s : SurveyOn). s.work) is),
      sym (ap (λ (s : SurveyOn). s.counts) is),
      c.note.ensures
          ∙ ap (noted a.refusals.now) (c.refused_number.ensures ∙ c.check-checked.ensures)
          ∙ sym (ap (λ (s : SurveyOn). s.refusals) is),
    )
