-- The lines one after the other, and recordings one after the other.
use Rattle.std.proofs.Common.{◌≡◌, ℕ, ◌+◌, List, [], ◌∷◌, ◌++◌, take, refl, sym, ap, ◌∙◌, subst, Option, Result, OnOk, add-one}
use Rattle.std.specs.Bool.{⊤}
use Rattle.std.specs.Result.{result_and}
use Rattle.std.specs.Io.KnownBytes.{Appends}
use Rattle.octets.specs.Index.{list_of}
use Rattle.octets.specs.Part.{joined}
use Rattle.octets.proofs.Joined.{joined_append, joined_one}
use Rattle.text.specs.Text.{text_of}
use Rattle.text.specs.declared.Text.{Text}
use Rattle.console.proofs.Printed.{text_printed, more_printed}
use Rattle.surveying.specs.Promise.{SurveyOn, start_on, recording_on, recordings_on, Surveys, line_at, line_count, text_on}
use Rattle.surveying.specs.Lines.{settings_line}
use Rattle.surveying.specs.Survey.{survey}
use Rattle.surveying.proofs.StartLaws.{start_refusal}
use Rattle.surveying.proofs.SurveyLaws.{survey_printed, survey_refused}
use Rattle.survey.specs.Reading.{lent, ReadsFrom}

abbrev lines : (ℕ → List ℕ) → ℕ → List ℕ
lines f n = joined f (list_of (λ i. i) n)

pub lines_none : (f : ℕ → List ℕ) → lines f 0 ≡ []
unfolding joined list_of
lines_none f = refl

lines_more : (f : ℕ → List ℕ) (n : ℕ) → lines f n ++ f n ≡ lines f (n + 1)
unfolding list_of
lines_more f n =
    ap (λ (x : List ℕ). lines f n ++ x) (sym (joined_one f n)) ∙ sym (joined_append f (list_of (λ i. i) n) (n ∷ [])) ∙ ap (lines f) (sym (add-one n))

pub next_line : {E : Type 0} (f : ℕ → List ℕ) (n : ℕ) (old mid new : Option (List ℕ)) (line : Text) (all last r : Result ⊤ E)
    → r ≡ result_and all last → line ≡ text_of (f n) → OnOk all (Appends old mid (lines f n)) → OnOk last (Appends mid new (take line.length line.bytes))
    → OnOk r (Appends old new (lines f (n + 1)))
next_line f n old mid new line all last r is e before more =
    let shown = subst (λ x. OnOk last (Appends mid new x)) (text_printed line _ e) more in
    subst (λ x. OnOk x (Appends old new (lines f (n + 1)))) (sym is)
    (subst (λ x. OnOk (result_and all last) (Appends old new x)) (lines_more f n)
    (more_printed old mid new (lines f n) (f n) all last before shown))

-- one recording more
recordings_more : (files : List (List ℕ)) (file : List ℕ) (s : SurveyOn)
    → recordings_on (files ++ (file ∷ [])) s
    ≡ recording_on file (recordings_on files s).start (recordings_on files s).work (recordings_on files s).counts (recordings_on files s).refusals
unfolding recordings_on
recordings_more [] file s = refl
recordings_more (f ∷ files) file s = recordings_more files file (recording_on f s.start s.work s.counts s.refusals)

pub reads_none : (start work counts refusals : List ℕ) → ReadsFrom (lent 0 start work counts refusals) start work counts refusals
unfolding recordings_on
reads_none start work counts refusals = ([], 0, refl)

surveyed : (x : SurveyOn) (refusal : ℕ) (start work counts refusals : List ℕ) → Surveys x refusal start work counts refusals
    → x ≡ lent refusal start work counts refusals
surveyed x refusal start work counts refusals s = λ i. lent (sym s.0 i) (sym s.1 i) (sym s.2 i) (sym s.3 i) (sym s.4 i)

pub reads_more : (s : SurveyOn) (file start work counts refusals work' counts' refusals' : List ℕ) (refusal : ℕ)
    → ReadsFrom s start work counts refusals
    → Surveys (recording_on file start work counts refusals) refusal start work' counts' refusals'
    → ReadsFrom s start work' counts' refusals'
reads_more s file start work counts refusals work' counts' refusals' refusal h step = (
  h.0 ++ (file ∷ []),
  refusal,
  recordings_more h.0 file s
      ∙ ap (λ (r : SurveyOn). recording_on file r.start r.work r.counts r.refusals) h.2
      ∙ surveyed (recording_on file start work counts refusals) refusal start work' counts' refusals' step,
)

-- ---- what a start and a reading print
module _ (settings start work counts refusals : List ℕ) where
  pub settings_printed : (refusal : ℕ) → refusal ≡ (start_on settings start work counts refusals).refusal → (refusal ≡ 0 → ⊥)
      → settings_line refusal ≡ survey settings []
  settings_printed refusal e ne =
      ap settings_line e
      ∙ sym (survey_refused settings start work counts refusals [] (λ z. ne (e ∙ start_refusal settings start work counts refusals ∙ z)))

  abbrev lines_of : List ℕ → List ℕ → List ℕ
  lines_of counts' refusals' = lines (line_at counts' refusals') line_count

  text_lent : (s : SurveyOn) (refusal : ℕ) (start' work' counts' refusals' : List ℕ) → s ≡ lent refusal start' work' counts' refusals'
      → text_on s ≡ lines_of counts' refusals'
  unfolding text_on
  text_lent s refusal start' work' counts' refusals' e = ap text_on e

  pub survey_lines : (refusal : ℕ) (start' work' counts' refusals' work'' counts'' refusals'' : List ℕ)
      → Surveys (start_on settings start work counts refusals) refusal start' work' counts' refusals' → refusal ≡ 0
      → ReadsFrom (lent 0 start' work' counts' refusals') start' work'' counts'' refusals''
      → (files : List (List ℕ)) × (lines_of counts'' refusals'' ≡ survey settings files)
  survey_lines refusal start' work' counts' refusals' work'' counts'' refusals'' s none h =
      let first : SurveyOn = start_on settings start work counts refusals in
      let begun : first ≡ lent 0 start' work' counts' refusals' =
      surveyed first refusal start' work' counts' refusals' s ∙ ap (λ r. lent r start' work' counts' refusals') none in (
        h.0,
        sym (text_lent (recordings_on h.0 first) h.1 start' work'' counts'' refusals'' (ap (recordings_on h.0) begun ∙ h.2))
            ∙ survey_printed settings start work counts refusals h.0 (sym (start_refusal settings start work counts refusals) ∙ sym s.0 ∙ none),
      )
