use Rattle.std.proofs.Common.{◌≡◌, ℕ, ◌+◌, ◌++◌, List, [], take, refl, ap, ◌∙◌, sym, subst, append-nil, Option, Some, None, Result, OnOk, add-one}
use Rattle.std.specs.Bool.{⊤}
use Rattle.std.specs.Result.{result_and}
use Rattle.text.specs.Text.{text_of}
use Rattle.text.specs.declared.Text.{Text}
use Rattle.std.specs.Io.KnownBytes.{Appends}
use Rattle.std.proofs.KnownBytes.{Appends-nil}
use Rattle.rules.specs.declared.Tally.{Tally}
use Rattle.text.proofs.TextLaws.{text_within}
use Rattle.console.proofs.Printed.{text_printed, more_printed}
use Rattle.replaying.specs.Promise.{Step, line_in, step_on, ReplayOn, one_more, steps_on}
use Rattle.replay.proofs.replay.Goals as goal
use Rattle.replay.proofs.replay.Goals.{in-Some, in_default}

-- a step's line where it has one, and where it has none
line_there : (o : Option Text) (line : Text) (x : List ℕ) → o ≡ Some line → line_in o ≡ text_of x → line ≡ text_of x
line_there o line x is e = sym (ap line_in is) ∙ e

line_missing : (o : Option Text) (x : List ℕ) → o ≡ None → line_in o ≡ text_of x → x ≡ []
line_missing o x is e = sym (text_printed (text_of []) x (sym (ap line_in is) ∙ e)) ∙ text_printed (text_of []) [] refl

-- the step that follows the first i
module _ (file tables : List ℕ) (counts : Tally) (i : ℕ) (t : List ℕ) (y : Tally)
    (p : t ≡ (steps_on file i tables counts).tables) (q : y ≡ (steps_on file i tables counts).tally) where
  one_step : one_more (steps_on file i tables counts) (step_on file i t y) ≡ steps_on file (i + 1) tables counts
  unfolding steps_on
  one_step = rw (p, q, add-one) refl

  next_tables : (step_on file i t y).tables ≡ (steps_on file (i + 1) tables counts).tables
  unfolding one_more
  next_tables = ap (λ (r : ReplayOn). r.tables) one_step

  next_tally : (step_on file i t y).tally ≡ (steps_on file (i + 1) tables counts).tally
  unfolding one_more
  next_tally = ap (λ (r : ReplayOn). r.tally) one_step

  next_text : (steps_on file i tables counts).text ++ (step_on file i t y).line ≡ (steps_on file (i + 1) tables counts).text
  unfolding one_more
  next_text = ap (λ (r : ReplayOn). r.text) one_step

  next_printed : {E : Type 0} (old mid new : Option (List ℕ)) (line : Text) (all last r : Result ⊤ E) → r ≡ result_and all last
      → line ≡ text_of (step_on file i t y).line → OnOk all (Appends old mid (steps_on file i tables counts).text)
      → OnOk last (Appends mid new (take line.length line.bytes)) → OnOk r (Appends old new (steps_on file (i + 1) tables counts).text)
  next_printed old mid new line all last r is e before more =
      let shown = subst (λ x. OnOk last (Appends mid new x)) (text_printed line _ e) more in
      subst (λ x. OnOk x (Appends old new (steps_on file (i + 1) tables counts).text)) (sym is)
      (subst (λ x. OnOk (result_and all last) (Appends old new x)) next_text
      (more_printed old mid new (steps_on file i tables counts).text (step_on file i t y).line all last before shown))

  none_printed : {E : Type 0} (old mid : Option (List ℕ)) (all : Result ⊤ E) → (step_on file i t y).line ≡ []
      → OnOk all (Appends old mid (steps_on file i tables counts).text) → OnOk all (Appends old mid (steps_on file (i + 1) tables counts).text)
  none_printed old mid all none =
      let text : List ℕ = (steps_on file i tables counts).text in
      subst (λ x. OnOk all (Appends old mid x)) (sym (append-nil text) ∙ ap (λ (x : List ℕ). text ++ x) (sym none) ∙ next_text)

pub loop-i-init : goal.loop-i-init
unfolding steps_on
loop-i-init g c = (refl, refl, Appends-nil _)

pub print-requires : goal.print-requires
print-requires g c =
    text_within c.in-Some.line _ (line_there c.step-stepped.result.line c.in-Some.line _ c.in-Some.is (ap (λ (x : Step). x.line) c.step-stepped.ensures.0))

pub loop-i-preserved : goal.loop-i-preserved
loop-i-preserved g c =
    let l = c.loop-i in
    let file : List ℕ = c.args.file.now in
    let first : List ℕ = c.args.tables.now in
    let step = c.step-stepped.ensures in
    let said = ap (λ (x : Step). x.line) step.0 in (
      step.1 ∙ next_tables file first c.args.counts l.i l.tables l.tally l.invariant.0 l.invariant.1,
      ap (λ (x : Step). x.tally) step.0 ∙ next_tally file first c.args.counts l.i l.tables l.tally l.invariant.0 l.invariant.1,
      elim c.match-stepped.branch [
        | in-Some w ↦
            rw (w.printed-is, w.out-is)
            (next_printed file first c.args.counts l.i l.tables l.tally l.invariant.0 l.invariant.1 _ _ _ w.in-Some.line l.printed w.print.result _
            w.and-printed.ensures
            (line_there c.step-stepped.result.line w.in-Some.line _ w.in-Some.is said)
            l.invariant.2
            w.print.ensures)
        | in_default w ↦
            rw (w.printed-is, w.out-is)
            (none_printed file first c.args.counts l.i l.tables l.tally l.invariant.0 l.invariant.1 _ _ l.printed
            (line_missing c.step-stepped.result.line _ w.in_default.is said)
            l.invariant.2)
      ],
    )
