-- The survey's state in what a caller lends, and recordings that are read one after another. Which ones the arguments say, and no clause can.
use Rattle.std.specs.Prelude.{◌≡◌, ℕ, List}
use Rattle.surveying.specs.Promise.{SurveyOn, recordings_on}

abbrev pub lent : ℕ → List ℕ → List ℕ → List ℕ → List ℕ → SurveyOn
lent refusal start work counts refusals = record { refusal = refusal; start = start; work = work; counts = counts; refusals = refusals }

-- some recordings lead from the one state to the other, with some refusal of the last
abbrev pub ReadsFrom : SurveyOn → List ℕ → List ℕ → List ℕ → List ℕ → Type 0
ReadsFrom s start work counts refusals =
    (files : List (List ℕ)) × (refusal : ℕ) × (recordings_on files s ≡ lent refusal start work counts refusals)
