use Rattle.haskumye.proofs.surveys.haskumye_survey_line.Goals as goal

pub returns : goal.returns
returns c = ((cc), (cc))
