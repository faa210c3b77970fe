use Rattle.haskumye.proofs.answer_texts.haskumye_answer_text.Goals as goal

pub returns : goal.returns
returns c = ((cc), (cc))
