use mathlib.Core.Path.{◌∙◌}
use Rattle.crossing.proofs.AnswerTexts.{refused_made, drop_made, deliver_made, forward_made, spread_made, kept_made, none_made}
use Rattle.crossing.proofs.answer_texts.number_text.Goals as goal

pub returns-in-0 : goal.returns-in-0
returns-in-0 c =
    c.with_number.ensures
    ∙ rw (c.from.ensures, c.with_text.ensures, c.empty.ensures) (refused_made _ c.in-0.is)

pub returns-in-1 : goal.returns-in-1
returns-in-1 c = c.with_reason.ensures ∙ rw (c.with_text-in-1.ensures, c.empty-in-1.ensures) (drop_made _ c.in-1.is)

pub returns-in-2 : goal.returns-in-2
returns-in-2 c = c.with_text-in-2.ensures ∙ rw c.empty-in-2.ensures (deliver_made _ c.in-2.is)

pub returns-in-3 : goal.returns-in-3
returns-in-3 c = c.with_number-in-3.ensures ∙ rw (c.from-in-3.ensures, c.with_text-in-3.ensures, c.empty-in-3.ensures) (forward_made _ c.in-3.is)

pub returns-in-4 : goal.returns-in-4
returns-in-4 c = c.with_ports.ensures ∙ rw (c.with_text-in-4.ensures, c.empty-in-4.ensures) (spread_made _ c.in-4.is)

pub returns-in-5 : goal.returns-in-5
returns-in-5 c = c.with_text-in-5.ensures ∙ rw c.empty-in-5.ensures (kept_made _ c.in-5.is)

pub returns-in_default : goal.returns-in_default
returns-in_default c =
    let r = c.in_default.in_default-own.rest in
    c.empty-in_default.ensures ∙ none_made _ r.0.0.0.0.0.1 r.0.0.0.0.1 r.0.0.0.1 r.0.0.1 r.0.1 r.1
