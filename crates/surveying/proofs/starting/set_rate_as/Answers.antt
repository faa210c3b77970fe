use Rattle.std.proofs.Common.{[], sym, ap, ◌∙◌}
use Rattle.octets.proofs.Bytes.{known_bytes}
use Rattle.numbers.proofs.RefusalNumbers.{some_number}
use Rattle.rules.specs.Calls.{sets_rate}
use Rattle.rules.specs.declared.RateSettings.{RateSettings}
use Rattle.tables.specs.Called.{call_on}
use Rattle.status.proofs.Asked.{rate_told_lem}
use Rattle.surveying.specs.Start.{rate_call}
use Rattle.surveying.proofs.SettingLaws.{rate_told_as}
use Rattle.surveying.proofs.starting.set_rate_as.Goals as goal

pub returns-in_default : goal.returns-in_default
returns-in_default c =
    let t = c.args.from.now in
    absurd (some_number _ ((c.in_default.ensures []).0 ∙ sym (rate_told_lem t c.requires (known_bytes t c.type_inv.from) []).0))

pub returns : goal.returns
unfolding rate_call
returns c =
    let a = c.args in
    c.set_rate.ensures.1
    ∙ ap (λ (s : RateSettings). (call_on a.to.now (sets_rate s.target s.grace s.penalty)).tables)
    (c.rate_in-rate.ensures ∙ rate_told_as a.from.now c.requires [] _ (c.in-Ok.ensures []).1)
