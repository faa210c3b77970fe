use Rattle.tables.specs.Layout.{relay_of}
use Rattle.surveying.proofs.SettingLaws.{all_set}
use Rattle.surveying.proofs.starting.set_as.Goals as goal

pub returns : goal.returns
returns c =
    let a = c.args in
    all_set (relay_of a.from.now) a.to.now _ _ _ c.set_ports_as.ensures c.set_rate_as.ensures
    c.add_locals_of.ensures
