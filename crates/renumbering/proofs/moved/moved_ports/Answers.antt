use Prim.Native.Nat.{ℕ, ◌*◌}
use mathlib.Core.Path.{ap, ◌∙◌}
use lib.ListN.{get_or}
use Rattle.octets.specs.Part.{patch}
use Rattle.rules.specs.Relay.{no_port}
use Rattle.rules.specs.Renumbering.{moved_ports}
use Rattle.tables.specs.Places.{port_width}
use Rattle.tables.specs.Records.{port_bytes}
use Rattle.tables.specs.Layout.{relay_of}
use Rattle.tables.proofs.Lent.{port_lent}
use Rattle.tables.proofs.Section.{up_none}
use Rattle.renumbering.proofs.Moves.{moved_more, moved_all}
use borrow.Author.Rules.{rules}
use Rattle.renumbering.proofs.moved.moved_ports.Goals as goal

pub loop-n-init : goal.loop-n-init
loop-n-init c =
    let a = c.args in
    up_none port_lent 0 (moved_ports a.map.now (relay_of a.tables.now).ports) _

pub loop-n-preserved : goal.loop-n-preserved
loop-n-preserved c =
    let a = c.args in
    let s = c.loop-n in
    let ports = (relay_of a.tables.now).ports in
    let settings = c.settings_of-settings.ensures ∙ ap (λ (i : ℕ). port_bytes (get_or ports i no_port)) c.preimage_of-i.ensures in
    c.copy_at.ensures
    ∙ ap (patch s.moved (port_width * s.n)) settings
    ∙ moved_more a.map.now ports _ (search rules) s.n s.moved s.invariant c.loop-n-test.true

pub returns : goal.returns
returns c =
    let a = c.args in
    let s = c.loop-n in
    moved_all a.map.now (relay_of a.tables.now).ports _ (search rules) s.n s.moved s.invariant c.loop-n-test.false
