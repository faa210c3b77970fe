use mathlib.Core.Path.{refl, ◌∙◌}
use Rattle.octets.proofs.Bytes.{known_bytes}
use Rattle.act.proofs.Stays.{drop_limited, drop_stays}
use Rattle.act.proofs.drops.drop_packet.Goals as goal
use Rattle.act.proofs.drops.drop_packet.Goals.{in-RateLimited, in_default}

pub returns-then-matches : goal.returns-then-matches
returns-then-matches c =
    elim c.match-matches.branch [
      | in-RateLimited w ↦
          let b = known_bytes c.args.tables.now c.slice_known-1.given in
          (refl, c.limit.ensures ∙ drop_limited _ c.args.arrived _ c.requires.formed b _ w.in-RateLimited.is)
      | in_default w ↦ cc
    ]

pub returns-else-matches : goal.returns-else-matches
returns-else-matches c =
    elim c.match-matches.branch [
      | in-RateLimited w ↦ cc
      | in_default w ↦
          (refl, drop_stays _ c.args.arrived _ c.requires.formed (known_bytes c.args.tables.now c.type_inv.tables) _ w.in_default.not-RateLimited)
    ]
