use mathlib.Core.Path.{refl}
use Rattle.octets.specs.Index.{◌and◌}
use Rattle.editions.specs.Editions.{is_known, is_known_by}
use Rattle.editions.proofs.rows.KnownEdition.current.Goals as goal

pub invariant_of-result : goal.invariant_of-result
unfolding is_known is_known_by ◌and◌
invariant_of-result c = record { known = refl }
