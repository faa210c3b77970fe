use mathlib.Core.Path.{refl}
use Rattle.editions.proofs.older.Bodies.front_now.Goals as goal

pub write_front-requires : goal.write_front-requires
write_front-requires c = refl
