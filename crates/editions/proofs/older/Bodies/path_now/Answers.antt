use mathlib.Core.Path.{refl}
use borrow.Author.Rules.{rules}
use Rattle.editions.proofs.older.Bodies.path_now.Goals as goal

pub write_path-requires : goal.write_path-requires
write_path-requires c = (search rules, refl)
