use mathlib.Core.Path.{sym, ap, ◌∙◌}
use Rattle.octets.proofs.Index.{and_yes, and_no}
use Rattle.tables.specs.Layout.{front_ok, back_ok}
use Rattle.editions.proofs.EditionLaws.{bodies_clauses}
use Rattle.editions.proofs.older.Bodies.are_fine.Goals.{then-front_ok, else-front_ok}
use Rattle.editions.proofs.older.Bodies.are_fine.Goals as goal

pub returns-then-paths_fine : goal.returns-then-paths_fine
returns-then-paths_fine c =
    let b = c.args.self in
    let front = ap front_ok (sym c.front_now.ensures) ∙ sym c.front_ok.ensures in
    elim c.if-front_ok.branch [
      | then-front_ok w ↦
          c.back_ok.ensures
          ∙ ap (back_ok b.file.now) c.back_place.ensures
          ∙ sym (bodies_clauses b.edition.number b.file.now b.there
          ∙ and_yes _ (front ∙ w.if-front_ok.true)
          ∙ and_yes _ (sym w.paths_fine.ensures ∙ sym w.value-is ∙ c.if-paths_fine.true))
      | else-front_ok w ↦ cc (w.value-is, w.if-front_ok.false, c.if-paths_fine.true)
    ]

pub returns-else-paths_fine : goal.returns-else-paths_fine
returns-else-paths_fine c =
    let b = c.args.self in
    let front = ap front_ok (sym c.front_now.ensures) ∙ sym c.front_ok.ensures in
    elim c.if-front_ok.branch [
      | then-front_ok w ↦
          c.if-paths_fine.false
          ∙ sym (bodies_clauses b.edition.number b.file.now b.there
          ∙ and_yes _ (front ∙ w.if-front_ok.true)
          ∙ and_no _ (sym w.paths_fine.ensures ∙ sym w.value-is ∙ c.if-paths_fine.false))
      | else-front_ok w ↦ c.if-paths_fine.false ∙ sym (bodies_clauses b.edition.number b.file.now b.there ∙ and_no _ (front ∙ w.if-front_ok.false))
    ]
