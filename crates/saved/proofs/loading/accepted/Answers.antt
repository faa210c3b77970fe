use native.Mathlib.Omega.{arith}
use mathlib.Core.Bool.{not, false}
use mathlib.Core.Path.{◌≡◌, sym, ap, ◌∙◌}
use Rattle.recording.specs.Shape.{kind_of, edition_of}
use Rattle.editions.specs.Editions.{is_known}
use Rattle.saved.specs.Load.{length_wrong, kind_wrong}
use Rattle.saved.proofs.LoadLaws.{has_contents, has_start, other_kind, edition_decides, refused_length, refused_kind, refused_place, refused_body, refused_size, not_refused}
use Rattle.saved.proofs.loading.accepted.Goals as goal
use Rattle.saved.proofs.loading.accepted.Goals.{Else-length_wrong, In-Some}

-- row 20 is past, and row 21
enough : (c : Else-length_wrong) → length_wrong c.args.file.now ≡ false
enough c = sym c.length_wrong.ensures ∙ c.if-length_wrong.false

kind : (c : In-Some) → kind_wrong c.args.file.now ≡ false
unfolding kind_of edition_of
kind c =
    edition_decides c.args.file.now c.if-file-ne-KIND.false
    ∙ ap not (ap is_known (sym c.in-Some.ensures) ∙ c.in-Some.edition.known)

pub returns-then-length_wrong : goal.returns-then-length_wrong
returns-then-length_wrong c =
    sym (refused_length c.args.file.now c.args.size (sym c.length_wrong.ensures ∙ c.if-length_wrong.true))

pub bounds-file-0 : goal.bounds-file-0
bounds-file-0 c = omega (arith, has_start c.args.file.now (enough (goal.at.bounds-file-0 c).Else-length_wrong))

pub returns-then-file-ne-KIND : goal.returns-then-file-ne-KIND
unfolding kind_of edition_of
returns-then-file-ne-KIND c =
    let f = c.args.file.now in
    sym (refused_kind f c.args.size (enough (goal.at.returns-then-file-ne-KIND c).Else-length_wrong) (other_kind f c.if-file-ne-KIND.true))

pub bounds-file-1 : goal.bounds-file-1
bounds-file-1 c = omega (arith, has_start c.args.file.now (enough (goal.at.bounds-file-1 c).Else-length_wrong))

pub returns-in_default : goal.returns-in_default
unfolding kind_of edition_of
returns-in_default c =
    let f = c.args.file.now in
    let wrong = edition_decides f c.if-file-ne-KIND.false ∙ ap not c.in_default.ensures in
    sym (refused_kind f c.args.size (enough (goal.at.returns-in_default c).Else-length_wrong) wrong)

pub contents_wrong-requires : goal.contents_wrong-requires
contents_wrong-requires c = has_contents c.args.file.now (enough (goal.at.contents_wrong-requires c).Else-length_wrong)

pub returns-then-contents_wrong : goal.returns-then-contents_wrong
returns-then-contents_wrong c =
    let at = goal.at.returns-then-contents_wrong c in
    let wrong = sym c.contents_wrong.ensures ∙ c.if-contents_wrong.true in
    sym (refused_place c.args.file.now c.args.size (enough at.Else-length_wrong) (kind at.In-Some) wrong)

pub bodies_wrong-requires : goal.bodies_wrong-requires
unfolding edition_of
bodies_wrong-requires c =
    (c.in-Some.ensures, (enough (goal.at.bodies_wrong-requires c).Else-length_wrong, sym c.contents_wrong.ensures ∙ c.if-contents_wrong.false))

pub returns-then-bodies_wrong : goal.returns-then-bodies_wrong
returns-then-bodies_wrong c =
    let at = goal.at.returns-then-bodies_wrong c in
    let p = sym c.contents_wrong.ensures ∙ c.if-contents_wrong.false in
    let wrong = sym c.bodies_wrong.ensures ∙ c.if-bodies_wrong.true in
    sym (refused_body c.args.file.now c.args.size (enough at.Else-length_wrong) (kind at.In-Some) p wrong)

pub returns-then-size-ne-TABLE_SIZE : goal.returns-then-size-ne-TABLE_SIZE
returns-then-size-ne-TABLE_SIZE c =
    let at = goal.at.returns-then-size-ne-TABLE_SIZE c in
    let p = sym c.contents_wrong.ensures ∙ c.if-contents_wrong.false in
    let w = sym c.bodies_wrong.ensures ∙ c.if-bodies_wrong.false in
    sym (refused_size c.args.file.now c.args.size (enough at.Else-length_wrong) (kind at.In-Some) p w c.if-size-ne-TABLE_SIZE.true)

pub returns : goal.returns
unfolding edition_of
returns c =
    let at = goal.at.returns c in
    let p = sym c.contents_wrong.ensures ∙ c.if-contents_wrong.false in
    let w = sym c.bodies_wrong.ensures ∙ c.if-bodies_wrong.false in
    (not_refused c.args.file.now c.args.size (enough at.Else-length_wrong) (kind at.In-Some) p w c.if-size-ne-TABLE_SIZE.false, c.in-Some.ensures)
