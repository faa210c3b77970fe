use Prim.Native.Nat.{ℕ, ◌+◌, ◌-◌, ◌*◌}
use native.Mathlib.Omega.{arith}
use mathlib.Core.List.{List, ◌++◌}
use mathlib.Core.Path.{◌≡◌, sym, ap, ap₂, ◌∙◌}
use lib.ListN.{length, take, drop, replicate, length-replicate}
use borrow.Rule.Slice.PartMut.{put_mid}
use Rattle.octets.specs.Part.{part}
use Rattle.octets.proofs.Part.{range_length}
use Rattle.tables.specs.Places.{path_width}
use Rattle.tables.specs.Fields.{path_blobs_at, blobs_width}
use Rattle.editions.specs.Editions.{numbered}
use Rattle.editions.specs.Steps.{before_blobs, blobs_width_in, path_width_in, paths_place, opened, path_now}
use Rattle.editions.proofs.Alike.{opened_lent, zeros_lent, zeros_behind_put}
use Rattle.editions.proofs.EachBrings.{each_brings}
use Rattle.editions.proofs.EditionLaws.{before_most, path_ends, path_room, path_front}
use borrow.Author.Rules.{rules}
use Rattle.editions.proofs.older.Bodies.write_path.Goals as goal

pub overflow_mul-at : goal.overflow_mul-at
overflow_mul-at c =
    let a = c.args in
    let room = path_room a.self.edition.number a.self.file.now c.args.self.there a.i c.requires.0 c.path_width-width.ensures c.paths_place.ensures in
    search rules

pub overflow_add-at : goal.overflow_add-at
overflow_add-at c =
    let a = c.args in
    let room = path_room a.self.edition.number a.self.file.now c.args.self.there a.i c.requires.0 c.path_width-width.ensures c.paths_place.ensures in
    search rules

pub overflow_add-at-2 : goal.overflow_add-at-2
overflow_add-at-2 c =
    let a = c.args in
    let room =
    path_room a.self.edition.number a.self.file.now c.args.self.there a.i c.requires.0 c.path_width-width.ensures c.paths_place.ensures in
    search rules

pub slice_bounds-open-end : goal.slice_bounds-open-end
slice_bounds-open-end c =
    let a = c.args in
    let room =
    path_room a.self.edition.number a.self.file.now c.args.self.there a.i c.requires.0 c.path_width-width.ensures c.paths_place.ensures in
    search rules

pub slice_bounds-open-end-2 : goal.slice_bounds-open-end-2
slice_bounds-open-end-2 c =
    let ends = path_ends c.args.self.edition.number in
    let long = ap length c.requires.1 ∙ length-replicate {A = ℕ} path_width 0 in
    let wide = c.blobs_width-end.ensures in
    search rules

pub open-requires : goal.open-requires
open-requires c =
    let a = c.args in
    let f = a.self.file.now in
    let wide = c.path_width-width.ensures in
    let width = c.path_width-width.result in
    let most = before_most a.self.edition.number in
    let blobs = c.blobs_width-end.ensures in
    let ends = path_ends a.self.edition.number in
    let room = path_room a.self.edition.number f c.args.self.there a.i c.requires.0 wide c.paths_place.ensures in
    let long = range_length f (c.paths_place.result + width * a.i) width room in
    let end : ℕ = path_blobs_at + c.blobs_width-end.result in
    let lent = zeros_lent a.path.now path_width end c.requires.1 (omega (arith, blobs, ends)) in
    let zeros = ap length lent ∙ length-replicate {A = ℕ} end 0 in (
      omega (arith, long, wide, c.before_blobs.ensures),
      omega (arith, long, wide, most, blobs, zeros),
      lent ∙ ap (λ (n : ℕ). replicate n 0) (sym zeros),
    )

pub returns : goal.returns
unfolding path_now
returns c =
    let a = c.args in
    let f = a.self.file.now in
    let e = numbered a.self.edition.number in
    let most = before_most a.self.edition.number in
    let blobs = c.blobs_width-end.ensures in
    let ends = path_ends a.self.edition.number in
    let end : ℕ = path_blobs_at + c.blobs_width-end.result in
    let lent = zeros_lent a.path.now path_width end c.requires.1 (omega (arith, blobs, ends)) in
    let zeros = ap length lent ∙ length-replicate {A = ℕ} end 0 in
    let place = ap₂ (λ (p w : ℕ). p + w * a.i) c.paths_place.ensures c.path_width-width.ensures in
    let room = path_room a.self.edition.number f c.args.self.there a.i c.requires.0 c.path_width-width.ensures
    c.paths_place.ensures in
    let opening =
    c.«open».ensures
    ∙ opened_lent f _ (path_blobs_at - before_blobs e) (length (take (end - 0) (drop 0 a.path.now))) c.before_blobs.ensures
    c.path_width-width.ensures
    (omega (arith, room, c.path_width-width.ensures)) (omega (arith, most, blobs, zeros))
    ∙ ap (λ (k : ℕ). opened (before_blobs e) (path_blobs_at - before_blobs e) (part f k (path_width_in e))) place in
    let front : List ℕ = opened (before_blobs e) (path_blobs_at - before_blobs e) (part f (paths_place e + path_width_in e * a.i) (path_width_in e)) in
    let long = path_front e (each_brings (a.self.edition.number - 1)) f c.args.self.there a.i c.requires.0 in
    let behind : path_width - end ≡ blobs_width - blobs_width_in e = omega (arith, blobs) in
    ap (put_mid 0 (end - 0) a.path.now) opening
    ∙ zeros_behind_put a.path.now front path_width end c.requires.1 (omega (arith, long, blobs)) (omega (arith, blobs, ends))
    ∙ ap (λ (n : ℕ). front ++ replicate n 0) behind
