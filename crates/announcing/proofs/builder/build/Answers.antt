use Prim.Native.Nat.{◌+◌}
use lib.ListN.{length}
use mathlib.Core.Path.{◌≡◌, sym, ◌∙◌}
use native.Mathlib.Omega.{arith}
use Rattle.std.proofs.lemmas.Result.{err_from_is_err_and}
use Rattle.numbers.proofs.RefusalNumbers.{some_number}
use Rattle.packet.specs.Places.{type_one_start, blob_end, signature_width}
use Rattle.announcing.specs.Announcing.{Announce, make_announce, announce_with, announce_refusal, building}
use Rattle.announcing.proofs.Lengths.{Buildable, refusal_by_lem, buildable, announce_length_lem, laid_refused, laid_done}
use Rattle.announcing.proofs.builder.build.Goals as goal
use Rattle.announcing.proofs.builder.build.Goals.{In_ok-check}

abbrev given : In_ok-check → Announce
given c = let a = c.args in make_announce a.keys.now a.name_hash.now a.random.now a.clock a.ratchet.now a.app_data.now

zero : (c : In_ok-check) → announce_refusal (given c) c.args.signature.now (length c.args.room.now) ≡ 0
zero c = refusal_by_lem (given c) c.args.signature.now (length c.args.room.now) ∙ sym c.in_ok-check.ensures

able : (c : In_ok-check) → Buildable (given c) c.args.signature.now (length c.args.room.now)
able c = buildable (given c) c.args.signature.now (length c.args.room.now) (zero c)

pub returns-in_err-check : goal.returns-in_err-check
unfolding building
returns-in_err-check c =
    let p = err_from_is_err_and c.from_residual.result c.from_residual.ensures.1 in
    rw (p.1, p.2) (laid_refused _ c.args.room.now (c.in_err-check.ensures ∙ sym (refusal_by_lem _ _ _)) (some_number _))

pub write_announce-requires : goal.write_announce-requires
write_announce-requires c = zero (goal.at.write_announce-requires c).In_ok-check

pub overflow_add-result-2 : goal.overflow_add-result-2
overflow_add-result-2 c = record { fits = omega (arith, (able (goal.at.overflow_add-result-2 c).In_ok-check).short) }

pub returns : goal.returns
unfolding building
returns c =
    let at = (goal.at.returns c).In_ok-check in
    let g = given at in
    let w = (able at).lengths in
    let long : length (announce_with g c.args.signature.now) ≡ type_one_start + blob_end + signature_width + length c.args.ratchet.now + length
    c.args.app_data.now =
    announce_length_lem g c.args.signature.now ∙ omega (arith, w.keys, w.name_hash, w.random, w.signature) in
    laid_done (announce_with g c.args.signature.now) c.args.room.now (zero at) (sym long) c.write_announce.ensures
