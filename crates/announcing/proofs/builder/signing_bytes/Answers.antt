use Prim.Native.Nat.{◌+◌}
use lib.ListN.{length}
use mathlib.Core.Path.{◌≡◌, sym, ◌∙◌}
use native.Mathlib.Omega.{arith}
use Rattle.std.proofs.lemmas.Result.{err_from_is_err_and}
use Rattle.numbers.proofs.RefusalNumbers.{some_number}
use Rattle.packet.specs.Places.{address_width, blob_end}
use Rattle.announcing.specs.Announcing.{Announce, make_announce, any_signature, signed_bytes, announce_refusal, signing}
use Rattle.announcing.proofs.Lengths.{Buildable, refusal_by_lem, buildable, signed_length, laid_refused, laid_done}
use Rattle.announcing.proofs.builder.signing_bytes.Goals as goal
use Rattle.announcing.proofs.builder.signing_bytes.Goals.{In_ok-check}

abbrev given : In_ok-check → Announce
given c = let a = c.args in make_announce a.keys.now a.name_hash.now a.random.now a.clock a.ratchet.now a.app_data.now

zero : (c : In_ok-check) → announce_refusal (given c) any_signature (length c.args.room.now) ≡ 0
zero c = refusal_by_lem (given c) any_signature (length c.args.room.now) ∙ sym c.in_ok-check.ensures

able : (c : In_ok-check) → Buildable (given c) any_signature (length c.args.room.now)
able c = buildable (given c) any_signature (length c.args.room.now) (zero c)

pub returns-in_err-check : goal.returns-in_err-check
unfolding signing
returns-in_err-check c =
    let p = err_from_is_err_and c.from_residual.result c.from_residual.ensures.1 in
    rw (p.1, p.2) (laid_refused _ c.args.room.now (c.in_err-check.ensures ∙ sym (refusal_by_lem _ _ _)) (some_number _))

pub write_signed-requires : goal.write_signed-requires
write_signed-requires c = zero (goal.at.write_signed-requires c).In_ok-check

pub overflow_add-result-3 : goal.overflow_add-result-3
overflow_add-result-3 c = record { fits = omega (arith, (able (goal.at.overflow_add-result-3 c).In_ok-check).short) }

pub returns : goal.returns
unfolding signing
returns c =
    let at = (goal.at.returns c).In_ok-check in
    let g = given at in
    let w = (able at).lengths in
    let long : length (signed_bytes g) ≡ address_width + blob_end + length c.args.ratchet.now + length c.args.app_data.now =
    signed_length g any_signature ∙ omega (arith, w.keys, w.name_hash, w.random) in
    laid_done (signed_bytes g) c.args.room.now (zero at) (sym long) c.write_signed.ensures
