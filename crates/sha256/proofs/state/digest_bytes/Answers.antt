-- `sha256::state::digest_bytes` meets its contract.
-- Assumes nothing.
use Rattle.std.proofs.Common.{◌≡◌, ◌*◌, sym, refl, ◌∙◌, arith, take_all}
use borrow.Rule.Slice.PartMut.{same_len_mid}
use Rattle.sha256.proofs.WordBytes.{all_bytes, stored_bytes}
use Rattle.sha256.proofs.state.digest_bytes.Goals as goal

pub loop-i-init : goal.loop-i-init
unfolding all_bytes
loop-i-init c = record { length = refl; written = refl }

pub loop-i-preserved : goal.loop-i-preserved
loop-i-preserved c =
    let l = c.loop-i in
    record {
      length = same_len_mid (4 * l.i) _ l.bytes _ c.copy_from_slice.ensures.len ∙ l.invariant.length;
      written = stored_bytes _ l.bytes _ l.i _ (omega arith) (omega arith) l.invariant.written (cc);
    }

pub returns : goal.returns
unfolding all_bytes
returns c =
    let l = c.loop-i in
    let e : l.i ≡ 8 = omega arith in
    sym (take_all 32 l.bytes (omega arith)) ∙ rw e at l.invariant.written
