use Prim.Native.Nat.{ℕ, ◌%◌}
use mathlib.Core.Path.{ap, ◌∙◌}
use Rattle.octets.proofs.Bytes.{known_bytes}
use Rattle.packet.specs.Announce.{emission_of}
use Rattle.lookup.proofs.HeldBlobs.{emission_limit, low_five, last_word_at}
use native.Mathlib.Omega.{arith}
use Rattle.lookup.proofs.blobs.emission_of.Goals as goal

pub returns : goal.returns
unfolding emission_of
returns c =
    let b = c.args.blob.now in
    ap (λ (n : ℕ). n % emission_limit) c.number_of_8_at.ensures
    ∙ low_five b last_word_at (known_bytes b c.type_inv.blob) (omega (arith, c.requires))
