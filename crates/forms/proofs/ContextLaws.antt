-- Exempt packets: their contexts.
use Prim.Native.Nat.{ℕ}
use mathlib.Core.Bool.{false}
use mathlib.Core.List.{List}
use mathlib.Core.Path.{◌≡◌}
use Rattle.octets.proofs.Index.{and_no}
use Rattle.packet.specs.Header.{of_kind_link}
use Rattle.packet.specs.Read.{header_of}
use Rattle.rules.specs.Exempt.{exempt}

module _ (p : List ℕ) where
  pub never_exempt : of_kind_link (header_of p) ≡ false → exempt p ≡ false
  unfolding exempt
  never_exempt other = and_no _ other
