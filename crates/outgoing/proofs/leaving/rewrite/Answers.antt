use mathlib.Core.Path.{◌≡◌, sym, ap, ap₂, ◌∙◌}
use Prim.Native.Nat.{ℕ, ◌+◌}
use mathlib.Core.List.{List}
use lib.ListN.{length}
use Rattle.octets.specs.Part.{patch}
use Rattle.packet.specs.Read.{payload_start}
use Rattle.packet.specs.Write.{packet_of}
use Rattle.packet.specs.declared.Parts.{Parts}
use Rattle.rules.specs.Outgoing.{rewritten}
use Rattle.rules.proofs.Lengths.{rewritten_length}
use native.Mathlib.Omega.{arith}
use borrow.Author.Rules.{rules}
use Rattle.packet.specs.Read.{longest_packet}
use Rattle.numbers.specs.Numbers.{address_width}
use Rattle.outgoing.proofs.leaving.rewrite.Goals as goal

pub write_packet-requires : goal.write_packet-requires
write_packet-requires c =
    let start = ap (λ (q : Parts). payload_start q.header) c.rewritten_parts-parts.ensures in
    omega (arith, start, ap length c.payload-body.ensures, c.requires.1)

pub returns : goal.returns
unfolding rewritten
returns c =
    let a = c.args in
    let wide : length a.relay ≡ address_width = search rules in
    let long = rewritten_length longest_packet a.packet.now c.requires.0.readable a.header a.relay wide in
    let packet : Parts → List ℕ → List ℕ = λ q b. patch a.output.now 0 (packet_of q b) in (
      ap₂ (λ (k : ℕ) (b : List ℕ). k + length b) c.payload_start.ensures c.payload-body.ensures ∙ sym long,
      c.write_packet.ensures ∙ ap₂ packet c.rewritten_parts-parts.ensures c.payload-body.ensures,
    )
