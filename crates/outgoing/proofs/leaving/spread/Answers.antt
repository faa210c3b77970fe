use mathlib.Core.Path.{◌≡◌, refl, ap, ap₂, ◌∙◌}
use Prim.Native.Nat.{ℕ, ◌+◌, ◌-◌}
use mathlib.Core.List.{List, []}
use lib.ListN.{length}
use borrow.Rule.Slice.PartMut.{put_mid}
use Rattle.octets.specs.Part.{patch}
use Rattle.octets.proofs.Part.{patch_range}
use Rattle.packet.specs.Read.{header_of, payload_start}
use Rattle.packet.specs.Write.{packet_of}
use Rattle.packet.specs.declared.Parts.{Parts}
use Rattle.outgoing.specs.Leaving.{rewritten_parts, spread_length}
use Rattle.rules.proofs.Lengths.{spread_start}
use Rattle.outgoing.proofs.LeavingLaws.{long, spread_result, spread_written}
use native.Mathlib.Omega.{arith}
use borrow.Author.Rules.{rules}
use Rattle.packet.specs.Read.{longest_packet}
use Rattle.packet.specs.Places.{type_two_start}
use Rattle.numbers.specs.Numbers.{address_width}
use Rattle.outgoing.proofs.leaving.spread.Goals as goal

pub bounds-packet-0 : goal.bounds-packet-0
bounds-packet-0 c = omega (arith, long longest_packet c.args.packet.now c.requires.0.readable)

pub write_packet-requires : goal.write_packet-requires
unfolding spread_length
write_packet-requires c =
    let start = ap (λ (q : Parts). payload_start q.header) c.rewritten_parts-head.ensures
    ∙ ap payload_start c.spread_header.ensures in
    omega (arith, start ∙ spread_start (header_of c.args.packet.now), c.requires.1)

pub slice_bounds-copy_from_slice-end : goal.slice_bounds-copy_from_slice-end
unfolding spread_length
slice_bounds-copy_from_slice-end c = omega (arith, ap length c.payload-body.ensures, c.write_packet.auto, c.requires.1)

pub returns : goal.returns
returns c =
    let p = c.args.packet.now in
    let out = c.args.output.now in
    let own = c.args.own in
    let wide : length own ≡ address_width = search rules in
    let written : List ℕ = c.write_packet.new.output in
    let body : List ℕ = c.payload-body.result.now in
    let head = c.rewritten_parts-head.ensures
    ∙ ap (λ (h : ℕ). rewritten_parts h own p) c.spread_header.ensures in
    let before = c.write_packet.ensures ∙ ap (λ (q : Parts). patch out 0 (packet_of q [])) head in (
      spread_result longest_packet p c.requires.0.readable own wide body c.payload-body.ensures,
      ap (put_mid type_two_start (type_two_start + length body - type_two_start) written) c.copy_from_slice.ensures.after
          ∙ patch_range written type_two_start (length body) body refl
          ∙ ap₂ (λ (o b : List ℕ). patch o type_two_start b) before c.payload-body.ensures
          ∙ spread_written longest_packet out own p c.requires.0.readable wide c.requires.1,
    )
