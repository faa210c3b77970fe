use Prim.Native.Nat.{ℕ}
use mathlib.Core.List.{List, [], ◌∷◌}
use mathlib.Core.Path.{ap, ◌∙◌}
use lib.ListN.{replicate, length-replicate}
use Rattle.octets.specs.Part.{patch}
use Rattle.packet.specs.Write.{Wide}
use Rattle.packet.specs.Places.{hops_at, address_at, second_address_at, type_two_context_at, type_two_start}
use Rattle.crossing.proofs.PartsLaws.{parts_written}
use native.Mathlib.Omega.{arith}
use borrow.Author.Rules.{rules}
use Rattle.crossing.proofs.parts.parts_bytes.Goals as goal
use Rattle.crossing.proofs.parts.parts_bytes.Goals.{Start}

wide : (c : Start) → Wide c.args.parts
wide c = record { relay = search rules; destination = search rules }

pub copy_at-requires : goal.copy_at-requires
copy_at-requires c = omega (arith, (wide (goal.at.copy_at-requires c).Start).relay, c.set_at.auto.t, c.set_at-2.auto.t)

pub copy_at-requires-2 : goal.copy_at-requires-2
copy_at-requires-2 c =
    omega (
      arith,
      (wide (goal.at.copy_at-requires-2 c).Start).destination,
      c.set_at.auto.t,
      c.set_at-2.auto.t,
      c.copy_at.auto.t,
    )

pub returns : goal.returns
returns c =
    let q = c.args.parts in
    let hops = c.set_at-2.ensures ∙ ap (λ (r : List ℕ). patch r hops_at (q.hops ∷ [])) c.set_at.ensures in
    let relay = c.copy_at.ensures ∙ ap (λ (r : List ℕ). patch r address_at q.relay) hops in
    let destination = c.copy_at-2.ensures ∙ ap (λ (r : List ℕ). patch r second_address_at q.destination) relay in
    c.set_at-3.ensures
    ∙ ap (λ (r : List ℕ). patch r type_two_context_at (q.context ∷ [])) destination
    ∙ parts_written (replicate type_two_start 0) (length-replicate {A = ℕ} type_two_start 0) q (wide (goal.at.returns c).Start)
