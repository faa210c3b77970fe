use Prim.Native.Nat.{ℕ, ◌≤◌}
use mathlib.Core.List.{List}
use mathlib.Core.Path.{sym, ap, subst, ◌∙◌}
use lib.ListN.{length}
use Rattle.octets.proofs.Bytes.{known_bytes}
use Rattle.packet.specs.Announce.{blob_of}
use Rattle.packet.specs.Places.{blob_end}
use Rattle.tables.proofs.Whole.{formed}
use Rattle.act.proofs.Spreads.{announce_can_leave, announce_body_lem, announce_room, announce_known, announce_left}
use Rattle.act.proofs.announces.announce.Goals as goal

pub spread-verdict-requires : goal.spread-verdict-requires
spread-verdict-requires c =
    (announce_can_leave _ _ _ c.requires.accepted _ _ c.requires.decided, (formed _ c.requires.accepted.formed).size, c.requires.roomy)

pub blob-blob-requires : goal.blob-blob-requires
blob-blob-requires c =
    subst (λ (s : List ℕ). blob_end ≤ length s) (sym c.payload.ensures) (announce_body_lem _ _ _ c.requires.accepted _ _ c.requires.decided)

pub announced_rate-rate-requires : goal.announced_rate-rate-requires
announced_rate-rate-requires c = ((formed _ c.requires.accepted.formed).size, announce_known _ _ _ c.requires.accepted _ _ c.requires.decided)

pub announced_path-path-requires : goal.announced_path-path-requires
announced_path-path-requires c =
    let ok = c.requires.accepted in
    (record { readable = ok.readable; size = (formed _ ok.formed).size }, ok.port, ok.clock)

pub put_path-requires : goal.put_path-requires
put_path-requires c =
    let ok = c.requires.accepted in
    ((formed _ ok.formed).size, announce_room _ _ _ ok _ _ c.requires.decided, announce_known _ _ _ ok _ _ c.requires.decided)

pub returns : goal.returns
returns c =
    announce_left _ _ _ c.requires.accepted _ _ c.requires.decided _ _ _ c.announced_path-path.ensures
    c.announced_rate-rate.ensures
    (c.blob-blob.ensures
    ∙ ap blob_of c.payload.ensures) (known_bytes c.args.tables.now c.slice_known-1.given) _ _ _ _
    c.spread-verdict.ensures c.put_path.ensures
