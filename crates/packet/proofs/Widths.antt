-- How long addresses, hashes, ids and blobs are: what a value of the code always shows, for the crates above that argue over lists.
use Prim.Native.Nat.{ℕ, ◌≤◌}
use native.Mathlib.Omega.{arith}
use mathlib.Core.Bool.{Bool, true, false}
use mathlib.Core.List.{List}
use mathlib.Core.Path.{◌≡◌, refl}
use lib.ListN.{length, take}
use lib.Seq.{length-take-le}
use Rattle.octets.proofs.Part.{part_length}
use Rattle.sha256.specs.Sha256.{sha256_of}
use Rattle.sha256.proofs.Promise.{digest_length}
use Rattle.packet.specs.Header.{type_two}
use Rattle.packet.specs.Read.{header_of, type_one_parts, type_two_parts, parts_of, payload_start}
use Rattle.packet.specs.Hash.{packet_hash, link_id}
use Rattle.packet.specs.Announce.{blob_of, announced_destination}
use Rattle.packet.proofs.ReadLaws.{start_two, start_one, parts_two, parts_one}
use Rattle.packet.specs.Write.{Wide}
use Rattle.packet.specs.Places.{address_width, digest_width, blob_width, second_address_at, type_one_start, type_two_start, blob_at, blob_end, address_at}

first_sixteen : (m : List ℕ) → length (take address_width (sha256_of m)) ≡ address_width
first_sixteen m = length-take-le address_width (sha256_of m) (omega (arith, digest_length m))

pub packet_hash_length : (p : List ℕ) → length (packet_hash p) ≡ digest_width
unfolding packet_hash
packet_hash_length p = digest_length _

pub link_id_length : (p : List ℕ) → length (link_id p) ≡ address_width
unfolding link_id
link_id_length p = first_sixteen _

pub announced_length : (body : List ℕ) → length (announced_destination body) ≡ address_width
unfolding announced_destination
announced_length body = first_sixteen _

pub blob_length : (body : List ℕ) → blob_end ≤ length body → length (blob_of body) ≡ blob_width
unfolding blob_of
blob_length body h = part_length body blob_at blob_width h

-- the addresses of a packet that reads
pub parts_wide : (p : List ℕ) → payload_start (header_of p) ≤ length p → Wide (parts_of p)
unfolding type_one_parts type_two_parts
parts_wide p h = go (type_two (header_of p)) refl
  where
    go : (t : Bool) → type_two (header_of p) ≡ t → Wide (parts_of p)
    go true e =
        let start : payload_start (header_of p) ≡ type_two_start = start_two (header_of p) e in
        rw (parts_two p e) (record {
          relay = part_length p address_at address_width (omega arith);
          destination =
              part_length p second_address_at address_width (omega arith);
        })
    go false e =
        let start : payload_start (header_of p) ≡ type_one_start = start_one (header_of p) e in
        rw (parts_one p e) (record { relay = refl; destination = part_length p address_at address_width (omega arith) })
