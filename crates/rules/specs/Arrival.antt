-- A packet call's input, and the packet's parts by their names.
use Rattle.std.specs.Prelude.{ℕ, Bool, List, eqb}
use Rattle.octets.specs.Index.{◌and◌}
use Rattle.packet.specs.Header.{of_kind_link, is_proof}
use Rattle.packet.specs.Read.{header_of, parts_of, payload}
use Rattle.packet.specs.Hash.{packet_hash}
use Rattle.packet.specs.Announce.{blob_of}

-- packet bytes, arrival port, clock, and the host's word on the signature
pub record Arrival : Type 0 where
  pub bytes : List ℕ
  pub port : ℕ
  pub clock : ℕ
  pub signed : Bool

abbrev pub header : Arrival → ℕ
header a = header_of a.bytes

abbrev pub hops : Arrival → ℕ
hops a = (parts_of a.bytes).hops

abbrev pub relay_address : Arrival → List ℕ
relay_address a = (parts_of a.bytes).relay

abbrev pub destination : Arrival → List ℕ
destination a = (parts_of a.bytes).destination

abbrev pub body : Arrival → List ℕ
body a = payload a.bytes

abbrev pub hash : Arrival → List ℕ
hash a = packet_hash a.bytes

-- an announce's blob
abbrev pub blob : Arrival → List ℕ
blob a = blob_of (body a)

-- a link proof (a proof of kind link, context 0xFF)
unfoldable pub is_link_proof : List ℕ → Bool
is_link_proof p = is_proof (header_of p) and of_kind_link (header_of p) and eqb (parts_of p).context 0xff
