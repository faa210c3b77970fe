-- What can leave, and how long it is then.
-- For the contracts of helpers: not part of what a reader must believe.
use Rattle.std.specs.Prelude.{ℕ, ◌+◌, ◌<◌, true, List, ◌≡◌, eqb, length}
use Rattle.octets.specs.Choice.{◌then◌otherwise◌}
use Rattle.packet.specs.Read.{parts_of, payload, longest_packet, reads}
use Rattle.packet.specs.declared.Parts.{Parts}
use Rattle.packet.specs.Places.{type_one_start, type_two_start}
use Rattle.numbers.specs.Numbers.{hops_limit}

-- a packet that can leave: it reads, and its hops can be raised
pub record CanLeave (p : List ℕ) : Type 0 where
  pub readable : reads longest_packet p ≡ true
  pub few_hops : (parts_of p).hops < hops_limit

-- the parts of the packet under another header and relay address, hops + 1
abbrev pub rewritten_parts : ℕ → List ℕ → List ℕ → Parts
rewritten_parts new_header relay p =
    record { header = new_header; hops = (parts_of p).hops + 1; relay = relay; destination = (parts_of p).destination; context = (parts_of p).context }

-- how long an announce is once spread: as a packet of type 2
unfoldable pub spread_length : List ℕ → ℕ
spread_length p = type_two_start + length (payload p)

-- how long a packet is that leaves by a path with these stored hops: on the last hop as a packet of type 1, otherwise as it came
unfoldable pub path_length : ℕ → List ℕ → ℕ
path_length hops p = eqb hops 0 then type_one_start + length (payload p) otherwise length p
