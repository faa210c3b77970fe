-- What a packet that is not for this relay itself would follow, or why there is no way on: `Blocked` of src/lib.rt has the cases of test 6.
use Rattle.std.specs.Prelude.{ℕ, Bool, not}
use Rattle.octets.specs.Choice.{◌then◌otherwise◌, ◌or◌}
use Rattle.packet.specs.Header.{type_two, of_kind_link, is_announce, is_proof}
use Rattle.rules.specs.Relay.{Slot, empty, used, Path, Return}
use Rattle.rules.specs.View.{View}
use Rattle.rules.specs.Arrival.{Arrival, header, destination, is_link_proof}
use Rattle.rules.specs.declared.Link.{Link}
use Rattle.rules.specs.declared.Blocked.{Blocked}
use Rattle.rules.specs.declared.Blocked.TheVariants.{NotAsking, NoPath, OnlyExpired, NoLink, NotProved, NoReturn}

pub data Way : Type 0 where
  -- an announce goes to all ports on but its own; with it, the live path of its destination, if there is one
  everywhere : Slot Path → Way
  by_path : Path → Way
  along_link : Link → Way
  by_return : Return → Way
  blocked : Blocked → Way

-- Wish 10 splits "without a live path": "6.2 no path record; 6.3 only expired path records lying in their slots, with the greatest expiry"
unfoldable pub no_path : Slot ℕ → Blocked
no_path empty = NoPath
no_path (used expiry) = OnlyExpired expiry

-- the live path, and the greatest expiry of the expired ones, which is read where there is no live one
unfoldable pub path_way : Slot Path → Slot ℕ → Way
path_way empty expired = blocked (no_path expired)
path_way (used p) expired = by_path p

unfoldable pub link_way : Bool → Slot Link → Way
link_way link_proof empty = blocked NoLink
link_way link_proof (used l) = l.proved or link_proof then along_link l otherwise blocked NotProved

unfoldable pub return_way : Slot Return → Way
return_way empty = blocked NoReturn
return_way (used t) = by_return t

unfoldable pub way_on : View → Arrival → Way
way_on v a =
    is_announce (header a) then everywhere (v.path (destination a)) otherwise
    of_kind_link (header a) then link_way (is_link_proof a.bytes) (v.link (destination a)) otherwise
    is_proof (header a) then return_way (v.return (destination a)) otherwise
    not (type_two (header a)) then blocked NotAsking otherwise
    path_way (v.path (destination a)) (v.expired (destination a))
