-- Tests 6 to 13, 15 and 16 for each kind of packet, once its record is found: those that can hold of it, in document 01's order.
-- For the contracts of helpers: not part of what a reader must believe.
use Rattle.std.specs.Prelude.{ℕ, Bool, true, false, not, List, eqb, ltb, leb, length}
use Rattle.octets.specs.Index.{◌and◌}
use Rattle.octets.specs.Choice.{◌then◌otherwise◌}
use Rattle.octets.specs.Listed.{first_of, valued}
use Rattle.packet.specs.Hash.{link_id}
use Rattle.numbers.specs.Numbers.{path_count, link_count}
use Rattle.rules.specs.Relay.{used, Path, Return, Relay}
use Rattle.rules.specs.View.{port_on, port_size, free_path, free_link, view_at}
use Rattle.rules.specs.Arrival.{Arrival}
use Rattle.rules.specs.Blobs.{held, greatest_emission}
use Rattle.rules.specs.Ways.{everywhere}
use Rattle.rules.specs.Tests.{is_there, from_answering_side, from_asking_side, known_tests}
use Rattle.rules.specs.declared.Link.{Link}
use Rattle.rules.specs.declared.Blocked.TheVariants.{NotProved}
use Rattle.rules.specs.declared.Reason.TheVariants.{NoWayOn, AlreadyKnown, WrongSide, NotSigned, PortOff, TooLongForPort, NoRoom}
use Rattle.outgoing.specs.Leaving.{path_length}
use Rattle.plan.specs.declared.Decision.{Decision}
use Rattle.plan.specs.declared.Decision.TheVariants.{Drop, Announce, Request, Carry, Receipt}

-- ---- a signed announce
-- of a new path: 13
unfoldable pub new_path : ℕ → Relay → Decision
new_path clock r =
    not (ltb (free_path clock r) path_count) then Drop NoRoom otherwise
    Announce (free_path clock r) false

-- 11, by an announce's emission and hops
unfoldable pub worse_than : ℕ → ℕ → Path → Bool
worse_than emission hops p = leb emission (greatest_emission (held p.blobs)) and leb p.hops hops

-- whether an announce revives the path, by its emission
unfoldable pub revived_by : ℕ → Path → Bool
revived_by emission p = p.notes.marked and leb (greatest_emission (held p.blobs)) emission

-- of the known path at a place: the tests of one
unfoldable pub known_path : Relay → Arrival → Path → ℕ → Decision
known_path r a p place =
    first_of (valued Drop (known_tests (view_at a.clock r) a (everywhere (used p)))) (Announce place true)

-- ---- 12 and 16, by a port and the length of what would leave by it
unfoldable pub leaving : Relay → ℕ → ℕ → Decision → Decision
leaving r port long decision =
    not (port_on r port) then Drop PortOff otherwise
    ltb (port_size r port) long then Drop TooLongForPort otherwise
    decision

-- ---- data and link requests, by a path
abbrev pub leaving_by : Relay → Path → List ℕ → Decision → Decision
leaving_by r p packet decision = leaving r p.port (path_length p.hops packet) decision

-- a new link by the path at a place: 13
unfoldable pub linking : Relay → ℕ → List ℕ → ℕ → Decision
linking r clock id place =
    not (ltb (free_link clock r) link_count) then Drop NoRoom otherwise
    Request place (free_link clock r) id

-- 7, 12, 16, 13
unfoldable pub requesting : Relay → Arrival → Path → ℕ → Decision
requesting r a p place =
    is_there ((view_at a.clock r).link (link_id a.bytes)) then Drop AlreadyKnown otherwise
    leaving_by r p a.bytes (linking r a.clock (link_id a.bytes) place)

-- ---- packets of the link at a place
unfoldable pub carried : Relay → List ℕ → ℕ → ℕ → Decision
carried r packet port place = leaving r port (length packet) (Carry place port)

-- a link proof: 7, 8, 9, 12, 16
unfoldable pub proving : Relay → Arrival → Link → ℕ → Decision
proving r a l place =
    l.proved then Drop AlreadyKnown otherwise
    not (from_answering_side l a) then Drop WrongSide otherwise
    not a.signed then Drop NotSigned otherwise
    carried r a.bytes l.asking place

-- any other: 6, 8, 12, 16
unfoldable pub carrying : Relay → Arrival → Link → ℕ → Decision
carrying r a l place =
    not l.proved then Drop (NoWayOn NotProved) otherwise
    from_answering_side l a then carried r a.bytes l.asking place otherwise
    from_asking_side l a then carried r a.bytes l.answering place otherwise
    Drop WrongSide

-- ---- an ordinary proof that came in by a port, for the return record at a place: 8, 12, 16
unfoldable pub returning : Relay → List ℕ → ℕ → Return → ℕ → Decision
returning r packet port t place =
    not (eqb port t.leaving) then Drop WrongSide otherwise
    leaving r t.arrival (length packet) (Receipt place t.arrival)
