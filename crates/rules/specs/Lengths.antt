-- Document 02, wish 9: "Forwarded packets keep their length or lose sixteen bytes; announces alone grow, and past 500 they're Kept." And wish 11: what leaves
-- by a port is never longer than that port carries.
use Rattle.std.specs.Prelude.{ℕ, ◌+◌, Bool, true, not, List, eqb, leb, length}
use Rattle.octets.specs.Index.{◌and◌, all_below}
use Rattle.octets.specs.Choice.{◌or◌}
use Rattle.packet.specs.Header.{is_announce}
use Rattle.packet.specs.Read.{longest_packet, header_of}
use Rattle.numbers.specs.Numbers.{port_count, address_width}
use Rattle.rules.specs.Relay.{Path, Relay}
use Rattle.rules.specs.View.{port_size}
use Rattle.rules.specs.Refusals.{slot_ok, all}
use Rattle.rules.specs.Answers.{in_set}
use Rattle.rules.specs.declared.Verdict.{Verdict}
use Rattle.rules.specs.declared.Verdict.TheVariants.{Drop, Deliver, Forward, Spread, Kept}
use Rattle.rules.specs.declared.Answer.{Answer}
use Rattle.rules.specs.declared.Answer.TheVariants.{Refused, Judged}

-- "An address travels as sixteen bytes": our own, and each path's next hop. No bytes of tables can hold others
unfoldable pub is_address : List ℕ → Bool
is_address address = eqb (length address) address_width

unfoldable pub by_address : Path → Bool
by_address p = is_address p.next_hop

unfoldable pub addressed : Relay → Bool
addressed r = is_address r.own and all (slot_ok by_address) r.paths

-- ---- p is the packet as it came in, n the length of what leaves
-- "Forwarded packets keep their length or lose sixteen bytes"
unfoldable pub forwarded_length : List ℕ → ℕ → Bool
forwarded_length p n = eqb n (length p) or eqb (n + address_width) (length p)

-- an announce of type 2 keeps its length, one of type 1 gains a relay address
unfoldable pub grown_length : List ℕ → ℕ → Bool
grown_length p n = eqb n (length p) or eqb n (length p + address_width)

-- what leaves is at most 500 bytes long; "announces alone grow"
unfoldable pub verdict_length_ok : List ℕ → Verdict → Bool
verdict_length_ok p (Drop reason) = true
verdict_length_ok p Deliver = true
verdict_length_ok p (Forward port n) = leb n longest_packet and not (is_announce (header_of p)) and forwarded_length p n
verdict_length_ok p (Spread ports n) = leb n longest_packet and is_announce (header_of p) and grown_length p n
verdict_length_ok p Kept = is_announce (header_of p)

unfoldable pub answer_length_ok : List ℕ → Answer → Bool
answer_length_ok p (Refused number) = true
answer_length_ok p (Judged verdict) = verdict_length_ok p verdict

-- ---- wish 11: what leaves by a port is never longer than that port carries, by its size before the call; of a spread that is each port of its set
unfoldable pub verdict_size_ok : Relay → Verdict → Bool
verdict_size_ok r (Drop reason) = true
verdict_size_ok r Deliver = true
verdict_size_ok r (Forward port n) = leb n (port_size r port)
verdict_size_ok r (Spread ports n) = all_below (λ port. not (in_set ports port) or leb n (port_size r port)) port_count
verdict_size_ok r Kept = true

unfoldable pub answer_size_ok : Relay → Answer → Bool
answer_size_ok r (Refused number) = true
answer_size_ok r (Judged verdict) = verdict_size_ok r verdict
