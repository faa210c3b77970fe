-- What the proofs of joined tests, and of packets that read, take in most steps.
use borrow.Author.Tests.{lt-ltb, le-ltb}
use Rattle.octets.proofs.Index.{and_yes, and_no}
use Rattle.octets.proofs.Chains.{equal_is_same}
use Rattle.octets.proofs.Choice.{or_left, or_else, then_true, then_false}
use Rattle.packet.proofs.ReadLaws.{parts_hops}
use Rattle.outgoing.proofs.LeavingLaws.{whole, long}

-- what two joined tests say, once the first is known, and what a choice gives
pub ruleset joined = (and_yes, and_no, or_left, or_else, then_true, then_false, lt-ltb, le-ltb)

-- .. and of a packet that reads: its head is there, byte 1 is its hops, and addresses are compared
pub ruleset reading = (joined, equal_is_same, parts_hops, whole, long)
