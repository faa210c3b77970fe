-- `sha256::sha256` meets its contract.
-- Assumes nothing.
use Rattle.std.proofs.Common.{length, arith, le-leb}
use borrow.Author.Tests.{lt-leb}
use Rattle.sha256.specs.Sha256.{sha256_of, longest_message}
use Rattle.sha256.proofs.sha256.Goals as goal

pub returns-then-message-le65535 : goal.returns-then-message-le65535
unfolding sha256_of
returns-then-message-le65535 c = rw (le-leb (length c.args.message.now) longest_message (omega arith)) (cc)

pub returns-else-message-le65535 : goal.returns-else-message-le65535
returns-else-message-le65535 c = rw (lt-leb _ longest_message c.if-message-le65535.false)
