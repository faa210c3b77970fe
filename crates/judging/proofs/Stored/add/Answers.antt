use Rattle.std.proofs.Common.{rules, arith, ◌-◌}
use borrow.Author.Tests.{tests}
use Rattle.rules.specs.Blobs.{add_blob}
use Rattle.octets.specs.Choice.{◌then◌otherwise◌}
use Rattle.std.proofs.Common.{length, ◌≡◌}
use Rattle.numbers.specs.Numbers.{blob_limit}
use Rattle.judging.proofs.HeldBlobs.{turned}
use Rattle.judging.proofs.Stored.add.Goals as goal

pub returns-then-self-lt-BLOB_LIMIT : goal.returns-then-self-lt-BLOB_LIMIT
unfolding add_blob ◌then◌otherwise◌
returns-then-self-lt-BLOB_LIMIT c = grind (arith, tests)

pub returns-else-self-lt-BLOB_LIMIT : goal.returns-else-self-lt-BLOB_LIMIT
unfolding add_blob ◌then◌otherwise◌
returns-else-self-lt-BLOB_LIMIT c =
    let all : length c.args.self.now.places ≡ blob_limit = search rules in
    grind (arith, tests, c.rotate_left.ensures.after, turned c.args.blob c.args.self.now.places (blob_limit - 1) all)
