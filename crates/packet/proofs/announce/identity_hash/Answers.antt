use Rattle.packet.specs.Announce.{keys_of, identity_hash}
use Rattle.packet.specs.Places.{address_width, keys_width}
use Rattle.packet.proofs.ListLaws.{part_most}
use mathlib.Core.Path.{ap, ◌∙◌}
use lib.Dec.{lit≤}
use lib.Seq.{take-length}
use lib.ListN.{take}
use Rattle.sha256.specs.Sha256.{sha256_of, longest_message}
use borrow.Author.Rules.{rules}
use Rattle.packet.proofs.announce.identity_hash.Goals as goal

pub hash_start-requires : goal.hash_start-requires
unfolding keys_of
hash_start-requires c = (search rules, rw c.keys-k.ensures (part_most c.args.body.now 0 keys_width longest_message (lit≤ tt)))

pub returns : goal.returns
unfolding identity_hash
returns c =
    c.first_sixteen.ensures
    ∙ ap (take address_width) (c.hash_start.ensures
    ∙ ap sha256_of (take-length c.keys-k.result.now ∙ c.keys-k.ensures))
