use Rattle.std.specs.Option.{unwrap_or}
use Rattle.std.proofs.Common.{ap, [], ℕ, ◌≤◌, List, length, take, length-take, sym, ◌∙◌, arith, rules}
use Rattle.sha256.specs.Sha256.{longest_message}
use Rattle.sha256.proofs.Promise.{digest_there}
use Rattle.packet.proofs.hash.hash_start.Goals as goal

pub unwrap-requires : goal.unwrap-requires
unwrap-requires c =
    let m : List ℕ = take c.args.n c.args.buffer.now in
    let short : length m ≤ longest_message = simp length-take (omega arith) in
    rw (digest_there _ m c.sha256.ensures short) (search rules)

pub returns : goal.returns
returns c =
    let m : List ℕ = take c.args.n c.args.buffer.now in
    let short : length m ≤ longest_message = simp length-take (omega arith) in
    ap (λ o. unwrap_or o []) (sym c.unwrap.ensures ∙ digest_there _ m c.sha256.ensures short)
