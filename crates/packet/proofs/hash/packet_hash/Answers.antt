use Rattle.std.proofs.Common.{◌≡◌, refl, sym, ◌∙◌}
use Rattle.std.proofs.lemmas.Result.{err_from_is_err_and}
use Rattle.octets.specs.Choice.{◌then◌otherwise◌}
use Rattle.numbers.specs.Numbers.{longest_packet}
use Rattle.numbers.proofs.RefusalNumbers.{some_number}
use Rattle.packet.specs.Read.{reading_refusal}
use Rattle.packet.specs.Hash.{packet_hash_answer}
use Rattle.packet.proofs.ReadLaws.{refused_reads, accepted_reads}
use Rattle.packet.proofs.hash.packet_hash.Goals as goal

pub returns-in_err-check : goal.returns-in_err-check
unfolding packet_hash_answer ◌then◌otherwise◌
returns-in_err-check c =
    let p = err_from_is_err_and c.from_residual.result c.from_residual.ensures.1 in
    let refused = c.in_err-check.ensures in
    rw (p.1, p.2, refused, refused_reads longest_packet c.args.packet.now (λ e. some_number _ (refused ∙ e))) refl

pub hash_of-requires : goal.hash_of-requires
hash_of-requires c = accepted_reads longest_packet c.args.packet.now (sym c.in_ok-check.ensures)

pub returns : goal.returns
unfolding packet_hash_answer ◌then◌otherwise◌
returns c =
    let zero : reading_refusal longest_packet c.args.packet.now ≡ 0 = sym c.in_ok-check.ensures in
    rw (zero, accepted_reads longest_packet c.args.packet.now zero, c.hash_of.ensures) refl
