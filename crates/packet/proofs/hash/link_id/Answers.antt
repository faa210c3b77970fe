use Rattle.std.proofs.Common.{◌≡◌, refl, sym, ◌∙◌}
use Rattle.std.proofs.lemmas.Result.{err_from_is_err_and}
use Rattle.octets.specs.Choice.{◌then◌otherwise◌}
use Rattle.numbers.specs.Numbers.{longest_packet}
use Rattle.numbers.proofs.RefusalNumbers.{some_number}
use Rattle.packet.specs.Read.{reading_refusal}
use Rattle.packet.specs.Hash.{link_id_answer}
use Rattle.packet.proofs.ReadLaws.{refused_reads, accepted_reads}
use Rattle.packet.proofs.hash.link_id.Goals as goal

pub returns-in_err-check : goal.returns-in_err-check
unfolding link_id_answer ◌then◌otherwise◌
returns-in_err-check c =
    let p = err_from_is_err_and c.from_residual.result c.from_residual.ensures.1 in
    let refused = c.in_err-check.ensures in
    rw (p.1, p.2, refused, refused_reads longest_packet c.args.packet.now (λ e. some_number _ (refused ∙ e))) refl

pub link_id_of-requires : goal.link_id_of-requires
link_id_of-requires c = accepted_reads longest_packet c.args.packet.now (sym c.in_ok-check.ensures)

pub returns : goal.returns
unfolding link_id_answer ◌then◌otherwise◌
returns c =
    let zero : reading_refusal longest_packet c.args.packet.now ≡ 0 = sym c.in_ok-check.ensures in
    rw (zero, accepted_reads longest_packet c.args.packet.now zero, c.link_id_of.ensures) refl
