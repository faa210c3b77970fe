use mathlib.Core.Path.{refl, sym, ap, ◌∙◌}
use Rattle.numbers.specs.declared.refusal.Refusal.TheVariants.{TooLong}
use Rattle.numbers.proofs.RefusalNumbers.{some_number}
use Rattle.sha256.specs.Sha256.{Digest}
use Rattle.haskumye.proofs.ExportLaws.{written, untouched}
use Rattle.haskumye.proofs.hashing.haskumye_sha256.Goals as goal

pub returns-in_default : goal.returns-in_default
returns-in_default c =
    untouched _ _ (c.number.ensures ∙ ap (λ (d : Digest). d.refusal) c.in_default.ensures) _ c.args.out.now
    (λ z. some_number TooLong (sym c.number.ensures ∙ z))

pub returns : goal.returns
returns c =
    let told = c.in-Some.ensures in
    written 0 _ (ap (λ (d : Digest). d.refusal) told) _ c.args.out.now _ (ap (λ (d : Digest). d.bytes) told) refl
