use mathlib.Core.Bool.{Bool, true, false, not}
use mathlib.Core.Path.{◌≡◌, refl, sym, ap, ◌∙◌}
use lib.Dec.{eqb}
use lib.ListN.{length}
use borrow.Author.Tests.{eq-eqb, ne_eqb}
use Rattle.octets.specs.Choice.{◌or◌}
use Rattle.octets.proofs.Choice.{or_left, or_else}
use Rattle.packet.specs.Places.{keys_width, name_hash_width, random_width, ratchet_width, signature_width}
use Rattle.announcing.specs.Announcing.{wrong_lengths}
use Rattle.announcing.proofs.Announce.wrong_lengths.Goals.{then-self-ne-KEYS_WIDTH, else-self-ne-KEYS_WIDTH, then-self-ne-NAME_HASH_WIDTH, else-self-ne-NAME_HASH_WIDTH, then-self-ne-RANDOM_WIDTH, else-self-ne-RANDOM_WIDTH+then-self-ne0, else-self-ne-RANDOM_WIDTH+else-self-ne0}
use Rattle.announcing.proofs.Announce.wrong_lengths.Goals as goal

or_assoc : (a b c : Bool) → ((a or b) or c) ≡ (a or (b or c))
unfolding ◌or◌
or_assoc true b c = refl
or_assoc false b c = refl

stays : {a : Bool} (b : Bool) → a ≡ true → a ≡ (a or b)
stays b e = e ∙ sym (or_left b e)

-- the tests that passed before the signature's, in the definition's order
grouped : (a b c d e v₁ v₂ v₃ : Bool) → v₁ ≡ (a or b) → v₂ ≡ (v₁ or c) → v₃ ≡ (v₂ or d) → (v₃ or e) ≡ (a or (b or (c or (d or e))))
grouped a b c d e v₁ v₂ v₃ p q r = rw (r, q, p) (or_assoc ((a or b) or c) d e ∙ or_assoc (a or b) c (d or e) ∙ or_assoc a b (c or (d or e)))

pub returns-then-self-ne-RATCHET_WIDTH : goal.returns-then-self-ne-RATCHET_WIDTH
unfolding wrong_lengths
returns-then-self-ne-RATCHET_WIDTH c =
    let i = c.self.inside in
    let keys = not (eqb (length i.keys.now) keys_width) in
    let name = not (eqb (length i.name_hash.now) name_hash_width) in
    let random = not (eqb (length i.random.now) random_width) in
    let ratchet = not (eqb (length i.ratchet.now) 0 or eqb (length i.ratchet.now) ratchet_width) in
    let v1 : c.if-self-ne-KEYS_WIDTH.value ≡ (keys or name) =
    elim c.if-self-ne-KEYS_WIDTH.branch [
      | then-self-ne-KEYS_WIDTH w ↦ w.value-is ∙ stays name (ap not (ne_eqb _ keys_width w.if-self-ne-KEYS_WIDTH.true))
      | else-self-ne-KEYS_WIDTH w ↦ w.value-is ∙ sym (or_else name (ap not (eq-eqb _ keys_width w.if-self-ne-KEYS_WIDTH.false)))
    ] in
    let v2 : c.if-self-ne-NAME_HASH_WIDTH.value ≡ (c.if-self-ne-KEYS_WIDTH.value or random) =
    elim c.if-self-ne-NAME_HASH_WIDTH.branch [
      | then-self-ne-NAME_HASH_WIDTH w ↦ w.value-is ∙ stays random w.if-self-ne-NAME_HASH_WIDTH.true
      | else-self-ne-NAME_HASH_WIDTH w ↦ w.value-is ∙ sym (or_else random w.if-self-ne-NAME_HASH_WIDTH.false)
    ] in
    let v3 : c.if-self-ne-RANDOM_WIDTH.value ≡ (c.if-self-ne-NAME_HASH_WIDTH.value or ratchet) =
    elim c.if-self-ne-RANDOM_WIDTH.branch [
      | then-self-ne-RANDOM_WIDTH w ↦ w.value-is ∙ stays ratchet w.if-self-ne-RANDOM_WIDTH.true
      | else-self-ne-RANDOM_WIDTH+then-self-ne0 w ↦
          w.value-is ∙ sym (or_else ratchet w.if-self-ne-RANDOM_WIDTH.false ∙ ap not (or_else _ (ne_eqb _ 0 w.if-self-ne0.true)))
      | else-self-ne-RANDOM_WIDTH+else-self-ne0 w ↦
          w.value-is ∙ ap not (stays _ (eq-eqb _ 0 w.if-self-ne0.false)) ∙ sym (or_else ratchet w.if-self-ne-RANDOM_WIDTH.false)
    ] in
    let signature = not (eqb c.args.signature signature_width) in
    let all = stays signature c.if-self-ne-RATCHET_WIDTH.true ∙ grouped keys name random ratchet signature _ _ _ v1 v2 v3 in
    rw (sym c.self.view_is) all

pub returns-else-self-ne-RATCHET_WIDTH : goal.returns-else-self-ne-RATCHET_WIDTH
unfolding wrong_lengths
returns-else-self-ne-RATCHET_WIDTH c =
    let i = c.self.inside in
    let keys = not (eqb (length i.keys.now) keys_width) in
    let name = not (eqb (length i.name_hash.now) name_hash_width) in
    let random = not (eqb (length i.random.now) random_width) in
    let ratchet = not (eqb (length i.ratchet.now) 0 or eqb (length i.ratchet.now) ratchet_width) in
    let v1 : c.if-self-ne-KEYS_WIDTH.value ≡ (keys or name) =
    elim c.if-self-ne-KEYS_WIDTH.branch [
      | then-self-ne-KEYS_WIDTH w ↦ w.value-is ∙ stays name (ap not (ne_eqb _ keys_width w.if-self-ne-KEYS_WIDTH.true))
      | else-self-ne-KEYS_WIDTH w ↦ w.value-is ∙ sym (or_else name (ap not (eq-eqb _ keys_width w.if-self-ne-KEYS_WIDTH.false)))
    ] in
    let v2 : c.if-self-ne-NAME_HASH_WIDTH.value ≡ (c.if-self-ne-KEYS_WIDTH.value or random) =
    elim c.if-self-ne-NAME_HASH_WIDTH.branch [
      | then-self-ne-NAME_HASH_WIDTH w ↦ w.value-is ∙ stays random w.if-self-ne-NAME_HASH_WIDTH.true
      | else-self-ne-NAME_HASH_WIDTH w ↦ w.value-is ∙ sym (or_else random w.if-self-ne-NAME_HASH_WIDTH.false)
    ] in
    let v3 : c.if-self-ne-RANDOM_WIDTH.value ≡ (c.if-self-ne-NAME_HASH_WIDTH.value or ratchet) =
    elim c.if-self-ne-RANDOM_WIDTH.branch [
      | then-self-ne-RANDOM_WIDTH w ↦ w.value-is ∙ stays ratchet w.if-self-ne-RANDOM_WIDTH.true
      | else-self-ne-RANDOM_WIDTH+then-self-ne0 w ↦
          w.value-is ∙ sym (or_else ratchet w.if-self-ne-RANDOM_WIDTH.false ∙ ap not (or_else _ (ne_eqb _ 0 w.if-self-ne0.true)))
      | else-self-ne-RANDOM_WIDTH+else-self-ne0 w ↦
          w.value-is ∙ ap not (stays _ (eq-eqb _ 0 w.if-self-ne0.false)) ∙ sym (or_else ratchet w.if-self-ne-RANDOM_WIDTH.false)
    ] in
    let signature = not (eqb c.args.signature signature_width) in
    let all = sym (or_else signature c.if-self-ne-RATCHET_WIDTH.false) ∙ grouped keys name random ratchet signature _ _ _ v1 v2 v3 in
    rw (sym c.self.view_is) all
