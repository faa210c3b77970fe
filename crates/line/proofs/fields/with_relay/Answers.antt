use mathlib.Core.Path.{◌≡◌, sym, ◌∙◌}
use mathlib.Core.Bool.{true, false}
use Rattle.octets.specs.Choice.{◌then◌otherwise◌}
use Rattle.text.proofs.WordLaws.{words_appended}
use Rattle.text.proofs.TextLaws.{appended_none}
use Rattle.text.proofs.WordLaws.{spaced_nil}
use Rattle.packet.specs.Header.{type_two}
use Rattle.line.specs.Line.{relay_words}
use Rattle.line.proofs.fields.with_relay.Goals as goal

pub returns-then-type_two : goal.returns-then-type_two
unfolding relay_words ◌then◌otherwise◌
returns-then-type_two c =
    let two : type_two c.args.header ≡ true = sym c.type_two.ensures ∙ c.if-type_two.true in
    rw (c.with_bytes.ensures, c.with_word.ensures, two, words_appended)

pub returns : goal.returns
unfolding relay_words ◌then◌otherwise◌
returns c =
    let one : type_two c.args.header ≡ false = sym c.type_two.ensures ∙ c.if-type_two.false in
    rw (one, spaced_nil, appended_none)
