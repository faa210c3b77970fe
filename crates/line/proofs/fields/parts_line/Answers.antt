use Rattle.text.proofs.WordLaws.{words_appended}
use mathlib.Core.Path.{◌≡◌}
use mathlib.Core.List.{◌++◌}
use lib.ListN.{length}
use Rattle.text.proofs.WordLaws.{line_appended}
use Rattle.line.specs.Line.{type_name, name_words, way_words, payload_words, relay_words, parts_words}
use Rattle.line.proofs.LineLaws.{parts_fit}
use native.Mathlib.Omega.{arith}
use borrow.Author.Rules.{rules}
use Rattle.packet.specs.Places.{address_width}
use Rattle.line.proofs.fields.parts_line.Goals as goal

pub returns : goal.returns
unfolding parts_words
returns c =
    let q = c.args.parts in
    let destination-width : length q.destination ≡ address_width = search rules in
    let relay-width : length q.relay ≡ address_width = search rules in
    let size = c.args.size in
    let h = q.header in
    let fit = parts_fit q size (omega arith) destination-width relay-width c.requires in
    let words = name_words h ++ (way_words q.hops q.destination ++ (payload_words q.context size ++ relay_words h q.relay)) in
    rw (
      c.with_character.ensures,
      c.with_relay-whole.ensures,
      c.with_payload-loaded.ensures,
      c.with_way-sent.ensures,
      c.with_names-named.ensures,
      c.type_line.ensures,
    )
    (simp words_appended (line_appended (type_name h) words fit))
