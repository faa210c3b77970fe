use Rattle.text.proofs.WordLaws.{words_appended}
use Rattle.line.proofs.names.with_names.Goals as goal

pub returns : goal.returns
returns c =
    rw (
      c.with_kind.ensures,
      c.with_kind-to.ensures,
      c.with_transport-sent.ensures,
      c.destination_kind-destination.ensures,
      c.packet_kind-kind.ensures,
    )
    (simp words_appended)
