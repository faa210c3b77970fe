-- Document 02, wishes 9 and 11, of one packet call on the bytes: what leaves is at most 500 bytes long and never longer than the port carries that it
-- leaves by, and a forwarded packet is as long as it came in or sixteen bytes shorter. On any tables, whatever packet, port, clock, word and buffers.
use Rattle.std.proofs.Common.{◌≡◌, ℕ, Bool, true, List, refl}
use Rattle.rules.specs.Lengths.{answer_length_ok, answer_size_ok}
use Rattle.rules.specs.declared.Tally.{Tally}
use Rattle.rules.proofs.Choices.{either}
use Rattle.rules.proofs.Lengths.{lengths_kept, sizes_kept}
use Rattle.tables.specs.Layout.{relay_of, well_formed}
use Rattle.tables.proofs.Addressed.{addressed_of}
use Rattle.relay.specs.Promise.{JudgementOn, in_bytes, packet_on}

module _ (p : List ℕ) (port clock : ℕ) (signed : Bool) (tables : List ℕ) (tally : Tally) (output : List ℕ) where
  pub lengths_on : answer_length_ok p (packet_on p port clock signed tables tally output).answer ≡ true
  unfolding packet_on in_bytes answer_length_ok
  lengths_on =
      either (λ (o : JudgementOn). answer_length_ok p o.answer ≡ true) (well_formed tables)
      (λ h. lengths_kept (relay_of tables) (addressed_of tables h) (record { bytes = p; port = port; clock = clock; signed = signed }) tally output)
      (λ _. refl)

  pub sizes_on : answer_size_ok (relay_of tables) (packet_on p port clock signed tables tally output).answer ≡ true
  unfolding packet_on in_bytes answer_size_ok
  sizes_on =
      either (λ (o : JudgementOn). answer_size_ok (relay_of tables) o.answer ≡ true) (well_formed tables)
      (λ h. sizes_kept (relay_of tables) (record { bytes = p; port = port; clock = clock; signed = signed }) tally output)
      (λ _. refl)
