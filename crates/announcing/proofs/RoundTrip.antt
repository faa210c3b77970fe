-- Wish 12: "reading it gives the parts back", and the signing bytes are those of the announce that is built. For all that is given, signatures, rooms
-- and sizes:
--   built_read      what stands in the room after a building that nothing refused reads, at every size no smaller than it, and gives the parts back;
--   signed_exactly  what stands in the room after the signing bytes were laid out is what the announce's own parts say is signed;
--   refused_alike   the signing bytes are refused as the announce is, whatever the signature's 64 bytes.
use Prim.Native.Nat.{ℕ, ◌≤◌}
use mathlib.Core.List.{List}
use mathlib.Core.Path.{◌≡◌, refl, sym, ap, subst, ◌∙◌}
use lib.ListN.{length, take}
use borrow.Author.Tests.{eq-eqb}
use Rattle.octets.specs.Choice.{◌then◌otherwise◌}
use Rattle.octets.specs.Part.{part}
use Rattle.packet.specs.Read.{longest_packet, header_of, payload, reads, reading}
use Rattle.packet.specs.Write.{packet_of}
use Rattle.packet.specs.Announce.{keys_of, name_hash_of, blob_of, emission_of, ratchet_of, signature_of, app_data_of}
use Rattle.packet.specs.Places.{random_width, signature_width}
use Rattle.packet.proofs.ListLaws.{patched_start}
use Rattle.packet.proofs.ReadLaws.{accepted, reads_readable, answer_read}
use Rattle.packet.proofs.RoundTrip.{write_reads}
use Rattle.announcing.specs.Announcing.{Announce, destination, signed_bytes, payload_with, head_of, parts_for, announce_with, announce_refusal, any_signature, laid, signing, building, signed_in}
use Rattle.announcing.proofs.Lengths.{parts_wide, refusal_by_lem, Buildable, buildable}
use Rattle.announcing.proofs.Fields.{head_free, built_header, built_payload, built_parts, keys_found, name_found, blob_found, random_found, clock_found, ratchet_found, signature_found, app_data_found}

-- what a packet gives back
pub record GivesBack (size : ℕ) (p : List ℕ) (a : Announce) (s : List ℕ) : Type 0 where
  pub head : reading size p ≡ record { refusal = 0; parts = parts_for a }
  pub keys : keys_of (payload p) ≡ a.keys
  pub name_hash : name_hash_of (payload p) ≡ a.name_hash
  pub random : part (blob_of (payload p)) 0 random_width ≡ a.random
  pub clock : emission_of (blob_of (payload p)) ≡ a.clock
  pub ratchet : ratchet_of (header_of p) (payload p) ≡ a.ratchet
  pub signature : signature_of (header_of p) (payload p) ≡ s
  pub app_data : app_data_of (header_of p) (payload p) ≡ a.app_data

module _ (a : Announce) (signature : List ℕ) {room : ℕ} (b : Buildable a signature room) where
  pub announce_reads : (size : ℕ) → length (announce_with a signature) ≤ size → size ≤ longest_packet
      → reading size (announce_with a signature) ≡ record { refusal = 0; parts = parts_for a }
  unfolding announce_with
  announce_reads size l m =
      let p = packet_of (parts_for a) (payload_with a signature) in
      let r : reads size p ≡ _ =
      write_reads (parts_for a) (payload_with a signature) (parts_wide a) size l m (head_free (destination a) (length a.ratchet)) in
      sym (answer_read size p (parts_for a) (accepted size p (reads_readable size p r)) (sym (built_parts a signature)))

  pub announce_gives_back : (size : ℕ) → length (announce_with a signature) ≤ size → size ≤ longest_packet
      → GivesBack size (announce_with a signature) a signature
  announce_gives_back size l m =
      record {
        head = announce_reads size l m;
        keys = rw (built_payload a signature) (keys_found a signature b);
        name_hash = rw (built_payload a signature) (name_found a signature b);
        random = rw (built_payload a signature, blob_found a signature b) (random_found a signature b);
        clock = rw (built_payload a signature, blob_found a signature b) (clock_found a signature b);
        ratchet = rw (built_header a signature, built_payload a signature) (ratchet_found a signature b);
        signature = rw (built_header a signature, built_payload a signature) (signature_found a signature b);
        app_data = rw (built_header a signature, built_payload a signature) (app_data_found a signature b);
      }

  pub announce_signed : signed_in (announce_with a signature) ≡ signed_bytes a
  unfolding signed_in signed_bytes head_of
  announce_signed =
      rw (
        built_parts a signature,
        built_header a signature,
        built_payload a signature,
        keys_found a signature b,
        name_found a signature b,
        blob_found a signature b,
        ratchet_found a signature b,
        app_data_found a signature b,
      )

-- ---- the calls
-- what stands in the room after a call that nothing refused
pub laid_stands : (refusal : ℕ) (bytes room : List ℕ) → refusal ≡ 0
    → take (laid refusal bytes room).answer.length (laid refusal bytes room).output ≡ bytes
unfolding laid ◌then◌otherwise◌
laid_stands refusal bytes room z = rw (eq-eqb refusal 0 z) (patched_start room bytes (length bytes) refl)

module _ (a : Announce) (signature room : List ℕ) (z : announce_refusal a signature (length room) ≡ 0) where
  abbrev pub built_in : List ℕ
  built_in = take (building a signature room).answer.length (building a signature room).output

  pub built_stands : built_in ≡ announce_with a signature
  unfolding building
  built_stands = laid_stands (announce_refusal a signature (length room)) (announce_with a signature) room z

  pub built_read : (size : ℕ) → length built_in ≤ size → size ≤ longest_packet → GivesBack size built_in a signature
  built_read size l m =
      let b = buildable a signature (length room) z in
      subst (λ (p : List ℕ). GivesBack size p a signature) (sym built_stands)
      (announce_gives_back a signature b size (subst (λ (p : List ℕ). length p ≤ size) built_stands l) m)

  -- laid out in any room of 500 bytes or more
  pub signed_exactly : (other : List ℕ) → announce_refusal a any_signature (length other) ≡ 0
      → take (signing a other).answer.length (signing a other).output ≡ signed_in built_in
  unfolding signing
  signed_exactly other y =
      laid_stands (announce_refusal a any_signature (length other)) (signed_bytes a) other y
      ∙ sym (ap signed_in built_stands ∙ announce_signed a signature (buildable a signature (length room) z))

pub refused_alike : (a : Announce) (signature : List ℕ) (room : ℕ) → length signature ≡ signature_width
    → announce_refusal a any_signature room ≡ announce_refusal a signature room
refused_alike a signature room e = refusal_by_lem a any_signature room ∙ rw e at (sym (refusal_by_lem a signature room))
