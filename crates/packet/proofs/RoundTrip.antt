-- Reading and writing undo each other. For all bytes, parts, payloads and sizes:
--   read_write      what is read and then written is the packet, byte for byte;
--   write_reads, write_parts, write_payload
--                   what is written reads again, at every size no smaller than it, and gives the parts and the payload back, a relay
--                   address in type 1 as zeros.
-- The same of the answers and buffers of the calls: reading_writing and writing_reading.
use Prim.Native.Nat.{ℕ, ◌≤◌}
use native.Mathlib.Omega.{arith}
use mathlib.Core.Bool.{Bool, true, false}
use mathlib.Core.List.{List, [], ◌∷◌, ◌++◌}
use mathlib.Core.Path.{◌≡◌, refl, sym, ap, ap₂, ◌∙◌}
use lib.ListN.{length, get_or, take, drop, take-append-drop}
use lib.Seq.{drop-cons, drop-drop, take_at}
use Rattle.octets.specs.Part.{part, patch}
use Rattle.octets.proofs.Choice.{then_true, then_false}
use Rattle.packet.specs.Header.{access_code, type_two}
use Rattle.packet.specs.Read.{Reading, header_of, type_one_parts, type_two_parts, parts_of, payload_start, payload, longest_packet, reads, reading}
use Rattle.packet.specs.Write.{packet_of, least_output, writing_refusal, writing, read_back}
use Rattle.packet.specs.declared.Parts.{Parts}
use Rattle.packet.proofs.ListLaws.{behind, found_part, found_byte, found_rest, patched_start}
use Rattle.packet.proofs.ReadLaws.{start_two, start_one, accepted, reads_readable, readable_reads, parts_two, parts_one, parts_header, answer_read}
use Rattle.packet.specs.Write.{Wide}
use Rattle.packet.specs.Places.{address_width, hops_at, address_at, second_address_at, type_one_context_at, type_two_context_at, type_one_start, type_two_start}
use Rattle.packet.proofs.WriteLaws.{packet_two, packet_one, packet_length, Writable, writable, accepted_writing, writing_done}

-- ---- read, then written
head_drop : (p : List ℕ) → address_at ≤ length p → header_of p ∷ get_or p hops_at 0 ∷ drop address_at p ≡ p
head_drop p h =
    ap (λ (r : List ℕ). header_of p ∷ r) (sym (drop-cons p hops_at 0 h)) ∙ sym (drop-cons p 0 0 (omega arith))

module _ (p : List ℕ) (whole : payload_start (header_of p) ≤ length p) where
  again_two : type_two (header_of p) ≡ true → packet_of (parts_of p) (payload p) ≡ p
  unfolding type_two_parts payload part
  again_two t =
      let start : payload_start (header_of p) ≡ type_two_start = start_two (header_of p) t in
      ap₂ (λ (q : Parts) (n : ℕ). packet_of q (drop n p)) (parts_two p t) start
      ∙ packet_two (type_two_parts p) (drop type_two_start p) t
      ∙ ap (λ (r : List ℕ). header_of p ∷ get_or p hops_at 0 ∷ (part p address_at address_width ++ r)) (behind p second_address_at (omega arith))
      ∙ ap (λ (r : List ℕ). header_of p ∷ get_or p hops_at 0 ∷ (take address_width (drop address_at p) ++ r)) (sym (drop-drop address_width address_at p))
      ∙ ap (λ (r : List ℕ). header_of p ∷ get_or p hops_at 0 ∷ r) (take-append-drop address_width (drop address_at p))
      ∙ head_drop p (omega arith)

  again_one : type_two (header_of p) ≡ false → packet_of (parts_of p) (payload p) ≡ p
  unfolding type_one_parts payload
  again_one t =
      let start : payload_start (header_of p) ≡ type_one_start = start_one (header_of p) t in
      ap₂ (λ (q : Parts) (n : ℕ). packet_of q (drop n p)) (parts_one p t) start
      ∙ packet_one (type_one_parts p) (drop type_one_start p) t
      ∙ ap (λ (r : List ℕ). header_of p ∷ get_or p hops_at 0 ∷ r) (behind p address_at (omega arith))
      ∙ head_drop p (omega arith)

  again : packet_of (parts_of p) (payload p) ≡ p
  again = go (type_two (header_of p)) refl
    where
      go : (t : Bool) → type_two (header_of p) ≡ t → packet_of (parts_of p) (payload p) ≡ p
      go true e = again_two e
      go false e = again_one e

module _ (size : ℕ) (p : List ℕ) (h : reads size p ≡ true) where
  pub read_write : packet_of (parts_of p) (payload p) ≡ p
  read_write = again p (reads_readable size p h).whole

  -- the parts that a reading gives, written with the payload into a buffer of 500 bytes or more
  pub reading_writing : (output : List ℕ) → least_output ≤ length output
      → writing (reading size p).parts (payload p) output ≡ record { answer = record { refusal = 0; length = length p }; output = patch output 0 p }
  reading_writing output room =
      ap (λ (q : Parts). writing q (payload p) output) parts_read
      ∙ writing_done (parts_of p) (payload p) output (accepted_writing (length output) (parts_of p) (payload p) able)
      ∙ ap (λ (r : List ℕ). record { answer = record { refusal = 0; length = length r }; output = patch output 0 r }) read_write
    where
      able : Writable (length output) (parts_of p) (payload p)
      able =
          let r = reads_readable size p h in
          record { roomy = room; fits = rw read_write (omega (arith, r.fits, r.within)); free = rw (parts_header p) r.free }

      parts_read : (reading size p).parts ≡ parts_of p
      parts_read = ap (λ (r : Reading). r.parts) (sym (answer_read size p (parts_of p) (accepted size p (reads_readable size p h)) refl))

-- ---- written, then read
module _ (q : Parts) (body : List ℕ) (wide : Wide q) where
  -- the packet of either type as a head, sixteen bytes of destination, the context and the payload
  found_two : type_two q.header ≡ true → (parts_of (packet_of q body) ≡ read_back q) × (payload (packet_of q body) ≡ body)
  unfolding type_two_parts read_back payload part
  found_two t =
      let head : List ℕ = q.header ∷ q.hops ∷ q.relay in
      let p : List ℕ = head ++ (q.destination ++ (q.context ∷ body)) in
      let eh : length head ≡ second_address_at = omega (arith, wide.relay) in
      let relay : part p address_at address_width ≡ q.relay = take_at q.relay (q.destination ++ (q.context ∷ body)) address_width wide.relay in
      let destination : part p second_address_at address_width ≡ q.destination =
      found_part head q.destination q.context body second_address_at eh wide.destination in
      let context : get_or p type_two_context_at 0 ≡ q.context = found_byte head q.destination q.context body second_address_at eh wide.destination in
      let rest : drop type_two_start p ≡ body = found_rest head q.destination q.context body second_address_at eh wide.destination in (
        ap parts_of (packet_two q body t) ∙ parts_two p t ∙ rw (relay, destination, context) (sym (then_true _ _ t)),
        ap payload (packet_two q body t) ∙ ap (λ (n : ℕ). drop n p) (start_two q.header t) ∙ rest,
      )

  found_one : type_two q.header ≡ false → (parts_of (packet_of q body) ≡ read_back q) × (payload (packet_of q body) ≡ body)
  unfolding type_one_parts read_back payload
  found_one t =
      let head : List ℕ = q.header ∷ q.hops ∷ [] in
      let p : List ℕ = head ++ (q.destination ++ (q.context ∷ body)) in
      let destination : part p address_at address_width ≡ q.destination =
      found_part head q.destination q.context body address_at refl wide.destination in
      let context : get_or p type_one_context_at 0 ≡ q.context = found_byte head q.destination q.context body address_at refl wide.destination in
      let rest : drop type_one_start p ≡ body = found_rest head q.destination q.context body address_at refl wide.destination in (
        ap parts_of (packet_one q body t) ∙ parts_one p t ∙ rw (destination, context) (sym (then_false _ _ t)),
        ap payload (packet_one q body t) ∙ ap (λ (n : ℕ). drop n p) (start_one q.header t) ∙ rest,
      )

  found : (parts_of (packet_of q body) ≡ read_back q) × (payload (packet_of q body) ≡ body)
  found = go (type_two q.header) refl
    where
      go : (t : Bool) → type_two q.header ≡ t → (parts_of (packet_of q body) ≡ read_back q) × (payload (packet_of q body) ≡ body)
      go true e = found_two e
      go false e = found_one e

  pub write_parts : parts_of (packet_of q body) ≡ read_back q
  write_parts = found.0

  pub write_payload : payload (packet_of q body) ≡ body
  write_payload = found.1

  pub write_reads : (size : ℕ) → length (packet_of q body) ≤ size → size ≤ longest_packet → access_code q.header ≡ false
      → reads size (packet_of q body) ≡ true
  unfolding packet_of
  write_reads size l m c =
      readable_reads size (packet_of q body)
      (record { within = m; fits = l; free = c; whole = omega (arith, packet_length q body wide) })

  -- what stands in the output after a writing that nothing refused, read at any size no smaller than it
  pub writing_reading : (size : ℕ) (output : List ℕ) → writing_refusal (length output) q body ≡ 0 → (writing q body output).answer.length ≤ size
      → size ≤ longest_packet
      → reading size (take (writing q body output).answer.length (writing q body output).output) ≡ record { refusal = 0; parts = read_back q }
  writing_reading size output z l m =
      let done = writing_done q body output z in
      let p = packet_of q body in
      let start : take (writing q body output).answer.length (writing q body output).output ≡ p = rw done (patched_start output p (length p) refl) in
      let short : length p ≤ size = rw done at l in
      let again = write_reads size short m (writable (length output) q body z).free in
      rw start (sym (answer_read size p (read_back q) (accepted size p (reads_readable size p again)) (sym write_parts)))
