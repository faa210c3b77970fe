-- Neither packet hash nor link id depends on hops or relay address.
-- Over parts: same_packet_hash, same_link_id. Over the bytes of a packet: hops_packet_hash, hops_link_id, relay_packet_hash, relay_link_id.
use Prim.Native.Nat.{ℕ, ◌+◌, ◌-◌, ◌%◌, ◌≤◌}
use native.Mathlib.Omega.{arith}
use mathlib.Core.Bool.{Bool, true, false}
use mathlib.Core.List.{List, ◌∷◌, ◌++◌, append_assoc}
use mathlib.Core.Path.{◌≡◌, refl, sym, ap, subst, ◌∙◌}
use lib.Dec.{lit<}
use lib.ListN.{length, take, drop, set, length-append, length-set, get_or-append}
use lib.Seq.{get_or-set_other, drop-set-lt, drop_at, get_or-take, length-take-le}
use Rattle.sha256.specs.Sha256.{sha256_of}
use Rattle.octets.specs.Part.{part, patch}
use Rattle.octets.specs.Choice.{◌then◌otherwise◌}
use Rattle.octets.proofs.Part.{patch_length}
use Rattle.packet.specs.Header.{type_two}
use Rattle.packet.specs.Read.{header_of, parts_of, payload_start, payload, reads}
use Rattle.packet.specs.Write.{packet_of, read_back}
use Rattle.packet.specs.Hash.{hashed_part, packet_hash, link_id}
use Rattle.packet.specs.declared.Parts.{Parts}
use Rattle.packet.proofs.ReadLaws.{start_two, start_least, reads_readable}
use Rattle.packet.proofs.HashLaws.{packet_hashed, link_hashed}
use Rattle.packet.specs.Write.{Wide}
use Rattle.packet.specs.Places.{address_width, hops_at, address_at, second_address_at, type_two_start, end_width, link_payload_width}
use Rattle.packet.proofs.RoundTrip.{write_parts, write_payload}

-- what is hashed of the parts is alike: header modulo 16, destination and context, whatever hops and relay address are
pub record HashedAlike (q r : Parts) : Type 0 where
  pub header : q.header % 16 ≡ r.header % 16
  pub destination : q.destination ≡ r.destination
  pub context : q.context ≡ r.context

hashed_alike : (q r : Parts) (body : List ℕ) → HashedAlike q r → hashed_part q body ≡ hashed_part r body
unfolding hashed_part
hashed_alike q r body e = rw (e.header, e.destination, e.context)

-- ---- over packets: alike in their parts, and with the same payload
module _ (p s : List ℕ) (parts : HashedAlike (parts_of p) (parts_of s)) (body : payload p ≡ payload s) where
  pub alike_packet_hash : packet_hash p ≡ packet_hash s
  unfolding packet_hash
  alike_packet_hash = ap sha256_of (hashed_alike (parts_of p) (parts_of s) (payload p) parts ∙ ap (hashed_part (parts_of s)) body)

  pub alike_link_id : link_id p ≡ link_id s
  unfolding link_id
  alike_link_id =
      ap (λ (m : List ℕ). take address_width (sha256_of m))
      (hashed_alike (parts_of p) (parts_of s) (take link_payload_width (payload p)) parts
      ∙ ap (λ (b : List ℕ). hashed_part (parts_of s) (take link_payload_width b)) body)

-- ---- over parts that are written
back_hashed : (q : Parts) → HashedAlike (read_back q) q
unfolding read_back ◌then◌otherwise◌
back_hashed q = go (type_two q.header) refl
  where
    go : (t : Bool) → type_two q.header ≡ t → HashedAlike (read_back q) q
    go true e = rw e (record { header = refl; destination = refl; context = refl })
    go false e = rw e (record { header = refl; destination = refl; context = refl })

module _ (q r : Parts) (body : List ℕ) (wq : Wide q) (wr : Wide r) (e : HashedAlike q r) where
  written_alike : HashedAlike (parts_of (packet_of q body)) (parts_of (packet_of r body))
  written_alike =
      let a : HashedAlike (read_back q) q = back_hashed q in
      let b : HashedAlike (read_back r) r = back_hashed r in
      rw (write_parts q body wq, write_parts r body wr)
      (record {
        header = a.header ∙ e.header ∙ sym b.header;
        destination = a.destination ∙ e.destination ∙ sym b.destination;
        context = a.context ∙ e.context ∙ sym b.context;
      })

  pub same_packet_hash : packet_hash (packet_of q body) ≡ packet_hash (packet_of r body)
  same_packet_hash = alike_packet_hash (packet_of q body) (packet_of r body) written_alike (write_payload q body wq ∙ sym (write_payload r body wr))

  pub same_link_id : link_id (packet_of q body) ≡ link_id (packet_of r body)
  same_link_id = alike_link_id (packet_of q body) (packet_of r body) written_alike (write_payload q body wq ∙ sym (write_payload r body wr))

-- ---- over the bytes of a packet that reads: two with one header and the same bytes from the destination on
module _ (p s : List ℕ) (wp : payload_start (header_of p) ≤ length p) (long : length p ≡ length s) (header : header_of p ≡ header_of s)
    (behind : drop (payload_start (header_of p) - end_width) p ≡ drop (payload_start (header_of p) - end_width) s) where
  ws : payload_start (header_of s) ≤ length s
  ws = subst (λ (h : ℕ). payload_start h ≤ length s) header (omega arith)

  message : List ℕ → List ℕ
  message t = header_of t % 16 ∷ drop (payload_start (header_of t) - end_width) t

  one_message : message p ≡ message s
  unfolding message
  one_message = ap (λ (r : List ℕ). header_of p % 16 ∷ r) behind ∙ ap (λ (h : ℕ). h % 16 ∷ drop (payload_start h - end_width) s) header

  bytes_packet_hash : packet_hash p ≡ packet_hash s
  unfolding message
  bytes_packet_hash = packet_hashed p wp ∙ ap sha256_of one_message ∙ sym (packet_hashed s ws)

  bytes_link_id : link_id p ≡ link_id s
  unfolding part
  bytes_link_id =
      link_hashed p wp
      ∙ ap (λ (r : List ℕ). take address_width (sha256_of (header_of p % 16 ∷ take (end_width + link_payload_width) r))) behind
      ∙ ap (λ (h : ℕ). take address_width (sha256_of (h % 16 ∷ take (end_width + link_payload_width) (drop (payload_start h - end_width) s)))) header
      ∙ sym (link_hashed s ws)

module _ (size : ℕ) (p : List ℕ) (h : reads size p ≡ true) where
  whole : payload_start (header_of p) ≤ length p
  whole = (reads_readable size p h).whole

  -- another hops byte
  module _ (hops : ℕ) where
    hops_header : header_of p ≡ header_of (set p hops_at hops)
    hops_header = sym (get_or-set_other p hops_at 0 hops 0 (λ (e : 0 ≡ hops_at). omega arith))

    hops_behind : drop (payload_start (header_of p) - end_width) p ≡ drop (payload_start (header_of p) - end_width) (set p hops_at hops)
    hops_behind = sym (drop-set-lt (payload_start (header_of p) - end_width) p hops_at hops (omega (arith, start_least (header_of p))))

    pub hops_packet_hash : packet_hash p ≡ packet_hash (set p hops_at hops)
    hops_packet_hash = bytes_packet_hash p (set p hops_at hops) whole (sym (length-set p hops_at hops)) hops_header hops_behind

    pub hops_link_id : link_id p ≡ link_id (set p hops_at hops)
    hops_link_id = bytes_link_id p (set p hops_at hops) whole (sym (length-set p hops_at hops)) hops_header hops_behind

  -- another relay address in type 2
  module _ (relay : List ℕ) (two : type_two (header_of p) ≡ true) (wide : length relay ≡ address_width) where
    long : type_two_start ≤ length p
    long = omega (arith, start_two (header_of p) two, whole)

    relay_length : length p ≡ length (patch p address_at relay)
    relay_length = sym (patch_length p address_at relay (omega (arith, long)))

    relay_header : header_of p ≡ header_of (patch p address_at relay)
    unfolding patch
    relay_header =
        sym
        (get_or-append (take address_at p) (relay ++ drop (address_at + length relay) p) 0 0 (omega (arith, length-take-le address_at p (omega (arith, long))))
        ∙ get_or-take address_at p 0 0 (lit< tt))

    relay_behind : drop (payload_start (header_of p) - end_width) p ≡ drop (payload_start (header_of p) - end_width) (patch p address_at relay)
    unfolding patch
    relay_behind =
        let head : length (take address_at p ++ relay) ≡ second_address_at = length-append (take address_at p) relay
        ∙ omega (arith, wide, length-take-le address_at p (omega (arith, long))) in
        let start : payload_start (header_of p) - end_width ≡ second_address_at = omega (arith, start_two (header_of p) two) in
        rw (
          start,
          ← append_assoc (take address_at p) relay (drop (address_at + length relay) p),
          drop_at (take address_at p ++ relay)
              (drop (address_at + length relay) p) second_address_at head,
          wide,
        )

    pub relay_packet_hash : packet_hash p ≡ packet_hash (patch p address_at relay)
    relay_packet_hash = bytes_packet_hash p (patch p address_at relay) whole relay_length relay_header relay_behind

    pub relay_link_id : link_id p ≡ link_id (patch p address_at relay)
    relay_link_id = bytes_link_id p (patch p address_at relay) whole relay_length relay_header relay_behind
