-- Each record that a call makes of bytes and of records that tables can hold is one that tables can hold.
use Prim.Native.Nat.{ℕ, ◌-◌, ◌≤◌}
use native.Mathlib.Omega.{arith}
use mathlib.Core.Bool.{Bool, true}
use mathlib.Core.List.{List, [], ◌∷◌}
use mathlib.Core.Path.{◌≡◌, refl, ap, ◌∙◌}
use lib.Dec.{eqb, ltb, lit≤, lit<}
use lib.ListN.{length, drop, length-append, length-drop}
use lib.Seq.{length-take-le}
use borrow.Author.Tests.{lt-ltb}
use Rattle.octets.specs.Bytes.{Bytes}
use Rattle.octets.proofs.Index.{and_left, and_right, and_both}
use Rattle.octets.proofs.Bytes.{part_bytes, take_bytes, drop_bytes, replicate_bytes}
use Rattle.packet.specs.Header.{type_two}
use Rattle.packet.specs.Read.{header_of, type_one_parts, type_two_parts, parts_of, payload_start, payload, longest_packet}
use Rattle.packet.specs.Hash.{hashed_part, packet_hash}
use Rattle.packet.specs.Announce.{blob_of}
use Rattle.packet.specs.declared.Parts.{Parts}
use Rattle.packet.specs.Places.{blob_end, address_at, second_address_at, blob_at, hops_at}
use Rattle.packet.proofs.ReadLaws.{parts_hops, reads_readable}
use Rattle.packet.proofs.Widths.{parts_wide, packet_hash_length, link_id_length, blob_length}
use Rattle.sha256.proofs.Promise.{digest_byte}
use Rattle.numbers.specs.Numbers.{blob_limit}
use Rattle.rules.specs.Relay.{Slot, empty, used, Blobs, Path, Return, Relay}
use Rattle.rules.specs.View.{View}
use Rattle.rules.specs.Renumbering.{rename_path, rename_link, rename_return}
use Rattle.rules.specs.Refusals.{path_ok, slot_ok, all, table_ok, packet_refusal}
use Rattle.rules.specs.Arrival.{Arrival, header, hops, body, hash, blob}
use Rattle.rules.specs.Blobs.{held, is_among, no_blob, one_blob, add_blob, store_blob}
use Rattle.rules.specs.Writes.{announced_blobs, announced_path, return_key, return_record, link_record, renewed_link}
use Rattle.rules.specs.declared.Link.{Link}
use Rattle.rules.proofs.Choices.{either}
use Rattle.rules.proofs.Tables.{all_append, all_replicate, table_of, table_length, table_all, table_set, table_replicate}
use Rattle.rules.proofs.BlobLaws.{one_placed}
use Rattle.rules.proofs.Accepted.{accepted_reads}
use Rattle.tables.specs.Places.{address_width, digest_width, blob_width}
use Rattle.notes.proofs.NoteLaws.{none_shaped}
use Rattle.tables.specs.Shape.{is_byte, is_bytes, path_shaped, link_shaped, return_shaped, hash_shaped}
use Rattle.tables.proofs.All.{is_bytes_lem}
use Rattle.act.proofs.Forwards.{link_id_bytes}

-- a list without its first element
all_tail : {A : Type 0} (ok : A → Bool) (xs : List A) → all ok xs ≡ true → all ok (drop 1 xs) ≡ true
unfolding all
all_tail ok [] h = refl
all_tail ok (x ∷ xs) h = and_right _ _ h

-- ---- a packet's parts
module _ (p : List ℕ) (b : Bytes p) where
  destination_bytes : Bytes (parts_of p).destination
  unfolding parts_of type_one_parts type_two_parts
  destination_bytes =
      either (λ (q : Parts). Bytes q.destination) (type_two (header_of p)) (λ _. part_bytes p second_address_at address_width b)
      (λ _. part_bytes p address_at address_width b)

  relay_bytes : Bytes (parts_of p).relay
  unfolding parts_of type_one_parts type_two_parts
  relay_bytes =
      either (λ (q : Parts). Bytes q.relay) (type_two (header_of p)) (λ _. part_bytes p address_at address_width b)
      (λ _. replicate_bytes address_width 0 (lit< tt))

  pub blob_shaped : blob_end ≤ length (payload p) → is_bytes blob_width (blob_of (payload p)) ≡ true
  unfolding blob_of payload
  blob_shaped l = is_bytes_lem blob_width _ (blob_length (payload p) l) (part_bytes (payload p) blob_at blob_width (drop_bytes (payload_start (header_of p)) p b))

  module _ (whole : payload_start (header_of p) ≤ length p) where
    pub destination_shaped : is_bytes address_width (parts_of p).destination ≡ true
    destination_shaped = is_bytes_lem address_width _ (parts_wide p whole).destination destination_bytes

    pub relay_shaped : is_bytes address_width (parts_of p).relay ≡ true
    relay_shaped = is_bytes_lem address_width _ (parts_wide p whole).relay relay_bytes

-- hashes are bytes, whatever the packet
hash_is_bytes : (p : List ℕ) → Bytes (packet_hash p)
unfolding packet_hash
hash_is_bytes p = digest_byte (hashed_part (parts_of p) (payload p))

-- ---- blobs
blob_nil : is_bytes blob_width no_blob ≡ true
unfolding is_bytes is_byte
blob_nil = table_replicate is_byte blob_width 0 refl

one_shaped : (x : List ℕ) → is_bytes blob_width x ≡ true → table_ok blob_limit (is_bytes blob_width) (one_blob blob_limit x).places ≡ true
unfolding one_blob all
one_shaped x h =
    table_of (is_bytes blob_width) blob_limit _ (one_placed blob_limit (lit≤ tt) x)
    (and_both h (all_replicate (is_bytes blob_width) (blob_limit - 1) no_blob blob_nil))

add_shaped : (x : List ℕ) (s : Blobs) → is_bytes blob_width x ≡ true → table_ok blob_limit (is_bytes blob_width) s.places ≡ true
    → table_ok blob_limit (is_bytes blob_width) (add_blob blob_limit x s).places ≡ true
unfolding add_blob all
add_shaped x s h k =
    let sixteen : length s.places ≡ blob_limit = table_length (is_bytes blob_width) blob_limit s.places k in
    either (λ (c : Blobs). table_ok blob_limit (is_bytes blob_width) c.places ≡ true) (ltb s.count blob_limit)
    (λ _. table_set (is_bytes blob_width) blob_limit s.places k s.count x h)
    (λ _.
    table_of (is_bytes blob_width) blob_limit _ (simp (length-append, length-drop) (omega arith))
    (all_append (is_bytes blob_width) (drop 1 s.places) (x ∷ [])
    (all_tail (is_bytes blob_width) s.places (table_all (is_bytes blob_width) blob_limit s.places k)) (and_both h refl)))

-- one already stored leaves them
store_shaped : (x : List ℕ) (s : Blobs) → is_bytes blob_width x ≡ true → table_ok blob_limit (is_bytes blob_width) s.places ≡ true
    → table_ok blob_limit (is_bytes blob_width) (store_blob blob_limit x s).places ≡ true
unfolding store_blob
store_shaped x s h k =
    either (λ (y : Blobs). table_ok blob_limit (is_bytes blob_width) y.places ≡ true) (is_among x (held s)) (λ _. k) (λ _. add_shaped x s h k)

-- ---- what an accepted packet makes
module _ (a : Arrival) (b : Bytes a.bytes) where
  pub remembered_shaped : (expiry : ℕ) → hash_shaped (record { hash = hash a; expiry = expiry }) ≡ true
  unfolding hash_shaped
  remembered_shaped expiry = is_bytes_lem digest_width _ (packet_hash_length a.bytes) (hash_is_bytes a.bytes)

  pub return_shaped_lem : (p : Path) → return_shaped (return_record a p) ≡ true
  unfolding return_shaped return_record return_key
  return_shaped_lem p =
      is_bytes_lem address_width _ (length-take-le address_width (hash a) (omega (arith, packet_hash_length a.bytes)))
      (take_bytes address_width (hash a) (hash_is_bytes a.bytes))

  hops_byte : is_byte (hops a) ≡ true
  unfolding is_byte
  hops_byte = ap (λ (n : ℕ). ltb n 256) (parts_hops a.bytes) ∙ lt-ltb _ _ (b hops_at)

  -- a path's hops are a byte by row 7
  path_hops_byte : (p : Path) → path_ok p ≡ true → is_byte p.hops ≡ true
  unfolding path_ok is_byte
  path_hops_byte p ok = and_left _ _ (and_right _ _ ok)

  pub link_made : (p : Path) → path_ok p ≡ true → link_shaped (link_record a p) ≡ true
  unfolding link_shaped link_record
  link_made p ok =
      and_both (is_bytes_lem address_width _ (link_id_length a.bytes) (link_id_bytes a.bytes)) (and_both hops_byte (path_hops_byte p ok))

  pub link_renewed : (l : Link) → link_shaped l ≡ true → link_shaped (renewed_link a l) ≡ true
  unfolding link_shaped renewed_link
  link_renewed l h = h

  module _ (whole : payload_start (header a) ≤ length a.bytes) (long : blob_end ≤ length (body a)) where
    places_shaped : (known : Slot Path) → slot_ok path_shaped known ≡ true
        → table_ok blob_limit (is_bytes blob_width) (announced_blobs a known).places ≡ true
    unfolding announced_blobs slot_ok path_shaped
    places_shaped empty h = one_shaped (blob a) (blob_shaped a.bytes b long)
    places_shaped (used p) h = store_shaped (blob a) p.blobs (blob_shaped a.bytes b long) (and_left _ _ (and_right _ _ (and_right _ _ h)))

    pub path_made : (v : View) (known : Slot Path) → slot_ok path_shaped known ≡ true → path_shaped (announced_path v a known) ≡ true
    unfolding path_shaped announced_path
    path_made v known h =
        and_both (destination_shaped a.bytes b whole)
        (and_both
        (either (λ (x : List ℕ). is_bytes address_width x ≡ true) (type_two (header a)) (λ _. relay_shaped a.bytes b whole)
        (λ _. destination_shaped a.bytes b whole))
        (and_both (places_shaped known h) none_shaped))

-- a packet that is accepted has all its parts
pub accepted_whole : (r : Relay) (a : Arrival) (room : ℕ) → eqb (packet_refusal r a room) 0 ≡ true → payload_start (header a) ≤ length a.bytes
accepted_whole r a room accepted = (reads_readable longest_packet a.bytes (accepted_reads r a room accepted)).whole

-- ---- what a renumbering makes of a record: ports are no part of its shape
module _ (m : List ℕ) where
  pub path_renumbered : (p : Path) → path_shaped p ≡ true → path_shaped (rename_path m p) ≡ true
  unfolding path_shaped rename_path
  path_renumbered p h = h

  pub link_renumbered : (l : Link) → link_shaped l ≡ true → link_shaped (rename_link m l) ≡ true
  unfolding link_shaped rename_link
  link_renumbered l h = h

  pub return_renumbered : (t : Return) → return_shaped t ≡ true → return_shaped (rename_return m t) ≡ true
  unfolding return_shaped rename_return
  return_renumbered t h = h
