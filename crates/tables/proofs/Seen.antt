-- What the code reads of the tables, as the relay has it.
use Prim.Native.Nat.{ℕ, ◌<◌}
use mathlib.Core.Bool.{Bool}
use mathlib.Core.List.{List}
use mathlib.Core.Path.{◌≡◌, ap}
use lib.ListN.{length, get_or}
use Rattle.octets.specs.Index.{first}
use Rattle.octets.proofs.Index.{first_cong}
use Rattle.octets.proofs.ListOf.{list_of_length, list_of_at}
use Rattle.numbers.specs.Numbers.{port_count, local_count, path_count, link_count, return_count, hash_count}
use Rattle.rules.specs.Relay.{no_port, Slot, empty, holds, lowest, free, lowest_free}
use Rattle.tables.specs.Places.{port_width, local_width, path_width, link_width, return_width, hash_width, ports_at, locals_at, paths_at, links_at, returns_at, hashes_at}
use Rattle.tables.specs.Records.{port_of, slot_of, local_of, path_of, link_of, return_of, hash_of}
use Rattle.tables.specs.Layout.{record_at, records, relay_of}

-- ---- a section's element, and how many there are
module _ {A : Type 0} (read : List ℕ → A) (base w n : ℕ) (t : List ℕ) where
  pub record_seen : (i : ℕ) (d : A) → i < n → get_or (records read base w n t) i d ≡ read (record_at base w t i)
  record_seen i d l = list_of_at (λ k. read (record_at base w t k)) n i d l

  pub records_length : length (records read base w n t) ≡ n
  records_length = list_of_length (λ k. read (record_at base w t k)) n

-- ---- searches in a section
module _ {A : Type 0} (read : List ℕ → Slot A) (base w n : ℕ) (t : List ℕ) (test : A → Bool) where
  pub lowest_seen : lowest test n (records read base w n t) ≡ first (λ i. holds test (read (record_at base w t i))) n
  unfolding lowest
  lowest_seen = first_cong _ _ n (λ i l. ap (holds test) (record_seen read base w n t i empty l))

  pub free_seen : lowest_free test n (records read base w n t) ≡ first (λ i. free test (read (record_at base w t i))) n
  unfolding lowest_free
  free_seen = first_cong _ _ n (λ i l. ap (free test) (record_seen read base w n t i empty l))

-- ---- the tables
module _ (t : List ℕ) where
  pub port_seen_lem : (i : ℕ) → i < port_count → get_or (relay_of t).ports i no_port ≡ port_of (record_at ports_at port_width t i)
  unfolding relay_of port_of
  port_seen_lem i l = record_seen port_of ports_at port_width port_count t i no_port l

  pub ports_length : length (relay_of t).ports ≡ port_count
  unfolding relay_of port_of
  ports_length = records_length port_of ports_at port_width port_count t

  pub local_seen : (i : ℕ) → i < local_count → get_or (relay_of t).locals i empty ≡ slot_of local_of (record_at locals_at local_width t i)
  unfolding relay_of slot_of local_of
  local_seen i l = record_seen (slot_of local_of) locals_at local_width local_count t i empty l

  pub locals_length : length (relay_of t).locals ≡ local_count
  unfolding relay_of slot_of local_of
  locals_length = records_length (slot_of local_of) locals_at local_width local_count t

  pub path_seen : (i : ℕ) → i < path_count → get_or (relay_of t).paths i empty ≡ slot_of path_of (record_at paths_at path_width t i)
  unfolding relay_of slot_of path_of
  path_seen i l = record_seen (slot_of path_of) paths_at path_width path_count t i empty l

  pub paths_length : length (relay_of t).paths ≡ path_count
  unfolding relay_of slot_of path_of
  paths_length = records_length (slot_of path_of) paths_at path_width path_count t

  pub link_seen : (i : ℕ) → i < link_count → get_or (relay_of t).links i empty ≡ slot_of link_of (record_at links_at link_width t i)
  unfolding relay_of slot_of link_of
  link_seen i l = record_seen (slot_of link_of) links_at link_width link_count t i empty l

  pub links_length : length (relay_of t).links ≡ link_count
  unfolding relay_of slot_of link_of
  links_length = records_length (slot_of link_of) links_at link_width link_count t

  pub return_seen : (i : ℕ) → i < return_count → get_or (relay_of t).returns.slots i empty ≡ slot_of return_of (record_at returns_at return_width t i)
  unfolding relay_of slot_of return_of
  return_seen i l = record_seen (slot_of return_of) returns_at return_width return_count t i empty l

  pub returns_length : length (relay_of t).returns.slots ≡ return_count
  unfolding relay_of slot_of return_of
  returns_length = records_length (slot_of return_of) returns_at return_width return_count t

  pub hash_seen : (i : ℕ) → i < hash_count → get_or (relay_of t).hashes.slots i empty ≡ slot_of hash_of (record_at hashes_at hash_width t i)
  unfolding relay_of slot_of hash_of
  hash_seen i l = record_seen (slot_of hash_of) hashes_at hash_width hash_count t i empty l

  pub hashes_length : length (relay_of t).hashes.slots ≡ hash_count
  unfolding relay_of slot_of hash_of
  hashes_length = records_length (slot_of hash_of) hashes_at hash_width hash_count t
