-- The searches of each table, and the ports, as the relay has them.
use Prim.Native.Nat.{ℕ, ◌≤◌, ◌<◌}
use native.Mathlib.Omega.{arith}
use mathlib.Core.Bool.{Bool, true, false, not}
use mathlib.Core.List.{List}
use mathlib.Core.Path.{◌≡◌, refl, sym, ap, ◌∙◌}
use lib.Dec.{eqb}
use lib.ListN.{length, get_or, get_or-eq_default}
use borrow.Author.Tests.{lt-ltb}
use Rattle.octets.specs.Index.{◌and◌}
use Rattle.octets.specs.Choice.{same}
use Rattle.octets.specs.Part.{part}
use Rattle.octets.specs.BigEndian.{number}
use Rattle.octets.proofs.Index.{and_yes}
use Rattle.octets.proofs.Choice.{same_sym}
use Rattle.numbers.specs.Numbers.{longest_packet, port_count, local_count, path_count, link_count, return_count, hash_count, live}
use Rattle.rules.specs.Relay.{Port, no_port}
use Rattle.rules.specs.View.{port_on, port_mode, port_size, local_place, is_live_path, is_live_link, is_live_return, is_live_hash, path_place, link_place, return_place, hash_place, free_path, free_link}
use Rattle.rules.specs.Refusals.{empty_local}
use Rattle.tables.specs.Places.{address_width, digest_width, size_width, ports_at, port_width, locals_at, local_width, paths_at, path_width, links_at, link_width, returns_at, return_width, hashes_at, hash_width}
use Rattle.tables.specs.Fields.{port_size_at, path_expiry_at, link_expiry_at, return_expiry_at, hash_expiry_at}
use Rattle.tables.specs.Records.{slot_of, port_of, local_of, path_of, link_of, return_of, hash_of}
use Rattle.tables.specs.Layout.{record_at, relay_of}
use Rattle.tables.proofs.Seen.{port_seen_lem, ports_length}
use Rattle.lookup.specs.Search.{is_used, has_key, is_live, is_live_of, lowest_record}
use Rattle.lookup.proofs.Searches.{lowest_used, lowest_free_lem, lowest_live, lowest_cong}

module _ (t : List ℕ) where
  -- ---- ports
  pub on_seen : (port : ℕ) → port < port_count → port_on (relay_of t) port ≡ eqb (get_or (record_at ports_at port_width t port) 0 0) 1
  unfolding port_on port_of
  on_seen port l = and_yes _ (lt-ltb port port_count l) ∙ ap (λ (p : Port). p.on) (port_seen_lem t port l)

  pub mode_seen : (port : ℕ) → port < port_count → port_mode (relay_of t) port ≡ get_or (record_at ports_at port_width t port) 1 0
  unfolding port_mode port_of
  mode_seen port l = ap (λ (p : Port). p.mode) (port_seen_lem t port l)

  pub size_seen : (port : ℕ) → port < port_count → port_size (relay_of t) port ≡ number (part (record_at ports_at port_width t port) port_size_at size_width)
  unfolding port_size port_of
  size_seen port l = ap (λ (p : Port). p.size) (port_seen_lem t port l)

  -- a number outside the sixteen
  pub size_none : (port : ℕ) → port_count ≤ port → port_size (relay_of t) port ≡ longest_packet
  unfolding port_size
  size_none port l = ap (λ (p : Port). p.size) (get_or-eq_default (relay_of t).ports no_port {n = port} (omega (arith, ports_length t)))

  -- ---- local addresses
  pub local_lowest : (address : List ℕ) → length address ≡ address_width
      → lowest_record (has_key address) locals_at local_width local_count t ≡ local_place (relay_of t) address
  unfolding has_key local_place relay_of slot_of local_of
  local_lowest address wide =
      lowest_cong _ _ locals_at local_width local_count t
      (λ b. ap (is_used b and◌) (ap (λ (k : ℕ). same (part b 1 k) address) wide ∙ same_sym (part b 1 address_width) address))
      ∙ sym (lowest_used (same address) local_of locals_at local_width local_count t)

  unused : (b : List ℕ) → eqb (get_or b 0 0) 0 ≡ not (is_used b and true)
  unfolding is_used ◌and◌
  unused b = go (eqb (get_or b 0 0) 0) refl
    where
      go : (m : Bool) → eqb (get_or b 0 0) 0 ≡ m → eqb (get_or b 0 0) 0 ≡ not (is_used b and true)
      go true q = rw q
      go false q = rw q

  pub empty_lowest : lowest_record (λ b. eqb (get_or b 0 0) 0) locals_at local_width local_count t ≡ empty_local (relay_of t)
  unfolding empty_local relay_of slot_of local_of
  empty_lowest =
      lowest_cong _ _ locals_at local_width local_count t unused ∙ sym (lowest_free_lem (λ address. true) local_of locals_at local_width local_count t)

  -- ---- the live record of a key
  module _ (clock : ℕ) where
    pub path_lowest : (destination : List ℕ) → length destination ≡ address_width
        → lowest_record (is_live_of destination path_expiry_at clock) paths_at path_width path_count t ≡ path_place clock (relay_of t) destination
    unfolding path_place relay_of is_live_path slot_of path_of
    path_lowest destination wide =
        lowest_live (is_live_path clock destination) path_of paths_at path_width path_count t address_width destination path_expiry_at clock wide (λ b. refl)

    pub link_lowest : (id : List ℕ) → length id ≡ address_width
        → lowest_record (is_live_of id link_expiry_at clock) links_at link_width link_count t ≡ link_place clock (relay_of t) id
    unfolding link_place relay_of is_live_link slot_of link_of
    link_lowest id wide =
        lowest_live (is_live_link clock id) link_of links_at link_width link_count t address_width id link_expiry_at clock wide (λ b. refl)

    pub return_lowest : (key : List ℕ) → length key ≡ address_width
        → lowest_record (is_live_of key return_expiry_at clock) returns_at return_width return_count t ≡ return_place clock (relay_of t) key
    unfolding return_place relay_of is_live_return slot_of return_of
    return_lowest key wide =
        lowest_live (is_live_return clock key) return_of returns_at return_width return_count t address_width key return_expiry_at clock wide (λ b. refl)

    pub hash_lowest : (hash : List ℕ) → length hash ≡ digest_width
        → lowest_record (is_live_of hash hash_expiry_at clock) hashes_at hash_width hash_count t ≡ hash_place clock (relay_of t) hash
    unfolding hash_place relay_of is_live_hash slot_of hash_of
    hash_lowest hash wide =
        lowest_live (is_live_hash clock hash) hash_of hashes_at hash_width hash_count t digest_width hash hash_expiry_at clock wide (λ b. refl)

    -- ---- the lowest place empty or expired
    pub path_free : lowest_record (λ b. not (is_live path_expiry_at clock b)) paths_at path_width path_count t ≡ free_path clock (relay_of t)
    unfolding free_path relay_of is_live slot_of path_of
    path_free = sym (lowest_free_lem (λ p. live clock p.expiry) path_of paths_at path_width path_count t)

    pub link_free : lowest_record (λ b. not (is_live link_expiry_at clock b)) links_at link_width link_count t ≡ free_link clock (relay_of t)
    unfolding free_link relay_of is_live slot_of link_of
    link_free = sym (lowest_free_lem (λ l. live clock l.expiry) link_of links_at link_width link_count t)
