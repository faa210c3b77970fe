-- What the code of a renumbering reads and writes, as the rules have it.
use Prim.Native.Nat.{ℕ, ◌+◌, ◌*◌, ◌≤◌, ◌<◌}
use native.Mathlib.Nat.{zero-add}
use native.Mathlib.Omega.{arith}
use mathlib.Core.Bool.{true}
use mathlib.Core.List.{List, map}
use mathlib.Core.Path.{◌≡◌, sym, ap, ap₂, ◌∙◌}
use lib.ListN.{length, get_or, get_or-eq_default}
use Rattle.octets.specs.Bytes.{Bytes}
use Rattle.octets.specs.Part.{part, patch, joined, fields}
use Rattle.octets.proofs.ListOf.{list_of_length, list_of_at}
use Rattle.octets.proofs.Part.{patch_whole}
use Rattle.octets.proofs.Joined.{joined_length, fields_all}
use Rattle.codes.specs.Form.{many, slot, code}
use Rattle.codes.proofs.Law.{back_at, passes_at}
use Rattle.codes.proofs.Forms.{lawful}
use Rattle.codes.proofs.Inside.{item, ◌within◌}
use Rattle.numbers.specs.Numbers.{port_count, link_count, return_count}
use Rattle.rules.specs.Relay.{Port, no_port, Slot, empty, Return, with_slots, Relay, with_ports, with_paths, with_links, with_returns}
use Rattle.rules.specs.Renumbering.{preimage, moved_ports, rename_path, rename_link, rename_return, rename_slot, renumbered}
use Rattle.rules.specs.declared.Link.{Link}
use Rattle.tables.specs.Forms.{link_form, return_form, relay_form}
use Rattle.tables.specs.Places.{port_width, link_width, return_width, ports_at, paths_at, links_at, returns_at}
use Rattle.tables.specs.Records.{port_bytes, slot_of, slot_bytes, path_of, link_of, link_bytes, link_bytes_ok, return_of, return_bytes, return_bytes_ok}
use Rattle.tables.specs.Layout.{record_at, records, records_ok, relay_of, bytes_of, well_formed}
use Rattle.tables.proofs.Lent.{port_lent}
use Rattle.tables.proofs.Whole.{again, relay_good}
use Rattle.tables.proofs.Patches.{ports_in_lem, links_in, returns_in, patch_ports, patch_paths, patch_links, patch_returns}
use Rattle.tables.proofs.Seen.{ports_length}
use Rattle.tables.proofs.Section.{up_to, up_more, up_all}
use Rattle.rules.specs.Calls.{renumbers, rule_of}
use Rattle.renumbering.specs.Renamed.{renamed_paths, renamed_links, renamed_returns}

-- ---- the ports' settings
pub settings_none : (t : List ℕ) (i : ℕ) → port_count ≤ i → port_bytes no_port ≡ port_bytes (get_or (relay_of t).ports i no_port)
settings_none t i l =
    let count = ports_length t in
    ap port_bytes (sym (get_or-eq_default (relay_of t).ports no_port {n = i} (omega arith)))

pub settings_there : (t : List ℕ) → Bytes t → well_formed t ≡ true → (i : ℕ) → i < port_count
    → record_at ports_at port_width t i ≡ port_bytes (get_or (relay_of t).ports i no_port)
unfolding bytes_of port_bytes
settings_there t bt h i l =
    ap (λ (x : List ℕ). record_at ports_at port_width x i) (sym (again t bt h))
    ∙ (item i l within ports_in_lem).place.there (relay_of t) (tt, ports_length t)

module _ (m : List ℕ) (ports : List Port) (blank : List ℕ) (size : length blank ≡ port_width * port_count) where
  moved_count : length (moved_ports m ports) ≡ port_count
  unfolding moved_ports
  moved_count = list_of_length (λ n. get_or ports (preimage m n) no_port) port_count

  moved_at : (n : ℕ) → n < port_count → get_or ports (preimage m n) no_port ≡ get_or (moved_ports m ports) n no_port
  unfolding moved_ports
  moved_at n l = sym (list_of_at (λ k. get_or ports (preimage m k) no_port) port_count n no_port l)

  module _ (n : ℕ) (out : List ℕ) (e : out ≡ up_to port_bytes 0 (moved_ports m ports) blank n) where
    pub moved_more : n < port_count → patch out (port_width * n) (port_bytes (get_or ports (preimage m n) no_port)) ≡ up_to port_bytes 0 (moved_ports m ports)
        blank (n + 1)
    moved_more l =
        let count = moved_count in
        ap₂ (λ (x : List ℕ) (p : Port). patch x (port_width * n) (port_bytes p)) e (moved_at n l)
        ∙ ap (λ (k : ℕ). patch (up_to port_bytes 0 (moved_ports m ports) blank n) k (port_bytes (get_or (moved_ports m ports) n no_port)))
        (sym (zero-add (port_width * n)))
        ∙ up_more port_lent 0 (moved_ports m ports) blank (omega arith) n (omega arith) no_port

    pub moved_all : port_count ≤ n → out ≡ fields port_bytes port_count no_port (moved_ports m ports)
    moved_all l =
        let count = moved_count in
        e
        ∙ up_all port_lent 0 (moved_ports m ports) blank n (omega arith)
        ∙ patch_whole blank (joined port_bytes (moved_ports m ports))
        (joined_length port_bytes port_width port_lent.wide (moved_ports m ports) ∙ ap (λ (k : ℕ). port_width * k) count ∙ sym size)
        ∙ sym (fields_all port_bytes port_count no_port (moved_ports m ports) count)

-- ---- the whole
module _ (t m : List ℕ) (bt : Bytes t) (h : well_formed t ≡ true) where
  paths_only : Relay
  paths_only = with_paths (map (rename_slot (rename_path m)) (relay_of t).paths) (relay_of t)

  paths_and_links : Relay
  paths_and_links = with_links (map (rename_slot (rename_link m)) (relay_of t).links) paths_only

  good : (code relay_form).Good (relay_of t)
  good = relay_good t bt h

  module _ (t1 : List ℕ) (e1 : t1 ≡ patch t paths_at (renamed_paths m t)) where
    paths_written : t1 ≡ bytes_of paths_only
    unfolding renamed_paths paths_only relay_of slot_of path_of
    paths_written =
        e1
        ∙ ap (λ (x : List ℕ). patch x paths_at (renamed_paths m t)) (sym (again t bt h))
        ∙ patch_paths (relay_of t) (map (rename_slot (rename_path m)) (relay_of t).paths)

    -- the links are still as they were
    links_stand : part t1 links_at (link_width * link_count) ≡ fields (slot_bytes link_width link_bytes) link_count empty (relay_of t).links
    unfolding paths_only with_paths bytes_of link_bytes
    links_stand = ap (λ (x : List ℕ). part x links_at (link_width * link_count)) paths_written ∙ links_in.place.there paths_only tt

    links_there : records (slot_of link_of) links_at link_width link_count t1 ≡ (relay_of t).links
    unfolding slot_of link_of link_bytes
    links_there = back_at (lawful (many link_count empty (slot link_form))) t1 links_at (relay_of t).links links_stand (links_in.place.good (relay_of t) tt good)

    pub links_ready : records_ok link_bytes_ok links_at link_width link_count t1 ≡ true
    unfolding records_ok link_bytes_ok link_bytes
    links_ready =
        passes_at (lawful (many link_count empty (slot link_form))) t1 links_at (relay_of t).links links_stand
        (links_in.place.good (relay_of t) tt good)

    module _ (t2 : List ℕ) (e2 : t2 ≡ patch t1 links_at (renamed_links m t1)) where
      links_written : t2 ≡ bytes_of paths_and_links
      unfolding renamed_links paths_and_links
      links_written =
          e2
          ∙ ap₂
          (λ (x : List ℕ) (xs : List (Slot Link)).
          patch x links_at (fields (slot_bytes link_width link_bytes) link_count empty (map (rename_slot (rename_link m)) xs)))
          paths_written links_there
          ∙ patch_links paths_only (map (rename_slot (rename_link m)) (relay_of t).links)

      returns_stand : part t2 returns_at (return_width * return_count)
          ≡ fields (slot_bytes return_width return_bytes) return_count empty (relay_of t).returns.slots
      unfolding paths_and_links with_links paths_only with_paths bytes_of return_bytes
      returns_stand =
          ap (λ (x : List ℕ). part x returns_at (return_width * return_count)) links_written ∙ returns_in.place.there paths_and_links (tt, tt)

      returns_there : records (slot_of return_of) returns_at return_width return_count t2 ≡ (relay_of t).returns.slots
      unfolding slot_of return_of return_bytes
      returns_there =
          back_at (lawful (many return_count empty (slot return_form))) t2 returns_at (relay_of t).returns.slots returns_stand
          (returns_in.place.good (relay_of t) (tt, tt) good)

      pub returns_ready : records_ok return_bytes_ok returns_at return_width return_count t2 ≡ true
      unfolding records_ok return_bytes_ok return_bytes
      returns_ready =
          passes_at (lawful (many return_count empty (slot return_form))) t2 returns_at (relay_of t).returns.slots returns_stand
          (returns_in.place.good (relay_of t) (tt, tt) good)

      pub renumber_writes : (t3 t4 : List ℕ) → t3 ≡ patch t2 returns_at (renamed_returns m t2)
          → t4 ≡ patch t3 ports_at (fields port_bytes port_count no_port (moved_ports m (relay_of t).ports)) → t4 ≡ bytes_of ((rule_of (renumbers m)).after (relay_of t))
      unfolding rule_of renamed_returns renumbered paths_and_links with_links paths_only with_paths with_returns with_ports
      renumber_writes t3 t4 e3 e4 =
          let slots : List (Slot Return) = map (rename_slot (rename_return m)) (relay_of t).returns.slots in
          let r3 : Relay = with_returns (with_slots slots (relay_of t).returns) paths_and_links in
          let w3 : t3 ≡ bytes_of r3 =
          e3
          ∙ ap₂
          (λ (x : List ℕ) (xs : List (Slot Return)).
          patch x returns_at (fields (slot_bytes return_width return_bytes) return_count empty (map (rename_slot (rename_return m)) xs)))
          links_written returns_there
          ∙ patch_returns paths_and_links slots in
          e4
          ∙ ap (λ (x : List ℕ). patch x ports_at (fields port_bytes port_count no_port (moved_ports m (relay_of t).ports))) w3
          ∙ patch_ports r3 (moved_ports m (relay_of t).ports)
