-- Renumbering: the ports of a relay get other numbers, by a map of 0..15 to itself, given as the list of the sixteen images.
use Rattle.std.specs.Prelude.{ℕ, Bool, not, List, map, eqb, ltb, length, get_or}
use Rattle.octets.specs.Index.{◌and◌, all_below, first, list_of}
use Rattle.octets.specs.Choice.{◌then◌otherwise◌}
use Rattle.numbers.specs.Numbers.{port_count}
use Rattle.rules.specs.Relay.{Port, no_port, Slot, empty, used, Path, Return, Relay, with_path_port, with_link_ports, with_return_ports, with_slots, with_ports, with_paths, with_links, with_returns}
use Rattle.rules.specs.declared.Link.{Link}

-- a port's image; a number outside the sixteen stays
unfoldable pub image : List ℕ → ℕ → ℕ
image m port = ltb port port_count then get_or m port 0 otherwise port

-- the image of port i differs from those before it
unfoldable pub differs_before : List ℕ → ℕ → Bool
differs_before m i = all_below (λ j. not (eqb (get_or m j 0) (get_or m i 0))) i

-- one-to-one on 0..15: sixteen images, each one of 0..15 and no two equal
unfoldable pub one_to_one : List ℕ → Bool
one_to_one m = eqb (length m) port_count and all_below (λ i. ltb (get_or m i 0) port_count and differs_before m i) port_count

-- the port whose image is n, or 16
unfoldable pub preimage : List ℕ → ℕ → ℕ
preimage m n = first (λ i. eqb (get_or m i 0) n) port_count

-- each port's settings move with it; wish 11: "Each port gets a size .., moved by renumbering too"
unfoldable pub moved_ports : List ℕ → List Port → List Port
moved_ports m ports = list_of (λ n. get_or ports (preimage m n) no_port) port_count

-- replaces every stored port, expired records' too; an unused record has none
unfoldable pub rename_path : List ℕ → Path → Path
rename_path m p = with_path_port (image m p.port) p

unfoldable pub rename_link : List ℕ → Link → Link
rename_link m l = with_link_ports (image m l.asking) (image m l.answering) l

unfoldable pub rename_return : List ℕ → Return → Return
rename_return m t = with_return_ports (image m t.arrival) (image m t.leaving) t

unfoldable pub rename_slot : {A : Type 0} → (A → A) → Slot A → Slot A
rename_slot rename empty = empty
rename_slot rename (used x) = used (rename x)

-- renumbering replaces every stored port by its image and moves each port's settings with it, nothing more
unfoldable pub renumbered : List ℕ → Relay → Relay
unfolding with_ports with_paths with_links with_returns
renumbered m r =
    with_ports (moved_ports m r.ports)
    (with_paths (map (rename_slot (rename_path m)) r.paths)
    (with_links (map (rename_slot (rename_link m)) r.links)
    (with_returns (with_slots (map (rename_slot (rename_return m)) r.returns.slots) r.returns) r)))

-- the composed map is the first map, then the second
unfoldable pub composed : List ℕ → List ℕ → List ℕ
composed one two = list_of (λ i. image two (get_or one i 0)) port_count
