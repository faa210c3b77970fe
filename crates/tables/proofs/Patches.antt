-- Where the parts of a relay stand in its bytes, and what a write over one does to the relay.
use Prim.Native.Nat.{ℕ, ◌+◌, ◌*◌, ◌<◌}
use native.Mathlib.Nat.{add_assoc}
use mathlib.Core.List.{List}
use mathlib.Core.Path.{◌≡◌, sym, ap, ◌∙◌}
use lib.ListN.{length, get_or, set}
use Rattle.octets.specs.Part.{patch, fields}
use Rattle.octets.specs.BigEndian.{big_endian}
use Rattle.codes.specs.Form.{Form, code, number_in, octets_in, many, slot}
use Rattle.codes.specs.Codes.{record_of}
use Rattle.codes.proofs.Inside.{Inside, here, item, in_slot, in_rule, ◌within◌, named}
use Rattle.numbers.specs.Numbers.{port_count, local_count, path_count, link_count, return_count, hash_count}
use Rattle.rules.specs.Relay.{Port, no_port, Slot, empty, used, Path, Return, Remembered, make_ring, with_slots, Relay, with_clock, with_rate, with_ports, with_locals, with_paths, with_links, with_returns, with_hashes}
use Rattle.rules.specs.declared.Link.{Link}
use Rattle.rules.specs.declared.RateSettings.{RateSettings}
use Rattle.tables.specs.Forms.{rate_settings_form, port_form, local_form, path_form, link_form, return_form, hash_form, ring_form, relay_form}
use Rattle.tables.specs.Places.{address_width, time_width, ring_width, port_width, local_width, path_width, link_width, return_width, hash_width, clock_at, rate_at, ports_at, locals_at, paths_at, links_at, return_next_at, returns_at, hash_next_at, hashes_at}
use Rattle.tables.specs.Records.{port_bytes, slot_bytes, local_bytes, path_bytes, link_bytes, return_bytes, hash_bytes}
use Rattle.tables.specs.Layout.{bytes_of}

-- ---- the sections
abbrev pub own_in_lem : Inside relay_form (octets_in address_width)
own_in_lem = (named relay_form "own").inside

abbrev pub clock_in_lem : Inside relay_form (number_in time_width)
clock_in_lem = in_rule here within (named relay_form "clock").inside

abbrev pub rate_in_lem : Inside relay_form rate_settings_form
rate_in_lem = (named relay_form "rate").inside

abbrev pub ports_in_lem : Inside relay_form (many port_count no_port port_form)
ports_in_lem = (named relay_form "ports").inside

abbrev pub locals_in : Inside relay_form (many local_count empty (slot local_form))
locals_in = (named relay_form "locals").inside

abbrev pub paths_in : Inside relay_form (many path_count empty (slot path_form))
paths_in = (named relay_form "paths").inside

abbrev pub links_in : Inside relay_form (many link_count empty (slot link_form))
links_in = (named relay_form "links").inside

-- ---- of a ring
abbrev place_in : {A : Type 0} {n : ℕ} {f : Form A} → Inside (ring_form n f) (number_in ring_width)
place_in {A} {n} {f} = in_rule here within (named (ring_form n f) "next").inside

abbrev slots_in : {A : Type 0} {n : ℕ} {f : Form A} → Inside (ring_form n f) (many n empty (slot f))
slots_in {A} {n} {f} = (named (ring_form n f) "slots").inside

abbrev return_ring_in : Inside relay_form (ring_form return_count return_form)
return_ring_in = (named relay_form "returns").inside

abbrev hash_ring_in : Inside relay_form (ring_form hash_count hash_form)
hash_ring_in = (named relay_form "hashes").inside

abbrev pub returns_in : Inside relay_form (many return_count empty (slot return_form))
returns_in = slots_in within return_ring_in

abbrev pub hashes_in : Inside relay_form (many hash_count empty (slot hash_form))
hashes_in = slots_in within hash_ring_in

-- ---- writes
module _ (r : Relay) where
  -- a field of the used path at a place, written over where it stands: the path with that field changed
  pub patch_in_path : {B : Type 0} {f : Form B} (s : Inside path_form f) (i : ℕ) (p : Path) (y : B) → length r.paths ≡ path_count → i < path_count
      → get_or r.paths i empty ≡ used p → s.place.Has p
      → patch (bytes_of r) (paths_at + path_width * i + (1 + s.place.offset)) ((code f).write y)
      ≡ bytes_of (with_paths (set r.paths i (used (s.place.put y p))) r)
  unfolding bytes_of with_paths record_of
  patch_in_path {B} {f} s i p y e l there has =
      ap (λ (k : ℕ). patch (bytes_of r) k ((code f).write y)) (sym (add_assoc (paths_at + path_width * i) 1 s.place.offset))
      ∙ (s within in_slot p within item i l within paths_in).place.patched r y (((tt, e), rw there tt), rw there has)
      ∙ ap (λ (x : Slot Path). bytes_of (with_paths (set r.paths i (used (s.place.put y (record_of p x)))) r)) there

  pub patch_clock : (clock : ℕ) → patch (bytes_of r) clock_at (big_endian time_width clock) ≡ bytes_of (with_clock clock r)
  unfolding bytes_of with_clock
  patch_clock clock = clock_in_lem.place.patched r clock (tt, tt)

  pub patch_rate : (rate : RateSettings) → patch (bytes_of r) rate_at ((code rate_settings_form).write rate) ≡ bytes_of (with_rate rate r)
  unfolding bytes_of with_rate
  patch_rate rate = rate_in_lem.place.patched r rate tt

  pub patch_return_next : (n : ℕ) → patch (bytes_of r) return_next_at (big_endian ring_width n)
      ≡ bytes_of (with_returns (make_ring r.returns.slots n) r)
  unfolding bytes_of with_returns
  patch_return_next n = (place_in within return_ring_in).place.patched r n (tt, (tt, tt))

  pub patch_hash_next : (n : ℕ) → patch (bytes_of r) hash_next_at (big_endian ring_width n)
      ≡ bytes_of (with_hashes (make_ring r.hashes.slots n) r)
  unfolding bytes_of with_hashes
  patch_hash_next n = (place_in within hash_ring_in).place.patched r n (tt, (tt, tt))

  -- ---- all records of a table
  pub patch_ports : (ports : List Port) → patch (bytes_of r) ports_at (fields port_bytes port_count no_port ports) ≡ bytes_of (with_ports ports r)
  unfolding bytes_of with_ports port_bytes
  patch_ports ports = ports_in_lem.place.patched r ports tt

  pub patch_paths : (paths : List (Slot Path))
      → patch (bytes_of r) paths_at (fields (slot_bytes path_width path_bytes) path_count empty paths) ≡ bytes_of (with_paths paths r)
  unfolding bytes_of with_paths path_bytes
  patch_paths paths = paths_in.place.patched r paths tt

  pub patch_links : (links : List (Slot Link))
      → patch (bytes_of r) links_at (fields (slot_bytes link_width link_bytes) link_count empty links) ≡ bytes_of (with_links links r)
  unfolding bytes_of with_links link_bytes
  patch_links links = links_in.place.patched r links tt

  pub patch_returns : (slots : List (Slot Return))
      → patch (bytes_of r) returns_at (fields (slot_bytes return_width return_bytes) return_count empty slots)
      ≡ bytes_of (with_returns (with_slots slots r.returns) r)
  unfolding bytes_of with_returns return_bytes
  patch_returns slots = returns_in.place.patched r slots (tt, tt)

  -- ---- one record
  module _ (i : ℕ) where
    pub patch_port : (port : Port) → length r.ports ≡ port_count → i < port_count
        → patch (bytes_of r) (ports_at + port_width * i) (port_bytes port) ≡ bytes_of (with_ports (set r.ports i port) r)
    unfolding bytes_of with_ports port_bytes
    patch_port port e l = (item i l within ports_in_lem).place.patched r port (tt, e)

    pub patch_local : (new : Slot (List ℕ)) → length r.locals ≡ local_count → i < local_count
        → patch (bytes_of r) (locals_at + local_width * i) (slot_bytes local_width local_bytes new) ≡ bytes_of (with_locals (set r.locals i new) r)
    unfolding bytes_of with_locals local_bytes
    patch_local new e l = (item i l within locals_in).place.patched r new (tt, e)

    pub patch_path : (new : Slot Path) → length r.paths ≡ path_count → i < path_count
        → patch (bytes_of r) (paths_at + path_width * i) (slot_bytes path_width path_bytes new) ≡ bytes_of (with_paths (set r.paths i new) r)
    unfolding bytes_of with_paths path_bytes
    patch_path new e l = (item i l within paths_in).place.patched r new (tt, e)

    pub patch_link : (new : Slot Link) → length r.links ≡ link_count → i < link_count
        → patch (bytes_of r) (links_at + link_width * i) (slot_bytes link_width link_bytes new) ≡ bytes_of (with_links (set r.links i new) r)
    unfolding bytes_of with_links link_bytes
    patch_link new e l = (item i l within links_in).place.patched r new (tt, e)

    pub patch_return : (new : Slot Return) → length r.returns.slots ≡ return_count → i < return_count
        → patch (bytes_of r) (returns_at + return_width * i) (slot_bytes return_width return_bytes new)
        ≡ bytes_of (with_returns (with_slots (set r.returns.slots i new) r.returns) r)
    unfolding bytes_of with_returns return_bytes
    patch_return new e l = (item i l within returns_in).place.patched r new ((tt, tt), e)

    pub patch_hash : (new : Slot Remembered) → length r.hashes.slots ≡ hash_count → i < hash_count
        → patch (bytes_of r) (hashes_at + hash_width * i) (slot_bytes hash_width hash_bytes new)
        ≡ bytes_of (with_hashes (with_slots (set r.hashes.slots i new) r.hashes) r)
    unfolding bytes_of with_hashes hash_bytes
    patch_hash new e l = (item i l within hashes_in).place.patched r new ((tt, tt), e)
