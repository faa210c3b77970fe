-- What a relay knows, apart from how its tables hold it.
use Rattle.std.specs.Prelude.{ℕ, Bool, false, not, List, get_or, replicate}
use Rattle.octets.specs.Index.{first}
-- a place of a table: unused, or a record
pub use Rattle.codes.specs.Codes.{Slot, empty, used}
use Rattle.numbers.specs.Numbers.{longest_packet, port_count, local_count, path_count, link_count, return_count, hash_count}
use Rattle.rules.specs.declared.Link.{Link}
use Rattle.rules.specs.declared.RateSettings.{RateSettings}
use Rattle.rules.specs.declared.RateEntry.{RateEntry}
use Rattle.notes.specs.Notes.{noted}
use Rattle.notes.specs.declared.Notes.{Notes}
use Rattle.notes.specs.declared.Note.{Note}

-- each on or off and boundary, access point or roaming. Wish 11: "Each port gets a size"
pub record Port : Type 0 where
  pub on : Bool
  pub mode : ℕ
  pub size : ℕ

-- stored blobs, the one stored longest ago first: `count` of the places hold one, and what the spare ones hold counts for nothing
pub record Blobs : Type 0 where
  pub count : ℕ
  pub places : List (List ℕ)

-- by an announce: the port it came in by, its hops, its next hop (relay address, or the destination if type 1), and when this ends.
-- Wish 5: "Last accepted announce, violations and blocked-until live in the path record"; wish 6: "The mark lies in the path record"
pub record Path : Type 0 where
  pub destination : List ℕ
  pub port : ℕ
  pub hops : ℕ
  pub next_hop : List ℕ
  pub expiry : ℕ
  pub rate : RateEntry
  -- what the host has noted of it
  pub notes : Notes
  pub blobs : Blobs

-- of data forwarded by a path: first 16 of packet hash, arrival port, leaving port
pub record Return : Type 0 where
  pub key : List ℕ
  pub arrival : ℕ
  pub leaving : ℕ
  pub expiry : ℕ

pub record Remembered : Type 0 where
  pub hash : List ℕ
  pub expiry : ℕ

-- a table that is filled in a ring: `next` is the place that is written next
pub record Ring (A : Type 0) : Type 0 where
  pub slots : List (Slot A)
  pub next : ℕ

-- wish 5: "target interval, grace and penalty, set for the relay"
pub record Relay : Type 0 where
  pub own : List ℕ
  pub clock : ℕ
  pub rate : RateSettings
  pub ports : List Port
  pub locals : List (Slot (List ℕ))
  pub paths : List (Slot Path)
  pub links : List (Slot Link)
  pub returns : Ring Return
  pub hashes : Ring Remembered

-- ---- records are built here and nowhere else: what is not given has its value of a new record
abbrev pub make_port : Bool → ℕ → ℕ → Port
make_port on mode size = record { on = on; mode = mode; size = size }

-- a fresh relay's port: off and boundary. Wish 11: "older ones load with 500, as fresh relays have"
abbrev pub fresh_port : Port
fresh_port = make_port false 0 longest_packet

-- what is read for a number outside the sixteen: off, so that nothing goes by its mode or its size, which keep row 7
abbrev pub no_port : Port
no_port = make_port false 0 longest_packet

abbrev pub make_rate_settings : ℕ → ℕ → ℕ → RateSettings
make_rate_settings target grace penalty = record { target = target; grace = grace; penalty = penalty }

abbrev pub make_rate_entry : ℕ → ℕ → ℕ → RateEntry
make_rate_entry last violations blockedUntil = record { last = last; violations = violations; blocked_until = blockedUntil }

-- "edition 1 and a fresh relay have settings and new fields at 0"
abbrev pub no_rate_settings : RateSettings
no_rate_settings = make_rate_settings 0 0 0

abbrev pub no_rate_entry : RateEntry
no_rate_entry = make_rate_entry 0 0 0

abbrev pub make_path : List ℕ → ℕ → ℕ → List ℕ → ℕ → RateEntry → Notes → Blobs → Path
make_path destination port hops next_hop expiry rate notes blobs =
    record {
      destination = destination;
      port = port;
      hops = hops;
      next_hop = next_hop;
      expiry = expiry;
      rate = rate;
      notes = notes;
      blobs = blobs;
    }

-- a link that is not proved yet
abbrev pub make_link : List ℕ → ℕ → ℕ → ℕ → ℕ → ℕ → Link
make_link id asking answering taken remaining expiry =
    record {
      id = id;
      asking = asking;
      answering = answering;
      taken = record { 0 = taken };
      remaining = record { 0 = remaining };
      proved = false;
      expiry = expiry;
    }

abbrev pub make_return : List ℕ → ℕ → ℕ → ℕ → Return
make_return key arrival leaving expiry = record { key = key; arrival = arrival; leaving = leaving; expiry = expiry }

abbrev pub make_remembered : List ℕ → ℕ → Remembered
make_remembered hash expiry = record { hash = hash; expiry = expiry }

abbrev pub make_ring : {A : Type 0} → List (Slot A) → ℕ → Ring A
make_ring slots next = record { slots = slots; next = next }

-- ---- a record with some fields changed
-- a path by another port
abbrev pub with_path_port : ℕ → Path → Path
with_path_port port p = make_path p.destination port p.hops p.next_hop p.expiry p.rate p.notes p.blobs

-- a path with another rate entry
abbrev pub with_path_rate : RateEntry → Path → Path
with_path_rate rate p = make_path p.destination p.port p.hops p.next_hop p.expiry rate p.notes p.blobs

-- a path with other notes
abbrev pub with_path_notes : Notes → Path → Path
with_path_notes notes p = make_path p.destination p.port p.hops p.next_hop p.expiry p.rate notes p.blobs

-- a path of which the host has noted this
abbrev pub with_note : Note → Path → Path
with_note note p = with_path_notes (noted note p.notes) p

-- a link between other ports
abbrev pub with_link_ports : ℕ → ℕ → Link → Link
with_link_ports asking answering l =
    record {
      id = l.id;
      asking = asking;
      answering = answering;
      taken = l.taken;
      remaining = l.remaining;
      proved = l.proved;
      expiry = l.expiry;
    }

-- a link that is proved or not, and lives until another time
abbrev pub with_link_state : Bool → ℕ → Link → Link
with_link_state proved expiry l =
    record {
      id = l.id;
      asking = l.asking;
      answering = l.answering;
      taken = l.taken;
      remaining = l.remaining;
      proved = proved;
      expiry = expiry;
    }

-- a return record between other ports
abbrev pub with_return_ports : ℕ → ℕ → Return → Return
with_return_ports arrival leaving t = make_return t.key arrival leaving t.expiry

-- a ring with other records
abbrev pub with_slots : {A : Type 0} → List (Slot A) → Ring A → Ring A
with_slots slots ring = make_ring slots ring.next

-- ---- a relay
abbrev pub make_relay : List ℕ → ℕ → RateSettings → List Port → List (Slot (List ℕ)) → List (Slot Path) → List (Slot Link) → Ring Return
    → Ring Remembered → Relay
make_relay own clock rate ports locals paths links returns hashes =
    record {
      own = own;
      clock = clock;
      rate = rate;
      ports = ports;
      locals = locals;
      paths = paths;
      links = links;
      returns = returns;
      hashes = hashes;
    }

-- a fresh relay has its own address, all ports off and boundary, clock 0, tables empty; wish 5: settings at 0; wish 11: sizes 500
unfoldable pub fresh : List ℕ → Relay
fresh own =
    make_relay own 0 no_rate_settings
    (replicate port_count fresh_port)
    (replicate local_count empty)
    (replicate path_count empty)
    (replicate link_count empty)
    (make_ring (replicate return_count empty) 0)
    (make_ring (replicate hash_count empty) 0)

-- ---- a relay with one part changed
unfoldable pub with_clock : ℕ → Relay → Relay
with_clock clock r = make_relay r.own clock r.rate r.ports r.locals r.paths r.links r.returns r.hashes

unfoldable pub with_rate : RateSettings → Relay → Relay
with_rate rate r = make_relay r.own r.clock rate r.ports r.locals r.paths r.links r.returns r.hashes

unfoldable pub with_ports : List Port → Relay → Relay
with_ports ports r = make_relay r.own r.clock r.rate ports r.locals r.paths r.links r.returns r.hashes

unfoldable pub with_locals : List (Slot (List ℕ)) → Relay → Relay
with_locals locals r = make_relay r.own r.clock r.rate r.ports locals r.paths r.links r.returns r.hashes

unfoldable pub with_paths : List (Slot Path) → Relay → Relay
with_paths paths r = make_relay r.own r.clock r.rate r.ports r.locals paths r.links r.returns r.hashes

unfoldable pub with_links : List (Slot Link) → Relay → Relay
with_links links r = make_relay r.own r.clock r.rate r.ports r.locals r.paths links r.returns r.hashes

unfoldable pub with_returns : Ring Return → Relay → Relay
with_returns returns r = make_relay r.own r.clock r.rate r.ports r.locals r.paths r.links returns r.hashes

unfoldable pub with_hashes : Ring Remembered → Relay → Relay
with_hashes hashes r = make_relay r.own r.clock r.rate r.ports r.locals r.paths r.links r.returns hashes

-- ---- looking through a table
-- the slot holds a record that passes the test
unfoldable pub holds : {A : Type 0} → (A → Bool) → Slot A → Bool
holds test empty = false
holds test (used x) = test x

-- the lowest of n places whose record passes the test, or n
unfoldable pub lowest : {A : Type 0} → (A → Bool) → ℕ → List (Slot A) → ℕ
lowest test n slots = first (λ i. holds test (get_or slots i empty)) n

-- empty or expired: `alive` says which records live
unfoldable pub free : {A : Type 0} → (A → Bool) → Slot A → Bool
free alive slot = not (holds alive slot)

-- the lowest of n slots that is empty or expired, or n
unfoldable pub lowest_free : {A : Type 0} → (A → Bool) → ℕ → List (Slot A) → ℕ
lowest_free alive n slots = first (λ i. free alive (get_or slots i empty)) n
