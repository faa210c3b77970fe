-- The layout, said once: the fields of each record in order (what the host notes of a path: crates/notes), and the sections of the tables in the order in
-- which a saved file has them.
-- Widths, places, reading, writing and refusal 7 follow. docs/LAYOUT.md draws it.
use Rattle.std.specs.Prelude.{ℕ, ◌≤◌, Bool, List, refl, ltb, leb}
use Rattle.codes.specs.Form.{Form, byte, mark, number_in, octets_in, field, ◌&◌, many, firsts_of, slot, that, as_record}
use Rattle.numbers.specs.Numbers.{port_count, local_count, path_count, blob_limit, link_count, return_count, hash_count}
pub use Rattle.numbers.specs.Numbers.{address_width, digest_width, blob_width}
use Rattle.notes.specs.Notes.{notes_form}
use Rattle.rules.specs.Relay.{Port, no_port, Slot, empty, Blobs, Path, Return, Remembered, Ring, Relay, make_port, make_rate_settings, make_rate_entry, make_path, make_link, with_link_state, make_return, make_remembered, make_ring, make_relay}
use Rattle.rules.specs.Blobs.{no_blob}
use Rattle.rules.specs.Refusals.{time_ok, rate_settings_ok, port_ok, path_ok, link_ok, return_ok, hash_ok}
use Rattle.rules.specs.declared.Link.{Link}
use Rattle.rules.specs.declared.RateSettings.{RateSettings}
use Rattle.rules.specs.declared.RateEntry.{RateEntry}
use Rattle.notes.specs.declared.Notes.{Notes}

-- ---- widths of fields, in bytes; those of addresses, digests and blobs are document 01's
abbrev pub time_width : ℕ
time_width = 8

abbrev pub ring_width : ℕ
ring_width = 2

abbrev pub setting_width : ℕ
setting_width = 4

abbrev pub size_width : ℕ
size_width = 2

-- ---- the announce rate: its settings, and what a path's record has of it
abbrev pub to_rate_settings : ℕ × (ℕ × ℕ) → RateSettings
to_rate_settings (target, (grace, penalty)) = make_rate_settings target grace penalty

abbrev pub rate_settings_form : Form RateSettings
rate_settings_form =
    that rate_settings_ok
    (as_record to_rate_settings (λ s. (s.target, (s.grace, s.penalty))) (λ x. refl) (λ y. refl)
    (field "target" (number_in setting_width) & field "grace" (number_in setting_width) & field "penalty" (number_in setting_width)))

abbrev pub to_rate_entry : ℕ × (ℕ × ℕ) → RateEntry
to_rate_entry (last, (violations, blockedUntil)) = make_rate_entry last violations blockedUntil

abbrev pub rate_entry_form : Form RateEntry
rate_entry_form =
    as_record to_rate_entry (λ e. (e.last, (e.violations, e.blocked_until))) (λ x. refl) (λ y. refl)
    (field "last" (number_in time_width) & field "violations" byte & field "blocked until" (number_in time_width))

-- ---- what older editions of saved tables have otherwise (crates/editions): the tables are of today's
-- wish 8: how many blobs a path can hold, as many as today or fewer
pub data BlobRoom : Type 0 where
  as_today : BlobRoom
  fewer : (most : ℕ) → most ≤ blob_limit → BlobRoom

pub record Edition : Type 1 where
  pub rate_settings : Form RateSettings
  pub rate_entry : Form RateEntry
  pub notes : Form Notes
  pub blob_room : BlobRoom
  pub port_size : Form ℕ

abbrev pub today : Edition
today =
    record {
      rate_settings = rate_settings_form;
      rate_entry = rate_entry_form;
      notes = notes_form;
      blob_room = as_today;
      port_size = number_in size_width;
    }

-- ---- a port's settings. No slot: a port that is off keeps its mode and its size, which stands here as itself
abbrev pub to_port : Bool × (ℕ × ℕ) → Port
to_port (on, (mode, size)) = make_port on mode size

abbrev pub port_form_of : Form ℕ → Form Port
port_form_of size =
    that port_ok
    (as_record to_port (λ p. (p.on, (p.mode, p.size))) (λ x. refl) (λ y. refl)
    (field "on" mark & field "mode" byte & field "size" size))

abbrev pub port_form_in : Edition → Form Port
port_form_in e = port_form_of e.port_size

abbrev pub port_form : Form Port
port_form = port_form_in today

-- ---- a local address
abbrev pub local_form : Form (List ℕ)
local_form = octets_in address_width

-- ---- a path
abbrev pub to_blobs : ℕ × List (List ℕ) → Blobs
to_blobs (count, places) = record { count = count; places = places }

abbrev pub blobs_form : Form Blobs
blobs_form =
    as_record to_blobs (λ b. (b.count, b.places)) (λ x. refl) (λ y. refl)
    (field "count" byte & field "places" (many blob_limit no_blob (octets_in blob_width)))

-- in an older file: "Refusal 7 reads 1..64, 1..16 in older files", and its places are the first of today's
abbrev pub holds_at_most : ℕ → Blobs → Bool
holds_at_most most b = leb b.count most

abbrev pub blobs_form_in : BlobRoom → Form Blobs
blobs_form_in as_today = blobs_form
blobs_form_in (fewer most within) =
    that (holds_at_most most)
    (as_record to_blobs (λ b. (b.count, b.places)) (λ x. refl) (λ y. refl)
    (field "count" byte & field "places" (firsts_of most blob_limit within no_blob (octets_in blob_width))))

-- what an announce says of the way
abbrev pub Head : Type 0
Head = List ℕ × (ℕ × (ℕ × (List ℕ × ℕ)))

abbrev pub head_form : Form Head
head_form =
    field "destination" (octets_in address_width)
    & field "port" byte
    & field "hops" byte
    & field "next hop" (octets_in address_width)
    & field "expiry" (number_in time_width)

abbrev pub to_path : Head × (RateEntry × (Notes × Blobs)) → Path
to_path ((destination, (port, (hops, (next_hop, expiry)))), (rate, (notes, blobs))) = make_path destination port hops next_hop expiry rate notes blobs

abbrev pub path_form_of : Form RateEntry → Form Notes → Form Blobs → Form Path
path_form_of rate notes blobs =
    that path_ok
    (as_record to_path
    (λ p. ((p.destination, (p.port, (p.hops, (p.next_hop, p.expiry)))), (p.rate, (p.notes, p.blobs))))
    (λ x. refl)
    (λ y. refl)
    (head_form & field "rate" rate & field "notes" notes & field "blobs" blobs))

abbrev pub path_form_in : Edition → Form Path
path_form_in e = path_form_of e.rate_entry e.notes (blobs_form_in e.blob_room)

abbrev pub path_form : Form Path
path_form = path_form_in today

-- ---- a link
abbrev pub to_link : List ℕ × (ℕ × (ℕ × (ℕ × (ℕ × (Bool × ℕ))))) → Link
to_link (id, (asking, (answering, (taken, (remaining, (proved, expiry)))))) =
    with_link_state proved expiry (make_link id asking answering taken remaining expiry)

abbrev pub link_form : Form Link
link_form =
    that link_ok
    (as_record to_link
    (λ l. (l.id, (l.asking, (l.answering, (l.taken.0, (l.remaining.0, (l.proved, l.expiry)))))))
    (λ x. refl)
    (λ y. refl)
    (field "id" (octets_in address_width)
    & field "asking" byte
    & field "answering" byte
    & field "taken" byte
    & field "remaining" byte
    & field "proved" mark
    & field "expiry" (number_in time_width)))

-- ---- a return record
abbrev pub to_return : List ℕ × (ℕ × (ℕ × ℕ)) → Return
to_return (key, (arrival, (leaving, expiry))) = make_return key arrival leaving expiry

abbrev pub return_form : Form Return
return_form =
    that return_ok
    (as_record to_return (λ t. (t.key, (t.arrival, (t.leaving, t.expiry)))) (λ x. refl) (λ y. refl)
    (field "key" (octets_in address_width) & field "arrival" byte & field "leaving" byte & field "expiry" (number_in time_width)))

-- ---- a remembered hash
abbrev pub to_hash : List ℕ × ℕ → Remembered
to_hash (hash, expiry) = make_remembered hash expiry

abbrev pub hash_form : Form Remembered
hash_form =
    that hash_ok
    (as_record to_hash (λ m. (m.hash, m.expiry)) (λ x. refl) (λ y. refl)
    (field "hash" (octets_in digest_width) & field "expiry" (number_in time_width)))

-- ---- a ring: its next place, then its n records
abbrev pub below : ℕ → ℕ → Bool
below n place = ltb place n

abbrev pub to_ring : {A : Type 0} → ℕ × List (Slot A) → Ring A
to_ring (next, slots) = make_ring slots next

abbrev pub ring_form : {A : Type 0} → ℕ → Form A → Form (Ring A)
ring_form n f =
    as_record to_ring (λ r. (r.next, r.slots)) (λ x. refl) (λ y. refl)
    (field "next" (that (below n) (number_in ring_width)) & field "slots" (many n empty (slot f)))

-- ---- the tables
abbrev pub Sections : Type 0
Sections = List ℕ
    × (ℕ × (RateSettings × (List Port × (List (Slot (List ℕ)) × (List (Slot Path) × (List (Slot Link) × (Ring Return × Ring Remembered)))))))

abbrev pub to_relay : Sections → Relay
to_relay (own, (clock, (rate, (ports, (locals, (paths, (links, (returns, hashes)))))))) = make_relay own clock rate ports locals paths links returns hashes

-- what stands behind the paths: no edition has it otherwise
abbrev pub back_form : Form (List (Slot Link) × (Ring Return × Ring Remembered))
back_form =
    field "links" (many link_count empty (slot link_form))
    & field "returns" (ring_form return_count return_form)
    & field "hashes" (ring_form hash_count hash_form)

abbrev pub relay_form_of : Form RateSettings → Form Port → Form Path → Form Relay
relay_form_of rate port path =
    as_record to_relay
    (λ r. (r.own, (r.clock, (r.rate, (r.ports, (r.locals, (r.paths, (r.links, (r.returns, r.hashes)))))))))
    (λ x. refl)
    (λ y. refl)
    (field "own" (octets_in address_width)
    & field "clock" (that time_ok (number_in time_width))
    & field "rate" rate
    & field "ports" (many port_count no_port port)
    & field "locals" (many local_count empty (slot local_form))
    & field "paths" (many path_count empty (slot path))
    & back_form)

abbrev pub relay_form_in : Edition → Form Relay
relay_form_in e = relay_form_of e.rate_settings (port_form_in e) (path_form_in e)

abbrev pub relay_form : Form Relay
relay_form = relay_form_in today
