-- Well-formed tables are exactly the bytes of a relay that any bytes could hold and that breaks no clause of row 7.
use Prim.Native.Nat.{ℕ, ◌+◌, ◌*◌, ◌^◌, ◌≤◌, ◌<◌}
use native.Mathlib.Omega.{arith}
use mathlib.Core.Bool.{Bool, true, false}
use mathlib.Core.List.{List}
use mathlib.Core.Path.{◌≡◌, refl, sym, ap, ◌∙◌}
use lib.Dec.{eqb, ltb}
use lib.ListN.{length, get_or}
use borrow.Author.Tests.{eqb-true, eq-eqb, ltb-true, lt-ltb, leb-true}
use Rattle.octets.specs.Bytes.{Bytes}
use Rattle.octets.specs.Index.{◌and◌}
use Rattle.octets.specs.Choice.{◌then◌otherwise◌}
use Rattle.octets.specs.Part.{part}
use Rattle.octets.specs.BigEndian.{number}
use Rattle.octets.proofs.Index.{and_left, and_right, and_both, and_assoc, all_at}
use Rattle.octets.proofs.ListOf.{list_of_length}
use Rattle.codes.specs.Form.{Form, octets_in, many, slot, code}
use Rattle.codes.proofs.Law.{whole_again}
use Rattle.codes.proofs.Forms.{lawful}
use Rattle.numbers.specs.Numbers.{port_count, local_count, path_count, link_count, return_count, hash_count, blob_limit, mode_count, time_limit}
use Rattle.notes.proofs.NoteLaws.{notes_good, notes_shaped_lem}
use Rattle.packet.proofs.ReadLaws.{size_most}
use Rattle.rules.specs.Relay.{Port, no_port, Slot, empty, used, Path, Return, Remembered, Ring, Relay}
use Rattle.rules.specs.Blobs.{no_blob}
use Rattle.rules.specs.Refusals.{time_ok, rate_settings_ok, rate_entry_ok, port_ok, path_ok, link_ok, return_ok, hash_ok, slot_ok, all, table_ok, tables_ok}
use Rattle.rules.specs.declared.Link.{Link}
use Rattle.rules.specs.declared.RateSettings.{RateSettings}
use Rattle.rules.specs.declared.RateEntry.{RateEntry}
use Rattle.rules.proofs.Ranges.{settings_within, entry_within}
use Rattle.rules.proofs.Valid.{RingOk, valid_of, ok_of}
use Rattle.rules.proofs.Tables.{all_list_of, table_of, table_length, table_all}
use Rattle.tables.specs.Forms.{rate_settings_form, rate_entry_form, port_form, local_form, path_form, link_form, return_form, hash_form, ring_form, relay_form_of, relay_form}
use Rattle.tables.specs.Places.{address_width, time_width, blob_width, ring_width, port_width, local_width, path_width, link_width, return_width, hash_width, clock_at, ports_at, locals_at, paths_at, links_at, return_next_at, returns_at, hash_next_at, hashes_at, table_size}
use Rattle.tables.specs.Records.{port_bytes_ok, local_bytes_ok, path_bytes_ok, link_bytes_ok, return_bytes_ok, hash_bytes_ok}
use Rattle.tables.specs.Layout.{start_ok, rate_settings_in, records_ok, front_ok, back_ok, relay_of, bytes_of, well_formed}
use Rattle.tables.specs.Shape.{is_byte, is_bytes, path_shaped, link_shaped, return_shaped, hash_shaped, shaped}
use Rattle.tables.proofs.Patches.{own_in_lem, locals_in, paths_in, links_in, returns_in, hashes_in}
use Rattle.tables.proofs.Shaped.{shaped_parts, shaped_from}
use Rattle.tables.proofs.All.{all_nth, all_from, is_bytes_lem, is_length, is_each}

-- ---- the clauses of `well_formed` by name
pub record Formed (t : List ℕ) : Type 0 where
  pub size : length t ≡ table_size
  pub fine : (code relay_form).fine t 0 ≡ true
  pub clock : time_ok (number (part t clock_at time_width)) ≡ true
  pub rate : rate_settings_ok (rate_settings_in t) ≡ true
  pub ports : records_ok port_bytes_ok ports_at port_width port_count t ≡ true
  pub locals : records_ok local_bytes_ok locals_at local_width local_count t ≡ true
  pub paths : records_ok path_bytes_ok paths_at path_width path_count t ≡ true
  pub links : records_ok link_bytes_ok links_at link_width link_count t ≡ true
  pub return_next : ltb (number (part t return_next_at ring_width)) return_count ≡ true
  pub returns : records_ok return_bytes_ok returns_at return_width return_count t ≡ true
  pub hash_next : ltb (number (part t hash_next_at ring_width)) hash_count ≡ true
  pub hashes : records_ok hash_bytes_ok hashes_at hash_width hash_count t ≡ true

-- ---- in the order in which the code tests them
pub back_clauses : (t : List ℕ) (at : ℕ) → back_ok t at
    ≡ (records_ok link_bytes_ok at link_width link_count t
    and ltb (number (part t (at + link_width * link_count) ring_width)) return_count
    and records_ok return_bytes_ok (at + link_width * link_count + ring_width) return_width return_count t
    and ltb (number (part t (at + link_width * link_count + (ring_width + return_width * return_count)) ring_width)) hash_count
    and records_ok hash_bytes_ok (at + link_width * link_count + (ring_width + return_width * return_count) + ring_width) hash_width hash_count t)
unfolding back_ok records_ok link_bytes_ok return_bytes_ok hash_bytes_ok ◌and◌
back_clauses t at = rw (and_assoc (ltb (number (part t (at + link_width * link_count) ring_width)) return_count))

-- the records of paths being of any form: an older edition has its own limit on their blobs
pub clauses_of : (path : Form Path) (t : List ℕ) → (code (relay_form_of rate_settings_form port_form path)).fine t 0
    ≡ (front_ok t
    and records_ok (λ b. (code (slot path)).fine b 0) paths_at (code (slot path)).width path_count t
    and back_ok t (paths_at + (code (slot path)).width * path_count))
unfolding front_ok start_ok rate_settings_in records_ok back_ok port_bytes_ok local_bytes_ok ◌and◌
clauses_of path t =
    rw (
      and_assoc (time_ok (number (part t clock_at time_width)) and rate_settings_ok (rate_settings_in t)),
      and_assoc (time_ok (number (part t clock_at time_width))),
      and_assoc (records_ok port_bytes_ok ports_at port_width port_count t),
    )

module _ (t : List ℕ) where
  pub clauses : well_formed t
      ≡ (eqb (length t) table_size and front_ok t and records_ok path_bytes_ok paths_at path_width path_count t and back_ok t links_at)
  unfolding well_formed path_bytes_ok
  clauses = ap (λ (b : Bool). eqb (length t) table_size and b) (clauses_of path_form t)

  pub formed : well_formed t ≡ true → Formed t
  unfolding well_formed front_ok start_ok
  formed h =
      let h1 = and_right _ _ (sym clauses ∙ h) in
      let front = and_left _ _ h1 in
      let h2 = and_right _ _ front in
      let h3 = and_right _ _ h1 in
      let h4 = sym (back_clauses t links_at) ∙ and_right _ _ h3 in
      let h5 = and_right _ _ h4 in
      let h6 = and_right _ _ h5 in
      let h7 = and_right _ _ h6 in
      record {
        size = eqb-true (length t) table_size (and_left _ _ h);
        fine = and_right _ _ h;
        clock = and_left _ _ (and_left _ _ front);
        rate = and_right _ _ (and_left _ _ front);
        ports = and_left _ _ h2;
        locals = and_right _ _ h2;
        paths = and_left _ _ h3;
        links = and_left _ _ h4;
        return_next = and_left _ _ h5;
        returns = and_left _ _ h6;
        hash_next = and_left _ _ h7;
        hashes = and_right _ _ h7;
      }

-- ---- a relay that the layout can hold is one of the right shape that keeps the rules
infixr 30 ◌also◌
abbrev ◌also◌ : {A B : Type 0} → A → B → A × B
x also y = (x, y)

octets_good : (n : ℕ) (x : List ℕ) → is_bytes n x ≡ true → (code (octets_in n)).Good x
octets_good n x h = (is_length n x h, is_each n x h)

octets_shaped : (n : ℕ) (x : List ℕ) → (code (octets_in n)).Good x → is_bytes n x ≡ true
octets_shaped n x g = is_bytes_lem n x g.0 g.1

time_good : (x : ℕ) → time_ok x ≡ true → x < 256 ^ time_width
unfolding time_ok
time_good x h = let l = leb-true x time_limit h in omega (arith, l)

rate_settings_good : (s : RateSettings) → rate_settings_ok s ≡ true → (code rate_settings_form).Good s
rate_settings_good s h =
    let w = settings_within s h in
    (omega (arith, w.target) also omega (arith, w.grace) also omega (arith, w.penalty)) also h

rate_entry_good : (e : RateEntry) → rate_entry_ok e ≡ true → (code rate_entry_form).Good e
rate_entry_good e h =
    let w = entry_within e h in
    omega (arith, w.last) also w.violations also omega (arith, w.blocked)

port_small : (x : ℕ) → ltb x port_count ≡ true → x < 256
port_small x h = let l = ltb-true x port_count h in omega (arith, l)

port_good : (p : Port) → port_ok p ≡ true → (code port_form).Good p
unfolding port_ok
port_good p h =
    let mode = ltb-true p.mode mode_count (and_left _ _ h) in
    let size = size_most p.size (and_right _ _ h) in
    ((tt, (omega (arith, mode), omega (arith, size))), h)

path_good : (p : Path) → path_ok p ≡ true → path_shaped p ≡ true → (code path_form).Good p
unfolding path_ok path_shaped
path_good p h k =
    let h1 = and_right _ _ h in
    let h2 = and_right _ _ (and_right _ _ h1) in
    let most = leb-true p.blobs.count blob_limit (and_left _ _ h2) in
    let count : p.blobs.count < 256 = omega (arith, most) in
    let k2 = and_right _ _ (and_right _ _ k) in
    let places = and_left _ _ k2 in
    let long = table_length (is_bytes blob_width) blob_limit p.blobs.places places in
    let shapes = table_all (is_bytes blob_width) blob_limit p.blobs.places places in
    ((octets_good address_width p.destination (and_left _ _ k)
    also port_small p.port (and_left _ _ h)
    also ltb-true p.hops 256 (and_left _ _ h1)
    also octets_good address_width p.next_hop (and_left _ _ (and_right _ _ k))
    also time_good p.expiry (and_left _ _ (and_right _ _ h2)))
    also rate_entry_good p.rate (and_right _ _ (and_right _ _ h2))
    also notes_good p.notes (and_right _ _ k2)
    also count
    also long
    also (λ i l. octets_good blob_width _ (all_nth (is_bytes blob_width) p.blobs.places i no_blob shapes (omega (arith, long, l)))))
    also h

path_shaped_lem : (p : Path) → (code path_form).Good p → path_shaped p ≡ true
unfolding path_shaped
path_shaped_lem p (((destination, (_, (_, (next_hop, _)))), (_, (notes, (_, (long, each))))), _) =
    and_both (octets_shaped address_width p.destination destination)
    (and_both (octets_shaped address_width p.next_hop next_hop)
    (and_both (table_of (is_bytes blob_width) blob_limit p.blobs.places long
    (all_from (is_bytes blob_width) p.blobs.places no_blob
    (λ i l. octets_shaped blob_width (get_or p.blobs.places i no_blob) (each i (omega (arith, long, l))))))
    (notes_shaped_lem p.notes notes)))

link_good : (x : Link) → link_ok x ≡ true → link_shaped x ≡ true → (code link_form).Good x
unfolding link_ok link_shaped is_byte
link_good x h k =
    let k1 = and_right _ _ k in
    let h1 = and_right _ _ h in
    (octets_good address_width x.id (and_left _ _ k)
    also port_small x.asking (and_left _ _ h)
    also port_small x.answering (and_left _ _ h1)
    also ltb-true x.taken.0 256 (and_left _ _ k1)
    also ltb-true x.remaining.0 256 (and_right _ _ k1)
    also tt
    also time_good x.expiry (and_right _ _ h1))
    also h

link_shaped_lem : (x : Link) → (code link_form).Good x → link_shaped x ≡ true
unfolding link_shaped is_byte
link_shaped_lem x ((id, (_, (_, (taken, (remaining, _))))), _) =
    and_both (octets_shaped address_width x.id id)
    (and_both (lt-ltb x.taken.0 256 taken) (lt-ltb x.remaining.0 256 remaining))

return_good : (x : Return) → return_ok x ≡ true → return_shaped x ≡ true → (code return_form).Good x
unfolding return_ok return_shaped
return_good x h k =
    let h1 = and_right _ _ h in
    (octets_good address_width x.key k
    also port_small x.arrival (and_left _ _ h)
    also port_small x.leaving (and_left _ _ h1)
    also time_good x.expiry (and_right _ _ h1))
    also h

return_shaped_lem : (x : Return) → (code return_form).Good x → return_shaped x ≡ true
unfolding return_shaped
return_shaped_lem x g = octets_shaped address_width x.key g.0.0

hash_good : (x : Remembered) → hash_ok x ≡ true → hash_shaped x ≡ true → (code hash_form).Good x
unfolding hash_ok hash_shaped
hash_good x h k = ((octets_good _ x.hash k, time_good x.expiry h), h)

hash_shaped_lem : (x : Remembered) → (code hash_form).Good x → hash_shaped x ≡ true
unfolding hash_shaped
hash_shaped_lem x g = octets_shaped _ x.hash g.0.0

-- ---- a table of slots
module _ {A : Type 0} (f : Form A) (shape : A → Bool) (n : ℕ) (xs : List (Slot A)) where
  slot_shaped : ((x : A) → (code f).Good x → shape x ≡ true) → (s : Slot A) → (code (slot f)).Good s → slot_ok shape s ≡ true
  unfolding slot_ok
  slot_shaped each empty g = refl
  slot_shaped each (used x) g = each x g

  slots_shaped : ((x : A) → (code f).Good x → shape x ≡ true) → (code (many n empty (slot f))).Good xs → all (slot_ok shape) xs ≡ true
  slots_shaped each g =
      let long = g.0 in
      all_from (slot_ok shape) xs empty (λ i l. slot_shaped each (get_or xs i empty) (g.1 i (omega (arith, long, l))))

  module _ (rule : A → Bool) (each : (x : A) → rule x ≡ true → shape x ≡ true → (code f).Good x) where
    slot_good : (s : Slot A) → slot_ok rule s ≡ true → slot_ok shape s ≡ true → (code (slot f)).Good s
    unfolding slot_ok
    slot_good empty h k = tt
    slot_good (used x) h k = each x h k

    slots_good : table_ok n (slot_ok rule) xs ≡ true → all (slot_ok shape) xs ≡ true → (code (many n empty (slot f))).Good xs
    slots_good h k =
        let long = table_length (slot_ok rule) n xs h in
        let rules = table_all (slot_ok rule) n xs h in
        let at : (i : ℕ) → i < n → i < length xs = λ i l. omega (arith, long, l) in
        long also (λ i l. slot_good (get_or xs i empty) (all_nth (slot_ok rule) xs i empty rules (at i l)) (all_nth (slot_ok shape) xs i empty k (at i l)))

good_shaped : (r : Relay) → (code relay_form).Good r → shaped r ≡ true
good_shaped r g =
    shaped_from r
    (record {
      own = octets_shaped address_width r.own (own_in_lem.place.good r tt g);
      clock = tt;
      rate = tt;
      ports = tt;
      locals = slots_shaped local_form (is_bytes address_width) local_count r.locals (octets_shaped address_width) (locals_in.place.good r tt g);
      paths = slots_shaped path_form path_shaped path_count r.paths path_shaped_lem (paths_in.place.good r tt g);
      links = slots_shaped link_form link_shaped link_count r.links link_shaped_lem (links_in.place.good r tt g);
      returns = slots_shaped return_form return_shaped return_count r.returns.slots return_shaped_lem (returns_in.place.good r (tt, tt) g);
      hashes = slots_shaped hash_form hash_shaped hash_count r.hashes.slots hash_shaped_lem (hashes_in.place.good r (tt, tt) g);
    })

-- ---- tables that are read
-- the records that they hold keep their rule
module _ {A : Type 0} (rule : A → Bool) (f : Form A)
    (keeps : (b : List ℕ) (a : ℕ) → (code f).fine b a ≡ true → rule ((code f).read b a) ≡ true) where
  slot_keeps : (b : List ℕ) → (code (slot f)).fine b 0 ≡ true → slot_ok rule ((code (slot f)).read b 0) ≡ true
  unfolding slot_ok ◌then◌otherwise◌
  slot_keeps b h = go (eqb (get_or b 0 0) 0) refl
    where
      go : (m : Bool) → eqb (get_or b 0 0) 0 ≡ m → slot_ok rule ((code (slot f)).read b 0) ≡ true
      go true q = rw q refl
      go false q = rw q (keeps b 1 (and_right _ _ (rw q at h)))

  slots_keep : (n : ℕ) (t : List ℕ) (a : ℕ) → (code (many n empty (slot f))).fine t a ≡ true
      → table_ok n (slot_ok rule) ((code (many n empty (slot f))).read t a) ≡ true
  slots_keep n t a h =
      let w : ℕ = (code (slot f)).width in
      table_of (slot_ok rule) n _ (list_of_length _ n)
      (all_list_of (slot_ok rule) (λ i. (code (slot f)).read (part t (a + w * i) w) 0) n
      (λ i l. slot_keeps (part t (a + w * i) w) (all_at _ n i h l)))

module _ (t : List ℕ) where
  -- the relay that they hold breaks no clause of row 7
  pub ok_relay : well_formed t ≡ true → tables_ok (relay_of t) ≡ true
  unfolding relay_of rate_settings_in records_ok port_bytes_ok path_bytes_ok link_bytes_ok return_bytes_ok hash_bytes_ok
  ok_relay h =
      let f = formed t h in
      ok_of (relay_of t)
      (record {
        own = tt;
        clock = f.clock;
        rate = f.rate;
        ports =
            table_of port_ok port_count _ (list_of_length _ port_count)
            (all_list_of port_ok _ port_count (λ i l. and_right _ _ (all_at _ port_count i f.ports l)));
        locals = eq-eqb _ _ (list_of_length _ local_count);
        paths = slots_keep path_ok path_form (λ b a h. and_right _ _ h) path_count t paths_at f.paths;
        links = slots_keep link_ok link_form (λ b a h. and_right _ _ h) link_count t links_at f.links;
        returns = (slots_keep return_ok return_form (λ b a h. and_right _ _ h) return_count t returns_at f.returns, f.return_next);
        hashes = (slots_keep hash_ok hash_form (λ b a h. and_right _ _ h) hash_count t hashes_at f.hashes, f.hash_next);
      })

  module _ (b : Bytes t) (h : well_formed t ≡ true) where
    -- tables that are read and written again are as they were
    pub again : bytes_of (relay_of t) ≡ t
    unfolding bytes_of relay_of
    again = whole_again (lawful relay_form) t b (formed t h).size (formed t h).fine

    -- and what they hold is of the right shape
    pub relay_good : (code relay_form).Good (relay_of t)
    unfolding relay_of
    relay_good = (lawful relay_form).keeps t 0 b (let e = (formed t h).size in omega (arith, e)) (formed t h).fine

    pub shaped_of : shaped (relay_of t) ≡ true
    shaped_of = good_shaped (relay_of t) relay_good

-- ---- a relay that is written
any_slot : (x : Slot (List ℕ)) → slot_ok (λ y. true) x ≡ true
unfolding slot_ok
any_slot empty = refl
any_slot (used x) = refl

-- any relay's bytes have the tables' size
pub bytes_length : (r : Relay) → length (bytes_of r) ≡ table_size
unfolding bytes_of
bytes_length r = (lawful relay_form).wide r

-- a ring's place stands in its two bytes
ring_good : {A : Type 0} (f : Form A) (rule shape : A → Bool) (n : ℕ) (r : Ring A) → ((x : A) → rule x ≡ true → shape x ≡ true → (code f).Good x)
    → n ≤ 256 ^ ring_width → RingOk n rule r → all (slot_ok shape) r.slots ≡ true → (code (ring_form n f)).Good r
ring_good f rule shape n r each most h k =
    let l = ltb-true r.next n h.1 in
    let fits : r.next < 256 ^ ring_width = omega (arith, l, most) in
    (fits also h.1) also slots_good f shape n r.slots rule each h.0 k

module _ (r : Relay) (s : shaped r ≡ true) (h : tables_ok r ≡ true) where
  good : (code relay_form).Good r
  good =
      let shape = shaped_parts r s in
      let rules = valid_of r h in
      let ports = table_length port_ok port_count r.ports rules.ports in
      let modes = table_all port_ok port_count r.ports rules.ports in
      let any = all_from (slot_ok (λ x. true)) r.locals empty (λ i l. any_slot (get_or r.locals i empty)) in
      let locals = table_of (slot_ok (λ x. true)) local_count r.locals (eqb-true _ _ rules.locals) any in
      octets_good address_width r.own shape.own
      also (time_good r.clock rules.clock also rules.clock)
      also rate_settings_good r.rate rules.rate
      also (ports also (λ i l. port_good _ (all_nth port_ok r.ports i no_port modes (omega (arith, ports, l)))))
      also slots_good local_form (is_bytes address_width) local_count r.locals (λ x. true) (λ x e k. octets_good address_width x k) locals shape.locals
      also slots_good path_form path_shaped path_count r.paths path_ok path_good rules.paths shape.paths
      also slots_good link_form link_shaped link_count r.links link_ok link_good rules.links shape.links
      also ring_good return_form return_ok return_shaped return_count r.returns return_good (omega arith) rules.returns shape.returns
      also ring_good hash_form hash_ok hash_shaped hash_count r.hashes hash_good (omega arith) rules.hashes shape.hashes

  -- what is written and read again is the relay
  pub back : relay_of (bytes_of r) ≡ r
  unfolding relay_of bytes_of
  back = (lawful relay_form).back r good

  -- what is written is well formed
  pub ok_bytes : well_formed (bytes_of r) ≡ true
  unfolding well_formed bytes_of
  ok_bytes = and_both (eq-eqb (length (bytes_of r)) table_size (bytes_length r)) ((lawful relay_form).passes r good)

  pub bytes_bytes : Bytes (bytes_of r)
  unfolding bytes_of
  bytes_bytes = (lawful relay_form).bytes r good
