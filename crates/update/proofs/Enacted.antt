-- What an accepted packet writes is what the rules write: a way's records, and behind them the stamp of clock and hash.
use Prim.Native.Nat.{ℕ, ◌+◌, ◌<◌}
use native.Mathlib.Omega.{arith}
use mathlib.Core.Bool.{Bool, true, false}
use mathlib.Core.List.{List}
use mathlib.Core.Path.{◌≡◌, refl, sym, ap, ap₂, subst, ◌∙◌}
use lib.Dec.{eqb}
use lib.ListN.{length, get_or, set, length-map}
use Rattle.octets.specs.Bytes.{Bytes}
use Rattle.octets.specs.Choice.{◌then◌otherwise◌}
use Rattle.octets.proofs.Choice.{then_false}
use Rattle.packet.specs.Header.{type_two, is_data}
use Rattle.numbers.specs.Numbers.{blob_limit, path_count, link_count, return_count, hash_count, path_lifetime, hash_lifetime, return_lifetime}
use Rattle.notes.specs.Notes.{noted}
use Rattle.rules.specs.Relay.{Slot, empty, used, Ring, Blobs, Path, Return, Remembered, with_path_rate, make_return, make_remembered, with_slots, Relay, with_clock, with_paths, with_links, with_returns}
use Rattle.rules.specs.View.{View, view_at, path_place, link_place, return_place, free_path, free_link, is_live_return}
use Rattle.rules.specs.Arrival.{Arrival, header, hops, relay_address, destination, hash, blob}
use Rattle.rules.specs.Blobs.{one_blob, store_blob}
use Rattle.rules.specs.Rate.{entry_dropped}
use Rattle.rules.specs.declared.RateEntry.{RateEntry}
use Rattle.notes.specs.declared.Note.{Note}
use Rattle.rules.specs.Ways.{everywhere, by_path, along_link, by_return}
use Rattle.rules.specs.Writes.{remember, announced_blobs, announced_rate, limit_path, noted_slot, note_path, announced_path, announced_place, put_path, return_key, return_record, emptied_if, emptied_where, put_return, empty_return, link_record, put_link, renewed_link, renew_link, write_way}
use Rattle.rules.specs.declared.Link.{Link}
use Rattle.tables.specs.Places.{path_width, paths_at}
use Rattle.tables.specs.Records.{slot_of, path_of, blobs_of}
use Rattle.tables.specs.Layout.{record_at, relay_of, bytes_of, well_formed}
use Rattle.tables.proofs.Seen.{path_seen, paths_length, links_length, returns_length, hashes_length}
use Rattle.tables.proofs.Whole.{again}
use Rattle.update.specs.declared.Announced.{Announced}
use Rattle.update.specs.Written.{clock_written, hash_written, announced, path_written, rate_written, notes_written, link_written, return_written, return_emptied, returns_emptied}
use Rattle.update.proofs.Steps.{clock_step, path_step, rate_step, notes_step, link_step, emptied_step, return_step, hash_step, return_next_within, hash_next_within}

-- the blobs of a used record
held_blobs : (row : List ℕ) (p : Path) → slot_of path_of row ≡ used p → blobs_of row ≡ p.blobs
unfolding slot_of blobs_of path_of ◌then◌otherwise◌
held_blobs row p e = go (eqb (get_or row 0 0) 0) refl
  where
    go : (x : Bool) → eqb (get_or row 0 0) 0 ≡ x → blobs_of row ≡ p.blobs
    go true q = let n : empty ≡ used p = rw q at e in let z : ◌≡◌ {A = ℕ} 0 1 = cc in absurd (omega arith)
    go false q = let n : used (path_of row) ≡ used p = rw q at e in let m : path_of row ≡ p = cc in ap (λ (x : Path). x.blobs) m

-- what an announce sets, as the code has it
pub record Announces (v : View) (a : Arrival) (known : Slot Path) (x : Announced) (added : List ℕ) : Type 0 where
  pub destination_is : x.destination ≡ destination a
  pub port_is : x.port ≡ a.port
  pub hops_are : x.hops ≡ hops a
  pub next_hop_is : x.next_hop ≡ (type_two (header a) then relay_address a otherwise destination a)
  pub expiry_is : x.expiry ≡ a.clock + path_lifetime (v.mode a.port)
  pub rate_is : x.rate ≡ announced_rate v a known
  pub blob_is : added ≡ blob a

-- t are the tables before
module _ (v : View) (a : Arrival) (t : List ℕ) (b : Bytes t) (h : well_formed t ≡ true) where
  abbrev before : Relay
  before = relay_of t

  held : t ≡ bytes_of before
  held = sym (again t b h)

  -- ---- the stamp, behind writes that leave the hashes. key is the packet's hash, and place the ring's next place
  module _ (r : Relay) (u : List ℕ) (e : u ≡ bytes_of r) where
    pub clock_stamped : clock_written u a.clock ≡ bytes_of (with_clock a.clock r)
    clock_stamped = clock_step r e a.clock refl

    pub hash_stamped : (key : List ℕ) (place : ℕ) → key ≡ hash a → place ≡ before.hashes.next → r.hashes ≡ before.hashes
        → hash_written (clock_written u a.clock) place (make_remembered key (a.clock + hash_lifetime))
        ≡ bytes_of (remember a (with_clock a.clock r))
    unfolding remember with_clock
    hash_stamped key place is next same =
        let within : place < hash_count = subst (λ (k : ℕ). k < hash_count) (sym next) (hash_next_within t h) in
        hash_step (with_clock a.clock r) clock_stamped place (make_remembered key (a.clock + hash_lifetime))
        (ap (λ (x : Ring Remembered). length x.slots) same ∙ hashes_length t) within (next ∙ ap (λ (x : Ring Remembered). x.next) (sym same)) refl
        ∙ rw is

  -- ---- an announce
  module _ (x : Announced) (added : List ℕ) (slot : ℕ) (within : slot < path_count) where
    announced_as : (known : Slot Path) → Announces v a known x added → announced x (announced_blobs a known) ≡ announced_path v a known
    unfolding announced announced_path
    announced_as known set_by =
        rw (set_by.destination_is, set_by.port_is, set_by.hops_are, set_by.next_hop_is, set_by.expiry_is, set_by.rate_is)

    pub new_path_written : Announces v a empty x added → (u : List ℕ) → slot ≡ free_path a.clock before
        → u ≡ path_written t slot (announced x (one_blob blob_limit added))
        → u ≡ bytes_of (write_way v a (everywhere empty) before)
    unfolding write_way put_path announced_place announced_blobs
    new_path_written set_by u free e =
        path_step before held slot _ (paths_length t) within e
        ∙ ap₂ (λ (k : ℕ) (p : Path). bytes_of (with_paths (set before.paths k (used p)) before)) free
        (ap (λ (y : List ℕ). announced x (one_blob blob_limit y)) set_by.blob_is ∙ announced_as empty set_by)

    pub known_path_written : (p : Path) → Announces v a (used p) x added → (u : List ℕ) → slot ≡ path_place a.clock before (destination a)
        → get_or before.paths slot empty ≡ used p
        → u ≡ path_written t slot (announced x (store_blob blob_limit added (blobs_of (record_at paths_at path_width t slot))))
        → u ≡ bytes_of (write_way v a (everywhere (used p)) before)
    unfolding write_way put_path announced_place announced_blobs
    known_path_written p set_by u live there e =
        path_step before held slot _ (paths_length t) within e
        ∙ ap₂ (λ (k : ℕ) (q : Path). bytes_of (with_paths (set before.paths k (used q)) before)) live
        (ap₂ (λ (y : List ℕ) (s : Blobs). announced x (store_blob blob_limit y s)) set_by.blob_is row_blobs ∙ announced_as (used p) set_by)
      where
        row_blobs : blobs_of (record_at paths_at path_width t slot) ≡ p.blobs
        row_blobs = held_blobs (record_at paths_at path_width t slot) p (sym (path_seen t slot within) ∙ there)

  -- ---- a rate drop
  pub rate_limited_lem : (p : Path) (rate : RateEntry) (slot : ℕ) (u : List ℕ) → slot < path_count → slot ≡ path_place a.clock before (destination a)
      → get_or before.paths slot empty ≡ used p → rate ≡ entry_dropped v.rate a.clock p.rate → u ≡ rate_written t slot rate
      → u ≡ bytes_of (limit_path v a (used p) before)
  unfolding limit_path
  rate_limited_lem p rate slot u within live there is e =
      rate_step before held slot p rate (paths_length t) within there e
      ∙ ap₂ (λ (k : ℕ) (x : RateEntry). bytes_of (with_paths (set before.paths k (used (with_path_rate x p))) before)) live is

  -- ---- data by a path: other live records of the key are emptied
  pub return_written_lem : (p : Path) (first : List ℕ) (out slot : ℕ) (u : List ℕ) → is_data (header a) ≡ true
      → first ≡ return_key a → out ≡ p.port → slot ≡ before.returns.next
      → u
      ≡ return_written (returns_emptied a.clock first t) slot
      (make_return first a.port out (a.clock + return_lifetime))
      → u ≡ bytes_of (write_way v a (by_path p) before)
  unfolding write_way put_return return_record returns_emptied emptied_where with_returns ◌then◌otherwise◌
  return_written_lem p first out slot u isd q1 q2 q3 e =
      let rest : Relay = with_returns (emptied_where (is_live_return a.clock first) before.returns) before in
      let within : slot < return_count = subst (λ (k : ℕ). k < return_count) (sym q3) (return_next_within t h) in
      return_step rest refl slot _ (length-map before.returns.slots (emptied_if (is_live_return a.clock first)) ∙ returns_length t) within q3 e
      ∙ rw (q1, q2, isd)

  -- ---- a link request by a path, and a packet of the link
  module _ (x : Link) (slot : ℕ) (within : slot < link_count) (u : List ℕ) (e : u ≡ link_written t slot x) where
    pub link_written_lem : (p : Path) → is_data (header a) ≡ false → x ≡ link_record a p → slot ≡ free_link a.clock before
        → u ≡ bytes_of (write_way v a (by_path p) before)
    unfolding write_way put_link
    link_written_lem p isd q free =
        link_step before held slot x (links_length t) within e
        ∙ ap₂ (λ (k : ℕ) (y : Link). bytes_of (with_links (set before.links k (used y)) before)) free q
        ∙ ap bytes_of (sym (then_false _ _ isd))

    pub link_renewed : (l : Link) → x ≡ renewed_link a l → slot ≡ link_place a.clock before (destination a)
        → u ≡ bytes_of (write_way v a (along_link l) before)
    unfolding write_way renew_link
    link_renewed l q live =
        link_step before held slot x (links_length t) within e
        ∙ ap₂ (λ (k : ℕ) (y : Link). bytes_of (with_links (set before.links k (used y)) before)) live q

  -- ---- an ordinary proof
  pub return_emptied_lem : (x : Return) (slot : ℕ) (u : List ℕ) → slot < return_count → slot ≡ return_place a.clock before (destination a)
      → u ≡ return_emptied t slot → u ≡ bytes_of (write_way v a (by_return x) before)
  unfolding write_way empty_return
  return_emptied_lem x slot u within live e =
      emptied_step before held slot (returns_length t) within e
      ∙ ap (λ (k : ℕ). bytes_of (with_returns (with_slots (set before.returns.slots k empty) before.returns) before)) live

-- ---- a note, at a clock
module _ (t : List ℕ) (b : Bytes t) (h : well_formed t ≡ true) where
  pub path_noted : (note : Note) (p : Path) (to : List ℕ) (clock slot : ℕ) (u : List ℕ) → slot < path_count → slot ≡ path_place clock (relay_of t) to
      → get_or (relay_of t).paths slot empty ≡ used p → u ≡ notes_written t slot (noted note p.notes) → u ≡ bytes_of (note_path note to clock (relay_of t))
  unfolding note_path noted_slot view_at
  path_noted note p to clock slot u within live there e =
      notes_step (relay_of t) (sym (again t b h)) slot p (noted note p.notes) (paths_length t) within there e
      ∙ ap₂ (λ (k : ℕ) (x : Slot Path). bytes_of (with_paths (set (relay_of t).paths k (noted_slot note x)) (relay_of t))) live
      (sym there ∙ ap (λ (k : ℕ). get_or (relay_of t).paths k empty) live)
