-- What each write does to the relay that the tables hold.
use Prim.Native.Nat.{ℕ, ◌+◌, ◌*◌, ◌%◌, ◌<◌}
use mathlib.Core.Bool.{true}
use mathlib.Core.List.{List}
use mathlib.Core.Path.{◌≡◌, ap, ◌∙◌}
use lib.ListN.{length, get_or, set}
use borrow.Author.Tests.{ltb-true}
use Rattle.octets.specs.Part.{patch}
use Rattle.octets.specs.BigEndian.{big_endian}
use Rattle.numbers.specs.Numbers.{path_count, link_count, return_count, hash_count}
use Rattle.rules.specs.Relay.{empty, used, Path, Return, Remembered, make_ring, with_slots, with_path_rate, with_path_notes, Relay, with_clock, with_paths, with_links, with_returns, with_hashes}
use Rattle.rules.specs.Writes.{put_next}
use Rattle.rules.specs.declared.Link.{Link}
use Rattle.rules.specs.declared.RateEntry.{RateEntry}
use Rattle.notes.specs.declared.Notes.{Notes}
use Rattle.codes.proofs.Inside.{named}
use Rattle.tables.specs.Forms.{path_form}
use Rattle.tables.specs.Fields.{path_rate_at, path_notes_at}
use Rattle.tables.specs.Places.{time_width, ring_width, path_width, link_width, return_width, hash_width, clock_at, paths_at, links_at, return_next_at, returns_at, hash_next_at, hashes_at}
use Rattle.tables.specs.Records.{slot_bytes, path_bytes, link_bytes, return_bytes, hash_bytes}
use Rattle.tables.specs.Layout.{relay_of, bytes_of, well_formed}
use Rattle.tables.proofs.Patches.{patch_clock, patch_path, patch_in_path, patch_link, patch_return, patch_return_next, patch_hash, patch_hash_next}
use Rattle.tables.proofs.Whole.{formed}
use Rattle.notes.specs.Notes.{notes_bytes}
use Rattle.update.specs.Written.{clock_written, hash_written, path_written, rate_bytes, rate_written, notes_written, link_written, return_written, return_emptied}

module _ (r : Relay) {t u : List ℕ} (e : t ≡ bytes_of r) where
  pub clock_step : (clock : ℕ) → u ≡ clock_written t clock → u ≡ bytes_of (with_clock clock r)
  unfolding clock_written
  clock_step clock w = w ∙ ap (λ (x : List ℕ). patch x clock_at (big_endian time_width clock)) e ∙ patch_clock r clock

  module _ (place : ℕ) where
    pub path_step : (p : Path) → length r.paths ≡ path_count → place < path_count → u ≡ path_written t place p
        → u ≡ bytes_of (with_paths (set r.paths place (used p)) r)
    unfolding path_written
    path_step p n l w =
        w ∙ ap (λ (x : List ℕ). patch x (paths_at + path_width * place) (slot_bytes path_width path_bytes (used p))) e ∙ patch_path r place (used p) n l

    pub rate_step : (p : Path) (rate : RateEntry) → length r.paths ≡ path_count → place < path_count → get_or r.paths place empty ≡ used p
        → u ≡ rate_written t place rate → u ≡ bytes_of (with_paths (set r.paths place (used (with_path_rate rate p))) r)
    unfolding rate_written rate_bytes
    rate_step p rate n l there w =
        w
        ∙ ap (λ (x : List ℕ). patch x (paths_at + path_width * place + path_rate_at) (rate_bytes rate)) e
        ∙ patch_in_path r (named path_form "rate").inside place p rate n l there tt

    pub notes_step : (p : Path) (notes : Notes) → length r.paths ≡ path_count → place < path_count → get_or r.paths place empty ≡ used p
        → u ≡ notes_written t place notes → u ≡ bytes_of (with_paths (set r.paths place (used (with_path_notes notes p))) r)
    unfolding notes_written notes_bytes
    notes_step p notes n l there w =
        w
        ∙ ap (λ (x : List ℕ). patch x (paths_at + path_width * place + path_notes_at) (notes_bytes notes)) e
        ∙ patch_in_path r (named path_form "notes").inside place p notes n l there tt

    pub link_step : (x : Link) → length r.links ≡ link_count → place < link_count → u ≡ link_written t place x
        → u ≡ bytes_of (with_links (set r.links place (used x)) r)
    unfolding link_written
    link_step x n l w =
        w ∙ ap (λ (y : List ℕ). patch y (links_at + link_width * place) (slot_bytes link_width link_bytes (used x))) e ∙ patch_link r place (used x) n l

    pub emptied_step : length r.returns.slots ≡ return_count → place < return_count → u ≡ return_emptied t place
        → u ≡ bytes_of (with_returns (with_slots (set r.returns.slots place empty) r.returns) r)
    unfolding return_emptied
    emptied_step n l w =
        w ∙ ap (λ (y : List ℕ). patch y (returns_at + return_width * place) (slot_bytes return_width return_bytes empty)) e ∙ patch_return r place empty n l

    -- the rings move on
    pub return_step : (x : Return) → length r.returns.slots ≡ return_count → place < return_count → place ≡ r.returns.next → u ≡ return_written t place x
        → u ≡ bytes_of (with_returns (put_next return_count (used x) r.returns) r)
    unfolding return_written put_next with_returns
    return_step x n l q w =
        let r1 : Relay = with_returns (with_slots (set r.returns.slots place (used x)) r.returns) r in
        w
        ∙ ap (λ (y : List ℕ). patch (patch y (returns_at + return_width * place) (slot_bytes return_width return_bytes (used x))) return_next_at
        (big_endian ring_width ((place + 1) % return_count))) e
        ∙ ap (λ (y : List ℕ). patch y return_next_at (big_endian ring_width ((place + 1) % return_count))) (patch_return r place (used x) n l)
        ∙ patch_return_next r1 ((place + 1) % return_count)
        ∙ ap (λ (k : ℕ). bytes_of (with_returns (make_ring (set r.returns.slots k (used x)) ((k + 1) % return_count)) r)) q

    pub hash_step : (x : Remembered) → length r.hashes.slots ≡ hash_count → place < hash_count → place ≡ r.hashes.next → u ≡ hash_written t place x
        → u ≡ bytes_of (with_hashes (put_next hash_count (used x) r.hashes) r)
    unfolding hash_written put_next with_hashes
    hash_step x n l q w =
        let r1 : Relay = with_hashes (with_slots (set r.hashes.slots place (used x)) r.hashes) r in
        w
        ∙ ap (λ (y : List ℕ). patch (patch y (hashes_at + hash_width * place) (slot_bytes hash_width hash_bytes (used x))) hash_next_at
        (big_endian ring_width ((place + 1) % hash_count))) e
        ∙ ap (λ (y : List ℕ). patch y hash_next_at (big_endian ring_width ((place + 1) % hash_count))) (patch_hash r place (used x) n l)
        ∙ patch_hash_next r1 ((place + 1) % hash_count)
        ∙ ap (λ (k : ℕ). bytes_of (with_hashes (make_ring (set r.hashes.slots k (used x)) ((k + 1) % hash_count)) r)) q

-- the next ring places of well-formed tables
module _ (t : List ℕ) (h : well_formed t ≡ true) where
  pub return_next_within : (relay_of t).returns.next < return_count
  unfolding relay_of
  return_next_within = ltb-true _ _ (formed t h).return_next

  pub hash_next_within : (relay_of t).hashes.next < hash_count
  unfolding relay_of
  hash_next_within = ltb-true _ _ (formed t h).hash_next
