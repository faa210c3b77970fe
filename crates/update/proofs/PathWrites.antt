-- What the code writes over a path's record: its blobs, and the record around them.
use Prim.Native.Nat.{ℕ, zero, suc, ◌+◌, ◌*◌, ◌-◌, ◌≤◌, ◌<◌}
use native.Mathlib.Nat.{add-zero}
use native.Mathlib.Omega.{arith}
use mathlib.Core.List.{List, [], ◌∷◌, ◌++◌, append_assoc}
use mathlib.Core.Path.{◌≡◌, refl, sym, ap, ap₂, ◌∙◌}
use lib.ListN.{length, get_or, take, drop, replicate, length-append, length-drop, length-replicate, replicate-append-replicate}
use borrow.Author.Tests.{lt-ltb, le-ltb}
use borrow.Rule.Slice.PartMut.{put_mid}
use Rattle.octets.specs.Index.{list_of}
use Rattle.octets.specs.Choice.{◌then◌otherwise◌}
use Rattle.std.specs.List.{copy_within}
use Rattle.octets.specs.Part.{part, patch, joined, fields}
use Rattle.octets.proofs.ListOf.{list_of_length, list_of_cong, list_of_first}
use Rattle.octets.proofs.Part.{part_length, part_one, part_part, part_split, part_whole, patch_length, patch_join, patch_whole, patch_mid, part_range, patch_range}
use Rattle.octets.proofs.Joined.{joined_append, joined_one, joined_parts, fields_all}
use Rattle.codes.specs.Form.{byte, octets_in, many}
use Rattle.codes.proofs.Forms.{lawful}
use Rattle.codes.proofs.Pieces.{written, fields_written, marked_written}
use Rattle.codes.proofs.Inside.{Inside, item, ◌within◌, named}
use Rattle.numbers.specs.Numbers.{blob_limit}
use Rattle.notes.specs.Notes.{notes_bytes, no_notes, notes_form}
use Rattle.rules.specs.Relay.{used, Blobs}
use Rattle.rules.specs.Blobs.{no_blob, one_blob, add_blob}
use Rattle.tables.specs.Forms.{rate_entry_form, blobs_form, head_form}
use Rattle.tables.specs.Places.{blob_width, path_width}
use Rattle.tables.specs.Fields.{blobs_width, blob_places_at, path_notes_at, path_blobs_at}
use Rattle.tables.specs.Records.{exactly, mark_of, slot_bytes, blobs_of, blobs_bytes, path_bytes}
use Rattle.tables.proofs.All.{exactly_same}
use Rattle.tables.proofs.Section.{part_behind}
use Rattle.update.specs.declared.Announced.{Announced}
use Rattle.update.specs.Written.{rate_bytes, head_of, announced, head_width, head_bytes, start_width, start_bytes, newer_width, blobs_in}

blobs_length : (s : Blobs) → length (blobs_bytes s) ≡ blobs_width
unfolding blobs_bytes
blobs_length s = (lawful blobs_form).wide s

-- ---- where their parts stand
abbrev count_in : Inside blobs_form byte
count_in = (named blobs_form "count").inside

abbrev places_in : Inside blobs_form (many blob_limit no_blob (octets_in blob_width))
places_in = (named blobs_form "places").inside

-- ---- a new path's
spare : (n : ℕ) → joined (exactly blob_width) (replicate n no_blob) ≡ replicate (blob_width * n) 0
unfolding joined
spare zero = refl
spare (suc n) =
    ap₂ (λ (x y : List ℕ). x ++ y) (exactly_same blob_width no_blob refl) (spare n)
    ∙ replicate-append-replicate blob_width (blob_width * n) 0
    ∙ ap (λ (k : ℕ). replicate k 0) (let e : blob_width + blob_width * n ≡ blob_width * suc n = omega arith in e)

-- n bytes from a place on, copied to another
pub moved : (s : List ℕ) (to from n : ℕ) → from + n ≤ length s → copy_within s from (from + n) to ≡ patch s to (part s from n)
unfolding part patch
moved s to from n fits =
    let e : from + n - from ≡ n = omega arith in
    let l : from + n - from ≡ length (take n (drop from s)) = e ∙ sym (part_length s from n fits) in
    append_assoc (take to s) (take (from + n - from) (drop from s)) (drop (to + (from + n - from)) s)
    ∙ (λ i. take to s ++ (take (e i) (drop from s) ++ drop (to + l i) s))

pub one_written : (s blob : List ℕ) → length s ≡ blobs_width → length blob ≡ blob_width
    → patch (patch (patch s 0 (1 ∷ [])) blob_places_at blob) (blob_places_at + blob_width) (replicate newer_width 0) ≡ blobs_bytes (one_blob blob_limit blob)
unfolding blobs_bytes one_blob joined
one_written s blob ls lb =
    let marked : List ℕ = patch s 0 (1 ∷ []) in
    let long = patch_length s 0 (1 ∷ []) (omega arith) in
    let zeros = length-replicate {A = ℕ} newer_width 0 in
    let places : blob ++ replicate newer_width 0 ≡ fields (exactly blob_width) blob_limit no_blob (one_blob blob_limit blob).places =
    sym
    (fields_all (exactly blob_width) blob_limit no_blob (blob ∷ replicate (blob_limit - 1) no_blob) (ap suc (length-replicate (blob_limit - 1) no_blob))
    ∙ ap₂ (λ (x y : List ℕ). x ++ y) (exactly_same blob_width blob lb) (spare (blob_limit - 1))) in
    patch_join marked blob_places_at (blob_places_at + blob_width) blob (replicate newer_width 0) (omega arith) (omega arith)
    ∙ ap (patch marked blob_places_at) places
    ∙ fields_written blobs_form (one_blob blob_limit blob) s 0 (omega arith)
    ∙ patch_whole s (blobs_bytes (one_blob blob_limit blob)) (blobs_length (one_blob blob_limit blob) ∙ sym ls)

-- ---- a known path's
module _ (s : List ℕ) (ls : length s ≡ blobs_width) where
  -- the blob at a, as it is read
  abbrev blob_at : ℕ → List ℕ
  blob_at a = part (part s a blob_width) 0 blob_width

  -- n blobs from a on, as they stand
  run : (a n : ℕ) → a + blob_width * n ≤ length s → joined (exactly blob_width) (list_of (λ i. blob_at (a + blob_width * i)) n) ≡ part s a (blob_width * n)
  run a n fits = joined_parts (exactly blob_width) s (λ b. part b 0 blob_width) blob_width a n each
    where
      each : (i : ℕ) → i < n → exactly blob_width (blob_at (a + blob_width * i)) ≡ part s (a + blob_width * i) blob_width
      each i l =
          let long = part_length s (a + blob_width * i) blob_width (omega arith) in
          ap (exactly blob_width) (part_whole (part s (a + blob_width * i) blob_width) blob_width long) ∙ exactly_same blob_width _ long

  places_length : length (blobs_in s).places ≡ blob_limit
  unfolding blobs_in
  places_length = list_of_length _ blob_limit

  places_again : fields (exactly blob_width) blob_limit no_blob (blobs_in s).places ≡ part s blob_places_at (blob_width * blob_limit)
  unfolding blobs_in
  places_again =
      fields_all (exactly blob_width) blob_limit no_blob (blobs_in s).places places_length ∙ run blob_places_at blob_limit (omega arith)

  pub whole : s ≡ blobs_bytes (blobs_in s)
  unfolding blobs_bytes blobs_in
  whole =
      sym (part_whole s blobs_width ls)
      ∙ part_split s 0 blob_places_at (blob_width * blob_limit)
      ∙ ap₂ (λ (x y : List ℕ). x ++ y) (part_one s 0 (omega arith)) (sym places_again)

  -- the oldest goes
  newer : joined (exactly blob_width) (drop 1 (blobs_in s).places) ≡ part s (blob_places_at + blob_width) newer_width
  unfolding blobs_in
  newer =
      ap (λ (xs : List (List ℕ)). joined (exactly blob_width) (drop 1 xs)) (list_of_first (λ i. blob_at (blob_places_at + blob_width * i)) (blob_limit - 1))
      ∙ ap (joined (exactly blob_width))
      (list_of_cong _ (λ i. blob_at (blob_places_at + blob_width + blob_width * i)) (blob_limit - 1)
      (λ i l. ap blob_at (let e : blob_places_at + blob_width * suc i ≡ blob_places_at + blob_width + blob_width * i = omega arith in e)))
      ∙ run (blob_places_at + blob_width) (blob_limit - 1) (omega arith)

  module _ (blob : List ℕ) (lb : length blob ≡ blob_width) where
    pub added : get_or s 0 0 < blob_limit
        → patch (patch s 0 ((get_or s 0 0 + 1) ∷ [])) (blob_places_at + blob_width * get_or s 0 0) blob ≡ blobs_bytes (add_blob blob_limit blob (blobs_in s))
    unfolding blobs_bytes add_blob ◌then◌otherwise◌ blobs_in
    added l =
        let count : ℕ = get_or s 0 0 in
        let more : Blobs = record { count = count + 1; places = (blobs_in s).places } in
        let counted : patch s 0 ((count + 1) ∷ []) ≡ blobs_bytes more =
        ap (λ (x : List ℕ). patch x 0 ((count + 1) ∷ [])) whole ∙ count_in.place.patched (blobs_in s) (count + 1) tt in
        rw (lt-ltb count blob_limit l)
        (ap₂ (λ (x y : List ℕ). patch x (blob_places_at + blob_width * count) y) counted (sym (exactly_same blob_width blob lb))
        ∙ (item count l within places_in).place.patched more blob (tt, places_length))

    -- those behind the oldest, one place down, and the new one behind them
    pub all_moved : patch (patch s blob_places_at (part s (blob_places_at + blob_width) newer_width)) (blob_places_at + newer_width) blob
        ≡ patch s blob_places_at (part s (blob_places_at + blob_width) newer_width ++ blob)
    all_moved =
        let long = part_length s (blob_places_at + blob_width) newer_width (omega arith) in
        patch_join s blob_places_at (blob_places_at + newer_width) (part s (blob_places_at + blob_width) newer_width) blob (omega arith) (omega arith)

    full : blob_limit ≤ get_or s 0 0 → blob_limit ≤ (blobs_in s).count
    unfolding blobs_in
    full l = l

    pub pushed : (s1 : List ℕ) → blob_limit ≤ get_or s 0 0 → s1 ≡ patch s blob_places_at (part s (blob_places_at + blob_width) newer_width ++ blob)
        → s1 ≡ blobs_bytes (add_blob blob_limit blob (blobs_in s))
    unfolding blobs_bytes add_blob ◌then◌otherwise◌
    pushed s1 l e1 =
        let kept : List (List ℕ) = drop 1 (blobs_in s).places in
        let long : length (kept ++ (blob ∷ [])) ≡ blob_limit =
        length-append kept (blob ∷ []) ∙ ap (λ (k : ℕ). k + 1) (length-drop 1 (blobs_in s).places ∙ ap (λ (k : ℕ). k - 1) places_length) in
        let bytes : part s (blob_places_at + blob_width) newer_width ++ blob ≡ fields (exactly blob_width) blob_limit no_blob (kept ++ (blob ∷ [])) =
        sym
        (fields_all (exactly blob_width) blob_limit no_blob (kept ++ (blob ∷ [])) long
        ∙ joined_append (exactly blob_width) kept (blob ∷ [])
        ∙ ap₂ (λ (x y : List ℕ). x ++ y) newer (joined_one (exactly blob_width) blob ∙ exactly_same blob_width blob lb)) in
        rw (le-ltb (blobs_in s).count blob_limit (full l))
        (e1 ∙ ap₂ (λ (x y : List ℕ). patch x blob_places_at y) whole bytes ∙ places_in.place.patched (blobs_in s) (kept ++ (blob ∷ [])) tt)

-- ---- the record: what stands before its blobs is written first, the way on before the rate
head_length : (x : Announced) → length (head_bytes x) ≡ head_width
unfolding head_bytes
head_length x = let l = (lawful head_form).wide (head_of x) in omega (arith, l)

pub head_written : (t : List ℕ) (a : ℕ) (x : Announced) → a + head_width ≤ length t
    → written head_form (head_of x) (patch t a (1 ∷ [])) a 1 ≡ patch t a (head_bytes x)
unfolding head_bytes
head_written t a x fits = marked_written head_form (head_of x) t a fits

-- .. and then the rate, and no notes
start_length : (x : Announced) → length (start_bytes x) ≡ start_width
unfolding start_bytes rate_bytes notes_bytes
start_length x =
    let l = head_length x in
    let w = (lawful rate_entry_form).wide x.rate in
    let n = (lawful notes_form).wide no_notes in
    length-append (head_bytes x) (rate_bytes x.rate ++ notes_bytes no_notes)
    ∙ ap (λ (k : ℕ). length (head_bytes x) + k) (length-append (rate_bytes x.rate) (notes_bytes no_notes))
    ∙ omega (arith, l, w, n)

pub start_written : (t : List ℕ) (a : ℕ) (x : Announced) → a + start_width ≤ length t
    → patch (patch (patch t a (head_bytes x)) (a + head_width) (rate_bytes x.rate)) (a + path_notes_at) (notes_bytes no_notes)
    ≡ patch t a (start_bytes x)
unfolding start_bytes rate_bytes notes_bytes
start_written t a x fits =
    let l = head_length x in
    let w = (lawful rate_entry_form).wide x.rate in
    let n = (lawful notes_form).wide no_notes in
    let both = length-append (head_bytes x) (rate_bytes x.rate) in
    ap (λ (u : List ℕ). patch u (a + path_notes_at) (notes_bytes no_notes))
    (patch_join t a (a + head_width) (head_bytes x) (rate_bytes x.rate) (omega (arith, l)) (omega (arith, l, w)))
    ∙ patch_join t a (a + path_notes_at) (head_bytes x ++ rate_bytes x.rate) (notes_bytes no_notes) (omega (arith, l, w, both)) (omega (arith, n))
    ∙ ap (patch t a) (append_assoc (head_bytes x) (rate_bytes x.rate) (notes_bytes no_notes))

-- what is written over itself stays
patch_own : (t : List ℕ) (a n : ℕ) → a + n ≤ length t → patch t a (part t a n) ≡ t
patch_own t a n fits =
    let m : ℕ = length t - (a + n) in
    let from_zero : 0 + a ≡ a = omega arith in
    let split : t ≡ part t 0 a ++ (part t a n ++ part t (a + n) m) =
    sym (part_whole t (a + (n + m)) (omega arith))
    ∙ part_split t 0 a (n + m)
    ∙ ap (λ (k : ℕ). part t 0 a ++ part t k (n + m)) from_zero
    ∙ ap (λ (y : List ℕ). part t 0 a ++ y) (part_split t a n m) in
    ap (λ (u : List ℕ). patch u a (part t a n)) split
    ∙ patch_mid (part t 0 a) (part t a n) (part t (a + n) m) (part t a n) a (part_length t 0 a (omega arith)) refl
    ∙ sym split

-- the blobs of a record at a
behind_start : (t : List ℕ) (a : ℕ) → blobs_in (part t (a + start_width) blobs_width) ≡ blobs_of (part t a path_width)
unfolding blobs_in blobs_of
behind_start t a =
    (lawful blobs_form).sees (part t (a + start_width) blobs_width) 0 (part t a path_width) path_blobs_at
    (part_part t (a + start_width) blobs_width 0 blobs_width (omega arith)
    ∙ ap (λ (k : ℕ). part t k blobs_width) (add-zero (a + start_width))
    ∙ sym (part_part t a path_width path_blobs_at blobs_width (omega arith)))

module _ (t t1 : List ℕ) (a : ℕ) (x : Announced) (fits : a + path_width ≤ length t) (e1 : t1 ≡ patch t a (start_bytes x)) where
  -- the blobs are lent as `&mut t1[from..from + blobs_width]`
  abbrev from : ℕ
  from = a + start_width

  pub path_put_lem : (s : List ℕ) (blobs : Blobs) → s ≡ blobs_bytes blobs
      → put_mid from (from + blobs_width - from) t1 s ≡ patch t a (slot_bytes path_width path_bytes (used (announced x blobs)))
  unfolding ◌then◌otherwise◌ mark_of slot_bytes path_bytes blobs_bytes announced start_bytes rate_bytes notes_bytes head_bytes
  path_put_lem s blobs e =
      let long = start_length x in
      let wide = blobs_length blobs in
      ap (put_mid from (from + blobs_width - from) t1) e
      ∙ patch_range t1 from blobs_width (blobs_bytes blobs) wide
      ∙ ap (λ (u : List ℕ). patch u from (blobs_bytes blobs)) e1
      ∙ patch_join t a from (start_bytes x) (blobs_bytes blobs) (omega arith) (omega arith)
      ∙ ap (patch t a)
      (append_assoc (head_bytes x) (rate_bytes x.rate ++ notes_bytes no_notes) (blobs_bytes blobs)
      ∙ ap (λ (y : List ℕ). head_bytes x ++ y) (append_assoc (rate_bytes x.rate) (notes_bytes no_notes) (blobs_bytes blobs)))

  pub blobs_kept : blobs_in (take (from + blobs_width - from) (drop from t1)) ≡ blobs_of (part t a path_width)
  blobs_kept =
      ap blobs_in (part_range t1 from blobs_width ∙ ap (λ (u : List ℕ). part u from blobs_width) e1)
      ∙ ap blobs_in (part_behind t (start_bytes x) a from blobs_width (ap (λ (k : ℕ). a + k) (start_length x)) (omega arith))
      ∙ behind_start t a

  -- .. and where nothing else is written, they stay
  pub path_kept : t1 ≡ patch t a (slot_bytes path_width path_bytes (used (announced x (blobs_of (part t a path_width)))))
  path_kept =
      let same = ap length e1 ∙ patch_length t a (start_bytes x) (let long = start_length x in omega (arith, long)) in
      let own = take (from + blobs_width - from) (drop from t1) in
      let own_is = part_range t1 from blobs_width in
      let wide = ap length own_is ∙ part_length t1 from blobs_width (omega (arith, same)) in
      sym (patch_own t1 from blobs_width (omega (arith, same)))
      ∙ ap (patch t1 from) (sym own_is)
      ∙ sym (patch_range t1 from blobs_width own wide)
      ∙ path_put_lem own (blobs_of (part t a path_width)) (whole own wide ∙ ap blobs_bytes blobs_kept)
