-- The laws of loading: each refusal, and what a file that is not refused is.
use Prim.Native.Nat.{ℕ, zero, suc, ◌+◌, ◌-◌, ◌*◌, ◌≤◌, ◌<◌, zero-le}
use native.Mathlib.Nat.{add_assoc, le_of_suc-le-suc}
use native.Mathlib.Omega.{arith}
use mathlib.Core.Bool.{Bool, true, false, not}
use mathlib.Core.List.{List}
use mathlib.Core.Path.{◌≡◌, refl, sym, ap, ap₂, ◌∙◌}
use lib.Dec.{eqb, ltb}
use lib.ListN.{length}
use borrow.Author.Tests.{lt-leb, eq-eqb, ne_eqb, eqb-true, not-false}
use Rattle.std.specs.List.{sum_by, range_with_len}
use Rattle.std.proofs.lemmas.List.Sums.{sum_by-cons}
use Rattle.octets.specs.Bytes.{Bytes}
use Rattle.octets.specs.Index.{◌and◌, all_below}
use Rattle.octets.specs.Choice.{◌then◌otherwise◌}
use Rattle.octets.specs.Part.{part}
use Rattle.octets.specs.BigEndian.{number}
use Rattle.octets.proofs.Choice.{then_true, then_false, then_ap}
use Rattle.octets.proofs.Index.{and_left, and_right, and_both, and_no, and_yes, and_false, all_none, all_more, all_fails, all_at, all_intro}
use Rattle.octets.proofs.Listed.{here, past, all_give, refuses, rows_passed, none_first}
use Rattle.codes.specs.Form.{Form, code}
use Rattle.codes.proofs.Forms.{lawful}
use Rattle.recording.specs.Shape.{entry_place, kind_of, edition_of, count_of, offset_of, length_of, sum_below, running_place, offsets_right, end_right, contents_start, item_width, longest_body}
use Rattle.recording.proofs.Sums.{sum_none, sum_more, sum_bound, sum_cong}
use Rattle.recording.proofs.ShapeLaws.{length_lt, Shaped}
use Rattle.rules.specs.declared.Tally.{Tally}
use Rattle.tables.specs.Forms.{Edition, relay_form_in}
use Rattle.tables.specs.Places.{table_size}
use Rattle.tables.specs.Layout.{relay_of, bytes_of, well_formed}
use Rattle.tables.proofs.Whole.{again}
use Rattle.editions.specs.Editions.{Held, tally_form, is_known_by, is_known, numbered, held, width_at, counter_width}
use Rattle.saved.specs.File.{saved_kind, body_count, head_width, bodies_at}
use Rattle.saved.specs.Load.{length_wrong, kind_wrong_by, kind_wrong, contents_wrong, sizes_right, bodies_wrong, load_rows, load_refusal, held_in, LoadedOn, load_on}
use Rattle.editions.specs.Steps.{tally_place, size_in, tables_now, bodies_fine}
use Rattle.saved.specs.Steps.{tally_at, counter_at}
use Rattle.editions.proofs.Widths.{widths_in_lem, size_in_lem}
use Rattle.editions.proofs.EachBrings.{each_brings}
use Rattle.editions.proofs.EditionLaws.{now_relay, now_formed, now_bytes, relay_decides}

-- ---- 20
module _ (f : List ℕ) where
  pub cut_short : length f < entry_place head_width (count_of f) → length_wrong f ≡ true
  unfolding length_wrong end_right running_place
  cut_short l =
      let end : ℕ = running_place head_width f (count_of f) in
      ap not (ne_eqb end (length f) (λ (q : end ≡ length f). omega (arith, q, l)))

  pub too_short : length f < contents_start → length_wrong f ≡ true
  too_short l = cut_short (omega arith)

  pub sum_decides : length_wrong f ≡ not (eqb (entry_place head_width (count_of f) + sum_below (length_of head_width f) (count_of f)) (length f))
  unfolding length_wrong end_right running_place
  sum_decides = refl

  module _ (h : length_wrong f ≡ false) where
    pub ends_right : running_place head_width f (count_of f) ≡ length f
    unfolding length_wrong end_right
    ends_right = eqb-true _ _ (not-false _ h)

    pub has_contents : entry_place head_width (count_of f) ≤ length f
    unfolding running_place
    has_contents = omega (arith, ends_right)

    pub has_start : contents_start ≤ length f
    has_start = omega (arith, has_contents)

-- ---- 21
module _ (f : List ℕ) where
  pub other_kind : (kind_of f ≡ saved_kind → ⊥) → kind_wrong f ≡ true
  unfolding kind_wrong kind_wrong_by
  other_kind ne = ap not (and_no _ (ne_eqb (kind_of f) saved_kind ne))

  pub edition_decides : kind_of f ≡ saved_kind → kind_wrong f ≡ not (is_known (edition_of f))
  unfolding kind_wrong kind_wrong_by is_known
  edition_decides k = ap not (and_yes _ (eq-eqb (kind_of f) saved_kind k))

  pub newer_edition : (own : ℕ) → own < edition_of f → kind_wrong_by own f ≡ true
  unfolding kind_wrong_by is_known_by
  newer_edition own l =
      ap not
      (ap (λ (b : Bool). eqb (kind_of f) saved_kind and b) (ap (λ (b : Bool). ltb 0 (edition_of f) and b) (lt-leb (edition_of f) own l) ∙ and_false _)
      ∙ and_false _)

-- ---- 22
-- body i starts at the running place
abbrev pub stands : List ℕ → ℕ → Bool
stands f i = eqb (offset_of head_width f i) (running_place head_width f i)

module _ (f : List ℕ) where
  pub other_count : (count_of f ≡ body_count → ⊥) → contents_wrong f ≡ true
  unfolding contents_wrong
  other_count ne = ap not (and_no _ (ne_eqb (count_of f) body_count ne))

  module _ (n : count_of f ≡ body_count) where
    pub offset_wrong : (i : ℕ) → i < body_count → (offset_of head_width f i ≡ running_place head_width f i → ⊥) → contents_wrong f ≡ true
    unfolding contents_wrong offsets_right
    offset_wrong i l ne =
        ap not
        (and_yes _ (eq-eqb (count_of f) body_count n)
        ∙ all_fails (stands f) i (count_of f) (omega (arith, n, l)) (ne_eqb (offset_of head_width f i) (running_place head_width f i) ne))

    pub contents_right : all_below (stands f) body_count ≡ true → contents_wrong f ≡ false
    unfolding contents_wrong offsets_right
    contents_right a = ap not (and_both (eq-eqb (count_of f) body_count n) (ap (all_below (stands f)) n ∙ a))

  module _ (h : contents_wrong f ≡ false) where
    pub counts_eight : count_of f ≡ body_count
    unfolding contents_wrong
    counts_eight = eqb-true _ _ (and_left _ _ (not-false _ h))

    pub offsets_right_lem : (i : ℕ) → i < count_of f → offset_of head_width f i ≡ running_place head_width f i
    unfolding contents_wrong offsets_right
    offsets_right_lem i l = eqb-true _ _ (all_at (stands f) (count_of f) i (and_right _ _ (not-false _ h)) l)

-- lengths of n entries that stand in the file, added up
pub lengths_most : (f : List ℕ) (n : ℕ) → Bytes f → entry_place head_width n ≤ length f → sum_below (length_of head_width f) n ≤ longest_body * n
lengths_most f n b l =
    sum_bound (length_of head_width f) longest_body n (λ j m. le_of_suc-le-suc (length_lt head_width f j b (omega arith)))

-- over the entries by the library's words
sum_first : (g : ℕ → ℕ) (n : ℕ) → sum_below g (suc n) ≡ g 0 + sum_below (λ k. g (suc k)) n
unfolding sum_below
sum_first g zero = omega arith
sum_first g (suc n) = rw (sum_first g n) (omega arith)

lengths_from : (g : ℕ → ℕ) (a n : ℕ) → sum_by g (range_with_len a n) ≡ sum_below (λ k. g (a + k)) n
lengths_from g a zero = sym (sum_none (λ k. g (a + k)))
lengths_from g a (suc n) =
    sum_by-cons g a (range_with_len (a + 1) n)
    ∙ ap₂ (λ (p q : ℕ). p + q) (ap g (omega arith))
    (lengths_from g (a + 1) n ∙ sum_cong (λ k. g (a + 1 + k)) (λ k. g (a + suc k)) n (λ i l. ap g (omega arith)))
    ∙ sym (sum_first (λ k. g (a + k)) n)

pub lengths_added : (g : ℕ → ℕ) (n : ℕ) → sum_by g (range_with_len 0 n) ≡ sum_below g n
lengths_added g n = lengths_from g 0 n ∙ sum_cong (λ k. g (0 + k)) g n (λ i l. ap g (omega arith))

-- the loop over the contents, where it has passed i entries
pub record EntriesPassed (f : List ℕ) (place i : ℕ) : Type 0 where
  pub count : count_of f ≡ body_count
  pub within : i ≤ body_count
  pub running : place ≡ running_place head_width f i
  pub offsets : all_below (stands f) i ≡ true

pub passed_none : (f : List ℕ) → count_of f ≡ body_count → EntriesPassed f bodies_at 0
unfolding running_place
passed_none f n =
    record {
      count = n;
      within = zero-le;
      running = omega (arith, n, sum_none (length_of head_width f));
      offsets = all_none (stands f);
    }

module _ {f : List ℕ} {place i : ℕ} (p : EntriesPassed f place i) where
  pub passed_more : i < body_count → offset_of head_width f i ≡ place → EntriesPassed f (place + length_of head_width f i) (i + 1)
  unfolding running_place
  passed_more l e =
      record {
        count = p.count;
        within = omega arith;
        running = omega (arith, p.running, sum_more (length_of head_width f) i);
        offsets = all_more (stands f) i p.offsets (eq-eqb _ _ (e ∙ p.running));
      }

  pub passed_lt : Bytes f → entry_place head_width i + item_width head_width ≤ length f → place ≤ bodies_at + longest_body * i
  unfolding running_place
  passed_lt b h = omega (arith, p.running, p.count, lengths_most f i b (omega arith))

  pub passed_wrong : i < body_count → (offset_of head_width f i ≡ place → ⊥) → contents_wrong f ≡ true
  passed_wrong l ne = offset_wrong f p.count i l (λ q. ne (q ∙ sym p.running))

-- ---- 24
module _ (f : List ℕ) (form : Form Held) where
  -- body i has its size
  abbrev pub sized : ℕ → Bool
  sized i = eqb (length_of head_width f i) (width_at form i)

  pub size_at_lem : sizes_right form f ≡ true → (i : ℕ) → i < body_count → length_of head_width f i ≡ width_at form i
  unfolding sizes_right
  size_at_lem s i l = eqb-true _ _ (all_at sized body_count i s l)

-- the edition that the file names
abbrev pub edition_in : List ℕ → Edition
edition_in f = numbered (edition_of f)

module _ (f : List ℕ) (h : length_wrong f ≡ false) (n : count_of f ≡ body_count) where
  pub has_entries : bodies_at ≤ length f
  has_entries = omega (arith, n, has_contents f h)

  pub size_known : (e : Edition) → sizes_right (held e) f ≡ true → length f ≡ size_in e
  unfolding running_place
  size_known e s =
      sym (ends_right f h)
      ∙ ap (running_place head_width f) n
      ∙ ap₂ (λ (p q : ℕ). entry_place head_width p + q) n
      (sum_cong (length_of head_width f) (width_at (held e)) body_count (size_at_lem f (held e) s) ∙ widths_in_lem e)
      ∙ size_in_lem e

pub bodies_decide : (f : List ℕ) → bodies_wrong f ≡ not (sizes_right (held (edition_in f)) f and bodies_fine (edition_in f) f)
unfolding bodies_wrong bodies_fine
bodies_decide f = refl

-- ---- the rows, in their order
module _ (f : List ℕ) (size : ℕ) where
  pub refused_length : length_wrong f ≡ true → load_refusal f size ≡ 20
  unfolding load_refusal load_rows
  refused_length e = here _ 20 _ 0 e

  module _ (a : length_wrong f ≡ false) where
    pub refused_kind : kind_wrong f ≡ true → load_refusal f size ≡ 21
    unfolding load_refusal load_rows
    refused_kind e = past _ 20 _ 0 a ∙ here _ 21 _ 0 e

    module _ (k : kind_wrong f ≡ false) where
      pub refused_place : contents_wrong f ≡ true → load_refusal f size ≡ 22
      unfolding load_refusal load_rows
      refused_place e = past _ 20 _ 0 a ∙ past _ 21 _ 0 k ∙ here _ 22 _ 0 e

      module _ (p : contents_wrong f ≡ false) where
        pub refused_body : bodies_wrong f ≡ true → load_refusal f size ≡ 24
        unfolding load_refusal load_rows
        refused_body e = past _ 20 _ 0 a ∙ past _ 21 _ 0 k ∙ past _ 22 _ 0 p ∙ here _ 24 _ 0 e

        module _ (w : bodies_wrong f ≡ false) where
          pub refused_size : (size ≡ table_size → ⊥) → load_refusal f size ≡ 25
          unfolding load_refusal load_rows
          refused_size ne =
              past _ 20 _ 0 a ∙ past _ 21 _ 0 k ∙ past _ 22 _ 0 p ∙ past _ 24 _ 0 w ∙ here _ 25 _ 0 (ap not (ne_eqb size table_size ne))

          pub not_refused : size ≡ table_size → load_refusal f size ≡ 0
          unfolding load_refusal load_rows
          not_refused e = none_first (load_rows f size) 0 (a, (k, (p, (w, (ap not (eq-eqb size table_size e), tt)))))

-- ---- what a file that loads is
pub record Taken (f : List ℕ) (size : ℕ) : Type 0 where
  pub long : length f ≡ size_in (edition_in f)
  pub kind : kind_of f ≡ saved_kind
  pub known : is_known (edition_of f) ≡ true
  pub count : count_of f ≡ body_count
  pub shaped : Shaped head_width f
  pub sizes : (i : ℕ) → i < body_count → length_of head_width f i ≡ width_at (held (edition_in f)) i
  pub fine : (code (held (edition_in f))).fine f bodies_at ≡ true
  pub room : size ≡ table_size

module _ (f : List ℕ) (size : ℕ) where
  rows_refuse : all_give refuses (load_rows f size) ≡ true
  unfolding load_rows all_give refuses ◌and◌
  rows_refuse = refl

  pub taken : load_refusal f size ≡ 0 → Taken f size
  unfolding load_refusal load_rows kind_wrong kind_wrong_by is_known bodies_fine
  taken e =
      let (a, (k, (p, (w, (r, _))))) = rows_passed (load_rows f size) 0 rows_refuse (eq-eqb (load_refusal f size) 0 e) in
      let kinds = not-false _ k in
      let count = counts_eight f p in
      let fine = not-false _ (sym (bodies_decide f) ∙ w) in
      record {
        long = size_known f a count (edition_in f) (and_left _ _ fine);
        kind = eqb-true (kind_of f) saved_kind (and_left _ _ kinds);
        known = and_right _ _ kinds;
        count = count;
        shaped = record { start = has_start f a; whole = has_contents f a; offsets = offsets_right_lem f p; ends = ends_right f a };
        sizes = size_at_lem f (held (edition_in f)) (and_left _ _ fine);
        fine = and_right _ _ fine;
        room = eqb-true size table_size (not-false _ r);
      }

  pub taken_whole : Taken f size → length_wrong f ≡ false
  unfolding length_wrong end_right
  taken_whole t = ap not (eq-eqb _ _ t.shaped.ends)

  pub takes : Taken f size → load_refusal f size ≡ 0
  unfolding bodies_fine sizes_right
  takes t =
      let offsets = all_intro (stands f) body_count (λ i l. eq-eqb _ _ (t.shaped.offsets i (omega (arith, t.count, l)))) in
      let sizes = all_intro (sized f (held (edition_in f))) body_count (λ i l. eq-eqb _ _ (t.sizes i l)) in
      not_refused f size (taken_whole t) (edition_decides f t.kind ∙ ap not t.known) (contents_right f t.count offsets)
      (bodies_decide f ∙ ap not (and_both sizes t.fine)) t.room

-- the last row: a file that loads into tables of the right size is refused for any other
pub other_size : (f : List ℕ) (size : ℕ) → load_refusal f table_size ≡ 0 → (size ≡ table_size → ⊥) → load_refusal f size ≡ 25
unfolding load_refusal load_rows
other_size f size e ne =
    let (a, (k, (p, (w, _)))) = rows_passed (load_rows f table_size) 0 (rows_refuse f table_size) (eq-eqb (load_refusal f table_size) 0 e) in
    refused_size f size a k p w ne

-- ---- what the code leaves is what the file holds
module _ (f : List ℕ) (size : ℕ) (t : Taken f size) where
  pub has_tables : tally_place (edition_in f) ≤ length f
  has_tables = omega (arith, t.long)

  pub held_relay : (held_in f).0 ≡ relay_of (tables_now (edition_in f) f)
  unfolding held_in
  held_relay = now_relay (edition_in f) (each_brings (edition_of f - 1)) f has_tables

  pub held_formed : well_formed (tables_now (edition_in f) f) ≡ true
  unfolding bodies_fine
  held_formed = now_formed (edition_in f) (each_brings (edition_of f - 1)) f has_tables (sym (relay_decides (edition_in f) f) ∙ t.fine)

  pub held_bytes : Bytes f → Bytes (tables_now (edition_in f) f)
  held_bytes b = now_bytes (edition_in f) (each_brings (edition_of f - 1)) f has_tables b

  pub tables_held : Bytes f → tables_now (edition_in f) f ≡ bytes_of (held_in f).0
  tables_held b = sym (again (tables_now (edition_in f) f) (held_bytes b) held_formed) ∙ ap bytes_of (sym held_relay)

  pub tally_held : (at : ℕ) → at + (code tally_form).width ≡ length f → tally_at f at ≡ (held_in f).1
  unfolding tally_at held_in
  tally_held at e = ap ((code tally_form).read f) (omega (arith, e, t.long))

  pub tally_good : Bytes f → (code tally_form).Good (held_in f).1
  unfolding held_in ◌and◌
  tally_good b = (lawful tally_form).keeps f (bodies_at + (code (relay_form_in (edition_in f))).width) b (omega (arith, t.long)) refl

-- counter by counter
pub tally_read : (f : List ℕ) (at : ℕ)
    → record {
      total = number (part f at counter_width);
      dropped = number (part f (at + counter_at "dropped") counter_width);
      delivered = number (part f (at + counter_at "delivered") counter_width);
      forwarded = number (part f (at + counter_at "forwarded") counter_width);
      spread = number (part f (at + counter_at "spread") counter_width);
      kept = number (part f (at + counter_at "kept") counter_width);
    }
    ≡ tally_at f at
unfolding tally_at
tally_read f at =
    rw (
      add_assoc at (counter_at "dropped") counter_width,
      add_assoc at (counter_at "delivered") counter_width,
      add_assoc at (counter_at "forwarded") counter_width,
      add_assoc at (counter_at "spread") counter_width,
    )

-- ---- `load_on`, by its refusal
module _ (f tables : List ℕ) (tally : Tally) where
  pub load_done : load_refusal f (length tables) ≡ 0
      → load_on f tables tally ≡ record { refusal = 0; tables = bytes_of (held_in f).0; tally = (held_in f).1 }
  unfolding load_on
  load_done e = then_true _ _ (eq-eqb (load_refusal f (length tables)) 0 e)

  pub load_refused : (load_refusal f (length tables) ≡ 0 → ⊥)
      → load_on f tables tally ≡ record { refusal = load_refusal f (length tables); tables = tables; tally = tally }
  unfolding load_on
  load_refused ne = then_false _ _ (ne_eqb (load_refusal f (length tables)) 0 ne)

  pub load_number : (load_on f tables tally).refusal ≡ load_refusal f (length tables)
  unfolding load_on
  load_number =
      then_ap (λ (x : LoadedOn). x.refusal) (eqb (load_refusal f (length tables)) 0) _ _ ∙ zero_or (load_refusal f (length tables))
    where
      zero_or : (n : ℕ) → (eqb n 0 then 0 otherwise n) ≡ n
      zero_or n = go (eqb n 0) refl
        where
          go : (b : Bool) → eqb n 0 ≡ b → (b then 0 otherwise n) ≡ n
          go true e = then_true 0 n refl ∙ sym (eqb-true n 0 e)
          go false e = then_false 0 n refl
