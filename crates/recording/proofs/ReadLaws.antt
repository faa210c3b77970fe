-- The laws of reading: each refusal, what a file that the reader takes is, and entry i of any bytes.
use Prim.Native.Nat.{ℕ, ◌+◌, ◌*◌, ◌≤◌, ◌<◌, zero-le}
use native.Mathlib.Nat.{add-zero, add_assoc, le_antisymm, le_of_suc-le-suc}
use native.Mathlib.Omega.{arith}
use mathlib.Core.Bool.{Bool, true, false, not}
use mathlib.Core.List.{List, ◌++◌}
use mathlib.Core.Path.{◌≡◌, refl, sym, ap, ap₂, ◌∙◌}
use lib.Bits.{bit_or}
use lib.Dec.{ltb, eqb}
use lib.ListN.{length, get_or}
use borrow.Author.Tests.{lt-ltb, le-ltb, ltb-true, ltb-false, le-leb, lt-leb, leb-true, eq-eqb, ne_eqb, eqb-true, not-false}
use Rattle.octets.specs.Bytes.{Bytes}
use Rattle.octets.specs.Index.{◌and◌, all_below}
use Rattle.octets.specs.Listed.{first_of}
use Rattle.octets.specs.Part.{part}
use Rattle.octets.proofs.Choice.{then_true, then_false, or_left, or_right, or_no, or_no_left, or_no_right}
use Rattle.octets.proofs.Index.{and_left, and_right, and_both, and_no, and_yes, all_more, all_fails, all_at, all_intro}
use Rattle.octets.proofs.Listed.{here, past, all_give, refuses, rows_passed, none_first}
use Rattle.octets.proofs.ListOf.{list_of_length, list_of_at}
use Rattle.octets.proofs.Part.{part_again, part_one, part_length}
use Rattle.recording.specs.Shape.{entry_place, kind_of, edition_of, count_of, offset_of, length_of, running_place, offsets_right, end_right, contents_start, longest_body}
use Rattle.recording.specs.Format.{head_width, head_of, no_entry, longest_file, clock_width, port_at, word_at}
use Rattle.recording.specs.Reader.{clock_of, port_of, word_of, length_wrong, kind_wrong, places_wrong, words_wrong, file_rows, file_refusal, is_there, no_fields, fields_of, body_of, entry_of, entries_of}
use Rattle.recording.specs.Steps.{contents_rows}
use Rattle.recording.proofs.Ors.{or_turn}
use Rattle.recording.proofs.Sums.{sum_none, sum_more, sum_bound}
use Rattle.recording.proofs.ShapeLaws.{length_lt, Shaped, body_within, part_three}

-- body i starts at the running place
abbrev stands : List ℕ → ℕ → Bool
stands f i = eqb (offset_of head_width f i) (running_place head_width f i)

-- ---- each refusal, in the rows' order
module _ (f : List ℕ) where
  pub too_long : longest_file < length f → length_wrong f ≡ true
  unfolding length_wrong
  too_long l = or_left _ (lt-ltb longest_file (length f) l)

  pub too_short : length f < contents_start → length_wrong f ≡ true
  unfolding length_wrong
  too_short l = or_right _ (or_left _ (lt-ltb (length f) contents_start l))

  pub contents_cut : length f < entry_place head_width (count_of f) → length_wrong f ≡ true
  unfolding length_wrong
  contents_cut l = or_right _ (or_right _ (lt-ltb (length f) (entry_place head_width (count_of f)) l))

  pub length_right : length f ≤ longest_file → contents_start ≤ length f → entry_place head_width (count_of f) ≤ length f → length_wrong f ≡ false
  unfolding length_wrong
  length_right l m k =
      or_no (le-ltb longest_file (length f) l)
      (or_no (le-ltb (length f) contents_start m) (le-ltb (length f) (entry_place head_width (count_of f)) k))

  pub other_kind : (kind_of f ≡ 1 → ⊥) → kind_wrong f ≡ true
  unfolding kind_wrong
  other_kind ne = ap not (and_no _ (ne_eqb (kind_of f) 1 ne))

  pub other_edition : kind_of f ≡ 1 → (edition_of f ≡ 1 → ⊥) → kind_wrong f ≡ true
  unfolding kind_wrong
  other_edition e ne = ap not (and_yes _ (eq-eqb (kind_of f) 1 e) ∙ ne_eqb (edition_of f) 1 ne)

  pub kind_right : kind_of f ≡ 1 → edition_of f ≡ 1 → kind_wrong f ≡ false
  unfolding kind_wrong
  kind_right e d = ap not (and_both (eq-eqb (kind_of f) 1 e) (eq-eqb (edition_of f) 1 d))

  -- an offset that isn't the running place, or an end that isn't the file's
  pub offset_wrong : (i : ℕ) → i < count_of f → (offset_of head_width f i ≡ running_place head_width f i → ⊥) → places_wrong f ≡ true
  unfolding places_wrong offsets_right
  offset_wrong i l ne =
      ap not (and_no _ (all_fails (stands f) i (count_of f) l (ne_eqb (offset_of head_width f i) (running_place head_width f i) ne)))

  module _ (o : offsets_right head_width f ≡ true) where
    pub end_wrong : (running_place head_width f (count_of f) ≡ length f → ⊥) → places_wrong f ≡ true
    unfolding places_wrong end_right
    end_wrong ne = ap not (and_yes _ o ∙ ne_eqb (running_place head_width f (count_of f)) (length f) ne)

    pub places_right : running_place head_width f (count_of f) ≡ length f → places_wrong f ≡ false
    unfolding places_wrong end_right
    places_right e = ap not (and_both o (eq-eqb (running_place head_width f (count_of f)) (length f) e))

  pub refused_length : length_wrong f ≡ true → file_refusal f ≡ 20
  unfolding file_refusal file_rows
  refused_length e = here _ 20 _ 0 e

  module _ (l : length_wrong f ≡ false) where
    pub refused_kind : kind_wrong f ≡ true → file_refusal f ≡ 21
    unfolding file_refusal file_rows
    refused_kind e = past _ 20 _ 0 l ∙ here _ 21 _ 0 e

    pub contents_decide : kind_wrong f ≡ false → file_refusal f ≡ first_of (contents_rows f) 0
    unfolding file_refusal file_rows
    contents_decide e = past _ 20 _ 0 l ∙ past _ 21 _ 0 e

  pub refused_place : places_wrong f ≡ true → first_of (contents_rows f) 0 ≡ 22
  refused_place e = here _ 22 _ 0 e

  module _ (p : places_wrong f ≡ false) where
    pub refused_word_lem : words_wrong f ≡ true → first_of (contents_rows f) 0 ≡ 23
    refused_word_lem e = past _ 22 _ 0 p ∙ here _ 23 _ 0 e

    pub contents_taken : words_wrong f ≡ false → first_of (contents_rows f) 0 ≡ 0
    contents_taken e = none_first (contents_rows f) 0 (p, (e, tt))

-- ---- the loop over the contents, where it has passed i entries: no offset was wrong, and `words` is the OR of their signature words
pub record EntriesPassed (f : List ℕ) (words place i : ℕ) : Type 0 where
  pub within : i ≤ count_of f
  pub running : place ≡ running_place head_width f i
  pub offsets : all_below (stands f) i ≡ true
  pub small : ltb words 2 ≡ all_below (λ j. ltb (word_of f j) 2) i

pub passed_none : (f : List ℕ) (place : ℕ) → place ≡ entry_place head_width (count_of f) → EntriesPassed f 0 place 0
unfolding running_place all_below
passed_none f place e =
    record {
      within = zero-le;
      running = e ∙ sym (ap (λ (k : ℕ). entry_place head_width (count_of f) + k) (sum_none (length_of head_width f)) ∙ add-zero (entry_place head_width (count_of f)));
      offsets = refl;
      small = refl;
    }

module _ {f : List ℕ} {words place i : ℕ} (p : EntriesPassed f words place i) where
  pub passed_more : i < count_of f → offset_of head_width f i ≡ place → EntriesPassed f (bit_or words (word_of f i)) (place + length_of head_width f i) (i + 1)
  unfolding running_place
  passed_more l e =
      record {
        within = omega arith;
        running = omega (arith, p.running, sum_more (length_of head_width f) i);
        offsets = all_more (stands f) i p.offsets (eq-eqb _ _ (e ∙ p.running));
        small = or_turn 1 (word_of f) i words p.small;
      }

  pub passed_lt : Bytes f → entry_place head_width (count_of f) ≤ length f → place ≤ entry_place head_width (count_of f) + longest_body * i
  unfolding running_place
  passed_lt b h =
      let each : (j : ℕ) → j < i → length_of head_width f j ≤ longest_body = λ j l. le_of_suc-le-suc (length_lt head_width f j b (omega (arith, p.within))) in
      omega (arith, p.running, sum_bound (length_of head_width f) longest_body i each)

  pub passed_wrong : i < count_of f → (offset_of head_width f i ≡ place → ⊥) → first_of (contents_rows f) 0 ≡ 22
  passed_wrong l ne = refused_place f (offset_wrong f i l (λ q. ne (q ∙ sym p.running)))

  module _ (l : count_of f ≤ i) where
    all_passed : i ≡ count_of f
    all_passed = le_antisymm p.within l

    ends_at : place ≡ running_place head_width f (count_of f)
    ends_at = p.running ∙ ap (running_place head_width f) all_passed

    all_right : offsets_right head_width f ≡ true
    unfolding offsets_right
    all_right = ap (all_below (stands f)) (sym all_passed) ∙ p.offsets

    all_small : all_below (λ j. ltb (word_of f j) 2) (count_of f) ≡ ltb words 2
    all_small = ap (all_below (λ j. ltb (word_of f j) 2)) (sym all_passed) ∙ sym p.small

    pub ended_wrong : (place ≡ length f → ⊥) → first_of (contents_rows f) 0 ≡ 22
    ended_wrong ne = refused_place f (end_wrong f all_right (λ q. ne (ends_at ∙ q)))

    module _ (e : place ≡ length f) where
      right : places_wrong f ≡ false
      right = places_right f all_right (sym ends_at ∙ e)

      pub ended_word : 1 < words → first_of (contents_rows f) 0 ≡ 23
      unfolding words_wrong
      ended_word h = refused_word_lem f right (ap not (all_small ∙ le-ltb words 2 h))

      pub ended_taken : words ≤ 1 → first_of (contents_rows f) 0 ≡ 0
      unfolding words_wrong
      ended_taken h = contents_taken f right (ap not (all_small ∙ lt-ltb words 2 (omega arith)))

-- ---- what a file that the reader takes is
pub record Taken (f : List ℕ) : Type 0 where
  pub short : length f ≤ longest_file
  pub shaped : Shaped head_width f
  pub kind : kind_of f ≡ 1
  pub edition : edition_of f ≡ 1
  pub words : (i : ℕ) → i < count_of f → word_of f i < 2

module _ (f : List ℕ) where
  rows_refuse : all_give refuses (file_rows f) ≡ true
  unfolding file_rows all_give refuses ◌and◌
  rows_refuse = refl

  pub taken : file_refusal f ≡ 0 → Taken f
  unfolding file_refusal file_rows length_wrong kind_wrong places_wrong words_wrong offsets_right end_right
  taken e =
      let (a, (k, (p, (v, _)))) = rows_passed (file_rows f) 0 rows_refuse (eq-eqb (file_refusal f) 0 e) in
      let long = or_no_right _ _ a in
      let kinds = not-false _ k in
      let places = not-false _ p in
      record {
        short = ltb-false longest_file (length f) (or_no_left _ _ a);
        shaped =
            record {
              start = ltb-false (length f) contents_start (or_no_left _ _ long);
              whole = ltb-false (length f) (entry_place head_width (count_of f)) (or_no_right _ _ long);
              offsets = λ i l. eqb-true _ _ (all_at (stands f) (count_of f) i (and_left _ _ places) l);
              ends = eqb-true _ _ (and_right _ _ places);
            };
        kind = eqb-true (kind_of f) 1 (and_left _ _ kinds);
        edition = eqb-true (edition_of f) 1 (and_right _ _ kinds);
        words = λ i l. ltb-true (word_of f i) 2 (all_at (λ j. ltb (word_of f j) 2) (count_of f) i (not-false _ v) l);
      }

  pub takes : Taken f → file_refusal f ≡ 0
  unfolding offsets_right words_wrong
  takes t =
      let s = t.shaped in
      let o = all_intro (stands f) (count_of f) (λ i l. eq-eqb _ _ (s.offsets i l)) in
      contents_decide f (length_right f t.short s.start s.whole) (kind_right f t.kind t.edition)
      ∙ contents_taken f (places_right f o s.ends)
      (ap not (all_intro (λ i. ltb (word_of f i) 2) (count_of f) (λ i l. lt-ltb (word_of f i) 2 (t.words i l))))

-- ---- entry i of any bytes
module _ (f : List ℕ) (i : ℕ) where
  pub not_counted : count_of f ≤ i → is_there f i ≡ false
  unfolding is_there
  not_counted l = and_no _ (le-ltb i (count_of f) l)

  module _ (l : i < count_of f) where
    pub item_outside : length f < entry_place head_width (i + 1) → is_there f i ≡ false
    unfolding is_there
    item_outside m = and_yes _ (lt-ltb i (count_of f) l) ∙ and_no _ (lt-leb (entry_place head_width (i + 1)) (length f) m)

    module _ (m : entry_place head_width (i + 1) ≤ length f) where
      pub body_outside : length f < offset_of head_width f i + length_of head_width f i → is_there f i ≡ false
      unfolding is_there
      body_outside k =
          and_yes _ (lt-ltb i (count_of f) l)
          ∙ and_yes _ (le-leb (entry_place head_width (i + 1)) (length f) m)
          ∙ lt-leb (offset_of head_width f i + length_of head_width f i) (length f) k

      pub stands_there : offset_of head_width f i + length_of head_width f i ≤ length f → is_there f i ≡ true
      unfolding is_there
      stands_there k =
          and_both (lt-ltb i (count_of f) l)
          (and_both (le-leb (entry_place head_width (i + 1)) (length f) m) (le-leb (offset_of head_width f i + length_of head_width f i) (length f) k))

  pub fields_none : is_there f i ≡ false → fields_of f i ≡ no_fields
  unfolding fields_of
  fields_none e = then_false _ no_fields e

  pub fields_there : is_there f i ≡ true
      → fields_of f i
      ≡ record { there = true; clock = clock_of f i; port = port_of f i; word = word_of f i; start = offset_of head_width f i; length = length_of head_width f i }
  unfolding fields_of
  fields_there e = then_true _ no_fields e

  -- the body's place lies within the file, whatever the bytes
  pub fields_within : (fields_of f i).start + (fields_of f i).length ≤ length f
  unfolding is_there
  fields_within = go (is_there f i) refl
    where
      go : (b : Bool) → is_there f i ≡ b → (fields_of f i).start + (fields_of f i).length ≤ length f
      go true e = rw (fields_there e) (leb-true _ _ (and_right _ _ (and_right _ _ e)))
      go false e = rw (fields_none e) zero-le

  pub body_length : length (body_of f i) ≡ (fields_of f i).length
  unfolding body_of
  body_length = part_length f (fields_of f i).start (fields_of f i).length fields_within

  module _ (e : is_there f i ≡ true) where
    pub there_item : entry_place head_width (i + 1) ≤ length f
    unfolding is_there
    there_item = leb-true _ _ (and_left _ _ (and_right _ _ e))

    pub entry_there : entry_of f i
        ≡ record { clock = clock_of f i; port = port_of f i; word = word_of f i; body = part f (offset_of head_width f i) (length_of head_width f i) }
    unfolding entry_of body_of
    entry_there = rw (fields_there e)

    pub head_there : Bytes f → head_of (entry_of f i) ≡ part f (entry_place head_width i) head_width
    unfolding head_of clock_of port_of word_of
    head_there b =
        let at : ℕ = entry_place head_width i in
        ap head_of entry_there
        ∙ ap₂ (λ (p q : List ℕ). p ++ q) (part_again f at clock_width b (omega (arith, there_item)))
        (ap₂ (λ (p q : List ℕ). p ++ q) (sym (part_one f (at + port_at) (omega (arith, there_item))))
        (sym (part_one f (at + word_at) (omega (arith, there_item)))))
        ∙ ap (λ (k : ℕ). part f at clock_width ++ (part f (at + port_at) 1 ++ part f k 1)) (sym (add_assoc at clock_width 1))
        ∙ part_three f at clock_width 1 1

-- ---- the list of entries, of any bytes
module _ (f : List ℕ) where
  pub entries_length : length (entries_of f) ≡ count_of f
  unfolding entries_of
  entries_length = list_of_length (entry_of f) (count_of f)

  pub entries_at : (i : ℕ) → i < count_of f → get_or (entries_of f) i no_entry ≡ entry_of f i
  unfolding entries_of
  entries_at i l = list_of_at (entry_of f) (count_of f) i no_entry l

-- every entry of a file that the reader takes is there
pub taken_there : (f : List ℕ) → Taken f → (i : ℕ) → i < count_of f → is_there f i ≡ true
taken_there f t i l =
    stands_there f i l (omega (arith, t.shaped.whole)) (body_within head_width f t.shaped i l)
