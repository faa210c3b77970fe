-- The laws of writing: each refusal, what the writer takes, and what its code leaves.
use Prim.Native.Nat.{ℕ, zero, suc, ◌+◌, ◌-◌, ◌*◌, ◌/◌, ◌%◌, ◌≤◌, ◌<◌, zero-le}
use native.Mathlib.Nat.{le_antisymm, le_of_suc-le-suc, zero-add, add-suc, add_assoc, mul-div-le, div-add-mod}
use native.Mathlib.Numerals.{add-one}
use native.Mathlib.Omega.{arith}
use mathlib.Core.Bool.{true, false, not, false≢true}
use mathlib.Core.List.{List, [], ◌∷◌, ◌++◌}
use mathlib.Core.Path.{◌≡◌, refl, sym, ap, ap₂, ◌∙◌}
use lib.Arith.{digits_div, digits_mod}
use lib.Bits.{bit_or}
use lib.Dec.{ltb, eqb}
use lib.ListN.{length, get_or, take, drop, length-append, length-drop, take-append-drop}
use lib.Seq.{take-suc, drop-drop}
use borrow.Author.Tests.{lt-ltb, le-ltb, ltb-true, ltb-false, eq-eqb, ne_eqb, eqb-true, not-false}
use Rattle.octets.specs.Bytes.{Bytes}
use Rattle.octets.specs.Index.{◌and◌, all_below}
use Rattle.octets.specs.Listed.{first_of}
use Rattle.octets.specs.Part.{part, patch, joined}
use Rattle.octets.specs.BigEndian.{number, big_endian}
use Rattle.octets.proofs.Bytes.{drop_bytes}
use Rattle.octets.proofs.BigEndian.{big_endian_length, number_snoc}
use Rattle.octets.proofs.Choice.{then_true, then_false, or_left, or_right, or_no, or_no_left, or_no_right}
use Rattle.octets.proofs.Index.{and_left, and_right, and_both, and_no, and_yes, all_at, all_intro}
use Rattle.octets.proofs.Listed.{here, past, all_give, refuses, rest_alike, rows_passed, none_first}
use Rattle.octets.proofs.Part.{part_split, part_one, part_again, part_length, part_whole, patch_join}
use Rattle.recording.specs.Shape.{entry_place, item_of, sum_below, count_at, count_width, contents_start, offset_width, length_width, length_limit, longest_body}
use Rattle.recording.specs.Format.{recording_kind, recording_edition, head_width, head_of, entry_body, file_of, longest_file, clock_width, word_at, length_at, entry_width, most_entries, clock_bits, recorded_clock_limit}
use Rattle.recording.specs.Writer.{given_width, given_count, given_clock, given_port, given_word, given_length, given_start, given_entry, given_entries, given_words_wrong, given_clocks_wrong, add_up, file_length, writing_rows, writing_refusal, writing, given_port_at, given_word_at, given_length_at, given_head_at}
use Rattle.recording.specs.Steps.{head_rows, length_rows, start_bytes, copied_item, copied_items}
use Rattle.recording.proofs.Sums.{sum_none, sum_more, sum_bound, sum_within, sum_cong, sum_const, joined_cong, joined_none, joined_more, joined_cut, joined_sum, patch_three}
use Rattle.recording.proofs.Ors.{or_turn}
use Rattle.recording.proofs.ShapeLaws.{part_lt, long_of, place_of, shape_list_of, part_three}

-- ---- the whole entries that are given
module _ (g : List ℕ) where
  pub given_within : (i : ℕ) → i < given_count g → given_width * i + given_width ≤ length g
  unfolding given_count
  given_within i l = omega (arith, mul-div-le (length g) given_width)

  pub given_whole : length g % given_width ≡ 0 → length g ≡ given_width * given_count g
  unfolding given_count
  given_whole e = omega (arith, div-add-mod (length g) given_width)

  pub given_start_more : (i : ℕ) → given_start g i + given_length g i ≡ given_start g (i + 1)
  unfolding given_start
  given_start_more i = sym (sum_more (given_length g) i)

  pub given_start_none : 0 ≡ given_start g 0
  unfolding given_start
  given_start_none = sym (sum_none (given_length g))

  pub given_long : (i : ℕ) → Bytes g → i < given_count g → given_length g i < length_limit
  unfolding given_length
  given_long i b l = part_lt g (given_width * i + given_length_at) length_width b (omega (arith, given_within i l))

  pub given_start_most : (i : ℕ) → Bytes g → i ≤ given_count g → given_start g i ≤ longest_body * i
  unfolding given_start
  given_start_most i b l = sum_bound (given_length g) longest_body i (λ j m. le_of_suc-le-suc (given_long j b (omega arith)))

-- ---- each refusal, in the rows' order
module _ (g bodies : List ℕ) where
  pub entry_cut : (length g % given_width ≡ 0 → ⊥) → add_up g bodies ≡ false
  unfolding add_up
  entry_cut ne = and_no _ (ne_eqb (length g % given_width) 0 ne)

  module _ (e : length g % given_width ≡ 0) where
    pub bodies_differ : (given_start g (given_count g) ≡ length bodies → ⊥) → add_up g bodies ≡ false
    unfolding add_up
    bodies_differ ne =
        and_yes _ (eq-eqb (length g % given_width) 0 e) ∙ ne_eqb (given_start g (given_count g)) (length bodies) ne

    pub add_up_lem : given_start g (given_count g) ≡ length bodies → add_up g bodies ≡ true
    unfolding add_up
    add_up_lem d = and_both (eq-eqb (length g % given_width) 0 e) (eq-eqb (given_start g (given_count g)) (length bodies) d)

module _ (g bodies : List ℕ) (room : ℕ) where
  pub refused_apart : add_up g bodies ≡ false → first_of (length_rows g bodies room) 0 ≡ 20
  refused_apart e = here _ 20 _ 0 (or_left _ (ap not e))

  pub refused_long : longest_file < file_length g bodies → first_of (length_rows g bodies room) 0 ≡ 20
  refused_long l = here _ 20 _ 0 (or_right (not (add_up g bodies)) (lt-ltb longest_file (file_length g bodies) l))

  pub refused_many : most_entries < given_count g → first_of (length_rows g bodies room) 0 ≡ 20
  unfolding file_length
  refused_many l = refused_long (omega arith)

  module _ (a : add_up g bodies ≡ true) (s : file_length g bodies ≤ longest_file) where
    pub refused_room : room < file_length g bodies → first_of (length_rows g bodies room) 0 ≡ 25
    refused_room l = past _ 20 _ 0 (or_no (ap not a) (le-ltb longest_file (file_length g bodies) s)) ∙ here _ 25 _ 0 (lt-ltb room (file_length g bodies) l)

    pub lengths_taken : file_length g bodies ≤ room → first_of (length_rows g bodies room) 0 ≡ 0
    lengths_taken l =
        none_first (length_rows g bodies room) 0
        (or_no (ap not a) (le-ltb longest_file (file_length g bodies) s), (le-ltb room (file_length g bodies) l, tt))

-- rows 23 and 5 decide, or those below them do
module _ (g bodies : List ℕ) (room : ℕ) where
  pub heads_decide : (first_of (head_rows g) 0 ≡ 0 → ⊥) → writing_refusal g bodies room ≡ first_of (head_rows g) 0
  unfolding writing_refusal writing_rows first_of
  heads_decide ne =
      rest_alike (λ n. eqb n 0) (head_rows g) 0 (first_of (length_rows g bodies room) 0) (λ z. absurd (false≢true (sym z))) (ne_eqb (first_of (head_rows g) 0) 0 ne)

  pub lengths_decide : first_of (head_rows g) 0 ≡ 0 → writing_refusal g bodies room ≡ first_of (length_rows g bodies room) 0
  unfolding writing_refusal writing_rows first_of all_give refuses ◌and◌
  lengths_decide z =
      none_first (head_rows g) (first_of (length_rows g bodies room) 0)
      (rows_passed (head_rows g) 0 refl (eq-eqb (first_of (head_rows g) 0) 0 z))

-- ---- the loop over the entries' heads, where it has passed i of them: `words` and `clocks` are the ORs of theirs
pub record HeadsPassed (g : List ℕ) (words clocks i : ℕ) : Type 0 where
  pub within : i ≤ given_count g
  pub small_words : ltb words 2 ≡ all_below (λ j. ltb (given_word g j) 2) i
  pub small_clocks : ltb clocks recorded_clock_limit ≡ all_below (λ j. ltb (given_clock g j) recorded_clock_limit) i

pub heads_none : (g : List ℕ) → HeadsPassed g 0 0 0
unfolding all_below
heads_none g = record { within = zero-le; small_words = refl; small_clocks = refl }

module _ {g : List ℕ} {words clocks i : ℕ} (p : HeadsPassed g words clocks i) where
  pub heads_more : i < given_count g → HeadsPassed g (bit_or words (given_word g i)) (bit_or clocks (given_clock g i)) (i + 1)
  heads_more l =
      record {
        within = omega arith;
        small_words = or_turn 1 (given_word g) i words p.small_words;
        small_clocks = or_turn clock_bits (given_clock g) i clocks p.small_clocks;
      }

  module _ (l : given_count g ≤ i) where
    words_decide : given_words_wrong g ≡ not (ltb words 2)
    unfolding given_words_wrong
    words_decide = ap not (sym (p.small_words ∙ ap (all_below (λ j. ltb (given_word g j) 2)) (le_antisymm p.within l)))

    clocks_decide : given_clocks_wrong g ≡ not (ltb clocks recorded_clock_limit)
    unfolding given_clocks_wrong
    clocks_decide = ap not (sym (p.small_clocks ∙ ap (all_below (λ j. ltb (given_clock g j) recorded_clock_limit)) (le_antisymm p.within l)))

    pub refused_word_lem : 1 < words → first_of (head_rows g) 0 ≡ 23
    refused_word_lem h = here _ 23 _ 0 (words_decide ∙ ap not (le-ltb words 2 h))

    module _ (h : words ≤ 1) where
      words_small : given_words_wrong g ≡ false
      words_small = words_decide ∙ ap not (lt-ltb words 2 (omega arith))

      pub refused_clock : recorded_clock_limit ≤ clocks → first_of (head_rows g) 0 ≡ 5
      refused_clock k = past _ 23 _ 0 words_small ∙ here _ 5 _ 0 (clocks_decide ∙ ap not (le-ltb clocks recorded_clock_limit k))

      pub heads_taken : clocks < recorded_clock_limit → first_of (head_rows g) 0 ≡ 0
      heads_taken k = none_first (head_rows g) 0 (words_small, (clocks_decide ∙ ap not (lt-ltb clocks recorded_clock_limit k), tt))

-- ---- what the writer takes
pub record Writable (g bodies : List ℕ) (room : ℕ) : Type 0 where
  pub words : (i : ℕ) → i < given_count g → given_word g i < 2
  pub clocks : (i : ℕ) → i < given_count g → given_clock g i < recorded_clock_limit
  pub whole : length g % given_width ≡ 0
  pub adds : given_start g (given_count g) ≡ length bodies
  pub short : file_length g bodies ≤ longest_file
  pub roomy : file_length g bodies ≤ room

module _ (g bodies : List ℕ) (room : ℕ) where
  rows_refuse : all_give refuses (writing_rows g bodies room) ≡ true
  unfolding writing_rows all_give refuses ◌and◌
  rows_refuse = refl

  pub writable : writing_refusal g bodies room ≡ 0 → Writable g bodies room
  unfolding writing_refusal writing_rows given_words_wrong given_clocks_wrong add_up
  writable e =
      let (v, (c, (a, (r, _)))) = rows_passed (writing_rows g bodies room) 0 rows_refuse (eq-eqb (writing_refusal g bodies room) 0 e) in
      let up = not-false _ (or_no_left _ _ a) in
      record {
        words = λ i l. ltb-true (given_word g i) 2 (all_at (λ j. ltb (given_word g j) 2) (given_count g) i (not-false _ v) l);
        clocks = λ i l. ltb-true (given_clock g i) recorded_clock_limit (all_at (λ j. ltb (given_clock g j) recorded_clock_limit) (given_count g) i (not-false _ c) l);
        whole = eqb-true _ 0 (and_left _ _ up);
        adds = eqb-true _ _ (and_right _ _ up);
        short = ltb-false longest_file (file_length g bodies) (or_no_right _ _ a);
        roomy = ltb-false room (file_length g bodies) r;
      }

  pub writes : Writable g bodies room → writing_refusal g bodies room ≡ 0
  unfolding given_words_wrong given_clocks_wrong
  writes w =
      let words = ap not (all_intro (λ i. ltb (given_word g i) 2) (given_count g) (λ i l. lt-ltb (given_word g i) 2 (w.words i l))) in
      let clocks = ap not (all_intro (λ i. ltb (given_clock g i) recorded_clock_limit) (given_count g)
      (λ i l. lt-ltb (given_clock g i) recorded_clock_limit (w.clocks i l))) in
      lengths_decide g bodies room (past _ 23 _ 0 words ∙ past _ 5 [] 0 clocks ∙ none_first [] 0 tt)
      ∙ lengths_taken g bodies room (add_up_lem g bodies w.whole w.adds) w.short w.roomy

pub written_few : {g bodies : List ℕ} {room : ℕ} → Writable g bodies room → given_count g ≤ most_entries
unfolding file_length
written_few w = omega (arith, w.short)

-- ---- `writing`, by its refusal
module _ (g bodies room : List ℕ) where
  pub writing_done : writing_refusal g bodies (length room) ≡ 0
      → writing g bodies room ≡ record { answer = record { refusal = 0; length = file_length g bodies }; room = patch room 0 (file_of (given_entries g bodies)) }
  unfolding writing
  writing_done e = then_true _ _ (eq-eqb (writing_refusal g bodies (length room)) 0 e)

  pub writing_refused : (writing_refusal g bodies (length room) ≡ 0 → ⊥)
      → writing g bodies room ≡ record { answer = record { refusal = writing_refusal g bodies (length room); length = 0 }; room = room }
  unfolding writing
  writing_refused ne = then_false _ _ (ne_eqb (writing_refusal g bodies (length room)) 0 ne)

-- ---- what the code copies is what the file has
-- the low n bytes of a number in more bytes
low_again : (t : List ℕ) (k n : ℕ) → Bytes t → k + n ≤ length t → big_endian n (number (take (k + n) t)) ≡ part t k n
unfolding big_endian part
low_again t k zero b h = refl
low_again t k (suc n) b h =
    let d : ℕ = get_or t (k + n) 0 in
    let l : k + n < length t = omega (arith, add-suc k n) in
    let e : number (take (k + suc n) t) ≡ number (take (k + n) t) * 256 + d =
    ap (λ (j : ℕ). number (take j t)) (add-suc k n) ∙ ap number (take-suc t (k + n) 0 l) ∙ number_snoc (take (k + n) t) d in
    ap₂ (λ (q r : ℕ). big_endian n q ++ (r ∷ []))
    (ap (λ (j : ℕ). j / 256) e ∙ digits_div (number (take (k + n) t)) (b (k + n)))
    (ap (λ (j : ℕ). j % 256) e ∙ digits_mod (number (take (k + n) t)) (b (k + n)))
    ∙ ap₂ (λ (p q : List ℕ). p ++ q) (low_again t k n b (omega arith)) (sym (part_one t (k + n) l))
    ∙ sym (part_split t k n 1)
    ∙ ap (part t k) (add-one n)

module _ (g bodies : List ℕ) (b : Bytes g) where
  low_clock : (i : ℕ) → i < given_count g → big_endian clock_width (given_clock g i) ≡ part g (given_width * i + given_head_at) clock_width
  unfolding given_clock part
  low_clock i l =
      low_again (drop (given_width * i) g) given_head_at clock_width (drop_bytes (given_width * i) g b) (rw length-drop (omega (arith, given_within g i l)))
      ∙ ap (λ (r : List ℕ). take clock_width r) (drop-drop given_head_at (given_width * i) g)

  pub head_given : (i : ℕ) → i < given_count g → head_of (given_entry g bodies i) ≡ part g (given_width * i + given_head_at) head_width
  unfolding head_of given_entry given_port given_word
  head_given i l =
      let at : ℕ = given_width * i in
      ap₂ (λ (p q : List ℕ). p ++ q) (low_clock i l)
      (ap₂ (λ (p q : List ℕ). p ++ q)
      (sym (part_one g (at + given_port_at) (omega (arith, given_within g i l)))) (sym (part_one g (at + given_word_at) (omega (arith, given_within g i l)))))
      ∙ ap₂ (λ (j k : ℕ). part g (at + given_head_at) clock_width ++ (part g j 1 ++ part g k 1)) (sym (add_assoc at given_head_at clock_width))
      (sym (add_assoc (at + given_head_at) clock_width 1 ∙ add_assoc at given_head_at word_at))
      ∙ part_three g (at + given_head_at) clock_width 1 1

  module _ (adds : given_start g (given_count g) ≡ length bodies) where
    pub body_given : (i : ℕ) → i < given_count g → long_of entry_body (given_entry g bodies) i ≡ given_length g i
    unfolding given_entry given_start
    body_given i l =
        part_length bodies (given_start g i) (given_length g i) (omega (arith, sum_within (given_length g) (given_count g) i l))

    pub sum_given : (i : ℕ) → i ≤ given_count g → sum_below (long_of entry_body (given_entry g bodies)) i ≡ given_start g i
    unfolding given_start
    sum_given i l = sum_cong (long_of entry_body (given_entry g bodies)) (given_length g) i (λ j m. body_given j (omega arith))

    pub bodies_given : joined entry_body (given_entries g bodies) ≡ bodies
    unfolding given_entries given_entry given_start
    bodies_given =
        joined_cut entry_body (given_entry g bodies) bodies 0 (given_length g) (given_count g)
        (λ i l. ap (λ (k : ℕ). part bodies k (given_length g i)) (sym (zero-add (sum_below (given_length g) i))))
        ∙ part_whole bodies (sum_below (given_length g) (given_count g)) (sym adds)

    item_given : (at i : ℕ) → i < given_count g
        → copied_item g (at + given_start g i) i ≡ item_of head_of entry_body (place_of entry_body (given_entry g bodies) at i)
    unfolding copied_item item_of given_length
    item_given at i l =
        let long : part g (given_width * i + given_length_at) length_width ≡ big_endian length_width (long_of entry_body (given_entry g bodies) i) =
        sym (part_again g (given_width * i + given_length_at) length_width b (omega (arith, given_within g i l)))
        ∙ ap (big_endian length_width) (sym (body_given i l)) in
        ap₂ (λ (p q : List ℕ). p ++ (big_endian offset_width (at + given_start g i) ++ q)) (sym (head_given i l)) long
        ∙ ap (λ (k : ℕ). head_of (given_entry g bodies i) ++ (big_endian offset_width (at + k) ++ big_endian length_width (long_of entry_body (given_entry g bodies) i)))
        (sym (sum_given i (omega arith)))

    -- count, items and bodies are the file
    file_given : start_bytes (given_count g) ++ (copied_items g (entry_place head_width (given_count g)) (given_count g) ++ bodies) ≡ file_of (given_entries g bodies)
    unfolding file_of given_entries copied_items
    file_given =
        let n : ℕ = given_count g in
        let at : ℕ = entry_place head_width n in
        let items = joined_cong (λ i. copied_item g (at + given_start g i) i) (λ i. i) (item_of head_of entry_body) (place_of entry_body (given_entry g bodies) at) n in
        ap₂ (λ (p q : List ℕ). start_bytes n ++ (p ++ q)) (items (item_given at)) (sym bodies_given)
        ∙ sym (shape_list_of recording_kind recording_edition head_width head_of entry_body (given_entry g bodies) n)

-- ---- the code's writes, one after the other, are one
-- what `&g[from + a..from + e]` holds
pub given_range : (g : List ℕ) (from a n : ℕ) → take (from + (a + n) - (from + a)) (drop (from + a) g) ≡ part g (from + a) n
unfolding part
given_range g from a n =
    let long : from + (a + n) - (from + a) ≡ n = omega arith in
    ap (λ (k : ℕ). take k (drop (from + a) g)) long

pub start_written : (room : List ℕ) (n : ℕ) → contents_start ≤ length room
    → patch (patch (patch room 0 (recording_kind ∷ [])) 1 (recording_edition ∷ [])) count_at (big_endian count_width n) ≡ patch room 0 (start_bytes n)
start_written room n l =
    patch_three room 0 1 count_at (recording_kind ∷ []) (recording_edition ∷ []) (big_endian count_width n) refl refl (omega (arith, big_endian_length count_width n))

pub entry_written : (g room : List ℕ) (at offset i : ℕ) → i < given_count g → at + entry_width ≤ length room
    → patch (patch (patch room at (part g (given_width * i + given_head_at) head_width)) (at + head_width) (big_endian offset_width offset)) (at + length_at)
    (part g (given_width * i + given_length_at) length_width)
    ≡ patch room at (copied_item g offset i)
unfolding copied_item
entry_written g room at offset i l h =
    let inside = given_within g i l in
    let head = part_length g (given_width * i + given_head_at) head_width (omega arith) in
    let long = part_length g (given_width * i + given_length_at) length_width (omega arith) in
    patch_three room at (at + head_width) (at + length_at) (part g (given_width * i + given_head_at) head_width) (big_endian offset_width offset)
    (part g (given_width * i + given_length_at) length_width)
    (omega arith) (omega (arith, big_endian_length offset_width offset)) (omega arith)

module _ (g : List ℕ) (at : ℕ) where
  copied_length : (offset i : ℕ) → i < given_count g → length (copied_item g offset i) ≡ entry_width
  unfolding copied_item
  copied_length offset i l =
      let inside = given_within g i l in
      let head = part_length g (given_width * i + given_head_at) head_width (omega arith) in
      let long = part_length g (given_width * i + given_length_at) length_width (omega arith) in
      simp (length-append, big_endian_length) (omega arith)

  items_length : (n : ℕ) → n ≤ given_count g → length (copied_items g at n) ≡ entry_width * n
  unfolding copied_items
  items_length n l =
      joined_sum (λ i. copied_item g (at + given_start g i) i) (λ i. i) n
      ∙ sum_cong (λ i. length (copied_item g (at + given_start g i) i)) (λ i. entry_width) n (λ i m. copied_length (at + given_start g i) i (omega arith))
      ∙ sum_const entry_width n

  pub items_none : (room : List ℕ) → room ≡ patch room contents_start (copied_items g at 0)
  unfolding copied_items patch
  items_none room =
      sym (take-append-drop contents_start room)
      ∙ ap (λ (r : List ℕ). take contents_start room ++ (r ++ drop (contents_start + length r) room))
      (sym (joined_none (λ i. copied_item g (at + given_start g i) i) (λ i. i)))

  pub items_more : (room : List ℕ) (i : ℕ) → i < given_count g → entry_place head_width (i + 1) ≤ length room
      → patch (patch room contents_start (copied_items g at i)) (entry_place head_width i) (copied_item g (at + given_start g i) i)
      ≡ patch room contents_start (copied_items g at (i + 1))
  unfolding copied_items
  items_more room i l m =
      patch_join room contents_start (entry_place head_width i) (copied_items g at i) (copied_item g (at + given_start g i) i)
      (omega (arith, items_length i (omega arith))) (omega (arith, copied_length (at + given_start g i) i l))
      ∙ ap (patch room contents_start) (sym (joined_more (λ j. copied_item g (at + given_start g j) j) (λ j. j) i) ∙ ap (copied_items g at) (sym (add-one i)))

module _ (g bodies room : List ℕ) (b : Bytes g) (w : Writable g bodies (length room)) where
  -- start, contents and bodies
  pub file_written : (n at : ℕ) → n ≡ given_count g → at ≡ entry_place head_width n
      → patch (patch (patch room 0 (start_bytes n)) contents_start (copied_items g at n)) at bodies ≡ patch room 0 (file_of (given_entries g bodies))
  unfolding file_length
  file_written n at en ea =
      patch_three room 0 contents_start at (start_bytes n) (copied_items g at n) bodies
      (omega (arith, big_endian_length count_width n)) (omega (arith, items_length g at n (omega arith))) (omega (arith, w.roomy))
      ∙ ap (patch room 0)
      (ap₂ (λ (k j : ℕ). start_bytes k ++ (copied_items g j k ++ bodies)) en (ea ∙ ap (entry_place head_width) en) ∙ file_given g bodies b w.adds)
