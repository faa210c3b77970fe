-- Entries as the writer is given them.
use Prim.Native.Nat.{ℕ, ◌+◌, ◌*◌, ◌/◌, ◌%◌, ◌≤◌, ◌<◌}
use native.Mathlib.Nat.{zero-add, add-zero, add_assoc, le_refl, mul-div_cancel_left, mul-mod_right}
use native.Mathlib.Omega.{arith}
use mathlib.Core.List.{List, [], ◌∷◌, ◌++◌, append_assoc}
use mathlib.Core.Path.{◌≡◌, refl, sym, ap, ap₂, subst, ◌∙◌}
use lib.Dec.{lit<, lit≤}
use lib.ListN.{length, get_or, length-append}
use Rattle.octets.specs.Bytes.{Bytes}
use Rattle.octets.specs.Index.{list_of}
use Rattle.octets.specs.Part.{part, joined}
use Rattle.octets.specs.BigEndian.{number, big_endian}
use Rattle.octets.proofs.Bytes.{part_bytes}
use Rattle.octets.proofs.BigEndian.{big_endian_length, number_big_endian}
use Rattle.octets.proofs.ListOf.{list_of_length, list_of_at, list_of_cong}
use Rattle.octets.proofs.Joined.{joined_length}
use Rattle.octets.proofs.Part.{part_part, part_mid, part_at, part_whole, part_one, part_again, part_split}
use Rattle.recording.specs.Shape.{entry_place, sum_below, length_width, length_limit}
use Rattle.recording.specs.Format.{Entry, head_width, entry_body, file_of, RecordableEntry, no_entry, Recordable, longest_file, recorded_clock_limit}
use Rattle.recording.specs.Writer.{given_width, given_count, given_clock, given_port, given_word, given_length, given_start, given_entry, given_entries, given_item, given_of, bodies_of, file_length, given_clock_width, given_port_at, given_word_at, given_length_at}
use Rattle.recording.proofs.Sums.{sum_cong, joined_items, joined_sum, joined_found, joined_item, part_last}
use Rattle.recording.proofs.ShapeLaws.{long_of, part_three}
use Rattle.recording.proofs.WriteLaws.{given_within, given_whole, Writable, body_given, sum_given}
use Rattle.recording.proofs.Made.{made_length, small}

-- ---- the entries as the writer is given them
given_wide : (e : Entry) → length (given_item e) ≡ given_width
unfolding given_item
given_wide e = simp (length-append, big_endian_length)

-- given and taken apart again
module _ (x : ℕ → Entry) (n : ℕ) where
  abbrev given : List ℕ
  given = given_of (list_of x n)

  given_length_lem : length given ≡ given_width * n
  unfolding given_of
  given_length_lem = joined_length given_item given_width given_wide (list_of x n) ∙ ap (λ (k : ℕ). given_width * k) (list_of_length x n)

  given_count_lem : given_count given ≡ n
  unfolding given_count
  given_count_lem = ap (λ (k : ℕ). k / given_width) given_length_lem ∙ mul-div_cancel_left n (lit< tt)

  given_item_lem : (i : ℕ) → i < n → part given (given_width * i) given_width ≡ given_item (x i)
  unfolding given_of
  given_item_lem i l = joined_item given_item x given_width n i (λ j. given_wide (x j)) l

  given_part : (i k m : ℕ) → i < n → k + m ≤ given_width → part given (given_width * i + k) m ≡ part (given_item (x i)) k m
  given_part i k m l h =
      sym (part_part given (given_width * i) given_width k m h) ∙ ap (λ (r : List ℕ). part r k m) (given_item_lem i l)

  given_byte : (i k : ℕ) → i < n → k < given_width → get_or given (given_width * i + k) 0 ≡ get_or (given_item (x i)) k 0
  given_byte i k l m =
      sym (part_at given (given_width * i) given_width k m) ∙ ap (λ (r : List ℕ). get_or r k 0) (given_item_lem i l)

  clock_back : (i : ℕ) → i < n → (x i).clock < recorded_clock_limit → given_clock given i ≡ (x i).clock
  unfolding given_clock given_item
  clock_back i l small =
      ap number
      (ap (λ (k : ℕ). part given k given_clock_width) (sym (add-zero (given_width * i)))
      ∙ given_part i 0 given_clock_width l (lit≤ tt)
      ∙ part_mid [] (big_endian given_clock_width (x i).clock) ((x i).port ∷ (x i).word ∷ big_endian length_width (length (x i).body)) 0 given_clock_width
      refl (big_endian_length given_clock_width (x i).clock))
      ∙ number_big_endian given_clock_width (x i).clock (omega (arith, small))

  port_back : (i : ℕ) → i < n → given_port given i ≡ (x i).port
  unfolding given_port given_item big_endian
  port_back i l = given_byte i given_port_at l (lit< tt)

  word_back : (i : ℕ) → i < n → given_word given i ≡ (x i).word
  unfolding given_word given_item big_endian
  word_back i l = given_byte i given_word_at l (lit< tt)

  length_back : (i : ℕ) → i < n → long_of entry_body x i < length_limit → given_length given i ≡ long_of entry_body x i
  unfolding given_length given_item
  length_back i l small =
      ap number
      (given_part i given_length_at length_width l (lit≤ tt)
      ∙ ap (λ (r : List ℕ). part r given_length_at length_width)
      (sym (append_assoc (big_endian given_clock_width (x i).clock) ((x i).port ∷ (x i).word ∷ []) (big_endian length_width (long_of entry_body x i))))
      ∙ part_last (big_endian given_clock_width (x i).clock ++ ((x i).port ∷ (x i).word ∷ [])) (big_endian length_width (long_of entry_body x i))
      given_length_at length_width (simp (length-append, big_endian_length)) (big_endian_length length_width (long_of entry_body x i)))
      ∙ number_big_endian length_width (long_of entry_body x i) small

  module _ (each : (i : ℕ) → i < n → RecordableEntry (x i)) (short : length (file_of (list_of x n)) ≤ longest_file) where
    start_back : (i : ℕ) → i ≤ n → given_start given i ≡ sum_below (long_of entry_body x) i
    unfolding given_start
    start_back i l = sum_cong (given_length given) (long_of entry_body x) i (λ j m. length_back j (omega arith) (small x n each short j (omega arith)))

    entry_back : (i : ℕ) → i < n → given_entry given (bodies_of (list_of x n)) i ≡ x i
    unfolding given_entry bodies_of
    entry_back i l =
        let body : part (joined entry_body (list_of x n)) (given_start given i) (given_length given i) ≡ (x i).body =
        ap₂ (part (joined entry_body (list_of x n))) (start_back i (omega arith)) (length_back i l (small x n each short i l)) ∙ joined_found entry_body x n i l in
        rw (clock_back i l (each i l).clock, port_back i l, word_back i l, body)

    pub entries_back : given_entries given (bodies_of (list_of x n)) ≡ list_of x n
    unfolding given_entries
    entries_back = ap (list_of (given_entry given (bodies_of (list_of x n)))) given_count_lem ∙ list_of_cong (given_entry given (bodies_of (list_of x n))) x n entry_back

    pub given_file_length : file_length given (bodies_of (list_of x n)) ≡ length (file_of (list_of x n))
    unfolding file_length bodies_of
    given_file_length = ap₂ (λ (p q : ℕ). entry_place head_width p + q) given_count_lem (joined_sum entry_body x n) ∙ sym (made_length x n)

    pub given_writable : (room : ℕ) → length (file_of (list_of x n)) ≤ room → Writable given (bodies_of (list_of x n)) room
    unfolding bodies_of
    given_writable room l =
        let below : (i : ℕ) → i < given_count given → i < n = λ i m. subst (λ (k : ℕ). i < k) given_count_lem m in
        record {
          words = λ i m. subst (λ (k : ℕ). k < 2) (sym (word_back i (below i m))) (each i (below i m)).word;
          clocks = λ i m. subst (λ (k : ℕ). k < recorded_clock_limit) (sym (clock_back i (below i m) (each i (below i m)).clock)) (each i (below i m)).clock;
          whole = ap (λ (k : ℕ). k % given_width) given_length_lem ∙ mul-mod_right given_width n;
          adds = ap (given_start given) given_count_lem ∙ start_back n (le_refl n) ∙ sym (joined_sum entry_body x n);
          short = subst (λ (k : ℕ). k ≤ longest_file) (sym given_file_length) short;
          roomy = subst (λ (k : ℕ). k ≤ room) (sym given_file_length) l;
        }

-- ---- what the writer takes
module _ (g bodies : List ℕ) (room : ℕ) (bg : Bytes g) (bb : Bytes bodies) (w : Writable g bodies room) where
  pub file_length_lem : length (file_of (given_entries g bodies)) ≡ file_length g bodies
  unfolding given_entries file_length
  file_length_lem =
      made_length (given_entry g bodies) (given_count g)
      ∙ ap (λ (k : ℕ). entry_place head_width (given_count g) + k) (sum_given g bodies bg w.adds (given_count g) (le_refl (given_count g)) ∙ w.adds)

  entry_recordable : (i : ℕ) → i < given_count g → RecordableEntry (given_entry g bodies i)
  unfolding given_entry given_port
  entry_recordable i l =
      record {
        clock = w.clocks i l;
        port = bg (given_width * i + given_port_at);
        word = w.words i l;
        body = part_bytes bodies (given_start g i) (given_length g i) bb;
      }

  pub given_recordable : Recordable (given_entries g bodies)
  unfolding given_entries
  given_recordable =
      record {
        each = λ i l.
            let m : i < given_count g = subst (λ (k : ℕ). i < k) (list_of_length (given_entry g bodies) (given_count g)) l in
            subst RecordableEntry (sym (list_of_at (given_entry g bodies) (given_count g) i no_entry m)) (entry_recordable i m);
        short = subst (λ (k : ℕ). k ≤ longest_file) (sym file_length_lem) w.short;
      }

  item_again : (i : ℕ) → i < given_count g → given_item (given_entry g bodies i) ≡ part g (0 + given_width * i) given_width
  unfolding given_item given_entry given_clock given_port given_word given_length
  item_again i l =
      let a : ℕ = given_width * i in
      let inside : a + given_width ≤ length g = given_within g i l in
      let long : big_endian length_width (long_of entry_body (given_entry g bodies) i) ≡ part g (a + given_length_at) length_width =
      ap (big_endian length_width) (body_given g bodies bg w.adds i l) ∙ part_again g (a + given_length_at) length_width bg (omega arith) in
      ap₂ (λ (p q : List ℕ). p ++ (given_port g i ∷ given_word g i ∷ q)) (part_again g a given_clock_width bg (omega arith)) long
      ∙ ap₂ (λ (p q : List ℕ). part g a given_clock_width ++ (p ++ (q ++ part g (a + given_length_at) length_width)))
      (sym (part_one g (a + given_port_at) (omega arith))) (sym (part_one g (a + given_word_at) (omega arith)))
      ∙ ap₂ (λ (j k : ℕ). part g a given_clock_width ++ (part g (a + given_port_at) 1 ++ (part g j 1 ++ part g k length_width)))
      (sym (add_assoc a given_clock_width 1)) (sym (add_assoc (a + given_port_at) 1 1 ∙ add_assoc a given_port_at (1 + 1)))
      ∙ ap (λ (r : List ℕ). part g a given_clock_width ++ r) (part_three g (a + given_port_at) 1 1 length_width)
      ∙ sym (part_split g a given_clock_width (1 + 1 + length_width))
      ∙ ap (λ (k : ℕ). part g k given_width) (sym (zero-add a))

  pub given_again : given_of (given_entries g bodies) ≡ g
  unfolding given_of given_entries
  given_again =
      joined_items given_item (given_entry g bodies) g 0 given_width (given_count g) item_again
      ∙ part_whole g (given_width * given_count g) (given_whole g w.whole)
