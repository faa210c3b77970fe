-- The file of entries, read; and a file, read and made again.
use Prim.Native.Nat.{ℕ, ◌+◌, ◌≤◌, ◌<◌}
use native.Mathlib.Nat.{add-zero}
use native.Mathlib.Omega.{arith}
use mathlib.Core.Bool.{true}
use mathlib.Core.List.{List, [], ◌∷◌}
use mathlib.Core.Path.{◌≡◌, refl, sym, ap, ap₂, subst, ◌∙◌}
use lib.Dec.{lit<}
use lib.ListN.{length, get_or, length-append}
use Rattle.octets.specs.Bytes.{Bytes}
use Rattle.octets.specs.Index.{list_of}
use Rattle.octets.specs.Part.{part}
use Rattle.octets.specs.BigEndian.{number, big_endian}
use Rattle.octets.proofs.Bytes.{part_bytes, nil_bytes, cons_bytes, append_bytes, big_endian_bytes}
use Rattle.octets.proofs.BigEndian.{big_endian_length, number_big_endian}
use Rattle.octets.proofs.ListOf.{list_of_cong}
use Rattle.octets.proofs.Part.{part_part, part_mid, part_at}
use Rattle.recording.specs.Shape.{entry_place, shape_of, count_of, offset_of, length_of, sum_below, count_limit, offset_limit, length_limit}
use Rattle.recording.specs.Format.{Entry, head_width, head_of, entry_body, file_of, RecordableEntry, Recordable, longest_file, clock_width, port_at, word_at, recorded_clock_limit}
use Rattle.recording.specs.Reader.{clock_of, port_of, word_of, is_there, entry_of, entries_of}
use Rattle.recording.proofs.Sums.{sum_within}
use Rattle.recording.proofs.ShapeLaws.{part_lt, long_of, shape_again, shape_length, shape_head, shape_offset, shape_long, shape_body, shape_kind, shape_edition, shape_count, shape_shaped, shape_bytes}
use Rattle.recording.proofs.ReadLaws.{Taken, taken_there, there_item, entry_there, head_there, entries_length, entries_at}

-- ---- the file of entries, read
head_wide : (e : Entry) → length (head_of e) ≡ head_width
unfolding head_of
head_wide e = simp (length-append, big_endian_length)

module _ (x : ℕ → Entry) (n : ℕ) where
  abbrev made : List ℕ
  made = file_of (list_of x n)

  pub made_length : length made ≡ entry_place head_width n + sum_below (long_of entry_body x) n
  unfolding file_of
  made_length = shape_length 1 1 head_width head_of entry_body head_wide x n

  made_head : (i : ℕ) → i < n → part made (entry_place head_width i) head_width ≡ head_of (x i)
  unfolding file_of
  made_head i l = shape_head 1 1 head_width head_of entry_body head_wide x n i l

  made_byte : (i k : ℕ) → i < n → k < head_width → get_or made (entry_place head_width i + k) 0 ≡ get_or (head_of (x i)) k 0
  made_byte i k l m =
      sym (part_at made (entry_place head_width i) head_width k m) ∙ ap (λ (r : List ℕ). get_or r k 0) (made_head i l)

  made_clock : (i : ℕ) → i < n → (x i).clock < recorded_clock_limit → clock_of made i ≡ (x i).clock
  unfolding clock_of head_of
  made_clock i l small =
      ap number
      (ap (λ (k : ℕ). part made k clock_width) (sym (add-zero (entry_place head_width i)))
      ∙ sym (part_part made (entry_place head_width i) head_width 0 clock_width (omega arith))
      ∙ ap (λ (r : List ℕ). part r 0 clock_width) (made_head i l)
      ∙ part_mid [] (big_endian clock_width (x i).clock) ((x i).port ∷ (x i).word ∷ []) 0 clock_width refl (big_endian_length clock_width (x i).clock))
      ∙ number_big_endian clock_width (x i).clock small

  made_port : (i : ℕ) → i < n → port_of made i ≡ (x i).port
  unfolding port_of head_of big_endian
  made_port i l = made_byte i port_at l (lit< tt)

  made_word : (i : ℕ) → i < n → word_of made i ≡ (x i).word
  unfolding word_of head_of big_endian
  made_word i l = made_byte i word_at l (lit< tt)

  module _ (each : (i : ℕ) → i < n → RecordableEntry (x i)) (short : length made ≤ longest_file) where
    few : n < count_limit
    few = omega (arith, made_length)

    pub small : (i : ℕ) → i < n → long_of entry_body x i < length_limit
    small i l = omega (arith, made_length, sum_within (long_of entry_body x) n i l)

    fits : entry_place head_width n + sum_below (long_of entry_body x) n < offset_limit
    fits = omega (arith, made_length)

    made_count : count_of made ≡ n
    unfolding file_of
    made_count = shape_count 1 1 head_width head_of entry_body head_wide x n few

    pub made_taken : Taken made
    unfolding file_of
    made_taken =
        record {
          short = short;
          shaped = shape_shaped 1 1 head_width head_of entry_body head_wide x n few small fits;
          kind = shape_kind 1 1 head_width head_of entry_body head_wide x n;
          edition = shape_edition 1 1 head_width head_of entry_body head_wide x n;
          words = λ i l.
              let m : i < n = subst (λ (k : ℕ). i < k) made_count l in
              subst (λ (k : ℕ). k < 2) (sym (made_word i m)) (each i m).word;
        }

    made_entry : (i : ℕ) → i < n → entry_of made i ≡ x i
    unfolding file_of
    made_entry i l =
        let there : is_there made i ≡ true = taken_there made made_taken i (subst (λ (k : ℕ). i < k) (sym made_count) l) in
        let body : part made (offset_of head_width made i) (length_of head_width made i) ≡ (x i).body =
        ap₂ (λ (a m : ℕ). part made a m) (shape_offset 1 1 head_width head_of entry_body head_wide x n i l fits)
        (shape_long 1 1 head_width head_of entry_body head_wide x n i l (small i l))
        ∙ shape_body 1 1 head_width head_of entry_body head_wide x n i l in
        entry_there made i there ∙ rw (made_clock i l (each i l).clock, made_port i l, made_word i l, body)

    pub made_entries : entries_of made ≡ list_of x n
    unfolding entries_of
    made_entries = ap (list_of (entry_of made)) made_count ∙ list_of_cong (entry_of made) x n made_entry

    pub made_bytes : Bytes made
    unfolding file_of head_of
    made_bytes =
        shape_bytes 1 1 head_width head_of entry_body head_wide x n (lit< tt) (lit< tt)
        (λ i l.
        append_bytes (big_endian clock_width (x i).clock) ((x i).port ∷ (x i).word ∷ []) (big_endian_bytes clock_width (x i).clock)
        (cons_bytes (x i).port ((x i).word ∷ []) (each i l).port (cons_bytes (x i).word [] (omega (arith, (each i l).word)) nil_bytes)))
        (λ i l. (each i l).body)

-- ---- a file, read and made again
module _ (f : List ℕ) (b : Bytes f) (t : Taken f) where
  read_head : (i : ℕ) → i < count_of f → head_of (entry_of f i) ≡ part f (entry_place head_width i) head_width
  read_head i l = head_there f i (taken_there f t i l) b

  read_body : (i : ℕ) → i < count_of f → (entry_of f i).body ≡ part f (offset_of head_width f i) (length_of head_width f i)
  read_body i l = ap entry_body (entry_there f i (taken_there f t i l))

  pub again : file_of (entries_of f) ≡ f
  unfolding file_of entries_of
  again =
      ap₂ (λ (k d : ℕ). shape_of k d head_width head_of entry_body (list_of (entry_of f) (count_of f))) (sym t.kind) (sym t.edition)
      ∙ shape_again head_width head_of entry_body (entry_of f) f b t.shaped read_head read_body

  pub read_entry : (i : ℕ) → i < count_of f → RecordableEntry (entry_of f i)
  unfolding clock_of port_of
  read_entry i l =
      let there = taken_there f t i l in
      let item = there_item f i there in
      rw (entry_there f i there)
      record {
        clock = part_lt f (entry_place head_width i) clock_width b (omega arith);
        port = b (entry_place head_width i + port_at);
        word = t.words i l;
        body = part_bytes f (offset_of head_width f i) (length_of head_width f i) b;
      }

  pub read_recordable : Recordable (entries_of f)
  read_recordable =
      record {
        each = λ i l.
            let m : i < count_of f = subst (λ (k : ℕ). i < k) (entries_length f) l in
            subst RecordableEntry (sym (entries_at f i m)) (read_entry i m);
        short = subst (λ (g : List ℕ). length g ≤ longest_file) (sym again) t.short;
      }
