-- The file that an edition makes loads, and holds what was saved; a file of the current one that loads is the one that is made of what it holds.
use Prim.Native.Nat.{ℕ, ◌+◌, ◌<◌}
use native.Mathlib.Nat.{le_refl}
use native.Mathlib.Omega.{arith}
use mathlib.Core.Bool.{true, false}
use mathlib.Core.List.{List, ◌∷◌, ◌++◌, append_assoc}
use mathlib.Core.Path.{◌≡◌, refl, sym, ap, ap₂, subst, ◌∙◌}
use lib.Dec.{lit<}
use lib.ListN.{length, length-append}
use Rattle.octets.specs.Bytes.{Bytes}
use Rattle.octets.specs.Index.{list_of}
use Rattle.octets.specs.Part.{part, joined}
use Rattle.octets.specs.BigEndian.{big_endian}
use Rattle.octets.proofs.Bytes.{nil_bytes, part_bytes}
use Rattle.octets.proofs.Part.{part_nil, part_part}
use Rattle.codes.specs.Form.{code}
use Rattle.codes.proofs.Law.{passes_at, back_at}
use Rattle.codes.proofs.Forms.{lawful}
use Rattle.recording.specs.Shape.{entry_place, edition_of, count_of, offset_of, length_of, sum_below, running_place, item_of, shape_of, count_width, length_limit, offset_limit, count_limit}
use Rattle.recording.proofs.Sums.{sum_cong, part_last}
use Rattle.recording.proofs.ShapeLaws.{long_of, place_of, shape_list_of, shape_again, shape_length, shape_long, shape_kind, shape_edition, shape_count, shape_shaped, shape_bytes}
use Rattle.tables.specs.Forms.{today}
use Rattle.tables.specs.Places.{table_size}
use Rattle.editions.specs.Editions.{Held, current_edition, is_known, numbered, edition_at, current, width_at}
use Rattle.saved.specs.File.{saved_kind, body_count, head_width, no_head, whole_body, bodies_at, body_of, file_in, file_of, saved_size}
use Rattle.saved.specs.Load.{length_wrong, held_in}
use Rattle.editions.specs.Steps.{size_in}
use Rattle.editions.proofs.Widths.{widths_in_lem, width_within, size_in_lem, width_small, size_small, now_known}
use Rattle.saved.proofs.SaveLaws.{saved_length, body_length, body_place, bodies_joined}
use Rattle.saved.proofs.LoadLaws.{Taken, taken_whole}

-- what a file of edition n holds
held_by : (n : ℕ) (f : List ℕ) → edition_of f ≡ n → held_in f ≡ (code (edition_at n)).read f bodies_at
unfolding held_in
held_by n f e = ap (λ (k : ℕ). (code (edition_at k)).read f bodies_at) e

-- ---- saved in edition n, then read
module _ (n : ℕ) (held : Held) where
  abbrev body : ℕ → List ℕ
  body = body_of (edition_at n) held

  no_head_lem : (b : List ℕ) → length (no_head b) ≡ head_width
  no_head_lem b = refl

  small : (i : ℕ) → i < body_count → long_of whole_body body i < length_limit
  small i l = subst (λ (k : ℕ). k < length_limit) (sym (body_length n held i l)) (width_small n i l)

  whole_sum : sum_below (long_of whole_body body) body_count ≡ (code (edition_at n)).width
  whole_sum = body_place n held body_count (le_refl body_count) ∙ widths_in_lem (numbered n)

  few : body_count < count_limit
  few = lit< tt

  fits : entry_place head_width body_count + sum_below (long_of whole_body body) body_count < offset_limit
  fits = subst (λ (k : ℕ). bodies_at + k < offset_limit) (sym whole_sum) (size_small n)

  pub file_long : length (file_in n held) ≡ bodies_at + (code (edition_at n)).width
  unfolding file_in
  file_long = shape_length saved_kind n head_width no_head whole_body no_head_lem body body_count ∙ ap (λ (k : ℕ). bodies_at + k) whole_sum

  in_edition : edition_of (file_in n held) ≡ n
  unfolding file_in
  in_edition = shape_edition saved_kind n head_width no_head whole_body no_head_lem body body_count

  -- what stands behind the contents is what is saved
  part_in : part (file_in n held) bodies_at (code (edition_at n)).width ≡ (code (edition_at n)).write held
  unfolding file_in
  part_in =
      let items : List ℕ = joined (item_of no_head whole_body) (list_of (place_of whole_body body bodies_at) body_count) in
      let front : List ℕ = saved_kind ∷ n ∷ (big_endian count_width body_count ++ items) in
      let saved : List ℕ = (code (edition_at n)).write held in
      let whole : file_in n held ≡ front ++ saved =
      shape_list_of saved_kind n head_width no_head whole_body body body_count
      ∙ ap (λ (r : List ℕ). saved_kind ∷ n ∷ (big_endian count_width body_count ++ (items ++ r))) (bodies_joined n held)
      ∙ ap (λ (r : List ℕ). saved_kind ∷ n ∷ r) (sym (append_assoc (big_endian count_width body_count) items saved)) in
      let lengths : length front + length saved ≡ bodies_at + (code (edition_at n)).width = sym (length-append front saved) ∙ ap length (sym whole) ∙ file_long in
      ap (λ (r : List ℕ). part r bodies_at (code (edition_at n)).width) whole
      ∙ part_last front saved bodies_at (code (edition_at n)).width (omega (arith, lengths, saved_length n held)) (saved_length n held)

  module _ (g : (code (edition_at n)).Good held) where
    pub taken_in : is_known n ≡ true → Taken (file_in n held) table_size
    unfolding file_in
    taken_in known =
        record {
          long = file_long ∙ size_in_lem (numbered n) ∙ ap (λ (k : ℕ). size_in (numbered k)) (sym in_edition);
          kind = shape_kind saved_kind n head_width no_head whole_body no_head_lem body body_count;
          known = ap is_known in_edition ∙ known;
          count = shape_count saved_kind n head_width no_head whole_body no_head_lem body body_count few;
          shaped = shape_shaped saved_kind n head_width no_head whole_body no_head_lem body body_count few small fits;
          sizes = λ i l.
              shape_long saved_kind n head_width no_head whole_body no_head_lem body body_count i l (small i l)
              ∙ body_length n held i l
              ∙ ap (λ (k : ℕ). width_at (edition_at k) i) (sym in_edition);
          fine =
              ap (λ (k : ℕ). (code (edition_at k)).fine (file_in n held) bodies_at) in_edition
              ∙ passes_at (lawful (edition_at n)) (file_in n held) bodies_at held part_in g;
          room = refl;
        }

    pub held_in_lem : held_in (file_in n held) ≡ held
    held_in_lem = held_by n (file_in n held) in_edition ∙ back_at (lawful (edition_at n)) (file_in n held) bodies_at held part_in g

    pub bytes_in : n < 256 → Bytes (file_in n held)
    unfolding file_in body_of
    bytes_in l =
        shape_bytes saved_kind n head_width no_head whole_body no_head_lem body body_count (lit< tt) l
        (λ i m. nil_bytes)
        (λ i m.
        part_bytes ((code (edition_at n)).write held) (sum_below (width_at (edition_at n)) i) (width_at (edition_at n) i) ((lawful (edition_at n)).bytes held g))

-- ---- the file that a save writes
module _ (held : Held) where
  pub file_length_lem : length (file_of held) ≡ saved_size
  unfolding file_of
  file_length_lem = file_long current_edition held

  pub made_edition : edition_of (file_of held) ≡ current_edition
  unfolding file_of
  made_edition = in_edition current_edition held

  module _ (g : (code current).Good held) where
    pub made_taken : Taken (file_of held) table_size
    unfolding file_of
    made_taken = taken_in current_edition held g now_known

    pub made_whole : length_wrong (file_of held) ≡ false
    made_whole = taken_whole (file_of held) table_size made_taken

    pub made_held : held_in (file_of held) ≡ held
    unfolding file_of
    made_held = held_in_lem current_edition held g

    pub made_bytes : Bytes (file_of held)
    unfolding file_of
    made_bytes = bytes_in current_edition held g (lit< tt)

-- ---- read, then saved, in the current edition
module _ (f : List ℕ) (size : ℕ) (b : Bytes f) (t : Taken f size) (now : edition_of f ≡ current_edition) where
  pub long_now : length f ≡ saved_size
  long_now = t.long ∙ ap (λ (n : ℕ). size_in (numbered n)) now

  fine_now : (code current).fine f bodies_at ≡ true
  fine_now = ap (λ (n : ℕ). (code (edition_at n)).fine f bodies_at) (sym now) ∙ t.fine

  sizes_now : (i : ℕ) → i < body_count → length_of head_width f i ≡ width_at current i
  sizes_now i l = t.sizes i l ∙ ap (λ (n : ℕ). width_at (edition_at n) i) now

  write_again : (code current).write (held_in f) ≡ part f bodies_at (code current).width
  write_again = ap (code current).write (held_by current_edition f now) ∙ (lawful current).again f bodies_at b (omega (arith, long_now)) fine_now

  place_again : (i : ℕ) → i < body_count → bodies_at + sum_below (width_at current) i ≡ offset_of head_width f i
  unfolding running_place
  place_again i l =
      sym
      (t.shaped.offsets i (omega (arith, t.count, l))
      ∙ ap₂ (λ (p q : ℕ). entry_place head_width p + q) t.count
      (sum_cong (length_of head_width f) (width_at current) i (λ j m. sizes_now j (omega arith))))

  body_again : (i : ℕ) → i < body_count → body_of current (held_in f) i ≡ part f (offset_of head_width f i) (length_of head_width f i)
  unfolding body_of
  body_again i l =
      ap (λ (r : List ℕ). part r (sum_below (width_at current) i) (width_at current i)) write_again
      ∙ part_part f bodies_at (code current).width (sum_below (width_at current) i) (width_at current i) (width_within today i l)
      ∙ ap₂ (part f) (place_again i l) (sym (sizes_now i l))

  pub file_again : file_of (held_in f) ≡ f
  unfolding file_of file_in
  file_again =
      let made : ℕ → ℕ → ℕ → List ℕ = λ k e n. shape_of k e head_width no_head whole_body (list_of (body_of current (held_in f)) n) in
      ap (made saved_kind current_edition) (sym t.count)
      ∙ ap₂ (λ (k e : ℕ). made k e (count_of f)) (sym t.kind) (sym now)
      ∙ shape_again head_width no_head whole_body (body_of current (held_in f)) f b t.shaped
      (λ i l. sym (part_nil f (entry_place head_width i))) (λ i l. body_again i (omega (arith, t.count, l)))
