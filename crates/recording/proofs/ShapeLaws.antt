-- Files in the shape, for every kind, edition, width of a head, and kind of entry: what is read and put together again is the file (`shape_again`),
-- and what is put together reads as it was (`Back`).
use Prim.Native.Nat.{ℕ, zero, suc, ◌+◌, ◌*◌, ◌^◌, ◌≤◌, ◌<◌}
use native.Mathlib.Nat.{le_refl, add-zero, add_assoc, mul-suc, mul-le-mul_left}
use native.Mathlib.Omega.{arith}
use mathlib.Core.Bool.{Bool, true, false}
use mathlib.Core.List.{List, [], ◌∷◌, ◌++◌, append_assoc}
use mathlib.Core.Path.{◌≡◌, refl, sym, ap, ap₂, subst, ◌∙◌}
use lib.Dec.{ltb, lit<}
use lib.ListN.{length, length-append}
use borrow.Author.Tests.{le-ltb, ltb-false}
use Rattle.octets.specs.Bytes.{Bytes}
use Rattle.octets.specs.Index.{list_of}
use Rattle.octets.specs.Choice.{◌then◌otherwise◌}
use Rattle.octets.specs.Part.{part, joined}
use Rattle.octets.specs.BigEndian.{number, big_endian}
use Rattle.octets.proofs.Bytes.{part_bytes, cons_bytes, append_bytes, big_endian_bytes}
use Rattle.octets.proofs.BigEndian.{big_endian_length, number_big_endian, number_lt}
use Rattle.octets.proofs.Choice.{then_false}
use Rattle.octets.proofs.Joined.{part_joined, joined_length}
use Rattle.octets.proofs.ListOf.{list_of_length, list_of_at}
use Rattle.octets.proofs.Part.{part_length, part_split, part_part, part_mid, part_one, part_again, part_whole}
use Rattle.recording.specs.Shape.{entry_place, Placed, placed, item_of, contents_of, shape_of, kind_of, edition_of, count_of, offset_of, length_of, sum_below, running_place, count_at, count_width, contents_start, offset_width, length_width, item_width, count_limit, offset_limit, length_limit}
use Rattle.recording.proofs.Sums.{sum_within, sum_cong, joined_cut, joined_items, joined_sum, joined_each_bytes, joined_found, part_last, part_back}

-- ---- what the file says of itself
module _ (f : List ℕ) (long : contents_start ≤ length f) where
  pub count_read : count_of f ≡ number (part f count_at count_width)
  unfolding count_of
  count_read = then_false 0 (number (part f count_at count_width)) (le-ltb (length f) contents_start long)

-- what stands in so many bytes is so small
pub part_lt : (f : List ℕ) (a n : ℕ) → Bytes f → a + n ≤ length f → number (part f a n) < 256 ^ n
part_lt f a n b l = number_lt (part f a n) n (part_bytes f a n b) (part_length f a n l)

pub count_lt : (f : List ℕ) → Bytes f → count_of f < count_limit
unfolding count_of ◌then◌otherwise◌
count_lt f b = go (ltb (length f) contents_start) refl
  where
    go : (t : Bool) → ltb (length f) contents_start ≡ t → (t then 0 otherwise number (part f count_at count_width)) < count_limit
    go true e = lit< tt
    go false e = part_lt f count_at count_width b (omega (arith, ltb-false (length f) contents_start e))

module _ (w : ℕ) (f : List ℕ) (i : ℕ) (b : Bytes f) (l : entry_place w i + item_width w ≤ length f) where
  pub offset_lt : offset_of w f i < offset_limit
  unfolding offset_of
  offset_lt = part_lt f (entry_place w i + w) offset_width b (omega arith)

  pub length_lt : length_of w f i < length_limit
  unfolding length_of
  length_lt = part_lt f (entry_place w i + w + offset_width) length_width b (omega arith)

-- a file in the shape: it has its contents, and each body stands at the running place, the last up to the end
pub record Shaped (w : ℕ) (f : List ℕ) : Type 0 where
  pub start : contents_start ≤ length f
  pub whole : entry_place w (count_of f) ≤ length f
  pub offsets : (i : ℕ) → i < count_of f → offset_of w f i ≡ running_place w f i
  pub ends : running_place w f (count_of f) ≡ length f

-- entry i of n stands before the n's end
pub item_within : (w i n : ℕ) → i < n → entry_place w i + item_width w ≤ entry_place w n
item_within w i n l = omega (arith, mul-suc (item_width w) i, mul-le-mul_left (item_width w) l)

-- each body lies within the file
pub body_within : (w : ℕ) (f : List ℕ) → Shaped w f → (i : ℕ) → i < count_of f → offset_of w f i + length_of w f i ≤ length f
unfolding running_place
body_within w f s i l = omega (arith, s.offsets i l, s.ends, sum_within (length_of w f) (count_of f) i l)

-- ---- the offsets of the bodies
abbrev pub long_of : {A : Type 0} → (A → List ℕ) → (ℕ → A) → ℕ → ℕ
long_of body x i = length (body (x i))

abbrev pub place_of : {A : Type 0} → (A → List ℕ) → (ℕ → A) → ℕ → ℕ → Placed A
place_of body x at i = record { offset = at + sum_below (long_of body x) i; entry = x i }

module _ {A : Type 0} (body : A → List ℕ) where
  placed_more : (at : ℕ) (xs : List A) (y : A)
      → placed body at (xs ++ (y ∷ [])) ≡ placed body at xs ++ (record { offset = at + length (joined body xs); entry = y } ∷ [])
  unfolding placed joined
  placed_more at [] y = ap (λ (k : ℕ). record { offset = k; entry = y } ∷ []) (sym (add-zero at))
  placed_more at (x ∷ xs) y =
      ap (λ (r : List (Placed A)). record { offset = at; entry = x } ∷ r)
      (placed_more (at + length (body x)) xs y
      ∙ ap (λ (k : ℕ). placed body (at + length (body x)) xs ++ (record { offset = k; entry = y } ∷ []))
      (add_assoc at (length (body x)) (length (joined body xs)) ∙ ap (λ (k : ℕ). at + k) (sym (length-append (body x) (joined body xs)))))

  pub placed_list_of : (x : ℕ → A) (at n : ℕ) → placed body at (list_of x n) ≡ list_of (place_of body x at) n
  unfolding list_of placed
  placed_list_of x at zero = refl
  placed_list_of x at (suc n) =
      placed_more at (list_of x n) (x n)
      ∙ ap₂ (λ (p : List (Placed A)) (k : ℕ). p ++ (record { offset = at + k; entry = x n } ∷ [])) (placed_list_of x at n) (joined_sum body x n)

-- the file of n entries, as its count, its items and its bodies
module _ {A : Type 0} (kind edition w : ℕ) (head body : A → List ℕ) (x : ℕ → A) (n : ℕ) where
  pub shape_list_of : shape_of kind edition w head body (list_of x n)
      ≡ kind ∷ edition ∷ (big_endian count_width n ++ (joined (item_of head body) (list_of (place_of body x (entry_place w n)) n) ++ joined body (list_of x n)))
  unfolding shape_of contents_of
  shape_list_of = rw (list_of_length x n, placed_list_of body x (entry_place w n) n)

-- ---- read and put together again
-- three runs side by side
pub part_three : (f : List ℕ) (a n m k : ℕ) → part f a n ++ (part f (a + n) m ++ part f (a + n + m) k) ≡ part f a (n + m + k)
part_three f a n m k =
    sym (append_assoc (part f a n) (part f (a + n) m) (part f (a + n + m) k))
    ∙ ap₂ (λ (r : List ℕ) (i : ℕ). r ++ part f i k) (sym (part_split f a n m)) (add_assoc a n m)
    ∙ sym (part_split f a (n + m) k)

start_again : (f : List ℕ) → contents_start ≤ length f → kind_of f ∷ edition_of f ∷ part f count_at count_width ≡ part f 0 contents_start
unfolding kind_of edition_of
start_again f l =
    ap₂ (λ (p q : List ℕ). p ++ (q ++ part f count_at count_width)) (sym (part_one f 0 (omega arith))) (sym (part_one f 1 (omega arith)))
    ∙ part_three f 0 1 1 count_width

module _ {A : Type 0} (w : ℕ) (head body : A → List ℕ) (x : ℕ → A) (f : List ℕ) (b : Bytes f) (s : Shaped w f)
    (heads : (i : ℕ) → i < count_of f → head (x i) ≡ part f (entry_place w i) w)
    (bodies : (i : ℕ) → i < count_of f → body (x i) ≡ part f (offset_of w f i) (length_of w f i)) where
  long_again : (i : ℕ) → i < count_of f → long_of body x i ≡ length_of w f i
  long_again i l = ap length (bodies i l) ∙ part_length f (offset_of w f i) (length_of w f i) (body_within w f s i l)

  place_again : (i : ℕ) → i < count_of f → entry_place w (count_of f) + sum_below (long_of body x) i ≡ offset_of w f i
  unfolding running_place
  place_again i l =
      ap (λ (k : ℕ). entry_place w (count_of f) + k) (sum_cong (long_of body x) (length_of w f) i (λ j m. long_again j (omega arith)))
      ∙ sym (s.offsets i l)

  item_again : (i : ℕ) → i < count_of f → item_of head body (place_of body x (entry_place w (count_of f)) i) ≡ part f (entry_place w i) (item_width w)
  unfolding item_of offset_of length_of
  item_again i l =
      let inside : entry_place w i + item_width w ≤ length f = omega (arith, item_within w i (count_of f) l, s.whole) in
      ap (λ (r : List ℕ). r ++ (big_endian offset_width (entry_place w (count_of f) + sum_below (long_of body x) i) ++ big_endian length_width (long_of body x i)))
      (heads i l)
      ∙ ap₂ (λ (p q : ℕ). part f (entry_place w i) w ++ (big_endian offset_width p ++ big_endian length_width q)) (place_again i l) (long_again i l)
      ∙ ap₂ (λ (p q : List ℕ). part f (entry_place w i) w ++ (p ++ q))
      (part_again f (entry_place w i + w) offset_width b (omega arith)) (part_again f (entry_place w i + w + offset_width) length_width b (omega arith))
      ∙ part_three f (entry_place w i) w offset_width length_width

  pub shape_again : shape_of (kind_of f) (edition_of f) w head body (list_of x (count_of f)) ≡ f
  unfolding running_place
  shape_again =
      let n : ℕ = count_of f in
      let sum : ℕ = sum_below (length_of w f) n in
      shape_list_of (kind_of f) (edition_of f) w head body x n
      ∙ ap₂ (λ (p q : List ℕ). kind_of f ∷ edition_of f ∷ (p ++ (q ++ joined body (list_of x n))))
      (ap (big_endian count_width) (count_read f s.start) ∙ part_again f count_at count_width b (omega (arith, s.start)))
      (joined_items (item_of head body) (place_of body x (entry_place w n)) f contents_start (item_width w) n item_again)
      ∙ ap (λ (r : List ℕ). kind_of f ∷ edition_of f ∷ (part f count_at count_width ++ (part f contents_start (item_width w * n) ++ r)))
      (joined_cut body x f (entry_place w n) (length_of w f) n (λ i l. bodies i l ∙ ap (λ (k : ℕ). part f k (length_of w f i)) (s.offsets i l)))
      ∙ ap (λ (r : List ℕ). r ++ (part f contents_start (item_width w * n) ++ part f (entry_place w n) sum)) (start_again f s.start)
      ∙ part_three f 0 contents_start (item_width w * n) sum
      ∙ part_whole f (contents_start + item_width w * n + sum) (sym s.ends)

-- ---- put together and read again
module _ {A : Type 0} (kind edition w : ℕ) (head body : A → List ℕ) (wide : (e : A) → length (head e) ≡ w) (x : ℕ → A) (n : ℕ) where
  abbrev made : List ℕ
  made = shape_of kind edition w head body (list_of x n)

  abbrev items : List ℕ
  items = joined (item_of head body) (list_of (place_of body x (entry_place w n)) n)

  item_wide : (p : Placed A) → length (item_of head body p) ≡ item_width w
  unfolding item_of
  item_wide p =
      simp (length-append, big_endian_length) (omega (arith, wide p.entry))

  items_length : length items ≡ item_width w * n
  items_length =
      joined_length (item_of head body) (item_width w) item_wide (list_of (place_of body x (entry_place w n)) n)
      ∙ ap (λ (k : ℕ). item_width w * k) (list_of_length (place_of body x (entry_place w n)) n)

  start_length : length (kind ∷ edition ∷ big_endian count_width n) ≡ contents_start
  start_length = omega (arith, big_endian_length count_width n)

  pub shape_length : length made ≡ entry_place w n + sum_below (long_of body x) n
  shape_length =
      ap length (shape_list_of kind edition w head body x n)
      ∙ simp (length-append, big_endian_length) (omega (arith, items_length, joined_sum body x n))

  shape_item : (i : ℕ) → i < n → part made (entry_place w i) (item_width w) ≡ item_of head body (place_of body x (entry_place w n) i)
  shape_item i l =
      ap (λ (r : List ℕ). part r (entry_place w i) (item_width w)) (shape_list_of kind edition w head body x n)
      ∙ part_joined (item_of head body) (item_width w) item_wide (kind ∷ edition ∷ big_endian count_width n) (joined body (list_of x n)) contents_start
      (list_of (place_of body x (entry_place w n)) n) i (place_of body x (entry_place w n) i) start_length
      (subst (λ (k : ℕ). i < k) (sym (list_of_length (place_of body x (entry_place w n)) n)) l)
      ∙ ap (item_of head body) (list_of_at (place_of body x (entry_place w n)) n i (place_of body x (entry_place w n) i) l)

  pub shape_head : (i : ℕ) → i < n → part made (entry_place w i) w ≡ head (x i)
  unfolding item_of
  shape_head i l =
      ap (λ (k : ℕ). part made k w) (sym (add-zero (entry_place w i)))
      ∙ sym (part_part made (entry_place w i) (item_width w) 0 w (omega arith))
      ∙ ap (λ (r : List ℕ). part r 0 w) (shape_item i l)
      ∙ part_mid [] (head (x i)) _ 0 w refl (wide (x i))

  pub shape_offset : (i : ℕ) → i < n → entry_place w n + sum_below (long_of body x) n < offset_limit
      → offset_of w made i ≡ entry_place w n + sum_below (long_of body x) i
  unfolding offset_of item_of
  shape_offset i l small =
      ap number
      (sym (part_part made (entry_place w i) (item_width w) w offset_width (omega arith))
      ∙ ap (λ (r : List ℕ). part r w offset_width) (shape_item i l)
      ∙ part_mid (head (x i)) (big_endian offset_width (entry_place w n + sum_below (long_of body x) i)) _ w offset_width
      (wide (x i)) (big_endian_length offset_width _))
      ∙ number_big_endian offset_width (entry_place w n + sum_below (long_of body x) i) (omega (arith, sum_within (long_of body x) n i l))

  pub shape_long : (i : ℕ) → i < n → long_of body x i < length_limit → length_of w made i ≡ long_of body x i
  unfolding length_of item_of
  shape_long i l small =
      let at : List ℕ = big_endian offset_width (entry_place w n + sum_below (long_of body x) i) in
      ap number
      (ap (λ (k : ℕ). part made k length_width) (add_assoc (entry_place w i) w offset_width)
      ∙ sym (part_part made (entry_place w i) (item_width w) (w + offset_width) length_width (omega arith))
      ∙ ap (λ (r : List ℕ). part r (w + offset_width) length_width)
      (shape_item i l ∙ sym (append_assoc (head (x i)) at (big_endian length_width (long_of body x i))))
      ∙ part_last (head (x i) ++ at) (big_endian length_width (long_of body x i)) (w + offset_width) length_width
      (simp (length-append, big_endian_length) (omega (arith, wide (x i)))) (big_endian_length length_width _))
      ∙ number_big_endian length_width (long_of body x i) small

  pub shape_body : (i : ℕ) → i < n → part made (entry_place w n + sum_below (long_of body x) i) (long_of body x i) ≡ body (x i)
  shape_body i l =
      ap (λ (r : List ℕ). part r (entry_place w n + sum_below (long_of body x) i) (long_of body x i))
      (shape_list_of kind edition w head body x n ∙ sym (append_assoc (kind ∷ edition ∷ big_endian count_width n) items (joined body (list_of x n))))
      ∙ part_back (kind ∷ edition ∷ (big_endian count_width n ++ items)) (joined body (list_of x n)) (entry_place w n) (sum_below (long_of body x) i)
      (long_of body x i)
      (simp (length-append, big_endian_length) (omega (arith, items_length)))
      ∙ joined_found body x n i l

  pub shape_kind : kind_of made ≡ kind
  unfolding kind_of shape_of
  shape_kind = refl

  pub shape_edition : edition_of made ≡ edition
  unfolding edition_of shape_of
  shape_edition = refl

  module _ (few : n < count_limit) where
    pub shape_count : count_of made ≡ n
    unfolding shape_of
    shape_count =
        count_read made (omega (arith, shape_length))
        ∙ ap (λ (r : List ℕ). number (part r count_at count_width)) (shape_list_of kind edition w head body x n)
        ∙ ap number (part_mid (kind ∷ edition ∷ []) (big_endian count_width n) (items ++ joined body (list_of x n)) count_at count_width
        refl (big_endian_length count_width n))
        ∙ number_big_endian count_width n few

    module _ (small : (i : ℕ) → i < n → long_of body x i < length_limit) (fits : entry_place w n + sum_below (long_of body x) n < offset_limit) where
      shape_running : (i : ℕ) → i ≤ n → running_place w made i ≡ entry_place w n + sum_below (long_of body x) i
      unfolding running_place
      shape_running i l =
          ap₂ (λ (p q : ℕ). entry_place w p + q) shape_count
          (sum_cong (length_of w made) (long_of body x) i (λ j m. shape_long j (omega arith) (small j (omega arith))))

      pub shape_shaped : Shaped w made
      shape_shaped =
          record {
            start = omega (arith, shape_length);
            whole = omega (arith, shape_length, ap (entry_place w) shape_count);
            offsets = λ i l.
                let m : i < n = subst (λ (k : ℕ). i < k) shape_count l in
                shape_offset i m fits ∙ sym (shape_running i (omega arith));
            ends = ap (running_place w made) shape_count ∙ shape_running n (le_refl n) ∙ sym shape_length;
          }

  pub shape_bytes : kind < 256 → edition < 256 → ((i : ℕ) → i < n → Bytes (head (x i))) → ((i : ℕ) → i < n → Bytes (body (x i))) → Bytes made
  unfolding item_of
  shape_bytes k e heads bodies =
      let rest : List ℕ = big_endian count_width n ++ (items ++ joined body (list_of x n)) in
      let at : ℕ → List ℕ = λ i. big_endian offset_width (entry_place w n + sum_below (long_of body x) i) in
      let long : ℕ → List ℕ = λ i. big_endian length_width (long_of body x i) in
      subst Bytes (sym (shape_list_of kind edition w head body x n))
      (cons_bytes kind (edition ∷ rest) k
      (cons_bytes edition rest e
      (append_bytes (big_endian count_width n) (items ++ joined body (list_of x n)) (big_endian_bytes count_width n)
      (append_bytes items (joined body (list_of x n))
      (joined_each_bytes (item_of head body) (place_of body x (entry_place w n)) n
      (λ i l.
      append_bytes (head (x i)) (at i ++ long i) (heads i l) (append_bytes (at i) (long i) (big_endian_bytes offset_width _) (big_endian_bytes length_width _))))
      (joined_each_bytes body x n bodies)))))
