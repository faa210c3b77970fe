-- Loops over the blobs that a path holds.
use Prim.Native.Nat.{ℕ, ◌+◌, ◌-◌, ◌*◌, ◌%◌, ◌^◌, ◌≤◌, ◌<◌, max}
use native.Mathlib.Omega.{arith}
use mathlib.Core.Bool.{Bool, true, false}
use mathlib.Core.List.{List, [], ◌∷◌}
use mathlib.Core.Path.{◌≡◌, refl, sym, ap, ◌∙◌}
use lib.ListN.{length, get_or, take}
use lib.Dec.{ltb}
use lib.Seq.{length-take-le, get_or-take}
use borrow.Author.Tests.{ltb-true, ltb-false}
use Rattle.std.specs.Simd.{first_chunks}
use Rattle.std.specs.List.{fold, list_any}
use Rattle.std.proofs.lemmas.List.{ext_get_or}
use Rattle.octets.specs.Choice.{◌then◌otherwise◌, ◌or◌, same}
use Rattle.octets.specs.Bytes.{Bytes}
use Rattle.octets.specs.Part.{part}
use Rattle.octets.specs.BigEndian.{number_from, number, word, word_width}
use Rattle.octets.proofs.Choice.{ne_same}
use Rattle.octets.proofs.Chains.{either_is_or}
use Rattle.codes.proofs.Many.{many_end}
use Rattle.tables.proofs.Chunks.{chunk_count, chunk_at}
use Rattle.octets.proofs.ListOf.{list_of_length, list_of_at}
use Rattle.octets.proofs.Part.{part_part, part_eight}
use Rattle.packet.specs.Announce.{emission_of}
use Rattle.packet.specs.Places.{emission_width}
use Rattle.numbers.specs.Numbers.{blob_limit}
use Rattle.rules.specs.Blobs.{held, is_among, greatest, greatest_emission}
use Rattle.codes.proofs.Law.{sees_part}
use Rattle.codes.proofs.Single.{octets_lawful}
use Rattle.tables.specs.Places.{blob_width}
use Rattle.tables.specs.Fields.{path_places_at}
use Rattle.tables.specs.Records.{blobs_of}
use Rattle.lookup.specs.Search.{last_word}

-- ---- whether a blob is among those
pub any_among : (x : List ℕ) (ys : List (List ℕ)) → list_any (λ y. same y x) ys ≡ is_among x ys
unfolding is_among
any_among x [] = refl
any_among x (y ∷ ys) = either_is_or (same y x) (list_any (λ z. same z x) ys) ∙ ap (λ (b : Bool). same y x or b) (any_among x ys)

-- where the last eight bytes of a blob start, and in them the emission
abbrev pub last_word_at : ℕ
last_word_at = blob_width - word_width

abbrev pub emission_at : ℕ
emission_at = word_width - emission_width

-- what the bytes of an emission hold
abbrev pub emission_limit : ℕ
emission_limit = 256 ^ emission_width

-- ---- the last eight bytes first: where those at a place are not the blob's, it is another
pub other_blob : (y x : List ℕ) → length y ≡ blob_width → length x ≡ blob_width → (word (part y last_word_at word_width) ≡ last_word x → ⊥) → false ≡ same y x
unfolding last_word
other_blob y x wide other ne =
    let tail : length x - word_width ≡ last_word_at = omega (arith, other) in
    sym (ne_same y x (λ q. ne (ap (λ (b : List ℕ). word (part b last_word_at word_width)) q ∙ ap (λ (k : ℕ). word (part x k word_width)) (sym tail))))

pub last_of : (x : List ℕ) → length x ≡ blob_width → word (part x last_word_at word_width) ≡ last_word x
unfolding last_word
last_of x wide = let tail : length x - word_width ≡ last_word_at = omega (arith, wide) in ap (λ (k : ℕ). word (part x k word_width)) (sym tail)

-- ---- the greatest emission
pub greatest_is_max : (x y : ℕ) → greatest x y ≡ max x y
unfolding greatest ◌then◌otherwise◌
greatest_is_max x y = go (ltb x y) refl
  where
    go : (b : Bool) → ltb x y ≡ b → greatest x y ≡ max x y
    go true q = rw q (omega (arith, ltb-true x y q))
    go false q = rw q (omega (arith, ltb-false x y q))

greatest_behind : (m : ℕ) (ys : List (List ℕ)) → fold (λ n y. max (emission_of y) n) m ys ≡ max m (greatest_emission ys)
unfolding greatest_emission
greatest_behind m [] = omega arith
greatest_behind m (y ∷ ys) =
    greatest_behind (max (emission_of y) m) ys ∙ omega (arith, greatest_is_max (emission_of y) (greatest_emission ys))

pub greatest_folded : (ys : List (List ℕ)) → fold (λ n y. max (emission_of y) n) 0 ys ≡ greatest_emission ys
greatest_folded ys = greatest_behind 0 ys ∙ omega arith

-- ---- a blob's emission is the low five of its last eight bytes
pub low_five : (t : List ℕ) (a : ℕ) → Bytes t → a + word_width ≤ length t
    → number (part t a word_width) % emission_limit ≡ number (part t (a + emission_at) emission_width)
unfolding number number_from part
low_five t a h l =
    let eight = part_eight t a l in
    let five : number (part t (a + emission_at) emission_width) ≡ number
    (get_or t (a + 3) 0 ∷ get_or t (a + 4) 0 ∷ get_or t (a + 5) 0 ∷ get_or t (a + 6) 0 ∷ get_or t (a + 7) 0 ∷ []) =
    ap number (sym (part_part t a word_width emission_at emission_width (omega arith)) ∙ ap (λ (x : List ℕ). part x emission_at emission_width) eight) in
    ap (λ (x : List ℕ). number x % emission_limit) eight ∙ omega (arith, h (a + 3), h (a + 4), h (a + 5), h (a + 6), h (a + 7)) ∙ sym five

-- ---- the record b of a path
module _ (b : List ℕ) where
  places_length : length (blobs_of b).places ≡ blob_limit
  unfolding blobs_of
  places_length = list_of_length _ blob_limit

  blob_at_lem : (i : ℕ) → i < blob_limit → get_or (blobs_of b).places i [] ≡ part b (path_places_at + blob_width * i) blob_width
  unfolding blobs_of
  blob_at_lem i l =
      list_of_at (λ k. part (part b (path_places_at + blob_width * k) blob_width) 0 blob_width) blob_limit i [] l
      ∙ sees_part (octets_lawful blob_width) b (path_places_at + blob_width * i)

  pub held_chunks : (blobs_of b).count ≤ blob_limit
      → first_chunks blob_width (blobs_of b).count (part b path_places_at (blob_width * (blobs_of b).count)) ≡ held (blobs_of b)
  unfolding held
  held_chunks most =
      let n : ℕ = (blobs_of b).count in
      let places = (blobs_of b).places in
      let xs : List ℕ = part b path_places_at (blob_width * n) in
      let size : length (take n places) ≡ n = length-take-le n places (omega (arith, places_length)) in
      ext_get_or [] (first_chunks blob_width n xs) (take n places) (chunk_count blob_width n xs ∙ sym size)
      (λ i l.
      let below : i < n = omega (arith, chunk_count blob_width n xs) in
      chunk_at blob_width n xs i below
      ∙ part_part b path_places_at (blob_width * n) (0 + blob_width * i) blob_width (omega (arith, many_end blob_width n i below))
      ∙ ap (λ (k : ℕ). part b k blob_width) (omega arith)
      ∙ sym (get_or-take n places i [] below ∙ blob_at_lem i (omega arith)))
