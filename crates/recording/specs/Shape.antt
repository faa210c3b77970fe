-- The shape of a recording, which saved tables share (document 02, Wishes 1 and 4): kind byte, edition byte, entry count (2 bytes); then for each
-- entry a head of one width w, the offset of its body in the file (4) and the body's length (2), all big-endian; then the bodies, in order and
-- without gaps.
use Rattle.std.specs.Prelude.{ℕ, zero, suc, ◌+◌, ◌-◌, ◌*◌, ◌^◌, Bool, List, [], ◌∷◌, ◌++◌, eqb, ltb, length, get_or}
use Rattle.octets.specs.Index.{all_below}
use Rattle.octets.specs.Choice.{◌then◌otherwise◌}
use Rattle.octets.specs.Part.{part, joined}
use Rattle.octets.specs.BigEndian.{number, big_endian}

-- byte 0 is the kind, byte 1 the edition; bytes 2..3: the count
abbrev pub count_at : ℕ
count_at = 1 + 1

abbrev pub count_width : ℕ
count_width = 2

-- the contents: from byte 4 on
abbrev pub contents_start : ℕ
contents_start = count_at + count_width

-- behind an entry's head: the offset (4), the length (2)
abbrev pub offset_width : ℕ
offset_width = 4

abbrev pub length_width : ℕ
length_width = 2

-- an item of the contents, for an entry whose head is w bytes wide
abbrev pub item_width : ℕ → ℕ
item_width w = w + offset_width + length_width

-- what so many bytes hold: each count, offset and length is below
abbrev pub count_limit : ℕ
count_limit = 256 ^ count_width

abbrev pub offset_limit : ℕ
offset_limit = 256 ^ offset_width

abbrev pub length_limit : ℕ
length_limit = 256 ^ length_width

abbrev pub longest_body : ℕ
longest_body = length_limit - 1

-- where entry i stands in the contents; at the count, where the contents end
abbrev pub entry_place : ℕ → ℕ → ℕ
entry_place w i = contents_start + item_width w * i

-- ---- the file of a list of entries, each with its head and its body
pub record Placed (A : Type 0) : Type 0 where
  pub offset : ℕ
  pub entry : A

-- the entries with the offsets of their bodies: the first body starts at `at`, each other where the one before it ends
unfoldable pub placed : {A : Type 0} → (A → List ℕ) → ℕ → List A → List (Placed A)
placed body at [] = []
placed body at (x ∷ xs) = record { offset = at; entry = x } ∷ placed body (at + length (body x)) xs

-- what stands in the contents for an entry: an item of them
unfoldable pub item_of : {A : Type 0} → (A → List ℕ) → (A → List ℕ) → Placed A → List ℕ
item_of head body p = head p.entry ++ (big_endian offset_width p.offset ++ big_endian length_width (length (body p.entry)))

unfoldable pub contents_of : {A : Type 0} → ℕ → (A → List ℕ) → (A → List ℕ) → List A → List ℕ
contents_of w head body xs = joined (item_of head body) (placed body (entry_place w (length xs)) xs)

unfoldable pub shape_of : {A : Type 0} → ℕ → ℕ → ℕ → (A → List ℕ) → (A → List ℕ) → List A → List ℕ
shape_of kind edition w head body xs =
    kind ∷ edition ∷ (big_endian count_width (length xs) ++ (contents_of w head body xs ++ joined body xs))

-- ---- what any bytes say as such a file
unfoldable pub kind_of : List ℕ → ℕ
kind_of f = get_or f 0 0

unfoldable pub edition_of : List ℕ → ℕ
edition_of f = get_or f 1 0

-- a file that ends before the contents' start has no whole count: 0
unfoldable pub count_of : List ℕ → ℕ
count_of f = ltb (length f) contents_start then 0 otherwise number (part f count_at count_width)

unfoldable pub offset_of : ℕ → List ℕ → ℕ → ℕ
offset_of w f i = number (part f (entry_place w i + w) offset_width)

unfoldable pub length_of : ℕ → List ℕ → ℕ → ℕ
length_of w f i = number (part f (entry_place w i + w + offset_width) length_width)

-- g 0 + g 1 + .. + g (n - 1)
unfoldable pub sum_below : (ℕ → ℕ) → ℕ → ℕ
sum_below g zero = 0
sum_below g (suc n) = sum_below g n + g n

-- the running place: where body i must start, after the contents and the bodies before it; at the count, where the file must end
unfoldable pub running_place : ℕ → List ℕ → ℕ → ℕ
running_place w f i = entry_place w (count_of f) + sum_below (length_of w f) i

unfoldable pub offsets_right : ℕ → List ℕ → Bool
offsets_right w f = all_below (λ i. eqb (offset_of w f i) (running_place w f i)) (count_of f)

unfoldable pub end_right : ℕ → List ℕ → Bool
end_right w f = eqb (running_place w f (count_of f)) (length f)
