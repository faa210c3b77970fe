-- The blobs of a path, for any limit of one or more.
use Rattle.std.specs.Prelude.{ℕ, ◌+◌, ◌-◌, Bool, false, List, [], ◌∷◌, ◌++◌, ltb, take, drop, set, replicate}
use Rattle.octets.specs.Choice.{◌then◌otherwise◌, ◌or◌, same}
use Rattle.packet.specs.Announce.{emission_of}
use Rattle.rules.specs.Relay.{Blobs}
use Rattle.numbers.specs.Numbers.{blob_width}

-- the blobs that are held
unfoldable pub held : Blobs → List (List ℕ)
held b = take b.count b.places

unfoldable pub is_among : List ℕ → List (List ℕ) → Bool
is_among x [] = false
is_among x (y ∷ ys) = same y x or is_among x ys

unfoldable pub greatest : ℕ → ℕ → ℕ
greatest x y = ltb x y then y otherwise x

-- the greatest emission among blobs
unfoldable pub greatest_emission : List (List ℕ) → ℕ
greatest_emission [] = 0
greatest_emission (x ∷ xs) = greatest (emission_of x) (greatest_emission xs)

-- a spare blob place of a new path
abbrev pub no_blob : List ℕ
no_blob = replicate blob_width 0

-- a new path's blobs: one, and spare places of zeros
unfoldable pub one_blob : ℕ → List ℕ → Blobs
one_blob limit x = record { count = 1; places = x ∷ replicate (limit - 1) no_blob }

-- adds a blob; with `limit` held, the one stored longest ago goes
unfoldable pub add_blob : ℕ → List ℕ → Blobs → Blobs
add_blob limit x b =
    ltb b.count limit
    then record { count = b.count + 1; places = set b.places b.count x }
    otherwise record { count = b.count; places = drop 1 b.places ++ (x ∷ []) }

-- wish 6: "a blob already stored isn't stored twice", and the list stays, order included
unfoldable pub store_blob : ℕ → List ℕ → Blobs → Blobs
store_blob limit x b = is_among x (held b) then b otherwise add_blob limit x b
