-- The laws of words in a text.
use Prim.Native.Nat.{ℕ, ◌+◌, ◌≤◌, ◌<◌}
use native.Mathlib.Omega.{arith}
use mathlib.Core.List.{List, [], ◌∷◌, ◌++◌, append-nil}
use mathlib.Core.Path.{◌≡◌, refl, sym, ap, ◌∙◌}
use lib.Dec.{lit≤}
use lib.ListN.{length, length-append}
use Rattle.octets.specs.Part.{joined}
use Rattle.octets.proofs.Joined.{joined_append}
use Rattle.text.specs.Words.{space, newline, spaced, words_line, refused_word, refused_words}
use Rattle.text.specs.Text.{text_size, text_of, appended}
use Rattle.text.specs.declared.Text.{Text}
use Rattle.text.specs.Numerals.{decimal, short_digits, short_limit}
use Rattle.text.proofs.NumeralLaws.{numeral_most}
use Rattle.text.proofs.TextLaws.{appended_append, appended_text}

-- ---- the length of words and of a line
pub spaced_nil : spaced [] ≡ []
unfolding spaced joined
spaced_nil = refl

spaced_length : (w : List ℕ) (ws : List (List ℕ)) → length (spaced (w ∷ ws)) ≡ 1 + length w + length (spaced ws)
unfolding spaced joined
spaced_length w ws = length-append (space ∷ w) (joined (λ v. space ∷ v) ws) ∙ omega arith

-- every word is at most as long as its number
abbrev pub Most : List (List ℕ) → List ℕ → Type 0
Most [] ms = Unit {0}
Most (w ∷ ws) [] = ⊥
Most (w ∷ ws) (m ∷ ms) = (length w ≤ m) × Most ws ms

abbrev pub total : List ℕ → ℕ
total [] = 0
total (m ∷ ms) = 1 + m + total ms

pub spaced_most : (ws : List (List ℕ)) (ms : List ℕ) → Most ws ms → length (spaced ws) ≤ total ms
spaced_most [] ms h = omega (arith, ap length spaced_nil)
spaced_most (w ∷ ws) [] h = absurd h
spaced_most (w ∷ ws) (m ∷ ms) h = omega (arith, spaced_length w ws, spaced_most ws ms h.1, h.0)

-- a line is as long as its words, each with a space or the end behind it
pub line_most : (w : List ℕ) (ws : List (List ℕ)) (ms : List ℕ) → Most (w ∷ ws) ms → length (words_line (w ∷ ws)) ≤ total ms
unfolding words_line
line_most w ws [] h = absurd h
line_most w ws (m ∷ ms) h =
    omega
    (arith, length-append w (spaced ws ++ (newline ∷ [])), length-append (spaced ws) (newline ∷ []), spaced_most ws ms h.1, h.0)

-- ---- words, and then more words
spaced_one : (w : List ℕ) → space ∷ w ≡ spaced (w ∷ [])
unfolding spaced joined
spaced_one w = ap (λ (r : List ℕ). space ∷ r) (sym (append-nil w))

spaced_append : (ws vs : List (List ℕ)) → spaced (ws ++ vs) ≡ spaced ws ++ spaced vs
unfolding spaced
spaced_append ws vs = joined_append (λ v. space ∷ v) ws vs

module _ (t : Text) where
  -- a space and a word
  pub word_appended : (w : List ℕ) → appended (appended t (space ∷ [])) w ≡ appended t (spaced (w ∷ []))
  word_appended w = appended_append t (space ∷ []) w ∙ ap (appended t) (spaced_one w)

  pub words_appended : (ws vs : List (List ℕ)) → appended (appended t (spaced ws)) (spaced vs) ≡ appended t (spaced (ws ++ vs))
  words_appended ws vs = appended_append t (spaced ws) (spaced vs) ∙ ap (appended t) (sym (spaced_append ws vs))

-- a line from its start: the first word, the others, and the end
pub line_appended : (w : List ℕ) (ws : List (List ℕ)) → length (words_line (w ∷ ws)) ≤ text_size
    → appended (appended (appended (text_of []) w) (spaced ws)) (newline ∷ []) ≡ text_of (words_line (w ∷ ws))
unfolding words_line
line_appended w ws room =
    let all : length (w ++ (spaced ws ++ (newline ∷ []))) ≤ text_size = room in
    appended_append (appended (text_of []) w) (spaced ws) (newline ∷ [])
    ∙ appended_append (text_of []) w (spaced ws ++ (newline ∷ []))
    ∙ appended_text [] (w ++ (spaced ws ++ (newline ∷ []))) (omega arith)

-- a refusal's number has three digits at most
pub refused_fit : (n : ℕ) → n < short_limit → length (words_line (refused_words n)) ≤ text_size
refused_fit n few =
    omega (
      arith,
      line_most refused_word (decimal n ∷ []) (length refused_word ∷ short_digits ∷ [])
          (lit≤ tt, (numeral_most 10 (lit≤ tt) short_digits n (lit≤ tt) few, tt)),
    )
