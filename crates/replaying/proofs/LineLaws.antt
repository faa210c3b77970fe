-- The laws of an entry's line: that it fits a text, the ports of a set one by one, and a reason's words.
use Prim.Native.Nat.{ℕ, zero, suc, ◌+◌, ◌/◌, ◌%◌, ◌^◌, ◌≤◌, ◌<◌}
use native.Mathlib.Nat.{pow-suc, div-div-eq-div-mul}
use native.Mathlib.Numerals.{add-one}
use native.Mathlib.Omega.{arith}
use mathlib.Core.Bool.{Bool, true, false}
use mathlib.Core.List.{List, [], ◌∷◌, ◌++◌, append-nil}
use mathlib.Core.Path.{◌≡◌, sym, ap, subst, ◌∙◌}
use lib.Dec.{eqb, lit≤}
use borrow.Author.Tests.{eq-eqb, ne_eqb}
use lib.ListN.{length, replicate, length-append}
use Rattle.octets.specs.Choice.{◌then◌otherwise◌}
use Rattle.rules.specs.Answers.{ReasonNumbers, tells_value, in_set}
use Rattle.rules.proofs.Choices.{either}
use Rattle.rules.specs.declared.Answer.{Answer}
use Rattle.text.specs.Numerals.{decimal, most_digits, short_digits, short_limit}
use Rattle.text.specs.Words.{space, newline, spaced, words_line}
use Rattle.text.specs.Text.{text_of, appended}
use Rattle.text.specs.declared.Text.{Text}
use Rattle.text.proofs.NumeralLaws.{numeral_most}
use Rattle.text.proofs.TextLaws.{appended_append}
use Rattle.text.proofs.WordLaws.{Most, spaced_most, word_appended, words_appended, line_appended}
use Rattle.replaying.specs.Words.{drop_word, spread_word, point}
use Rattle.replaying.specs.Lines.{ports_below, numbers_of, test_word, reason_words, answer_words, answer_line, longest_word, longest_answer}
use Rattle.numbers.specs.Numbers.{port_count}

-- ---- the ports of a set, one more at a time
module _ (set i : ℕ) (t : Text) where
  pub port_named : set / 2 ^ i % 2 ≡ 1
      → appended (appended t (spaced (ports_below set i))) (spaced (decimal i ∷ [])) ≡ appended t (spaced (ports_below set (i + 1)))
  unfolding ports_below in_set ◌then◌otherwise◌
  port_named e = words_appended t _ _ ∙ rw (add-one, eq-eqb _ _ e)

  pub port_unnamed : (set / 2 ^ i % 2 ≡ 1 → ⊥) → appended t (spaced (ports_below set i)) ≡ appended t (spaced (ports_below set (i + 1)))
  unfolding ports_below in_set ◌then◌otherwise◌
  port_unnamed ne = rw (add-one, ne_eqb _ _ ne, append-nil)

-- `rest` is the set without its bits below i
module _ (set i rest : ℕ) (e : rest ≡ set / 2 ^ i) where
  pub rest_more : rest / 2 ≡ set / 2 ^ (i + 1)
  rest_more = rw (e, add-one, pow-suc) (div-div-eq-div-mul set (2 ^ i) 2)

-- ---- an answer's words: a word of seven letters, and a number of three digits for each port
abbrev numbers : ℕ → List ℕ
numbers n = replicate n short_digits

one_word : (n : ℕ) (ws : List (List ℕ)) (w : List ℕ) → length w ≤ short_digits → Most ws (numbers n) → Most (ws ++ (w ∷ [])) (numbers (suc n))
one_word n [] w l h = (l, tt)
one_word zero (v ∷ ws) w l h = absurd h
one_word (suc n) (v ∷ ws) w l h = (h.0, one_word n ws w l h.1)

no_word : (n : ℕ) (ws : List (List ℕ)) → Most ws (numbers n) → Most ws (numbers (suc n))
no_word n [] h = tt
no_word zero (v ∷ ws) h = absurd h
no_word (suc n) (v ∷ ws) h = (h.0, no_word n ws h.1)

ports_most : (set n : ℕ) → n < short_limit → Most (ports_below set n) (numbers n)
unfolding ports_below ◌then◌otherwise◌
ports_most set zero l = tt
ports_most set (suc n) l = go (ports_most set n (omega arith)) (in_set set n)
  where
    go : Most (ports_below set n) (numbers n) → (named : Bool) → Most (ports_below set n ++ (named then decimal n ∷ [] otherwise [])) (numbers (suc n))
    go below true = one_word n (ports_below set n) (decimal n) (numeral_most 10 (lit≤ tt) short_digits n (lit≤ tt) (omega arith)) below
    go below false = subst (λ (ws : List (List ℕ)). Most ws (numbers (suc n))) (sym (append-nil (ports_below set n))) (no_word n (ports_below set n) below)

pub ports_short : (set : ℕ) → length (spaced (spread_word ∷ ports_below set port_count)) ≤ longest_answer
ports_short set = spaced_most (spread_word ∷ ports_below set port_count) (longest_word ∷ numbers port_count) (lit≤ tt, ports_most set port_count (lit≤ tt))

module _ (w : List ℕ) (l : length w ≤ longest_word) where
  pub word_short : length (spaced (w ∷ [])) ≤ longest_answer
  word_short = omega (arith, spaced_most (w ∷ []) (longest_word ∷ []) (l, tt))

  pub number_short : (n : ℕ) → n < short_limit → length (spaced (w ∷ decimal n ∷ [])) ≤ longest_answer
  number_short n few =
      let digits : length (decimal n) ≤ short_digits = numeral_most 10 (lit≤ tt) short_digits n (lit≤ tt) few in
      omega (arith, spaced_most (w ∷ decimal n ∷ []) (longest_word ∷ short_digits ∷ []) (l, (digits, tt)))

-- ---- a reason's words
-- a word, a character and more of the word, as a point between test and clause
pub word_grown : (t : Text) (w : List ℕ) (mark : ℕ) (v : List ℕ)
    → appended (appended (appended t (spaced (w ∷ []))) (mark ∷ [])) v ≡ appended t (spaced ((w ++ (mark ∷ v)) ∷ []))
word_grown t w mark v =
    let s : Text = appended t (space ∷ []) in
    ap (λ (x : Text). appended (appended x (mark ∷ [])) v) (sym (word_appended t w))
    ∙ appended_append (appended s w) (mark ∷ []) v
    ∙ appended_append s w (mark ∷ v)
    ∙ word_appended t (w ++ (mark ∷ v))

-- a test, a point and a clause
abbrev test_digits : ℕ
test_digits = short_digits + 1 + short_digits

module _ (test clause value : ℕ) (t : test < short_limit) (k : clause < short_limit) (x : value < 2 ^ 64) where
  test_most : length (test_word test clause) ≤ test_digits
  unfolding test_word
  test_most =
      let one = numeral_most 10 (lit≤ tt) short_digits test (lit≤ tt) t in
      let two = numeral_most 10 (lit≤ tt) short_digits clause (lit≤ tt) k in
      either (λ (w : List ℕ). length w ≤ test_digits) (eqb clause 0) (λ _. omega (arith, one))
      (λ _. omega (arith, one, two, length-append (decimal test) (point ∷ decimal clause)))

  reason_most : Most (reason_words (numbers_of test clause value)) (test_digits ∷ most_digits ∷ [])
  unfolding reason_words
  reason_most =
      let digits : length (decimal value) ≤ most_digits = numeral_most 10 (lit≤ tt) most_digits value (lit≤ tt) (omega (arith, x)) in
      (test_most, either (λ (ws : List (List ℕ)). Most ws (most_digits ∷ [])) (tells_value (numbers_of test clause value)) (λ _. (digits, tt)) (λ _. tt))

  pub reason_short : length (spaced (drop_word ∷ reason_words (numbers_of test clause value))) ≤ longest_answer
  reason_short =
      omega (
        arith,
        spaced_most (drop_word ∷ reason_words (numbers_of test clause value)) (longest_word ∷ test_digits ∷ most_digits ∷ []) (lit≤ tt, reason_most),
      )

  -- a reason's numbers, which code has one by one
  pub drop_words : (r : ReasonNumbers) → test ≡ r.test → clause ≡ r.clause → value ≡ r.value → (line y : Text)
      → y ≡ appended line (spaced (drop_word ∷ reason_words (numbers_of test clause value)))
      → (y ≡ appended line (spaced (drop_word ∷ reason_words r))) × (length (spaced (drop_word ∷ reason_words r)) ≤ longest_answer)
  drop_words r e f g line y h =
      let alike : numbers_of test clause value ≡ r = λ i. numbers_of (e i) (f i) (g i) in (
        h ∙ ap (λ (n : ReasonNumbers). appended line (spaced (drop_word ∷ reason_words n))) alike,
        subst (λ (n : ReasonNumbers). length (spaced (drop_word ∷ reason_words n)) ≤ longest_answer) alike reason_short,
      )

-- ---- the longest line fits: twenty digits, those words, and the end
pub line_made : (number : ℕ) (answer : Answer) → number < 2 ^ 64 → length (spaced (answer_words answer)) ≤ longest_answer
    → appended (appended (appended (text_of []) (decimal number)) (spaced (answer_words answer))) (newline ∷ []) ≡ text_of (answer_line number answer)
unfolding answer_line words_line
line_made number answer few short =
    let digits : length (decimal number) ≤ most_digits = numeral_most 10 (lit≤ tt) most_digits number (lit≤ tt) (omega arith) in
    let words : List ℕ = spaced (answer_words answer) ++ (newline ∷ []) in
    line_appended (decimal number) (answer_words answer)
    (omega (arith, length-append (decimal number) words, length-append (spaced (answer_words answer)) (newline ∷ [])))
