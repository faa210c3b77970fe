-- The text of an answer's number is the words of the answer: those of a replay's line behind its count.
use Prim.Native.Nat.{ℕ, ◌≤◌, ◌<◌}
use native.Mathlib.Nat.{mod-eq_of_lt}
use native.Mathlib.Omega.{arith}
use mathlib.Core.Bool.{Bool}
use mathlib.Core.List.{List, [], ◌∷◌, ◌++◌}
use mathlib.Core.Path.{◌≡◌, refl, sym, ap, ◌∙◌}
use lib.Dec.{lit≤}
use borrow.Author.Tests.{ne_eqb}
use lib.ListN.{length}
use Rattle.octets.specs.Choice.{◌then◌otherwise◌}
use Rattle.octets.specs.Part.{joined}
use Rattle.rules.specs.declared.Verdict.TheVariants.{Drop, Deliver, Forward, Spread, Kept}
use Rattle.rules.specs.declared.Answer.{Answer}
use Rattle.rules.specs.declared.Answer.TheVariants.{Refused, Judged}
use Rattle.rules.specs.declared.Tally.{Tally}
use Rattle.rules.proofs.AnswerFits.{AnswerFits}
use Rattle.text.specs.Numerals.{decimal, most_digits}
use Rattle.text.specs.Words.{space, newline, spaced, words_line, refused_word}
use Rattle.text.specs.Text.{text_of, appended}
use Rattle.text.proofs.TextLaws.{appended_none, appended_append, appended_text}
use Rattle.text.proofs.NumeralLaws.{numeral_most}
use Rattle.text.proofs.WordLaws.{spaced_nil, spaced_most}
use Rattle.relay.specs.Promise.{packet_on}
use Rattle.numbers.specs.Numbers.{port_count}
use Rattle.replaying.specs.Words.{forward_word, drop_word, deliver_word, spread_word, kept_word}
use Rattle.replaying.proofs.LineLaws.{ports_short, word_short, reason_short}
use Rattle.replaying.specs.Lines.{numbers_of, ports_below, reason_words, verdict_words, answer_words, answer_line, longest_word, longest_answer}
use Rattle.crossing.specs.Answers.{answer_number}
use Rattle.crossing.specs.Packets.{payload_place}
use Rattle.crossing.specs.Texts.{words_text, number_words, number_text}
use Rattle.crossing.specs.Bits.{ports_span, start_span, kind_in, detail_in, ports_in, clause_in, value_in}
use Rattle.crossing.proofs.AnswerBits.{found_again, answer_in_range, start_in_range}

-- ---- the words
module _ (start : ℕ) (s : start < start_span) where
  answer_words_lem : (a : Answer) → AnswerFits a → number_words (answer_number start a) ≡ answer_words a
  unfolding number_words answer_words verdict_words ◌then◌otherwise◌
  answer_words_lem (Refused number) fits =
      let f = found_again start s (Refused number) fits in
      rw (f.kind_is, f.detail_is) refl
  answer_words_lem (Judged (Drop reason)) fits =
      let f = found_again start s (Judged (Drop reason)) fits in
      rw (f.kind_is, f.test_is, f.clause_is, f.value_is, mod-eq_of_lt fits.2) refl
  answer_words_lem (Judged Deliver) fits = rw (found_again start s (Judged Deliver) fits).kind_is refl
  answer_words_lem (Judged (Forward port length)) fits =
      let f = found_again start s (Judged (Forward port length)) fits in
      rw (f.kind_is, f.ports_are) refl
  answer_words_lem (Judged (Spread ports length)) fits =
      let f = found_again start s (Judged (Spread ports length)) fits in
      rw (f.kind_is, f.ports_are) refl
  answer_words_lem (Judged Kept) fits = rw (found_again start s (Judged Kept) fits).kind_is refl

-- ---- the line: the count, a space, the text, and the end
line_text_lem : (i : ℕ) (a : Answer) → answer_line i a ≡ decimal i ++ (space ∷ (words_text (answer_words a) ++ (newline ∷ [])))
unfolding answer_line words_line words_text spaced joined answer_words verdict_words reason_words
line_text_lem i (Refused number) = refl
line_text_lem i (Judged (Drop reason)) = refl
line_text_lem i (Judged Deliver) = refl
line_text_lem i (Judged (Forward port length)) = refl
line_text_lem i (Judged (Spread ports length)) = refl
line_text_lem i (Judged Kept) = refl

-- ---- of every packet call, on any bytes
module _ (packet : List ℕ) (port clock : ℕ) (signed : Bool) (tables : List ℕ) (tally : Tally) (output : List ℕ) where
  abbrev answer : Answer
  answer = (packet_on packet port clock signed tables tally output).answer

  -- what a host reads as text is what the answer's line says
  pub text_line : (i : ℕ)
      → answer_line i answer ≡ decimal i ++ (space ∷ (words_text (number_words (answer_number (payload_place packet) answer)) ++ (newline ∷ [])))
  text_line i =
      line_text_lem i answer
      ∙ ap (λ (ws : List (List ℕ)). decimal i ++ (space ∷ (words_text ws ++ (newline ∷ []))))
      (sym (answer_words_lem (payload_place packet) (start_in_range packet port clock signed tables tally output) answer
      (answer_in_range packet port clock signed tables tally output)))

-- ---- texts as code makes them
pub words_text_lem : (w : List ℕ) (ws : List (List ℕ)) → length (spaced (w ∷ ws)) ≤ longest_answer
    → appended (appended (text_of []) w) (spaced ws) ≡ text_of (words_text (w ∷ ws))
unfolding words_text spaced joined
words_text_lem w ws h = appended_append (text_of []) w (spaced ws) ∙ appended_text [] (w ++ spaced ws) (omega (arith, h))

pub word_text : (w : List ℕ) → length (spaced (w ∷ [])) ≤ longest_answer → appended (text_of []) w ≡ text_of (words_text (w ∷ []))
word_text w h = sym (ap (appended (appended (text_of []) w)) spaced_nil ∙ appended_none (appended (text_of []) w)) ∙ words_text_lem w [] h

number_fits : (w : List ℕ) → length w ≤ longest_word → (n : ℕ) → n < ports_span → length (spaced (w ∷ decimal n ∷ [])) ≤ longest_answer
number_fits w l n few =
    let digits : length (decimal n) ≤ most_digits = numeral_most 10 (lit≤ tt) most_digits n (lit≤ tt) (omega (arith, few)) in
    omega (arith, spaced_most (w ∷ decimal n ∷ []) (longest_word ∷ most_digits ∷ []) (l, (digits, tt)))

-- ---- by the number's kind
module _ (n : ℕ) where
  pub refused_made : kind_in n ≡ 0 → appended (appended (text_of []) refused_word) (spaced (decimal (detail_in n) ∷ [])) ≡ number_text n
  unfolding number_text number_words ◌then◌otherwise◌
  refused_made e =
      words_text_lem refused_word (decimal (detail_in n) ∷ []) (number_fits refused_word (lit≤ tt) (detail_in n) (omega arith)) ∙ sym (rw e refl)

  pub drop_made : kind_in n ≡ 1
      → appended (appended (text_of []) drop_word)
      (spaced (reason_words (numbers_of (detail_in n) (clause_in n) (value_in n))))
      ≡ number_text n
  unfolding number_text number_words ◌then◌otherwise◌
  drop_made e =
      words_text_lem drop_word (reason_words (numbers_of (detail_in n) (clause_in n) (value_in n)))
      (reason_short (detail_in n) (clause_in n) (value_in n) (omega arith) (omega arith) (omega arith))
      ∙ sym (rw e refl)

  pub deliver_made : kind_in n ≡ 2 → appended (text_of []) deliver_word ≡ number_text n
  unfolding number_text number_words ◌then◌otherwise◌
  deliver_made e = word_text deliver_word (word_short deliver_word (lit≤ tt)) ∙ sym (rw e refl)

  pub forward_made : kind_in n ≡ 3 → appended (appended (text_of []) forward_word) (spaced (decimal (ports_in n) ∷ [])) ≡ number_text n
  unfolding number_text number_words ◌then◌otherwise◌
  forward_made e =
      words_text_lem forward_word (decimal (ports_in n) ∷ []) (number_fits forward_word (lit≤ tt) (ports_in n) (omega arith)) ∙ sym (rw e refl)

  pub spread_made : kind_in n ≡ 4 → appended (appended (text_of []) spread_word) (spaced (ports_below (ports_in n) port_count)) ≡ number_text n
  unfolding number_text number_words ◌then◌otherwise◌
  spread_made e = words_text_lem spread_word (ports_below (ports_in n) port_count) (ports_short (ports_in n)) ∙ sym (rw e refl)

  pub kept_made : kind_in n ≡ 5 → appended (text_of []) kept_word ≡ number_text n
  unfolding number_text number_words ◌then◌otherwise◌
  kept_made e = word_text kept_word (word_short kept_word (lit≤ tt)) ∙ sym (rw e refl)

  pub none_made : (kind_in n ≡ 0 → ⊥) → (kind_in n ≡ 1 → ⊥) → (kind_in n ≡ 2 → ⊥) → (kind_in n ≡ 3 → ⊥) → (kind_in n ≡ 4 → ⊥) → (kind_in n ≡ 5 → ⊥)
      → text_of [] ≡ number_text n
  unfolding number_text number_words words_text ◌then◌otherwise◌
  none_made e₀ e₁ e₂ e₃ e₄ e₅ =
      sym (rw (
        ne_eqb (kind_in n) 0 e₀,
        ne_eqb (kind_in n) 1 e₁,
        ne_eqb (kind_in n) 2 e₂,
        ne_eqb (kind_in n) 3 e₃,
        ne_eqb (kind_in n) 4 e₄,
        ne_eqb (kind_in n) 5 e₅,
      ) refl)
