-- The laws of a survey's lines: that each fits a text, whatever its numbers.
use Rattle.std.proofs.Common.{◌≡◌, ℕ, ◌+◌, ◌^◌, ◌<◌, ◌≤◌, [], ◌∷◌, length, sym, ap, ◌∙◌, arith, lit≤, length-append}
use Rattle.text.specs.Numerals.{decimal, most_digits}
use Rattle.text.specs.Words.{newline, words_line, refused_word}
use Rattle.text.specs.Text.{text_size, text_of, appended}
use Rattle.text.proofs.NumeralLaws.{numeral_most}
use Rattle.text.proofs.TextLaws.{appended_none}
use Rattle.text.proofs.WordLaws.{spaced_nil, line_most, line_appended}
use Rattle.surveying.specs.Words.{survey_word, settings_word, recording_word, port_word, packets_word, in_word, out_word, dropped_word, reason_word, stroke}
use Rattle.surveying.specs.Lines.{fraction_word}
use Rattle.surveying.specs.declared.Fraction.{Fraction}

digits : (n : ℕ) → n < 2 ^ 64 → length (decimal n) ≤ most_digits
digits n few = numeral_most 10 (lit≤ tt) most_digits n (lit≤ tt) (omega (arith, few))

-- a line of one word
pub heading_made : appended (appended (text_of []) survey_word) (newline ∷ []) ≡ text_of (words_line (survey_word ∷ []))
heading_made =
    ap (λ (words : _). appended words (newline ∷ [])) (sym (appended_none _) ∙ ap (appended (appended (text_of []) survey_word)) (sym spaced_nil))
    ∙ line_appended survey_word [] (omega (arith, line_most survey_word [] (length survey_word ∷ []) (lit≤ tt, tt)))

pub settings_fit : (n : ℕ) → n < 2 ^ 64 → length (words_line (settings_word ∷ refused_word ∷ decimal n ∷ [])) ≤ text_size
settings_fit n few =
    omega (
      arith,
      line_most settings_word (refused_word ∷ decimal n ∷ []) (length settings_word ∷ length refused_word ∷ most_digits ∷ [])
          (lit≤ tt, (lit≤ tt, (digits n few, tt))),
    )

pub recording_fit : (n k : ℕ) → n < 2 ^ 64 → k < 2 ^ 64 → length (words_line (recording_word ∷ decimal n ∷ refused_word ∷ decimal k ∷ [])) ≤ text_size
recording_fit n k few less =
    omega (
      arith,
      line_most recording_word (decimal n ∷ refused_word ∷ decimal k ∷ [])
          (length recording_word ∷ most_digits ∷ length refused_word ∷ most_digits ∷ []) (lit≤ tt, (digits n few, (lit≤ tt, (digits k less, tt)))),
    )

pub reason_fit : (test drops : ℕ) → test < 2 ^ 64 → drops < 2 ^ 64 → length (words_line (reason_word ∷ decimal test ∷ decimal drops ∷ [])) ≤ text_size
reason_fit test drops few less =
    omega (
      arith,
      line_most reason_word (decimal test ∷ decimal drops ∷ []) (length reason_word ∷ most_digits ∷ most_digits ∷ [])
          (lit≤ tt, (digits test few, (digits drops less, tt))),
    )

-- and a fraction of two, with its stroke, at most so many characters
abbrev most_fraction : ℕ
most_fraction = most_digits + 1 + most_digits

fraction_most : (f : Fraction) → f.above < 2 ^ 64 → f.below < 2 ^ 64 → length (fraction_word f) ≤ most_fraction
unfolding fraction_word
fraction_most f a b =
    omega (arith, length-append (decimal f.above) (stroke ∷ decimal f.below), digits f.above a, digits f.below b)

pub port_fit : (port packets received sent : ℕ) (f : Fraction) → port < 2 ^ 64 → packets < 2 ^ 64 → received < 2 ^ 64 → sent < 2 ^ 64
    → f.above < 2 ^ 64 → f.below < 2 ^ 64
    → length
    (words_line
    (port_word ∷ decimal port ∷ packets_word ∷ decimal packets ∷ in_word ∷ decimal received ∷ out_word ∷ decimal sent ∷ dropped_word ∷ fraction_word f ∷ []))
    ≤ text_size
port_fit port packets received sent f h1 h2 h3 h4 a b =
    omega (
      arith,
      line_most port_word
          (decimal port ∷ packets_word ∷ decimal packets ∷ in_word ∷ decimal received ∷ out_word ∷ decimal sent ∷ dropped_word ∷ fraction_word f ∷ [])
          (length port_word ∷ most_digits ∷ length packets_word ∷ most_digits ∷ length in_word ∷ most_digits ∷ length out_word ∷ most_digits ∷ length dropped_word ∷
          most_fraction ∷ []) (
            lit≤ tt,
            (
              digits port h1,
              (
                lit≤ tt,
                (
                  digits packets h2,
                  (
                    lit≤ tt,
                    (
                      digits received h3,
                      (
                        lit≤ tt,
                        (
                          digits sent h4,
                          (lit≤ tt, (fraction_most f a b, tt)),
                        ),
                      ),
                    ),
                  ),
                ),
              ),
            ),
          ),
    )
