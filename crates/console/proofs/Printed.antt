-- What a program prints that prints a text.
use Rattle.std.proofs.Common.{◌≡◌, ℕ, ◌-◌, List, ◌++◌, length, take, replicate, ap, ◌∙◌, subst, Ok, Err, Some, None, Option, Result, IfSome, OnOk}
use Rattle.std.proofs.Math.Seq.{take-append_seam}
use Rattle.std.specs.Bool.{⊤}
use Rattle.std.specs.Result.{result_and}
use Rattle.std.specs.Io.KnownBytes.{Appends}
use Rattle.std.proofs.KnownBytes.{Appends-trans}
use Rattle.text.specs.Text.{text_size, text_of}
use Rattle.text.specs.declared.Text.{Text}

-- the characters of a text
pub text_printed : (t : Text) (x : List ℕ) → t ≡ text_of x → take t.length t.bytes ≡ x
unfolding text_of
text_printed t x e = ap (λ (s : Text). take s.length s.bytes) e ∙ take-append_seam x (replicate (text_size - length x) 0)

-- the answer to an input of which the buffer holds as much as tells
module _ (given old new : Option (List ℕ)) (buffer : List ℕ) (n : ℕ) (answer : List ℕ → List ℕ) (t : Text)
    (shown : t ≡ text_of (answer (take n buffer))) (tells : (m : List ℕ) → answer (take (length buffer) m) ≡ answer m) where
  of_known : (known : Option (List ℕ)) → IfSome known (λ m. take n buffer ≡ take (length buffer) m) → Appends old new (take t.length t.bytes)
      → IfSome known (λ m. Appends old new (answer m))
  of_known None e p = tt
  of_known (Some m) e p = subst (Appends old new) (text_printed t _ shown ∙ ap answer e ∙ tells m) p

  pub answer_printed : {E : Type 0} (read printed : Result ⊤ E) → OnOk read (IfSome given (λ m. take n buffer ≡ take (length buffer) m))
      → OnOk printed (Appends old new (take t.length t.bytes))
      → OnOk (result_and read printed) (IfSome given (λ m. Appends old new (answer m)))
  answer_printed (Ok x) (Ok y) e p = of_known given e p
  answer_printed (Ok x) (Err y) e p = tt
  answer_printed (Err x) printed e p = tt

-- one print more, where all before went well
pub more_printed : {E : Type 0} (old mid new : Option (List ℕ)) (before more : List ℕ) (all last : Result ⊤ E)
    → OnOk all (Appends old mid before) → OnOk last (Appends mid new more) → OnOk (result_and all last) (Appends old new (before ++ more))
more_printed old mid new before more (Ok x) (Ok y) p q = Appends-trans old mid new before more p q
more_printed old mid new before more (Ok x) (Err y) p q = tt
more_printed old mid new before more (Err x) last p q = tt
