-- A record that is written field by field, each at its place.
use Prim.Native.Nat.{ℕ, ◌+◌, ◌≤◌}
use native.Mathlib.Nat.{add-zero}
use native.Mathlib.Omega.{arith}
use mathlib.Core.List.{List, [], ◌∷◌}
use mathlib.Core.Path.{◌≡◌, refl, ap, ◌∙◌}
use lib.ListN.{length}
use Rattle.octets.specs.Part.{patch}
use Rattle.octets.proofs.Part.{patch_length, patch_join}
use Rattle.codes.specs.Codes.{used, slot_bytes}
use Rattle.codes.specs.Form.{Form, byte, mark, number_in, octets_in, given, field, ◌&◌, many, firsts_of, slot, that, as_record, code}
use Rattle.codes.proofs.Forms.{lawful}

-- t with the fields of x written one after the other, the first at a + k
abbrev pub written : {A : Type 0} (f : Form A) → A → List ℕ → ℕ → ℕ → List ℕ
written byte x t a k = patch t (a + k) ((code byte).write x)
written mark x t a k = patch t (a + k) ((code mark).write x)
written (number_in n) x t a k = patch t (a + k) ((code (number_in n)).write x)
written (octets_in n) x t a k = patch t (a + k) ((code (octets_in n)).write x)
written (given v) x t a k = patch t (a + k) []
written (field name f) x t a k = patch t (a + k) ((code f).write x)
written (f & g) x t a k = written g x.1 (written f x.0 t a k) a (k + (code f).width)
written (many n spare f) x t a k = patch t (a + k) ((code (many n spare f)).write x)
written (firsts_of m n l spare f) x t a k = patch t (a + k) ((code (firsts_of m n l spare f)).write x)
written (slot f) x t a k = patch t (a + k) ((code (slot f)).write x)
written (that rule f) x t a k = written f x t a k
written (as_record to from same there f) x t a k = written f (from x) t a k

all_written : {A : Type 0} (f : Form A) (x : A) (t : List ℕ) (a k : ℕ) → a + k + (code f).width ≤ length t
    → written f x t a k ≡ patch t (a + k) ((code f).write x)
all_written byte x t a k l = refl
all_written mark x t a k l = refl
all_written (number_in n) x t a k l = refl
all_written (octets_in n) x t a k l = refl
all_written (given v) x t a k l = refl
all_written (field name f) x t a k l = refl
all_written (f & g) x t a k l =
    let w = (lawful f).wide x.0 in
    let v = (lawful g).wide x.1 in
    let one : written f x.0 t a k ≡ patch t (a + k) ((code f).write x.0) = all_written f x.0 t a k (omega arith) in
    let e = patch_length t (a + k) ((code f).write x.0) (omega arith) in
    let long : length (written f x.0 t a k) ≡ length t = ap length one ∙ e in
    all_written g x.1 (written f x.0 t a k) a (k + (code f).width) (omega arith)
    ∙ ap (λ (r : List ℕ). patch r (a + (k + (code f).width)) ((code g).write x.1)) one
    ∙ patch_join t (a + k) (a + (k + (code f).width)) ((code f).write x.0) ((code g).write x.1) (omega arith) (omega arith)
all_written (many n spare f) x t a k l = refl
all_written (firsts_of m n m≤n spare f) x t a k l = refl
all_written (slot f) x t a k l = refl
all_written (that rule f) x t a k l = all_written f x t a k l
all_written (as_record to from same there f) x t a k l = all_written f (from x) t a k l

module _ {A : Type 0} (f : Form A) (x : A) (t : List ℕ) (a : ℕ) where
  pub fields_written : a + (code f).width ≤ length t → written f x t a 0 ≡ patch t a ((code f).write x)
  fields_written l = all_written f x t a 0 (omega arith) ∙ ap (λ (k : ℕ). patch t k ((code f).write x)) (add-zero a)

  -- behind a mark
  pub marked_written : a + (1 + (code f).width) ≤ length t → written f x (patch t a (1 ∷ [])) a 1 ≡ patch t a (1 ∷ (code f).write x)
  marked_written l =
      let e = patch_length t a (1 ∷ []) (omega arith) in
      let w = (lawful f).wide x in
      all_written f x (patch t a (1 ∷ [])) a 1 (omega arith) ∙ patch_join t a (a + 1) (1 ∷ []) ((code f).write x) refl (omega arith)

  pub record_written : a + (code (slot f)).width ≤ length t
      → written f x (patch t a (1 ∷ [])) a 1 ≡ patch t a (slot_bytes (code (slot f)).width (code f).write (used x))
  unfolding slot_bytes
  record_written l = marked_written l
