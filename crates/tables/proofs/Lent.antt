-- A record that is lent as the slice of its bytes, and a section of such records: what the laws of its form say.
use Prim.Native.Nat.{ℕ, ◌+◌, ◌*◌, ◌≤◌, ◌<◌}
use native.Mathlib.Omega.{arith}
use mathlib.Core.Bool.{Bool, true}
use mathlib.Core.List.{List}
use mathlib.Core.Path.{◌≡◌}
use lib.ListN.{length}
use Rattle.octets.specs.Bytes.{Bytes}
use Rattle.codes.specs.Form.{Form, slot, code}
use Rattle.codes.proofs.Law.{whole_again}
use Rattle.codes.proofs.Many.{many_end}
use Rattle.codes.proofs.Forms.{lawful}
use Rattle.tables.specs.Forms.{port_form, path_form, link_form, return_form}
use Rattle.tables.specs.Places.{port_width, path_width, link_width, return_width}
use Rattle.tables.specs.Records.{port_of, port_bytes, port_bytes_ok, slot_of, slot_bytes, path_of, path_bytes, path_bytes_ok, link_of, link_bytes, link_bytes_ok, return_of, return_bytes, return_bytes_ok}

pub record Lent {A : Type 0} (w : ℕ) (write : A → List ℕ) (read : List ℕ → A) (ok : List ℕ → Bool) : Type 0 where
  pub wide : (x : A) → length (write x) ≡ w
  pub again : (b : List ℕ) → Bytes b → length b ≡ w → ok b ≡ true → write (read b) ≡ b

lent : {A : Type 0} (f : Form A) → Lent (code f).width (code f).write (λ b. (code f).read b 0) (λ b. (code f).fine b 0)
lent f = record { wide = (lawful f).wide; again = λ b bytes l h. whole_again (lawful f) b bytes l h }

pub port_lent : Lent port_width port_bytes port_of port_bytes_ok
unfolding port_bytes port_of port_bytes_ok
port_lent = lent port_form

pub path_lent : Lent path_width (slot_bytes path_width path_bytes) (slot_of path_of) path_bytes_ok
unfolding slot_of path_bytes path_of path_bytes_ok
path_lent = lent (slot path_form)

pub link_lent : Lent link_width (slot_bytes link_width link_bytes) (slot_of link_of) link_bytes_ok
unfolding slot_of link_bytes link_of link_bytes_ok
link_lent = lent (slot link_form)

pub return_lent : Lent return_width (slot_bytes return_width return_bytes) (slot_of return_of) return_bytes_ok
unfolding slot_of return_bytes return_of return_bytes_ok
return_lent = lent (slot return_form)

-- ---- a section of n elements from base on
pub record_end : (base w n i : ℕ) → i < n → base + w * i + w ≤ base + w * n
record_end base w n i l = omega (arith, many_end w n i l)
