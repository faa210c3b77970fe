-- What a call on the tables answers, case by case: its rows and the relay after it are all that a call has of its own.
use Prim.Native.Nat.{ℕ}
use mathlib.Core.Bool.{true, false}
use mathlib.Core.List.{List}
use mathlib.Core.Path.{◌≡◌, sym, ap, ◌∙◌}
use lib.ListN.{length}
use borrow.Author.Tests.{ne_eqb}
use Rattle.octets.specs.Bytes.{Bytes}
use Rattle.octets.specs.Choice.{◌then◌otherwise◌}
use Rattle.octets.specs.Listed.{first_of}
use Rattle.rules.specs.Calls.{settled, TableCall, rule_of, table_refusal, settle}
use Rattle.tables.specs.Places.{table_size}
use Rattle.tables.specs.Layout.{relay_of, bytes_of, well_formed}
use Rattle.tables.specs.Called.{Called, refused, written, called, call_on, Returns}
use Rattle.tables.proofs.Whole.{again, ok_relay, formed}

-- a contract from what the call is
pub answers : {x : Called} {n : ℕ} {t : List ℕ} → x ≡ refused n t → Returns x n t
answers e = (ap (λ (c : Called). c.refusal) (sym e), ap (λ (c : Called). c.tables) (sym e))

-- .. where the tables were written
pub answers_after : {x : Called} {n : ℕ} {t t' : List ℕ} → t' ≡ t → x ≡ refused n t → Returns x n t'
answers_after w e = ((answers e).0, w ∙ (answers e).1)

pub size_of : (t : List ℕ) → well_formed t ≡ true → length t ≡ table_size
size_of t h = (formed t h).size

module _ (c : TableCall) (t : List ℕ) where
  pub call_bad : well_formed t ≡ false → Returns (call_on t c) 7 t
  unfolding called ◌then◌otherwise◌
  call_bad h = answers (rw h)

  module _ (h : well_formed t ≡ true) where
    rows_decide : (n : ℕ) → first_of ((rule_of c).rows (relay_of t)) 0 ≡ n → table_refusal c (relay_of t) ≡ n
    unfolding table_refusal first_of ◌then◌otherwise◌
    rows_decide n e = rw (ok_relay t h) e

    pub call_refused_lem : Bytes t → (n : ℕ) → (n ≡ 0 → ⊥) → first_of ((rule_of c).rows (relay_of t)) 0 ≡ n → Returns (call_on t c) n t
    unfolding called written settle settled ◌then◌otherwise◌
    call_refused_lem b n some e = answers (rw (h, rows_decide n e, ne_eqb n 0 some, again t b h))

    pub call_done : first_of ((rule_of c).rows (relay_of t)) 0 ≡ 0 → {after : List ℕ} → after ≡ bytes_of ((rule_of c).after (relay_of t))
        → Returns (call_on t c) 0 after
    unfolding called written settle settled ◌then◌otherwise◌
    call_done e w = answers_after w (rw (h, rows_decide 0 e))
