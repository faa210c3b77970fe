-- What a file says to a load, by the rules: it is refused by both alike, and what it says then is a relay that tables hold and a tally that fits its bytes. A
-- saved one says what was saved.
use Prim.Native.Nat.{ℕ}
use mathlib.Core.Bool.{Bool, true, false}
use mathlib.Core.List.{List}
use mathlib.Core.Path.{◌≡◌, refl, sym, ap, subst, ◌∙◌}
use lib.Dec.{eqb}
use lib.ListN.{replicate, length-replicate}
use borrow.Author.Tests.{eqb-true}
use Rattle.octets.specs.Bytes.{Bytes}
use Rattle.octets.specs.Choice.{◌then◌otherwise◌}
use Rattle.octets.proofs.Choice.{then_true, then_false}
use Rattle.rules.specs.Relay.{Relay}
use Rattle.rules.specs.Refusals.{tables_ok}
use Rattle.rules.specs.Saved.{save_refusal as save_refusal_of, load_refusal as load_refusal_of}
use Rattle.rules.specs.Calls.{new_tally}
use Rattle.rules.specs.declared.Tally.{Tally}
use Rattle.rules.proofs.History.{TallyFits}
use Rattle.tables.specs.Places.{table_size}
use Rattle.tables.specs.Layout.{relay_of, bytes_of}
use Rattle.tables.specs.Shape.{shaped}
use Rattle.tables.proofs.Whole.{ok_relay, shaped_of, back, ok_bytes, bytes_bytes}
use Rattle.codes.specs.Form.{code}
use Rattle.editions.specs.Editions.{current}
use Rattle.saved.specs.File.{file_of}
use Rattle.saved.specs.Save.{save_refusal, save_rows}
use Rattle.saved.specs.Load.{load_refusal, held_in, LoadedOn, load_on}
use Rattle.saved.specs.Format.{said_by, saved_format}
use Rattle.saved.proofs.LoadLaws.{takes, load_done, load_number}
use Rattle.saved.proofs.Made.{made_taken, made_held, made_bytes}
use Rattle.saved.proofs.RoundTrip.{held_right, loaded_formed, loaded_bytes, loaded_fits, loaded_relay}

-- a save of a relay's bytes is refused as that of the relay
pub save_refused_alike : (r : Relay) → shaped r ≡ true → tables_ok r ≡ true → (room : ℕ) → save_refusal (bytes_of r) room ≡ save_refusal_of saved_format room r
unfolding save_refusal save_rows save_refusal_of
save_refused_alike r s ok room = rw (ok, ok_bytes r s ok)

module _ (f : List ℕ) (b : Bytes f) where
  -- a file that isn't refused
  module _ (ok : load_refusal f table_size ≡ 0) where
    -- loaded into any tables of the right size
    into : List ℕ
    into = replicate table_size 0

    loads : (load_on f into new_tally).refusal ≡ 0
    unfolding into
    loads = load_number f into new_tally ∙ ap (load_refusal f) (length-replicate {A = ℕ} table_size 0) ∙ ok

    held : relay_of (load_on f into new_tally).tables ≡ (held_in f).0
    held = loaded_relay f into new_tally b loads

    pub said_ok : tables_ok (held_in f).0 ≡ true
    said_ok = ap tables_ok (sym held) ∙ ok_relay _ (loaded_formed f into new_tally b loads)

    pub said_shaped : shaped (held_in f).0 ≡ true
    said_shaped = ap shaped (sym held) ∙ shaped_of _ (loaded_bytes f into new_tally b loads) (loaded_formed f into new_tally b loads)

    pub said_fits : TallyFits (held_in f).1
    unfolding into
    said_fits =
        subst TallyFits (ap (λ (x : LoadedOn). x.tally)
        (load_done f into new_tally (ap (load_refusal f) (length-replicate {A = ℕ} table_size 0) ∙ ok)))
        (loaded_fits f into new_tally b loads)

  pub load_refused_alike : load_refusal_of (said_by f) ≡ load_refusal f table_size
  unfolding load_refusal_of said_by
  load_refused_alike = go (eqb (load_refusal f table_size) 0) refl
    where
      go : (v : Bool) → eqb (load_refusal f table_size) 0 ≡ v
          → (eqb (load_refusal f table_size) 0 then (tables_ok (held_in f).0 then 0 otherwise 24) otherwise load_refusal f table_size) ≡ load_refusal f table_size
      go true e =
          let zero : load_refusal f table_size ≡ 0 = eqb-true _ 0 e in
          then_true _ _ e ∙ then_true 0 24 (said_ok zero) ∙ sym zero
      go false e = then_false _ _ e

-- the file of a relay and a tally
module _ (r : Relay) (s : shaped r ≡ true) (ok : tables_ok r ≡ true) (t : Tally) (fits : TallyFits t) where
  good : (code current).Good (r, t)
  good = subst (λ (x : Relay). (code current).Good (x, t)) (back r s ok) (held_right (bytes_of r) t (bytes_bytes r s ok) (ok_bytes r s ok) fits)

  pub file_bytes : Bytes (file_of (r, t))
  file_bytes = made_bytes (r, t) good

  pub file_said : said_by (file_of (r, t)) ≡ record { refusal = 0; relay = r; tally = t }
  unfolding said_by
  file_said = λ i.
      record {
        refusal = takes (file_of (r, t)) table_size (made_taken (r, t) good) i;
        relay = (made_held (r, t) good i).0;
        tally = (made_held (r, t) good i).1;
      }
