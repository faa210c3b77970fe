-- What each edition has of the fields that a later one brought: the laws speak of single editions here alone. The next one takes its place in the list,
-- and older ones say what they lack of it: `lacked`, or `in_record_lem (behind (in_field (lacked ..)))` for the last field of a record.
use Prim.Native.Nat.{ℕ, zero, suc}
use mathlib.Core.List.{List, [], ◌∷◌}
use mathlib.Core.Path.{refl}
use lib.Dec.{lit<}
use lib.ListN.{get_or}
use Rattle.octets.specs.Index.{◌and◌}
use Rattle.octets.specs.Choice.{◌then◌otherwise◌}
use Rattle.octets.specs.BigEndian.{big_endian}
use Rattle.codes.specs.Codes.{mark_of}
use Rattle.notes.specs.Notes.{no_notes, notes_form}
use Rattle.rules.specs.Relay.{no_rate_settings, no_rate_entry}
use Rattle.rules.specs.Refusals.{rate_settings_ok}
use Rattle.tables.specs.Forms.{Edition, rate_settings_form, rate_entry_form}
use Rattle.editions.specs.Editions.{edition1, edition2, edition3, edition4, edition5, editions}
use Rattle.editions.proofs.Alike.{Brought, kept, lacked, BroughtTwo, first_kept, both_lacked}
use Rattle.editions.proofs.PortSizes.{SizeBrought, size_there, size_fresh}

pub record Brings (e : Edition) : Type 1 where
  pub rate_settings : Brought rate_settings_form e.rate_settings
  pub path_fields : BroughtTwo rate_entry_form notes_form e.rate_entry e.notes
  pub port_size : SizeBrought e.port_size

first_brings : Brings edition1
unfolding big_endian rate_settings_ok mark_of ◌and◌ ◌then◌otherwise◌
first_brings =
    record {
      rate_settings = lacked no_rate_settings ((lit< tt, (lit< tt, lit< tt)), refl) refl;
      path_fields = both_lacked no_rate_entry no_notes ((lit< tt, (lit< tt, lit< tt)), tt) refl;
      port_size = size_fresh;
    }

second_brings : Brings edition2
unfolding mark_of ◌then◌otherwise◌
second_brings = record { rate_settings = kept; path_fields = first_kept (lacked no_notes tt refl); port_size = size_fresh }

third_brings : Brings edition3
third_brings = record { rate_settings = kept; path_fields = first_kept kept; port_size = size_fresh }

fourth_brings : Brings edition4
fourth_brings = record { rate_settings = kept; path_fields = first_kept kept; port_size = size_fresh }

fifth_brings : Brings edition5
fifth_brings = record { rate_settings = kept; path_fields = first_kept kept; port_size = size_there }

-- ---- one for each in the list, and so for that of any number
infixr 5 ◌also◌
data All : List Edition → Type 1 where
  none : All []
  ◌also◌ : {e : Edition} {es : List Edition} → Brings e → All es → All (e ∷ es)

all_bring : All editions
all_bring = first_brings also second_brings also third_brings also fourth_brings also fifth_brings also none

at : {d : Edition} → Brings d → {es : List Edition} → All es → (i : ℕ) → Brings (get_or es i d)
at first none i = first
at first (x also xs) zero = x
at first (x also xs) (suc i) = at first xs i

pub each_brings : (i : ℕ) → Brings (get_or editions i edition1)
each_brings = at first_brings all_bring
