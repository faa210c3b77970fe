-- An edition that there never was, to show what the laws take: its settings of the announce rate end before the penalty, which is 0 then. So would
-- today's edition look beside one that adds a field behind others of a record.
use Prim.Native.Nat.{ℕ, ◌≤◌}
use mathlib.Core.List.{List}
use mathlib.Core.Path.{◌≡◌, refl}
use lib.Dec.{lit<}
use lib.ListN.{length}
use Rattle.octets.specs.BigEndian.{big_endian}
use Rattle.codes.specs.Form.{Form, number_in, given, field, ◌&◌, that, as_record, code}
use Rattle.rules.specs.Refusals.{rate_settings_ok}
use Rattle.rules.specs.declared.RateSettings.{RateSettings}
use Rattle.tables.specs.Forms.{Edition, setting_width, to_rate_settings, rate_settings_form, today, relay_form_in}
use Rattle.tables.specs.Layout.{relay_of}
use Rattle.editions.specs.Editions.{bodies_at}
use Rattle.editions.specs.Steps.{tally_place, tables_now}
use Rattle.editions.proofs.Alike.{Brought, kept, lacked, first_kept, behind, in_field, in_rule_lem, in_record_lem}
use Rattle.editions.proofs.PortSizes.{size_there}
use Rattle.editions.proofs.EachBrings.{Brings}
use Rattle.editions.proofs.EditionLaws.{now_relay}

abbrev without_penalty : Form RateSettings
without_penalty =
    that rate_settings_ok
    (as_record to_rate_settings (λ s. (s.target, (s.grace, s.penalty))) (λ x. refl) (λ y. refl)
    (field "target" (number_in setting_width) & field "grace" (number_in setting_width) & field "penalty" (given {A = ℕ} 0)))

penalty_brought : Brought rate_settings_form without_penalty
unfolding big_endian
penalty_brought = in_rule_lem (in_record_lem (behind (behind (in_field (lacked 0 (lit< tt) refl)))))

abbrev grown : Edition
grown =
    record {
      rate_settings = without_penalty;
      rate_entry = today.rate_entry;
      notes = today.notes;
      blob_room = today.blob_room;
      port_size = today.port_size;
    }

grown_brings : Brings grown
grown_brings = record { rate_settings = penalty_brought; path_fields = first_kept kept; port_size = size_there }

-- a file of it holds what the tables then hold
pub grown_relay : (f : List ℕ) → tally_place grown ≤ length f → (code (relay_form_in grown)).read f bodies_at ≡ relay_of (tables_now grown f)
grown_relay f size = now_relay grown grown_brings f size
