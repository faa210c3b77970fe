-- How a tally crosses to hosts: six numbers, in the order of its fields.
use Rattle.std.specs.Prelude.{ℕ, ◌+◌, List, [], ◌∷◌, get_or}
use Rattle.rules.specs.declared.Tally.{Tally}

abbrev pub total_at : ℕ
total_at = 0

abbrev pub dropped_at : ℕ
dropped_at = total_at + 1

abbrev pub delivered_at : ℕ
delivered_at = dropped_at + 1

abbrev pub forwarded_at : ℕ
forwarded_at = delivered_at + 1

abbrev pub spread_at : ℕ
spread_at = forwarded_at + 1

abbrev pub kept_at : ℕ
kept_at = spread_at + 1

abbrev pub tally_count : ℕ
tally_count = kept_at + 1

unfoldable pub tally_numbers : Tally → List ℕ
tally_numbers t = t.total ∷ t.dropped ∷ t.delivered ∷ t.forwarded ∷ t.spread ∷ t.kept ∷ []

unfoldable pub tally_in : List ℕ → Tally
tally_in ns =
    record {
      total = get_or ns total_at 0;
      dropped = get_or ns dropped_at 0;
      delivered = get_or ns delivered_at 0;
      forwarded = get_or ns forwarded_at 0;
      spread = get_or ns spread_at 0;
      kept = get_or ns kept_at 0;
    }
