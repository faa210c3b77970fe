-- What the writes of an accepted packet leave in the tables' bytes t: a record of its own, and then the stamp of clock and hash.
-- For the contracts of helpers: not part of what a reader must believe.
use Rattle.std.specs.Prelude.{ℕ, ◌+◌, Bool, true, not, List, take}
use Rattle.octets.specs.Index.{◌and◌}
use Rattle.octets.specs.Choice.{◌then◌otherwise◌}
use Rattle.packet.specs.Announce.{emission_of}
use Rattle.numbers.specs.Numbers.{blob_limit, hash_lifetime, return_lifetime, address_width}
use Rattle.rules.specs.Relay.{Blobs, Path}
use Rattle.rules.specs.Exempt.{exempt}
use Rattle.rules.specs.Blobs.{one_blob, store_blob}
use Rattle.rules.specs.Rate.{starts_at, entry_accepted, entry_revived}
use Rattle.rules.specs.Writes.{remembers_drop, already_live}
use Rattle.tables.specs.Places.{paths_at, path_width}
use Rattle.tables.specs.Records.{blobs_of}
use Rattle.tables.specs.Layout.{record_at, relay_of}
use Rattle.update.specs.declared.Announced.{Announced}
use Rattle.update.specs.Written.{clock_written, hash_written, announced, path_written, return_written, returns_emptied}
use Rattle.rules.specs.declared.RateEntry.{RateEntry}
use Rattle.plan.specs.declared.Arrived.{Arrived}
use Rattle.plan.specs.declared.Decision.{Decision}
use Rattle.plan.specs.Decided.{arrival_of, seen, path_at}
use Rattle.plan.specs.Kinds.{revived_by}
use Rattle.plan.specs.declared.Decision.TheVariants.{Drop, Deliver, Announce, Data, Request, Carry, Receipt}

-- ---- the stamp
-- whether what was decided lets the hash be remembered
abbrev pub decision_remembers : Decision → Bool
decision_remembers (Drop reason) = remembers_drop reason
decision_remembers Deliver = true
decision_remembers (Announce place known) = true
decision_remembers (Data path) = true
decision_remembers (Request path place id) = true
decision_remembers (Carry link port) = true
decision_remembers (Receipt place port) = true

-- .. and whether it is: an exempt packet's never, nor one that is already live
unfoldable pub remembers_decided : List ℕ → Arrived → List ℕ → Decision → Bool
remembers_decided packet m t d = not (exempt packet) and not (already_live (seen m t) (arrival_of packet m)) and decision_remembers d

-- the clock, and the hash, if it is remembered, at a place of its ring
unfoldable pub stamped : List ℕ → ℕ → Bool → List ℕ → ℕ → List ℕ
stamped t place remembered hash clock =
    remembered
    then hash_written (clock_written t clock) place (record { hash = hash; expiry = clock + hash_lifetime })
    otherwise clock_written t clock

-- ---- an announce's path
unfoldable pub blobs_stored : List ℕ → ℕ → Bool → List ℕ → Blobs
blobs_stored t place known blob =
    known
    then store_blob blob_limit blob (blobs_of (record_at paths_at path_width t place))
    otherwise one_blob blob_limit blob

-- of the known path p: test 15 isn't made where the announce revives it
unfoldable pub rate_known : List ℕ → Path → ℕ → List ℕ → RateEntry
rate_known t p clock blob =
    revived_by (emission_of blob) p
    then entry_revived clock p.rate
    otherwise entry_accepted (relay_of t).rate clock p.rate

unfoldable pub rate_stored : List ℕ → ℕ → Bool → ℕ → List ℕ → RateEntry
rate_stored t place known clock blob = known then rate_known t (path_at t place) clock blob otherwise starts_at clock

unfoldable pub path_put : List ℕ → ℕ → Bool → Announced → List ℕ → List ℕ
path_put t place known path blob = path_written t place (announced path (blobs_stored t place known blob))

-- ---- a return record, whose key is the first 16 of the hash
unfoldable pub return_put : List ℕ → ℕ → ℕ → List ℕ → ℕ → List ℕ
return_put t arrival leaving hash clock =
    return_written (returns_emptied clock (take address_width hash) t) (relay_of t).returns.next
    (record { key = take address_width hash; arrival = arrival; leaving = leaving; expiry = clock + return_lifetime })
