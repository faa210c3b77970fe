-- What each write leaves in the tables' bytes t: a record over the one at its place, and what goes with it.
-- For the contracts of helpers: not part of what a reader must believe.
use Rattle.std.specs.Prelude.{ℕ, ◌+◌, ◌-◌, ◌*◌, ◌%◌, List, ◌∷◌, ◌++◌}
use Rattle.octets.specs.Choice.{◌then◌otherwise◌}
use Rattle.octets.specs.Part.{patch}
use Rattle.octets.specs.BigEndian.{big_endian}
use Rattle.numbers.specs.Numbers.{blob_limit, return_count, hash_count}
use Rattle.notes.specs.Notes.{no_notes, notes_bytes}
use Rattle.rules.specs.Relay.{empty, used, Blobs, Path, Return, Remembered, holds, with_returns}
use Rattle.rules.specs.View.{is_live_return}
use Rattle.rules.specs.Writes.{emptied_where}
use Rattle.rules.specs.declared.Link.{Link}
use Rattle.rules.specs.declared.RateEntry.{RateEntry}
use Rattle.notes.specs.declared.Notes.{Notes}
use Rattle.codes.specs.Form.{code}
use Rattle.tables.specs.Forms.{rate_entry_form, blobs_form, Head, head_form, to_path}
use Rattle.tables.specs.Places.{time_width, ring_width, blob_width, path_width, link_width, return_width, hash_width, clock_at, paths_at, links_at, return_next_at, returns_at, hash_next_at, hashes_at}
use Rattle.tables.specs.Fields.{path_rate_at, path_notes_at, path_blobs_at}
use Rattle.tables.specs.Records.{slot_of, slot_bytes, path_bytes, link_bytes, return_of, return_bytes, hash_bytes}
use Rattle.tables.specs.Layout.{record_at, relay_of, bytes_of}
use Rattle.update.specs.declared.Announced.{Announced}

unfoldable pub clock_written : List ℕ → ℕ → List ℕ
clock_written t clock = patch t clock_at (big_endian time_width clock)

-- ---- a hash at a place of the ring, which moves on
unfoldable pub hash_written : List ℕ → ℕ → Remembered → List ℕ
hash_written t place m =
    patch (patch t (hashes_at + hash_width * place) (slot_bytes hash_width hash_bytes (used m)))
    hash_next_at (big_endian ring_width ((place + 1) % hash_count))

-- ---- a path
unfoldable pub path_written : List ℕ → ℕ → Path → List ℕ
path_written t place p = patch t (paths_at + path_width * place) (slot_bytes path_width path_bytes (used p))

-- last accepted announce, violations and blocked-until alone
abbrev pub rate_width : ℕ
rate_width = (code rate_entry_form).width

unfoldable pub rate_bytes : RateEntry → List ℕ
rate_bytes = (code rate_entry_form).write

unfoldable pub rate_written : List ℕ → ℕ → RateEntry → List ℕ
rate_written t place rate = patch t (paths_at + path_width * place + path_rate_at) (rate_bytes rate)

-- what the host has noted alone
unfoldable pub notes_written : List ℕ → ℕ → Notes → List ℕ
notes_written t place notes = patch t (paths_at + path_width * place + path_notes_at) (notes_bytes notes)

-- what an announce sets of a path, and the path with these blobs, of which nothing is noted
abbrev pub head_of : Announced → Head
head_of x = (x.destination, (x.port, (x.hops, (x.next_hop, x.expiry))))

unfoldable pub announced : Announced → Blobs → Path
announced x blobs = to_path (head_of x, (x.rate, (no_notes, blobs)))

-- a record's bytes before its rate, and before its blobs
abbrev pub head_width : ℕ
head_width = path_rate_at

unfoldable pub head_bytes : Announced → List ℕ
head_bytes x = 1 ∷ (code head_form).write (head_of x)

abbrev pub start_width : ℕ
start_width = path_blobs_at

unfoldable pub start_bytes : Announced → List ℕ
start_bytes x = head_bytes x ++ (rate_bytes x.rate ++ notes_bytes no_notes)

-- the bytes of the blob places behind the oldest
abbrev pub newer_width : ℕ
newer_width = blob_width * (blob_limit - 1)

-- the blobs that these bytes hold
unfoldable pub blobs_in : List ℕ → Blobs
blobs_in s = (code blobs_form).read s 0

-- ---- a link
unfoldable pub link_written : List ℕ → ℕ → Link → List ℕ
link_written t place l = patch t (links_at + link_width * place) (slot_bytes link_width link_bytes (used l))

-- ---- a return record at a place of the ring, which moves on
unfoldable pub return_written : List ℕ → ℕ → Return → List ℕ
return_written t place x =
    patch (patch t (returns_at + return_width * place) (slot_bytes return_width return_bytes (used x)))
    return_next_at (big_endian ring_width ((place + 1) % return_count))

-- an emptied one is all zeros
unfoldable pub return_emptied : List ℕ → ℕ → List ℕ
return_emptied t place = patch t (returns_at + return_width * place) (slot_bytes return_width return_bytes empty)

-- .. where it is a live one of the key
unfoldable pub emptied_if_live : ℕ → List ℕ → List ℕ → ℕ → List ℕ
emptied_if_live clock key t place =
    holds (is_live_return clock key) (slot_of return_of (record_at returns_at return_width t place)) then return_emptied t place otherwise t

-- every live one of the key emptied
unfoldable pub returns_emptied : ℕ → List ℕ → List ℕ → List ℕ
returns_emptied clock key t = bytes_of (with_returns (emptied_where (is_live_return clock key) (relay_of t).returns) (relay_of t))
