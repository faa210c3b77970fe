-- What an accepted packet writes into the tables, by what was planned, and what a note of the host's writes. Nothing is dropped here.
use Rattle.std.specs.Prelude.{ℕ, ◌+◌, ◌%◌, Bool, true, not, List, map, eqb, ltb, take, set}
use Rattle.octets.specs.Index.{◌and◌}
use Rattle.octets.specs.Choice.{◌then◌otherwise◌, ◌or◌}
use Rattle.packet.specs.Header.{type_two, is_data}
use Rattle.packet.specs.Read.{header_of, parts_of}
use Rattle.packet.specs.Hash.{link_id}
use Rattle.numbers.specs.Numbers.{blob_limit, return_count, hash_count, path_lifetime, hash_lifetime, return_lifetime, unproved_lifetime, proved_lifetime, address_width}
use Rattle.notes.specs.Notes.{no_notes}
use Rattle.rules.specs.Relay.{Slot, empty, used, Ring, make_ring, with_slots, make_path, with_path_rate, with_note, make_link, with_link_state, make_return, make_remembered, Blobs, Path, Return, Relay, holds, with_clock, with_paths, with_links, with_returns, with_hashes}
use Rattle.rules.specs.View.{View, view_at, is_live_return, path_place, link_place, return_place, free_path, free_link}
use Rattle.rules.specs.Arrival.{Arrival, header, hops, destination, hash, blob, is_link_proof}
use Rattle.rules.specs.Exempt.{exempt}
use Rattle.rules.specs.Blobs.{one_blob, store_blob}
use Rattle.rules.specs.Rate.{starts_at, entry_accepted, entry_revived, entry_dropped}
use Rattle.rules.specs.Ways.{Way, everywhere, by_path, along_link, by_return, blocked}
use Rattle.rules.specs.Tests.{for_marked_path, revives}
use Rattle.rules.specs.Answers.{reason_number}
use Rattle.rules.specs.Judging.{Plan, dropped, delivered, follows}
use Rattle.rules.specs.declared.Link.{Link}
use Rattle.rules.specs.declared.Reason.{Reason}
use Rattle.rules.specs.declared.RateEntry.{RateEntry}
use Rattle.notes.specs.declared.Note.{Note}

-- a ring of n places: the next one is written, and the one after it is next
unfoldable pub put_next : {A : Type 0} → ℕ → Slot A → Ring A → Ring A
put_next n slot ring = make_ring (set ring.slots ring.next slot) ((ring.next + 1) % n)

-- ---- remembered hashes
-- drops 1 and 2 remember nothing
abbrev pub remembers_drop : Reason → Bool
remembers_drop reason = ltb 2 (reason_number reason)

unfoldable pub remembers_plan : Plan → Bool
remembers_plan (dropped reason) = remembers_drop reason
remembers_plan delivered = true
remembers_plan (follows w) = true

-- wish 6, of an announce that skips test 2: "its hash is remembered if it isn't already live", whether a later test drops it or not. A live one is not renewed
unfoldable pub already_live : View → Arrival → Bool
already_live v a = for_marked_path v a and v.remembered (hash a)

-- nor is an exempt packet remembered, whatever was planned: wish 2
unfoldable pub remembers : View → Arrival → Plan → Bool
remembers v a todo = not (exempt a.bytes) and not (already_live v a) and remembers_plan todo

-- the hash is now remembered in the next ring place, the oldest's once 1,024 are held
unfoldable pub remember : Arrival → Relay → Relay
remember a r =
    with_hashes
    (put_next hash_count (used (make_remembered (hash a) (a.clock + hash_lifetime))) r.hashes)
    r

-- ---- paths
-- an accepted announce sets arrival port, hops, expiry, and next hop (relay address, or the destination if type 1), and adds its blob; wish 6: "a blob already
-- stored isn't stored twice"
unfoldable pub announced_blobs : Arrival → Slot Path → Blobs
announced_blobs a empty = one_blob blob_limit (blob a)
announced_blobs a (used p) = store_blob blob_limit (blob a) p.blobs

-- next hop: the relay address, or the destination if type 1
abbrev pub next_hop_of : List ℕ → List ℕ
next_hop_of p = type_two (header_of p) then (parts_of p).relay otherwise (parts_of p).destination

-- a path's expiry, by the arrival port's mode
abbrev pub path_expiry : View → Arrival → ℕ
path_expiry v a = a.clock + path_lifetime (v.mode a.port)

-- the rate rule's fields: a new path starts with none, a known one has what the rule leaves, and where 15 isn't made, violations and blocked-until stay
unfoldable pub announced_rate : View → Arrival → Slot Path → RateEntry
announced_rate v a empty = starts_at a.clock
announced_rate v a (used p) = revives a p then entry_revived a.clock p.rate otherwise entry_accepted v.rate a.clock p.rate

-- wish 6: "Acceptance clears the mark", and a new path has none
unfoldable pub announced_path : View → Arrival → Slot Path → Path
announced_path v a known =
    make_path (destination a) a.port (hops a) (next_hop_of a.bytes) (path_expiry v a) (announced_rate v a known) no_notes (announced_blobs a known)

-- a known path keeps its slot; a new one overwrites the lowest slot empty or expired
unfoldable pub announced_place : Arrival → Slot Path → Relay → ℕ
announced_place a empty r = free_path a.clock r
announced_place a (used p) r = path_place a.clock r (destination a)

unfoldable pub put_path : View → Arrival → Slot Path → Relay → Relay
put_path v a known r = with_paths (set r.paths (announced_place a known r) (used (announced_path v a known))) r

-- a rate drop changes violations and blocked-until of its destination's live path alone; last stays
unfoldable pub limit_path : View → Arrival → Slot Path → Relay → Relay
limit_path v a empty r = r
limit_path v a (used p) r =
    with_paths
    (set r.paths (path_place a.clock r (destination a)) (used (with_path_rate (entry_dropped v.rate a.clock p.rate) p)))
    r

-- wish 6: "Let the host mark a destination's live path unresponsive."
unfoldable pub noted_slot : Note → Slot Path → Slot Path
noted_slot note empty = empty
noted_slot note (used p) = used (with_note note p)

unfoldable pub note_path : Note → List ℕ → ℕ → Relay → Relay
note_path note destination clock r =
    with_paths (set r.paths (path_place clock r destination) (noted_slot note ((view_at clock r).path destination))) r

-- ---- return records
-- first 16 of packet hash, arrival port, leaving port
unfoldable pub return_key : Arrival → List ℕ
return_key a = take address_width (hash a)

unfoldable pub return_record : Arrival → Path → Return
return_record a p = make_return (return_key a) a.port p.port (a.clock + return_lifetime)

unfoldable pub emptied_if : {A : Type 0} → (A → Bool) → Slot A → Slot A
emptied_if test slot = holds test slot then empty otherwise slot

unfoldable pub emptied_where : {A : Type 0} → (A → Bool) → Ring A → Ring A
emptied_where test ring = with_slots (map (emptied_if test) ring.slots) ring

-- in the next ring place, and any other live one of the same key is emptied
unfoldable pub put_return : Arrival → Path → Relay → Relay
put_return a p r =
    with_returns
    (put_next return_count (used (return_record a p)) (emptied_where (is_live_return a.clock (return_key a)) r.returns))
    r

-- an ordinary proof's record is emptied
unfoldable pub empty_return : Arrival → Relay → Relay
empty_return a r =
    with_returns
    (with_slots (set r.returns.slots (return_place a.clock r (destination a)) empty) r.returns)
    r

-- ---- links
-- a forwarded link request makes a link record: taken hops (the request's) and remaining hops (the path's) are kept apart
unfoldable pub link_record : Arrival → Path → Link
link_record a p = make_link (link_id a.bytes) a.port p.port (hops a) p.hops (a.clock + unproved_lifetime p.hops)

-- in the lowest slot empty or expired
unfoldable pub put_link : Arrival → Path → Relay → Relay
put_link a p r = with_links (set r.links (free_link a.clock r) (used (link_record a p))) r

-- each packet carried renews the link, and a link proof marks it proved
unfoldable pub renewed_link : Arrival → Link → Link
renewed_link a l = with_link_state (l.proved or is_link_proof a.bytes) (a.clock + proved_lifetime) l

unfoldable pub renew_link : Arrival → Link → Relay → Relay
renew_link a l r = with_links (set r.links (link_place a.clock r (destination a)) (used (renewed_link a l))) r

-- ---- all of it
-- data forwarded by a path makes a return record, a link request a link record
unfoldable pub write_way : View → Arrival → Way → Relay → Relay
write_way v a (everywhere known) r = put_path v a known r
write_way v a (by_path p) r = is_data (header a) then put_return a p r otherwise put_link a p r
write_way v a (along_link l) r = renew_link a l r
write_way v a (by_return t) r = empty_return a r
write_way v a (blocked why) r = r

-- wish 5: a drop by test 15 writes its path, and no other drop writes one
abbrev pub is_rate_drop : Reason → Bool
is_rate_drop reason = eqb (reason_number reason) 15

unfoldable pub write_drop : View → Arrival → Reason → Relay → Relay
write_drop v a reason r = is_rate_drop reason then limit_path v a (v.path (destination a)) r otherwise r

unfoldable pub write_plan : View → Arrival → Plan → Relay → Relay
write_plan v a (dropped reason) r = write_drop v a reason r
write_plan v a delivered r = r
write_plan v a (follows w) r = write_way v a w r

-- every accepted packet, dropped or not, sets the last clock
unfoldable pub stamp : Arrival → Bool → Relay → Relay
stamp a remembered r = remembered then remember a (with_clock a.clock r) otherwise with_clock a.clock r

unfoldable pub enact : View → Arrival → Plan → Relay → Relay
enact v a plan r = stamp a (remembers v a plan) (write_plan v a plan r)
