-- Document 02, wish 13: what each accepted call makes known, and so what is known after a list of them. This is all that documents 01 and 02 say of what a
-- relay keeps, told without a table. How a packet is judged (`plan`) and which records it leaves (`announced_path`, `return_record`, `link_record`,
-- `renewed_link`) are the rules' own: they read no table either.
use Rattle.std.specs.Prelude.{ℕ, ◌+◌, ◌-◌, true, false, List, [], ◌∷◌}
use Rattle.octets.specs.Choice.{◌then◌otherwise◌}
use Rattle.packet.specs.Header.{is_data}
use Rattle.packet.specs.Hash.{link_id}
use Rattle.numbers.specs.Numbers.{hash_lifetime}
use Rattle.rules.specs.Relay.{make_port, make_rate_settings, empty, used, Path, with_path_rate, with_note}
use Rattle.rules.specs.View.{View}
use Rattle.rules.specs.Renumbering.{preimage, rename_path, rename_link, rename_return, rename_slot}
use Rattle.rules.specs.Arrival.{Arrival, header, destination, hash}
use Rattle.rules.specs.Rate.{entry_dropped}
use Rattle.rules.specs.Ways.{Way, everywhere, by_path, along_link, by_return, blocked}
use Rattle.rules.specs.Judging.{Plan, dropped, delivered, follows, plan}
use Rattle.rules.specs.Writes.{remembers, announced_path, return_key, return_record, link_record, renewed_link, is_rate_drop}
use Rattle.rules.specs.Calls.{TableCall, sets_port, sets_rate, adds, removes, renumbers, notes_path}
use Rattle.rules.specs.declared.Reason.{Reason}
use Rattle.history.specs.Known.{Known, make_known, fresh_known, seen_at, now_path, now_link, now_return, now_until, now_clock, now_rate, now_port, now_local, change_path}

-- ---- a packet that came; v is what was known at its clock
-- An accepted announce gives its destination's path. Data forwarded by a path gives a return record, under the first 16 of its hash; a link request so
-- forwarded gives a link, under its id. A packet carried along a link renews it, and a link proof marks it proved. An ordinary proof that goes back takes its
-- return record with it.
unfoldable pub after_way : View → Arrival → Way → Known → Known
after_way v a (everywhere known) k = now_path (destination a) (used (announced_path v a known)) k
after_way v a (by_path p) k =
    is_data (header a)
    then now_return (return_key a) (used (return_record a p)) k
    otherwise now_link (link_id a.bytes) (used (link_record a p)) k
after_way v a (along_link l) k = now_link (destination a) (used (renewed_link a l)) k
after_way v a (by_return t) k = now_return (destination a) empty k
after_way v a (blocked why) k = k

-- Of drops, only one by test 15 tells of more than a clock and a hash. Wish 5: "A rate drop changes violations and blocked-until alone, besides what every drop
-- changes"
unfoldable pub limited_path : View → Arrival → Path → Path
limited_path v a p = with_path_rate (entry_dropped v.rate a.clock p.rate) p

unfoldable pub after_drop : View → Arrival → Reason → Known → Known
after_drop v a reason k = is_rate_drop reason then change_path (destination a) (limited_path v a) k otherwise k

unfoldable pub after_plan : View → Arrival → Plan → Known → Known
after_plan v a (dropped reason) k = after_drop v a reason k
after_plan v a delivered k = k
after_plan v a (follows w) k = after_way v a w k

-- Its hash is remembered for 300 s: unless test 1 or 2 drops it; wish 2: unless it is exempt; wish 6: "if it isn't already live"
unfoldable pub after_hash : View → Arrival → Plan → Known → Known
after_hash v a todo k = remembers v a todo then now_until (hash a) (a.clock + hash_lifetime) k otherwise k

-- "every accepted packet, dropped or not, .. sets the last clock"
unfoldable pub after_packet : View → Arrival → Plan → Known → Known
after_packet v a todo k = after_hash v a todo (now_clock a.clock (after_plan v a todo k))

-- ---- a call on the tables
-- "Renumbering replaces every stored port, expired records' too, by its image and moves each port's settings with it, nothing more."
unfoldable pub renumbered_known : List ℕ → Known → Known
renumbered_known m k =
    make_known k.own k.clock k.rate
    (λ port. k.port (preimage m port))
    k.local k.locals k.until
    (λ destination. rename_slot (rename_path m) (k.path destination))
    (λ id. rename_slot (rename_link m) (k.link id))
    (λ key. rename_slot (rename_return m) (k.return key))

unfoldable pub after_call : TableCall → Known → Known
after_call (sets_port port on mode size) k = now_port port (make_port on mode size) k
after_call (sets_rate target grace penalty) k = now_rate (make_rate_settings target grace penalty) k
after_call (adds address) k = now_local address true (k.locals + 1) k
after_call (removes address) k = now_local address false (k.locals - 1) k
after_call (renumbers images) k = renumbered_known images k
-- wish 6: the destination's path is marked, and "An accepted mark sets the last clock."
after_call (notes_path note destination clock) k = now_clock clock (change_path destination (with_note note) k)

-- ---- the list, the newest call first
-- An accepted call is a packet that came, dropped or not, or a call on the tables; "none a load, save or replay". A replay is the packets that it brings, one
-- by one. A question changes nothing, and is no entry either.
pub data Entry : Type 0 where
  came : Arrival → Entry
  called : TableCall → Entry

-- a packet was judged by what was known before it
unfoldable pub after : Entry → Known → Known
after (came a) k = after_packet (seen_at a.clock k) a (plan (seen_at a.clock k) a) k
after (called c) k = after_call c k

unfoldable pub known_of : List ℕ → List Entry → Known
known_of own [] = fresh_known own
known_of own (entry ∷ entries) = after entry (known_of own entries)
