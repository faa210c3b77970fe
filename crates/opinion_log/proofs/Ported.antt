-- Each port that a record known from a log tells is one of the sixteen: where a packet came and the images of a renumbering are read modulo 16.
use Prim.Native.Nat.{ℕ, zero, suc, ◌%◌, ◌<◌}
use native.Mathlib.Omega.{arith}
use mathlib.Core.List.{List}
use mathlib.Core.Path.{◌≡◌, sym, subst}
use lib.Dec.{ltb}
use lib.ListN.{get_or, get_or-map}
use Rattle.std.specs.Prelude.{Option, Some, None, IfSome}
use Rattle.octets.specs.Choice.{same}
use Rattle.octets.specs.Part.{part}
use Rattle.packet.specs.Header.{is_data}
use Rattle.packet.specs.Hash.{link_id}
use Rattle.numbers.specs.Numbers.{port_count}
use Rattle.rules.specs.Relay.{Slot, empty, used, Path, Return, with_note}
use Rattle.rules.specs.View.{View}
use Rattle.rules.specs.Renumbering.{image, rename_slot, rename_path, rename_link, rename_return}
use Rattle.rules.specs.Arrival.{Arrival, header, destination}
use Rattle.rules.specs.Ways.{Way, everywhere, by_path, along_link, by_return, blocked}
use Rattle.rules.specs.Judging.{Plan, dropped, delivered, follows, plan}
use Rattle.rules.specs.Writes.{announced_path, return_key, return_record, link_record, renewed_link}
use Rattle.rules.specs.Calls.{TableCall, renumbers, notes_path}
use Rattle.rules.specs.declared.Link.{Link}
use Rattle.rules.proofs.Choices.{either}
use Rattle.rules.proofs.Followed.{Found, Planned, planned}
use Rattle.judging.specs.declared.SeenPath.{SeenPath}
use Rattle.judging.specs.declared.SeenReturn.{SeenReturn}
use Rattle.judging.specs.Seen.{path_of, link_of, return_of}
use Rattle.history.specs.Known.{Known, fresh_known, seen_at, now_under, now_path, now_link, now_return, now_until, now_clock, now_rate, now_port, now_local, change_path}
use Rattle.history.specs.After.{Entry, came, called, after_way, limited_path, after_drop, after_plan, after_hash, after_packet, renumbered_known, after_call, after, known_of}
use Rattle.opinion_log.specs.Log.{body_at, entry_of, entry_bytes, entries_of, known_in}
use Rattle.opinion_log.proofs.Entries.{by_kind}
use Rattle.opinion_log.proofs.Changes.{seen_used}

-- ---- a record, if there is one
abbrev Each : {A : Type 0} → (A → Type 0) → Slot A → Type 0
Each holds empty = Unit {0}
Each holds (used x) = holds x

renamed : {A : Type 0} (holds : A → Type 0) (change : A → A) → ((x : A) → holds x → holds (change x)) → (s : Slot A) → Each holds s
    → Each holds (rename_slot change s)
unfolding rename_slot
renamed holds change keeps empty h = tt
renamed holds change keeps (used x) h = keeps x h

under : {A : Type 0} (holds : A → Type 0) (key : List ℕ) (new : Slot A) (before : List ℕ → Slot A) → Each holds new
    → ((k : List ℕ) → Each holds (before k)) → (k : List ℕ) → Each holds (now_under key new before k)
unfolding now_under
under holds key new before h others k = either (Each holds) (same key k) (λ _. h) (λ _. others k)

-- ---- the ports that it tells
abbrev PathPort : Path → Type 0
PathPort p = p.port < port_count

abbrev LinkPorts : Link → Type 0
LinkPorts l = (l.asking < port_count) × (l.answering < port_count)

abbrev ReturnPorts : Return → Type 0
ReturnPorts t = (t.arrival < port_count) × (t.leaving < port_count)

record Ported (k : Known) : Type 0 where
  path : (d : List ℕ) → Each PathPort (k.path d)
  link : (id : List ℕ) → Each LinkPorts (k.link id)
  return : (key : List ℕ) → Each ReturnPorts (k.return key)

-- .. and those that an entry brings
abbrev Images : TableCall → Type 0
Images (renumbers images) = (port : ℕ) → get_or images port 0 < port_count
Images other = Unit {0}

abbrev Brings : Entry → Type 0
Brings (came a) = a.port < port_count
Brings (called c) = Images c

entry_brings : (e : List ℕ) → Brings (entry_of e)
entry_brings e =
    by_kind e Brings
    (λ _. omega arith)
    (λ _. tt)
    (λ _. tt)
    (λ _. tt)
    (λ _. tt)
    (λ _. tt)
    (λ _ port. omega (arith, get_or-map (λ (x : ℕ). x % port_count) (part e body_at port_count) port 0))

-- ---- what one more entry makes of them
image_small : (m : List ℕ) → ((port : ℕ) → get_or m port 0 < port_count) → (port : ℕ) → port < port_count → image m port < port_count
unfolding image
image_small m small port l = either (λ (n : ℕ). n < port_count) (ltb port port_count) (λ _. small port) (λ _. l)

module _ (k : Known) (h : Ported k) where
  path_now : (d : List ℕ) (s : Slot Path) → Each PathPort s → Ported (now_path d s k)
  unfolding now_path
  path_now d s new = record { path = under PathPort d s k.path new h.path; link = h.link; return = h.return }

  link_now : (id : List ℕ) (s : Slot Link) → Each LinkPorts s → Ported (now_link id s k)
  unfolding now_link
  link_now id s new = record { path = h.path; link = under LinkPorts id s k.link new h.link; return = h.return }

  return_now : (key : List ℕ) (s : Slot Return) → Each ReturnPorts s → Ported (now_return key s k)
  unfolding now_return
  return_now key s new = record { path = h.path; link = h.link; return = under ReturnPorts key s k.return new h.return }

  path_changed : (d : List ℕ) (change : Path → Path) → ((p : Path) → PathPort p → PathPort (change p)) → Ported (change_path d change k)
  unfolding change_path
  path_changed d change keeps = path_now d (rename_slot change (k.path d)) (renamed PathPort change keeps (k.path d) (h.path d))

  clock_now : (clock : ℕ) → Ported (now_clock clock k)
  unfolding now_clock
  clock_now clock = record { path = h.path; link = h.link; return = h.return }

  until_now : (hash : List ℕ) (time : ℕ) → Ported (now_until hash time k)
  unfolding now_until
  until_now hash time = record { path = h.path; link = h.link; return = h.return }

  renumbered : (m : List ℕ) → ((port : ℕ) → get_or m port 0 < port_count) → Ported (renumbered_known m k)
  unfolding renumbered_known rename_path rename_link rename_return
  renumbered m small =
      record {
        path = λ d. renamed PathPort (rename_path m) (λ p l. image_small m small _ l) (k.path d) (h.path d);
        link = λ id. renamed LinkPorts (rename_link m) (λ l o. (image_small m small _ o.0, image_small m small _ o.1)) (k.link id) (h.link id);
        return = λ key. renamed ReturnPorts (rename_return m) (λ t o. (image_small m small _ o.0, image_small m small _ o.1)) (k.return key) (h.return key);
      }

module _ (k : Known) (h : Ported k) where
  call_ported : (c : TableCall) → Images c → Ported (after_call c k)
  unfolding after_call now_port now_rate now_local
  call_ported (renumbers images) small = renumbered k h images small
  call_ported (notes_path note d clock) small = clock_now (change_path d (with_note note) k) (path_changed k h d (with_note note) (λ p l. l)) clock
  call_ported other small = record { path = h.path; link = h.link; return = h.return }

module _ (a : Arrival) (k : Known) (h : Ported k) (port : a.port < port_count) where
  abbrev v : View
  v = seen_at a.clock k

  way_ported : (w : Way) → Found v a w → Ported (after_way v a w k)
  unfolding after_way announced_path return_record link_record renewed_link seen_at
  way_ported (everywhere known) found = path_now k h (destination a) (used (announced_path v a known)) port
  way_ported (by_path p) found =
      let there : PathPort p = subst (Each PathPort) (seen_used _ (k.path (destination a)) p found.0) (h.path (destination a)) in
      either Ported (is_data (header a))
      (λ _. return_now k h (return_key a) (used (return_record a p)) (port, there))
      (λ _. link_now k h (link_id a.bytes) (used (link_record a p)) (port, there))
  way_ported (along_link l) found =
      link_now k h (destination a) (used (renewed_link a l)) (subst (Each LinkPorts) (seen_used _ (k.link (destination a)) l found) (h.link (destination a)))
  way_ported (by_return t) found = return_now k h (destination a) empty tt
  way_ported (blocked why) found = h

  plan_ported : (todo : Plan) → Planned v a todo → Ported (after_plan v a todo k)
  unfolding after_plan after_drop limited_path
  plan_ported (dropped reason) so = either Ported _ (λ _. path_changed k h (destination a) (limited_path v a) (λ p l. l)) (λ _. h)
  plan_ported delivered so = h
  plan_ported (follows w) so = way_ported w so.found

  packet_ported : Ported (after (came a) k)
  unfolding after after_packet after_hash
  packet_ported =
      let stamped = clock_now (after_plan v a (plan v a) k) (plan_ported (plan v a) (planned v a)) a.clock in
      either Ported _ (λ _. until_now (now_clock a.clock (after_plan v a (plan v a) k)) stamped _ _) (λ _. stamped)

entry_ported : (x : Entry) (k : Known) → Ported k → Brings x → Ported (after x k)
unfolding after
entry_ported (came a) k h port = packet_ported a k h port
entry_ported (called c) k h small = call_ported k h c small

known_ported : (log : List ℕ) (n : ℕ) → Ported (known_in log n)
unfolding known_in entries_of known_of fresh_known
known_ported log zero = record { path = λ d. tt; link = λ id. tt; return = λ key. tt }
known_ported log (suc n) = entry_ported (entry_of (entry_bytes log n)) (known_in log n) (known_ported log n) (entry_brings (entry_bytes log n))

-- ---- as a struct tells them
module _ (log : List ℕ) (n : ℕ) where
  pub path_ports : (d : List ℕ) (s : Option SeenPath) → path_of d s ≡ (known_in log n).path d → IfSome s (λ p. p.port < port_count)
  path_ports d None e = tt
  path_ports d (Some p) e = subst (Each PathPort) (sym e) ((known_ported log n).path d)

  pub link_ports : (id : List ℕ) (s : Option Link) → link_of s ≡ (known_in log n).link id
      → IfSome s (λ l. (l.asking < port_count) × (l.answering < port_count))
  link_ports id None e = tt
  link_ports id (Some l) e = subst (Each LinkPorts) (sym e) ((known_ported log n).link id)

  pub return_ports : (key : List ℕ) (s : Option SeenReturn) → return_of key s ≡ (known_in log n).return key
      → IfSome s (λ t. (t.arrival < port_count) × (t.leaving < port_count))
  return_ports key None e = tt
  return_ports key (Some t) e = subst (Each ReturnPorts) (sym e) ((known_ported log n).return key)
