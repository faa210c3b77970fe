-- Document 02, wish 9: "Forwarded packets keep their length or lose sixteen bytes; announces alone grow, and past 500 they're Kept." And wish 11.
--   rewritten_length, carried_length    how long a packet is under another header, and with its hops raised;
--   sent_way                            which packets go which way;
--   lengths_kept                        what a packet call answers has the lengths of the wish, for any relay whose addresses are addresses;
--   sizes_kept                          what leaves by a port is never longer than that port carries, for any relay.
use Prim.Native.Nat.{ℕ, ◌+◌, ◌*◌, ◌/◌, ◌%◌, ◌≤◌, ◌<◌}
use native.Mathlib.Omega.{arith}
use mathlib.Core.Bool.{Bool, true, false, not}
use mathlib.Core.List.{List}
use mathlib.Core.Path.{◌≡◌, refl, sym, ap, subst, ◌∙◌}
use lib.Dec.{eqb, ltb, leb}
use lib.ListN.{length, get_or, set, length-drop, length-set}
use borrow.Author.Tests.{eq-eqb, eqb-true, eqb-false, ne_eqb, le-leb, ltb-false, not-true}
use Rattle.octets.specs.Index.{◌and◌}
use Rattle.octets.specs.Choice.{◌or◌}
use Rattle.octets.proofs.Index.{and_left, and_right, and_both, and_yes, all_intro}
use Rattle.octets.proofs.Choice.{then_true, then_false, or_left, or_right, or_no_right}
use Rattle.numbers.specs.Numbers.{port_count, address_width}
use Rattle.packet.specs.Header.{type_two, is_announce}
use Rattle.packet.specs.Read.{longest_packet, header_of, no_address, parts_of, payload_start, payload, reads}
use Rattle.packet.specs.Write.{Wide}
use Rattle.packet.specs.Places.{type_one_start, type_two_start}
use Rattle.packet.proofs.ReadLaws.{start_two, start_one, reads_readable, parts_hops}
use Rattle.packet.proofs.WriteLaws.{packet_length}
use Rattle.packet.proofs.Widths.{parts_wide}
use Rattle.rules.specs.Relay.{Slot, empty, used, Path, Return, Relay}
use Rattle.rules.specs.View.{View, view_at, port_size}
use Rattle.rules.specs.Refusals.{slot_ok, packet_refusal}
use Rattle.rules.specs.Arrival.{Arrival, header, destination, is_link_proof}
use Rattle.rules.specs.Ways.{Way, everywhere, by_path, along_link, by_return, blocked, path_way, link_way, return_way, way_on}
use Rattle.rules.specs.Tests.{leaving_port, too_long_for_port}
use Rattle.rules.specs.Answers.{port_set, in_set}
use Rattle.rules.specs.Outgoing.{rewritten, spread_header, spread_packet, spread_ports, path_packet, carried_packet, outgoing, exceeds}
use Rattle.rules.specs.Judging.{Plan, dropped, delivered, follows, plan, spread_verdict, way_verdict, verdict}
use Rattle.rules.specs.Calls.{Judgement, judged, judge, packet_call}
use Rattle.rules.specs.Lengths.{is_address, by_address, addressed, forwarded_length, grown_length, verdict_length_ok, answer_length_ok, verdict_size_ok, answer_size_ok}
use Rattle.rules.specs.declared.Link.{Link}
use Rattle.rules.specs.declared.Verdict.{Verdict}
use Rattle.rules.specs.declared.Tally.{Tally}
use Rattle.rules.proofs.Choices.{either}
use Rattle.rules.proofs.Tables.{all_get_d}
use Rattle.rules.proofs.Passed.{passed}
use Rattle.rules.proofs.PortSets.{in_set_lem}
use Rattle.rules.proofs.Accepted.{accepted_reads}

-- ---- headers: modulo 16 a packet is of type 1, and spread it is of type 2
last_hop_one : (header : ℕ) → type_two (header % 16) ≡ false
unfolding type_two
last_hop_one header =
    let bit : header % 16 / 64 % 2 ≡ 0 = omega arith in
    ap (λ (k : ℕ). eqb k 1) bit

spread_header_two : (header : ℕ) → type_two (spread_header header) ≡ true
unfolding type_two spread_header
spread_header_two header =
    let bit : (64 + header / 32 % 2 * 32 + 16 + header % 16) / 64 % 2 ≡ 1 = omega arith in
    ap (λ (k : ℕ). eqb k 1) bit

pub last_hop_start : (header : ℕ) → payload_start (header % 16) ≡ type_one_start
last_hop_start header = start_one (header % 16) (last_hop_one header)

pub spread_start : (header : ℕ) → payload_start (spread_header header) ≡ type_two_start
spread_start header = start_two (spread_header header) (spread_header_two header)

-- the payload starts at one of two places
start_is : (P : ℕ → Type 0) (header : ℕ) → P type_one_start → P type_two_start → P (payload_start header)
start_is P header one two = go (type_two header) refl
  where
    go : (t : Bool) → type_two header ≡ t → P (payload_start header)
    go true e = subst P (sym (start_two header e)) two
    go false e = subst P (sym (start_one header e)) one

-- ---- a packet that reads
module _ (size : ℕ) (p : List ℕ) (h : reads size p ≡ true) where
  pub body_length : payload_start (header_of p) + length (payload p) ≡ length p
  unfolding payload
  body_length = simp length-drop (omega (arith, (reads_readable size p h).whole))

  -- under another header and relay address
  module _ (header : ℕ) (relay : List ℕ) (wide : length relay ≡ address_width) where
    pub rewritten_wide : Wide
        (record { header = header; hops = (parts_of p).hops + 1; relay = relay; destination = (parts_of p).destination; context = (parts_of p).context })
    rewritten_wide = record { relay = wide; destination = (parts_wide p (reads_readable size p h).whole).destination }

    pub rewritten_length : length (rewritten header relay p) ≡ payload_start header + length (payload p)
    unfolding rewritten
    rewritten_length = packet_length _ (payload p) rewritten_wide

-- with its hops raised
module _ (p : List ℕ) where
  pub carried_is : carried_packet p ≡ set p 1 (get_or p 1 0 + 1)
  unfolding carried_packet
  carried_is = ap (λ (k : ℕ). set p 1 (k + 1)) (parts_hops p)

  pub carried_length : length (carried_packet p) ≡ length p
  carried_length = ap length carried_is ∙ length-set p 1 (get_or p 1 0 + 1)

-- ---- what a path's hops decide
module _ (hops : ℕ) (next_hop p : List ℕ) where
  pub path_last : hops ≡ 0 → path_packet hops next_hop p ≡ rewritten (header_of p % 16) no_address p
  unfolding path_packet
  path_last e = then_true _ _ (eq-eqb hops 0 e)

  pub path_next_hop : (hops ≡ 0 → ⊥) → path_packet hops next_hop p ≡ rewritten (header_of p) next_hop p
  unfolding path_packet
  path_next_hop ne = then_false _ _ (ne_eqb hops 0 ne)

-- ---- the lengths
module _ (p : List ℕ) (n : ℕ) where
  as_it_came : n ≡ length p → forwarded_length p n ≡ true
  unfolding forwarded_length
  as_it_came e = or_left _ (eq-eqb n (length p) e)

  sixteen_shorter : n + address_width ≡ length p → forwarded_length p n ≡ true
  unfolding forwarded_length
  sixteen_shorter e = or_right _ (eq-eqb (n + address_width) (length p) e)

module _ (p : List ℕ) (h : reads longest_packet p ≡ true) where
  path_length_lem : (hops : ℕ) (next_hop : List ℕ) → length next_hop ≡ address_width → forwarded_length p (length (path_packet hops next_hop p)) ≡ true
  path_length_lem hops next_hop wide = go (eqb hops 0) refl
    where
      -- on the last hop a packet of type 2 loses its relay address
      go : (z : Bool) → eqb hops 0 ≡ z → forwarded_length p (length (path_packet hops next_hop p)) ≡ true
      go true e =
          let n : ℕ = length (path_packet hops next_hop p) in
          let long = ap length (path_last hops next_hop p (eqb-true hops 0 e)) ∙ rewritten_length longest_packet p h (header_of p % 16) no_address refl in
          start_is (λ s. s + length (payload p) ≡ length p → forwarded_length p n ≡ true) (header_of p)
          (λ b. as_it_came p n (omega (arith, b, long, last_hop_start (header_of p))))
          (λ b. sixteen_shorter p n (omega (arith, b, long, last_hop_start (header_of p))))
          (body_length longest_packet p h)
      go false e =
          as_it_came p _
          (ap length (path_next_hop hops next_hop p (eqb-false hops 0 e))
          ∙ rewritten_length longest_packet p h (header_of p) next_hop wide
          ∙ body_length longest_packet p h)

  spread_length_lem : (own : List ℕ) → length own ≡ address_width → grown_length p (length (spread_packet own p)) ≡ true
  unfolding spread_packet grown_length
  spread_length_lem own wide =
      let long = rewritten_length longest_packet p h (spread_header (header_of p)) own wide in
      let n : ℕ = length (rewritten (spread_header (header_of p)) own p) in
      start_is (λ s. s + length (payload p) ≡ length p → (eqb n (length p) or eqb n (length p + address_width)) ≡ true) (header_of p)
      (λ b. or_right _ (eq-eqb n (length p + address_width) (omega (arith, b, long, spread_start (header_of p)))))
      (λ b. or_left _ (eq-eqb n (length p) (omega (arith, b, long, spread_start (header_of p)))))
      (body_length longest_packet p h)

  -- a packet that reads is at most 500 long, and so is what is no longer
  forwarded_short : (n : ℕ) → forwarded_length p n ≡ true → n ≤ longest_packet
  unfolding forwarded_length ◌or◌
  forwarded_short n f = go (eqb n (length p)) refl f
    where
      fits : length p ≤ longest_packet
      fits = (reads_readable longest_packet p h).fits

      go : (z : Bool) → eqb n (length p) ≡ z → (z or eqb (n + address_width) (length p)) ≡ true → n ≤ longest_packet
      go true e f = omega (arith, eqb-true n (length p) e, fits)
      go false e f = omega (arith, eqb-true (n + address_width) (length p) f, fits)

-- ---- which packets go which way: announces everywhere, and no others; by a path those whose destination has it
module _ (v : View) (a : Arrival) where
  abbrev pub Sent : Way → Type 0
  Sent (everywhere known) = is_announce (header a) ≡ true
  Sent (by_path p) = (is_announce (header a) ≡ false) × (v.path (destination a) ≡ used p)
  Sent (along_link l) = is_announce (header a) ≡ false
  Sent (by_return t) = is_announce (header a) ≡ false
  Sent (blocked why) = Unit {0}

  sent_link : is_announce (header a) ≡ false → (s : Slot Link) → Sent (link_way (is_link_proof a.bytes) s)
  unfolding link_way
  sent_link n empty = tt
  sent_link n (used l) = either Sent (l.proved or is_link_proof a.bytes) (λ _. n) (λ _. tt)

  sent_return : is_announce (header a) ≡ false → (s : Slot Return) → Sent (return_way s)
  unfolding return_way
  sent_return n empty = tt
  sent_return n (used t) = n

  sent_path : is_announce (header a) ≡ false → (s : Slot Path) → v.path (destination a) ≡ s → (expired : Slot ℕ) → Sent (path_way s expired)
  unfolding path_way
  sent_path n empty e expired = tt
  sent_path n (used p) e expired = (n, e)

  pub sent_way : Sent (way_on v a)
  unfolding way_on
  sent_way =
      either Sent _ (λ y. y)
      (λ n. either Sent _ (λ _. sent_link n _)
      (λ _. either Sent _ (λ _. sent_return n _)
      (λ _. either Sent _ (λ _. tt) (λ _. sent_path n _ refl _))))

-- ---- what leaves
module _ (v : View) (a : Arrival) (h : reads longest_packet a.bytes ≡ true) (own : length v.own ≡ address_width)
    (hop : (p : Path) → v.path (destination a) ≡ used p → length p.next_hop ≡ address_width) where
  forwarded : is_announce (header a) ≡ false → (n : ℕ) → forwarded_length a.bytes n ≡ true
      → (leb n longest_packet and not (is_announce (header a)) and forwarded_length a.bytes n) ≡ true
  forwarded none n f = and_both (le-leb n longest_packet (forwarded_short a.bytes h n f)) (and_both (ap not none) f)

  way_length : (w : Way) → Sent v a w → verdict_length_ok a.bytes (way_verdict v a w) ≡ true
  unfolding way_verdict verdict_length_ok outgoing spread_verdict exceeds
  way_length (everywhere known) s =
      either (λ (x : Verdict). verdict_length_ok a.bytes x ≡ true) _ (λ _. s)
      (λ e. and_both (le-leb _ longest_packet (ltb-false longest_packet (length (spread_packet v.own a.bytes)) (or_no_right _ _ e)))
      (and_both s (spread_length_lem a.bytes h v.own own)))
  way_length (by_path p) s = forwarded s.0 _ (path_length_lem a.bytes h p.hops p.next_hop (hop p s.1))
  way_length (along_link l) s = forwarded s _ (as_it_came a.bytes _ (carried_length a.bytes))
  way_length (by_return t) s = forwarded s _ (as_it_came a.bytes _ (carried_length a.bytes))
  way_length (blocked why) s = refl

  plan_length : verdict_length_ok a.bytes (verdict v a (plan v a)) ≡ true
  unfolding verdict verdict_length_ok
  plan_length = go (plan v a) refl
    where
      go : (todo : Plan) → plan v a ≡ todo → verdict_length_ok a.bytes (verdict v a todo) ≡ true
      go (dropped reason) e = refl
      go delivered e = refl
      go (follows w) e = way_length w (subst (Sent v a) (passed v a w e).0 (sent_way v a))

-- ---- the theorem: of every packet call on a relay whose addresses are addresses
module _ (r : Relay) (wide : addressed r ≡ true) where
  own_wide : length r.own ≡ address_width
  unfolding addressed is_address
  own_wide = eqb-true _ address_width (and_left _ _ wide)

  hop_wide : (clock : ℕ) (destination : List ℕ) (p : Path) → (view_at clock r).path destination ≡ used p → length p.next_hop ≡ address_width
  unfolding view_at addressed by_address is_address slot_ok
  hop_wide clock destination p e =
      eqb-true _ address_width
      (subst (λ (s : Slot Path). slot_ok by_address s ≡ true) e (all_get_d (slot_ok by_address) r.paths _ empty (and_right _ _ wide) refl))

  pub judged_length : (a : Arrival) (room : ℕ) → eqb (packet_refusal r a room) 0 ≡ true
      → verdict_length_ok a.bytes (verdict (view_at a.clock r) a (plan (view_at a.clock r) a)) ≡ true
  unfolding view_at
  judged_length a room e = plan_length (view_at a.clock r) a (accepted_reads r a room e) own_wide (hop_wide a.clock (destination a))

  pub lengths_kept : (a : Arrival) (t : Tally) (output : List ℕ) → answer_length_ok a.bytes (packet_call a r t output).answer ≡ true
  unfolding packet_call judge judged answer_length_ok
  lengths_kept a t output =
      either (λ (j : Judgement). answer_length_ok a.bytes j.answer ≡ true) (eqb (packet_refusal r a (length output)) 0)
      (judged_length a (length output)) (λ _. refl)

-- ---- wish 11
module _ (r : Relay) (a : Arrival) where
  abbrev shows : View
  shows = view_at a.clock r

  short_for : (port n : ℕ) → ltb (port_size r port) n ≡ false → leb n (port_size r port) ≡ true
  short_for port n e = le-leb n (port_size r port) (ltb-false (port_size r port) n e)

  -- test 16, of a packet that is no announce
  forwarded_size : (w : Way) → is_announce (header a) ≡ false → too_long_for_port shows a w ≡ false
      → leb (length (outgoing shows a w)) (port_size r (leaving_port a w)) ≡ true
  unfolding too_long_for_port exceeds view_at
  forwarded_size w none fits = short_for (leaving_port a w) _ (sym (and_yes _ (ap not none)) ∙ fits)

  -- each port of the set is one that carries it
  spread_size : (port : ℕ) → port < port_count
      → (not (in_set (spread_ports shows a) port) or leb (length (spread_packet r.own a.bytes)) (port_size r port)) ≡ true
  unfolding spread_ports port_set exceeds view_at
  spread_size port l = go (in_set (spread_ports shows a) port) refl
    where
      n : ℕ
      n = length (spread_packet r.own a.bytes)

      go : (b : Bool) → in_set (spread_ports shows a) port ≡ b → (not (in_set (spread_ports shows a) port) or leb n (port_size r port)) ≡ true
      go false e = or_left _ (ap not e)
      go true e =
          let chosen = sym (in_set_lem _ port_count port l) ∙ e in
          or_right _ (short_for port n (not-true _ (and_right _ _ (and_right _ _ chosen))))

  way_size : (w : Way) → Sent shows a w → too_long_for_port shows a w ≡ false → verdict_size_ok r (way_verdict shows a w) ≡ true
  unfolding way_verdict verdict_size_ok spread_verdict outgoing view_at
  way_size (everywhere known) s fits = either (λ (x : Verdict). verdict_size_ok r x ≡ true) _ (λ _. refl) (λ _. all_intro _ port_count spread_size)
  way_size (by_path p) s fits = forwarded_size (by_path p) s.0 fits
  way_size (along_link l) s fits = forwarded_size (along_link l) s fits
  way_size (by_return t) s fits = forwarded_size (by_return t) s fits
  way_size (blocked why) s fits = refl

  plan_size : verdict_size_ok r (verdict shows a (plan shows a)) ≡ true
  unfolding verdict verdict_size_ok
  plan_size = go (plan shows a) refl
    where
      go : (todo : Plan) → plan shows a ≡ todo → verdict_size_ok r (verdict shows a todo) ≡ true
      go (dropped reason) e = refl
      go delivered e = refl
      go (follows w) e =
          let (way, p) = passed shows a w e in
          way_size w (subst (Sent shows a) way (sent_way shows a)) p.fits

  pub sizes_kept : (t : Tally) (output : List ℕ) → answer_size_ok r (packet_call a r t output).answer ≡ true
  unfolding packet_call judge judged answer_size_ok
  sizes_kept t output =
      either (λ (j : Judgement). answer_size_ok r j.answer ≡ true) (eqb (packet_refusal r a (length output)) 0) (λ _. plan_size) (λ _. refl)
