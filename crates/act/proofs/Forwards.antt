-- What is left by a packet that is forwarded, from what the code wrote: verdict, tables and output.
use Prim.Native.Nat.{ℕ, ◌<◌}
use mathlib.Core.Bool.{true, false, not}
use mathlib.Core.List.{List}
use mathlib.Core.Path.{◌≡◌, refl, sym, ap, ap₂, subst, ◌∙◌}
use lib.Dec.{ltb}
use lib.ListN.{length, take}
use borrow.Author.Tests.{ltb-true, leb-false, not-false}
use Rattle.sha256.specs.Sha256.{sha256_of}
use Rattle.sha256.proofs.Promise.{digest_byte}
use Rattle.octets.specs.Bytes.{Bytes}
use Rattle.octets.specs.Part.{patch}
use Rattle.octets.proofs.Choice.{then_true}
use Rattle.octets.proofs.Bytes.{take_bytes}
use Rattle.octets.proofs.Index.{and_yes}
use Rattle.packet.specs.Header.{is_data, is_link_request}
use Rattle.packet.specs.Read.{parts_of, payload}
use Rattle.packet.specs.Hash.{hashed_part, packet_hash, link_id}
use Rattle.packet.specs.Places.{link_payload_width}
use Rattle.numbers.specs.Numbers.{path_count, link_count, return_count, address_width}
use Rattle.rules.specs.Relay.{Path, Return, Relay}
use Rattle.rules.specs.View.{View, view_at, free_link, link_place}
use Rattle.rules.specs.Arrival.{Arrival, header, destination}
use Rattle.rules.specs.Ways.{Way, by_path, along_link, by_return}
use Rattle.rules.specs.Tests.{too_many_hops, leaving_port, no_room}
use Rattle.rules.specs.Outgoing.{outgoing, carried_packet}
use Rattle.rules.specs.Judging.{Plan, follows, way_verdict, verdict, leaves, output_after}
use Rattle.rules.specs.Writes.{return_key, link_record, renewed_link, write_way, write_plan}
use Rattle.rules.specs.declared.Link.{Link}
use Rattle.rules.specs.declared.Verdict.TheVariants.{Forward}
use Rattle.rules.proofs.Followed.{Planned, planned}
use Rattle.tables.specs.Layout.{relay_of, bytes_of}
use Rattle.lookup.proofs.Found.{path_found, path_missing, link_found, link_missing, return_found, return_missing}
use Rattle.update.specs.Written.{link_written, return_emptied}
use Rattle.update.proofs.Enacted.{return_written_lem, link_written_lem, link_renewed, return_emptied_lem}
use Rattle.outgoing.specs.Leaving.{CanLeave}
use Rattle.plan.specs.declared.Arrived.{Arrived}
use Rattle.plan.specs.declared.Decision.TheVariants.{Data, Request, Carry, Receipt}
use Rattle.plan.specs.Decided.{used_hash, link_at, return_at, seen, path_at, arrival_of, decision}
use Rattle.forms.proofs.KindLaws.{request_left}
use Rattle.forms.proofs.ContextLaws.{never_exempt}
use Rattle.plan.proofs.ContextLaws.{used_own}
use Rattle.act.specs.Stored.{return_put}
use Rattle.act.specs.Acted.{AcceptedOn, plan_on, verdict_on, written_on, output_on, CarriesOut, forwarded_on}
use Rattle.rules.proofs.Passed.{passed}
use Rattle.act.proofs.Inverted.{inverted, at_place}

-- a link id is bytes, whatever the packet
pub link_id_bytes : (p : List ℕ) → Bytes (link_id p)
unfolding link_id
link_id_bytes p =
    let m : List ℕ = hashed_part (parts_of p) (take link_payload_width (payload p)) in
    take_bytes address_width (sha256_of m) (digest_byte m)

module _ (packet : List ℕ) (m : Arrived) (t : List ℕ) (ok : AcceptedOn packet m t) where
  abbrev a : Arrival
  a = arrival_of packet m

  abbrev v : View
  v = seen m t

  abbrev r : Relay
  r = relay_of t

  pub can_leave : (w : Way) → plan_on packet m t ≡ follows w → CanLeave packet
  unfolding too_many_hops
  can_leave w e = record { readable = ok.readable; few_hops = leb-false _ _ (passed v a w e).1.few_hops }

  -- ---- by any way that forwards
  forwarded : (w : Way) → plan_on packet m t ≡ follows w → way_verdict v a w ≡ Forward (leaving_port a w) (length (outgoing v a w))
      → (port n : ℕ) (x output u o : List ℕ) → port ≡ leaving_port a w → outgoing v a w ≡ x → n ≡ length x → o ≡ patch output 0 x
      → u ≡ bytes_of (write_way v a w r) → CarriesOut packet m t output (Forward port n) u o
  unfolding verdict_on written_on output_on verdict output_after leaves write_plan
  forwarded w e forwards port n x output u o q1 q2 q3 q4 q5 = (
    ap₂ Forward q1 (q3 ∙ ap length (sym q2)) ∙ sym forwards ∙ ap (verdict v a) (sym e),
    q5 ∙ ap (λ (todo : Plan). bytes_of (write_plan v a todo r)) (sym e),
    q4 ∙ ap (patch output 0) (sym q2) ∙ sym (then_true _ _ (ap leaves forwards)) ∙ ap (λ (todo : Plan). output_after v a todo output) (sym e),
  )

  by_path_forwards : (p : Path) → way_verdict v a (by_path p) ≡ Forward (leaving_port a (by_path p)) (length (outgoing v a (by_path p)))
  unfolding way_verdict
  by_path_forwards p = refl

  along_link_forwards : (l : Link) → way_verdict v a (along_link l) ≡ Forward (leaving_port a (along_link l)) (length (outgoing v a (along_link l)))
  unfolding way_verdict
  along_link_forwards l = refl

  by_return_forwards : (x : Return) → way_verdict v a (by_return x) ≡ Forward (leaving_port a (by_return x)) (length (outgoing v a (by_return x)))
  unfolding way_verdict
  by_return_forwards x = refl

  -- ---- data by the path at a place
  module _ (i : ℕ) (d : decision r a ≡ Data i) where
    pub data_record : (i < path_count) × (plan_on packet m t ≡ follows (by_path (path_at t i))) × (is_data (header a) ≡ true)
    data_record =
        let k = inverted r a (Data i) d in
        let f : Planned v a (follows (by_path k.0)) = subst (Planned v a) k.1 (planned v a) in
        let q = at_place i path_count f.found.0 (path_found t m.clock (destination a) i k.3) (path_missing t m.clock (destination a) i k.3) in
        (q.0, k.1 ∙ ap (λ (p : Path). follows (by_path p)) q.1, k.2)

    -- it is of no link, so not exempt, and the hash that goes with it is its own
    pub data_hash : used_hash packet ≡ packet_hash packet
    data_hash =
        let k = inverted r a (Data i) d in
        let f : Planned v a (follows (by_path k.0)) = subst (Planned v a) k.1 (planned v a) in
        used_own packet (never_exempt packet f.found.3)

    pub data_left : Bytes t → (port n : ℕ) (output u o : List ℕ) → port ≡ (path_at t i).port → n ≡ length (forwarded_on packet t i)
        → o ≡ patch output 0 (forwarded_on packet t i) → (hash : List ℕ) → hash ≡ packet_hash packet
        → u ≡ return_put t m.port port hash m.clock → CarriesOut packet m t output (Forward port n) u o
    unfolding outgoing leaving_port return_key return_put
    data_left b port n output u o q1 q2 q3 hash is q4 =
        forwarded (by_path (path_at t i)) data_record.1 (by_path_forwards (path_at t i)) port n _ output u o q1 refl q2 q3
        (return_written_lem v a t b ok.formed (path_at t i) (take address_width hash) port r.returns.next u data_record.2
        (ap (take address_width) is) q1 refl q4)

  -- ---- a link request by the path at a place
  module _ (i place : ℕ) (id : List ℕ) (d : decision r a ≡ Request i place id) where
    pub request_record : (i < path_count) × (plan_on packet m t ≡ follows (by_path (path_at t i))) × (is_data (header a) ≡ false) × (place ≡ free_link m.clock r)
    request_record =
        let k = inverted r a (Request i place id) d in
        let f : Planned v a (follows (by_path k.0)) = subst (Planned v a) k.1 (planned v a) in
        let q = at_place i path_count f.found.0 (path_found t m.clock (destination a) i k.3) (path_missing t m.clock (destination a) i k.3) in
        (q.0, k.1 ∙ ap (λ (p : Path). follows (by_path p)) q.1, k.2, k.4)

    pub request_room : place < link_count
    unfolding no_room view_at
    request_room =
        let k = inverted r a (Request i place id) d in
        let f : Planned v a (follows (by_path k.0)) = subst (Planned v a) k.1 (planned v a) in
        let asks : is_link_request (header a) ≡ true = request_left (header a) k.2 f.found.1 f.found.2 in
        let room : not (ltb (free_link m.clock r) link_count) ≡ false = sym (and_yes _ asks) ∙ (passed v a (by_path k.0) k.1).1.room in
        subst (λ (n : ℕ). n < link_count) (sym k.4) (ltb-true _ _ (not-false _ room))

    pub request_id : id ≡ link_id packet
    request_id = (inverted r a (Request i place id) d).5

    pub asked_left : Bytes t → (port n : ℕ) (x : Link) (output u o : List ℕ) → port ≡ (path_at t i).port → x ≡ link_record a (path_at t i)
        → n ≡ length (forwarded_on packet t i) → o ≡ patch output 0 (forwarded_on packet t i)
        → u ≡ link_written t place x → CarriesOut packet m t output (Forward port n) u o
    unfolding outgoing leaving_port
    asked_left b port n x output u o q1 qx q2 q3 q4 =
        forwarded (by_path (path_at t i)) request_record.1 (by_path_forwards (path_at t i)) port n _ output u o q1 refl q2 q3
        (link_written_lem v a t b ok.formed x place request_room u q4 (path_at t i) request_record.2 qx request_record.3)

  -- ---- a packet of the link at a place
  module _ (i port : ℕ) (d : decision r a ≡ Carry i port) where
    pub carry_record : (i < link_count) × (plan_on packet m t ≡ follows (along_link (link_at t i))) × (i ≡ link_place m.clock r (destination a))
        × (port ≡ leaving_port a (along_link (link_at t i)))
    carry_record =
        let k = inverted r a (Carry i port) d in
        let f : Planned v a (follows (along_link k.0)) = subst (Planned v a) k.1 (planned v a) in
        let q = at_place i link_count f.found (link_found t m.clock (destination a) i k.2) (link_missing t m.clock (destination a) i k.2) in
        (q.0, k.1 ∙ ap (λ (l : Link). follows (along_link l)) q.1, k.2, k.3 ∙ ap (λ (l : Link). leaving_port a (along_link l)) q.1)

    pub carry_left : Bytes t → (n : ℕ) (x : Link) (output u o : List ℕ) → x ≡ renewed_link a (link_at t i)
        → n ≡ length (carried_packet packet) → o ≡ patch output 0 (carried_packet packet) → u ≡ link_written t i x
        → CarriesOut packet m t output (Forward port n) u o
    unfolding outgoing
    carry_left b n x output u o qx q2 q3 q4 =
        forwarded (along_link (link_at t i)) carry_record.1 (along_link_forwards (link_at t i)) port n _ output u o carry_record.3 refl q2 q3
        (link_renewed v a t b ok.formed x i carry_record.0 u q4 (link_at t i) qx carry_record.2)

  -- ---- an ordinary proof by the return record at a place
  module _ (i port : ℕ) (d : decision r a ≡ Receipt i port) where
    pub receipt_record : (i < return_count) × (plan_on packet m t ≡ follows (by_return (return_at t i)))
    receipt_record =
        let k = inverted r a (Receipt i port) d in
        let f : Planned v a (follows (by_return k.0)) = subst (Planned v a) k.1 (planned v a) in
        let q = at_place i return_count f.found (return_found t m.clock (destination a) i k.2) (return_missing t m.clock (destination a) i k.2) in
        (q.0, k.1 ∙ ap (λ (x : Return). follows (by_return x)) q.1)

    pub receipt_left : Bytes t → (n : ℕ) (output u o : List ℕ) → n ≡ length (carried_packet packet) → o ≡ patch output 0 (carried_packet packet)
        → u ≡ return_emptied t i → CarriesOut packet m t output (Forward port n) u o
    unfolding outgoing
    receipt_left b n output u o q2 q3 q4 =
        let k = inverted r a (Receipt i port) d in
        forwarded (by_return k.0) k.1 (by_return_forwards k.0) port n _ output u o k.3 refl q2 q3
        (return_emptied_lem v a t b ok.formed k.0 i u receipt_record.0 k.2 q4)
