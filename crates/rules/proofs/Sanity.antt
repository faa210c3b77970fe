-- The rules are not empty: a fresh relay with two ports on spreads an announce, forwards data and its receipt, and opens and carries a
-- link; each also with a renumbering put in between. The packets and the calls before them are Scene's.
use Prim.Native.Nat.{ℕ, ◌+◌}
use mathlib.Core.Bool.{true, false}
use mathlib.Core.List.{List, [], ◌∷◌}
use mathlib.Core.Path.{◌≡◌, refl, ap, ◌∙◌}
use lib.ListN.{length}
use Rattle.octets.specs.Choice.{◌then◌otherwise◌}
use Rattle.packet.specs.Hash.{packet_hash}
use Rattle.rules.specs.Relay.{used, Relay, fresh}
use Rattle.rules.specs.View.{view_at, hash_place}
use Rattle.rules.specs.Refusals.{packet_refusal}
use Rattle.rules.specs.Renumbering.{renumbered}
use Rattle.rules.specs.Tests.{bad_form}
use Rattle.rules.specs.Calls.{new_tally, renumbers, rule_of, table_refusal, settle, settled}
use Rattle.rules.specs.Run.{Call, port_setting, renumbering, Reply, numbered, Outcome, of_judgement, of_setting, perform, replies, moves_ports, sets_relay, no_call}
use Rattle.rules.specs.declared.Tally.{Tally}
use Rattle.rules.proofs.Unfolding.{rules}
use Rattle.rules.proofs.Shortcut.{passes, seen_quick, good_plan, good_judge}
use Rattle.rules.proofs.Passed.{of_test}
use Rattle.rules.proofs.Scene.{own, blank, announce_bytes, data_bytes, data_key, receipt_bytes, request_bytes, link, link_proof_bytes, link_bytes, arrival, arrives, next, prepared, announced, carried, asked, proved}
use Rattle.rules.proofs.Outcomes.{spreads, forwards, spread_bytes, data_last_hop, request_last_hop, tally_of, link_of, prepared_relay, announced_relay, carried_relay, asked_relay, proved_relay, judged_at, announce_form, announce_new, data_new, request_new, proof_new, prepared_is, announced_is, carried_is, asked_is, proved_is}
use Rattle.rules.proofs.Renumbering.{ForgetsNothing, forgets_nothing_fresh}

-- the renumbering: port 0 becomes 1, and so on; 15 becomes 0
abbrev pub one_up : List ℕ
one_up = 1 ∷ 2 ∷ 3 ∷ 4 ∷ 5 ∷ 6 ∷ 7 ∷ 8 ∷ 9 ∷ 10 ∷ 11 ∷ 12 ∷ 13 ∷ 14 ∷ 15 ∷ 0 ∷ []

-- after `before`, a packet that comes in by one port leaves by another; and where the renumbering comes first, by their new numbers
pub record LeavesBy (before : Outcome) (sent : ℕ → Call) (from : ℕ) (reply : ℕ → Reply) (by : ℕ) : Type 0 where
  pub at_once : replies (sent from ∷ []) before.relay before.tally ≡ reply by ∷ []
  pub renumbered_first : replies (renumbering one_up ∷ sent (from + 1) ∷ []) before.relay before.tally ≡ numbered 0 ∷ reply (by + 1) ∷ []

module _ (bytes : List ℕ) (clock : ℕ) (r : Relay) (t : Tally)
    (new : (view_at clock r).remembered (packet_hash bytes) ≡ false)
    (form : bad_form bytes ≡ false) where
  judged_on : Relay → ℕ → Outcome
  judged_on on port = of_judgement (good_judge false (arrival bytes clock port) on t blank)

  moved : table_refusal (renumbers one_up) r ≡ 0 → perform (renumbering one_up) r t ≡ record { reply = numbered 0; relay = renumbered one_up r; tally = t }
  unfolding perform of_setting settle rule_of settled ◌then◌otherwise◌
  moved ok = rw ok

  -- renumbering leaves the remembered hashes
  new_moved : (view_at clock (renumbered one_up r)).remembered (packet_hash bytes) ≡ false
  unfolding view_at hash_place renumbered
  new_moved = new

  judged_moved : (port : ℕ) → packet_refusal (renumbered one_up r) (arrival bytes clock port) (length blank) ≡ 0
      → perform (arrives bytes clock port) (renumbered one_up r) t ≡ judged_on (renumbered one_up r) port
  unfolding judged_on
  judged_moved = judged_at bytes clock (renumbered one_up r) t new_moved form

  leaves : (from : ℕ) (reply : ℕ → Reply) (by : ℕ) (last : Reply)
      → packet_refusal r (arrival bytes clock from) (length blank) ≡ 0
      → (judged_on r from).reply ≡ reply by
      → table_refusal (renumbers one_up) r ≡ 0
      → packet_refusal (renumbered one_up r) (arrival bytes clock (from + 1)) (length blank) ≡ 0
      → (judged_on (renumbered one_up r) (from + 1)).reply ≡ reply (by + 1)
      → LeavesBy (record { reply = last; relay = r; tally = t }) (arrives bytes clock) from reply by
  unfolding replies judged_on
  leaves from reply by last accepted here ok taken there =
      record {
        at_once = ap (λ (o : Outcome). o.reply ∷ []) (judged_at bytes clock r t new form from accepted) ∙ ap (λ (x : Reply). x ∷ []) here;
        renumbered_first =
            ap (λ (o : Outcome). o.reply ∷ (next (arrives bytes clock (from + 1)) o).reply ∷ []) (moved ok)
            ∙ ap (λ (o : Outcome). numbered 0 ∷ o.reply ∷ []) (judged_moved (from + 1) taken)
            ∙ ap (λ (x : Reply). numbered 0 ∷ x ∷ []) there;
      }

-- a fresh relay with two ports on spreads a good announce
pub announce_spreads : LeavesBy prepared (arrives announce_bytes 1000) 1 (spreads spread_bytes) 2
unfolding rules good_plan good_judge of_test judged_on
announce_spreads = rw prepared_is (leaves announce_bytes 1000 prepared_relay new_tally announce_new announce_form 1 _ 2 _ refl refl refl refl refl)

-- data to that destination is forwarded
pub data_forwarded : LeavesBy announced (arrives data_bytes 2000) 2 (forwards data_last_hop) 1
unfolding rules good_plan good_judge of_test judged_on
data_forwarded = rw announced_is (leaves data_bytes 2000 announced_relay (tally_of 1 0) data_new refl 2 _ 1 _ refl refl refl refl refl)

-- its receipt comes home by the port where the data came in
receipt_new : (view_at 2500 (carried_relay data_key)).remembered (packet_hash (receipt_bytes 5)) ≡ false
unfolding rules passes
receipt_new = seen_quick 2500 (carried_relay data_key) (packet_hash (receipt_bytes 5)) refl

pub receipt_comes_home : LeavesBy carried (arrives (receipt_bytes 5) 2500) 1 (forwards (receipt_bytes 6)) 2
unfolding rules good_plan good_judge of_test judged_on
receipt_comes_home =
    rw carried_is
    (leaves (receipt_bytes 5) 2500 (carried_relay data_key) (tally_of 1 1) receipt_new refl 1 _ 2 _ refl refl refl refl refl)

-- a link request is forwarded
pub request_forwarded : LeavesBy announced (arrives request_bytes 2000) 2 (forwards request_last_hop) 1
unfolding rules good_plan good_judge of_test judged_on
request_forwarded = rw announced_is (leaves request_bytes 2000 announced_relay (tally_of 1 0) request_new refl 2 _ 1 _ refl refl refl refl refl)

-- its proof comes back
pub proof_comes_back : LeavesBy asked (arrives (link_proof_bytes 0) 2001) 1 (forwards (link_proof_bytes 1)) 2
unfolding rules good_plan good_judge of_test judged_on
proof_comes_back = rw asked_is (leaves (link_proof_bytes 0) 2001 (asked_relay link) (tally_of 1 1) proof_new refl 1 _ 2 _ refl refl refl refl refl)

-- .. and proves the link
pub record Proves : Type 0 where
  pub unproved : (view_at 2001 asked.relay).link link ≡ used (link_of link 2 1 false 2006)
  pub at_once : (view_at 2001 (next (arrives (link_proof_bytes 0) 2001 1) asked).relay).link link ≡ used (link_of link 2 1 true 2721)
  pub renumbered_first :
      (view_at 2001 (next (arrives (link_proof_bytes 0) 2001 2) (next (renumbering one_up) asked)).relay).link link ≡ used (link_of link 3 2 true 2721)

pub proof_proves : Proves
unfolding rules good_plan good_judge of_test judged_on proved
proof_proves =
    record {
      unproved = ap (λ (o : Outcome). (view_at 2001 o.relay).link link) asked_is;
      at_once = ap (λ (o : Outcome). (view_at 2001 o.relay).link link) proved_is;
      renumbered_first =
          ap (λ (o : Outcome). (view_at 2001 (next (arrives (link_proof_bytes 0) 2001 2) (next (renumbering one_up) o)).relay).link link) asked_is
          ∙ ap (λ (o : Outcome). (view_at 2001 (next (arrives (link_proof_bytes 0) 2001 2) o).relay).link link)
          (moved (link_proof_bytes 0) 2001 (asked_relay link) (tally_of 1 1) proof_new refl refl)
          ∙ ap (λ (o : Outcome). (view_at 2001 o.relay).link link)
          (judged_moved (link_proof_bytes 0) 2001 (asked_relay link) (tally_of 1 1) proof_new refl 2 refl);
    }

-- link data goes both ways
link_new : (hops : ℕ) → (view_at 2400 proved_relay).remembered (packet_hash (link_bytes hops)) ≡ false
unfolding rules passes
link_new hops = seen_quick 2400 proved_relay (packet_hash (link_bytes hops)) refl

pub data_to_asking_side : LeavesBy proved (arrives (link_bytes 0) 2400) 1 (forwards (link_bytes 1)) 2
unfolding rules good_plan good_judge of_test judged_on
data_to_asking_side = rw proved_is (leaves (link_bytes 0) 2400 proved_relay (tally_of 1 2) (link_new 0) refl 1 _ 2 _ refl refl refl refl refl)

pub data_to_answering_side : LeavesBy proved (arrives (link_bytes 3) 2400) 2 (forwards (link_bytes 4)) 1
unfolding rules good_plan good_judge of_test judged_on
data_to_answering_side = rw proved_is (leaves (link_bytes 3) 2400 proved_relay (tally_of 1 2) (link_new 3) refl 2 _ 1 _ refl refl refl refl refl)

-- demand 3's theorem speaks of such lists: packets, and a map that is refused, after the renumbering
pub receipt_after_renumbering : ForgetsNothing one_up
    (port_setting 1 true 2 500 ∷ port_setting 2 true 0 500 ∷ arrives announce_bytes 1000 1 ∷ arrives data_bytes 2000 2 ∷ [])
    (arrives (receipt_bytes 5) 2500 1 ∷ renumbering [] ∷ [])
    (fresh own) new_tally
unfolding rules no_call moves_ports sets_relay
receipt_after_renumbering = forgets_nothing_fresh own one_up _ _ refl refl refl
