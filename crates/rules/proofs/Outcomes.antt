-- What the calls of Scene leave: reply, relay and tally, written out.
use Prim.Native.Nat.{ℕ, ◌+◌, ◌-◌, ◌^◌}
use mathlib.Core.Bool.{Bool, true, false}
use mathlib.Core.List.{List, [], ◌∷◌, ◌++◌}
use mathlib.Core.Path.{◌≡◌, refl, ap, ◌∙◌}
use lib.ListN.{length, take, replicate}
use Rattle.octets.specs.Part.{patch}
use Rattle.packet.specs.Hash.{packet_hash, link_id}
use Rattle.numbers.specs.Numbers.{local_count, path_count, blob_limit, link_count, return_count, hash_count}
use Rattle.notes.specs.Notes.{no_notes}
use Rattle.rules.specs.Relay.{make_port, fresh_port, no_rate_settings, Slot, empty, used, Path, Return, Remembered, Relay}
use Rattle.rules.specs.Blobs.{no_blob}
use Rattle.rules.specs.Rate.{starts_at}
use Rattle.rules.specs.View.{view_at}
use Rattle.rules.specs.Refusals.{packet_refusal}
use Rattle.rules.specs.Tests.{bad_form}
use Rattle.rules.specs.Calls.{new_tally}
use Rattle.rules.specs.Run.{Reply, answered, numbered, Outcome, of_judgement, perform}
use Rattle.rules.specs.declared.Link.{Link}
use Rattle.rules.specs.declared.Verdict.TheVariants.{Forward, Spread}
use Rattle.rules.specs.declared.Answer.TheVariants.{Judged}
use Rattle.rules.specs.declared.Tally.{Tally}
use Rattle.rules.proofs.Unfolding.{rules, hashing}
use Rattle.rules.proofs.Shortcut.{passes, seen_quick, good_plan, good_judge, quick}
use Rattle.rules.proofs.Passed.{of_test}
use Rattle.rules.proofs.Scene.{own, blank, blob_with, emission, announce_body, destination, announce_bytes, data_body, data_bytes, data_key, request_body, request_bytes, link, link_proof_bytes, arrival, arrives, next, prepared, announced, carried, asked, proved}

-- ---- replies
-- a packet is spread to one port, or forwarded by it
abbrev pub spreads : List ℕ → ℕ → Reply
spreads bytes port = answered (Judged (Spread (2 ^ port) (length bytes))) (patch blank 0 bytes)

abbrev pub forwards : List ℕ → ℕ → Reply
forwards bytes port = answered (Judged (Forward port (length bytes))) (patch blank 0 bytes)

-- the announce spread, and data and the link request on the last hop
abbrev pub spread_bytes : List ℕ
spread_bytes = 0x71 ∷ 1 ∷ (own ++ (destination ++ (0x00 ∷ announce_body emission)))

abbrev pub data_last_hop : List ℕ
data_last_hop = 0x00 ∷ 4 ∷ (destination ++ (0x00 ∷ data_body))

abbrev pub request_last_hop : List ℕ
request_last_hop = 0x02 ∷ 4 ∷ (destination ++ (0x00 ∷ request_body))

-- ---- tallies and relays
abbrev pub tally_of : ℕ → ℕ → Tally
tally_of spread forwarded =
    record { total = spread + forwarded; dropped = 0; delivered = 0; forwarded = forwarded; spread = spread; kept = 0 }

-- the records, and the places behind them empty
abbrev pub filled : {A : Type 0} → ℕ → List (Slot A) → List (Slot A)
filled n slots = slots ++ replicate (n - length slots) empty

-- port 1 roaming, port 2 boundary, tables filled from the front
abbrev pub relay_of : ℕ → List (Slot Path) → List (Slot Link) → List (Slot Return) → List (Slot Remembered) → Relay
relay_of clock paths links returns hashes =
    record {
      own = own;
      clock = clock;
      rate = no_rate_settings;
      ports = fresh_port ∷ make_port true 2 500 ∷ make_port true 0 500 ∷ replicate 13 fresh_port;
      locals = replicate local_count empty;
      paths = filled path_count paths;
      links = filled link_count links;
      returns = record { slots = filled return_count returns; next = length returns };
      hashes = record { slots = filled hash_count hashes; next = length hashes };
    }

abbrev pub remembers : List ℕ → ℕ → Slot Remembered
remembers bytes expiry = used (record { hash = packet_hash bytes; expiry = expiry })

-- the announce's path, of the destination itself; 21,600 s
abbrev pub known_path : Path
known_path =
    record {
      destination = destination;
      port = 1;
      hops = 0;
      next_hop = destination;
      expiry = 22600;
      rate = starts_at 1000;
      notes = no_notes;
      blobs = record { count = 1; places = blob_with emission ∷ replicate (blob_limit - 1) no_blob };
    }

-- the data's return record; 1,800 s
abbrev pub return_of : List ℕ → Return
return_of key = record { key = key; arrival = 2; leaving = 1; expiry = 3800 }

abbrev pub link_of : List ℕ → (asking answering : ℕ) → Bool → ℕ → Link
link_of id asking answering proved expiry =
    record {
      id = id;
      asking = asking;
      answering = answering;
      taken = record { 0 = 3 };
      remaining = record { 0 = 0 };
      proved = proved;
      expiry = expiry;
    }

abbrev pub prepared_relay : Relay
prepared_relay = relay_of 0 [] [] [] []

abbrev pub announced_relay : Relay
announced_relay = relay_of 1000 (used known_path ∷ []) [] [] (remembers announce_bytes 1300 ∷ [])

abbrev pub carried_relay : List ℕ → Relay
carried_relay key =
    relay_of 2000 (used known_path ∷ []) [] (used (return_of key) ∷ []) (remembers announce_bytes 1300 ∷ remembers data_bytes 2300 ∷ [])

-- 6 s
abbrev pub asked_relay : List ℕ → Relay
asked_relay id =
    relay_of 2000 (used known_path ∷ []) (used (link_of id 2 1 false 2006) ∷ []) []
    (remembers announce_bytes 1300 ∷ remembers request_bytes 2300 ∷ [])

-- 720 s
abbrev pub proved_relay : Relay
proved_relay =
    relay_of 2001 (used known_path ∷ []) (used (link_of link 2 1 true 2721) ∷ []) []
    (remembers announce_bytes 1300 ∷ remembers request_bytes 2300 ∷ remembers (link_proof_bytes 0) 2301 ∷ [])

-- ---- a packet of good form, of which test 2 says `seen`
module _ (bytes : List ℕ) (clock : ℕ) (r : Relay) (t : Tally) {seen : Bool}
    (new : (view_at clock r).remembered (packet_hash bytes) ≡ seen)
    (form : bad_form bytes ≡ false) where
  pub judged_at : (port : ℕ) → packet_refusal r (arrival bytes clock port) (length blank) ≡ 0
      → perform (arrives bytes clock port) r t ≡ of_judgement (good_judge seen (arrival bytes clock port) r t blank)
  unfolding perform
  judged_at port accepted = ap of_judgement (quick (arrival bytes clock port) r t blank accepted new form)

-- ---- the calls
pub prepared_is : prepared ≡ record { reply = numbered 0; relay = prepared_relay; tally = new_tally }
unfolding rules prepared
prepared_is = refl

-- the destination is that of the keys and the name hash
pub announce_form : bad_form announce_bytes ≡ false
unfolding rules hashing
announce_form = refl

pub announce_new : (view_at 1000 prepared_relay).remembered (packet_hash announce_bytes) ≡ false
unfolding rules passes
announce_new = seen_quick 1000 prepared_relay (packet_hash announce_bytes) refl

pub announced_is : announced ≡ record { reply = spreads spread_bytes 2; relay = announced_relay; tally = tally_of 1 0 }
unfolding rules announced good_plan good_judge of_test
announced_is =
    ap (next (arrives announce_bytes 1000 1)) prepared_is
    ∙ judged_at announce_bytes 1000 prepared_relay new_tally announce_new announce_form 1 refl

-- where the announce's hash has expired, no hash is compared
pub data_new : (view_at 2000 announced_relay).remembered (packet_hash data_bytes) ≡ false
unfolding rules passes
data_new = seen_quick 2000 announced_relay (packet_hash data_bytes) refl

pub data_key_lem : take 16 (packet_hash data_bytes) ≡ data_key
unfolding rules hashing
data_key_lem = refl

abbrev carried_by : List ℕ → Outcome
carried_by key = record { reply = forwards data_last_hop 1; relay = carried_relay key; tally = tally_of 1 1 }

pub carried_is : carried ≡ record { reply = forwards data_last_hop 1; relay = carried_relay data_key; tally = tally_of 1 1 }
unfolding rules carried good_plan good_judge of_test
carried_is =
    ap (next (arrives data_bytes 2000 2)) announced_is
    ∙ judged_at data_bytes 2000 announced_relay (tally_of 1 0) data_new refl 2 refl
    ∙ ap carried_by data_key_lem

pub request_new : (view_at 2000 announced_relay).remembered (packet_hash request_bytes) ≡ false
unfolding rules passes
request_new = seen_quick 2000 announced_relay (packet_hash request_bytes) refl

request_id : link_id request_bytes ≡ link
unfolding rules hashing
request_id = refl

abbrev asked_by : List ℕ → Outcome
asked_by id = record { reply = forwards request_last_hop 1; relay = asked_relay id; tally = tally_of 1 1 }

pub asked_is : asked ≡ record { reply = forwards request_last_hop 1; relay = asked_relay link; tally = tally_of 1 1 }
unfolding rules asked good_plan good_judge of_test
asked_is =
    ap (next (arrives request_bytes 2000 2)) announced_is
    ∙ judged_at request_bytes 2000 announced_relay (tally_of 1 0) request_new refl 2 refl
    ∙ ap asked_by request_id

-- the request's hash is still remembered, so the two hashes are compared
pub proof_new : (view_at 2001 (asked_relay link)).remembered (packet_hash (link_proof_bytes 0)) ≡ false
unfolding rules passes hashing
proof_new = seen_quick 2001 (asked_relay link) (packet_hash (link_proof_bytes 0)) refl

pub proved_is : proved ≡ record { reply = forwards (link_proof_bytes 1) 2; relay = proved_relay; tally = tally_of 1 2 }
unfolding rules proved good_plan good_judge of_test
proved_is =
    ap (next (arrives (link_proof_bytes 0) 2001 1)) asked_is
    ∙ judged_at (link_proof_bytes 0) 2001 (asked_relay link) (tally_of 1 1) proof_new refl 1 refl
