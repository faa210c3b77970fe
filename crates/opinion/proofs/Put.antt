-- Each kind of entry, written and read again.
use Prim.Native.Nat.{ℕ, suc, ◌%◌, ◌≤◌, ◌<◌}
use native.Mathlib.Omega.{arith}
use mathlib.Core.Bool.{Bool, true, false}
use mathlib.Core.List.{List, [], ◌∷◌, ◌++◌, append_assoc, map}
use mathlib.Core.Path.{◌≡◌, refl, ap, ap₂, subst, ◌∙◌}
use lib.Dec.{eqb}
use lib.ListN.{length, get_or, length-append}
use lib.Seq.{take_at}
use borrow.Author.Tests.{eqb-false, le-ltb, leb-true}
use Rattle.octets.specs.Part.{part}
use Rattle.octets.specs.BigEndian.{big_endian}
use Rattle.octets.proofs.Index.{and_left, and_right}
use Rattle.octets.proofs.Choice.{then_false}
use Rattle.octets.proofs.BigEndian.{number_big_endian}
use Rattle.numbers.specs.Numbers.{longest_packet, clock_limit, port_count, address_width, target_limit, grace_limit, penalty_limit}
use Rattle.packet.specs.Read.{reads}
use Rattle.packet.proofs.ReadLaws.{reads_readable}
use Rattle.rules.specs.Refusals.{rate_settings_ok}
use Rattle.rules.specs.Renumbering.{one_to_one}
use Rattle.rules.specs.Calls.{sets_port, sets_rate, adds, removes, renumbers, marks}
use Rattle.rules.specs.declared.RateSettings.{RateSettings}
use Rattle.rules.proofs.Images.{image_below}
use Rattle.judging.specs.declared.Arrived.{Arrived}
use Rattle.judging.specs.Seen.{arrival_of}
use Rattle.history.specs.After.{Entry, came, called}
use Rattle.history.specs.Opinion.{list_limit}
use Rattle.opinion_log.specs.Log.{entry_width, log_size, packet_in, rate_in, address_in, kind_in, entry_of, body_at, target_width, penalty_width}
use Rattle.opinion.specs.Steps.{head_bytes, rate_body, with_entry, Adds}
use Rattle.opinion_log.proofs.Entries.{kind_came, kind_rate, kind_other, entry_came, entry_port, entry_rate, entry_added, entry_removed, entry_marked, entry_renumbered}
use Rattle.opinion.proofs.Written.{entry_long, adds_entry, written, head_port, head_word, head_clock, head_length, head_body}

head_wide : (kind port : ℕ) (word : Bool) (mode clock long : ℕ) → length (head_bytes kind port word mode clock long) ≡ body_at
unfolding big_endian
head_wide kind port word mode clock long = refl

-- a kind that needs no test
plain_kind : (kind : ℕ) (rest : List ℕ) → eqb kind 1 ≡ false → eqb kind 3 ≡ false → kind ≤ 6 → kind_in (kind ∷ rest) ≡ kind
plain_kind kind rest p q l =
    kind_other (kind ∷ rest) (eqb-false kind 1 p) (eqb-false kind 3 q) ∙ then_false _ _ (le-ltb 6 kind l)

pub small_map : (m : List ℕ) → ((i : ℕ) → i < length m → get_or m i 0 < port_count) → map (λ x. x % port_count) m ≡ m
small_map [] h = refl
small_map (x ∷ xs) h =
    let first : x < port_count = h 0 (omega arith) in
    ap₂ (λ (y : ℕ) (ys : List ℕ). y ∷ ys) (omega arith) (small_map xs (λ i l. h (suc i) (omega arith)))

module _ (log : List ℕ) (n : ℕ) (size : length log ≡ log_size) (few : n < list_limit) where
  module _ (kind port : ℕ) (word : Bool) (mode clock long : ℕ) (body : List ℕ) (short : length body ≤ longest_packet) where
    fits_entry : length (head_bytes kind port word mode clock long ++ body) ≤ entry_width
    fits_entry =
        omega (arith, length-append (head_bytes kind port word mode clock long) body, head_wide kind port word mode clock long)

    -- the log keeps its size
    pub put_long : length (with_entry log n (head_bytes kind port word mode clock long ++ body)) ≡ log_size
    put_long = entry_long log n (head_bytes kind port word mode clock long ++ body) size few fits_entry

    put : (x : Entry) → ((rest : List ℕ) → entry_of (written kind port word mode clock long (body ++ rest)) ≡ x)
        → Adds log n x (with_entry log n (head_bytes kind port word mode clock long ++ body))
    put x read =
        adds_entry log n (head_bytes kind port word mode clock long ++ body) size few fits_entry x
        (λ rest. ap entry_of (append_assoc (head_bytes kind port word mode clock long) body rest) ∙ read rest)

  pub came_put : (packet : List ℕ) (m : Arrived) → reads longest_packet packet ≡ true → m.port < port_count → m.clock < clock_limit
      → Adds log n (came (arrival_of packet m)) (with_entry log n (head_bytes 1 m.port m.signed 0 m.clock (length packet) ++ packet))
  came_put packet m readable port clock =
      put 1 m.port m.signed 0 m.clock (length packet) packet fits (came (arrival_of packet m)) read
    where
      fits : length packet ≤ longest_packet
      fits = (reads_readable longest_packet packet readable).fits

      read : (rest : List ℕ) → entry_of (written 1 m.port m.signed 0 m.clock (length packet) (packet ++ rest)) ≡ came (arrival_of packet m)
      read rest =
          let e : List ℕ = written 1 m.port m.signed 0 m.clock (length packet) (packet ++ rest) in
          let there : packet_in e ≡ packet =
          ap (part e body_at) (head_length 1 m.port m.signed 0 m.clock (length packet) (packet ++ rest) fits)
          ∙ head_body 1 m.port m.signed 0 m.clock (length packet) (packet ++ rest) (length packet)
          ∙ take_at packet rest (length packet) refl in
          entry_came e (kind_came e refl (ap (reads longest_packet) there ∙ readable))
          ∙ (λ i. came record {
            bytes = there i;
            port = head_port 1 m.port m.signed 0 m.clock (length packet) (packet ++ rest) port i;
            clock = head_clock 1 m.port m.signed 0 m.clock (length packet) (packet ++ rest) clock i;
            signed = head_word 1 m.port m.signed 0 m.clock (length packet) (packet ++ rest) i;
          })

  pub port_put : (port : ℕ) (on : Bool) (mode bytes : ℕ) → port < port_count → bytes ≤ longest_packet
      → Adds log n (called (sets_port port on mode bytes)) (with_entry log n (head_bytes 2 port on mode 0 bytes ++ []))
  port_put port on mode bytes small fits =
      put 2 port on mode 0 bytes [] (omega arith) (called (sets_port port on mode bytes)) read
    where
      read : (rest : List ℕ) → entry_of (written 2 port on mode 0 bytes ([] ++ rest)) ≡ called (sets_port port on mode bytes)
      read rest =
          entry_port (written 2 port on mode 0 bytes rest) (plain_kind 2 _ refl refl (omega arith))
          ∙ (λ i. called (sets_port (head_port 2 port on mode 0 bytes rest small i) (head_word 2 port on mode 0 bytes rest i) mode
          (head_length 2 port on mode 0 bytes rest fits i)))

  -- an address alone
  module _ (address : List ℕ) (wide : length address ≡ address_width) where
    there : (kind clock : ℕ) (rest : List ℕ) → address_in (written kind 0 false 0 clock 0 (address ++ rest)) ≡ address
    there kind clock rest = head_body kind 0 false 0 clock 0 (address ++ rest) address_width ∙ take_at address rest address_width wide

    pub added_put : Adds log n (called (adds address)) (with_entry log n (head_bytes 4 0 false 0 0 0 ++ address))
    added_put =
        put 4 0 false 0 0 0 address (omega arith) (called (adds address))
        (λ rest. entry_added _ (plain_kind 4 _ refl refl (omega arith)) ∙ ap (λ (x : List ℕ). called (adds x)) (there 4 0 rest))

    pub removed_put : Adds log n (called (removes address)) (with_entry log n (head_bytes 5 0 false 0 0 0 ++ address))
    removed_put =
        put 5 0 false 0 0 0 address (omega arith) (called (removes address))
        (λ rest. entry_removed _ (plain_kind 5 _ refl refl (omega arith)) ∙ ap (λ (x : List ℕ). called (removes x)) (there 5 0 rest))

    pub mark_put : (clock : ℕ) → clock < clock_limit → Adds log n (called (marks address clock)) (with_entry log n (head_bytes 6 0 false 0 clock 0 ++ address))
    mark_put clock small =
        put 6 0 false 0 clock 0 address (omega arith) (called (marks address clock))
        (λ rest. entry_marked _ (plain_kind 6 _ refl refl (omega arith))
        ∙ ap₂ (λ (x : List ℕ) (t : ℕ). called (marks x t)) (there 6 clock rest) (head_clock 6 0 false 0 clock 0 (address ++ rest) small))

  -- a map: the sixteen images stand where an address does
  pub map_put : (images : List ℕ) → length images ≡ port_count → one_to_one images ≡ true
      → Adds log n (called (renumbers images)) (with_entry log n (head_bytes 0 0 false 0 0 0 ++ images))
  map_put images wide one =
      put 0 0 false 0 0 0 images (omega arith) (called (renumbers images))
      (λ rest. entry_renumbered _ (plain_kind 0 _ refl refl (omega arith))
      ∙ ap (λ (x : List ℕ). called (renumbers x))
      (ap (map (λ x. x % port_count)) (there images wide 0 0 rest)
      ∙ small_map images (λ i l. image_below images one i (subst (λ (k : ℕ). i < k) wide l))))

  pub rate_put : (s : RateSettings) → rate_settings_ok s ≡ true → Adds log n (called (sets_rate s.target s.grace s.penalty))
      (with_entry log n (head_bytes 3 0 false 0 0 0 ++ rate_body s.target s.grace s.penalty))
  unfolding rate_settings_ok big_endian part
  rate_put s ok =
      put 3 0 false 0 0 0 body (omega arith) (called (sets_rate s.target s.grace s.penalty)) read
    where
      target : s.target ≤ target_limit
      target = leb-true _ _ (and_left _ _ ok)

      grace : s.grace ≤ grace_limit
      grace = leb-true _ _ (and_left _ _ (and_right _ _ ok))

      penalty : s.penalty ≤ penalty_limit
      penalty = leb-true _ _ (and_right _ _ (and_right _ _ ok))

      body : List ℕ
      body = rate_body s.target s.grace s.penalty

      whole : (rest : List ℕ) → rate_in (written 3 0 false 0 0 0 (body ++ rest)) ≡ s
      whole rest = λ i.
          record {
            target = number_big_endian target_width s.target (omega (arith, target)) i;
            grace = small i;
            penalty = number_big_endian penalty_width s.penalty (omega (arith, penalty)) i;
          }
        where
          small : s.grace % 256 ≡ s.grace
          small = omega (arith, grace)

      read : (rest : List ℕ) → entry_of (written 3 0 false 0 0 0 (body ++ rest)) ≡ called (sets_rate s.target s.grace s.penalty)
      read rest =
          entry_rate _ (kind_rate _ refl (ap rate_settings_ok (whole rest) ∙ ok))
          ∙ ap (λ (x : RateSettings). called (sets_rate x.target x.grace x.penalty)) (whole rest)
