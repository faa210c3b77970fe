-- The calls' contracts, from the rows that hold.
use Prim.Native.Nat.{ℕ, zero, suc, ◌≤◌, ◌<◌}
use native.Mathlib.Omega.{arith}
use mathlib.Core.Bool.{Bool, true, false, not, false≢true}
use mathlib.Core.List.{List, [], ◌∷◌}
use mathlib.Core.Path.{◌≡◌, refl, sym, ap, ap₂, ◌∙◌}
use lib.Dec.{eqb, ltb, leb}
use lib.ListN.{length}
use borrow.Author.Tests.{eq-eqb, ne_eqb, eqb-false, le-leb, lt-leb, lt-ltb, le-ltb, leb-false, ltb-true, ltb-false, not-false}
use Rattle.octets.specs.Index.{◌and◌}
use Rattle.octets.specs.Choice.{◌then◌otherwise◌}
use Rattle.octets.specs.Listed.{Test, ◌gives◌otherwise◌, first_of}
use Rattle.octets.proofs.Choice.{then_true, then_false, or_no_left}
use Rattle.octets.proofs.Listed.{NoneHolds, all_give, refuses, rows_passed, none_first, here, past}
use Rattle.numbers.specs.Numbers.{port_count, clock_limit}
use Rattle.packet.specs.Read.{longest_packet, reading_refusal, reads}
use Rattle.packet.specs.Write.{least_output}
use Rattle.packet.proofs.ReadLaws.{reads_longest}
use Rattle.rules.specs.Relay.{Port}
use Rattle.rules.specs.Arrival.{Arrival}
use Rattle.rules.specs.Judging.{plan, verdict, output_after}
use Rattle.rules.specs.Calls.{TableCall}
use Rattle.rules.specs.Run.{answered, numbered}
use Rattle.rules.specs.declared.Answer.TheVariants.{Refused, Judged}
use Rattle.rules.specs.declared.Verdict.{Verdict}
use Rattle.history.specs.Known.{Known, seen_at}
use Rattle.history.specs.After.{came, called, known_of}
use Rattle.history.specs.Opinion.{list_limit, clock_bad, packet_rows, packet_refused, call_rows, call_refused, judged_by, on_packet, on_call, listed}
use Rattle.opinion_log.specs.Log.{own_in, entries_of, listed_in, calls_in, known_in}
use Rattle.opinion.specs.Calls.{Opines, Settles}
use Rattle.opinion.specs.Steps.{Adds}
use Rattle.opinion_log.proofs.Views.{port_beyond}

pub entries_length : (log : List ℕ) (n : ℕ) → length (entries_of log n) ≡ n
unfolding entries_of
entries_length log zero = refl
entries_length log (suc n) = ap suc (entries_length log n)

module _ (log : List ℕ) (c : TableCall) where
  refused_so : (number : ℕ) → call_refused (own_in log) (calls_in log) c ≡ number → (number ≡ 0 → ⊥) → Settles log c number log
  unfolding on_call listed
  refused_so number is some =
      record {
        replied = ap numbered (sym is);
        lists = sym (then_false _ _ (ne_eqb _ 0 (λ q. some (sym is ∙ q))));
        own = refl;
        refused = λ _. refl;
      }

  pub full : list_limit ≤ listed_in log → Settles log c 28 log
  unfolding call_refused
  full many =
      refused_so 28
      (here (leb list_limit (length (calls_in log))) 28 (call_rows (known_of (own_in log) (calls_in log)) c) 0
      (le-leb list_limit (length (calls_in log)) (omega (arith, entries_length log (listed_in log)))))
      (eqb-false 28 0 refl)

  row_so : listed_in log < list_limit → (number : ℕ) → first_of (call_rows (known_in log (listed_in log)) c) 0 ≡ number
      → call_refused (own_in log) (calls_in log) c ≡ number
  unfolding call_refused known_in
  row_so few number is =
      past (leb list_limit (length (calls_in log))) 28 (call_rows (known_of (own_in log) (calls_in log)) c) 0
      (lt-leb list_limit (length (calls_in log)) (omega (arith, entries_length log (listed_in log))))
      ∙ is

  pub refused : listed_in log < list_limit → (number : ℕ) → first_of (call_rows (known_in log (listed_in log)) c) 0 ≡ number → (number ≡ 0 → ⊥)
      → Settles log c number log
  refused few number is some = refused_so number (row_so few number is) some

  pub accepted : listed_in log < list_limit → first_of (call_rows (known_in log (listed_in log)) c) 0 ≡ 0 → (n : ℕ) → n ≡ listed_in log → (after : List ℕ)
      → Adds log n (called c) after → Settles log c 0 after
  unfolding on_call listed
  accepted few is n so after added =
      let none : eqb (call_refused (own_in log) (calls_in log) c) 0 ≡ true = eq-eqb _ 0 (row_so few 0 is) in
      record {
        replied = ap numbered (sym (row_so few 0 is));
        lists = added.lists ∙ ap (λ (m : ℕ). called c ∷ entries_of log m) so ∙ sym (then_true _ _ none);
        own = added.own;
        refused = λ q. absurd (false≢true (sym q ∙ none));
      }

-- ---- a packet
pub record NotRefused (log : List ℕ) (n : ℕ) (a : Arrival) (room : ℕ) : Type 0 where
  pub few : n < list_limit
  pub wide : least_output ≤ room
  pub port : a.port < port_count
  pub clock : a.clock < clock_limit
  pub readable : reads longest_packet a.bytes ≡ true

-- a port that is on is one of the sixteen
on_port : (log : List ℕ) (n port : ℕ) → ((known_in log n).port port).on ≡ true → port < port_count
on_port log n port on = go (ltb port port_count) refl
  where
    go : (b : Bool) → ltb port port_count ≡ b → port < port_count
    go true q = ltb-true _ _ q
    go false q = absurd (false≢true (sym (ap (λ (p : Port). p.on) (port_beyond log n port (ltb-false _ _ q))) ∙ on))

module _ (log : List ℕ) (n : ℕ) (a : Arrival) (room : ℕ) (none : eqb (packet_refused (own_in log) (entries_of log n) a room) 0 ≡ true) where
  rows : List (Test ℕ)
  rows =
      leb list_limit (length (entries_of log n)) gives 28 otherwise packet_rows (known_of (own_in log) (entries_of log n)) a.port a.clock room

  read : ℕ
  read = reading_refusal ((known_of (own_in log) (entries_of log n)).port a.port).size a.bytes

  passed : NoneHolds rows
  unfolding rows read packet_refused packet_rows all_give refuses ◌and◌
  passed = rows_passed rows read refl none

  pub accepted_packet : NotRefused log n a room
  unfolding rows read packet_refused packet_rows known_in reads
  accepted_packet =
      let (under, (wide, (on, (in_time, _)))) = passed in
      record {
        few = omega (arith, leb-false list_limit (length (entries_of log n)) under, entries_length log n);
        wide = ltb-false room least_output wide;
        port = on_port log n a.port (not-false _ on);
        clock = leb-false clock_limit a.clock (or_no_left _ _ in_time);
        readable = reads_longest ((known_of (own_in log) (entries_of log n)).port a.port).size a.bytes
            (sym (ap (λ (x : ℕ). eqb x 0) (none_first rows read passed)) ∙ none);
      }

module _ (log : List ℕ) (a : Arrival) (output : List ℕ) where
  pub packet_refused_lem : (number : ℕ) → number ≡ packet_refused (own_in log) (calls_in log) a (length output) → (number ≡ 0 → ⊥)
      → Opines log a output (Refused number) log output
  unfolding on_packet listed
  packet_refused_lem number is some =
      let not_none : eqb (packet_refused (own_in log) (calls_in log) a (length output)) 0 ≡ false = ne_eqb _ 0 (λ q. some (is ∙ q)) in
      record {
        replied = ap (λ (x : ℕ). answered (Refused x) output) is ∙ sym (then_false _ _ not_none);
        lists = sym (then_false _ _ not_none);
        own = refl;
        refused = λ _. refl;
      }

  pub packet_judged : eqb (packet_refused (own_in log) (calls_in log) a (length output)) 0 ≡ true → (n : ℕ) → n ≡ listed_in log → (r : Verdict) (o after : List ℕ)
      → r ≡ verdict (seen_at a.clock (known_in log n)) a (plan (seen_at a.clock (known_in log n)) a)
      → o ≡ output_after (seen_at a.clock (known_in log n)) a (plan (seen_at a.clock (known_in log n)) a) output
      → Adds log n (came a) after → Opines log a output (Judged r) after o
  unfolding on_packet judged_by listed known_in
  packet_judged none n so r o after judged sent added =
      record {
        replied = ap₂ (λ (x : Verdict) (y : List ℕ). answered (Judged x) y) judged sent
            ∙ ap (λ (m : ℕ). judged_by (seen_at a.clock (known_in log m)) a output) so
            ∙ sym (then_true _ _ none);
        lists = added.lists ∙ ap (λ (m : ℕ). came a ∷ entries_of log m) so ∙ sym (then_true _ _ none);
        own = added.own;
        refused = λ q. absurd (false≢true (sym q ∙ none));
      }

-- ---- rows that don't hold
pub none_of_one : (test : Bool) (x : ℕ) → test ≡ false → first_of (test gives x otherwise []) 0 ≡ 0
none_of_one test x p = none_first (test gives x otherwise []) 0 (p, tt)

-- ---- a packet's rows, one after the other
module _ (log : List ℕ) (n : ℕ) (a : Arrival) (room : ℕ) where
  abbrev full_row : Bool
  full_row = leb list_limit (length (entries_of log n))

  abbrev k : Known
  k = known_of (own_in log) (entries_of log n)

  abbrev below : ℕ
  below = reading_refusal (k.port a.port).size a.bytes

  abbrev clock_row : List (Test ℕ)
  clock_row = clock_bad k a.clock gives 5 otherwise []

  abbrev port_row : List (Test ℕ)
  port_row = not (k.port a.port).on gives 4 otherwise clock_row

  abbrev room_row : List (Test ℕ)
  room_row = ltb room least_output gives 6 otherwise port_row

  pub row_full : list_limit ≤ n → 28 ≡ packet_refused (own_in log) (entries_of log n) a room
  unfolding packet_refused packet_rows
  row_full many = sym (here full_row 28 room_row below (le-leb list_limit (length (entries_of log n)) (omega (arith, entries_length log n))))

  module _ (few : n < list_limit) where
    not_full : full_row ≡ false
    not_full = lt-leb list_limit (length (entries_of log n)) (omega (arith, entries_length log n))

    pub row_room : room < least_output → 6 ≡ packet_refused (own_in log) (entries_of log n) a room
    unfolding packet_refused packet_rows
    row_room small = sym (past full_row 28 room_row below not_full ∙ here (ltb room least_output) 6 port_row below (lt-ltb room least_output small))

    module _ (wide : least_output ≤ room) where
      to_port_lem : first_of (full_row gives 28 otherwise room_row) below ≡ first_of port_row below
      to_port_lem = past full_row 28 room_row below not_full ∙ past (ltb room least_output) 6 port_row below (le-ltb room least_output wide)

      pub row_port : not ((known_in log n).port a.port).on ≡ true → 4 ≡ packet_refused (own_in log) (entries_of log n) a room
      unfolding packet_refused packet_rows known_in
      row_port off = sym (to_port_lem ∙ here (not (k.port a.port).on) 4 clock_row below off)

      module _ (on : not ((known_in log n).port a.port).on ≡ false) where
        to_clock : first_of (full_row gives 28 otherwise room_row) below ≡ first_of clock_row below
        unfolding known_in
        to_clock = to_port_lem ∙ past (not (k.port a.port).on) 4 clock_row below on

        pub row_clock : clock_bad (known_in log n) a.clock ≡ true → 5 ≡ packet_refused (own_in log) (entries_of log n) a room
        unfolding packet_refused packet_rows known_in
        row_clock bad = sym (to_clock ∙ here (clock_bad k a.clock) 5 [] below bad)

        pub row_read : clock_bad (known_in log n) a.clock ≡ false
            → reading_refusal ((known_in log n).port a.port).size a.bytes ≡ packet_refused (own_in log) (entries_of log n) a room
        unfolding packet_refused packet_rows known_in
        row_read fine = sym (to_clock ∙ none_first clock_row below (fine, tt))
