-- The theorem is not empty: there is a fresh log with every own address, and every call on a log, refused or not, has a reply and a log after it that meet its
-- contract. So every list of calls has logs.
use Prim.Native.Nat.{ℕ, ◌<◌}
use native.Mathlib.Omega.{arith}
use mathlib.Core.Bool.{Bool, true, false}
use mathlib.Core.List.{List, [], ◌∷◌, ◌++◌}
use mathlib.Core.Path.{◌≡◌, refl, sym, ap, ◌∙◌}
use lib.Dec.{eqb, ltb}
use lib.ListN.{length, replicate, length-replicate}
use borrow.Author.Tests.{eqb-true, eqb-false, leb-true, leb-false, ltb-true, ltb-false, not-false}
use Rattle.octets.specs.Choice.{◌or◌}
use Rattle.octets.specs.Index.{◌and◌}
use Rattle.octets.specs.Listed.{first_of}
use Rattle.octets.specs.Part.{patch}
use Rattle.octets.specs.BigEndian.{big_endian}
use Rattle.octets.proofs.Choice.{or_no_left, or_no_right}
use Rattle.octets.proofs.Index.{and_left, and_right}
use Rattle.octets.proofs.Listed.{NoneHolds, all_give, refuses, rows_passed}
use Rattle.octets.proofs.Part.{patch_length}
use Rattle.numbers.specs.Numbers.{is_size, longest_packet, port_count}
use Rattle.packet.proofs.ReadLaws.{reads_readable}
use Rattle.rules.specs.Relay.{make_rate_settings, fresh}
use Rattle.rules.specs.Arrival.{Arrival}
use Rattle.rules.specs.Judging.{plan, verdict, output_after}
use Rattle.rules.specs.Renumbering.{one_to_one}
use Rattle.rules.specs.Calls.{TableCall, new_tally, sets_port, sets_rate, adds, removes, renumbers, notes_path}
use Rattle.rules.specs.Run.{Call, packet, on_tables, asks, saves, loads, EachCall, Reply, answered, numbered, perform, no_call, sets_relay}
use Rattle.notes.specs.declared.Note.TheVariants.{Unresponsive}
use Rattle.rules.specs.declared.Answer.{Answer}
use Rattle.rules.specs.declared.Answer.TheVariants.{Refused, Judged}
use Rattle.judging.specs.declared.Arrived.{Arrived}
use Rattle.history.specs.Known.{Known, seen_at}
use Rattle.history.specs.After.{called}
use Rattle.history.specs.Opinion.{list_limit, packet_refused, call_rows}
use Rattle.opinion_log.specs.Log.{address_width, count_at, log_size, own_in, calls_in, listed_in, known_in}
use Rattle.opinion.specs.Calls.{Opines, Settles, IsFresh}
use Rattle.opinion.specs.Steps.{head_bytes, rate_body, with_entry, Adds}
use Rattle.opinion.specs.Agreeing.{Asked}
use Rattle.opinion.proofs.Written.{fresh_log}
use Rattle.opinion.proofs.Put.{put_long, came_put, port_put, rate_put, added_put, removed_put, mark_put, map_put}
use Rattle.opinion.proofs.Settled.{entries_length, NotRefused, accepted_packet, packet_refused_lem, packet_judged, full, refused, accepted, none_of_one}
use Rattle.opinion.proofs.Agreement.{engine_agrees}

-- ---- every packet call is met
pub some_reply : (log : List ℕ) → length log ≡ log_size → (a : Arrival) (output : List ℕ)
    → (answer : Answer) × (after : List ℕ) × (out : List ℕ) × Opines log a output answer after out × (length after ≡ log_size)
some_reply log long a output = go (eqb refusal 0) refl
  where
    n : ℕ
    n = listed_in log

    refusal : ℕ
    refusal = packet_refused (own_in log) (calls_in log) a (length output)

    m : Arrived
    m = record { port = a.port; clock = a.clock; signed = a.signed }

    go : (b : Bool) → eqb refusal 0 ≡ b
        → (answer : Answer) × (after : List ℕ) × (out : List ℕ) × Opines log a output answer after out × (length after ≡ log_size)
    go true none =
        let fine : NotRefused log n a (length output) = accepted_packet log n a (length output) none in
        let v = seen_at a.clock (known_in log n) in
        let added = came_put log n long fine.few a.bytes m fine.readable fine.port fine.clock in
        let fits = (reads_readable longest_packet a.bytes fine.readable).fits in (
          Judged (verdict v a (plan v a)),
          with_entry log n (head_bytes 1 a.port a.signed 0 a.clock (length a.bytes) ++ a.bytes),
          output_after v a (plan v a) output,
          packet_judged log a output none n refl _ _ _ refl refl added,
          put_long log n long fine.few 1 a.port a.signed 0 a.clock (length a.bytes) a.bytes fits,
        )
    go false some = (Refused refusal, log, output, packet_refused_lem log a output refusal refl (eqb-false refusal 0 some), long)

-- ---- and every other call, whose addresses have sixteen bytes
abbrev pub Sixteen : TableCall → Type 0
Sixteen (sets_port port on mode size) = Unit {0}
Sixteen (sets_rate target grace penalty) = Unit {0}
Sixteen (adds address) = length address ≡ address_width
Sixteen (removes address) = length address ≡ address_width
Sixteen (renumbers images) = Unit {0}
Sixteen (notes_path note destination clock) = length destination ≡ address_width

-- one that no row refuses can be listed
module _ (log : List ℕ) (n : ℕ) (long : length log ≡ log_size) (few : n < list_limit) where
  can_list : (k : Known) (c : TableCall) → Sixteen c → NoneHolds (call_rows k c)
      → (after : List ℕ) × Adds log n (called c) after × (length after ≡ log_size)
  unfolding call_rows is_size one_to_one big_endian
  can_list k (sets_port port on mode size) wide (fine, _) =
      let small = leb-false port_count port (or_no_left _ _ fine) in
      let sized = not-false _ (or_no_right _ _ (or_no_right _ _ fine)) in
      let fits = leb-true size longest_packet (and_right _ _ sized) in
      (_, port_put log n long few port on mode size small fits, put_long log n long few 2 port on mode 0 size [] (omega arith))
  can_list k (sets_rate target grace penalty) wide (fine, _) = (
    _,
    rate_put log n long few (make_rate_settings target grace penalty) (not-false _ fine),
    put_long log n long few 3 0 false 0 0 0 (rate_body target grace penalty) (omega arith),
  )
  can_list k (adds address) wide _ =
      (_, added_put log n long few address wide, put_long log n long few 4 0 false 0 0 0 address (omega arith))
  can_list k (removes address) wide _ =
      (_, removed_put log n long few address wide, put_long log n long few 5 0 false 0 0 0 address (omega arith))
  can_list k (renumbers images) wide (fine, _) =
      let one = not-false _ fine in
      let sixteen = eqb-true (length images) port_count (and_left _ _ one) in
      (_, map_put log n long few images sixteen one, put_long log n long few 0 0 false 0 0 0 images (omega arith))
  can_list k (notes_path Unresponsive destination clock) wide (fine, _) =
      let small = leb-false _ clock (or_no_left _ _ fine) in
      (_, mark_put log n long few destination wide clock small, put_long log n long few 6 0 false 0 clock 0 destination (omega arith))

rows_refuse : (k : Known) (c : TableCall) → all_give refuses (call_rows k c) ≡ true
unfolding call_rows all_give refuses ◌and◌
rows_refuse k (sets_port port on mode size) = refl
rows_refuse k (sets_rate target grace penalty) = refl
rows_refuse k (adds address) = refl
rows_refuse k (removes address) = refl
rows_refuse k (renumbers images) = refl
rows_refuse k (notes_path note destination clock) = refl

pub some_number : (log : List ℕ) → length log ≡ log_size → (c : TableCall) → Sixteen c
    → (number : ℕ) × (after : List ℕ) × Settles log c number after × (length after ≡ log_size)
some_number log long c wide = go (ltb n list_limit) refl
  where
    n : ℕ
    n = listed_in log

    row : ℕ
    row = first_of (call_rows (known_in log (listed_in log)) c) 0

    under : n < list_limit → (b : Bool) → eqb row 0 ≡ b
        → (number : ℕ) × (after : List ℕ) × Settles log c number after × (length after ≡ log_size)
    under few true none =
        let k = known_in log n in
        let (after, added, size) = can_list log n long few k c wide (rows_passed (call_rows k c) 0 (rows_refuse k c) none) in
        (0, after, accepted log c few (eqb-true row 0 none) n refl after added, size)
    under few false some = (row, log, refused log c few row refl (eqb-false row 0 some), long)

    go : (b : Bool) → ltb n list_limit ≡ b → (number : ℕ) × (after : List ℕ) × Settles log c number after × (length after ≡ log_size)
    go true q = under (ltb-true _ _ q) (eqb row 0) refl
    go false q = (28, log, full log c (ltb-false _ _ q), long)

-- ---- any call
abbrev pub Wide : Call → Type 0
Wide (packet a output) = Unit {0}
Wide (on_tables c) = Sixteen c
Wide (asks q) = Unit {0}
Wide (saves f room) = Unit {0}
Wide (loads f file) = Unit {0}

pub some_asked : (log : List ℕ) → length log ≡ log_size → (c : Call) → Wide c
    → (reply : Reply) × (after : List ℕ) × Asked log c reply after × (length after ≡ log_size)
some_asked log long (packet a output) wide =
    let (answer, after, out, met, size) = some_reply log long a output in
    (answered answer out, after, (answer, out, refl, met), size)
some_asked log long (on_tables c) wide =
    let (number, after, met, size) = some_number log long c wide in
    (numbered number, after, (number, refl, met), size)
some_asked log long (asks q) wide = (numbered 0, log, refl, long)
some_asked log long (saves f room) wide = (numbered 0, log, refl, long)
some_asked log long (loads f file) wide = (numbered 0, log, refl, long)

-- ---- a list of calls, each asked on the log that the one before left, with the reply to each
unfoldable pub AskedEach : List Call → List ℕ → List Reply → Type 0
AskedEach [] log [] = Unit {0}
AskedEach [] log (reply ∷ replies) = ⊥
AskedEach (c ∷ cs) log [] = ⊥
AskedEach (c ∷ cs) log (reply ∷ replies) = (after : List ℕ) × Asked log c reply after × AskedEach cs after replies

pub some_replies : (cs : List Call) (log : List ℕ) → length log ≡ log_size → EachCall Wide cs → (replies : List Reply) × AskedEach cs log replies
unfolding EachCall AskedEach
some_replies [] log long wide = ([], tt)
some_replies (c ∷ cs) log long wide =
    let (reply, after, asked, size) = some_asked log long c wide.0 in
    let (replies, rest) = some_replies cs after size wide.1 in
    (reply ∷ replies, (after, asked, rest))

-- ---- a day's start, with an own address
module _ (own : List ℕ) (wide : length own ≡ address_width) where
  pub start : List ℕ
  start = patch (patch (replicate log_size 0) 0 own) count_at (0 ∷ [])

  pub start_fresh : IsFresh own start
  unfolding start
  start_fresh = fresh_log (replicate log_size 0) own (length-replicate {A = ℕ} log_size 0) wide

  pub start_long : length start ≡ log_size
  unfolding start
  start_long =
      let inner : length (patch (replicate log_size 0) 0 own) ≡ log_size =
      patch_length (replicate log_size 0) 0 own (omega (arith, length-replicate {A = ℕ} log_size 0)) ∙ length-replicate {A = ℕ} log_size 0 in
      patch_length (patch (replicate log_size 0) 0 own) count_at (0 ∷ []) (omega arith) ∙ inner

  none_listed : listed_in start ≡ 0
  none_listed = sym (entries_length start (listed_in start)) ∙ ap length start_fresh.lists

  -- port 1 is switched on, and the engine says 0, as the core does
  pub port_set_lem : Settles start (sets_port 1 true 0 500) 0 (with_entry start 0 (head_bytes 2 1 true 0 0 500 ++ []))
  unfolding call_rows is_size ◌or◌ ◌and◌
  port_set_lem =
      accepted start (sets_port 1 true 0 500) (omega (arith, none_listed)) (none_of_one _ 9 refl) 0 (sym none_listed) _
      (port_put start 0 start_long (omega arith) 1 true 0 500 (omega arith) (omega arith))

  pub port_alike : numbered 0 ≡ (perform (on_tables (sets_port 1 true 0 500)) (fresh own) new_tally).reply
  unfolding no_call sets_relay ◌and◌
  port_alike =
      (engine_agrees own start (on_tables (sets_port 1 true 0 500) ∷ []) new_tally start_fresh refl (numbered 0) _ (0, refl, port_set_lem)).0
      (omega (arith, none_listed))
