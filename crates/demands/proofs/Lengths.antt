-- Document 02, wishes 9 and 11, about the bytes: what leaves is at most 500 bytes long and never longer than the port carries that it leaves by, and a
-- forwarded packet is as long as it came in or sixteen bytes shorter. On any tables, whatever packet, port, clock, word and buffers.
use Prim.Native.Nat.{ℕ}
use mathlib.Core.Bool.{true}
use mathlib.Core.List.{List, [], ◌∷◌}
use mathlib.Core.Path.{◌≡◌, refl}
use Rattle.octets.proofs.Index.{and_both}
use Rattle.rules.specs.Run.{Call, packet, on_tables, asks, saves, loads}
use Rattle.rules.specs.declared.Tally.{Tally}
use Rattle.tables.specs.Layout.{relay_of}
pub use Rattle.relay.proofs.LengthLaws.{lengths_on, sizes_on}
use Rattle.demands.specs.Bytes.{of_packet, perform_on, replies_on}
use Rattle.demands.specs.Replays.{answer_in}
use Rattle.demands.specs.Lengths.{reply_length_ok, lengths_ok, reply_size_ok, sizes_ok}

-- any list of calls
call_length : (c : Call) (tables : List ℕ) (tally : Tally) → reply_length_ok c (perform_on c tables tally).reply ≡ true
unfolding reply_length_ok perform_on of_packet answer_in
call_length (packet a output) tables tally = lengths_on a.bytes a.port a.clock a.signed tables tally output
call_length (on_tables c) tables tally = refl
call_length (asks q) tables tally = refl
call_length (saves format room) tables tally = refl
call_length (loads format file) tables tally = refl

pub lengths_on_calls : (cs : List Call) (tables : List ℕ) (tally : Tally) → lengths_ok cs (replies_on cs tables tally) ≡ true
unfolding lengths_ok replies_on
lengths_on_calls [] tables tally = refl
lengths_on_calls (c ∷ cs) tables tally =
    and_both (call_length c tables tally) (lengths_on_calls cs (perform_on c tables tally).tables (perform_on c tables tally).tally)

call_size : (c : Call) (tables : List ℕ) (tally : Tally) → reply_size_ok (relay_of tables) c (perform_on c tables tally).reply ≡ true
unfolding reply_size_ok perform_on of_packet answer_in
call_size (packet a output) tables tally = sizes_on a.bytes a.port a.clock a.signed tables tally output
call_size (on_tables c) tables tally = refl
call_size (asks q) tables tally = refl
call_size (saves format room) tables tally = refl
call_size (loads format file) tables tally = refl

pub sizes_on_calls : (cs : List Call) (tables : List ℕ) (tally : Tally) → sizes_ok cs tables tally ≡ true
unfolding sizes_ok
sizes_on_calls [] tables tally = refl
sizes_on_calls (c ∷ cs) tables tally =
    and_both (call_size c tables tally) (sizes_on_calls cs (perform_on c tables tally).tables (perform_on c tables tally).tally)
