-- Document 02, wishes 9 and 11, on lists of calls: each packet call is answered with the lengths that rules/specs/Lengths.antt names, and what leaves by a
-- port is never longer than that port carries.
use Rattle.std.specs.Prelude.{ℕ, Bool, true, false, List, [], ◌∷◌}
use Rattle.octets.specs.Index.{◌and◌}
use Rattle.rules.specs.Run.{Call, packet, on_tables, asks, saves, loads, Reply}
use Rattle.rules.specs.Relay.{Relay}
use Rattle.rules.specs.Lengths.{answer_length_ok, answer_size_ok}
use Rattle.rules.specs.declared.Tally.{Tally}
use Rattle.tables.specs.Layout.{relay_of}
use Rattle.demands.specs.Bytes.{perform_on}
use Rattle.demands.specs.Replays.{answer_in}

unfoldable pub reply_length_ok : Call → Reply → Bool
reply_length_ok (packet arrival output) reply = answer_length_ok arrival.bytes (answer_in reply)
reply_length_ok (on_tables c) reply = true
reply_length_ok (asks q) reply = true
reply_length_ok (saves format room) reply = true
reply_length_ok (loads format file) reply = true

-- the calls, and what each replied
unfoldable pub lengths_ok : List Call → List Reply → Bool
lengths_ok [] said = true
lengths_ok (c ∷ cs) [] = false
lengths_ok (c ∷ cs) (reply ∷ said) = reply_length_ok c reply and lengths_ok cs said

-- ---- wish 11, by the ports' sizes of the relay that the tables hold before the call
unfoldable pub reply_size_ok : Relay → Call → Reply → Bool
reply_size_ok r (packet arrival output) reply = answer_size_ok r (answer_in reply)
reply_size_ok r (on_tables c) reply = true
reply_size_ok r (asks q) reply = true
reply_size_ok r (saves format room) reply = true
reply_size_ok r (loads format file) reply = true

unfoldable pub sizes_ok : List Call → List ℕ → Tally → Bool
sizes_ok [] tables tally = true
sizes_ok (c ∷ cs) tables tally =
    reply_size_ok (relay_of tables) c (perform_on c tables tally).reply
    and sizes_ok cs (perform_on c tables tally).tables (perform_on c tables tally).tally
