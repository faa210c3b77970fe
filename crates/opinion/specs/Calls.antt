-- Document 02, wish 13: the engine's calls on a log. What each replies, and the list after it, are the definitions of crate `history`, over the list that
-- the log holds.
use Rattle.std.specs.Prelude.{ℕ, false, List, [], ◌≡◌, eqb, length}
use Rattle.rules.specs.Arrival.{Arrival}
use Rattle.rules.specs.Calls.{TableCall}
use Rattle.rules.specs.Run.{packet, on_tables, answered, numbered}
use Rattle.rules.specs.declared.Answer.{Answer}
use Rattle.history.specs.Opinion.{packet_refused, call_refused, on_packet, on_call, listed}
use Rattle.opinion_log.specs.Log.{own_in, calls_in}

-- a packet call: its answer and its output, and the log after it. A refusal changes no byte of the log
pub record Opines (log : List ℕ) (a : Arrival) (output : List ℕ) (answer : Answer) (after : List ℕ) (output_after : List ℕ) : Type 0 where
  pub replied : answered answer output_after ≡ on_packet (own_in log) (calls_in log) a output
  pub lists : calls_in after ≡ listed (own_in log) (calls_in log) (packet a output)
  pub own : own_in after ≡ own_in log
  pub refused : eqb (packet_refused (own_in log) (calls_in log) a (length output)) 0 ≡ false → after ≡ log

-- the other calls: the refusal's number, or 0, and the log after it
pub record Settles (log : List ℕ) (c : TableCall) (refusal : ℕ) (after : List ℕ) : Type 0 where
  pub replied : numbered refusal ≡ on_call (own_in log) (calls_in log) c
  pub lists : calls_in after ≡ listed (own_in log) (calls_in log) (on_tables c)
  pub own : own_in after ≡ own_in log
  pub refused : eqb (call_refused (own_in log) (calls_in log) c) 0 ≡ false → after ≡ log

-- a fresh log: nothing is listed
pub record IsFresh (address log : List ℕ) : Type 0 where
  pub own : own_in log ≡ address
  pub lists : calls_in log ≡ []
