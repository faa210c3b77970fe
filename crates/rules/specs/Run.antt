-- Sequences of calls: each gets the relay and tally that the one before left, and brings its own packet and output bytes.
use Rattle.std.specs.Prelude.{ℕ, Bool, true, false, not, List, [], ◌∷◌, eqb, length}
use Rattle.octets.specs.Index.{◌and◌}
use Rattle.octets.specs.Choice.{◌then◌otherwise◌}
use Rattle.rules.specs.Relay.{Relay}
use Rattle.rules.specs.Renumbering.{image, renumbered}
use Rattle.rules.specs.Arrival.{Arrival}
use Rattle.rules.specs.Answers.{rename_answer}
use Rattle.rules.specs.Calls.{Judgement, packet_call, Setting, TableCall, sets_port, sets_rate, adds, removes, renumbers, marks, rule_of, settle}
use Rattle.rules.specs.Questions.{Question, Told, question_rule, tell, rename_told}
use Rattle.rules.specs.Saved.{Said, Format, save_refusal, load_refusal}
use Rattle.rules.specs.declared.Answer.{Answer}
use Rattle.rules.specs.declared.Tally.{Tally}

pub data Call : Type 0 where
  packet : (arrival : Arrival) (output : List ℕ) → Call
  on_tables : TableCall → Call
  asks : Question → Call
  saves : Format → (room : List ℕ) → Call
  loads : Format → (file : List ℕ) → Call

-- the calls on the tables by their names
abbrev pub port_setting : ℕ → Bool → ℕ → ℕ → Call
port_setting port on mode size = on_tables (sets_port port on mode size)

abbrev pub rate_setting : ℕ → ℕ → ℕ → Call
rate_setting target grace penalty = on_tables (sets_rate target grace penalty)

abbrev pub adding : List ℕ → Call
adding address = on_tables (adds address)

abbrev pub removing : List ℕ → Call
removing address = on_tables (removes address)

abbrev pub renumbering : List ℕ → Call
renumbering images = on_tables (renumbers images)

abbrev pub marking : List ℕ → ℕ → Call
marking destination clock = on_tables (marks destination clock)

-- each call of a list is such
unfoldable pub EachCall : (Call → Type 0) → List Call → Type 0
EachCall such [] = Unit {0}
EachCall such (c ∷ cs) = such c × EachCall such cs

-- all that a call returns, and its whole output buffer
pub data Reply : Type 0 where
  answered : (answer : Answer) (output : List ℕ) → Reply
  numbered : (refusal : ℕ) → Reply
  told : Told → Reply
  -- the room that was lent now starts with the file of this relay and this tally; or it is as it was
  saved : (relay : Relay) (tally : Tally) (room : List ℕ) → Reply
  unsaved : (refusal : ℕ) (room : List ℕ) → Reply

pub record Outcome : Type 0 where
  pub reply : Reply
  pub relay : Relay
  pub tally : Tally

unfoldable pub of_judgement : Judgement → Outcome
of_judgement j = record { reply = answered j.answer j.output; relay = j.relay; tally = j.tally }

unfoldable pub of_setting : Tally → Setting → Outcome
of_setting t s = record { reply = numbered s.refusal; relay = s.relay; tally = t }

unfoldable pub of_told : Relay → Tally → Told → Outcome
of_told r t x = record { reply = told x; relay = r; tally = t }

-- a save leaves both
unfoldable pub save_reply : ℕ → Relay → Tally → List ℕ → Reply
save_reply refusal r t room = eqb refusal 0 then saved r t room otherwise unsaved refusal room

-- a load sets both, the last clock with the relay, or leaves both
unfoldable pub of_said : Said → Relay → Tally → Outcome
of_said s r t =
    eqb (load_refusal s) 0
    then record { reply = numbered 0; relay = s.relay; tally = s.tally }
    otherwise record { reply = numbered (load_refusal s); relay = r; tally = t }

unfoldable pub perform : Call → Relay → Tally → Outcome
perform (packet arrival output) r t = of_judgement (packet_call arrival r t output)
perform (on_tables c) r t = of_setting t (settle c r)
perform (asks q) r t = of_told r t (tell q r)
perform (saves f room) r t = record { reply = save_reply (save_refusal f (length room) r) r t room; relay = r; tally = t }
perform (loads f file) r t = of_said (f.says file) r t

-- what each call of a list replies, and the relay and the tally after it
unfoldable pub replies : List Call → Relay → Tally → List Reply
replies [] r t = []
replies (c ∷ cs) r t = (perform c r t).reply ∷ replies cs (perform c r t).relay (perform c r t).tally

unfoldable pub relay_after : List Call → Relay → Tally → Relay
relay_after [] r t = r
relay_after (c ∷ cs) r t = relay_after cs (perform c r t).relay (perform c r t).tally

unfoldable pub tally_after : List Call → Relay → Tally → Tally
tally_after [] r t = t
tally_after (c ∷ cs) r t = tally_after cs (perform c r t).relay (perform c r t).tally

-- ---- the same with the ports given by their new numbers; a map stays as given
unfoldable pub rename_arrival : List ℕ → Arrival → Arrival
rename_arrival m a = record { bytes = a.bytes; port = image m a.port; clock = a.clock; signed = a.signed }

unfoldable pub rename_call : List ℕ → Call → Call
rename_call m (packet arrival output) = packet (rename_arrival m arrival) output
rename_call m (on_tables c) = on_tables ((rule_of c).renamed m)
rename_call m (asks q) = asks ((question_rule q).renamed m)
rename_call m (saves f room) = saves f room
rename_call m (loads f file) = loads f file

unfoldable pub rename_reply : List ℕ → Reply → Reply
rename_reply m (answered answer output) = answered (rename_answer m answer) output
rename_reply m (numbered refusal) = numbered refusal
rename_reply m (told x) = told (rename_told m x)
-- "a save among them is of the renamed tables"
rename_reply m (saved r t room) = saved (renumbered m r) t room
rename_reply m (unsaved refusal room) = unsaved refusal room

-- ---- what no call of a list may be
unfoldable pub no_call : (Call → Bool) → List Call → Bool
no_call such [] = true
no_call such (c ∷ cs) = not (such c) and no_call such cs

-- "where no renumbering stands later in the list": one that is refused may
unfoldable pub moves_ports : Call → Bool
moves_ports (packet arrival output) = false
moves_ports (on_tables c) = (rule_of c).moves_ports
moves_ports (asks q) = false
moves_ports (saves f room) = false
moves_ports (loads f file) = false

abbrev pub none_renumbers : List Call → Bool
none_renumbers = no_call moves_ports

-- "hold no load", "with no load": one that is refused may stand there
unfoldable pub sets_relay : Call → Bool
sets_relay (packet arrival output) = false
sets_relay (on_tables c) = false
sets_relay (asks q) = false
sets_relay (saves f room) = false
sets_relay (loads f file) = eqb (load_refusal (f.says file)) 0

abbrev pub none_loads : List Call → Bool
none_loads = no_call sets_relay
