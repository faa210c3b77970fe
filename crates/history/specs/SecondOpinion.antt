-- Document 02, wish 13: "Show that it and the core answer alike, output bytes too, at each call that finds under 64 listed; having no slots, for 6.2 and 6.3 it
-- need only say 6.2 or 6.3." Proved in proofs/SecondOpinion.antt.
use Rattle.std.specs.Prelude.{ℕ, ◌<◌, true, List, [], ◌∷◌, ◌≡◌, eqb, length}
use Rattle.octets.specs.Index.{◌and◌}
use Rattle.octets.specs.Choice.{◌then◌otherwise◌}
use Rattle.rules.specs.Relay.{Relay, fresh}
use Rattle.rules.specs.Answers.{reason_numbers}
use Rattle.rules.specs.Run.{Call, packet, on_tables, asks, saves, loads, Reply, answered, numbered, told, saved, unsaved, perform, none_loads}
use Rattle.rules.specs.declared.Blocked.TheVariants.{NoPath}
use Rattle.rules.specs.declared.Reason.{Reason}
use Rattle.rules.specs.declared.Reason.TheVariants.{NoWayOn}
use Rattle.rules.specs.declared.Verdict.{Verdict}
use Rattle.rules.specs.declared.Verdict.TheVariants.{Drop, Deliver, Forward, Spread, Kept}
use Rattle.rules.specs.declared.Answer.{Answer}
use Rattle.rules.specs.declared.Answer.TheVariants.{Refused, Judged}
use Rattle.rules.specs.declared.Tally.{Tally}
use Rattle.history.specs.After.{Entry}
use Rattle.history.specs.Opinion.{list_limit, on_packet, on_call, listed}

-- ---- what the core says, with 6.3 told as 6.2; all else as it is
unfoldable pub coarse_reason : Reason → Reason
coarse_reason reason = eqb (reason_numbers reason).test 6 and eqb (reason_numbers reason).clause 3 then NoWayOn NoPath otherwise reason

unfoldable pub coarse_verdict : Verdict → Verdict
coarse_verdict (Drop reason) = Drop (coarse_reason reason)
coarse_verdict Deliver = Deliver
coarse_verdict (Forward port length) = Forward port length
coarse_verdict (Spread ports length) = Spread ports length
coarse_verdict Kept = Kept

unfoldable pub coarse_answer : Answer → Answer
coarse_answer (Refused number) = Refused number
coarse_answer (Judged verdict) = Judged (coarse_verdict verdict)

unfoldable pub coarse : Reply → Reply
coarse (answered answer output) = answered (coarse_answer answer) output
coarse (numbered refusal) = numbered refusal
coarse (told x) = told x
coarse (saved r t room) = saved r t room
coarse (unsaved refusal room) = unsaved refusal room

-- ---- the two reply alike to a call. A reply is all that a call returns, with its whole output buffer. Questions, saves and loads are not asked of the second
-- opinion
unfoldable pub RepliesAlike : List ℕ → List Entry → Call → Reply → Type 0
RepliesAlike own entries (packet a output) reply = on_packet own entries a output ≡ coarse reply
RepliesAlike own entries (on_tables c) reply = on_call own entries c ≡ reply
RepliesAlike own entries (asks q) reply = Unit {0}
RepliesAlike own entries (saves f room) reply = Unit {0}
RepliesAlike own entries (loads f file) reply = Unit {0}

-- "at each call that finds under 64 listed"
unfoldable pub AllReplyAlike : List ℕ → List Entry → List Call → Relay → Tally → Type 0
AllReplyAlike own entries [] r t = Unit {0}
AllReplyAlike own entries (c ∷ cs) r t =
    (length entries < list_limit → RepliesAlike own entries c (perform c r t).reply)
    × AllReplyAlike own (listed own entries c) cs (perform c r t).relay (perform c r t).tally

-- over every list of calls on a fresh relay: refused ones, questions and saves may stand among them, but of loads only refused ones
abbrev pub SecondOpinion : Type 0
SecondOpinion = (own : List ℕ) (cs : List Call) (t : Tally) → none_loads cs ≡ true → AllReplyAlike own [] cs (fresh own) t
