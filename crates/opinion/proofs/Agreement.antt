-- The engine and the rules reply alike, over every list of calls from fresh.
use Prim.Native.Nat.{ℕ, ◌<◌}
use mathlib.Core.List.{List, [], ◌∷◌}
use mathlib.Core.Path.{◌≡◌, sym, ap, ap₂, subst, ◌∙◌}
use lib.ListN.{length}
use Rattle.rules.specs.Relay.{Relay}
use Rattle.rules.specs.Run.{Call, packet, on_tables, asks, saves, loads, Reply, perform}
use Rattle.rules.specs.declared.Tally.{Tally}
use Rattle.history.specs.After.{Entry}
use Rattle.history.specs.Opinion.{list_limit, on_packet, on_call, listed}
use Rattle.history.specs.SecondOpinion.{RepliesAlike, AllReplyAlike}
use Rattle.history.proofs.SecondOpinion.{second_opinion}
use Rattle.opinion_log.specs.Log.{own_in, calls_in, listed_in}
use Rattle.opinion.specs.Agreeing.{Asked, Same, Agree, EngineAgrees}
use Rattle.opinion.proofs.Settled.{entries_length}

-- the log holds this list
pub record HoldsList (own : List ℕ) (entries : List Entry) (log : List ℕ) : Type 0 where
  pub address : own_in log ≡ own
  pub lists : calls_in log ≡ entries

module _ (own : List ℕ) (entries : List Entry) (log : List ℕ) (h : HoldsList own entries log) where
  under : listed_in log < list_limit → length entries < list_limit
  under few = subst (λ (n : ℕ). n < list_limit) (sym (entries_length log (listed_in log)) ∙ ap length h.lists) few

  reply_so : (c : Call) (reply core : Reply) (after : List ℕ) → Asked log c reply after → RepliesAlike own entries c core → Same c reply core
  unfolding RepliesAlike
  reply_so (packet a output) reply core after (answer, out, is, o) alike =
      is ∙ o.replied ∙ ap₂ (λ (x : List ℕ) (es : List Entry). on_packet x es a output) h.address h.lists ∙ alike
  reply_so (on_tables c) reply core after (number, is, o) alike =
      is ∙ o.replied ∙ ap₂ (λ (x : List ℕ) (es : List Entry). on_call x es c) h.address h.lists ∙ alike
  reply_so (asks q) reply core after asked alike = tt
  reply_so (saves f room) reply core after asked alike = tt
  reply_so (loads f file) reply core after asked alike = tt

  pub still_holds : (c : Call) (reply : Reply) (after : List ℕ) → Asked log c reply after → HoldsList own (listed own entries c) after
  unfolding listed
  still_holds (packet a output) reply after (answer, out, is, o) =
      record {
        address = o.own ∙ h.address;
        lists = o.lists ∙ ap₂ (λ (x : List ℕ) (es : List Entry). listed x es (packet a output)) h.address h.lists;
      }
  still_holds (on_tables c) reply after (number, is, o) =
      record {
        address = o.own ∙ h.address;
        lists = o.lists ∙ ap₂ (λ (x : List ℕ) (es : List Entry). listed x es (on_tables c)) h.address h.lists;
      }
  still_holds (asks q) reply after same = record { address = ap own_in same ∙ h.address; lists = ap calls_in same ∙ h.lists }
  still_holds (saves f room) reply after same = record { address = ap own_in same ∙ h.address; lists = ap calls_in same ∙ h.lists }
  still_holds (loads f file) reply after same = record { address = ap own_in same ∙ h.address; lists = ap calls_in same ∙ h.lists }

agree : (cs : List Call) (own : List ℕ) (entries : List Entry) (log : List ℕ) (r : Relay) (t : Tally) → HoldsList own entries log
    → AllReplyAlike own entries cs r t
    → Agree cs log r t
unfolding AllReplyAlike
agree [] own entries log r t h alike = tt
agree (c ∷ cs) own entries log r t h alike = λ reply after asked. (
  λ few. reply_so own entries log h c reply (perform c r t).reply after asked (alike.0 (under own entries log h few)),
  agree cs own (listed own entries c) after (perform c r t).relay (perform c r t).tally (still_holds own entries log h c reply after asked) alike.1,
)

pub engine_agrees : EngineAgrees
engine_agrees own log cs t fresh_log none =
    agree cs own [] log _ t (record { address = fresh_log.own; lists = fresh_log.lists }) (second_opinion own cs t none)
