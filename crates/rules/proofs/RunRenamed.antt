-- Lists of calls, one after the other and renamed.
use Prim.Native.Nat.{ℕ, suc}
use mathlib.Core.Bool.{true}
use mathlib.Core.List.{List, [], ◌∷◌, ◌++◌, map}
use mathlib.Core.Path.{◌≡◌, refl, ap, subst, ◌∙◌}
use lib.ListN.{length, take, drop}
use lib.Seq.{take_at, drop_at}
use Rattle.rules.specs.Relay.{Relay}
use Rattle.rules.specs.Renumbering.{one_to_one, renumbered}
use Rattle.rules.specs.Refusals.{tables_ok}
use Rattle.rules.specs.Calls.{new_tally}
use Rattle.rules.specs.Run.{Call, renumbering, Reply, numbered, Outcome, perform, replies, relay_after, tally_after, rename_call, rename_reply, moves_ports, none_renumbers, sets_relay, none_loads}
use Rattle.rules.specs.declared.Tally.{Tally}
use Rattle.rules.proofs.Held.{first_none, others_none}
use Rattle.rules.proofs.Valid.{step_ok}
use Rattle.rules.proofs.CallsRenamed.{rename_outcome, accepted, call_renamed}

-- ---- two lists, one after the other
pub replies_append : (before later : List Call) (r : Relay) (t : Tally)
    → replies (before ++ later) r t ≡ replies before r t ++ replies later (relay_after before r t) (tally_after before r t)
unfolding replies relay_after tally_after
replies_append [] later r t = refl
replies_append (c ∷ before) later r t =
    ap (λ (l : List Reply). (perform c r t).reply ∷ l) (replies_append before later (perform c r t).relay (perform c r t).tally)

pub relay_append : (before later : List Call) (r : Relay) (t : Tally)
    → relay_after (before ++ later) r t ≡ relay_after later (relay_after before r t) (tally_after before r t)
unfolding relay_after tally_after
relay_append [] later r t = refl
relay_append (c ∷ before) later r t = relay_append before later (perform c r t).relay (perform c r t).tally

pub tally_append : (before later : List Call) (r : Relay) (t : Tally)
    → tally_after (before ++ later) r t ≡ tally_after later (relay_after before r t) (tally_after before r t)
unfolding relay_after tally_after
tally_append [] later r t = refl
tally_append (c ∷ before) later r t = tally_append before later (perform c r t).relay (perform c r t).tally

pub replies_length : (cs : List Call) (r : Relay) (t : Tally) → length (replies cs r t) ≡ length cs
unfolding replies
replies_length [] r t = refl
replies_length (c ∷ cs) r t = ap suc (replies_length cs (perform c r t).relay (perform c r t).tally)

-- the replies to the first list, and to the second
module _ (before later : List Call) (r : Relay) (t : Tally) where
  pub early : take (length before) (replies (before ++ later) r t) ≡ replies before r t
  early =
      ap (take (length before)) (replies_append before later r t)
      ∙ take_at (replies before r t) _ (length before) (replies_length before r t)

  pub late : drop (length before) (replies (before ++ later) r t) ≡ replies later (relay_after before r t) (tally_after before r t)
  late =
      ap (drop (length before)) (replies_append before later r t)
      ∙ drop_at (replies before r t) _ (length before) (replies_length before r t)

-- ---- an accepted renumbering, then other calls
module _ (m : List ℕ) (ok : one_to_one m ≡ true) (later : List Call) (r : Relay) (t : Tally) (fine : tables_ok r ≡ true) where
  pub replies_after : replies (renumbering m ∷ later) r t ≡ numbered 0 ∷ replies later (renumbered m r) t
  unfolding replies
  replies_after = ap (λ (o : Outcome). o.reply ∷ replies later o.relay o.tally) (accepted m r t fine ok)

  pub relay_after_lem : relay_after (renumbering m ∷ later) r t ≡ relay_after later (renumbered m r) t
  unfolding relay_after
  relay_after_lem = ap (λ (o : Outcome). relay_after later o.relay o.tally) (accepted m r t fine ok)

  pub tally_after_lem : tally_after (renumbering m ∷ later) r t ≡ tally_after later (renumbered m r) t
  unfolding tally_after
  tally_after_lem = ap (λ (o : Outcome). tally_after later o.relay o.tally) (accepted m r t fine ok)

-- ---- a list, renamed
-- neither an accepted renumbering nor an accepted load stands in it
abbrev pub Renamable : List Call → Type 0
Renamable cs = (none_renumbers cs ≡ true) × (none_loads cs ≡ true)

others : (c : Call) (cs : List Call) → Renamable (c ∷ cs) → Renamable cs
others c cs h = (others_none moves_ports c cs h.0, others_none sets_relay c cs h.1)

module _ (m : List ℕ) (ok : one_to_one m ≡ true) where
  pub renumbered_ok : (r : Relay) → tables_ok r ≡ true → tables_ok (renumbered m r) ≡ true
  renumbered_ok r fine =
      subst (λ (o : Outcome). tables_ok o.relay ≡ true) (accepted m r new_tally fine ok) (step_ok (renumbering m) r new_tally fine)

  first_renamed : (r : Relay) → tables_ok r ≡ true → (c : Call) (cs : List Call) (t : Tally) → Renamable (c ∷ cs)
      → perform (rename_call m c) (renumbered m r) t ≡ rename_outcome m (perform c r t)
  first_renamed r fine c cs t h =
      call_renamed m ok r fine (renumbered_ok r fine) c t (first_none moves_ports c cs h.0) (first_none sets_relay c cs h.1)

  pub replies_renamed : (cs : List Call) (r : Relay) (t : Tally) → tables_ok r ≡ true → Renamable cs
      → replies (map (rename_call m) cs) (renumbered m r) t ≡ map (rename_reply m) (replies cs r t)
  unfolding replies rename_outcome
  replies_renamed [] r t fine h = refl
  replies_renamed (c ∷ cs) r t fine h =
      ap (λ (o : Outcome). o.reply ∷ replies (map (rename_call m) cs) o.relay o.tally) (first_renamed r fine c cs t h)
      ∙ ap (λ (l : List Reply). rename_reply m (perform c r t).reply ∷ l)
      (replies_renamed cs (perform c r t).relay (perform c r t).tally (step_ok c r t fine) (others c cs h))

  pub relay_renamed : (cs : List Call) (r : Relay) (t : Tally) → tables_ok r ≡ true → Renamable cs
      → relay_after (map (rename_call m) cs) (renumbered m r) t ≡ renumbered m (relay_after cs r t)
  unfolding relay_after rename_outcome
  relay_renamed [] r t fine h = refl
  relay_renamed (c ∷ cs) r t fine h =
      ap (λ (o : Outcome). relay_after (map (rename_call m) cs) o.relay o.tally) (first_renamed r fine c cs t h)
      ∙ relay_renamed cs (perform c r t).relay (perform c r t).tally (step_ok c r t fine) (others c cs h)

  pub tally_renamed : (cs : List Call) (r : Relay) (t : Tally) → tables_ok r ≡ true → Renamable cs
      → tally_after (map (rename_call m) cs) (renumbered m r) t ≡ tally_after cs r t
  unfolding tally_after rename_outcome
  tally_renamed [] r t fine h = refl
  tally_renamed (c ∷ cs) r t fine h =
      ap (λ (o : Outcome). tally_after (map (rename_call m) cs) o.relay o.tally) (first_renamed r fine c cs t h)
      ∙ tally_renamed cs (perform c r t).relay (perform c r t).tally (step_ok c r t fine) (others c cs h)
