-- Demand 3: renumbering ports by any one-to-one map forgets nothing.
use Prim.Native.Nat.{ℕ}
use mathlib.Core.Bool.{true}
use mathlib.Core.List.{List, [], ◌∷◌, ◌++◌, map}
use mathlib.Core.Path.{◌≡◌, sym, ap, ap₂, ◌∙◌}
use lib.ListN.{length, take, drop}
use Rattle.rules.specs.Relay.{Relay, fresh}
use Rattle.rules.specs.Renumbering.{one_to_one, renumbered, composed}
use Rattle.rules.specs.Refusals.{tables_ok}
use Rattle.rules.specs.Calls.{new_tally}
use Rattle.rules.specs.Run.{Call, renumbering, Reply, numbered, replies, relay_after, tally_after, rename_call, rename_reply, none_renumbers, none_loads}
use Rattle.rules.specs.declared.Tally.{Tally}
use Rattle.rules.proofs.Images.{composed_one_to_one}
use Rattle.rules.proofs.Valid.{stays_ok, fresh_ok}
use Rattle.rules.proofs.QuestionsRenamed.{sixteen_ports}
use Rattle.rules.proofs.RunRenamed.{Renamable, replies_append, relay_append, tally_append, early, late, replies_after, relay_after_lem, tally_after_lem, renumbered_ok, replies_renamed, relay_renamed, tally_renamed}
use Rattle.rules.proofs.RenumberedTwice.{renumbered_twice}

-- ---- the statements
-- The two runs "differ only in the renumbering put in and the ports given after it". "Compared are all that a call returns, refusal
-- numbers too, and its whole output buffer. Renamed means a port's image, a set's images, and for tables what the renumbering rule
-- above makes of them under that map." Here the renumbering is put in between the calls `before` and the calls `later`
pub record ForgetsNothing (m : List ℕ) (before later : List Call) (r : Relay) (t : Tally) : Type 0 where
  -- the answers before are the same, the renumbering is accepted, and each later answer is the plain run's, renamed
  pub answers :
      replies (before ++ (renumbering m ∷ map (rename_call m) later)) r t
      ≡ take (length before) (replies (before ++ later) r t)
      ++ (numbered 0 ∷ map (rename_reply m) (drop (length before) (replies (before ++ later) r t)))
  -- the relay at the end is the plain run's, renamed
  pub relay : relay_after (before ++ (renumbering m ∷ map (rename_call m) later)) r t ≡ renumbered m (relay_after (before ++ later) r t)
  pub tally : tally_after (before ++ (renumbering m ∷ map (rename_call m) later)) r t ≡ tally_after (before ++ later) r t

-- "The composed map is the first map, then the second." Two renumberings in a row are one by the composed map
pub record TwoAreOne (one two : List ℕ) (before later : List Call) (r : Relay) (t : Tally) : Type 0 where
  pub one_to_one_lem : one_to_one (composed one two) ≡ true
  -- both are accepted, as the one is; all other answers are the same
  pub answers :
      replies (before ++ (renumbering one ∷ renumbering two ∷ later)) r t
      ≡ take (length before) (replies (before ++ (renumbering (composed one two) ∷ later)) r t)
      ++ (numbered 0 ∷ drop (length before) (replies (before ++ (renumbering (composed one two) ∷ later)) r t))
  pub acceptance : take 1 (drop (length before) (replies (before ++ (renumbering (composed one two) ∷ later)) r t)) ≡ numbered 0 ∷ []
  pub relay :
      relay_after (before ++ (renumbering one ∷ renumbering two ∷ later)) r t
      ≡ relay_after (before ++ (renumbering (composed one two) ∷ later)) r t
  pub tally :
      tally_after (before ++ (renumbering one ∷ renumbering two ∷ later)) r t
      ≡ tally_after (before ++ (renumbering (composed one two) ∷ later)) r t

-- ---- the theorems
-- demand 3, for every list of calls, every place in it after which no accepted renumbering and no accepted load stands, and every one-to-one map, from
-- every relay that refusal 7 doesn't name and every tally
pub forgets_nothing : (m : List ℕ) (before later : List Call) (r : Relay) (t : Tally)
    → one_to_one m ≡ true → none_renumbers later ≡ true → none_loads later ≡ true → tables_ok r ≡ true → ForgetsNothing m before later r t
forgets_nothing m before later r t ok still kept fine =
    let h : Renamable later = (still, kept) in
    let s : Relay = relay_after before r t in
    let u : Tally = tally_after before r t in
    let fine-then : tables_ok s ≡ true = stays_ok before r t fine in
    let renamed : List Call = map (rename_call m) later in
    record {
      answers =
          replies_append before (renumbering m ∷ renamed) r t
          ∙ ap₂ (λ (x y : List Reply). x ++ y) (sym (early before later r t))
          (replies_after m ok renamed s u fine-then
          ∙ ap (λ (l : List Reply). numbered 0 ∷ l)
          (replies_renamed m ok later s u fine-then h
          ∙ ap (map (rename_reply m)) (sym (late before later r t))));
      relay =
          relay_append before (renumbering m ∷ renamed) r t
          ∙ relay_after_lem m ok renamed s u fine-then
          ∙ relay_renamed m ok later s u fine-then h
          ∙ ap (renumbered m) (sym (relay_append before later r t));
      tally =
          tally_append before (renumbering m ∷ renamed) r t
          ∙ tally_after_lem m ok renamed s u fine-then
          ∙ tally_renamed m ok later s u fine-then h
          ∙ sym (tally_append before later r t);
    }

-- two in a row are one, at any place of any list, whatever calls stand after it
pub two_are_one : (one two : List ℕ) (before later : List Call) (r : Relay) (t : Tally)
    → one_to_one one ≡ true → one_to_one two ≡ true → tables_ok r ≡ true → TwoAreOne one two before later r t
two_are_one one two before later r t ok_one ok_two fine =
    let s : Relay = relay_after before r t in
    let u : Tally = tally_after before r t in
    let fine-then : tables_ok s ≡ true = stays_ok before r t fine in
    let fine-between : tables_ok (renumbered one s) ≡ true = renumbered_ok one ok_one s fine-then in
    let ok : one_to_one (composed one two) ≡ true = composed_one_to_one one two ok_one ok_two in
    let same : renumbered two (renumbered one s) ≡ renumbered (composed one two) s =
    renumbered_twice one two ok_one ok_two s (sixteen_ports s fine-then) in
    let once : List Call = renumbering (composed one two) ∷ later in
    let answered-once : replies once s u ≡ numbered 0 ∷ replies later (renumbered (composed one two) s) u =
    replies_after (composed one two) ok later s u fine-then in
    record {
      one_to_one_lem = ok;
      answers =
          replies_append before (renumbering one ∷ renumbering two ∷ later) r t
          ∙ ap₂ (λ (x y : List Reply). x ++ y) (sym (early before once r t))
          (replies_after one ok_one (renumbering two ∷ later) s u fine-then
          ∙ ap (λ (l : List Reply). numbered 0 ∷ l)
          (replies_after two ok_two later (renumbered one s) u fine-between
          ∙ ap (λ (x : Relay). numbered 0 ∷ replies later x u) same
          ∙ sym (late before once r t ∙ answered-once)));
      acceptance = ap (take 1) (late before once r t ∙ answered-once);
      relay =
          relay_append before (renumbering one ∷ renumbering two ∷ later) r t
          ∙ relay_after_lem one ok_one (renumbering two ∷ later) s u fine-then
          ∙ relay_after_lem two ok_two later (renumbered one s) u fine-between
          ∙ ap (λ (x : Relay). relay_after later x u) same
          ∙ sym (relay_append before once r t ∙ relay_after_lem (composed one two) ok later s u fine-then);
      tally =
          tally_append before (renumbering one ∷ renumbering two ∷ later) r t
          ∙ tally_after_lem one ok_one (renumbering two ∷ later) s u fine-then
          ∙ tally_after_lem two ok_two later (renumbered one s) u fine-between
          ∙ ap (λ (x : Relay). tally_after later x u) same
          ∙ sym (tally_append before once r t ∙ tally_after_lem (composed one two) ok later s u fine-then);
    }

-- ---- "Both runs start from the same fresh relay, tally 0"
pub forgets_nothing_fresh : (own m : List ℕ) (before later : List Call)
    → one_to_one m ≡ true → none_renumbers later ≡ true → none_loads later ≡ true → ForgetsNothing m before later (fresh own) new_tally
forgets_nothing_fresh own m before later ok still kept = forgets_nothing m before later (fresh own) new_tally ok still kept (fresh_ok own)

pub two_are_one_fresh : (own one two : List ℕ) (before later : List Call)
    → one_to_one one ≡ true → one_to_one two ≡ true → TwoAreOne one two before later (fresh own) new_tally
two_are_one_fresh own one two before later ok_one ok_two = two_are_one one two before later (fresh own) new_tally ok_one ok_two (fresh_ok own)
