-- Demand 3's theorems on one list of calls. The renumbering that is put in moves every port one up: the receipt comes in by 2, once 1, and leaves by 3,
-- once 2; the path that is told leaves by 2, once 1, and so it does in the file that is saved. Port 77, outside the sixteen, stays.
use Prim.Native.Nat.{ℕ}
use mathlib.Core.Bool.{true}
use mathlib.Core.List.{List, [], ◌∷◌, ◌++◌, map}
use mathlib.Core.Path.{◌≡◌, refl, sym, ap, ap₂, ◌∙◌}
use lib.ListN.{length, take, drop, replicate}
use lib.Seq.{take_at, drop_at}
use Rattle.rules.specs.Relay.{Port, fresh_port, make_port, Relay, fresh}
use Rattle.rules.specs.Renumbering.{one_to_one, renumbered, composed}
use Rattle.rules.specs.Answers.{rename_verdict, rename_answer}
use Rattle.rules.specs.Calls.{new_tally}
use Rattle.rules.specs.Questions.{rename_told}
use Rattle.rules.specs.Run.{Call, renumbering, Reply, numbered, rename_arrival, rename_call, rename_reply, no_call, moves_ports}
use Rattle.rules.proofs.Unfolding.{rules}
use Rattle.rules.proofs.Scene.{own}
use Rattle.rules.proofs.Sanity.{one_up}
use Rattle.tables.specs.Layout.{relay_of, bytes_of}
use Rattle.tables.proofs.Whole.{back}
use Rattle.demands.specs.Given.{CallsBytes}
use Rattle.demands.specs.Bytes.{replies_on, tables_after_on, tally_after_on}
use Rattle.demands.proofs.Demand3.{both_given, forgets_nothing_fresh, two_are_one_fresh}
use Rattle.demands.proofs.InstanceCalls.{before, later_by, later, given_before, given_later, none_load_later, Runs, said_before, said_later, last_relay, plain_ports, last_tally, plain_run}
use Rattle.demands.proofs.Instance2.{buffer, size, sixteen, start, Goes, goes, held}

-- ---- the end
abbrev pub end : Relay
end = last_relay plain_ports 1

-- ---- forgets_nothing_fresh, behind calls of which it is given what they reply, by a map of which it is given what the last calls, their replies and the end
-- become
module _ (early : List Call) (said_early : List Reply) (given_early : CallsBytes early) (all_said : length said_early ≡ length early)
    (run : Runs (early ++ later) (fresh own) new_tally (said_early ++ said_later 2 1 end) end last_tally)
    (m : List ℕ) (ok : one_to_one m ≡ true) {from port by path : ℕ} {ports : List Port}
    (calls : map (rename_call m) later ≡ later_by from port)
    (said : map (rename_reply m) (said_later 2 1 end) ≡ said_later by path (last_relay ports path))
    (after : renumbered m end ≡ last_relay ports path) where
  given_all : CallsBytes (early ++ later)
  given_all = both_given early later given_early (given_later 1 5)

  end_held : relay_of (tables_after_on (early ++ later) start new_tally) ≡ end
  end_held =
      let tables_hold = held given_all run in
      ap relay_of (goes given_all run).tables ∙ back end tables_hold.shape tables_hold.ok

  pub put_in : Goes (early ++ (renumbering m ∷ later_by from port)) (said_early ++ (numbered 0 ∷ said_later by path (last_relay ports path)))
      (last_relay ports path) last_tally
  unfolding rules no_call moves_ports
  put_in =
      let holds = forgets_nothing_fresh early later given_early (given_later 1 5) buffer own size sixteen m ok refl none_load_later in
      let plain = goes given_all run in
      let changed : early ++ (renumbering m ∷ later_by from port) ≡ early ++ (renumbering m ∷ map (rename_call m) later) =
      ap (λ (cs : List Call). early ++ (renumbering m ∷ cs)) (sym calls) in
      record {
        answers =
            ap (λ (cs : List Call). replies_on cs start new_tally) changed
            ∙ holds.answers
            ∙ ap (λ (x : List Reply). take (length early) x ++ (numbered 0 ∷ map (rename_reply m) (drop (length early) x))) plain.answers
            ∙ ap₂ (λ (x y : List Reply). x ++ (numbered 0 ∷ map (rename_reply m) y))
            (take_at said_early _ (length early) all_said) (drop_at said_early _ (length early) all_said)
            ∙ ap (λ (x : List Reply). said_early ++ (numbered 0 ∷ x)) said;
        tables =
            ap (λ (cs : List Call). tables_after_on cs start new_tally) changed
            ∙ holds.tables
            ∙ ap (λ (r : Relay). bytes_of (renumbered m r)) end_held
            ∙ ap bytes_of after;
        tally =
            ap (λ (cs : List Call). tally_after_on cs start new_tally) changed
            ∙ holds.tally
            ∙ plain.tally;
      }

-- one up
pub one_up_ok : one_to_one one_up ≡ true
unfolding rules
one_up_ok = refl

abbrev pub one_ports : List Port
one_ports = fresh_port ∷ fresh_port ∷ make_port true 2 500 ∷ make_port true 0 500 ∷ fresh_port ∷ fresh_port ∷ make_port true 1 500 ∷ replicate 9 fresh_port

pub one_up_lem : Goes (before ++ (renumbering one_up ∷ later_by 2 6)) (said_before ++ (numbered 0 ∷ said_later 3 2 (last_relay one_ports 2)))
    (last_relay one_ports 2) last_tally
unfolding rules rename_call rename_arrival rename_reply rename_answer rename_verdict rename_told
one_up_lem = put_in before said_before given_before refl plain_run one_up one_up_ok refl refl refl

-- ---- two_are_one_fresh: one up, and then 2 and 3 change places
abbrev swap : List ℕ
swap = 0 ∷ 1 ∷ 3 ∷ 2 ∷ 4 ∷ 5 ∷ 6 ∷ 7 ∷ 8 ∷ 9 ∷ 10 ∷ 11 ∷ 12 ∷ 13 ∷ 14 ∷ 15 ∷ []

swap_ok : one_to_one swap ≡ true
unfolding rules
swap_ok = refl

-- 1 becomes 3, and 2 stays 2
abbrev both : List ℕ
both = 1 ∷ 3 ∷ 2 ∷ 4 ∷ 5 ∷ 6 ∷ 7 ∷ 8 ∷ 9 ∷ 10 ∷ 11 ∷ 12 ∷ 13 ∷ 14 ∷ 15 ∷ 0 ∷ []

both_is : composed one_up swap ≡ both
unfolding rules composed
both_is = refl

both_ok : one_to_one both ≡ true
unfolding rules
both_ok = refl

abbrev both_ports : List Port
both_ports = fresh_port ∷ fresh_port ∷ make_port true 0 500 ∷ make_port true 2 500 ∷ fresh_port ∷ fresh_port ∷ make_port true 1 500 ∷ replicate 9 fresh_port

pub at_once : Goes (before ++ (renumbering both ∷ later_by 3 6)) (said_before ++ (numbered 0 ∷ said_later 2 3 (last_relay both_ports 3)))
    (last_relay both_ports 3) last_tally
unfolding rules rename_call rename_arrival rename_reply rename_answer rename_verdict rename_told
at_once = put_in before said_before given_before refl plain_run both both_ok refl refl refl

pub in_a_row : Goes (before ++ (renumbering one_up ∷ renumbering swap ∷ later_by 3 6))
    (said_before ++ (numbered 0 ∷ numbered 0 ∷ said_later 2 3 (last_relay both_ports 3))) (last_relay both_ports 3) last_tally
in_a_row =
    let holds = two_are_one_fresh before (later_by 3 6) given_before (given_later 3 6) buffer own size sixteen one_up swap one_up_ok swap_ok in
    let once : before ++ (renumbering (composed one_up swap) ∷ later_by 3 6) ≡ before ++ (renumbering both ∷ later_by 3 6) =
    ap (λ (m : List ℕ). before ++ (renumbering m ∷ later_by 3 6)) both_is in
    record {
      answers =
          holds.answers
          ∙ ap (λ (x : List Reply). take (length before) x ++ (numbered 0 ∷ drop (length before) x))
          (ap (λ (cs : List Call). replies_on cs start new_tally) once ∙ at_once.answers);
      tables = holds.tables ∙ ap (λ (cs : List Call). tables_after_on cs start new_tally) once ∙ at_once.tables;
      tally = holds.tally ∙ ap (λ (cs : List Call). tally_after_on cs start new_tally) once ∙ at_once.tally;
    }
