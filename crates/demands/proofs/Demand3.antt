-- Demand 3 (docs/scope/00-demands.md), about the bytes: "Renumbering by any one-to-one map of the ports forgets nothing. Take any list of calls on a fresh
-- relay, refused ones included: packets, port settings, local addresses added or removed, renumberings. This is the plain run. Now put such a
-- renumbering in at any place, the start and the end included, where no renumbering stands later in the list. The calls after it give their ports by
-- the new numbers. Then, whatever packets, clocks and signature words come, each later answer is the plain run's with its ports renamed and every other
-- byte equal. At the end the tables are the plain run's tables renamed, and the tallies are equal. A port number outside the sixteen stays as it is. Two
-- such renumberings in a row are one by the composed map." Here `before` stands before the place and `later` after it; either may be empty.
use Prim.Native.Nat.{ℕ}
use mathlib.Core.Bool.{true}
use mathlib.Core.List.{List, [], ◌∷◌, ◌++◌, map}
use mathlib.Core.Path.{◌≡◌, refl, sym, ap, subst, ◌∙◌}
use lib.ListN.{length, take, drop}
use Rattle.octets.specs.Bytes.{Bytes}
use Rattle.octets.specs.Choice.{◌then◌otherwise◌}
use Rattle.rules.specs.Relay.{Relay, fresh}
use Rattle.rules.specs.Renumbering.{one_to_one, renumbered, composed}
use Rattle.rules.specs.Refusals.{all, tables_ok}
use Rattle.octets.specs.Listed.{first_of}
use Rattle.rules.specs.Calls.{new_tally, settled, rule_of, table_refusal, settle}
use Rattle.rules.specs.Run.{EachCall, Call, packet, on_tables, asks, saves, loads, renumbering, Reply, numbered, relay_after, rename_arrival, rename_call, rename_reply, none_renumbers, none_loads}
use Rattle.rules.specs.declared.Tally.{Tally}
use Rattle.rules.proofs.Valid.{stays_ok, fresh_ok}
use Rattle.rules.proofs.CallsRenamed.{addresses_renamed}
use Rattle.rules.proofs.Renumbering.{ForgetsNothing, forgets_nothing, TwoAreOne, two_are_one}
use Rattle.tables.specs.Places.{address_width, table_size}
use Rattle.tables.specs.Layout.{relay_of, bytes_of, well_formed}
use Rattle.tables.specs.Shape.{is_bytes, shaped}
use Rattle.tables.proofs.Whole.{again, ok_relay, shaped_of, back}
use Rattle.tables.specs.Called.{Called, written, called}
use Rattle.settings.specs.Calls.{fresh_on}
use Rattle.renumbering.specs.Calls.{renumber_on}
use Rattle.demands.specs.Given.{CallBytes, CallsBytes}
use Rattle.demands.specs.Bytes.{replies_on, tables_after_on, tally_after_on}
use Rattle.demands.proofs.Shape.{stays_shaped, fresh_shaped}
use Rattle.demands.proofs.Demand2.{FollowsTheRules, run_on, fresh_made}

-- ---- the statements
-- tables renamed: what the renumbering rule makes of the relay that they hold
abbrev pub renamed_tables : List ℕ → List ℕ → List ℕ
renamed_tables m t = bytes_of (renumbered m (relay_of t))

-- The two runs "differ only in the renumbering put in and the ports given after it". "Compared are all that a call returns, refusal
-- numbers too, and its whole output buffer. Renamed means a port's image, a set's images, and for tables what the renumbering rule
-- above makes of them under that map." Both start with the tables `start` and the tally `counts`
pub record ForgetsNothingOn (m : List ℕ) (before later : List Call) (start : List ℕ) (counts : Tally) : Type 0 where
  -- "each later answer is the plain run's with its ports renamed and every other byte equal"; those before are the same, and the renumbering is accepted
  pub answers :
      replies_on (before ++ (renumbering m ∷ map (rename_call m) later)) start counts
      ≡ take (length before) (replies_on (before ++ later) start counts)
      ++ (numbered 0 ∷ map (rename_reply m) (drop (length before) (replies_on (before ++ later) start counts)))
  -- "At the end the tables are the plain run's tables renamed, and the tallies are equal"
  pub tables :
      tables_after_on (before ++ (renumbering m ∷ map (rename_call m) later)) start counts
      ≡ renamed_tables m (tables_after_on (before ++ later) start counts)
  pub tally :
      tally_after_on (before ++ (renumbering m ∷ map (rename_call m) later)) start counts ≡ tally_after_on (before ++ later) start counts

-- "Two such renumberings in a row are one by the composed map": "the first map, then the second" (document 01)
pub record TwoAreOneOn (one two : List ℕ) (before later : List Call) (start : List ℕ) (counts : Tally) : Type 0 where
  pub one_to_one_lem : one_to_one (composed one two) ≡ true
  -- both are accepted, as the one is; all other answers are the same
  pub answers :
      replies_on (before ++ (renumbering one ∷ renumbering two ∷ later)) start counts
      ≡ take (length before) (replies_on (before ++ (renumbering (composed one two) ∷ later)) start counts)
      ++ (numbered 0 ∷ drop (length before) (replies_on (before ++ (renumbering (composed one two) ∷ later)) start counts))
  pub acceptance :
      take 1 (drop (length before) (replies_on (before ++ (renumbering (composed one two) ∷ later)) start counts)) ≡ numbered 0 ∷ []
  pub tables :
      tables_after_on (before ++ (renumbering one ∷ renumbering two ∷ later)) start counts
      ≡ tables_after_on (before ++ (renumbering (composed one two) ∷ later)) start counts
  pub tally :
      tally_after_on (before ++ (renumbering one ∷ renumbering two ∷ later)) start counts
      ≡ tally_after_on (before ++ (renumbering (composed one two) ∷ later)) start counts

-- ---- calls that are given bytes
pub both_given : (before later : List Call) → CallsBytes before → CallsBytes later → CallsBytes (before ++ later)
unfolding EachCall
both_given [] later b l = l
both_given (c ∷ before) later b l = (b.0, both_given before later b.1 l)

-- renamed ones are given the same bytes
call_given : (m : List ℕ) (c : Call) → CallBytes c → CallBytes (rename_call m c)
unfolding CallBytes rename_call rename_arrival
call_given m (packet arrival output) b = b
call_given m (on_tables c) b = rw (addresses_renamed m c) b
call_given m (asks q) b = b
call_given m (saves format room) b = b
call_given m (loads format file) b = b

renamed_given : (m : List ℕ) (cs : List Call) → CallsBytes cs → CallsBytes (map (rename_call m) cs)
unfolding EachCall
renamed_given m [] b = tt
renamed_given m (c ∷ cs) b = (call_given m c b.0, renamed_given m cs b.1)

-- a renumbering before them
after_map : (m : List ℕ) (cs : List Call) → CallsBytes cs → CallsBytes (renumbering m ∷ cs)
unfolding EachCall CallBytes rule_of all
after_map m cs b = (refl, b)

-- ---- on a relay's bytes
module _ (r : Relay) (t : Tally) (ok : tables_ok r ≡ true) (s : shaped r ≡ true) (before later : List Call)
    (b : CallsBytes before) (l : CallsBytes later) where
  forgets_nothing_bytes : (m : List ℕ) → one_to_one m ≡ true → none_renumbers later ≡ true → none_loads later ≡ true
      → ForgetsNothingOn m before later (bytes_of r) t
  forgets_nothing_bytes m one_to_one_lem h kept =
      let plain : List Call = before ++ later in
      let given : CallsBytes plain = both_given before later b l in
      let changed : List Call = before ++ (renumbering m ∷ map (rename_call m) later) in
      let p : FollowsTheRules plain (bytes_of r) t r = run_on plain r t given ok s in
      let q : FollowsTheRules changed (bytes_of r) t r =
      run_on changed r t (both_given before _ b (after_map m _ (renamed_given m later l))) ok s in
      let f : ForgetsNothing m before later r t = forgets_nothing m before later r t one_to_one_lem h kept ok in
      record {
        answers =
            q.answers
            ∙ f.answers
            ∙ ap (λ (x : List Reply). take (length before) x ++ (numbered 0 ∷ map (rename_reply m) (drop (length before) x))) (sym p.answers);
        tables =
            q.tables
            ∙ ap bytes_of f.relay
            ∙ ap (λ (x : Relay). bytes_of (renumbered m x)) (sym (back (relay_after plain r t) (stays_shaped plain r t given ok s) (stays_ok plain r t ok)))
            ∙ ap (renamed_tables m) (sym p.tables);
        tally = q.tally ∙ f.tally ∙ sym p.tally;
      }

  two_are_one_bytes : (one two : List ℕ) → one_to_one one ≡ true → one_to_one two ≡ true → TwoAreOneOn one two before later (bytes_of r) t
  two_are_one_bytes one two ok_one ok_two =
      let once : List Call = before ++ (renumbering (composed one two) ∷ later) in
      let twice : List Call = before ++ (renumbering one ∷ renumbering two ∷ later) in
      let p : FollowsTheRules once (bytes_of r) t r = run_on once r t (both_given before _ b (after_map (composed one two) later l)) ok s in
      let q : FollowsTheRules twice (bytes_of r) t r =
      run_on twice r t (both_given before _ b (after_map one _ (after_map two later l))) ok s in
      let f : TwoAreOne one two before later r t = two_are_one one two before later r t ok_one ok_two ok in
      record {
        one_to_one_lem = f.one_to_one_lem;
        answers =
            q.answers
            ∙ f.answers
            ∙ ap (λ (x : List Reply). take (length before) x ++ (numbered 0 ∷ drop (length before) x)) (sym p.answers);
        acceptance = ap (λ (x : List Reply). take 1 (drop (length before) x)) p.answers ∙ f.acceptance;
        tables = q.tables ∙ ap bytes_of f.relay ∙ sym p.tables;
        tally = q.tally ∙ f.tally ∙ sym p.tally;
      }

-- ---- the theorems
-- demand 3, for every list of calls, every place in it after which no accepted renumbering stands, and every one-to-one map, from all
-- well-formed tables and every tally. Document 02, Wish 4: "demand 3's later calls hold no load", those before may
module _ (before later : List Call) (b : CallsBytes before) (l : CallsBytes later) where
  module _ (tables : List ℕ) (tally : Tally) (bytes : Bytes tables) (h : well_formed tables ≡ true) where
    pub forgets_nothing_on : (m : List ℕ) → one_to_one m ≡ true → none_renumbers later ≡ true → none_loads later ≡ true
        → ForgetsNothingOn m before later tables tally
    forgets_nothing_on m one_to_one_lem none kept =
        subst (λ (x : List ℕ). ForgetsNothingOn m before later x tally) (again tables bytes h)
        (forgets_nothing_bytes (relay_of tables) tally (ok_relay tables h) (shaped_of tables bytes h) before later b l m one_to_one_lem none kept)

    -- two in a row are one, at any place of any list, whatever calls stand after it
    pub two_are_one_on : (one two : List ℕ) → one_to_one one ≡ true → one_to_one two ≡ true → TwoAreOneOn one two before later tables tally
    two_are_one_on one two ok_one ok_two =
        subst (λ (x : List ℕ). TwoAreOneOn one two before later x tally) (again tables bytes h)
        (two_are_one_bytes (relay_of tables) tally (ok_relay tables h) (shaped_of tables bytes h) before later b l one two ok_one ok_two)

  -- "Both runs start from the same fresh relay, tally 0": the bytes that `fresh` makes
  module _ (buffer own : List ℕ) (size : length buffer ≡ table_size) (sixteen : is_bytes address_width own ≡ true) where
    pub forgets_nothing_fresh : (m : List ℕ) → one_to_one m ≡ true → none_renumbers later ≡ true
        → none_loads later ≡ true → ForgetsNothingOn m before later (fresh_on buffer own).tables new_tally
    forgets_nothing_fresh m one_to_one_lem none kept =
        subst (λ (x : Called). ForgetsNothingOn m before later x.tables new_tally) (sym (fresh_made buffer own size))
        (forgets_nothing_bytes (fresh own) new_tally (fresh_ok own) (fresh_shaped own sixteen) before later b l m one_to_one_lem none kept)

    pub two_are_one_fresh : (one two : List ℕ) → one_to_one one ≡ true → one_to_one two ≡ true
        → TwoAreOneOn one two before later (fresh_on buffer own).tables new_tally
    two_are_one_fresh one two ok_one ok_two =
        subst (λ (x : Called). TwoAreOneOn one two before later x.tables new_tally) (sym (fresh_made buffer own size))
        (two_are_one_bytes (fresh own) new_tally (fresh_ok own) (fresh_shaped own sixteen) before later b l one two ok_one ok_two)

-- tables renamed are what the renumbering call writes: no second renaming is defined
pub renamed_by_the_call : (m tables : List ℕ) → well_formed tables ≡ true → one_to_one m ≡ true
    → renumber_on tables m ≡ record { refusal = 0; tables = renamed_tables m tables }
unfolding called written settle table_refusal rule_of first_of settled ◌then◌otherwise◌
renamed_by_the_call m tables h ok = rw (h, ok_relay tables h, ok)
