-- Every list of calls can be asked of the engine: there are replies and logs that meet its contracts. And what it replies the core replies on its bytes, by
-- `engine_and_core`. No log is computed: what one holds is known by the contracts.
use Prim.Native.Nat.{ℕ, ◌+◌, ◌≤◌, ◌<◌}
use native.Mathlib.Omega.{arith}
use mathlib.Core.Bool.{Bool, true, false, not, false≢true}
use mathlib.Core.List.{List, [], ◌∷◌, map}
use mathlib.Core.Path.{◌≡◌, refl, sym, ap, ap₂, ◌∙◌}
use lib.Dec.{eqb}
use lib.ListN.{length}
use borrow.Author.Tests.{not-true}
use Rattle.octets.specs.Index.{◌and◌}
use Rattle.octets.proofs.Index.{and_left, and_right}
use Rattle.rules.specs.Relay.{fresh}
use Rattle.rules.specs.Refusals.{all}
use Rattle.rules.specs.Calls.{TableCall, sets_port, sets_rate, adds, removes, renumbers, notes_path, rule_of}
use Rattle.rules.specs.Answers.{reason_numbers}
use Rattle.rules.specs.Run.{Call, packet, on_tables, asks, saves, loads, EachCall, Reply, answered, numbered, told, saved, unsaved, none_loads}
use Rattle.rules.specs.declared.Reason.{Reason}
use Rattle.rules.specs.declared.Verdict.{Verdict}
use Rattle.rules.specs.declared.Verdict.TheVariants.{Drop, Deliver, Forward, Spread, Kept}
use Rattle.rules.specs.declared.Answer.{Answer}
use Rattle.rules.specs.declared.Answer.TheVariants.{Refused, Judged}
use Rattle.rules.specs.declared.Tally.{Tally}
use Rattle.rules.proofs.Choices.{either}
use Rattle.tables.specs.Places.{address_width}
use Rattle.tables.specs.Layout.{bytes_of}
use Rattle.tables.specs.Shape.{is_bytes}
use Rattle.tables.proofs.All.{is_length}
use Rattle.history.specs.After.{Entry}
use Rattle.history.specs.Opinion.{list_limit, on_packet, on_call, listed}
use Rattle.history.specs.SecondOpinion.{coarse_reason, coarse_verdict, coarse_answer, coarse, RepliesAlike}
use Rattle.history.proofs.InstanceOpinion.{Replies, listed_one}
use Rattle.opinion_log.specs.Log.{log_size, listed_in}
use Rattle.opinion.specs.Calls.{IsFresh}
use Rattle.opinion.specs.Agreeing.{Asked, Same}
use Rattle.opinion.proofs.Settled.{entries_length}
use Rattle.opinion.proofs.Agreement.{HoldsList, still_holds}
use Rattle.opinion.proofs.Inhabited.{Sixteen, Wide, some_asked, AskedEach, some_replies, start, start_fresh, start_long}
use Rattle.demands.specs.Given.{CallBytes, CallsBytes}
use Rattle.demands.specs.Bytes.{replies_on}
use Rattle.agreeing.specs.Agreeing.{AgreeOn}
use Rattle.agreeing.proofs.Agreement.{engine_and_core}

-- ---- every list of calls that are given bytes has replies and logs that meet the engine's contracts
table_wide : (c : TableCall) → all (is_bytes address_width) (rule_of c).addresses ≡ true → Sixteen c
unfolding rule_of all
table_wide (sets_port port on mode size) h = tt
table_wide (sets_rate target grace penalty) h = tt
table_wide (adds address) h = is_length address_width address (and_left _ _ h)
table_wide (removes address) h = is_length address_width address (and_left _ _ h)
table_wide (renumbers images) h = tt
table_wide (notes_path note destination clock) h = is_length address_width destination (and_left _ _ h)

call_wide : (c : Call) → CallBytes c → Wide c
unfolding CallBytes
call_wide (packet a output) h = tt
call_wide (on_tables c) h = table_wide c h
call_wide (asks q) h = tt
call_wide (saves f room) h = tt
call_wide (loads f file) h = tt

calls_wide : (cs : List Call) → CallsBytes cs → EachCall Wide cs
unfolding EachCall
calls_wide [] h = tt
calls_wide (c ∷ cs) h = (call_wide c h.0, calls_wide cs h.1)

pub some_logs : (cs : List Call) (log : List ℕ) → length log ≡ log_size → CallsBytes cs → (xs : List Reply) × AskedEach cs log xs
some_logs cs log long given = some_replies cs log long (calls_wide cs given)

-- ---- what the engine replies is what the second opinion says
module _ (address : List ℕ) (entries : List Entry) (log : List ℕ) (h : HoldsList address entries log) where
  replied_as : (c : Call) (reply x : Reply) (after : List ℕ) → Asked log c reply after → RepliesAlike address entries c x → Asked log c (coarse x) after
  unfolding RepliesAlike coarse on_call
  replied_as (packet a output) reply x after (answer, out, is, o) alike =
      (answer, out, sym (o.replied ∙ ap₂ (λ (y : List ℕ) (es : List Entry). on_packet y es a output) h.address h.lists ∙ alike), o)
  replied_as (on_tables c) reply x after (number, is, o) alike =
      let so : numbered number ≡ x = o.replied ∙ ap₂ (λ (y : List ℕ) (es : List Entry). on_call y es c) h.address h.lists ∙ alike in
      (number, ap coarse (sym so), o)
  replied_as (asks q) reply x after asked alike = asked
  replied_as (saves f room) reply x after asked alike = asked
  replied_as (loads f file) reply x after asked alike = asked

  few_listed : length entries < list_limit → listed_in log < list_limit
  few_listed few = omega (arith, entries_length log (listed_in log), ap length h.lists)

asked_so : (address : List ℕ) (cs : List Call) (entries : List Entry) (log : List ℕ) (xs : List Reply) → length log ≡ log_size → HoldsList address entries log
    → EachCall Wide cs → Replies address entries cs xs → AskedEach cs log (map coarse xs)
unfolding EachCall Replies AskedEach
asked_so address [] entries log [] long h wide replied = tt
asked_so address [] entries log (x ∷ xs) long h wide replied = elim replied [ ]
asked_so address (c ∷ cs) entries log [] long h wide replied = elim replied [ ]
asked_so address (c ∷ cs) entries log (x ∷ xs) long h wide replied =
    let (reply, after, asked, size) = some_asked log long c wide.0 in
    let holds = still_holds address entries log h c reply after asked in (
      after,
      replied_as address entries log h c reply x after asked replied.0,
      asked_so address cs (listed address entries c) after xs size holds wide.1 replied.1,
    )

-- ---- .. and so, by `engine_and_core`, what the core replies on its bytes, with 6.3 told as 6.2
unfoldable pub is_asked : Call → Bool
is_asked (packet a output) = true
is_asked (on_tables c) = true
is_asked (asks q) = false
is_asked (saves f room) = false
is_asked (loads f file) = false

unfoldable pub each_asked : List Call → Bool
each_asked [] = true
each_asked (c ∷ cs) = is_asked c and each_asked cs

same_so : (log : List ℕ) (c : Call) (reply core : Reply) (after : List ℕ) → is_asked c ≡ true → Asked log c reply after → Same c reply core → coarse core ≡ reply
unfolding is_asked coarse
same_so log (packet a output) reply core after is asked same = sym same
same_so log (on_tables c) reply core after is (number, so, o) same = ap coarse (sym same ∙ so) ∙ sym so
same_so log (asks q) reply core after is asked same = absurd (false≢true is)
same_so log (saves f room) reply core after is asked same = absurd (false≢true is)
same_so log (loads f file) reply core after is asked same = absurd (false≢true is)

core_so : (address : List ℕ) (cs : List Call) (entries : List Entry) (log tables : List ℕ) (t : Tally) (xs : List Reply) → HoldsList address entries log
    → length entries + length cs ≤ list_limit → each_asked cs ≡ true → AgreeOn cs log tables t → AskedEach cs log xs → map coarse (replies_on cs tables t) ≡ xs
unfolding AskedEach replies_on each_asked
core_so address [] entries log tables t [] h few is agree asked = refl
core_so address [] entries log tables t (x ∷ xs) h few is agree asked = elim asked [ ]
core_so address (c ∷ cs) entries log tables t [] h few is agree asked = elim asked [ ]
core_so address (c ∷ cs) entries log tables t (x ∷ xs) h few is agree (after, asked, rest) =
    let (same, agree_later) = agree x after asked in
    ap₂ (λ (y : Reply) (ys : List Reply). y ∷ ys)
    (same_so log c x _ after (and_left _ _ is) asked (same (few_listed address entries log h (omega arith))))
    (core_so address cs (listed address entries c) after _ _ xs (still_holds address entries log h c x after asked)
    (omega (arith, listed_one address entries c)) (and_right _ _ is) agree_later rest)

-- .. and exactly that, where the engine never says 6.2
unfoldable pub reason_no_path : Reason → Bool
reason_no_path reason = eqb (reason_numbers reason).test 6 and eqb (reason_numbers reason).clause 2

unfoldable pub verdict_no_path : Verdict → Bool
verdict_no_path (Drop reason) = reason_no_path reason
verdict_no_path Deliver = false
verdict_no_path (Forward port length) = false
verdict_no_path (Spread ports length) = false
verdict_no_path Kept = false

unfoldable pub answer_no_path : Answer → Bool
answer_no_path (Refused number) = false
answer_no_path (Judged verdict) = verdict_no_path verdict

unfoldable pub says_no_path : Reply → Bool
says_no_path (answered answer output) = answer_no_path answer
says_no_path (numbered refusal) = false
says_no_path (told x) = false
says_no_path (saved r t room) = false
says_no_path (unsaved refusal room) = false

unfoldable pub none_says_no_path : List Reply → Bool
none_says_no_path [] = true
none_says_no_path (x ∷ xs) = not (says_no_path x) and none_says_no_path xs

reason_fine : (reason : Reason) → reason_no_path (coarse_reason reason) ≡ false → coarse_reason reason ≡ reason
unfolding coarse_reason reason_no_path ◌and◌
reason_fine reason =
    either (λ (x : Reason). reason_no_path x ≡ false → x ≡ reason) _ (λ _ none. absurd (false≢true (sym none))) (λ _ _. refl)

verdict_fine : (v : Verdict) → verdict_no_path (coarse_verdict v) ≡ false → coarse_verdict v ≡ v
unfolding coarse_verdict verdict_no_path
verdict_fine (Drop reason) none = ap (λ (x : Reason). Drop x) (reason_fine reason none)
verdict_fine Deliver none = refl
verdict_fine (Forward port length) none = refl
verdict_fine (Spread ports length) none = refl
verdict_fine Kept none = refl

reply_fine : (x : Reply) → says_no_path (coarse x) ≡ false → coarse x ≡ x
unfolding coarse coarse_answer says_no_path answer_no_path
reply_fine (answered (Refused number) output) none = refl
reply_fine (answered (Judged v) output) none = ap (λ (y : Verdict). answered (Judged y) output) (verdict_fine v none)
reply_fine (numbered refusal) none = refl
reply_fine (told x) none = refl
reply_fine (saved r t room) none = refl
reply_fine (unsaved refusal room) none = refl

pub replies_fine : (xs : List Reply) → none_says_no_path (map coarse xs) ≡ true → map coarse xs ≡ xs
unfolding none_says_no_path
replies_fine [] none = refl
replies_fine (x ∷ xs) none =
    ap₂ (λ (y : Reply) (ys : List Reply). y ∷ ys) (reply_fine x (not-true _ (and_left _ _ none))) (replies_fine xs (and_right _ _ none))

-- ---- from a fresh log and fresh tables with one own address
module _ (address : List ℕ) (wide : is_bytes address_width address ≡ true) where
  pub empty_log : List ℕ
  empty_log = start address (is_length address_width address wide)

  empty_fresh : IsFresh address empty_log
  unfolding empty_log
  empty_fresh = start_fresh address (is_length address_width address wide)

  empty_long : length empty_log ≡ log_size
  unfolding empty_log
  empty_long = start_long address (is_length address_width address wide)

  empty_holds : HoldsList address [] empty_log
  empty_holds = record { address = empty_fresh.own; lists = empty_fresh.lists }

  pub engine_said : (cs : List Call) (xs : List Reply) → CallsBytes cs → Replies address [] cs xs → AskedEach cs empty_log (map coarse xs)
  engine_said cs xs given replied = asked_so address cs [] empty_log xs empty_long empty_holds (calls_wide cs given) replied

  module _ (cs : List Call) (t : Tally) (given : CallsBytes cs) (none : none_loads cs ≡ true) (is : each_asked cs ≡ true) (few : length cs ≤ list_limit) where
    pub core_said : (xs : List Reply) → AskedEach cs empty_log xs → map coarse (replies_on cs (bytes_of (fresh address)) t) ≡ xs
    core_said xs asked =
        core_so address cs [] empty_log (bytes_of (fresh address)) t xs empty_holds (omega arith) is
        (engine_and_core address empty_log cs t empty_fresh wide given none) asked

    -- whatever up to 64 packets and settings are, the engine replies to them, and the core replies so
    pub both_reply : (xs : List Reply) × AskedEach cs empty_log xs × (map coarse (replies_on cs (bytes_of (fresh address)) t) ≡ xs)
    both_reply =
        let (xs, asked) = some_logs cs empty_log empty_long given in
        (xs, asked, core_said xs asked)
