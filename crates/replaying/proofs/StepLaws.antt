-- The laws of a step: what `step` gives where the entry is there, and where it isn't.
use Prim.Native.Nat.{ℕ, ◌+◌, ◌<◌}
use mathlib.Core.Bool.{Bool, true, false}
use mathlib.Core.List.{List, []}
use Rattle.std.proofs.Common.{Some, None}
use mathlib.Core.Path.{◌≡◌, refl, sym, ap, ◌∙◌}
use lib.Dec.{eqb}
use lib.ListN.{replicate}
use borrow.Author.Tests.{ltb-true}
use Rattle.octets.proofs.Index.{and_left}
use Rattle.octets.proofs.Choice.{then_true, then_false}
use Rattle.rules.specs.declared.Answer.{Answer}
use Rattle.rules.specs.declared.Answer.TheVariants.{Refused}
use Rattle.rules.specs.declared.Tally.{Tally}
use Rattle.relay.specs.Promise.{JudgementOn, Promises, packet_on}
use Rattle.recording.specs.Shape.{count_of}
use Rattle.recording.specs.Reader.{is_there, fields_of, body_of, entry_of}
use Rattle.recording.specs.Reader.{Fields}
use Rattle.text.specs.Text.{text_of}
use Rattle.text.specs.declared.Text.{Text}
use Rattle.replaying.specs.Lines.{answer_line}
use Rattle.replaying.specs.Promise.{entry_call, step_as, step_of, step_on, Steps}
use Rattle.numbers.specs.Numbers.{least_output}

module _ (f : List ℕ) (i : ℕ) where
  there_is : (fields_of f i).there ≡ is_there f i
  unfolding fields_of
  there_is = go (is_there f i) refl
    where
      go : (b : Bool) → is_there f i ≡ b → (fields_of f i).there ≡ is_there f i
      go true e = ap (λ (x : Fields). x.there) (then_true _ _ e) ∙ sym e
      go false e = ap (λ (x : Fields). x.there) (then_false _ _ e) ∙ sym e

  pub there_counted : is_there f i ≡ true → i < count_of f
  unfolding is_there
  there_counted e = ltb-true i (count_of f) (and_left _ _ e)

  module _ (fields : Fields) (e : fields ≡ fields_of f i) where
    pub found : fields.there ≡ is_there f i
    found = ap (λ (x : Fields). x.there) e ∙ there_is

    -- the call that the code makes is the entry's
    pub called : (t : List ℕ) (tally : Tally) (body : List ℕ) → body ≡ body_of f i → (port : ℕ) → port ≡ fields.port
        → packet_on body port fields.clock (eqb fields.word 1) t tally (replicate least_output 0) ≡ entry_call (entry_of f i) t tally
    unfolding entry_call entry_of
    called t tally body same_body port same_port = rw (same_body, same_port, e)

  module _ (t : List ℕ) (tally : Tally) where
    pub step_none : is_there f i ≡ false → step_on f i t tally ≡ record { there = false; answer = Refused 22; line = []; tables = t; tally = tally }
    unfolding step_on
    step_none e = then_false _ _ e

    pub step_there : is_there f i ≡ true → step_on f i t tally ≡ step_of i (entry_call (entry_of f i) t tally)
    unfolding step_on
    step_there e = then_true _ _ e

    -- ---- what the code returns and leaves
    pub not_stepped : is_there f i ≡ false → Steps (step_on f i t tally) (step_as (record { answer = Refused 22; tally = tally; line = None })) t
    not_stepped e = rw (step_none e) (refl, refl)

    pub stepped : is_there f i ≡ true → (j : JudgementOn) → j ≡ entry_call (entry_of f i) t tally
        → (answer : Answer) (after : Tally) (u o : List ℕ) → Promises j answer after u o
        → (line : Text) → line ≡ text_of (answer_line (i + 1) answer)
        → Steps (step_on f i t tally) (step_as (record { answer = answer; tally = after; line = Some line })) u
    unfolding step_of
    stepped e j q answer after u o p line l = rw (step_there e, ← q, l, p.0, p.1, p.2) (refl, refl)
