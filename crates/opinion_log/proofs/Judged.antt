-- Judging by what is seen is judging by what is known.
use Prim.Native.Nat.{ℕ}
use mathlib.Core.List.{List}
use mathlib.Core.Path.{◌≡◌, refl, ap, ◌∙◌}
use Rattle.packet.specs.Header.{is_data}
use Rattle.rules.specs.View.{View}
use Rattle.rules.specs.Arrival.{Arrival, header}
use Rattle.rules.specs.Judging.{Plan, plan, verdict, output_after}
use Rattle.rules.specs.Writes.{remembers}
use Rattle.judging.specs.declared.Seen.{Seen}
use Rattle.judging.specs.declared.SeenWay.TheVariants.{Everywhere, ByPath, AlongLink, ByReturn, Blocked}
use Rattle.judging.specs.declared.Planned.{Planned}
use Rattle.judging.specs.declared.Planned.TheVariants.{Drop, Deliver, Follow}
use Rattle.judging.specs.Seen.{view_of, Sees, plan_of}
use Rattle.judging.proofs.Narrow.{plan_seen, verdict_seen, output_seen, remembers_seen}
use Rattle.history.specs.Known.{Known, seen_at}
use Rattle.history.specs.After.{came}
use Rattle.opinion_log.specs.Steps.{plan_effect, way_effect, effect_of, keeps_hash, planned_effect}

-- the effect of what was planned
effect_planned : (s : Seen) (a : Arrival) (r : Planned) → planned_effect r (is_data (header a)) ≡ plan_effect a (plan_of s a r)
unfolding plan_effect way_effect
effect_planned s a (Drop reason) = refl
effect_planned s a Deliver = refl
effect_planned s a (Follow Everywhere) = refl
effect_planned s a (Follow (ByPath p)) = refl
effect_planned s a (Follow (AlongLink l)) = refl
effect_planned s a (Follow (ByReturn t)) = refl
effect_planned s a (Follow (Blocked why)) = refl

module _ (v : View) (a : Arrival) (s : Seen) (h : Sees s v a) where
  pub verdict_so : verdict (view_of s a) a (plan (view_of s a) a) ≡ verdict v a (plan v a)
  verdict_so = ap (verdict (view_of s a) a) (plan_seen v a s h) ∙ verdict_seen v a s h (plan v a)

  pub output_so : (output : List ℕ) → output_after (view_of s a) a (plan (view_of s a) a) output ≡ output_after v a (plan v a) output
  output_so output = ap (λ (todo : Plan). output_after (view_of s a) a todo output) (plan_seen v a s h) ∙ output_seen v a s h (plan v a) output

-- a packet of the list
module _ (a : Arrival) (k : Known) (s : Seen) (h : Sees s (seen_at a.clock k) a) (r : Planned) (planned : plan_of s a r ≡ plan (view_of s a) a) where
  plan_so : plan_of s a r ≡ plan (seen_at a.clock k) a
  plan_so = planned ∙ plan_seen (seen_at a.clock k) a s h

  pub effect_so : planned_effect r (is_data (header a)) ≡ effect_of (came a) k
  unfolding effect_of
  effect_so = effect_planned s a r ∙ ap (plan_effect a) plan_so

  pub kept_so : remembers (view_of s a) a (plan_of s a r) ≡ keeps_hash (came a) k
  unfolding keeps_hash
  kept_so = ap (remembers (view_of s a) a) plan_so ∙ remembers_seen (seen_at a.clock k) a s h (plan (seen_at a.clock k) a)
