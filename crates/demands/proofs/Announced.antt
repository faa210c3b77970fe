-- A packet that is spread is an announce of good form, and so long enough for its blob.
use Prim.Native.Nat.{ℕ, ◌≤◌}
use mathlib.Core.Bool.{false}
use mathlib.Core.Path.{◌≡◌, refl, subst}
use lib.ListN.{length}
use Rattle.octets.specs.Choice.{◌or◌}
use Rattle.rules.specs.Relay.{Slot, empty, used, Path, Return}
use Rattle.rules.specs.View.{View}
use Rattle.rules.specs.Arrival.{Arrival, body, is_link_proof}
use Rattle.rules.specs.Ways.{Way, everywhere, by_path, along_link, by_return, blocked, path_way, link_way, return_way, way_on}
use Rattle.rules.specs.Tests.{bad_form}
use Rattle.rules.specs.Judging.{Plan, dropped, delivered, follows, plan}
use Rattle.rules.specs.declared.Link.{Link}
use Rattle.rules.proofs.Choices.{either}
use Rattle.rules.proofs.Passed.{passed}
use Rattle.forms.proofs.KindLaws.{announce_long}
use Rattle.packet.specs.Places.{blob_end}

-- what goes everywhere holds a whole blob
abbrev pub WayBlob : Arrival → Way → Type 0
WayBlob a (everywhere known) = blob_end ≤ length (body a)
WayBlob a (by_path p) = Unit {0}
WayBlob a (along_link l) = Unit {0}
WayBlob a (by_return t) = Unit {0}
WayBlob a (blocked why) = Unit {0}

abbrev pub PlanBlob : Arrival → Plan → Type 0
PlanBlob a (dropped reason) = Unit {0}
PlanBlob a delivered = Unit {0}
PlanBlob a (follows w) = WayBlob a w

module _ (v : View) (a : Arrival) where
  link_blob : (s : Slot Link) → WayBlob a (link_way (is_link_proof a.bytes) s)
  unfolding link_way
  link_blob empty = tt
  link_blob (used l) = either (WayBlob a) (l.proved or is_link_proof a.bytes) (λ _. tt) (λ _. tt)

  return_blob : (s : Slot Return) → WayBlob a (return_way s)
  unfolding return_way
  return_blob empty = tt
  return_blob (used t) = tt

  path_blob : (s : Slot Path) (expired : Slot ℕ) → WayBlob a (path_way s expired)
  unfolding path_way
  path_blob empty expired = tt
  path_blob (used p) expired = tt

  way_blob : bad_form a.bytes ≡ false → WayBlob a (way_on v a)
  unfolding way_on
  way_blob good =
      either (WayBlob a) _ (announce_long a good)
      (λ _. either (WayBlob a) _ (λ _. link_blob _)
      (λ _. either (WayBlob a) _ (λ _. return_blob _)
      (λ _. either (WayBlob a) _ (λ _. tt) (λ _. path_blob _ _))))

  pub plan_blob : PlanBlob a (plan v a)
  plan_blob = go (plan v a) refl
    where
      go : (todo : Plan) → plan v a ≡ todo → PlanBlob a todo
      go (dropped reason) e = tt
      go delivered e = tt
      go (follows w) e =
          let (way, p) = passed v a w e in
          subst (WayBlob a) way (way_blob p.form)
