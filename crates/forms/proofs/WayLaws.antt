-- Which way a packet follows, by its kind.
use Prim.Native.Nat.{ℕ}
use mathlib.Core.Bool.{Bool, true, false, false≢true}
use mathlib.Core.Path.{◌≡◌, refl, sym, ap, ◌∙◌}
use Rattle.packet.specs.Header.{is_announce}
use Rattle.rules.specs.Relay.{Slot, empty, used, Path, Return}
use Rattle.rules.specs.View.{View}
use Rattle.rules.specs.Arrival.{Arrival, header}
use Rattle.rules.specs.Ways.{Way, everywhere, by_path, along_link, by_return, blocked, path_way, link_way, return_way, way_on}
use Rattle.rules.specs.declared.Link.{Link}
use Rattle.rules.proofs.Choices.{either}

-- ---- only an announce goes everywhere
abbrev is_everywhere : Way → Bool
is_everywhere (everywhere known) = true
is_everywhere (by_path p) = false
is_everywhere (along_link l) = false
is_everywhere (by_return t) = false
is_everywhere (blocked why) = false

abbrev Elsewhere : Way → Type 0
Elsewhere w = is_everywhere w ≡ false

path_elsewhere : (s : Slot Path) (expired : Slot ℕ) → Elsewhere (path_way s expired)
unfolding path_way
path_elsewhere empty expired = refl
path_elsewhere (used p) expired = refl

link_elsewhere : (link_proof : Bool) (s : Slot Link) → Elsewhere (link_way link_proof s)
unfolding link_way
link_elsewhere link_proof empty = refl
link_elsewhere link_proof (used l) = either Elsewhere _ (λ _. refl) (λ _. refl)

return_elsewhere : (s : Slot Return) → Elsewhere (return_way s)
unfolding return_way
return_elsewhere empty = refl
return_elsewhere (used t) = refl

pub announce_way : (v : View) (a : Arrival) (known : Slot Path) → way_on v a ≡ everywhere known → is_announce (header a) ≡ true
unfolding way_on
announce_way v a known =
    let P : Way → Type 0 = λ w. w ≡ everywhere known → is_announce (header a) ≡ true in
    either P _ (λ yes _. yes)
    (λ no e.
    absurd
    (false≢true
    (sym
    (either Elsewhere _ (λ _. link_elsewhere _ _)
    (λ _. either Elsewhere _ (λ _. return_elsewhere _)
    (λ _. either Elsewhere _ (λ _. refl) (λ _. path_elsewhere _ _))))
    ∙ ap is_everywhere e)))
