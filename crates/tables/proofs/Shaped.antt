-- What any bytes hold, part by part: with row 7 (the rules' `Valid`) all that is said of every table. The laws of what holds after a call are
-- the rules' (`Held`).
use mathlib.Core.Bool.{true}
use mathlib.Core.Path.{◌≡◌}
use Rattle.octets.proofs.Index.{and_left, and_right, and_both}
use Rattle.rules.specs.Relay.{Relay}
use Rattle.rules.specs.Refusals.{slot_ok, all}
use Rattle.rules.proofs.Held.{Property, Holds}
use Rattle.tables.specs.Places.{address_width}
use Rattle.tables.specs.Shape.{is_bytes, path_shaped, link_shaped, return_shaped, hash_shaped, shaped}

abbrev pub shape : Property
shape =
    record {
      own = λ own. is_bytes address_width own ≡ true;
      clock = λ clock. Unit {0};
      rate = λ rate. Unit {0};
      ports = λ ports. Unit {0};
      locals = λ locals. all (slot_ok (is_bytes address_width)) locals ≡ true;
      paths = λ paths. all (slot_ok path_shaped) paths ≡ true;
      links = λ links. all (slot_ok link_shaped) links ≡ true;
      returns = λ ring. all (slot_ok return_shaped) ring.slots ≡ true;
      hashes = λ ring. all (slot_ok hash_shaped) ring.slots ≡ true;
    }

abbrev pub Shaped : Relay → Type 0
Shaped = Holds shape

pub shaped_parts : (r : Relay) → shaped r ≡ true → Shaped r
unfolding shaped
shaped_parts r h₁ =
    let h₂ = and_right _ _ h₁ in
    let h₃ = and_right _ _ h₂ in
    let h₄ = and_right _ _ h₃ in
    let h₅ = and_right _ _ h₄ in
    record {
      own = and_left _ _ h₁;
      clock = tt;
      rate = tt;
      ports = tt;
      locals = and_left _ _ h₂;
      paths = and_left _ _ h₃;
      links = and_left _ _ h₄;
      returns = and_left _ _ h₅;
      hashes = and_right _ _ h₅;
    }

pub shaped_from : (r : Relay) → Shaped r → shaped r ≡ true
unfolding shaped
shaped_from r s =
    and_both s.own (and_both s.locals (and_both s.paths (and_both s.links (and_both s.returns s.hashes))))
