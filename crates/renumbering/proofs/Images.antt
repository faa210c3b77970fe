-- Records and tables whose stored ports are replaced by their images, in bytes and as the rules have it.
use Prim.Native.Nat.{ℕ, zero, suc, ◌+◌, ◌*◌, ◌≤◌, ◌<◌}
use native.Mathlib.Numerals.{add-one}
use native.Mathlib.Omega.{arith}
use mathlib.Core.Bool.{Bool, true, false}
use mathlib.Core.List.{List, [], ◌∷◌, ◌++◌, map}
use mathlib.Core.Path.{◌≡◌, refl, sym, ap, ap₂, ◌∙◌}
use lib.Dec.{eqb, ltb}
use lib.ListN.{length, get_or, set, drop, length-set}
use lib.Seq.{drop-cons}
use borrow.Author.Tests.{ltb-true, lt-ltb, eq-eqb, ne_eqb, eqb-true, eqb-false}
use Rattle.std.proofs.lemmas.List.{get_or-map, get_or-set_other}
use Rattle.octets.specs.Bytes.{Bytes}
use Rattle.octets.specs.Index.{◌and◌, list_of}
use Rattle.octets.specs.Choice.{◌then◌otherwise◌}
use Rattle.octets.specs.Part.{patch, joined, fields}
use Rattle.octets.proofs.Bytes.{part_bytes}
use Rattle.octets.proofs.Index.{and_left, and_right, and_both, all_at, all_intro}
use Rattle.octets.proofs.Part.{part_length, patch_set}
use Rattle.octets.proofs.Joined.{joined_append, joined_one}
use Rattle.codes.specs.Form.{Form, byte, code}
use Rattle.codes.proofs.Places.{patch_skip}
use Rattle.codes.proofs.Inside.{Inside, named}
use Rattle.numbers.specs.Numbers.{port_count}
use Rattle.rules.specs.Relay.{empty}
use Rattle.rules.specs.Refusals.{path_ok, link_ok, return_ok}
use Rattle.rules.specs.Renumbering.{image, rename_path, rename_link, rename_return, rename_slot}
use Rattle.rules.proofs.Images.{image_port}
use Rattle.tables.specs.Forms.{path_form, link_form, return_form}
use Rattle.tables.specs.Places.{path_width, link_width, return_width}
use Rattle.tables.specs.Fields.{path_port_at, link_asking_at, link_answering_at, return_arrival_at, return_leaving_at}
use Rattle.tables.specs.Records.{exactly, slot_of, slot_bytes, path_of, path_bytes, path_bytes_ok, link_of, link_bytes, link_bytes_ok, return_of, return_bytes, return_bytes_ok}
use Rattle.tables.specs.Layout.{record_at, records, records_ok}
use Rattle.tables.proofs.All.{exactly_same, exactly_length}
use Rattle.tables.proofs.Tests.{path_kept, link_kept, return_kept}
use Rattle.tables.proofs.Lent.{Lent, path_lent, link_lent, return_lent, record_end}
use Rattle.tables.proofs.Seen.{record_seen, records_length}
use Rattle.renumbering.specs.Renamed.{images_put, ports_stand, with_images, has_ports, with_images_each}

-- ---- one record
-- an unused record stays; a used one is its bytes
module _ {A : Type 0} (w : ℕ) (record_bytes : A → List ℕ) (record_of : List ℕ → A) {ok : List ℕ → Bool}
    (c : Lent w (slot_bytes w record_bytes) (slot_of record_of) ok) (f : A → A)
    (b : List ℕ) (bs : Bytes b) (l : length b ≡ w) (h : ok b ≡ true) where
  pub unused_stays : get_or b 0 0 ≡ 0 → b ≡ slot_bytes w record_bytes (rename_slot f (slot_of record_of b))
  unfolding slot_of rename_slot ◌then◌otherwise◌
  unused_stays z = sym (rw (eq-eqb (get_or b 0 0) 0 z) (rw (eq-eqb (get_or b 0 0) 0 z) at (c.again b bs l h)))

  used_bytes : (get_or b 0 0 ≡ 0 → ⊥) → 1 ∷ record_bytes (record_of b) ≡ b
  unfolding slot_of slot_bytes ◌then◌otherwise◌
  used_bytes n = rw (ne_eqb (get_or b 0 0) 0 n) at (c.again b bs l h)

  -- a used record that is written over as the renaming says
  used_renamed : (get_or b 0 0 ≡ 0 → ⊥) → (b' : List ℕ) → b' ≡ 1 ∷ record_bytes (f (record_of b))
      → b' ≡ slot_bytes w record_bytes (rename_slot f (slot_of record_of b))
  unfolding slot_of slot_bytes rename_slot ◌then◌otherwise◌
  used_renamed n b' e = rw (ne_eqb (get_or b 0 0) 0 n) e

-- one byte of a used record is written over
byte_over : {A : Type 0} (f : Form A) (s : Inside f byte) (x : A) (p : ℕ) → s.place.Has x
    → patch (1 ∷ (code f).write x) (1 + s.place.offset) (p ∷ []) ≡ 1 ∷ (code f).write (s.place.put p x)
byte_over f s x p h =
    patch_skip (1 ∷ []) ((code f).write x) 1 refl s.place.offset (p ∷ []) ∙ ap (λ (r : List ℕ). 1 ∷ r) (s.place.patched x p h)

-- by the image of a port, in bytes that hold x
image_put : {A : Type 0} (f : Form A) (s : Inside f byte) (m b : List ℕ) (x : A) → b ≡ 1 ∷ (code f).write x → s.place.Has x → (n : ℕ) → n < port_count
    → patch b (1 + s.place.offset) (get_or m n 0 ∷ []) ≡ 1 ∷ (code f).write (s.place.put (image m n) x)
image_put f s m b x there has n small =
    ap₂ (λ (t : List ℕ) (p : ℕ). patch t (1 + s.place.offset) (p ∷ [])) there (sym (image_port m n small)) ∙ byte_over f s x (image m n) has

-- the ports of a used record
module _ (b : List ℕ) (mark : get_or b 0 0 ≡ 0 → ⊥) where
  path_port_small : path_bytes_ok b ≡ true → get_or b path_port_at 0 < port_count
  unfolding path_ok path_of
  path_port_small h = ltb-true _ port_count (and_left _ _ (path_kept b (ne_eqb (get_or b 0 0) 0 mark) h))

  link_ports_small : link_bytes_ok b ≡ true → (get_or b link_asking_at 0 < port_count) × (get_or b link_answering_at 0 < port_count)
  unfolding link_ok link_of
  link_ports_small h =
      let k = link_kept b (ne_eqb (get_or b 0 0) 0 mark) h in
      (ltb-true _ port_count (and_left _ _ k), ltb-true _ port_count (and_left _ _ (and_right _ _ k)))

  return_ports_small : return_bytes_ok b ≡ true → (get_or b return_arrival_at 0 < port_count) × (get_or b return_leaving_at 0 < port_count)
  unfolding return_ok return_of
  return_ports_small h =
      let k = return_kept b (ne_eqb (get_or b 0 0) 0 mark) h in
      (ltb-true _ port_count (and_left _ _ k), ltb-true _ port_count (and_left _ _ (and_right _ _ k)))

-- ---- any table's records, by their bytes
pub bytes_lent : (w : ℕ) (ok : List ℕ → Bool) → Lent w (exactly w) (λ b. b) ok
bytes_lent w ok = record { wide = exactly_length w; again = λ b bytes l h. exactly_same w b l }

-- ---- the places of a record, one after the other
module _ (m places b : List ℕ) (i : ℕ) (l : i < length places) where
  abbrev place : ℕ
  place = get_or places i 0

  abbrev after : List ℕ
  after = set b place (get_or m (get_or b place 0) 0)

  pub next_put : images_put m (drop i places) b ≡ images_put m (drop (i + 1) places) after
  unfolding images_put
  next_put = rw (add-one i, drop-cons places i 0 l) refl

  module _ (h : ports_stand m (drop i places) b ≡ true) where
    stands : (ltb place (length b) and ltb (get_or b place 0) port_count and ports_stand m (drop (i + 1) places) after) ≡ true
    unfolding ports_stand
    stands = rw (add-one i) (rw (drop-cons places i 0 l) at h)

    pub place_inside : place < length b
    place_inside = ltb-true _ _ (and_left _ _ stands)

    pub place_small : get_or b place 0 < port_count
    place_small = ltb-true _ _ (and_left _ _ (and_right _ _ stands))

    pub next_stand : ports_stand m (drop (i + 1) places) after ≡ true
    next_stand = and_right _ _ (and_right _ _ stands)

module _ (m b : List ℕ) (p : ℕ) (inside : p < length b) (small : get_or b p 0 < port_count) where
  one_stands : ports_stand m (p ∷ []) b ≡ true
  unfolding ports_stand
  one_stands = and_both (lt-ltb _ _ inside) (and_both (lt-ltb _ _ small) refl)

  one_put : images_put m (p ∷ []) b ≡ patch b p (get_or m (get_or b p 0) 0 ∷ [])
  unfolding images_put
  one_put = patch_set b p (get_or m (get_or b p 0) 0) inside

  module _ (q : ℕ) (other : q ≡ p → ⊥) (inside2 : q < length b) (small2 : get_or b q 0 < port_count) where
    abbrev first_put : List ℕ
    first_put = set b p (get_or m (get_or b p 0) 0)

    stays : get_or first_put q 0 ≡ get_or b q 0
    stays = get_or-set_other b p q (get_or m (get_or b p 0) 0) 0 other

    long : q < length first_put
    long = omega (arith, length-set b p (get_or m (get_or b p 0) 0))

    two_stand : ports_stand m (p ∷ q ∷ []) b ≡ true
    unfolding ports_stand
    two_stand =
        and_both (lt-ltb _ _ inside)
        (and_both (lt-ltb _ _ small) (and_both (lt-ltb _ _ long) (and_both (lt-ltb _ _ (rw stays small2)) refl)))

    two_put : images_put m (p ∷ q ∷ []) b ≡ patch (patch b p (get_or m (get_or b p 0) 0 ∷ [])) q (get_or m (get_or b q 0) 0 ∷ [])
    unfolding images_put
    two_put =
        ap (λ (r : ℕ). set first_put q (get_or m r 0)) stays
        ∙ patch_set first_put q (get_or m (get_or b q 0) 0) long
        ∙ ap (λ (x : List ℕ). patch x q (get_or m (get_or b q 0) 0 ∷ [])) (patch_set b p (get_or m (get_or b p 0) 0) inside)

-- ---- a table: what its used records say makes all of them what the rules have
joined_same : {A B : Type 0} (write : A → List ℕ) (write' : B → List ℕ) (f : ℕ → A) (g : ℕ → B) (n : ℕ)
    → ((i : ℕ) → i < n → write (f i) ≡ write' (g i)) → joined write (list_of f n) ≡ joined write' (list_of g n)
unfolding list_of
joined_same write write' f g zero h = unfold joined in refl
joined_same write write' f g (suc n) h =
    joined_append write (list_of f n) (f n ∷ [])
    ∙ ap₂ (λ (x y : List ℕ). x ++ y) (joined_same write write' f g n (λ i l. h i (omega arith)))
    (joined_one write (f n) ∙ h n (omega arith) ∙ sym (joined_one write' (g n)))
    ∙ sym (joined_append write' (list_of g n) (g n ∷ []))

pub record Ported {A : Type 0} (w : ℕ) (record_bytes : A → List ℕ) (record_of : List ℕ → A) (ok : List ℕ → Bool) (f : A → A) (m places : List ℕ) : Type 0 where
  pub lent : Lent w (slot_bytes w record_bytes) (slot_of record_of) ok
  pub stand : (b : List ℕ) → Bytes b → length b ≡ w → ok b ≡ true → (get_or b 0 0 ≡ 0 → ⊥) → ports_stand m places b ≡ true
  pub put : (b : List ℕ) → Bytes b → length b ≡ w → ok b ≡ true → (get_or b 0 0 ≡ 0 → ⊥)
      → images_put m places b ≡ slot_bytes w record_bytes (rename_slot f (slot_of record_of b))

module _ {A : Type 0} {w : ℕ} {record_bytes : A → List ℕ} {record_of : List ℕ → A} {ok : List ℕ → Bool} {f : A → A} {m places : List ℕ}
    (c : Ported w record_bytes record_of ok f m places) where
  module _ (b : List ℕ) (bs : Bytes b) (l : length b ≡ w) (h : ok b ≡ true) where
    has : has_ports m places b ≡ true
    unfolding has_ports ◌then◌otherwise◌
    has = go (eqb (get_or b 0 0) 0) refl
      where
        go : (mark : Bool) → eqb (get_or b 0 0) 0 ≡ mark → has_ports m places b ≡ true
        go true e = rw e refl
        go false e = rw e (c.stand b bs l h (eqb-false _ _ e))

    images : with_images m places b ≡ slot_bytes w record_bytes (rename_slot f (slot_of record_of b))
    unfolding with_images ◌then◌otherwise◌
    images = go (eqb (get_or b 0 0) 0) refl
      where
        go : (mark : Bool) → eqb (get_or b 0 0) 0 ≡ mark → with_images m places b ≡ slot_bytes w record_bytes (rename_slot f (slot_of record_of b))
        go true e = rw e (unused_stays w record_bytes record_of c.lent f b bs l h (eqb-true _ _ e))
        go false e = rw e (c.put b bs l h (eqb-false _ _ e))

    whole : exactly w (with_images m places b) ≡ slot_bytes w record_bytes (rename_slot f (slot_of record_of b))
    whole = exactly_same w (with_images m places b) (ap length images ∙ c.lent.wide _) ∙ images

  module _ (at n : ℕ) (t : List ℕ) (bt : Bytes t) (fits : at + w * n ≤ length t) (h : records_ok ok at w n t ≡ true) where
    module _ (i : ℕ) (l : i < n) where
      abbrev b : List ℕ
      b = record_at at w t i

      bytes : Bytes b
      bytes = part_bytes t (at + w * i) w bt

      wide : length b ≡ w
      wide = part_length t (at + w * i) w (omega (arith, record_end at w n i l))

      fine : ok b ≡ true
      unfolding records_ok
      fine = all_at (λ k. ok (record_at at w t k)) n i h l

    pub each_has : records_ok (has_ports m places) at w n t ≡ true
    unfolding records_ok
    each_has = all_intro (λ i. has_ports m places (record_at at w t i)) n (λ i l. has _ (bytes i l) (wide i l) (fine i l))

    pub each_same : with_images_each at w n places m t ≡ fields (slot_bytes w record_bytes) n empty (map (rename_slot f) (records (slot_of record_of) at w n t))
    unfolding with_images_each fields
    each_same = joined_same (exactly w) (slot_bytes w record_bytes) _ _ n
        (λ i l.
        ap (exactly w) (mapped (with_images m places) (λ b. b) [] [] i l)
        ∙ whole _ (bytes i l) (wide i l) (fine i l)
        ∙ ap (slot_bytes w record_bytes) (sym (mapped (rename_slot f) (slot_of record_of) empty empty i l)))
      where
        mapped : {X Y : Type 0} (g : X → Y) (read : List ℕ → X) (d : X) (e : Y) (i : ℕ) → i < n
            → get_or (map g (records read at w n t)) i e ≡ g (read (record_at at w t i))
        mapped g read d e i l =
            get_or-map g (records read at w n t) i d e (omega (arith, records_length read at w n t)) ∙ ap g (record_seen read at w n t i d l)

pub paths_ported : (m : List ℕ) → Ported path_width path_bytes path_of path_bytes_ok (rename_path m) m (path_port_at ∷ [])
unfolding rename_path path_bytes path_of
paths_ported m =
    let port : Inside path_form byte = (named path_form "port").inside in
    record {
      lent = path_lent;
      stand = λ b bs l h mark. one_stands m b path_port_at (omega (arith, l)) (path_port_small b mark h);
      put = λ b bs l h mark.
          let small = path_port_small b mark h in
          let there = sym (used_bytes path_width path_bytes path_of path_lent (rename_path m) b bs l h mark) in
          used_renamed path_width path_bytes path_of path_lent (rename_path m) b bs l h mark _
          (one_put m b path_port_at (omega (arith, l)) small ∙ image_put path_form port m b (path_of b) there tt _ small);
    }

pub links_ported : (m : List ℕ) → Ported link_width link_bytes link_of link_bytes_ok (rename_link m) m (link_asking_at ∷ link_answering_at ∷ [])
unfolding rename_link link_bytes link_of
links_ported m =
    let asking : Inside link_form byte = (named link_form "asking").inside in
    let answering : Inside link_form byte = (named link_form "answering").inside in
    record {
      lent = link_lent;
      stand = λ b bs l h mark.
          let small = link_ports_small b mark h in
          two_stand m b link_asking_at (omega (arith, l)) small.0 link_answering_at (λ e. omega (arith, e)) (omega (arith, l)) small.1;
      put = λ b bs l h mark.
          let small = link_ports_small b mark h in
          let there = sym (used_bytes link_width link_bytes link_of link_lent (rename_link m) b bs l h mark) in
          used_renamed link_width link_bytes link_of link_lent (rename_link m) b bs l h mark _
          (two_put m b link_asking_at (omega (arith, l)) small.0 link_answering_at (λ e. omega (arith, e)) (omega (arith, l)) small.1
          ∙ image_put link_form answering m _ _ (image_put link_form asking m b (link_of b) there tt _ small.0) tt _ small.1);
    }

pub returns_ported : (m : List ℕ) → Ported return_width return_bytes return_of return_bytes_ok (rename_return m) m (return_arrival_at ∷ return_leaving_at ∷ [])
unfolding rename_return return_bytes return_of
returns_ported m =
    let arrival : Inside return_form byte = (named return_form "arrival").inside in
    let leaving : Inside return_form byte = (named return_form "leaving").inside in
    record {
      lent = return_lent;
      stand = λ b bs l h mark.
          let small = return_ports_small b mark h in
          two_stand m b return_arrival_at (omega (arith, l)) small.0 return_leaving_at (λ e. omega (arith, e)) (omega (arith, l)) small.1;
      put = λ b bs l h mark.
          let small = return_ports_small b mark h in
          let there = sym (used_bytes return_width return_bytes return_of return_lent (rename_return m) b bs l h mark) in
          used_renamed return_width return_bytes return_of return_lent (rename_return m) b bs l h mark _
          (two_put m b return_arrival_at (omega (arith, l)) small.0 return_leaving_at (λ e. omega (arith, e)) (omega (arith, l)) small.1
          ∙ image_put return_form leaving m _ _ (image_put return_form arrival m b (return_of b) there tt _ small.0) tt _ small.1);
    }
