-- The laws of reading: where the payload starts, and what a packet that reads is.
use Prim.Native.Nat.{ℕ, ◌≤◌, ◌<◌}
use native.Mathlib.Omega.{arith}
use mathlib.Core.Bool.{Bool, true, false, not}
use mathlib.Core.List.{List}
use mathlib.Core.Path.{◌≡◌, refl, sym, ap, ap₂, ◌∙◌}
use lib.Dec.{ltb}
use lib.ListN.{length, get_or, length-drop}
use borrow.Author.Tests.{lt-ltb, le-ltb, ltb-false, le-leb, leb-true, eq-eqb, ne_eqb, eqb-true, not-false}
use Rattle.octets.specs.Index.{◌and◌}
use Rattle.octets.proofs.Index.{and_right, and_both, and_no, and_yes}
use Rattle.octets.proofs.Choice.{then_true, then_false}
use Rattle.numbers.specs.Numbers.{least_size, is_size}
use Rattle.octets.proofs.Listed.{all_give, refuses, here, past, none_first, rows_passed}
use Rattle.packet.specs.Header.{access_code, type_two}
use Rattle.packet.specs.Read.{longest_packet, header_of, type_one_parts, type_two_parts, parts_of, payload_start, payload, reading_rows, reading_refusal, reads, no_parts, reading}
use Rattle.packet.specs.declared.Parts.{Parts}
use Rattle.packet.specs.Places.{hops_at, type_one_start, type_two_start}

-- ---- where the payload starts
module _ (header : ℕ) where
  pub start_two : type_two header ≡ true → payload_start header ≡ type_two_start
  unfolding payload_start
  start_two t = then_true type_two_start type_one_start t

  pub start_one : type_two header ≡ false → payload_start header ≡ type_one_start
  unfolding payload_start
  start_one t = then_false type_two_start type_one_start t

  pub start_least : type_one_start ≤ payload_start header
  start_least = go (type_two header) refl
    where
      go : (v : Bool) → type_two header ≡ v → type_one_start ≤ payload_start header
      go true e = omega (arith, start_two e)
      go false e = omega (arith, start_one e)

  pub start_most : payload_start header ≤ type_two_start
  start_most = go (type_two header) refl
    where
      go : (v : Bool) → type_two header ≡ v → payload_start header ≤ type_two_start
      go true e = omega (arith, start_two e)
      go false e = omega (arith, start_one e)

-- ---- sizes
module _ (size : ℕ) where
  pub size_most : is_size size ≡ true → size ≤ longest_packet
  unfolding is_size
  size_most h = leb-true size longest_packet (and_right _ _ h)

  pub size_is : least_size ≤ size → size ≤ longest_packet → is_size size ≡ true
  unfolding is_size
  size_is l m = and_both (le-leb least_size size l) (le-leb size longest_packet m)

-- ---- what a packet that reads is: short enough, without an access code, and with all its parts
pub record Readable (size : ℕ) (p : List ℕ) : Type 0 where
  pub within : size ≤ longest_packet
  pub fits : length p ≤ size
  pub free : access_code (header_of p) ≡ false
  pub whole : payload_start (header_of p) ≤ length p

module _ (size : ℕ) (p : List ℕ) where
  pub refused_short : is_size size ≡ true → length p < type_one_start → reading_refusal size p ≡ 1
  unfolding reading_refusal reading_rows
  refused_short h s = past _ _ _ _ (ap not h) ∙ here _ _ _ _ (lt-ltb (length p) type_one_start s)

  pub readable : reading_refusal size p ≡ 0 → Readable size p
  unfolding reading_refusal reading_rows all_give refuses ◌and◌
  readable e =
      let (sized, (long, (fits, (free, (two, _))))) = rows_passed (reading_rows size p) 0 refl (eq-eqb _ 0 e) in
      record {
        within = size_most size (not-false _ sized);
        fits = ltb-false size (length p) fits;
        free = free;
        whole = go (type_two (header_of p)) refl (ltb-false (length p) type_one_start long) two;
      }
    where
      go : (t : Bool) → type_two (header_of p) ≡ t → type_one_start ≤ length p → (type_two (header_of p) and ltb (length p) type_two_start) ≡ false
          → payload_start (header_of p) ≤ length p
      go true et long two = omega (arith, start_two (header_of p) et, ltb-false (length p) type_two_start (sym (and_yes _ et) ∙ two))
      go false et long two = omega (arith, start_one (header_of p) et)

  pub accepted : Readable size p → reading_refusal size p ≡ 0
  unfolding reading_refusal reading_rows
  accepted r =
      none_first (reading_rows size p) 0 (
        ap not (size_is size (omega (arith, long, r.fits)) r.within),
        (le-ltb (length p) type_one_start long, (le-ltb size (length p) r.fits, (r.free, (go (type_two (header_of p)) refl, tt)))),
      )
    where
      long : type_one_start ≤ length p
      long = omega (arith, start_least (header_of p), r.whole)

      go : (t : Bool) → type_two (header_of p) ≡ t → (type_two (header_of p) and ltb (length p) type_two_start) ≡ false
      go true e = and_yes _ e ∙ le-ltb (length p) type_two_start (omega (arith, start_two (header_of p) e, r.whole))
      go false e = and_no _ e

  pub accepted_reads : reading_refusal size p ≡ 0 → reads size p ≡ true
  unfolding reads
  accepted_reads e = eq-eqb (reading_refusal size p) 0 e

  pub refused_reads : (reading_refusal size p ≡ 0 → ⊥) → reads size p ≡ false
  unfolding reads
  refused_reads ne = ne_eqb (reading_refusal size p) 0 ne

  pub reads_readable : reads size p ≡ true → Readable size p
  unfolding reads
  reads_readable h = readable (eqb-true (reading_refusal size p) 0 h)

  pub readable_reads : Readable size p → reads size p ≡ true
  readable_reads r = accepted_reads (accepted r)

-- what reads at one size reads at every greater one, so that it reads at 500
pub reads_more : (a b : ℕ) (p : List ℕ) → a ≤ b → b ≤ longest_packet → reads a p ≡ true → reads b p ≡ true
reads_more a b p l m h =
    let r : Readable a p = reads_readable a p h in
    readable_reads b p (record { within = m; fits = omega (arith, r.fits); free = r.free; whole = r.whole })

pub reads_longest : (size : ℕ) (p : List ℕ) → reads size p ≡ true → reads longest_packet p ≡ true
reads_longest size p h = reads_more size longest_packet p (reads_readable size p h).within (omega arith) h

-- ---- the parts, by the header's type
module _ (p : List ℕ) where
  pub parts_two : type_two (header_of p) ≡ true → parts_of p ≡ type_two_parts p
  unfolding parts_of
  parts_two t = then_true (type_two_parts p) (type_one_parts p) t

  pub parts_one : type_two (header_of p) ≡ false → parts_of p ≡ type_one_parts p
  unfolding parts_of
  parts_one t = then_false (type_two_parts p) (type_one_parts p) t

  -- the header is byte 0 in both
  pub parts_header : (parts_of p).header ≡ header_of p
  unfolding type_one_parts type_two_parts
  parts_header = go (type_two (header_of p)) refl
    where
      go : (t : Bool) → type_two (header_of p) ≡ t → (parts_of p).header ≡ header_of p
      go true e = ap (λ (q : Parts). q.header) (parts_two e)
      go false e = ap (λ (q : Parts). q.header) (parts_one e)

  -- and hops are byte 1
  pub parts_hops : (parts_of p).hops ≡ get_or p hops_at 0
  unfolding type_one_parts type_two_parts
  parts_hops = go (type_two (header_of p)) refl
    where
      go : (t : Bool) → type_two (header_of p) ≡ t → (parts_of p).hops ≡ get_or p hops_at 0
      go true e = ap (λ (q : Parts). q.hops) (parts_two e)
      go false e = ap (λ (q : Parts). q.hops) (parts_one e)

-- ---- the payload
pub payload_least : (p : List ℕ) → length (payload p) ≤ length p
unfolding payload
payload_least p = simp length-drop (omega arith)

-- ---- what the code of reading asks
module _ (size : ℕ) (p : List ℕ) (q : Parts) where
  pub answer_refused : (n : ℕ) → n ≡ reading_refusal size p → (n ≡ 0 → ⊥) → q ≡ no_parts → record { refusal = n; parts = q } ≡ reading size p
  unfolding reading
  answer_refused n e ne z =
      ap₂ (λ (k : ℕ) (r : Parts). record { refusal = k; parts = r }) e
      (z ∙ sym (then_false (parts_of p) no_parts (refused_reads size p (λ (h : reading_refusal size p ≡ 0). ne (e ∙ h)))))

  pub answer_read : reading_refusal size p ≡ 0 → q ≡ parts_of p → record { refusal = 0; parts = q } ≡ reading size p
  unfolding reading
  answer_read e z =
      ap₂ (λ (n : ℕ) (r : Parts). record { refusal = n; parts = r }) (sym e)
      (z ∙ sym (then_true (parts_of p) no_parts (accepted_reads size p e)))
