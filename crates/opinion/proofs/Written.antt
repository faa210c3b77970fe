-- An entry that is written is read again, and those before it stay.
use Prim.Native.Nat.{ℕ, zero, suc, ◌+◌, ◌-◌, ◌*◌, ◌≤◌, ◌<◌}
use native.Mathlib.Nat.{zero-add, add-zero}
use native.Mathlib.Numerals.{add-one}
use native.Mathlib.Omega.{arith}
use mathlib.Core.Bool.{Bool, true, false}
use mathlib.Core.List.{List, [], ◌∷◌, ◌++◌, append_assoc, append-nil}
use mathlib.Core.Path.{◌≡◌, refl, sym, ap, ap₂, ◌∙◌}
use lib.Dec.{ltb}
use lib.ListN.{length, get_or, take, drop, length-append, take-append-drop, drop_of_length-le}
use lib.Seq.{drop-drop, length-take-le}
use borrow.Author.Tests.{ltb-false}
use Rattle.octets.specs.Part.{part, patch}
use Rattle.octets.specs.BigEndian.{big_endian}
use Rattle.octets.specs.Choice.{◌then◌otherwise◌}
use Rattle.octets.proofs.Choice.{then_true, then_false}
use Rattle.octets.proofs.Part.{part_at, part_length, part_mid, patch_length, patch_part}
use Rattle.octets.proofs.BigEndian.{number_big_endian}
use Rattle.codes.proofs.Places.{part_ahead, part_skip}
use Rattle.numbers.specs.Numbers.{clock_limit, port_count, longest_packet}
use Rattle.history.specs.After.{Entry}
use Rattle.history.specs.Opinion.{list_limit}
use Rattle.opinion_log.specs.Log.{address_width, count_at, entries_at, entry_width, log_size, port_in, word_in, clock_in, length_in, own_in, entry_of, entry_bytes, entries_of, listed_in, body_at, clock_width, length_width}
use Rattle.opinion.specs.Calls.{IsFresh}
use Rattle.opinion.specs.Steps.{head_bytes, with_entry, Adds}

-- ---- a part of t after a write over another
part_before : (t : List ℕ) (a : ℕ) (x : List ℕ) (b n : ℕ) → b + n ≤ a → a + length x ≤ length t → part (patch t a x) b n ≡ part t b n
unfolding patch
part_before t a x b n h l =
    let long : length (take a t) ≡ a = length-take-le a t (omega arith) in
    let inside : b + n ≤ length (take a t) = omega arith in
    part_ahead (take a t) (x ++ drop (a + length x) t) b n inside
    ∙ sym (ap (λ (s : List ℕ). part s b n) (sym (take-append-drop a t)) ∙ part_ahead (take a t) (drop a t) b n inside)

part_past : (t : List ℕ) (a : ℕ) (x : List ℕ) (b n : ℕ) → a + length x ≤ b → a + length x ≤ length t → part (patch t a x) b n ≡ part t b n
unfolding patch part
part_past t a x b n h l =
    let c : ℕ = a + length x in
    let long : length (take a t ++ x) ≡ c = length-append (take a t) x ∙ ap (λ (m : ℕ). m + length x) (length-take-le a t (omega arith)) in
    let there : b ≡ c + (b - c) = omega arith in
    ap₂ (λ (s : List ℕ) (m : ℕ). part s m n) (sym (append_assoc (take a t) x (drop c t))) there
    ∙ part_skip (take a t ++ x) (drop c t) c long (b - c) n
    ∙ ap (take n) (drop-drop (b - c) c t)
    ∙ ap (λ (m : ℕ). take n (drop m t)) (sym there)

-- .. and over its start
part_over : (t : List ℕ) (a : ℕ) (x : List ℕ) (w : ℕ) → length x ≤ w → a + w ≤ length t → part (patch t a x) a w ≡ x ++ drop (length x) (part t a w)
unfolding patch
part_over t a x w h l =
    let u : List ℕ = part t a w in
    let long : length u ≡ w = part_length t a w l in
    let wide : length (patch u 0 x) ≡ w = patch_length u 0 x (omega (arith, zero-add (length x))) ∙ long in
    ap (λ (m : ℕ). part (patch t m x) a w) (sym (add-zero a))
    ∙ ap (λ (s : List ℕ). part s a w) (sym (patch_part t a w 0 x (omega (arith, zero-add (length x))) l))
    ∙ part_mid (take a t) (patch u 0 x) (drop (a + length (patch u 0 x)) t) a w (length-take-le a t (omega arith)) wide
    ∙ ap (λ (m : ℕ). x ++ drop m u) (zero-add (length x))

-- ---- the log with one more entry
module _ (log : List ℕ) (n : ℕ) (bytes : List ℕ) (long : length log ≡ log_size) (few : n < list_limit) (short : length bytes ≤ entry_width) where
  inner : List ℕ
  inner = patch log (entries_at + entry_width * n) bytes

  inner_long : length inner ≡ log_size
  unfolding inner
  inner_long = patch_length log (entries_at + entry_width * n) bytes (omega arith) ∙ long

  after : List ℕ
  after = with_entry log n bytes

  one : List ℕ
  one = (n + 1) ∷ []

  with_own : own_in after ≡ own_in log
  unfolding after with_entry inner
  with_own =
      part_before inner count_at ((n + 1) ∷ []) 0 address_width (omega arith) (omega (arith, inner_long))
      ∙ part_before log (entries_at + entry_width * n) bytes 0 address_width (omega arith) (omega arith)

  with_count : get_or after count_at 0 ≡ n + 1
  unfolding after with_entry inner
  with_count =
      sym (part_at after count_at 1 0 (omega arith))
      ∙ ap (λ (s : List ℕ). get_or s 0 0) (part_over inner count_at ((n + 1) ∷ []) 1 (omega arith) (omega (arith, inner_long)))

  with_listed : listed_in after ≡ n + 1
  unfolding listed_in
  with_listed = ap (λ (m : ℕ). ltb m list_limit then m otherwise list_limit) with_count ∙ go (ltb (n + 1) list_limit) refl
    where
      go : (b : Bool) → ltb (n + 1) list_limit ≡ b → (ltb (n + 1) list_limit then n + 1 otherwise list_limit) ≡ n + 1
      go true q = then_true _ _ q
      go false q = then_false _ _ q ∙ least (ltb-false _ _ q)
        where
          least : list_limit ≤ n + 1 → list_limit ≡ n + 1
          least m = omega arith

  with_past : (i : ℕ) → entry_bytes after i ≡ entry_bytes inner i
  unfolding after with_entry inner
  with_past i = part_past inner count_at ((n + 1) ∷ []) (entries_at + entry_width * i) entry_width (omega arith) (omega (arith, inner_long))

  with_entries : (m : ℕ) → m ≤ n → entries_of after m ≡ entries_of log m
  unfolding entries_of inner
  with_entries zero h = refl
  with_entries (suc m) h =
      ap₂ (λ (b : List ℕ) (es : List Entry). entry_of b ∷ es)
      (with_past m ∙ part_before log (entries_at + entry_width * n) bytes (entries_at + entry_width * m) entry_width (omega arith) (omega arith))
      (with_entries m (omega arith))

  with_new : entry_bytes after n ≡ bytes ++ drop (length bytes) (entry_bytes log n)
  unfolding inner
  with_new = with_past n ∙ part_over log (entries_at + entry_width * n) bytes entry_width short (omega arith)

  pub entry_long : length (with_entry log n bytes) ≡ log_size
  unfolding with_entry inner
  entry_long = patch_length inner count_at ((n + 1) ∷ []) (omega (arith, inner_long)) ∙ inner_long

  pub adds_entry : (x : Entry) → ((rest : List ℕ) → entry_of (bytes ++ rest) ≡ x) → Adds log n x (with_entry log n bytes)
  unfolding after entries_of
  adds_entry x reads =
      record {
        own = with_own;
        lists = ap (entries_of after) (with_listed ∙ add-one n)
            ∙ ap₂ (λ (y : Entry) (es : List Entry). y ∷ es) (ap entry_of with_new ∙ reads _) (with_entries n (omega arith));
      }

-- ---- the bytes before the body
module _ (kind port : ℕ) (word : Bool) (mode clock long : ℕ) (tail : List ℕ) where
  abbrev pub written : List ℕ
  written = head_bytes kind port word mode clock long ++ tail

  pub head_port : port < port_count → port_in written ≡ port
  head_port h = omega arith

  pub head_word : word_in written ≡ word
  unfolding ◌then◌otherwise◌
  head_word = go word
    where
      go : (b : Bool) → word_in (head_bytes kind port b mode clock long ++ tail) ≡ b
      go true = refl
      go false = refl

  pub head_clock : clock < clock_limit → clock_in written ≡ clock
  unfolding part big_endian
  head_clock h = number_big_endian clock_width clock h

  pub head_length : long ≤ longest_packet → length_in written ≡ long
  unfolding part big_endian
  head_length h = number_big_endian length_width long (omega arith)

  pub head_body : (n : ℕ) → part written body_at n ≡ take n tail
  unfolding part big_endian
  head_body n = refl

-- ---- a fresh log
pub fresh_log : (log own : List ℕ) → length log ≡ log_size → length own ≡ address_width → IsFresh own (patch (patch log 0 own) count_at (0 ∷ []))
unfolding listed_in entries_of
fresh_log log own long wide =
    record {
      own = part_before started count_at (0 ∷ []) 0 address_width (omega arith) (omega (arith, started_long))
          ∙ ap (λ (n : ℕ). part started 0 n) (sym wide)
          ∙ part_over log 0 own (length own) (omega arith) (omega arith)
          ∙ ap (λ (r : List ℕ). own ++ r) (drop_of_length-le (part log 0 (length own)) {i = length own}
          (omega (arith, part_length log 0 (length own) (omega arith))))
          ∙ append-nil own;
      lists = ap (λ (m : ℕ). entries_of (patch started count_at (0 ∷ [])) (ltb m list_limit then m otherwise list_limit)) none
          ∙ ap (entries_of (patch started count_at (0 ∷ []))) (then_true 0 list_limit refl);
    }
  where
    started : List ℕ
    started = patch log 0 own

    started_long : length started ≡ log_size
    started_long = patch_length log 0 own (omega arith) ∙ long

    none : get_or (patch started count_at (0 ∷ [])) count_at 0 ≡ 0
    none =
        sym (part_at (patch started count_at (0 ∷ [])) count_at 1 0 (omega arith))
        ∙ ap (λ (s : List ℕ). get_or s 0 0) (part_over started count_at (0 ∷ []) 1 (omega arith) (omega (arith, started_long)))
