-- Lists of zeros: what a fresh relay's tables hold beside its own address and its ports.
use Prim.Native.Nat.{ℕ, zero, suc, ◌+◌, ◌*◌, ◌≤◌, ◌<◌}
use native.Mathlib.Omega.{arith}
use mathlib.Core.List.{List, [], ◌∷◌, ◌++◌, append_assoc}
use mathlib.Core.Path.{◌≡◌, refl, sym, ap, ap₂, subst, ◌∙◌}
use lib.ListN.{length, get_or, drop, replicate, length-append, length-drop, length-replicate, get_or-replicate}
use lib.Seq.{ext_get_or, get_or-drop}
use Rattle.octets.specs.Part.{patch, joined, fields}
use Rattle.octets.specs.BigEndian.{big_endian}
use Rattle.octets.proofs.BigEndian.{big_endian_length}
use Rattle.octets.proofs.Part.{patch_mid}
use Rattle.octets.proofs.Joined.{fields_all}
use Rattle.numbers.specs.Numbers.{port_count, local_count, path_count, link_count, return_count, hash_count}
use Rattle.rules.specs.Relay.{Port, fresh_port, no_port, empty, fresh}
use Rattle.tables.specs.Places.{address_width, time_width, setting_width, ring_width, port_width, local_width, path_width, link_width, return_width, hash_width, own_at, ports_at, table_size}
use Rattle.tables.specs.Records.{exactly, port_bytes, slot_bytes, local_bytes, path_bytes, link_bytes, return_bytes, hash_bytes}
use Rattle.tables.specs.Layout.{bytes_of}
use Rattle.tables.proofs.All.{exactly_length, exactly_same}
use Rattle.tables.proofs.Lent.{port_lent}
use Rattle.tables.proofs.Section.{up_to, up_more, up_all}
use Rattle.tables.proofs.Whole.{bytes_length}
use Rattle.settings.specs.Calls.{fresh_ports}

-- every element is 0; a record, so that antt can read the list off it
pub record Zeros (t : List ℕ) : Type 0 where
  pub each : (i : ℕ) → get_or t i 0 ≡ 0

nil_zeros : Zeros []
nil_zeros = record { each = λ i. refl }

append_each : (x y : List ℕ) → ((i : ℕ) → get_or x i 0 ≡ 0) → ((i : ℕ) → get_or y i 0 ≡ 0) → (i : ℕ) → get_or (x ++ y) i 0 ≡ 0
append_each [] y p q i = q i
append_each (v ∷ x) y p q zero = p 0
append_each (v ∷ x) y p q (suc i) = append_each x y (λ k. p (suc k)) q i

append_zeros : {x y : List ℕ} → Zeros x → Zeros y → Zeros (x ++ y)
append_zeros {x} {y} p q = record { each = append_each x y p.each q.each }

one_each : (i : ℕ) → get_or {A = ℕ} (0 ∷ []) i 0 ≡ 0
one_each zero = refl
one_each (suc i) = refl

replicate_each : (n i : ℕ) → get_or (replicate {A = ℕ} n 0) i 0 ≡ 0
replicate_each zero i = refl
replicate_each (suc n) zero = refl
replicate_each (suc n) (suc i) = replicate_each n i

all_zeros : (n : ℕ) → Zeros (replicate n 0)
all_zeros n = record { each = replicate_each n }

number_zeros : (n : ℕ) → Zeros (big_endian n 0)
unfolding big_endian
number_zeros zero = nil_zeros
number_zeros (suc n) = append_zeros (number_zeros n) (record { each = one_each })

-- a table of unused records
module _ {A : Type 0} (w : ℕ) (record_bytes : A → List ℕ) where
  joined_zeros : (n : ℕ) → Zeros (joined (slot_bytes w record_bytes) (replicate n empty))
  unfolding joined slot_bytes
  joined_zeros zero = nil_zeros
  joined_zeros (suc n) = append_zeros (all_zeros w) (joined_zeros n)

  slots_zeros : (n : ℕ) → Zeros (fields (slot_bytes w record_bytes) n empty (replicate n empty))
  slots_zeros n =
      subst Zeros (sym (fields_all (slot_bytes w record_bytes) n empty (replicate n empty) (length-replicate n empty))) (joined_zeros n)

same_zeros : (x y : List ℕ) → length x ≡ length y → Zeros x → Zeros y → x ≡ y
same_zeros x y e p q = ext_get_or 0 x y e (λ i l. p.each i ∙ sym (q.each i))

-- zeros, with bytes written over their start and others further on
module _ (x z y rest : List ℕ) (n a : ℕ) (first : Zeros z) (then : Zeros rest) (size : length (x ++ (z ++ (y ++ rest))) ≡ n) (at : length (x ++ z) ≡ a) where
  start : patch (replicate {A = ℕ} n 0) 0 x ≡ x ++ (z ++ (replicate (length y) 0 ++ rest))
  unfolding patch
  start =
      let blank : List ℕ = z ++ (replicate (length y) 0 ++ rest) in
      let behind : List ℕ = drop (0 + length x) (replicate {A = ℕ} n 0) in
      ap (λ (r : List ℕ). x ++ r)
      (same_zeros behind blank (long blank) (record { each = λ i. get_or-drop (0 + length x) (replicate {A = ℕ} n 0) i 0 ∙ replicate_each n (0 + length x + i) })
      (append_zeros first (append_zeros (all_zeros (length y)) then)))
    where
      long : (blank : List ℕ) → length (drop (0 + length x) (replicate {A = ℕ} n 0)) ≡ length (z ++ (replicate (length y) 0 ++ rest))
      long blank = simp (length-drop, length-replicate, length-append) (let e = simp length-append at size in omega (arith, e))

  pub over_zeros : patch (patch (replicate {A = ℕ} n 0) 0 x) a y ≡ x ++ (z ++ (y ++ rest))
  over_zeros =
      ap (λ (r : List ℕ). patch r a y) (start ∙ sym (append_assoc x z _))
      ∙ patch_mid (x ++ z) (replicate (length y) 0) rest y a at (length-replicate {A = ℕ} (length y) 0)
      ∙ append_assoc x z _

-- the announce rate's settings of a fresh relay
abbrev rate_zeros : List ℕ
rate_zeros = big_endian setting_width 0 ++ (big_endian setting_width 0 ++ big_endian setting_width 0)

-- a fresh relay's tables: zeros, with its own address written over their start, and its ports
pub fresh_writes : (n : ℕ) (own : List ℕ) → n ≡ table_size → length own ≡ address_width
    → patch (patch (replicate {A = ℕ} n 0) own_at own) ports_at fresh_ports ≡ bytes_of (fresh own)
unfolding bytes_of fresh fresh_ports port_bytes local_bytes path_bytes link_bytes return_bytes hash_bytes
fresh_writes n own e l =
    ap₂ (λ (x y : List ℕ). patch (patch (replicate {A = ℕ} n 0) own_at x) ports_at y) (sym (exactly_same address_width own l))
    (sym (fields_all port_bytes port_count no_port (replicate port_count fresh_port) (length-replicate port_count fresh_port)))
    ∙ over_zeros (exactly address_width own) (big_endian time_width 0 ++ rate_zeros) _ _ n ports_at
    (append_zeros (number_zeros time_width) (append_zeros (number_zeros setting_width) (append_zeros (number_zeros setting_width) (number_zeros setting_width))))
    (append_zeros (slots_zeros local_width local_bytes local_count)
    (append_zeros (slots_zeros path_width path_bytes path_count)
    (append_zeros (slots_zeros link_width link_bytes link_count)
    (append_zeros (append_zeros (number_zeros ring_width) (slots_zeros return_width return_bytes return_count))
    (append_zeros (number_zeros ring_width) (slots_zeros hash_width hash_bytes hash_count))))))
    (ap length (ap (λ (r : List ℕ). exactly address_width own ++ r) (append_assoc (big_endian time_width 0) rate_zeros _)) ∙ bytes_length (fresh own) ∙ sym e)
    (simp (length-append, exactly_length, big_endian_length))
    ∙ ap (λ (r : List ℕ). exactly address_width own ++ r) (append_assoc (big_endian time_width 0) rate_zeros _)

-- ---- a loop that writes fresh ports
module _ (t₀ : List ℕ) (size : length t₀ ≡ table_size) (t : List ℕ) (i : ℕ)
    (e : t ≡ up_to port_bytes ports_at (replicate port_count fresh_port) t₀ i) where
  pub ports_more : i < port_count → patch t (ports_at + port_width * i) (port_bytes fresh_port) ≡ up_to port_bytes ports_at (replicate port_count fresh_port) t₀ (i + 1)
  ports_more l =
      let count = length-replicate port_count fresh_port in
      ap₂ (λ (x : List ℕ) (p : Port). patch x (ports_at + port_width * i) (port_bytes p)) e (sym (get_or-replicate port_count i fresh_port no_port l))
      ∙ up_more port_lent ports_at (replicate port_count fresh_port) t₀ (omega (arith, size)) i l no_port

  pub ports_all : port_count ≤ i → t ≡ patch t₀ ports_at fresh_ports
  unfolding fresh_ports
  ports_all l = e ∙ up_all port_lent ports_at (replicate port_count fresh_port) t₀ i l
