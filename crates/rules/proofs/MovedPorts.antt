-- Settings that move with their ports: what is read of them, set in them, and moved twice.
use Prim.Native.Nat.{ℕ, ◌<◌}
use native.Mathlib.Decide.{dec_lt, ℕ_discrete}
use native.Mathlib.Omega.{arith}
use mathlib.Core.Bool.{true}
use mathlib.Core.List.{List}
use mathlib.Core.Path.{◌≡◌, sym, ap, subst, ◌∙◌}
use lib.ListN.{length, get_or, set, length-set, get_or-eq_default}
use lib.Seq.{ext_get_or, get_or-set_same, get_or-set_other, set_out}
use Rattle.octets.proofs.ListOf.{list_of_at, list_of_length, list_of_cong}
use Rattle.rules.specs.Relay.{Port, no_port}
use Rattle.rules.specs.Renumbering.{image, one_to_one, preimage, moved_ports, composed}
use Rattle.rules.proofs.Images.{image_port, image_other, image_below, preimage_image, preimage_holds, source, source_port, source_other, preimage_composed, preimage_composed_none}
use Rattle.numbers.specs.Numbers.{port_count}

moved_length : (m : List ℕ) (ports : List Port) → length (moved_ports m ports) ≡ port_count
unfolding moved_ports
moved_length m ports = list_of_length (λ n. get_or ports (preimage m n) no_port) port_count

moved_port : (m : List ℕ) (ports : List Port) (n : ℕ) → n < port_count → get_or (moved_ports m ports) n no_port ≡ get_or ports (preimage m n) no_port
unfolding moved_ports
moved_port m ports n l = list_of_at (λ n. get_or ports (preimage m n) no_port) port_count n no_port l

module _ (m : List ℕ) (ports : List Port) (sixteen : length ports ≡ port_count) where
  pub moved_at : (n : ℕ) → get_or (moved_ports m ports) n no_port ≡ get_or ports (source m n) no_port
  moved_at n = go (dec_lt n port_count)
    where
      go : Dec (n < port_count) → get_or (moved_ports m ports) n no_port ≡ get_or ports (source m n) no_port
      go (yes l) = moved_port m ports n l ∙ ap (λ (k : ℕ). get_or ports k no_port) (sym (source_port m n l))
      go (no l) =
          get_or-eq_default (moved_ports m ports) no_port {n = n} (omega (arith, moved_length m ports))
          ∙ sym (ap (λ (k : ℕ). get_or ports k no_port) (source_other m n (omega arith)) ∙ get_or-eq_default ports no_port {n = n} (omega arith))

  -- a port's settings are set where they moved to
  pub moved_set : one_to_one m ≡ true → (port : ℕ) (x : Port) → set (moved_ports m ports) (image m port) x ≡ moved_ports m (set ports port x)
  moved_set ok port x = go (dec_lt port port_count)
    where
      at : port < port_count → (n : ℕ) → n < port_count → Dec (n ≡ get_or m port 0)
          → get_or (set (moved_ports m ports) (get_or m port 0) x) n no_port ≡ get_or (set ports port x) (preimage m n) no_port
      at l n b (yes e) =
          ap (λ (k : ℕ). get_or (set (moved_ports m ports) (get_or m port 0) x) k no_port) e
          ∙ get_or-set_same (moved_ports m ports) (get_or m port 0) x no_port
          (subst (λ (k : ℕ). get_or m port 0 < k) (sym (moved_length m ports)) (image_below m ok port l))
          ∙ sym (ap (λ (k : ℕ). get_or (set ports port x) k no_port) (ap (preimage m) e ∙ preimage_image m ok port l)
          ∙ get_or-set_same ports port x no_port (omega arith))
      at l n b (no e) =
          get_or-set_other (moved_ports m ports) (get_or m port 0) n x no_port e
          ∙ moved_port m ports n b
          ∙ sym (get_or-set_other ports port (preimage m n) x no_port
          (λ q. e (sym (preimage_holds m n (subst (λ (k : ℕ). k < port_count) (sym q) l)) ∙ ap (λ (k : ℕ). get_or m k 0) q)))

      go : Dec (port < port_count) → set (moved_ports m ports) (image m port) x ≡ moved_ports m (set ports port x)
      go (yes l) =
          ap (λ (k : ℕ). set (moved_ports m ports) k x) (image_port m port l)
          ∙ ext_get_or no_port _ _ (length-set (moved_ports m ports) (get_or m port 0) x ∙ moved_length m ports ∙ sym (moved_length m (set ports port x)))
          (λ n b.
          let c : n < port_count = omega (arith, length-set (moved_ports m ports) (get_or m port 0) x, moved_length m ports) in
          at l n c (ℕ_discrete n (get_or m port 0)) ∙ sym (moved_port m (set ports port x) n c))
      go (no l) =
          ap (λ (k : ℕ). set (moved_ports m ports) k x) (image_other m port (omega arith))
          ∙ set_out (moved_ports m ports) port x (omega (arith, moved_length m ports))
          ∙ ap (moved_ports m) (sym (set_out ports port x (omega arith)))

-- moved by one map, then by another
pub moved_twice : (one two : List ℕ) (ports : List Port) → one_to_one one ≡ true → one_to_one two ≡ true → length ports ≡ port_count
    → moved_ports two (moved_ports one ports) ≡ moved_ports (composed one two) ports
unfolding moved_ports
moved_twice one two ports ok_one ok_two sixteen = list_of_cong _ _ port_count (λ n l. go n (dec_lt (preimage two n) port_count))
  where
    go : (n : ℕ) → Dec (preimage two n < port_count) → get_or (moved_ports one ports) (preimage two n) no_port ≡ get_or ports (preimage (composed one two) n) no_port
    go n (yes b) = moved_port one ports (preimage two n) b ∙ ap (λ (k : ℕ). get_or ports k no_port) (preimage_composed one two ok_one ok_two n b)
    go n (no b) =
        get_or-eq_default (moved_ports one ports) no_port {n = preimage two n} (omega (arith, moved_length one ports))
        ∙ sym (ap (λ (k : ℕ). get_or ports k no_port) (preimage_composed_none one two ok_one ok_two n (omega arith))
        ∙ get_or-eq_default ports no_port {n = port_count} (omega arith))
