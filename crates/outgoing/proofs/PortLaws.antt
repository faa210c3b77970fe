-- The laws of building a port set in a loop that counts the ports up: its invariant is `ports ≡ set_below test i`.
use Prim.Native.Nat.{ℕ, suc, ◌+◌, ◌*◌, ◌%◌, ◌^◌, ◌≤◌, ◌<◌}
use native.Mathlib.Nat.{one-mul, two-pow-succ, le_antisymm}
use native.Mathlib.Numerals.{add-one}
use native.Mathlib.Omega.{arith}
use mathlib.Core.Bool.{Bool}
use mathlib.Core.Path.{◌≡◌, refl, sym, ap, subst, ◌∙◌}
use lib.Dec.{lit<}
use lib.Pow.{pow_mono, shl_exact}
use Rattle.octets.specs.Choice.{◌then◌otherwise◌}
use Rattle.rules.specs.Answers.{set_below, port_set}
use Rattle.rules.proofs.PortSets.{set_below_lem}
use Rattle.numbers.specs.Numbers.{port_count}

-- ---- the loop
module _ (test : ℕ → Bool) where
  -- it begins with the empty set
  pub set_begin : 0 ≡ set_below test 0
  unfolding set_below
  set_begin = refl

  module _ {ports : ℕ} (i : ℕ) (inv : ports ≡ set_below test i) where
    -- all ports in the set are below i
    pub set_room : ports < 2 ^ i
    set_room = subst (λ (k : ℕ). k < 2 ^ i) (sym inv) (set_below_lem test i)

    -- a turn adds port i, if it passes the test
    pub set_more : ports + (test i then 2 ^ i otherwise 0) ≡ set_below test (i + 1)
    unfolding set_below
    set_more = rw (add-one, inv)

    -- after the sixteenth it is the whole set
    pub set_end : i ≤ port_count → port_count ≤ i → ports ≡ port_set test
    unfolding port_set
    set_end l m = inv ∙ ap (set_below test) (le_antisymm l m)

-- ---- one port, in the sixteen bits of a set
module _ (port : ℕ) (l : port < port_count) where
  pub one_shifted : (1 * 2 ^ port) % 2 ^ 16 ≡ 2 ^ port
  one_shifted = shl_exact {a = 1} 1 port 16 (lit< tt) (omega arith) ∙ one-mul (2 ^ port)

  pub port_fits : (ports : ℕ) → ports < 2 ^ port → ports + 2 ^ port < 2 ^ 16
  port_fits ports b =
      let most : 2 ^ suc port ≤ 2 ^ 16 = pow_mono {i = suc port} {j = 16} (omega arith) in
      omega (arith, b, most, two-pow-succ port)
