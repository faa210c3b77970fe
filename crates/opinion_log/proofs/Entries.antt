-- What an entry is, by its kind; and one step of a walk through the log.
use Prim.Native.Nat.{ℕ, ◌+◌, ◌-◌, ◌≤◌, ◌<◌}
use native.Mathlib.Numerals.{add-one}
use native.Mathlib.Omega.{arith}
use mathlib.Core.Bool.{true, false, not}
use mathlib.Core.List.{List}
use mathlib.Core.Path.{◌≡◌, refl, sym, ap, ◌∙◌}
use lib.Dec.{eqb, ltb}
use lib.ListN.{get_or}
use borrow.Author.Tests.{eq-eqb, ne_eqb, eqb-true, eqb-false, ltb-false}
use Rattle.octets.specs.Choice.{◌then◌otherwise◌}
use Rattle.octets.proofs.Index.{and_no, and_yes}
use Rattle.octets.proofs.Choice.{then_true, then_false}
use Rattle.numbers.specs.Numbers.{longest_packet}
use Rattle.packet.specs.Read.{reads}
use Rattle.rules.specs.Refusals.{rate_settings_ok}
use Rattle.rules.specs.Calls.{sets_port, sets_rate, adds, removes, renumbers, marks}
use Rattle.rules.proofs.Choices.{either}
use Rattle.history.specs.After.{Entry, came, called, after, known_of}
use Rattle.opinion_log.specs.Log.{port_in, word_in, mode_in, clock_in, length_in, packet_in, arrival_in, rate_in, address_in, images_in, kind_in, entry_of, entry_bytes, entries_of, known_in, kind_at}

module _ (e : List ℕ) where
  -- ---- the kinds
  pub kind_most : kind_in e ≤ 6
  unfolding kind_in
  kind_most =
      either (λ (n : ℕ). n ≤ 6) _ (λ _. omega arith)
      (λ _. either (λ (n : ℕ). n ≤ 6) _ (λ _. omega arith)
      (λ _. either (λ (n : ℕ). n ≤ 6) _ (λ _. omega arith) (λ h. ltb-false 6 (get_or e kind_at 0) h)))

  -- from the first byte
  pub kind_came : get_or e kind_at 0 ≡ 1 → reads longest_packet (packet_in e) ≡ true → kind_in e ≡ 1
  unfolding kind_in
  kind_came h r =
      then_false _ _ (and_yes _ (eq-eqb (get_or e kind_at 0) 1 h) ∙ ap not r)
      ∙ then_false _ _ (and_no _ (ne_eqb (get_or e kind_at 0) 3 (λ q. eqb-false 1 3 refl (sym h ∙ q))))
      ∙ then_false _ _ (ap (ltb 6) h)
      ∙ h

  pub kind_rate : get_or e kind_at 0 ≡ 3 → rate_settings_ok (rate_in e) ≡ true → kind_in e ≡ 3
  unfolding kind_in
  kind_rate h r =
      then_false _ _ (and_no _ (ne_eqb (get_or e kind_at 0) 1 (λ q. eqb-false 3 1 refl (sym h ∙ q))))
      ∙ then_false _ _ (and_yes _ (eq-eqb (get_or e kind_at 0) 3 h) ∙ ap not r)
      ∙ then_false _ _ (ap (ltb 6) h)
      ∙ h

  pub kind_other : (get_or e kind_at 0 ≡ 1 → ⊥) → (get_or e kind_at 0 ≡ 3 → ⊥) → kind_in e ≡ (ltb 6 (get_or e kind_at 0) then 0 otherwise get_or e kind_at 0)
  unfolding kind_in
  kind_other h r = then_false _ _ (and_no _ (ne_eqb (get_or e kind_at 0) 1 h)) ∙ then_false _ _ (and_no _ (ne_eqb (get_or e kind_at 0) 3 r))

  -- ---- the entry
  other : (n m : ℕ) → kind_in e ≡ n → eqb n m ≡ false → eqb (kind_in e) m ≡ false
  other n m h d = ap (λ (x : ℕ). eqb x m) h ∙ d

  pub entry_came : kind_in e ≡ 1 → entry_of e ≡ came (arrival_in e)
  unfolding entry_of
  entry_came h = then_true _ _ (eq-eqb (kind_in e) 1 h)

  pub entry_port : kind_in e ≡ 2 → entry_of e ≡ called (sets_port (port_in e) (word_in e) (mode_in e) (length_in e))
  unfolding entry_of
  entry_port h = then_false _ _ (other 2 1 h refl) ∙ then_true _ _ (eq-eqb (kind_in e) 2 h)

  pub entry_rate : kind_in e ≡ 3 → entry_of e ≡ called (sets_rate (rate_in e).target (rate_in e).grace (rate_in e).penalty)
  unfolding entry_of
  entry_rate h = then_false _ _ (other 3 1 h refl) ∙ then_false _ _ (other 3 2 h refl) ∙ then_true _ _ (eq-eqb (kind_in e) 3 h)

  pub entry_added : kind_in e ≡ 4 → entry_of e ≡ called (adds (address_in e))
  unfolding entry_of
  entry_added h =
      then_false _ _ (other 4 1 h refl) ∙ then_false _ _ (other 4 2 h refl) ∙ then_false _ _ (other 4 3 h refl) ∙ then_true _ _ (eq-eqb (kind_in e) 4 h)

  pub entry_removed : kind_in e ≡ 5 → entry_of e ≡ called (removes (address_in e))
  unfolding entry_of
  entry_removed h =
      then_false _ _ (other 5 1 h refl) ∙ then_false _ _ (other 5 2 h refl) ∙ then_false _ _ (other 5 3 h refl) ∙ then_false _ _ (other 5 4 h refl)
      ∙ then_true _ _ (eq-eqb (kind_in e) 5 h)

  pub entry_marked : kind_in e ≡ 6 → entry_of e ≡ called (marks (address_in e) (clock_in e))
  unfolding entry_of
  entry_marked h =
      then_false _ _ (other 6 1 h refl) ∙ then_false _ _ (other 6 2 h refl) ∙ then_false _ _ (other 6 3 h refl) ∙ then_false _ _ (other 6 4 h refl)
      ∙ then_false _ _ (other 6 5 h refl) ∙ then_true _ _ (eq-eqb (kind_in e) 6 h)

  pub entry_renumbered : kind_in e ≡ 0 → entry_of e ≡ called (renumbers (images_in e))
  unfolding entry_of
  entry_renumbered h =
      then_false _ _ (other 0 1 h refl) ∙ then_false _ _ (other 0 2 h refl) ∙ then_false _ _ (other 0 3 h refl) ∙ then_false _ _ (other 0 4 h refl)
      ∙ then_false _ _ (other 0 5 h refl) ∙ then_false _ _ (other 0 6 h refl)

  -- by the seven kinds
  pub by_kind : (P : Entry → Type 0)
      → (kind_in e ≡ 1 → P (came (arrival_in e)))
      → (kind_in e ≡ 2 → P (called (sets_port (port_in e) (word_in e) (mode_in e) (length_in e))))
      → (kind_in e ≡ 3 → P (called (sets_rate (rate_in e).target (rate_in e).grace (rate_in e).penalty)))
      → (kind_in e ≡ 4 → P (called (adds (address_in e))))
      → (kind_in e ≡ 5 → P (called (removes (address_in e))))
      → (kind_in e ≡ 6 → P (called (marks (address_in e) (clock_in e))))
      → (kind_in e ≡ 0 → P (called (renumbers (images_in e))))
      → P (entry_of e)
  unfolding entry_of
  by_kind P p₁ p₂ p₃ p₄ p₅ p₆ p₀ =
      either P _ (λ h. p₁ (eqb-true _ _ h))
      (λ n₁. either P _ (λ h. p₂ (eqb-true _ _ h))
      (λ n₂. either P _ (λ h. p₃ (eqb-true _ _ h))
      (λ n₃. either P _ (λ h. p₄ (eqb-true _ _ h))
      (λ n₄. either P _ (λ h. p₅ (eqb-true _ _ h))
      (λ n₅. either P _ (λ h. p₆ (eqb-true _ _ h))
      (λ n₆.
      p₀ (none (eqb-false _ _ n₁) (eqb-false _ _ n₂) (eqb-false _ _ n₃) (eqb-false _ _ n₄) (eqb-false _ _ n₅) (eqb-false _ _ n₆))))))))
    where
      none : (kind_in e ≡ 1 → ⊥) → (kind_in e ≡ 2 → ⊥) → (kind_in e ≡ 3 → ⊥) → (kind_in e ≡ 4 → ⊥) → (kind_in e ≡ 5 → ⊥) → (kind_in e ≡ 6 → ⊥) → kind_in e ≡ 0
      none h₁ h₂ h₃ h₄ h₅ h₆ = omega (arith, kind_most)

-- ---- one step of a walk, from the oldest entry on
pub one_more : (log : List ℕ) (i : ℕ) (x : Entry) → x ≡ entry_of (entry_bytes log i) → known_in log (i + 1) ≡ after x (known_in log i)
unfolding known_in entries_of known_of
one_more log i x e = rw (add-one i, sym e)

-- .. and from the newest entry back
pub one_back : (log : List ℕ) (i : ℕ) (x : Entry) → 0 < i → x ≡ entry_of (entry_bytes log (i - 1)) → known_in log i ≡ after x (known_in log (i - 1))
one_back log i x h e = ap (known_in log) (omega arith) ∙ one_more log (i - 1) x e
