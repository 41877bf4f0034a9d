-- The faults of a list that is written, one offset at a time, and that a list without one is legal.
-- Assumes nothing.
use mathlib.Core.List.{List, [], ◌∷◌}
use mathlib.Core.Path.{◌≡◌, refl, sym, ◌∙◌}
use Prim.Native.Nat.{ℕ, suc, ◌+◌, ◌%◌, ◌≤◌, ◌<◌}
use native.Mathlib.Decide.{dec_le, ℕ_discrete}
use native.Mathlib.Numerals.{add-one}
use native.Mathlib.Omega.{arith}
use borrow.Author.Tests.{lt-ltb, le-ltb, ne_eqb}
use Rattle.answer.specs.declared.Refusal.TheVariants.{Order, Space, Odd}
use Rattle.answer.specs.Outcome.{Outcome, accepted, refused}
use Rattle.answer.specs.Outcome.Laws.{accepted_refused}
use Rattle.relr_table.specs.Words.{Legal}
use Rattle.relr_table.specs.Table.{checked}

module _ (c top : ℕ) where
  checked_none : (i lo : ℕ) (o : Outcome (List ℕ)) → checked c top i lo [] o ≡ o
  unfolding checked
  checked_none i lo o = refl

  module _ (i lo x : ℕ) (l : List ℕ) (o : Outcome (List ℕ)) where
    pub checked_odd : x % 2 ≡ 1 → checked c top i lo (x ∷ l) o ≡ refused Odd i
    unfolding checked
    checked_odd e = rw e

    module _ (even : x % 2 ≡ 1 → ⊥) where
      pub checked_space : top < x + c → checked c top i lo (x ∷ l) o ≡ refused Space i
      unfolding checked
      checked_space h = rw (ne_eqb (x % 2) 1 even, lt-ltb top (x + c) h)

      module _ (fits : x + c ≤ top) where
        pub checked_order : x < lo → checked c top i lo (x ∷ l) o ≡ refused Order i
        unfolding checked
        checked_order h = rw (ne_eqb (x % 2) 1 even, le-ltb top (x + c) fits, lt-ltb x lo h)

        pub checked_more : lo ≤ x → checked c top i lo (x ∷ l) o ≡ checked c top (i + 1) (x + 1) l o
        unfolding checked
        checked_more h = rw (ne_eqb (x % 2) 1 even, le-ltb top (x + c) fits, le-ltb x lo h, add-one, add-one)

  -- a legal list has no fault
  pub legal_checked : (i lo : ℕ) (l : List ℕ) (o : Outcome (List ℕ)) → Legal c top lo l → checked c top i lo l o ≡ o
  unfolding Legal
  legal_checked i lo [] o h = checked_none i lo o
  legal_checked i lo (x ∷ l) o h =
      checked_more i lo x l o (λ z. absurd (omega (arith, h.1))) h.2 h.0 ∙ legal_checked (i + 1) (x + 1) l o (rw add-one h.3)

  -- and a list without one is legal
  pub checked_legal : (i lo : ℕ) (l : List ℕ) (o : Outcome (List ℕ)) {b : List ℕ} → checked c top i lo l o ≡ accepted b → Legal c top lo l × (o ≡ accepted b)
  unfolding Legal
  checked_legal i lo [] o e = (tt, sym (checked_none i lo o) ∙ e)
  checked_legal i lo (x ∷ l) o {b} e = go (checked_legal (i + 1) (x + 1) l o) (ℕ_discrete (x % 2) 1) (dec_le (x + c) top) (dec_le lo x)
    where
      go : (checked c top (i + 1) (x + 1) l o ≡ accepted b → Legal c top (x + 1) l × (o ≡ accepted b)) → Dec (x % 2 ≡ 1) → Dec (x + c ≤ top) → Dec (lo ≤ x)
          → ((lo ≤ x) × (x % 2 ≡ 0) × (x + c ≤ top) × Legal c top (suc x) l) × (o ≡ accepted b)
      go ih (yes h) f u = absurd (accepted_refused e (checked_odd i lo x l o h))
      go ih (no h) (no f) u = absurd (accepted_refused e (checked_space i lo x l o h (omega arith)))
      go ih (no h) (yes f) (no u) = absurd (accepted_refused e (checked_order i lo x l o h f (omega arith)))
      go ih (no h) (yes f) (yes u) =
          let (a, d) = ih (sym (checked_more i lo x l o h f u) ∙ e) in
          ((u, even h, f, rw add-one at a), d)
        where
          even : (x % 2 ≡ 1 → ⊥) → x % 2 ≡ 0
          even n = elim (ℕ_discrete (x % 2) 0) [ yes z ↦ z | no z ↦ absurd (n (omega arith)) ]
