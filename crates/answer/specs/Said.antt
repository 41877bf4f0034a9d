-- What is said of an outcome: of its refusal, or of its list.
-- Assumes nothing.
use Rattle.std.specs.Prelude.{ℕ, ◌≤◌, ◌≡◌, refl, List, ◌∷◌, ◌++◌, Bool, true, false, cond, leb, length}
use Rattle.std.proofs.Common.{subst, leb-true}
use Rattle.answer.specs.declared.Refusal.{Refusal}
use Rattle.answer.specs.declared.Refusal.TheVariants.{Limit}
use Rattle.answer.specs.Outcome.{Outcome, accepted, refused, limited, before, after}

-- what is said of a refusal, with its place
abbrev pub Said : Type 1
Said = Refusal → ℕ → Type 0

-- where something is accepted, nothing is said
abbrev pub OfOutcome : {A : Type 0} → Said → Outcome A → Type 0
OfOutcome P (accepted l) = Unit {0}
OfOutcome P (refused why p) = P why p

-- where something is refused, nothing is said
abbrev pub OfList : {A : Type 0} → (A → Type 0) → Outcome A → Type 0
OfList Q (accepted l) = Q l
OfList Q (refused why p) = Unit {0}

-- a place is at most P
abbrev pub AtMost : ℕ → Said
AtMost P why p = p ≤ P

-- no refusal has a place above P, and no list is longer than n
pub record Bounded {A : Type 0} (P n : ℕ) (o : Outcome (List A)) : Type 0 where
  pub place : OfOutcome (AtMost P) o
  pub long : OfList (λ (l : List A). length l ≤ n) o

-- of two, by a test
pub of_cond : {X : Type 0} (Q : X → Type 0) (t : Bool) (x y : X) → Q x → Q y → Q (cond t x y)
of_cond Q true x y h k = h
of_cond Q false x y h k = k

module _ {A : Type 0} where
  pub of_map : (P Q : Said) (o : Outcome A) → ((why : Refusal) (p : ℕ) → P why p → Q why p) → OfOutcome P o → OfOutcome Q o
  of_map P Q (accepted l) f h = tt
  of_map P Q (refused why p) f h = f why p h

module _ {A : Type 0} (P : Said) where
  pub of_refused : {o : Outcome A} {why : Refusal} {p : ℕ} → o ≡ refused why p → OfOutcome P o → P why p
  of_refused e h = subst (OfOutcome P) e h

  -- after refusal 2
  pub of_limited : (limit n : ℕ) (o : Outcome A) → P Limit 0 → (n ≤ limit → OfOutcome P o) → OfOutcome P (limited limit n o)
  of_limited limit n o h k = go (leb n limit) refl
    where
      go : (t : Bool) → leb n limit ≡ t → OfOutcome P (cond t o (refused Limit 0))
      go true e = k (leb-true n limit e)
      go false e = h

  pub of_before : (x : A) (o : Outcome (List A)) → OfOutcome P o → OfOutcome P (before x o)
  unfolding before
  of_before x (accepted l) h = tt
  of_before x (refused why p) h = h

  pub of_after : (xs : List A) (o : Outcome (List A)) → OfOutcome P o → OfOutcome P (after xs o)
  unfolding after
  of_after xs (accepted l) h = tt
  of_after xs (refused why p) h = h

module _ {A : Type 0} where
  pub of_accepted : (Q : A → Type 0) {o : Outcome A} {l : A} → o ≡ accepted l → OfList Q o → Q l
  of_accepted Q e h = subst (OfList Q) e h

  pub list_of : (Q : A → Type 0) (o : Outcome A) → ((l : A) → o ≡ accepted l → Q l) → OfList Q o
  list_of Q (accepted l) h = h l refl
  list_of Q (refused why p) h = tt

  -- what follows from what is said of a list
  pub list_map : (Q R : A → Type 0) (o : Outcome A) → ((l : A) → Q l → R l) → OfList Q o → OfList R o
  list_map Q R (accepted l) f h = f l h
  list_map Q R (refused why p) f h = tt

  pub list_both : (Q R T : A → Type 0) (o : Outcome A) → ((l : A) → Q l → R l → T l) → OfList Q o → OfList R o → OfList T o
  list_both Q R T (accepted l) f h k = f l h k
  list_both Q R T (refused why p) f h k = tt

  -- after refusal 2
  pub list_limited : (Q : A → Type 0) (limit n : ℕ) (o : Outcome A) → (n ≤ limit → OfList Q o) → OfList Q (limited limit n o)
  list_limited Q limit n o k = go (leb n limit) refl
    where
      go : (t : Bool) → leb n limit ≡ t → OfList Q (cond t o (refused Limit 0))
      go true e = k (leb-true n limit e)
      go false e = tt

  -- what is said of a list is said of it with one or more elements before it
  pub list_before : (Q R : List A → Type 0) (x : A) (o : Outcome (List A)) → ((l : List A) → Q l → R (x ∷ l)) → OfList Q o → OfList R (before x o)
  unfolding before
  list_before Q R x (accepted l) f h = f l h
  list_before Q R x (refused why p) f h = tt

  pub list_after : (Q R : List A → Type 0) (xs : List A) (o : Outcome (List A)) → ((l : List A) → Q l → R (xs ++ l)) → OfList Q o → OfList R (after xs o)
  unfolding after
  list_after Q R xs (accepted l) f h = f l h
  list_after Q R xs (refused why p) f h = tt
