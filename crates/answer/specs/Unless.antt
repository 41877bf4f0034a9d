-- Of two readings of one input: the one is the other, unless it is refused for a reason of its own.
-- Assumes nothing.
use Rattle.std.specs.Prelude.{ℕ, ◌≡◌, refl, Bool, true, false, cond}
use Rattle.std.proofs.Common.{sym, ap, ◌∙◌, subst}
use Rattle.answer.specs.declared.Refusal.{Refusal}
use Rattle.answer.specs.Outcome.{Outcome, accepted, refused}
use Rattle.answer.specs.Outcome.Laws.{accepted_refused}
use Rattle.answer.specs.Said.{Said}

-- x is y, or x is a refusal of which P is said; `bad` makes a refusal of its reason and its place
pub data Unless {X : Type 0} (bad : Refusal → ℕ → X) (P : Said) (x y : X) : Type 0 where
  same : x ≡ y → Unless bad P x y
  but : (why : Refusal) (p : ℕ) → x ≡ bad why p → P why p → Unless bad P x y

-- what two functions make of two such readings, where the first hands a refusal on and they make such of the first reading
pub unless_at : {X Y : Type 0} (bad : Refusal → ℕ → X) (worse : Refusal → ℕ → Y) (P : Said) (f g : X → Y) → ((why : Refusal) (p : ℕ) → f (bad why p) ≡ worse why p)
    → (x y : X) → Unless worse P (f x) (g x) → Unless bad P x y → Unless worse P (f x) (g y)
unless_at bad worse P f g on x y at (same e) = subst (λ (z : _). Unless worse P (f x) (g z)) e at
unless_at bad worse P f g on x y at (but why p e h) = but why p (ap f e ∙ on why p) h

-- or of each
pub unless_then : {X Y : Type 0} (bad : Refusal → ℕ → X) (worse : Refusal → ℕ → Y) (P : Said) (f g : X → Y) → ((why : Refusal) (p : ℕ) → f (bad why p) ≡ worse why p)
    → ((x : X) → Unless worse P (f x) (g x)) → (x y : X) → Unless bad P x y → Unless worse P (f x) (g y)
unless_then bad worse P f g on each x y h = unless_at bad worse P f g on x y (each x) h

-- what follows from what is said of the refusal
pub unless_map : {X : Type 0} (bad : Refusal → ℕ → X) (P Q : Said) {x y : X} → ((why : Refusal) (p : ℕ) → P why p → Q why p) → Unless bad P x y → Unless bad Q x y
unless_map bad P Q f (same e) = same e
unless_map bad P Q f (but why p e h) = but why p e (f why p h)

-- of two, by a test
pub unless_cond : {X : Type 0} (bad : Refusal → ℕ → X) (P : Said) (t : Bool) (x y z : X) → Unless bad P x y → Unless bad P (cond t x z) (cond t y z)
unless_cond bad P true x y z h = h
unless_cond bad P false x y z h = same refl

-- a reading that is accepted is the other too
pub unless_accepted : {A : Type 0} (P : Said) {o o' : Outcome A} {l : A} → Unless refused P o o' → o ≡ accepted l → o' ≡ accepted l
unless_accepted P (same e) f = sym e ∙ f
unless_accepted P (but why p e h) f = absurd (accepted_refused f e)
