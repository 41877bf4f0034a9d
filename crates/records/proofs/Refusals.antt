-- What is said of every refusal of a number, of a step and of the end is true of every refusal of the records.
-- Assumes nothing.
use Prim.Native.Nat.{ℕ, zero, suc, ◌+◌, ◌<◌}
use mathlib.Core.Path.{◌≡◌, refl, ap}
use mathlib.Core.List.{List, [], ◌∷◌}
use mathlib.Core.Bool.{Bool, true, false, cond}
use native.Mathlib.Omega.{arith}
use lib.Dec.{ltb}
use lib.ListN.{length}
use borrow.Author.Tests.{ltb-true}
use Rattle.answer.specs.declared.Refusal.{Refusal}
use Rattle.answer.specs.declared.Refusal.TheVariants.{Width, Trailing}
use Rattle.answer.specs.Outcome.{number_of, accepted, refused}
use Rattle.answer.specs.Said.{Said, OfOutcome, of_before, of_after}
use Rattle.records.specs.Reading.{Step, one, none, step_then, records, counted}
use Rattle.records.specs.Writing.{Put, bytes, put_then, puts}
use Rattle.records.specs.Writing as Writing
use Rattle.std.specs.Prelude.{Ok, Err}
use Rattle.answer.specs.Outcome.{err_at}
use Rattle.leb128.specs.Number.{Unsigned, Signed}

-- what is said of refusal 5 alone: nothing of the others
abbrev pub OfFive : (ℕ → Type 0) → Said
OfFive T why p = why ≡ Width → T p

pub another : (T : ℕ → Type 0) (why : Refusal) (p : ℕ) → (number_of why ≡ 5 → ⊥) → OfFive T why p
another T why p h e = absurd (h (ap number_of e))

-- where something was read, nothing is said
abbrev pub OfUnsigned : Said → Unsigned → Type 0
OfUnsigned P (Ok (v, next)) = Unit {0}
OfUnsigned P (Err e) = P e.why e.place

abbrev pub OfSigned : Said → Signed → Type 0
OfSigned P (Ok (z, next)) = Unit {0}
OfSigned P (Err e) = P e.why e.place

abbrev pub OfStep : {S A : Type 0} → Said → Step S A → Type 0
OfStep P (one x past st) = Unit {0}
OfStep P (none why p) = P why p

pub of_unsigned : (P : Said) (u : Unsigned) → ((why : Refusal) (p : ℕ) → u ≡ err_at why p → P why p) → OfUnsigned P u
of_unsigned P (Ok (v, next)) h = tt
of_unsigned P (Err e) h = h e.why e.place refl

pub of_signed : (P : Said) (u : Signed) → ((why : Refusal) (p : ℕ) → u ≡ err_at why p → P why p) → OfSigned P u
of_signed P (Ok (z, next)) h = tt
of_signed P (Err e) h = h e.why e.place refl

module _ {S A : Type 0} (P : Said) (step : ℕ → S → Step S A) (end : ℕ) (steps : (at : ℕ) (st : S) → OfStep P (step at st)) (over : (at : ℕ) → at < end → P Trailing at) where
  of_end : (at : ℕ) (t : Bool) → ltb at end ≡ t → OfOutcome {A = List A} P (cond t (refused Trailing at) (accepted []))
  of_end at true e = over at (ltb-true at end e)
  of_end at false e = tt

  pub of_records : (n at : ℕ) (st : S) → OfOutcome P (records step end n at st)
  unfolding records step_then
  of_records zero at st = of_end at (ltb at end) refl
  of_records (suc n) at st = go (step at st) (steps at st) (λ past next. of_records n past next)
    where
      go : (x : Step S A) → OfStep P x → ((past : ℕ) (next : S) → OfOutcome P (records step end n past next)) → OfOutcome P (step_then x (records step end n))
      go (one x past next) h rest = of_before P x (records step end n past next) (rest past next)
      go (none why p) h rest = h

  pub of_counted : (st : S) (u : Unsigned) → OfUnsigned P u → OfOutcome P (counted step end st u)
  unfolding counted
  of_counted st (Ok (n, first)) h = of_records n first st
  of_counted st (Err e) h = h

-- records that are written are refused at an index of theirs
module _ {S A : Type 0} (P : Said) (put : S → A → Put) (next : S → A → S) where
  pub of_puts : (i : ℕ) (st : S) (l : List A) → ((why : Refusal) (j : ℕ) → j < i + length l → P why j) → OfOutcome P (puts put next i st l)
  unfolding puts put_then
  of_puts i st [] h = tt
  of_puts i st (x ∷ l) h = go (put st x) (of_puts (i + 1) (next st x) l (λ why j k. h why j (omega arith)))
    where
      go : (y : Put) → OfOutcome P (puts put next (i + 1) (next st x) l) → OfOutcome P (put_then y i (puts put next (i + 1) (next st x) l))
      go (bytes b) rest = of_after P b (puts put next (i + 1) (next st x) l) rest
      go (Writing.none why) rest = h why i (omega arith)
