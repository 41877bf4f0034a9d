-- Two readings of records, of which the one is the other unless it is refused for a reason of its own: if so of each step, then of all.
-- Assumes nothing.
use Prim.Native.Nat.{ℕ, zero, suc}
use mathlib.Core.Path.{refl}
use mathlib.Core.List.{List}
use Rattle.answer.specs.Outcome.{Outcome, refused, before}
use Rattle.answer.specs.Said.{Said}
use Rattle.answer.specs.Unless.{Unless, same, unless_then}
use Rattle.records.specs.Reading.{Step, one, none, step_then, records, counted}
use Rattle.std.specs.Prelude.{Ok, Err}
use Rattle.answer.specs.Outcome.{err_at}
use Rattle.leb128.specs.Number.{Unsigned}

unless_before : {A : Type 0} (P : Said) (x : A) (o o' : Outcome (List A)) → Unless refused P o o' → Unless refused P (before x o) (before x o')
unfolding before
unless_before P x o o' h = unless_then refused refused P (before x) (before x) (λ why p. refl) (λ o. same refl) o o' h

module _ {S A : Type 0} (P : Said) (step step' : ℕ → S → Step S A) (end : ℕ) (steps : (at : ℕ) (st : S) → Unless none P (step at st) (step' at st)) where
  pub unless_records : (n at : ℕ) (st : S) → Unless refused P (records step end n at st) (records step' end n at st)
  unfolding records step_then
  unless_records zero at st = same refl
  unless_records (suc n) at st =
      unless_then none refused P (λ (x : Step S A). step_then x (records step end n)) (λ (x : Step S A). step_then x (records step' end n)) (λ why p. refl) (go (unless_records n))
      (step at st) (step' at st) (steps at st)
    where
      go : ((past : ℕ) (next : S) → Unless refused P (records step end n past next) (records step' end n past next))
          → (x : Step S A) → Unless refused P (step_then x (records step end n)) (step_then x (records step' end n))
      go rest (one x past next) = unless_before P x (records step end n past next) (records step' end n past next) (rest past next)
      go rest (none why p) = same refl

  pub unless_counted : (st : S) (u u' : Unsigned) → Unless err_at P u u' → Unless refused P (counted step end st u) (counted step' end st u')
  unfolding counted
  unless_counted st u u' h = unless_then err_at refused P (counted step end st) (counted step' end st) (λ why p. refl) go u u' h
    where
      go : (u : Unsigned) → Unless refused P (counted step end st u) (counted step' end st u)
      go (Ok (n, first)) = unless_records n first st
      go (Err e) = same refl
