-- How many records an input of so many bytes can have, and what is true of each that is read.
-- Assumes nothing.
use Prim.Native.Nat.{ℕ, zero, suc, ◌+◌, ◌*◌, ◌≤◌}
use mathlib.Core.List.{List, []}
use native.Mathlib.Omega.{arith}
use lib.Dec.{ltb}
use lib.ListN.{length}
use Rattle.answer.specs.declared.Refusal.TheVariants.{Trailing}
use Rattle.answer.specs.Outcome.{accepted, refused}
use Rattle.answer.specs.Said.{OfList, of_cond, list_map, list_before}
use Rattle.records.specs.Columns.{Each}
use Rattle.records.specs.Reading.{Step, one, none, step_then, records, counted}
use Rattle.std.specs.Prelude.{Ok, Err}
use Rattle.leb128.specs.Number.{Unsigned}

-- a record takes at least m bytes, and ends at `long` or before
abbrev pub Moves : {S A : Type 0} → ℕ → ℕ → ℕ → Step S A → Type 0
Moves m long at (one x past st) = (at + m ≤ past) × (past ≤ long)
Moves m long at (none why p) = Unit {0}

-- a count that was read ends there too
abbrev pub Ends : ℕ → Unsigned → Type 0
Ends long (Ok (n, first)) = first ≤ long
Ends long (Err e) = Unit {0}

-- a record that was read is so
abbrev pub Yields : {S A : Type 0} → (A → Type 0) → Step S A → Type 0
Yields Q (one x past st) = Q x
Yields Q (none why p) = Unit {0}

module _ {S A : Type 0} (step : ℕ → S → Step S A) (end : ℕ) where
  -- so records from a place on are no more than there is room for behind it
  module _ (m long : ℕ) (moves : (at : ℕ) (st : S) → Moves m long at (step at st)) where
    pub records_most : (n at : ℕ) (st : S) → at ≤ long → OfList (λ (l : List A). at + m * length l ≤ long) (records step end n at st)
    unfolding records step_then
    records_most zero at st h = of_cond (OfList (λ (l : List A). at + m * length l ≤ long)) (ltb at end) (refused Trailing at) (accepted []) tt (omega arith)
    records_most (suc n) at st h = go (step at st) (moves at st) (λ past next k. records_most n past next k)
      where
        go : (x : Step S A) → Moves m long at x → ((past : ℕ) (next : S) → past ≤ long → OfList (λ (l : List A). past + m * length l ≤ long) (records step end n past next))
            → OfList (λ (l : List A). at + m * length l ≤ long) (step_then x (records step end n))
        go (one x past next) k rest =
            list_before (λ (l : List A). past + m * length l ≤ long) (λ (l : List A). at + m * length l ≤ long) x (records step end n past next) (λ l q. omega (arith, k.0)) (rest past next k.1)
        go (none why p) k rest = tt

    pub counted_most : (st : S) (u : Unsigned) → Ends long u → OfList (λ (l : List A). m * length l ≤ long) (counted step end st u)
    unfolding counted
    counted_most st (Ok (n, first)) h =
        list_map (λ (l : List A). first + m * length l ≤ long) (λ (l : List A). m * length l ≤ long) (records step end n first st) (λ l q. omega arith) (records_most n first st h)
    counted_most st (Err e) h = tt

  pub records_each : (Q : A → Type 0) → ((at : ℕ) (st : S) → Yields Q (step at st)) → (n at : ℕ) (st : S) → OfList (Each Q) (records step end n at st)
  unfolding records step_then
  records_each Q gives zero at st = of_cond (OfList (Each Q)) (ltb at end) (refused Trailing at) (accepted []) tt tt
  records_each Q gives (suc n) at st = go (step at st) (gives at st) (λ past next. records_each Q gives n past next)
    where
      go : (x : Step S A) → Yields Q x → ((past : ℕ) (next : S) → OfList (Each Q) (records step end n past next)) → OfList (Each Q) (step_then x (records step end n))
      go (one x past next) k rest = list_before (Each Q) (Each Q) x (records step end n past next) (λ l q. (k, q)) (rest past next)
      go (none why p) k rest = tt
