-- A table word by word reversed.
-- Assumes nothing.
use Rattle.std.specs.Prelude.{ℕ, zero, suc, ◌/◌, List, ◌++◌, reverse, length, take, drop}
use Rattle.answer.specs.Outcome.{Outcome, accepted, refused}
use Rattle.word.specs.declared.Size.{Size}
use Rattle.word.specs.Class.{size_of}
use Rattle.std.specs.Prelude.{Option}
use Rattle.std.specs.Prelude.{Some, None}

-- the first m words of n bytes each the other way round, and what is behind them as it is
unfoldable pub reversed_first : ℕ → ℕ → List ℕ → List ℕ
reversed_first n zero s = s
reversed_first n (suc m) s = reverse (take n s) ++ reversed_first n m (drop n s)

-- every whole word of n bytes
unfoldable pub reversed : ℕ → List ℕ → List ℕ
reversed n s = reversed_first n (length s / n) s

-- every whole word of the class that a number names
unfoldable pub reversed_in : Option Size → List ℕ → List ℕ
reversed_in (Some z) s = reversed (size_of z) s
reversed_in None s = s

-- the same of a table that is written
unfoldable pub outcome_reversed : Option Size → Outcome (List ℕ) → Outcome (List ℕ)
outcome_reversed n (accepted b) = accepted (reversed_in n b)
outcome_reversed n (refused why p) = refused why p
