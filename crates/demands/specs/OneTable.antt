-- What the theorems about one list and its tables speak of.
-- Assumes nothing.
use Rattle.std.specs.Prelude.{List, ◌++◌, ◌≡◌, ℕ, length, drop}
use Rattle.answer.specs.declared.Answer.{Answer}
use Rattle.answer.specs.Outcome.{Outcome, accepted, success}

-- a write makes the table s in bytes that held `old`: it succeeds with the table's length, and the bytes are the table's, and behind them as they were
pub record Makes (s old : List ℕ) (w : Answer) (new : List ℕ) : Type 0 where
  pub answer : w ≡ success (length s)
  pub table : new ≡ s ++ drop (length s) old

-- two tables of one list: the writer makes the first of the list, both are accepted and decode to it, and they are not the same bytes
pub record Spellings {A : Type 0} (decode : List ℕ → Outcome (List A)) (encode : List A → Outcome (List ℕ)) (list : List A) (one other : List ℕ) : Type 0 where
  pub written : encode list ≡ accepted one
  pub first : decode one ≡ accepted list
  pub second : decode other ≡ accepted list
  pub differ : one ≡ other → ⊥

-- two reads that both succeed with n records, and leave the same in a column
pub record Alike {A : Type 0} (n : ℕ) (r q : Answer) (new other : List A) : Type 0 where
  pub first : r ≡ success n
  pub second : q ≡ success n
  pub column : new ≡ other
