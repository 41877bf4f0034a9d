-- What the inner functions promise.
-- Assumes nothing.
use Rattle.std.specs.Prelude.{ℕ, ◌≤◌, ◌<◌, ◌≡◌, List, pos, length, get_or, ◌++◌}
use Rattle.answer.specs.declared.Answer.{Answer}
use Rattle.answer.specs.Outcome.{accepted, answer_in, filled, itself}
use Rattle.relleb_table.specs.Table.{Row, row}
use Rattle.listing.specs.declared.kind.Kind.{Kind}
use Rattle.listing.specs.declared.columns.Columns.{Columns}
use Rattle.listing.specs.declared.columns.Row as columns
use Rattle.listing.specs.Text.{rows_of, row_text, row_at, rows_to, record_limit}

-- bytes, at most so many, are put behind a text
pub record Prints (old new bytes : List ℕ) (most : ℕ) : Type 0 where
  pub is : new ≡ old ++ bytes
  pub few : length bytes ≤ most

-- bytes are handed out: the call answers r, and leaves `new` in a buffer that held `old`
pub record Copies (bytes old : List ℕ) (r : Answer) (new : List ℕ) : Type 0 where
  pub answer : r ≡ answer_in (length old) (accepted bytes)
  pub text : new ≡ filled itself (accepted bytes) old

-- a record of the columns, as the specification has it
abbrev pub record_of : columns.Row → Row
record_of x = row x.offset x.rtype x.symbol x.addend

-- the record at an index of the columns
abbrev pub row_in : Columns → ℕ → Row
row_in c i = row_at c.offsets c.types c.symbols c.addends i

-- the lines of the first n records of the columns
abbrev pub lines_to : Kind → Columns → ℕ → List ℕ
lines_to k c n = rows_to k c.offsets c.types c.symbols c.addends n

-- a read of a table answers r, and where it is accepted the columns' lines are those of its records
pub record Reads (k : Kind) (s : List ℕ) (r : Answer) (c : Columns) : Type 0 where
  pub answer : r ≡ answer_in record_limit (rows_of k s)
  pub lines : (l : List Row) → rows_of k s ≡ accepted l → length l ≤ record_limit → (i : ℕ) → i < length l
      → row_text k i (row_in c i) ≡ row_text k i (get_or l i (row 0 0 0 (pos 0)))
