-- What the inner functions promise.
-- Assumes nothing.
use Rattle.std.specs.Prelude.{ℕ, ◌≡◌, Bool, List, Option, Some, None, Result, Ok, Err}
use Rattle.answer.specs.declared.Refused.{Refused}
use Rattle.records.specs.Reading.{Step, one, none}
use Rattle.apa1_read.specs.declared.Entry.{Entry}
use Rattle.apa1_table.specs.Table.{Row, row, step_at}

-- what the reader of one record says
abbrev pub entry_step : Result Entry Refused → Step Row Row
entry_step (Ok x) = one (row x.offset x.addend) x.past (row x.offset x.addend)
entry_step (Err e) = none e.why e.place

-- what stands at a place, whatever record stands before: a record that ends at the place given, or a refusal
abbrev pub Skips : Bool → List ℕ → ℕ → Result ℕ Refused → Type 0
Skips strict s at (Ok past) = (prev : Row) → (x : Row) × (step_at strict s at prev ≡ one x past x)
Skips strict s at (Err e) = (prev : Row) → step_at strict s at prev ≡ none e.why e.place

-- what passing over a record says: the place past it, or nothing
abbrev pub EndsRecord : Bool → List ℕ → ℕ → Option ℕ → Type 0
EndsRecord strict s at (Some past) = Skips strict s at (Ok past)
EndsRecord strict s at None = Unit {0}
