-- What the inner functions promise.
-- Assumes nothing.
use Rattle.std.specs.Prelude.{ℕ, ◌≤◌, ◌≡◌, List, length, Result, Ok, Err}
use Rattle.answer.specs.declared.Refusal.{Refusal}
use Rattle.records.specs.Writing.{Put, bytes, none}
use Rattle.relleb_write.specs.declared.Fields.{Fields}
use Rattle.relleb_table.specs.Table.{field_bytes}

-- r is how many bytes four numbers take; each takes at most ten
pub record Measured (r : ℕ) (b : List ℕ) : Type 0 where
  pub is : r ≡ length b
  pub few : r ≤ 40

-- the bytes of a record's numbers
abbrev pub fields_put : Result Fields Refusal → Put
fields_put (Ok f) = bytes (field_bytes f.step f.turn f.field f.change)
fields_put (Err why) = none why
