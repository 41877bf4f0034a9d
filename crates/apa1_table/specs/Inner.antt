-- What the inner functions promise.
-- Assumes nothing.
use Rattle.std.specs.Prelude.{ℕ, ◌≤◌, Bool, ◌≡◌, List, ℤ, length, Result}
use Rattle.answer.specs.Outcome.{Outcome, accepted, list_limit, found_of}
use Rattle.answer.specs.declared.Refused.{Refused}
use Rattle.records.specs.Reading.{Fitting}
use Rattle.records.specs.Writing.{Fits}
use Rattle.apa1_table.specs.Table.{Row, decode, rows, encode}

-- an accepted list for which both columns have room
pub record Fillable (o : Outcome (List Row)) (os : List ℕ) (us : List ℤ) : Type 0 where
  pub fitting : Fitting o (length os)
  pub same : length os ≡ length us

-- two columns of a list within its limit
pub record Listed (os : List ℕ) (us : List ℤ) : Type 0 where
  pub same : length os ≡ length us
  pub few : length os ≤ list_limit

-- f is what the first pass finds of two columns, whose elements it has seen: each is in its type's range, so that the table reads back
pub record Measures (os : List ℕ) (us : List ℤ) (f : Result ℕ Refused) : Type 0 where
  pub found : f ≡ found_of (encode (rows os us))
  pub back : (strict : Bool) (b : List ℕ) → encode (rows os us) ≡ accepted b → decode strict b ≡ accepted (rows os us)

-- bytes that two columns have, and room for them at a place
pub record Puttable (o : Outcome (List ℕ)) (os : List ℕ) (us : List ℤ) (buffer : List ℕ) (at : ℕ) : Type 0 where
  pub same : length os ≡ length us
  pub fits : Fits o buffer at
