-- What the inner functions promise.
-- Assumes nothing.
use Rattle.std.specs.Prelude.{ℕ, ◌+◌, ◌≤◌, ◌<◌, ◌≡◌, List, length, Result, Ok, Err}
use Rattle.std.proofs.lemmas.List.Edits.{sets}
use Rattle.answer.specs.declared.Refused.{Refused}
use Rattle.answer.specs.Outcome.{refused, list_limit}
use Rattle.apr1_table.specs.Table.{last, pair_bytes, build, Rising, Writable, encode}
use Rattle.apr1_write.specs.declared.Need.{Need}
use Rattle.apr1_table.specs.Inner.{pairs_in, table_in}

-- a run may be counted: its first offset and its gap are inside the space
pub record Countable (l : List ℕ) (i y d : ℕ) : Type 0 where
  pub within : i ≤ length l
  pub low : y ≤ last
  pub step : d ≤ last

-- a list that is neither empty nor too long
pub record Sizable (l : List ℕ) : Type 0 where
  pub some : 0 < length l
  pub few : length l ≤ list_limit

-- what the first pass finds in such a list
abbrev pub SizesIn : List ℕ → Result Need Refused → Type 0
SizesIn l (Ok t) = (t.pairs ≡ length (pairs_in l)) × (t.bytes ≡ length (table_in l)) × Rising 0 l
SizesIn l (Err e) = build l ≡ refused e.why e.place

-- what is found in any list: the number of its pairs and the bytes of its table, or its refusal
abbrev pub Sizes : List ℕ → Result Need Refused → Type 0
Sizes l (Ok t) = (t.pairs ≡ length (pairs_in l)) × (t.bytes ≡ length (table_in l)) × Writable l
Sizes l (Err e) = encode l ≡ refused e.why e.place

-- a list that can be written, and room for its pairs at a place
pub record Puttable (l table : List ℕ) (at : ℕ) : Type 0 where
  pub writable : Writable l
  pub room : at + length (pair_bytes (pairs_in l)) ≤ length table

-- the pairs' bytes stand at a place
abbrev pub PairsPut : List ℕ → List ℕ → List ℕ → ℕ → Type 0
PairsPut l old new at = new ≡ sets old at (pair_bytes (pairs_in l))

-- a list that can be written, the number of its pairs, and room for its table
pub record Encodable (l table : List ℕ) (n : ℕ) : Type 0 where
  pub writable : Writable l
  pub pairs : n ≡ length (pairs_in l)
  pub room : length (table_in l) ≤ length table

-- the table stands at the front
abbrev pub TablePut : List ℕ → List ℕ → List ℕ → Type 0
TablePut l old new = new ≡ sets old 0 (table_in l)
