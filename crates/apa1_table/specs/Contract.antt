-- What the calls promise.
-- Assumes nothing.
use Rattle.std.specs.Prelude.{ℕ, ◌≡◌, List, Bool, cond, eqb, ℤ, length, take}
use Rattle.answer.specs.declared.Answer.{Answer}
use Rattle.answer.specs.declared.Refusal.TheVariants.{Columns}
use Rattle.answer.specs.Outcome.{Outcome, accepted, refused, answer_in, filled, Gives}
use Rattle.apa1_table.specs.Table.{Row, decode, rows, encode}
pub mod Laws

-- what the column of offsets holds of a record
abbrev pub offset_of : Row → ℕ
offset_of x = x.offset

-- what the column of addends holds of it
abbrev pub addend_of : Row → ℤ
addend_of x = x.addend

-- the outcome of a read by a setting into columns of m and k elements: every refusal but 9
unfoldable pub decoding : Bool → List ℕ → ℕ → ℕ → Outcome (List Row)
decoding strict s m k = cond (eqb m k) (decode strict s) (refused Columns 0)

-- columns that held os and us hold os' and us': the fields of an outcome's records, or what they held
pub record Filled (o : Outcome (List Row)) (os : List ℕ) (us : List ℤ) (os' : List ℕ) (us' : List ℤ) : Type 0 where
  pub offsets : os' ≡ filled offset_of o os
  pub addends : us' ≡ filled addend_of o us

-- a read of the table s, strict or lax, into columns that held os and us: it answers r, and the columns hold os' and us'
pub record Reads (strict : Bool) (s os : List ℕ) (us : List ℤ) (r : Answer) (os' : List ℕ) (us' : List ℤ) : Type 0 where
  pub answer : r ≡ answer_in (length os) (decoding strict s (length os) (length us))
  pub columns : Filled (decoding strict s (length os) (length us)) os us os' us'

-- the outcome of a write of two columns: every refusal but 9
unfoldable pub encoding : List ℕ → List ℤ → Outcome (List ℕ)
encoding os us = cond (eqb (length os) (length us)) (encode (rows os us)) (refused Columns 0)

-- a write of two columns into bytes that held old: it answers r, and the bytes are new. Where it answers 0, the table decodes by either
-- setting to the records of the columns
pub record Writes (os : List ℕ) (us : List ℤ) (old : List ℕ) (r : Answer) (new : List ℕ) : Type 0 where
  pub gives : Gives (encoding os us) old r new
  pub back : (strict : Bool) → r.number ≡ 0 → decode strict (take r.count new) ≡ accepted (rows os us)
