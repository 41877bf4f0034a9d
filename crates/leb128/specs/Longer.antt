-- What a refusal 18 says: at its place stands a number that lax reading takes, in more bytes than the shortest form of its value has.
-- Assumes nothing.
use Rattle.std.specs.Prelude.{ℕ, ◌+◌, ◌<◌, ◌≡◌, List, length, ℤ}
use Rattle.leb128.specs.Number.{lax_unsigned, lax_signed, short_unsigned, short_signed}
use Rattle.leb128.specs.Number.{ok_at}

-- an unsigned number of B bits
pub record LongerUnsigned (B : ℕ) (s : List ℕ) (at : ℕ) : Type 0 where
  pub value : ℕ
  pub next : ℕ
  pub read : lax_unsigned B s at ≡ ok_at value next
  pub longer : at + length (short_unsigned value) < next

-- a signed one
pub record LongerSigned (B : ℕ) (s : List ℕ) (at : ℕ) : Type 0 where
  pub value : ℤ
  pub next : ℕ
  pub read : lax_signed B s at ≡ ok_at value next
  pub longer : at + length (short_signed value) < next
