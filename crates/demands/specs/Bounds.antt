-- How large a number of an answer can be, by the limits' names.
-- Assumes nothing.
use Rattle.std.specs.Prelude.{ℕ, ◌+◌, ◌-◌, ◌*◌, ◌/◌, ◌^◌, ◌≤◌, ◌<◌, List}
use Rattle.answer.specs.declared.Answer.{Answer}
use Rattle.answer.specs.Outcome.{input_limit, list_limit}
use Rattle.records.specs.Columns.{Each}
use Rattle.word.specs.declared.Size.{Size}
use Rattle.std.specs.Prelude.{Option}
use Rattle.std.specs.Prelude.{Some, None}
use Rattle.word.specs.Class.{size_of, width_of}

-- ---- the longest lists that are read
-- RELR: every word a bitmap that marks its whole window
abbrev pub relr_offsets : Size → ℕ
relr_offsets z = input_limit / size_of z * (width_of z - 1)

-- APR1: the first offset, and those of pairs of two bytes with the largest C
abbrev pub apr1_offsets : ℕ
apr1_offsets = 1 + input_limit / 2 * (2 ^ 32 - 1)

-- APA1: records of two bytes
abbrev pub apa1_records : ℕ
apa1_records = input_limit / 2

-- RELLEB: records of three
abbrev pub relleb_records : ℕ
relleb_records = input_limit / 3

-- ---- the longest tables that are written
-- RELR: a word for each offset
abbrev pub relr_bytes : Size → ℕ
relr_bytes z = size_of z * list_limit

-- APR1: the identifier, N and A in 14 bytes, and a pair of 10 for each offset but the first
abbrev pub apr1_bytes : ℕ
apr1_bytes = 4 + 10 * list_limit

-- APA1: the identifier and the count in 14 bytes, and 20 for each record
abbrev pub apa1_bytes : ℕ
apa1_bytes = 14 + 20 * list_limit

-- RELLEB: the count in 10 bytes, and 30 for each record
abbrev pub relleb_bytes : ℕ
relleb_bytes = 10 + 30 * list_limit

-- a class's bound; where a number names no class, nothing is read or written
abbrev pub in_named : (Size → ℕ) → Option Size → ℕ
in_named f (Some z) = f z
in_named f None = 0

-- a column of u32
abbrev pub U32 : List ℕ → Type 0
U32 l = Each (λ (n : ℕ). n < 2 ^ 32) l

-- ---- an answer
-- its place is at most P and its count at most n, which are below 2^64
pub record Within (P n : ℕ) (r : Answer) : Type 0 where
  pub place : r.place ≤ P
  pub count : r.count ≤ n
  pub place_fits : P < 2 ^ 64
  pub count_fits : n < 2 ^ 64

-- that of a write: as many bytes as it wrote, or as it needs, can be read
pub record Readable (P n : ℕ) (r : Answer) : Type 0 where
  pub within : Within P n r
  pub readable : r.count ≤ input_limit
