-- Reading as it was before document 02's §6, without a setting: the definitions from before, over the number readers that take padded numbers. (To
-- the letter, but that a number is an Ok where it is read and an Err where it is refused.)
-- Assumes nothing.
use Rattle.std.specs.Prelude.{ℕ, ◌+◌, ◌%◌, ◌^◌, List, ◌≡◌, cond, leb, eqb, ℤ, pos, negsuc, ◌+ℤ◌, length}
use Rattle.answer.specs.declared.Answer.{Answer}
use Rattle.answer.specs.declared.Refusal.TheVariants.{Identifier, Width, Space, Columns}
use Rattle.answer.specs.Outcome.{Outcome, refused, input_limit, limited, answer_in, Gives}
use Rattle.leb128.specs.Number.{lax_unsigned, lax_signed}
use Rattle.records.specs.Identifier.{starts_with}
use Rattle.records.specs.Reading.{Step, one, none, records, counted}
use Rattle.wrap.specs.Wrap.{residue, wrapped}
use Rattle.apr1_table.specs.Table as apr1
use Rattle.apa1_table.specs.Table as apa1
use Rattle.apa1_table.specs.Contract as apa1-contract
use Rattle.relleb_table.specs.Table as relleb
use Rattle.relleb_table.specs.Contract as relleb-contract
use Rattle.word.specs.Class.{width_of, class_of, in_class}
use Rattle.std.specs.Prelude.{Ok, Err}
use Rattle.answer.specs.Outcome.{err_at}
use Rattle.leb128.specs.Number.{Unsigned, Signed, ok_at}

-- ---- APR1

-- the pair at a place: two unsigned numbers of 32 bits
unfoldable pub pair_first : List ℕ → ℕ → ℕ → Unsigned → Step ℕ apr1.Pair
pair_first s at x (Ok (c, next)) = apr1.second_of at x c (lax_unsigned 32 s next)
pair_first s at x (Err e) = none e.why e.place

unfoldable pub pair_at : List ℕ → ℕ → ℕ → Step ℕ apr1.Pair
pair_at s at x = pair_first s at x (lax_unsigned 32 s at)

-- A, the first offset, at a place, and then n pairs
unfoldable pub with_first : List ℕ → ℕ → ℕ → Unsigned → Outcome (List ℕ)
with_first s n at (Ok (a, first)) = cond (leb a apr1.last) (apr1.joined a (records (pair_at s) (length s) n first a)) (refused Space at)
with_first s n at (Err e) = refused e.why e.place

-- N, the number of pairs, and then the first offset
unfoldable pub with_count : List ℕ → Unsigned → Outcome (List ℕ)
with_count s (Ok (n, next)) = with_first s n next (lax_unsigned 32 s next)
with_count s (Err e) = refused e.why e.place

-- the list that a table decodes to, or its refusal
unfoldable pub apr1_decode : List ℕ → Outcome (List ℕ)
apr1_decode s =
    limited input_limit (length s) (cond (starts_with apr1.identifier s) (with_count s (lax_unsigned 32 s (length apr1.identifier))) (refused Identifier 0))

-- `read` of the table s answers r, and leaves `new` in a column that held `old`
abbrev pub Apr1Reads : List ℕ → List ℕ → Answer → List ℕ → Type 0
Apr1Reads s old r new = Gives (apr1_decode s) old r new

-- ---- APA1

-- the record at a place: two signed numbers of 64 bits
unfoldable pub row_first : List ℕ → apa1.Row → Signed → Step apa1.Row apa1.Row
row_first s prev (Ok (d, next)) = apa1.second_of prev d (lax_signed 64 s next)
row_first s prev (Err e) = none e.why e.place

unfoldable pub row_at : List ℕ → ℕ → apa1.Row → Step apa1.Row apa1.Row
row_at s at prev = row_first s prev (lax_signed 64 s at)

-- a count, which may not be negative: that is refused at its first byte
unfoldable pub count_of : Signed → Unsigned
count_of (Ok ((pos n), first)) = ok_at n first
count_of (Ok ((negsuc n), first)) = err_at Width (length apa1.identifier)
count_of (Err e) = Err e

-- the list that a table decodes to, or its refusal
unfoldable pub apa1_decode : List ℕ → Outcome (List apa1.Row)
apa1_decode s =
    limited input_limit (length s)
    (counted (row_at s) (length s) apa1.start (cond (starts_with apa1.identifier s) (count_of (lax_signed 64 s (length apa1.identifier))) (err_at Identifier 0)))

-- the outcome of a read into columns of m and k elements: every refusal but 9
unfoldable pub apa1_decoding : List ℕ → ℕ → ℕ → Outcome (List apa1.Row)
apa1_decoding s m k = cond (eqb m k) (apa1_decode s) (refused Columns 0)

-- a read of the table s into columns that held os and us: it answers r, and the columns hold os' and us'
pub record Apa1Reads (s os : List ℕ) (us : List ℤ) (r : Answer) (os' : List ℕ) (us' : List ℤ) : Type 0 where
  pub answer : r ≡ answer_in (length os) (apa1_decoding s (length os) (length us))
  pub columns : apa1-contract.Filled (apa1_decoding s (length os) (length us)) os us os' us'

-- ---- RELLEB

-- a record whose addend's difference is the number given
unfoldable pub with_addend : ℕ → ℤ → ℕ → ℕ → ℕ → Signed → Step relleb.State relleb.Row
with_addend W base o t y (Ok (e, past)) = let a : ℤ = wrapped W (base +ℤ e) in one (relleb.row o t y a) past (relleb.state o t a)
with_addend W base o t y (Err e) = none e.why e.place

-- the symbol field
unfoldable pub with_symbol : ℕ → List ℕ → ℤ → ℕ → ℕ → Signed → Step relleb.State relleb.Row
with_symbol W s base o t (Ok ((pos y), next)) = one (relleb.row o t y base) next (relleb.state o t base)
with_symbol W s base o t (Ok ((negsuc y), next)) = with_addend W base o t y (lax_signed W s next)
with_symbol W s base o t (Err e) = none e.why e.place

-- the type's difference
unfoldable pub with_type : ℕ → List ℕ → relleb.State → ℕ → Signed → Step relleb.State relleb.Row
with_type W s prev o (Ok (d, next)) = with_symbol W s prev.addend o (residue 32 (pos prev.type +ℤ d)) (lax_signed 33 s next)
with_type W s prev o (Err e) = none e.why e.place

-- the offset's difference
unfoldable pub with_offset : ℕ → List ℕ → relleb.State → Unsigned → Step relleb.State relleb.Row
with_offset W s prev (Ok (d, next)) = with_type W s prev ((prev.offset + d) % 2 ^ W) (lax_signed 32 s next)
with_offset W s prev (Err e) = none e.why e.place

-- the record at a place
unfoldable pub record_at : ℕ → List ℕ → ℕ → relleb.State → Step relleb.State relleb.Row
record_at W s at prev = with_offset W s prev (lax_unsigned W s at)

-- the list that a table decodes to, or its refusal
unfoldable pub relleb_decode : ℕ → List ℕ → Outcome (List relleb.Row)
relleb_decode W s = limited input_limit (length s) (counted (record_at W s) (length s) relleb.start (lax_unsigned 64 s 0))

-- the outcome of a read in a class into columns of a, b, c and d elements: every refusal but 9
unfoldable pub relleb_decoding : ℕ → List ℕ → ℕ → ℕ → ℕ → ℕ → Outcome (List relleb.Row)
relleb_decoding class s a b c d = in_class (class_of class) λ z. cond (relleb-contract.even a b c d) (relleb_decode (width_of z) s) (refused Columns 0)

-- a read of the table s into columns that held os, ts, ys and us: it answers r, and the columns hold os', ts', ys' and us'
pub record RellebReads (class : ℕ) (s os ts ys : List ℕ) (us : List ℤ) (r : Answer) (os' ts' ys' : List ℕ) (us' : List ℤ) : Type 0 where
  pub answer : r ≡ answer_in (length os) (relleb_decoding class s (length os) (length ts) (length ys) (length us))
  pub columns : relleb-contract.Filled (relleb_decoding class s (length os) (length ts) (length ys) (length us)) os ts ys us os' ts' ys' us'
