-- APA1, the 64-bit packed table of offsets with addends: what its bytes say, and the bytes of its records.
-- Assumes nothing.
use Rattle.std.specs.Prelude.{ℕ, List, [], ◌∷◌, ◌++◌, map, Bool, false, cond, ℤ, pos, negsuc, ◌+ℤ◌, ◌-ℤ◌, length, Ok, Err}
use Rattle.std.specs.Int.Signed.{mag}
use Rattle.answer.specs.declared.Refusal.TheVariants.{Identifier, Width}
use Rattle.answer.specs.Outcome.{Outcome, input_limit, list_limit, limited, after, err_at}
use Rattle.leb128.specs.Number.{read_signed, short_signed, Unsigned, Signed, ok_at}
use Rattle.records.specs.Columns.{zipped}
use Rattle.records.specs.Identifier.{starts_with}
use Rattle.records.specs.Reading.{Step, one, none, counted}
use Rattle.records.specs.Writing.{Put, bytes, puts}
use Rattle.wrap.specs.Wrap.{residue, wrapped}
pub mod Laws
pub mod Setting

-- a record
pub record Row : Type 0 where
  pub offset : ℕ
  pub addend : ℤ

-- a record of its fields
abbrev pub row : ℕ → ℤ → Row
row o a = record { offset = o; addend = a }

-- both sums start at 0
abbrev pub start : Row
start = row 0 (pos 0)

-- "APA1"
abbrev pub identifier : List ℕ
identifier = 0x41 ∷ 0x50 ∷ 0x41 ∷ 0x31 ∷ []

-- ---- reading, by the setting: whether it is strict, so that a number longer than its shortest form is refused

-- the record whose differences are d and the number given, after the record before it: both sums wrap at 64 bits
unfoldable pub second_of : Row → ℤ → Signed → Step Row Row
second_of prev d (Ok (e, past)) =
    let x : Row = row (residue 64 (pos prev.offset +ℤ d)) (wrapped 64 (prev.addend +ℤ e)) in
    one x past x
second_of prev d (Err e) = none e.why e.place

-- the same from the number that is the offset's difference on
unfoldable pub first_of : Bool → List ℕ → Row → Signed → Step Row Row
first_of strict s prev (Ok (d, next)) = second_of prev d (read_signed strict 64 s next)
first_of strict s prev (Err e) = none e.why e.place

-- the record at a place: two signed numbers of 64 bits, the offset's difference and the addend's
unfoldable pub step_at : Bool → List ℕ → ℕ → Row → Step Row Row
step_at strict s at prev = first_of strict s prev (read_signed strict 64 s at)

-- a signed number that is not negative, as a count
unfoldable pub plain : Signed → Unsigned
plain (Ok (z, first)) = ok_at (mag z) first
plain (Err e) = Err e

-- a count, by lax reading and by the setting: it may not be negative, which is refused at its first byte, also where the number is padded
unfoldable pub count_of : Signed → Signed → Unsigned
count_of (Ok (pos n, first)) u = plain u
count_of (Ok (negsuc n, first)) u = err_at Width (length identifier)
count_of (Err e) u = Err e

-- the identifier and the count: a signed number of 64 bits
unfoldable pub head_at : Bool → List ℕ → Unsigned
head_at strict s =
    cond (starts_with identifier s) (count_of (read_signed false 64 s (length identifier)) (read_signed strict 64 s (length identifier))) (err_at Identifier 0)

-- what the bytes say, however many they are: the identifier, the count, and that many records
unfoldable pub parse : Bool → List ℕ → Outcome (List Row)
parse strict s = counted (step_at strict s) (length s) start (head_at strict s)

-- the list that a table decodes to, or its refusal: 2, then those along the stream
unfoldable pub decode : Bool → List ℕ → Outcome (List Row)
decode strict s = limited input_limit (length s) (parse strict s)

-- ---- writing

-- the records of two columns
unfoldable pub rows : List ℕ → List ℤ → List Row
rows os us = zipped (map row os) us

-- a record after the one before it: its differences, each wrapped to a signed number of 64 bits, in their shortest form
unfoldable pub entry_bytes : Row → Row → List ℕ
entry_bytes prev x = short_signed (wrapped 64 (pos x.offset -ℤ pos prev.offset)) ++ short_signed (wrapped 64 (x.addend -ℤ prev.addend))

-- every record has bytes
abbrev pub put_of : Row → Row → Put
put_of prev x = bytes (entry_bytes prev x)

-- the record behind which the next one stands
abbrev pub behind : Row → Row → Row
behind prev x = x

-- the identifier and the count of n records
unfoldable pub head_of : ℕ → List ℕ
head_of n = identifier ++ short_signed (pos n)

-- the table of a list, however long it is
unfoldable pub build : List Row → Outcome (List ℕ)
build l = after (head_of (length l)) (puts put_of behind 0 start l)

-- the bytes of the table that is written for a list, or refusal 2
unfoldable pub encode : List Row → Outcome (List ℕ)
encode l = limited list_limit (length l) (build l)
