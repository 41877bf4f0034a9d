-- The listing program: the whole text that it writes for its whole input.
-- Assumes nothing.
use Rattle.std.specs.Prelude.{ℕ, zero, suc, ◌+◌, ◌/◌, ◌%◌, Bool, true, false, cond, List, [], ◌∷◌, ◌++◌, map, ltb, leb, ℤ, pos, negsuc, length, drop, get_or, Option, Some, None}
use Rattle.answer.specs.declared.Refusal.TheVariants.{Class, Limit, Room}
use Rattle.answer.specs.Outcome.{number_of, Outcome, accepted, refused}
use Rattle.records.specs.Identifier.{starts_with}
use Rattle.word.specs.declared.ByteOrder.TheVariants.{Little}
use Rattle.relr_table.specs.Contract as relr
use Rattle.apr1_table.specs.Contract as apr1
use Rattle.apa1_table.specs.Table as apa1
use Rattle.relleb_table.specs.Table as relleb
use Rattle.relleb_table.specs.Table.{Row, row}
use Rattle.listing.specs.declared.kind.Kind.{Kind}
use Rattle.listing.specs.declared.kind.Kind.TheVariants.{Relr32, Relr64, Apr1, Apa1, Relleb32, Relleb64}
pub mod Laws

-- ---- decimal numbers

-- "-": the sign, and what stands for a field that a kind lacks
abbrev pub dash : List ℕ
dash = 45 ∷ []

-- the digits of a number, the highest first; f bounds the digits before the last
unfoldable pub digits_by : ℕ → ℕ → List ℕ
digits_by zero m = (48 + m) ∷ []
digits_by (suc f) m =
    let l : List ℕ = digits_by f (m / 10) ++ ((48 + m % 10) ∷ []) in
    cond (ltb m 10) ((48 + m) ∷ []) l

-- the shortest decimal form: a number has no more digits than its value, so that is bound enough
unfoldable pub decimal : ℕ → List ℕ
decimal m = digits_by m m

-- the same with a sign where the number is negative: negsuc n is - (n + 1)
unfoldable pub decimal_signed : ℤ → List ℕ
decimal_signed (pos n) = decimal n
decimal_signed (negsuc n) = dash ++ decimal (n + 1)

-- ---- the first line

abbrev pub feed : List ℕ
feed = 10 ∷ []

-- "relr32", "relr64", "apr1", "apa1", "relleb32", "relleb64"
abbrev pub name_of : Kind → List ℕ
name_of Relr32 = 114 ∷ 101 ∷ 108 ∷ 114 ∷ 51 ∷ 50 ∷ []
name_of Relr64 = 114 ∷ 101 ∷ 108 ∷ 114 ∷ 54 ∷ 52 ∷ []
name_of Apr1 = 97 ∷ 112 ∷ 114 ∷ 49 ∷ []
name_of Apa1 = 97 ∷ 112 ∷ 97 ∷ 49 ∷ []
name_of Relleb32 = 114 ∷ 101 ∷ 108 ∷ 108 ∷ 101 ∷ 98 ∷ 51 ∷ 50 ∷ []
name_of Relleb64 = 114 ∷ 101 ∷ 108 ∷ 108 ∷ 101 ∷ 98 ∷ 54 ∷ 52 ∷ []

-- the line that names a kind, with its line feed
abbrev pub line_of : Kind → List ℕ
line_of k = name_of k ++ feed

-- the kind whose line an input starts with, and otherwise what is said of the rest
abbrev pub tried : Kind → List ℕ → Option Kind → Option Kind
tried k s rest = cond (starts_with (line_of k) s) (Some k) rest

-- what the first line of an input says: the kind that it names, or that it names none or has no line feed
unfoldable pub first_line : List ℕ → Option Kind
first_line s =
    tried Relr32 s (tried Relr64 s (tried Apr1 s (tried Apa1 s (tried Relleb32 s (tried Relleb64 s None)))))

-- ---- the records of a table, each with the same four fields; one that its kind lacks is 0, and is not printed

-- whether a kind has a type and a symbol
abbrev pub has_type : Kind → Bool
has_type Relr32 = false
has_type Relr64 = false
has_type Apr1 = false
has_type Apa1 = false
has_type Relleb32 = true
has_type Relleb64 = true

-- whether a kind has an addend
abbrev pub has_addend : Kind → Bool
has_addend Relr32 = false
has_addend Relr64 = false
has_addend Apr1 = false
has_addend Apa1 = true
has_addend Relleb32 = true
has_addend Relleb64 = true

-- an offset alone
abbrev pub offset_row : ℕ → Row
offset_row x = row x 0 0 (pos 0)

-- an offset with its addend
abbrev pub pair_row : apa1.Row → Row
pair_row x = row x.offset 0 0 x.addend

-- an outcome's records in another form
unfoldable pub mapped : {A B : Type 0} → (A → B) → Outcome (List A) → Outcome (List B)
mapped f (accepted l) = accepted (map f l)
mapped f (refused why p) = refused why p

-- what a table says, by its kind; numbers may be padded
unfoldable pub rows_of : Kind → List ℕ → Outcome (List Row)
rows_of Relr32 s = mapped offset_row (relr.decoding 4 Little s)
rows_of Relr64 s = mapped offset_row (relr.decoding 8 Little s)
rows_of Apr1 s = mapped offset_row (apr1.decoding false s)
rows_of Apa1 s = mapped pair_row (apa1.decode false s)
rows_of Relleb32 s = relleb.decode false 32 s
rows_of Relleb64 s = relleb.decode false 64 s

-- ---- the lines

abbrev pub tab : List ℕ
tab = 9 ∷ []

-- "no", "offset", "type", "symbol", "addend"
abbrev pub header : List ℕ
header =
    110 ∷ 111 ∷ 9 ∷ 111 ∷ 102 ∷ 102 ∷ 115 ∷ 101 ∷ 116 ∷ 9 ∷ 116 ∷ 121 ∷ 112 ∷ 101 ∷ 9 ∷ 115 ∷ 121 ∷ 109 ∷ 98 ∷ 111 ∷ 108 ∷ 9 ∷ 97 ∷ 100 ∷ 100 ∷ 101 ∷ 110 ∷ 100 ∷ 10 ∷ []

-- "refused"
abbrev pub refused_word : List ℕ
refused_word = 114 ∷ 101 ∷ 102 ∷ 117 ∷ 115 ∷ 101 ∷ 100 ∷ 9 ∷ []

-- a field behind a tab, or "-" where it is not there
unfoldable pub field : Bool → List ℕ → List ℕ
field true t = tab ++ t
field false t = tab ++ dash

-- the line of the record with an index
unfoldable pub row_text : Kind → ℕ → Row → List ℕ
row_text k i x =
    decimal i
    ++ field true (decimal x.offset)
    ++ field (has_type k) (decimal x.type)
    ++ field (has_type k) (decimal x.symbol)
    ++ field (has_addend k) (decimal_signed x.addend)
    ++ feed

-- the lines of a list, the first of which has the index i
unfoldable pub rows_from : Kind → ℕ → List Row → List ℕ
rows_from k i [] = []
rows_from k i (x ∷ l) = row_text k i x ++ rows_from k (suc i) l

-- the line of a refusal
unfoldable pub refusal_text : ℕ → ℕ → List ℕ
refusal_text n p = refused_word ++ decimal n ++ tab ++ decimal p ++ feed

-- the most bytes of a table, and the most records
abbrev pub table_limit : ℕ
table_limit = 16384

abbrev pub record_limit : ℕ
record_limit = 1024

-- the bytes of an input that its text depends on: the longest first line, and one byte more than the most of a table
abbrev pub held_bytes : ℕ
held_bytes = 16394

-- the room that every text has enough of: a header of 29 bytes, and at most 1,024 lines of at most 109
abbrev pub text_room : ℕ
text_room = 131072

-- the text for what a table says
unfoldable pub printed : Kind → Outcome (List Row) → List ℕ
printed k (accepted l) = cond (leb (length l) record_limit) (header ++ rows_from k 0 l) (refusal_text (number_of Room) 0)
printed k (refused why p) = refusal_text (number_of why) p

-- the text for a table
unfoldable pub table_text : Kind → List ℕ → List ℕ
table_text k t = cond (leb (length t) table_limit) (printed k (rows_of k t)) (refusal_text (number_of Limit) 0)

-- the text for an input whose first line is known
unfoldable pub text_after : Option Kind → List ℕ → List ℕ
text_after (Some k) s = table_text k (drop (length (line_of k)) s)
text_after None s = refusal_text (number_of Class) 0

-- the text for an input
unfoldable pub text_of : List ℕ → List ℕ
text_of s = text_after (first_line s) s

-- ---- by columns

-- the record at an index of four columns
abbrev pub row_at : List ℕ → List ℕ → List ℕ → List ℤ → ℕ → Row
row_at os ts ys us i = row (get_or os i 0) (get_or ts i 0) (get_or ys i 0) (get_or us i (pos 0))

-- the lines of the first n records of four columns
unfoldable pub rows_to : Kind → List ℕ → List ℕ → List ℕ → List ℤ → ℕ → List ℕ
rows_to k os ts ys us zero = []
rows_to k os ts ys us (suc n) = rows_to k os ts ys us n ++ row_text k n (row_at os ts ys us n)
