-- What the inner functions promise.
-- Assumes nothing.
use Rattle.std.specs.Prelude.{◌≡◌, ℕ, suc, ◌+◌, ◌-◌, ◌*◌, ◌/◌, ◌%◌, ◌^◌, ◌<◌, ◌≤◌, Bool, true, false, cond, Result, Ok, Err, Option, Some, None, List, [], ◌∷◌, ◌++◌, length, drop, ◌==◌, nat_lt}
use Rattle.answer.specs.declared.Refusal.{Refusal}
use Rattle.answer.specs.declared.Refusal.TheVariants.{Order, Space, Odd}
use Rattle.word.specs.declared.Class.{Class}
use Rattle.word.specs.Class.{bytes_of, window_of}
use Rattle.word.specs.Word.{bytes_of_words}
use Rattle.relr_table.specs.Words.{Where, nowhere, from, falls, write, table, Legal}
use Rattle.relr_write.specs.declared.packer.Packed.{Packed}
use Rattle.relr_write.specs.declared.packer.Packed.TheVariants.{Joined, Flushed, Alone}
use Rattle.relr_write.specs.declared.packer.Pending.{Pending}
use Rattle.relr_write.specs.declared.Rest.{Rest}
use Rattle.relr_table.specs.Table.{space_of, table_bytes}
use Rattle.relr_table.specs.Place.{Place, Stands}

-- an even place is not far above an offset
abbrev pub Near : Place → ℕ → Type 0
Near p x = p % 2 ≡ 0 → p ≤ x + 1024

-- whether x falls on a location of the bitmap that starts at *where* w
abbrev pub falls_at : Class → Where → ℕ → Bool
falls_at k nowhere x = false
falls_at k (from v) x = falls (bytes_of k) (window_of k) v x

-- the location of x in the bitmap at *where* w
abbrev pub Located : Class → Where → ℕ → Option ℕ → Type 0
Located k w x (Some j) = (v : ℕ) × (w ≡ from v) × (falls (bytes_of k) (window_of k) v x ≡ true) × (j ≡ (x - v) / bytes_of k)
Located k w x None = falls_at k w x ≡ false

-- the same at a place
abbrev pub LocatedAt : Class → Place → ℕ → Option ℕ → Type 0
LocatedAt k p x r = (w : Where) → Stands k w p → Located k w x r

-- a location is an index below 63
abbrev pub Small : Option ℕ → Type 0
Small (Some j) = j < 63
Small None = Unit {0}

-- where the bitmap after the one at a place starts
abbrev pub ForwardFrom : Class → Place → Place → Type 0
ForwardFrom k p r = (v : ℕ) → Stands k (from v) p → Stands k (from (v + window_of k * bytes_of k)) r

-- the words for the offsets l, where the bitmap b that starts at *where* w is pending, or, if b is 0, where the next would start there
abbrev pub words_for : Class → Where → ℕ → List ℕ → List ℕ
words_for k nowhere b l = table (bytes_of k) (window_of k) l
words_for k (from v) b l = write (bytes_of k) (window_of k) l v b

-- the bits of a pending bitmap stand below each location that is not below lo
abbrev pub Bits : Class → ℕ → Where → ℕ → Type 0
Bits k lo nowhere b = b ≡ 0
Bits k lo (from v) b = (m : ℕ) × (m ≤ window_of k) × (b < 2 ^ m) × ((j : ℕ) → lo ≤ v + j * bytes_of k → m ≤ j)

-- what is pending at *where* w, after offsets below lo
pub record Holding (k : Class) (lo : ℕ) (w : Where) (p : Place) (b : ℕ) : Type 0 where
  pub stands : Stands k w p
  pub near : Near p lo
  pub bits : Bits k lo w b

-- the offset x, after which q is pending, adds the words `out`
pub record Adds (k : Class) (w : Where) (b x : ℕ) (out : List ℕ) (q : Pending) : Type 0 where
  pub v : Where
  pub holding : Holding k (suc x) v q.place q.bits
  pub is : (l : List ℕ) → words_for k w b (x ∷ l) ≡ out ++ words_for k v q.bits l

-- before the offset x the word y is written, and then nothing is pending
pub record Precedes (k : Class) (lo : ℕ) (w : Where) (b x y : ℕ) (q : Pending) : Type 0 where
  pub some : 0 < b
  pub none : q.bits ≡ 0
  pub v : Where
  pub holding : Holding k lo v q.place 0
  pub is : (l : List ℕ) → words_for k w b (x ∷ l) ≡ y ∷ words_for k v 0 (x ∷ l)

-- what the offset x does
abbrev pub Acts : Class → ℕ → Where → Pending → ℕ → Packed → Type 0
Acts k lo w p x (Joined q) = (q.place ≡ p.place) × (0 < q.bits) × Adds k w p.bits x [] q
Acts k lo w p x (Flushed y q) = Precedes k lo w p.bits x y q
Acts k lo w p x (Alone q) = (p.bits ≡ 0) × (q.bits ≡ 0) × Adds k w p.bits x (x ∷ []) q

-- the same, whatever is pending
pub record Packs (k : Class) (p : Pending) (x : ℕ) (r : Packed) : Type 0 where
  pub acts : (w : Where) (lo : ℕ) → Holding k lo w p.place p.bits → lo ≤ x → Acts k lo w p x r

-- what is wrong with an offset of which `least` is the least allowed, as `checked` looks for it
abbrev pub fault_of : Class → ℕ → ℕ → Result (Unit {0}) Refusal
fault_of k x least = cond (x % 2 == 1) (Err Odd) (cond (nat_lt (space_of k) (x + bytes_of k)) (Err Space) (cond (nat_lt x least) (Err Order) (Ok tt)))

-- the words of a bitmap that is pending at the end
abbrev pub end_of : ℕ → List ℕ
end_of b = cond (nat_lt 0 b) ((2 * b + 1) ∷ []) []

-- a list that the first pass accepted, and room for its table
pub record Encodable (k : Class) (l old : List ℕ) : Type 0 where
  pub legal : Legal (bytes_of k) (space_of k) 0 l
  pub room : length (table_bytes k l) ≤ length old

-- room for bytes at a place
abbrev pub Room : ℕ → ℕ → List ℕ → Type 0
Room at n old = at + n ≤ length old

-- after the second pass the buffer holds words at its front, up to a place, which with the bitmap that is pending are the table
pub record Leaves (k : Class) (l old : List ℕ) (r : Rest) (new : List ℕ) : Type 0 where
  pub out : List ℕ
  pub so : table (bytes_of k) (window_of k) l ≡ out ++ end_of r.bits
  pub small : r.bits < 2 ^ 63
  pub place : r.at ≡ length (bytes_of_words k out)
  pub held : new ≡ bytes_of_words k out ++ drop r.at old
