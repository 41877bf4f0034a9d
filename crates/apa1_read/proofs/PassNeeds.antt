-- What both passes go by, as the code asks it: x is what the reader of a record returned.
-- Assumes nothing.
use Prim.Native.Nat.{ℕ, ◌+◌, ◌-◌, ◌≤◌, ◌<◌}
use mathlib.Core.Bool.{Bool}
use mathlib.Core.Path.{◌≡◌, ap, sym, ◌∙◌}
use mathlib.Core.List.{List, [], ◌∷◌, ◌++◌}
use native.Mathlib.Omega.{arith}
use lib.IntN.{ℤ, pos}
use lib.ListN.{length, set}
use Rattle.std.specs.Prelude.{Result, Ok, Err}
use Rattle.answer.specs.declared.Refusal.TheVariants.{Limit, Trailing}
use Rattle.answer.specs.declared.Refused.{Refused}
use Rattle.answer.specs.Outcome.{Outcome, input_limit, found_of, err_at}
use Rattle.answer.specs.Outcome.Laws.{accepted_refused, found_refused}
use Rattle.leb128.specs.Number.{ok_at}
use Rattle.records.specs.Columns.{Column}
use Rattle.records.specs.Columns.Laws.{column_none, column_next, column_same, column_filled}
use Rattle.records.specs.Reading.{records}
use Rattle.records.proofs.Reading.{Scanned, scanned_none, scanned_more, scanned_bad, scanned_end, scanned_over, Stored, stored_none, stored_within, stored_more, stored_in, stored_bad, stored_end, count_not}
use Rattle.records.specs.Reading.Laws.{counted_records, counted_not}
use Rattle.apa1_read.specs.declared.Entry.{Entry}
use Rattle.apa1_table.specs.Table.{Row, row, start, step_at, head_at, parse, decode}
use Rattle.apa1_table.specs.Table.Laws.{parse_is, decode_over, decode_in, decode_accepted}
use Rattle.apa1_table.specs.Contract.{offset_of, addend_of, Filled}
use Rattle.apa1_table.specs.Inner.{Fillable}
use Rattle.apa1_read.specs.Inner.{entry_step, Skips}

-- the records of a table that has so many from a place on
abbrev pub body : Bool → List ℕ → ℕ → ℕ → Outcome (List Row)
body strict s n first = records (step_at strict s) (length s) n first start

-- ---- the first pass: the records before a place led to some sums
pub record Walking (strict : Bool) (s : List ℕ) (n first left at : ℕ) : Type 0 where
  pub prev : Row
  pub scanned : Scanned (step_at strict s) (length s) (body strict s n first) n left at prev

pub walk_begin : (strict : Bool) (s : List ℕ) (n first : ℕ) → Walking strict s n first (n - 0) first
walk_begin strict s n first =
    let e : n - 0 ≡ n = omega arith in
    record { prev = start; scanned = rw e (scanned_none (step_at strict s) (length s) n first start) }

module _ {strict : Bool} {s : List ℕ} {n first i at : ℕ} (w : Walking strict s n first (n - i) at) where
  pub walk_more : {past : ℕ} → i < n → Skips strict s at (Ok past) → Walking strict s n first (n - (i + 1)) past
  walk_more h f =
      let (y, g) = f w.prev in
      let e : n - (i + 1) ≡ n - i - 1 = omega arith in
      record { prev = y; scanned = rw e (scanned_more w.scanned (omega arith) g) }

  pub walk_bad : {e : Refused} → i < n → Skips strict s at (Err e) → Err e ≡ found_of (body strict s n first)
  walk_bad h f = scanned_bad w.scanned (omega arith) (f w.prev)

  pub walk_end : n ≤ i → length s ≤ at → Ok n ≡ found_of (body strict s n first)
  walk_end h k = scanned_end w.scanned (omega arith) k

  pub walk_over : n ≤ i → at < length s → err_at Trailing at ≡ found_of (body strict s n first)
  walk_over h k = scanned_over w.scanned (omega arith) k

-- ---- the second pass
-- the records before a place stand in the columns, and w is the last addend
pub record Storing (strict : Bool) (s : List ℕ) (n first : ℕ) (os₀ : List ℕ) (us₀ : List ℤ) (os : List ℕ) (us : List ℤ) (left at o : ℕ) (w : ℤ) (i : ℕ) : Type 0 where
  pub list : List Row
  pub stored : Stored (step_at strict s) (length s) (body strict s n first) list left at (row o w) i
  pub offsets : Column offset_of list i os₀ os
  pub addends : Column addend_of list i us₀ us

pub store_begin : (strict : Bool) (s : List ℕ) (n first : ℕ) (os : List ℕ) (us : List ℤ) → Storing strict s n first os us os us (n - 0) first 0 (pos 0) 0
store_begin strict s n first os us =
    let e : n - 0 ≡ n = omega arith in
    record { list = []; stored = rw e (stored_none (step_at strict s) (length s) n first start); offsets = column_none offset_of os; addends = column_none addend_of us }

module _ {strict : Bool} {s : List ℕ} {n first : ℕ} {os₀ : List ℕ} {us₀ : List ℤ} {os : List ℕ} {us : List ℤ} {i at o : ℕ} {w : ℤ} (f : Fillable (body strict s n first) os₀ us₀) (g : Storing strict s n first os₀ us₀ os us (n - i) at o w i) where
  within : i ≤ length os₀
  within = stored_within f.fitting g.stored

  store_same : length os ≡ length os₀
  store_same = column_same g.offsets g.stored.long within

  store_same_2 : length us ≡ length us₀
  store_same_2 = column_same g.addends g.stored.long (omega (arith, within, f.same))

  pub store_bad : {e : Refused} → i < n → entry_step (Err e) ≡ step_at strict s at (row o w) → Filled (body strict s n first) os₀ us₀ os us
  store_bad h e = absurd (stored_bad f.fitting g.stored (omega arith) (sym e))

  module _ {x : Entry} (h : i < n) (e : entry_step (Ok x) ≡ step_at strict s at (row o w)) where
    old_in : i < length os₀
    old_in = stored_in f.fitting g.stored (omega arith) (sym e)

    pub store_in : i < length os
    store_in = omega (arith, old_in, store_same)

    pub store_in_2 : i < length us
    store_in_2 = omega (arith, old_in, store_same_2, f.same)

    pub store_more : Storing strict s n first os₀ us₀ (set os i x.offset) (set us i x.addend) (n - (i + 1)) x.past x.offset x.addend (i + 1)
    store_more =
        let k : n - (i + 1) ≡ n - i - 1 = omega arith in
        record {
          list = g.list ++ row x.offset x.addend ∷ [];
          stored = rw k (stored_more f.fitting g.stored (omega arith) (sym e));
          offsets = column_next g.offsets g.stored.long (row x.offset x.addend) old_in;
          addends = column_next g.addends g.stored.long (row x.offset x.addend) (omega (arith, old_in, f.same));
        }

  pub store_end : n ≤ i → Filled (body strict s n first) os₀ us₀ os us
  store_end h =
      let d = stored_end f.fitting g.stored (omega arith) in
      record {
        offsets = column_filled g.offsets g.stored.long d within;
        addends = column_filled g.addends g.stored.long d (omega (arith, within, f.same));
      }

-- ---- from the head on
module _ (strict : Bool) (s : List ℕ) where
  pub scan_not : {e : Refused} → Err e ≡ head_at strict s → Err e ≡ found_of (parse strict s)
  scan_not f = rw (parse_is strict s) (count_not (step_at strict s) (length s) start (sym f))

  module _ {n first : ℕ} (g : ok_at n first ≡ head_at strict s) where
    whole : parse strict s ≡ body strict s n first
    whole = parse_is strict s ∙ counted_records (step_at strict s) (length s) start (sym g)

    pub scan_is : {r : Result ℕ Refused} → r ≡ found_of (body strict s n first) → r ≡ found_of (parse strict s)
    scan_is e = e ∙ ap found_of (sym whole)

  module _ {os : List ℕ} {us : List ℤ} (f : Fillable (decode strict s) os us) where
    pub fill_not : {e : Refused} {os' : List ℕ} {us' : List ℤ} → Err e ≡ head_at strict s → Filled (decode strict s) os us os' us'
    fill_not g = absurd (accepted_refused (decode_accepted strict s f.fitting.is).1 (parse_is strict s ∙ counted_not (step_at strict s) (length s) start (sym g)))

    module _ {n first : ℕ} (g : ok_at n first ≡ head_at strict s) where
      all : decode strict s ≡ body strict s n first
      all = decode_in strict s (decode_accepted strict s f.fitting.is).0 ∙ whole g

      pub fill_able : Fillable (body strict s n first) os us
      fill_able = rw (← all) f

      pub fill_is : {os' : List ℕ} {us' : List ℤ} → Filled (body strict s n first) os us os' us' → Filled (decode strict s) os us os' us'
      fill_is h = rw all h

-- ---- the limit in front
pub check_over : (strict : Bool) (s : List ℕ) → input_limit < length s → err_at Limit 0 ≡ found_of (decode strict s)
check_over strict s h = sym (found_refused (decode_over strict s h))

pub check_in : (strict : Bool) (s : List ℕ) {r : Result ℕ Refused} → length s ≤ input_limit → r ≡ found_of (parse strict s) → r ≡ found_of (decode strict s)
check_in strict s h e = e ∙ ap found_of (sym (decode_in strict s h))
