-- What both passes go by, as the code asks it. A loop has passed i records.
-- Assumes nothing.
use Prim.Native.Nat.{ℕ, ◌+◌, ◌-◌, ◌*◌, ◌^◌, ◌≤◌, ◌<◌}
use mathlib.Core.Path.{◌≡◌, ap, sym, ◌∙◌, subst}
use mathlib.Core.Bool.{Bool}
use mathlib.Core.List.{List, [], ◌∷◌, ◌++◌}
use native.Mathlib.Omega.{arith}
use lib.IntN.{ℤ, pos}
use lib.ListN.{length, set}
use mir.Syntax.{w64}
use mir.Val.{Fits}
use borrow.Author.Rules.{rules, scaled_Fits}
use Rattle.std.specs.Prelude.{Result, Ok, Err}
use Rattle.answer.specs.declared.Refusal.{Refusal}
use Rattle.answer.specs.declared.Refusal.TheVariants.{Limit, Trailing}
use Rattle.answer.specs.declared.Refused.{Refused}
use Rattle.answer.specs.Outcome.{Outcome, input_limit, err_at, found_of}
use Rattle.answer.specs.Outcome.Laws.{accepted_refused, found_refused}
use Rattle.leb128.specs.Number.{ok_at, read_unsigned}
use Rattle.records.specs.Columns.{Column}
use Rattle.records.specs.Columns.Laws.{column_none, column_next, column_filled}
use Rattle.records.specs.Reading.{one, none, records}
use Rattle.records.specs.Reading.Laws.{counted_records, counted_not}
use Rattle.records.proofs.Reading.{Scanned, scanned_none, scanned_more, scanned_bad, scanned_end, scanned_over, Stored, stored_none, stored_within, stored_more, stored_in, stored_bad, stored_end, count_not}
use Rattle.relleb_table.specs.Table.{Row, State, row, state, start, step_at, parse, decode}
use Rattle.relleb_table.specs.Table.Laws.{parse_is, decode_over, decode_in, decode_accepted}
use Rattle.relleb_table.specs.Contract.{offset_of, type_of, symbol_of, addend_of, Filled}
use Rattle.relleb_table.specs.Inner.{Fillable}
use Rattle.relleb_read.specs.Inner.{Skips}
use Rattle.relleb_read.proofs.EntryNeeds.{Bits}

-- the records of a table that has so many from a place on
abbrev pub body : Bool → ℕ → List ℕ → ℕ → ℕ → Outcome (List Row)
body strict W s n first = records (step_at strict W s) (length s) n first start

-- ---- the first pass: the records before a place led to some sums
pub record Walking (strict : Bool) (W : ℕ) (s : List ℕ) (n first i at : ℕ) : Type 0 where
  pub prev : State
  pub scanned : Scanned (step_at strict W s) (length s) (body strict W s n first) n (n - i) at prev

pub walk_begin : (strict : Bool) (W : ℕ) (s : List ℕ) (n first : ℕ) → Walking strict W s n first 0 first
walk_begin strict W s n first = let q : n - 0 ≡ n = omega arith in record { prev = start; scanned = rw q (scanned_none (step_at strict W s) (length s) n first start) }

module _ {strict : Bool} {W : ℕ} {s : List ℕ} {n first i at : ℕ} (g : Walking strict W s n first i at) where
  module _ (h : i < n) where
    pub walk_more : {past : ℕ} → Skips strict W s at (Ok past) → Walking strict W s n first (i + 1) past
    walk_more {past} e =
        let (y, next, f) = e g.prev in
        let q : n - i - 1 ≡ n - (i + 1) = omega arith in
        record { prev = next; scanned = subst (λ (m : ℕ). Scanned (step_at strict W s) (length s) (body strict W s n first) n m past next) q (scanned_more g.scanned (omega arith) f) }

    pub walk_bad : {e : Refused} → Skips strict W s at (Err e) → Err e ≡ found_of (body strict W s n first)
    walk_bad e = scanned_bad g.scanned (omega arith) (e g.prev)

  pub walk_end : n ≤ i → length s ≤ at → Ok n ≡ found_of (body strict W s n first)
  walk_end h k = scanned_end g.scanned (omega arith) k

  pub walk_over : n ≤ i → at < length s → err_at Trailing at ≡ found_of (body strict W s n first)
  walk_over h k = scanned_over g.scanned (omega arith) k

pub ruleset walks = (walk_begin, walk_more, walk_end, walk_over, rules)

-- ---- the second pass
-- the records before a place stand in the columns, and o, t and w are the last one's offset, type and addend
pub record Storing (strict : Bool) (W : ℕ) (s : List ℕ) (n first : ℕ) (os₀ ts₀ ys₀ : List ℕ) (us₀ : List ℤ) (os ts ys : List ℕ) (us : List ℤ) (at o t : ℕ) (w : ℤ) (i : ℕ) : Type 0 where
  pub list : List Row
  pub stored : Stored (step_at strict W s) (length s) (body strict W s n first) list (n - i) at (state o t w) i
  pub offsets : Column offset_of list i os₀ os
  pub types : Column type_of list i ts₀ ts
  pub symbols : Column symbol_of list i ys₀ ys
  pub addends : Column addend_of list i us₀ us

pub store_begin : (strict : Bool) (W : ℕ) (s : List ℕ) (n first : ℕ) (os ts ys : List ℕ) (us : List ℤ) → Storing strict W s n first os ts ys us os ts ys us first 0 0 (pos 0) 0
store_begin strict W s n first os ts ys us =
    let q : n - 0 ≡ n = omega arith in
    record {
      list = [];
      stored = rw q (stored_none (step_at strict W s) (length s) n first start);
      offsets = column_none offset_of os;
      types = column_none type_of ts;
      symbols = column_none symbol_of ys;
      addends = column_none addend_of us;
    }

module _ {strict : Bool} {W : ℕ} {s : List ℕ} {n first : ℕ} {os₀ ts₀ ys₀ : List ℕ} {us₀ : List ℤ} {os ts ys : List ℕ} {us : List ℤ} {at o t : ℕ} {w : ℤ} {i : ℕ} (f : Fillable (body strict W s n first) os₀ ts₀ ys₀ us₀) (g : Storing strict W s n first os₀ ts₀ ys₀ us₀ os ts ys us at o t w i) where
  module _ (h : i < n) where
    pub store_bad : {why : Refusal} {p : ℕ} → none why p ≡ step_at strict W s at (state o t w) → Filled (body strict W s n first) os₀ ts₀ ys₀ us₀ os ts ys us
    store_bad e = absurd (stored_bad f.fitting g.stored (omega arith) (sym e))

    module _ {o' t' y past : ℕ} {a : ℤ} (e : one (row o' t' y a) past (state o' t' a) ≡ step_at strict W s at (state o t w)) where
      old_in : i < length os₀
      old_in = stored_in f.fitting g.stored (omega arith) (sym e)

      pub store_in : length os ≡ length os₀ → i < length os
      store_in q = omega (arith, old_in)

      pub store_in_2 : length ts ≡ length ts₀ → i < length ts
      store_in_2 q = omega (arith, old_in, f.same.types)

      pub store_in_3 : length ys ≡ length ys₀ → i < length ys
      store_in_3 q = omega (arith, old_in, f.same.symbols)

      pub store_in_4 : length us ≡ length us₀ → i < length us
      store_in_4 q = omega (arith, old_in, f.same.addends)

      pub store_scaled : length os₀ * 8 < 2 ^ 63 → Fits w64 (i * 8)
      store_scaled q = scaled_Fits i (length os₀) 8 old_in q

      pub store_scaled_2 : length os₀ * 8 < 2 ^ 63 → Fits w64 (i * 4)
      store_scaled_2 q = record { fits = omega (arith, old_in) }

      pub store_more : Bits a ≡ a → Storing strict W s n first os₀ ts₀ ys₀ us₀ (set os i o') (set ts i t') (set ys i y) (set us i (Bits a)) past o' t' a (i + 1)
      store_more b =
          let l = g.stored.long in
          let z = row o' t' y a in
          let q : n - i - 1 ≡ n - (i + 1) = omega arith in
          record {
            list = g.list ++ z ∷ [];
            stored = rw (← q) (stored_more f.fitting g.stored (omega arith) (sym e));
            offsets = column_next g.offsets l z old_in;
            types = column_next g.types l z (omega (arith, old_in, f.same.types));
            symbols = column_next g.symbols l z (omega (arith, old_in, f.same.symbols));
            addends = rw b (column_next g.addends l z (omega (arith, old_in, f.same.addends)));
          }

  pub store_end : n ≤ i → Filled (body strict W s n first) os₀ ts₀ ys₀ us₀ os ts ys us
  store_end h =
      let d = stored_end f.fitting g.stored (omega arith) in
      let l = g.stored.long in
      let b = stored_within f.fitting g.stored in
      record {
        offsets = column_filled g.offsets l d b;
        types = column_filled g.types l d (omega (arith, b, f.same.types));
        symbols = column_filled g.symbols l d (omega (arith, b, f.same.symbols));
        addends = column_filled g.addends l d (omega (arith, b, f.same.addends));
      }

-- ---- from the count on
module _ (strict : Bool) (W : ℕ) (s : List ℕ) where
  pub scan_not : {e : Refused} → Err e ≡ read_unsigned strict 64 s 0 → Err e ≡ found_of (parse strict W s)
  scan_not f = rw (parse_is strict W s) (count_not (step_at strict W s) (length s) start (sym f))

  module _ {n first : ℕ} (e : ok_at n first ≡ read_unsigned strict 64 s 0) where
    whole : parse strict W s ≡ body strict W s n first
    whole = parse_is strict W s ∙ counted_records (step_at strict W s) (length s) start (sym e)

    pub scan_is : {r : Result ℕ Refused} → r ≡ found_of (body strict W s n first) → r ≡ found_of (parse strict W s)
    scan_is g = g ∙ ap found_of (sym whole)

  module _ {os ts ys : List ℕ} {us : List ℤ} (f : Fillable (decode strict W s) os ts ys us) where
    pub fill_not : {e : Refused} {os' ts' ys' : List ℕ} {us' : List ℤ} → Err e ≡ read_unsigned strict 64 s 0 → Filled (decode strict W s) os ts ys us os' ts' ys' us'
    fill_not g = absurd (accepted_refused (decode_accepted strict W s f.fitting.is).1 (parse_is strict W s ∙ counted_not (step_at strict W s) (length s) start (sym g)))

    module _ {n first : ℕ} (g : ok_at n first ≡ read_unsigned strict 64 s 0) where
      all : decode strict W s ≡ body strict W s n first
      all = decode_in strict W s (decode_accepted strict W s f.fitting.is).0 ∙ whole g

      pub fill_able : Fillable (body strict W s n first) os ts ys us
      fill_able = rw (← all) f

      pub fill_is : {os' ts' ys' : List ℕ} {us' : List ℤ} → Filled (body strict W s n first) os ts ys us os' ts' ys' us' → Filled (decode strict W s) os ts ys us os' ts' ys' us'
      fill_is h = rw all h

-- ---- the limit in front
pub check_over : (strict : Bool) (W : ℕ) (s : List ℕ) → input_limit < length s → err_at Limit 0 ≡ found_of (decode strict W s)
check_over strict W s h = sym (found_refused (decode_over strict W s h))

pub check_in : (strict : Bool) (W : ℕ) (s : List ℕ) {r : Result ℕ Refused} → length s ≤ input_limit → r ≡ found_of (parse strict W s) → r ≡ found_of (decode strict W s)
check_in strict W s h e = e ∙ ap found_of (sym (decode_in strict W s h))

pub ruleset checks = (check_over, check_in, rules)
