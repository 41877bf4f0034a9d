-- The needs of one offset, stated as the code asks them: its fault, and what it does to the words of a table.
-- Assumes nothing.
use Rattle.std.proofs.Common.{◌≡◌, ℕ, suc, ◌+◌, ◌-◌, ◌*◌, ◌/◌, ◌%◌, ◌^◌, ◌<◌, ◌≤◌, Bool, true, false, cond, ◌&&◌, eqb, ltb, leb, List, [], ◌∷◌, sym, refl, ap, ◌∙◌, subst, lt_of_mul-lt-mul_right, mul-le-mul_left, div-add-mod', arith, pow_pos, pow_mono, shl_exact, w64, Fits, rules, ltb-false, le-ltb, lt-ltb, ne_eqb}
use native.Mathlib.Decide.{dec_lt, ℕ_discrete}
use borrow.Author.Tests.{eqb-false}
use Rattle.word.specs.declared.Class.{Class}
use Rattle.word.specs.Class.{bytes_of, window_of, InWords}
use Rattle.word.specs.Class.Laws.{bytes_least, bytes_most, by_bytes}
use Rattle.relr_table.specs.Words.{Where, nowhere, from, falls, bit, word, write, table}
use Rattle.relr_table.specs.Table.{space_of, checked}
use Rattle.relr_table.specs.Place.{Place, Beyond, Stands, inside, unset, past}
use Rattle.std.specs.Prelude.{Ok, Err, Option, Some, None}
use Rattle.relr_write.specs.declared.packer.Pending.{Pending}
use Rattle.relr_write.specs.declared.packer.Packed.TheVariants.{Joined, Flushed, Alone}
use Rattle.relr_write.specs.Inner.{Near, falls_at, Located, LocatedAt, Small, ForwardFrom, words_for, Bits, Holding, Adds, Precedes, Acts, Packs, fault_of}
use Rattle.relr_table.proofs.Marked.{falls_on, on_falls}
use Rattle.relr_table.proofs.Steps.{falls_low, write_join, write_flush, write_word}
use Rattle.relr_table.proofs.PlaceNeeds.{stands_inside}
use Rattle.relr_table.proofs.Checked.{checked_more}
use Rattle.answer.specs.declared.Refusal.{Refusal}
use Rattle.answer.specs.declared.Refusal.TheVariants.{Order, Space, Odd}
use Rattle.answer.specs.Outcome.{Outcome, refused}

-- ---- an offset's fault
-- what a clean offset is
pub record Sound (k : Class) (x least : ℕ) : Type 0 where
  pub even : x % 2 ≡ 0
  pub in_space : x + bytes_of k ≤ space_of k
  pub above : least ≤ x

pub sound : (k : Class) (x least : ℕ) → fault_of k x least ≡ Ok tt → Sound k x least
sound k x least e = go (eqb (x % 2) 1) refl (ltb (space_of k) (x + bytes_of k)) refl (ltb x least) refl e
  where
    go : (a : Bool) → eqb (x % 2) 1 ≡ a → (b : Bool) → ltb (space_of k) (x + bytes_of k) ≡ b → (c : Bool) → ltb x least ≡ c
        → cond a (Err Odd) (cond b (Err Space) (cond c (Err Order) (Ok (tt {0})))) ≡ Ok (tt {0}) → Sound k x least
    go true p b q c r f = let z : ◌≡◌ {A = ℕ} 0 1 = cc in absurd (omega arith)
    go false p true q c r f = let z : ◌≡◌ {A = ℕ} 0 1 = cc in absurd (omega arith)
    go false p false q true r f = let z : ◌≡◌ {A = ℕ} 0 1 = cc in absurd (omega arith)
    go false p false q false r f =
        let n : x % 2 ≡ 1 → ⊥ = eqb-false (x % 2) 1 p in
        record { even = even n; in_space = ltb-false (space_of k) (x + bytes_of k) q; above = ltb-false x least r }
      where
        even : (x % 2 ≡ 1 → ⊥) → x % 2 ≡ 0
        even n = elim (ℕ_discrete (x % 2) 0) [ yes z ↦ z | no z ↦ absurd (n (omega arith)) ]

pub checked_bad : (k : Class) (x least i : ℕ) (l : List ℕ) (o : Outcome (List ℕ)) {why : Refusal} → fault_of k x least ≡ Err why
    → checked (bytes_of k) (space_of k) i least (x ∷ l) o ≡ refused why i
unfolding checked
checked_bad k x least i l o {why} e = go (eqb (x % 2) 1) (ltb (space_of k) (x + bytes_of k)) (ltb x least) e
  where
    go : (a b c : Bool) → cond a (Err Odd) (cond b (Err Space) (cond c (Err Order) (Ok (tt {0})))) ≡ Err why
        → cond a (refused Odd i) (cond b (refused Space i) (cond c (refused Order i) (checked (bytes_of k) (space_of k) (suc i) (suc x) l o))) ≡ refused why i
    go true b c f = cc
    go false true c f = cc
    go false false true f = cc
    go false false false f = let z : ◌≡◌ {A = ℕ} 0 1 = cc in absurd (omega arith)

pub checked_clean : (k : Class) (x least i : ℕ) (l : List ℕ) (o : Outcome (List ℕ)) → Sound k x least
    → checked (bytes_of k) (space_of k) i least (x ∷ l) o ≡ checked (bytes_of k) (space_of k) (i + 1) (x + 1) l o
checked_clean k x least i l o h = checked_more (bytes_of k) (space_of k) i least x l o (λ z. absurd (omega (arith, h.even))) h.in_space h.above

-- ---- the location of an offset
and_false : (b : Bool) → (b && false) ≡ false
and_false true = refl
and_false false = refl

falls_rest : (c n v x : ℕ) → ((x - v) % c ≡ 0 → ⊥) → falls c n v x ≡ false
unfolding falls
falls_rest c n v x h = rw (ne_eqb ((x - v) % c) 0 h) (and_false (leb v x))

falls_far : (c n v x : ℕ) → n ≤ (x - v) / c → falls c n v x ≡ false
unfolding falls
falls_far c n v x h = rw (le-ltb ((x - v) / c) n h, and_false (eqb ((x - v) % c) 0)) (and_false (leb v x))

even_whole : (k : Class) (d : ℕ) → d % bytes_of k ≡ 0 → d % 2 ≡ 0
even_whole k d = by_bytes (λ (n : ℕ). d % n ≡ 0 → d % 2 ≡ 0) (λ h. omega arith) (λ h. omega arith) k

-- an offset of the space is below each number that is none
off_low : (k : Class) (p : Place) (x : ℕ) → x + bytes_of k ≤ space_of k → x < p → LocatedAt k p x None
off_low k p x h l w (inside e g) = rw e (falls_low (bytes_of k) (window_of k) p x l)
off_low k p x h l w (unset e f) = rw e
off_low k p x h l w (past v e g f) = rw e (falls_low (bytes_of k) (window_of k) v x (omega arith))

-- d is the distance from the place, wrapped, and j that in words
module _ (k : Class) (p : Place) (x d j n : ℕ) (h : x + bytes_of k ≤ space_of k) (de : (d + p) % 2 ^ 64 ≡ x) (tu : InWords k d j) (ne : n ≡ window_of k) where
  in_space : p ≤ x → p + bytes_of k ≤ space_of k
  in_space l = omega arith

  pub off_at : d < 2 ^ 64 → p < 2 ^ 64 → n ≤ j → LocatedAt k p x None
  off_at dl pl far = go (dec_lt x p)
    where
      high : p ≤ x → falls (bytes_of k) (window_of k) p x ≡ false
      high l =
          let e : x - p ≡ d = omega arith in
          elim (ℕ_discrete (d % bytes_of k) 0) [
            | yes z ↦ falls_far (bytes_of k) (window_of k) p x (rw e (omega (arith, tu.whole z)))
            | no z ↦ falls_rest (bytes_of k) (window_of k) p x (rw e z)
          ]

      go : Dec (x < p) → LocatedAt k p x None
      go (yes l) = off_low k p x h l
      go (no l) = λ w s. let g : p ≤ x = omega arith in rw (stands_inside (in_space g) s) (high g)

  module _ (even : x % 2 ≡ 0) (near : Near p x) (pl : p < 2 ^ 64) (on : j < n) where
    whole : d % bytes_of k ≡ 0
    whole = tu.part (omega arith)

    steps : d ≡ j * bytes_of k
    steps = omega (arith, div-add-mod' d (bytes_of k), whole, ap (λ (i : ℕ). i * bytes_of k) (tu.whole whole))

    small : d ≤ 504
    small = omega (arith, steps, mul-le-mul_left j (bytes_most k), bytes_most k)

    sum : x ≡ d + p
    sum = go (ℕ_discrete (p % 2) 0)
      where
        go : Dec (p % 2 ≡ 0) → x ≡ d + p
        go (yes z) = omega (arith, near z, small)
        go (no z) = absurd (omega (arith, even_whole k d whole))

    pub on_at : LocatedAt k p x (Some j)
    on_at w s =
        let l : p ≤ x = omega (arith, sum) in
        let e : x - p ≡ d = omega (arith, sum) in
        let q : (x - p) / bytes_of k ≡ j = rw e (sym (tu.whole whole)) in
        let y : x ≡ p + (x - p) / bytes_of k * bytes_of k = rw q (omega (arith, sum, steps)) in
        (p, stands_inside (in_space l) s, on_falls (bytes_of k) (window_of k) p x (omega (arith, bytes_least k)) ((x - p) / bytes_of k, rw q (omega arith), y), sym q)

-- the same as the code asks it
module _ (k : Class) (p : Place) (x j n : ℕ) (h : x + bytes_of k ≤ space_of k) (xl : x < 2 ^ 64) (pl : p < 2 ^ 64) (tu : InWords k ((x + (18446744073709551616 - p)) % 18446744073709551616) j)
    (ne : n ≡ window_of k) where
  abbrev d : ℕ
  d = (x + (18446744073709551616 - p)) % 18446744073709551616

  de : (d + p) % 2 ^ 64 ≡ x
  de = omega arith

  pub off_is : n ≤ j → LocatedAt k p x None
  off_is far = off_at k p x d j n h de tu ne (omega arith) pl far

  pub on_is : x % 2 ≡ 0 → Near p x → j < n → LocatedAt k p x (Some j)
  on_is even near on = on_at k p x d j n h de tu ne even near pl on

-- ---- the next bitmap; r is the last offset of the space
module _ (k : Class) (p r : ℕ) (h : r + bytes_of k ≡ space_of k) where
  pub forward_far : r < p → ForwardFrom k p Beyond
  forward_far l v (inside e g) = absurd (omega arith)
  forward_far l v (unset e f) = let z : ◌≡◌ {A = ℕ} 0 1 = cc in absurd (omega arith)
  forward_far l v (past u e g f) = let z : v ≡ u = cc in past (v + window_of k * bytes_of k) refl (omega arith) refl

  pub forward_at : {d : ℕ} (q : Place) → p ≤ r → d ≡ window_of k * bytes_of k → Stands k (from (p + d)) q → ForwardFrom k p q
  forward_at {d} q l f g v s =
      let a : p + bytes_of k ≤ space_of k = omega arith in
      let e : from v ≡ from p = stands_inside a s in
      let z : v ≡ p = cc in
      rw (z, ← f) g

-- ---- places near an offset
near_from : (k : Class) (v lo : ℕ) (q : Place) → Stands k (from v) q → v ≤ lo + 1024 → Near q lo
near_from k v lo q (inside e g) h = λ z. let f : v ≡ q = cc in omega arith
near_from k v lo q (unset e f) h = let z : ◌≡◌ {A = ℕ} 0 1 = cc in absurd (omega arith)
near_from k v lo q (past u e g f) h = λ z. absurd (omega arith)

stride_most : (k : Class) → window_of k * bytes_of k ≤ 504
stride_most = by_bytes (λ (n : ℕ). (8 * n - 1) * n ≤ 504) (omega arith) (omega arith)

-- ---- an offset joins the pending bitmap
pub window_most : (k : Class) → window_of k ≤ 63
window_most k = omega (arith, bytes_most k)

joined_bits : (k : Class) (v lo b x j : ℕ) → Bits k lo (from v) b → lo ≤ x → falls (bytes_of k) (window_of k) v x ≡ true → j ≡ (x - v) / bytes_of k → Bits k (suc x) (from v) (b + 2 ^ j)
joined_bits k v lo b x j (m, h, l, f) le fa je =
    let o = falls_on (bytes_of k) (window_of k) v x (omega (arith, bytes_least k)) fa in
    let xe : x ≡ v + j * bytes_of k = rw je o.2 in
    let mj : m ≤ j = f j (omega arith) in
    let bj : b < 2 ^ j = omega (arith, pow_mono mj) in
    (suc j, omega (arith, o.1), omega arith, λ i g. lt_of_mul-lt-mul_right (bytes_of k) (omega arith))

module _ (k : Class) (p : Pending) (x : ℕ) where
  join_from : (v lo j r : ℕ) → Holding k lo (from v) p.place p.bits → lo ≤ x → falls (bytes_of k) (window_of k) v x ≡ true → j ≡ (x - v) / bytes_of k → r ≡ 2 ^ j
      → Adds k (from v) p.bits x [] (record { place = p.place; bits = p.bits + r })
  unfolding bit
  join_from v lo j r h l f je re =
      record {
        v = from v;
        holding = record { stands = h.stands; near = λ e. omega (arith, h.near e); bits = rw re (joined_bits k v lo p.bits x j h.bits l f je) };
        is = λ m. write_join (bytes_of k) (window_of k) x m v p.bits f ∙ rw (re, je);
      }

  join_acts : (j r : ℕ) → LocatedAt k p.place x (Some j) → r ≡ 2 ^ j → (w : Where) (lo : ℕ) → Holding k lo w p.place p.bits → lo ≤ x
      → Acts k lo w p x (Joined (record { place = p.place; bits = p.bits + r }))
  join_acts j r o re w lo h l =
      let (v, e, f, je) = o w h.stands in
      let some : 0 < p.bits + r = omega (arith, pow_pos j) in (
        refl,
        some,
        subst (λ (u : Where). Adds k u p.bits x [] (record { place = p.place; bits = p.bits + r })) (sym e)
            (join_from v lo j r (subst (λ (u : Where). Holding k lo u p.place p.bits) e h) l f je re),
      )

-- ---- an offset is written itself
alone_bits : (k : Class) (x : ℕ) → Bits k (suc x) (from (x + bytes_of k)) 0
alone_bits k x = (0, omega arith, omega arith, λ j g. omega arith)

alone_words : (k : Class) (w : Where) (x : ℕ) (l : List ℕ) → falls_at k w x ≡ false → words_for k w 0 (x ∷ l) ≡ x ∷ write (bytes_of k) (window_of k) l (x + bytes_of k) 0
unfolding table
alone_words k nowhere x l e = refl
alone_words k (from v) x l e = write_word (bytes_of k) (window_of k) x l v e

alone_acts : (k : Class) (p : Pending) (q : Place) (c x : ℕ) → LocatedAt k p.place x None → p.bits ≤ 0 → c ≡ bytes_of k → Stands k (from (x + c)) q → (w : Where) (lo : ℕ)
    → Holding k lo w p.place p.bits → lo ≤ x → Acts k lo w p x (Alone (record { place = q; bits = 0 }))
alone_acts k p q c x o z ce s w lo h l =
    let be : p.bits ≡ 0 = omega arith in (
      be,
      refl,
      record {
        v = from (x + bytes_of k);
        holding = record { stands = rw ce at s; near = near_from k (x + c) (suc x) q s (omega (arith, bytes_most k)); bits = alone_bits k x };
        is = λ m. rw be (alone_words k w x m (o w h.stands));
      },
    )

-- ---- the pending bitmap is written first
module _ (k : Class) (p : Pending) (x : ℕ) (pos : 0 < p.bits) where
  some_from : (w : Where) (lo : ℕ) → Bits k lo w p.bits → (v : ℕ) × (w ≡ from v)
  some_from nowhere lo e = absurd (omega arith)
  some_from (from v) lo e = (v, refl)

  -- a bitmap with a bit starts below the offsets to come
  starts_low : (v lo : ℕ) → Bits k lo (from v) p.bits → v < lo
  starts_low v lo (m, h, l, f) = elim (dec_lt v lo) [ yes q ↦ q | no q ↦ absurd (none (omega (arith, f 0 (omega arith)))) ]
    where
      none : m ≡ 0 → ⊥
      none e = let g = rw e at l in omega arith

  flushed_words : (v : ℕ) (l : List ℕ) → falls (bytes_of k) (window_of k) v x ≡ false
      → write (bytes_of k) (window_of k) (x ∷ l) v p.bits ≡ (2 * p.bits + 1) ∷ write (bytes_of k) (window_of k) (x ∷ l) (v + window_of k * bytes_of k) 0
  unfolding word
  flushed_words v l e = write_flush (bytes_of k) (window_of k) x l v p.bits pos e

  module _ (next : Place) (fw : ForwardFrom k p.place next) where
    flush_from : (v lo : ℕ) → Holding k lo (from v) p.place p.bits → falls (bytes_of k) (window_of k) v x ≡ false
        → Precedes k lo (from v) p.bits x (2 * p.bits + 1) (record { place = next; bits = 0 })
    flush_from v lo h f =
        let st = fw v h.stands in
        record {
          some = pos;
          none = refl;
          v = from (v + window_of k * bytes_of k);
          holding = record { stands = st; near = near_from k (v + window_of k * bytes_of k) lo next st (omega (arith, starts_low v lo h.bits, stride_most k)); bits = (0, omega arith, omega arith, λ j g. omega arith) };
          is = λ m. flushed_words v m f;
        }

flush_acts : (k : Class) (p : Pending) (next : Place) (x : ℕ) → LocatedAt k p.place x None → 0 < p.bits → ForwardFrom k p.place next → (w : Where) (lo : ℕ)
    → Holding k lo w p.place p.bits → lo ≤ x → Acts k lo w p x (Flushed (2 * p.bits + 1) (record { place = next; bits = 0 }))
flush_acts k p next x o pos fw w lo h l =
    let (v, e) = some_from k p x pos w lo h.bits in
    subst (λ (u : Where). Precedes k lo u p.bits x (2 * p.bits + 1) (record { place = next; bits = 0 })) (sym e)
    (flush_from k p x pos next fw v lo (subst (λ (u : Where). Holding k lo u p.place p.bits) e h) (subst (λ (u : Where). falls_at k u x ≡ false) e (o w h.stands)))

-- as the code asks them
module _ (k : Class) (p : Pending) (x : ℕ) where
  pub join_is : (j r : ℕ) → LocatedAt k p.place x (Some j) → r ≡ 2 ^ j → Packs k p x (Joined (record { place = p.place; bits = p.bits + r }))
  join_is j r o e = record { acts = join_acts k p x j r o e }

  module _ (o : LocatedAt k p.place x None) where
    pub alone_is : (q : Place) (c : ℕ) → p.bits ≤ 0 → c ≡ bytes_of k → Stands k (from (x + c)) q → Packs k p x (Alone (record { place = q; bits = 0 }))
    alone_is q c z e s = record { acts = alone_acts k p q c x o z e s }

    pub flush_is : (next : Place) → 0 < p.bits → ForwardFrom k p.place next → Packs k p x (Flushed (2 * p.bits + 1) (record { place = next; bits = 0 }))
    flush_is next pos fw = record { acts = flush_acts k p next x o pos fw }

-- ---- small facts
pub small_on : (k : Class) (j n : ℕ) → n ≡ window_of k → j < n → Small (Some j)
small_on k j n e h = omega (arith, bytes_most k)

pub located_on : (k : Class) (p : Place) (x : ℕ) {r : Option ℕ} {j : ℕ} → LocatedAt k p x r → r ≡ Some j → LocatedAt k p x (Some j)
located_on k p x f e w s = subst (Located k w x) e (f w s)

pub located_off : (k : Class) (p : Place) (x : ℕ) {r : Option ℕ} → LocatedAt k p x r → r ≡ None → LocatedAt k p x None
located_off k p x f e w s = subst (Located k w x) e (f w s)

pub ruleset locating = (off_is, on_is, forward_far, forward_at, small_on, rules)

pub ruleset packing = (join_is, alone_is, flush_is, located_on, located_off, rules)
