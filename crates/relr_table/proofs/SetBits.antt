-- A bitmap's set bits from the lowest up: counting ones gives how many locations there are, and counting trailing zeros the next.
-- Assumes nothing.
use mathlib.Core.Bool.{true, cond}
use mathlib.Core.List.{List, [], ◌∷◌, ◌++◌, append_assoc, append-nil}
use mathlib.Core.Path.{◌≡◌, refl, sym, ap, ◌∙◌}
use Prim.Native.Nat.{ℕ, zero, suc, ◌+◌, ◌-◌, ◌*◌, ◌/◌, ◌%◌, ◌^◌, ◌≤◌, ◌<◌}
use native.Mathlib.Nat.{mul-le-mul_left, mul_assoc, mul_comm, pow-suc}
use native.Mathlib.Omega.{arith}
use lib.Bits.{bit_and, and_block, and_shifted, and_self, and_le_r}
use lib.Count.{ones, ones-le, ones_step, count_trailing_zeros, trailing_le}
use lib.Dec.{eqb}
use lib.ListN.{length, length-append}
use lib.Pow.{pow_pos, pow-add, shr-shr}
use mir.Syntax.{w64}
use mir.Val.{Fits}
use Rattle.word.specs.declared.Class.{Class}
use Rattle.word.specs.Class.{bytes_of, window_of}
use Rattle.word.specs.Class.Laws.{bytes_least, bytes_most}
use Rattle.relr_table.specs.Words.{marked, fit}
use Rattle.relr_table.specs.Table.{space_of}
use Rattle.relr_table.specs.Inner.{marks_of}
use Rattle.relr_table.proofs.Marked.{marked_none, marked_zero}
use Rattle.relr_table.proofs.Steps.{marked_set, marked_clear}
use Rattle.relr_table.proofs.Passed.{fit_at, space_most}

-- ---- counting
-- as many locations as ones
pub marked_ones : (c n b at : ℕ) → b < 2 ^ n → length (marked c n b at) ≡ ones b
unfolding marked ones
marked_ones c zero b at h = let e : b ≡ 0 = omega arith in rw e
marked_ones c (suc n) b at h = go (b % 2) refl (marked_ones c n (b / 2) (at + c) (omega arith))
  where
    go : (d : ℕ) → b % 2 ≡ d → length (marked c n (b / 2) (at + c)) ≡ ones (b / 2)
        → length (cond (eqb (b % 2) 1) (at ∷ marked c n (b / 2) (at + c)) (marked c n (b / 2) (at + c))) ≡ ones b
    go zero e ih = rw (ones_step b, e) (omega (arith, ih))
    go (suc zero) e ih = rw (ones_step b, e) (omega (arith, ih))
    go (suc (suc d)) e ih = absurd (omega arith)

-- the count, as a loop over words asks
pub ones_are : (set : ℕ) {r : ℕ} → r ≡ ones set → (c n anchor : ℕ) → set < 2 ^ n → r ≡ length (marked c n set anchor)
ones_are set e c n anchor h = e ∙ sym (marked_ones c n set anchor h)

pub ones_fit : (set : ℕ) → set < 2 ^ 64 → Fits w64 (ones set)
ones_fit set h = record { fits = omega (arith, ones-le 64 set h) }

-- ---- the lowest set bit
-- the number whose lowest set bit is bit t, with h above it
abbrev lowest : ℕ → ℕ → ℕ
lowest t h = h * 2 ^ suc t + 2 ^ t

shifted : (t h : ℕ) → h * 2 ^ suc t ≡ 2 * (h * 2 ^ t)
shifted t h = ap (λ (x : ℕ). h * x) (pow-suc 2 t) ∙ sym (mul_assoc h (2 ^ t) 2) ∙ mul_comm (h * 2 ^ t) 2

halved : (t h : ℕ) → lowest (suc t) h ≡ 2 * lowest t h
halved t h = omega (arith, shifted (suc t) h)

-- a number that is not 0 has one
lowest_of : (n b : ℕ) → (b ≡ 0 → ⊥) → b < 2 ^ n → (t : ℕ) × (h : ℕ) × (t < n) × (b ≡ lowest t h)
lowest_of zero b p q = absurd (p (omega arith))
lowest_of (suc n) b p q = go (b % 2) refl (λ p q. lowest_of n (b / 2) p q)
  where
    go : (d : ℕ) → b % 2 ≡ d → ((b / 2 ≡ 0 → ⊥) → b / 2 < 2 ^ n → (t : ℕ) × (h : ℕ) × (t < n) × (b / 2 ≡ lowest t h)) → (t : ℕ) × (h : ℕ) × (t < suc n) × (b ≡ lowest t h)
    go zero e ih = let (t, h, l, f) = ih (λ z. p (omega arith)) (omega arith) in (suc t, h, omega arith, omega (arith, halved t h))
    go (suc d) e ih = (0, b / 2, omega arith, omega arith)

-- its trailing zeros are those below that bit
trailing_is : (n t h : ℕ) → t < n → count_trailing_zeros n (lowest t h) ≡ t
unfolding count_trailing_zeros
trailing_is zero t h l = absurd (omega arith)
trailing_is (suc n) zero h l = let e : lowest 0 h % 2 ≡ 1 = omega arith in rw e
trailing_is (suc n) (suc t) h l =
    let e : lowest (suc t) h % 2 ≡ 0 = omega (arith, halved t h) in
    let f : lowest (suc t) h / 2 ≡ lowest t h = omega (arith, halved t h) in
    rw (e, f) (ap suc (trailing_is n t h (omega arith)))

-- the lowest set bit cleared
clear_lowest : (t h : ℕ) → bit_and (lowest t h) (lowest t h - 1) ≡ h * 2 ^ suc t
clear_lowest t h =
    let p : 0 < 2 ^ t = pow_pos t in
    let f : lowest t h - 1 ≡ h * 2 ^ suc t + (2 ^ t - 1) = omega arith in
    let one : 2 ^ t ≡ 1 * 2 ^ t = omega arith in
    let g : bit_and (2 ^ t) (2 ^ t - 1) ≡ 0 = ap (λ (x : ℕ). bit_and x (2 ^ t - 1)) one ∙ and_shifted 1 t (2 ^ t - 1) (omega arith) in
    ap (bit_and (lowest t h)) f ∙ and_block (suc t) h h (2 ^ t) (2 ^ t - 1) (omega arith) (omega arith) ∙ rw (and_self, g) (omega arith)

-- ---- stepping
-- the location of the lowest set bit comes first, then those of the bits above it
pub marked_lowest : (c n t h at : ℕ) → t < n → marked c n (lowest t h) at ≡ (at + t * c) ∷ marked c n (h * 2 ^ suc t) at
marked_lowest c zero t h at l = absurd (omega arith)
marked_lowest c (suc n) zero h at l =
    let e : lowest 0 h / 2 ≡ h = omega arith in
    let f : h * 2 ^ 1 / 2 ≡ h = omega arith in
    let a : at + 0 * c ≡ at = omega arith in
    marked_set c n (lowest 0 h) at (omega arith) ∙ rw (e, a, marked_clear c n (h * 2 ^ 1) at (omega arith), f)
marked_lowest c (suc n) (suc t) h at l =
    let e : lowest (suc t) h / 2 ≡ lowest t h = omega (arith, halved t h) in
    let f : h * 2 ^ suc (suc t) / 2 ≡ h * 2 ^ suc t = omega (arith, shifted (suc t) h) in
    let a : at + c + t * c ≡ at + suc t * c = omega arith in
    marked_clear c n (lowest (suc t) h) at (omega (arith, halved t h))
    ∙ rw (e, marked_lowest c n t h (at + c) (omega arith), a, marked_clear c n (h * 2 ^ suc (suc t)) at (omega (arith, shifted (suc t) h)), f)

-- from the bits of a bitmap to those without the lowest, which is bit t
pub record Next (k : Class) (anchor bits t rest : ℕ) : Type 0 where
  pub within : t < window_of k
  pub less : rest < bits
  pub marks : marks_of k bits anchor ≡ (anchor + t * bytes_of k) ∷ marks_of k rest anchor

next_lowest : (k : Class) (anchor t h : ℕ) → t < window_of k → Next k anchor (lowest t h) t (h * 2 ^ suc t)
next_lowest k anchor t h l = record { within = l; less = omega (arith, pow_pos t); marks = marked_lowest (bytes_of k) (window_of k) t h anchor l }

-- by trailing zeros
pub next_zeros : (k : Class) (anchor bits : ℕ) → (bits ≡ 0 → ⊥) → bits < 2 ^ window_of k → Next k anchor bits (count_trailing_zeros 64 bits) (bit_and bits (bits - 1))
next_zeros k anchor bits nz small =
    let (t, h, l, e) = lowest_of (window_of k) bits nz small in
    rw (e, trailing_is 64 t h (omega (arith, bytes_most k)), clear_lowest t h) (next_lowest k anchor t h l)

-- in a bitmap whose bits are all set, from one bit to the one above it
pub next_full : (k : Class) (anchor j : ℕ) → j < window_of k → Next k anchor (2 ^ window_of k - 2 ^ j) j (2 ^ window_of k - 2 ^ (j + 1))
next_full k anchor j l =
    let m = window_of k - (j + 1) in
    let h = 2 ^ m - 1 in
    let n : window_of k ≡ m + suc j = omega arith in
    let w : 2 ^ window_of k ≡ 2 ^ m * 2 ^ suc j = ap (λ (x : ℕ). 2 ^ x) n ∙ pow-add 2 m (suc j) in
    let o : 0 < 2 ^ m = pow_pos m in
    let d : 2 ^ m * 2 ^ suc j ≡ h * 2 ^ suc j + 2 ^ suc j = ap (λ (x : ℕ). x * 2 ^ suc j) (the_suc o) ∙ omega arith in
    let t : 2 ^ suc j ≡ 2 * 2 ^ j = omega arith in
    let a : 2 ^ window_of k - 2 ^ j ≡ lowest j h = omega arith in
    let s : 2 ^ (j + 1) ≡ 2 ^ suc j = ap (λ (x : ℕ). 2 ^ x) (omega arith) in
    let b : 2 ^ window_of k - 2 ^ (j + 1) ≡ h * 2 ^ suc j = omega arith in
    rw (a, b) (next_lowest k anchor j h l)
  where
    the_suc : {x : ℕ} → 0 < x → x ≡ (x - 1) + 1
    the_suc h = omega arith

pub full_none : (k : Class) (j : ℕ) → j ≡ window_of k → 2 ^ window_of k - 2 ^ j ≡ 0
full_none k j e = rw e (omega arith)

-- ---- inside a word: the locations passed, and the bits left where they stand
pub record Left (k : Class) (anchor set bits : ℕ) (p : List ℕ) : Type 0 where
  pub small : bits < 2 ^ window_of k
  pub marks : marks_of k set anchor ≡ p ++ marks_of k bits anchor

pub left_begin : (k : Class) (anchor set : ℕ) → set < 2 ^ window_of k → Left k anchor set set []
left_begin k anchor set h = record { small = h; marks = refl }

pub left_end : {k : Class} {anchor set bits : ℕ} {p : List ℕ} → Left k anchor set bits p → bits ≡ 0 → marks_of k set anchor ≡ p
left_end {k} {anchor} {p = p} l z = l.marks ∙ rw (z, marked_zero (bytes_of k) (window_of k) anchor) (append-nil p)

module _ {k : Class} {anchor set bits t rest : ℕ} {p : List ℕ} (l : Left k anchor set bits p) (n : Next k anchor bits t rest) where
  pub left_head : marks_of k set anchor ≡ p ++ (anchor + t * bytes_of k) ∷ marks_of k rest anchor
  left_head = l.marks ∙ rw n.marks

  pub left_next : Left k anchor set rest (p ++ (anchor + t * bytes_of k) ∷ [])
  left_next = record { small = omega (arith, n.less, l.small); marks = left_head ∙ sym (append_assoc p ((anchor + t * bytes_of k) ∷ []) _) }

  pub left_more : length p + 1 ≤ length (marks_of k set anchor)
  left_more = omega (arith, ap length left_head, length-append p ((anchor + t * bytes_of k) ∷ marks_of k rest anchor))

  -- where all locations of the word fit
  module _ (f : fit (bytes_of k) (space_of k) (marks_of k set anchor) ≡ true) where
    pub left_in : anchor + t * bytes_of k + bytes_of k ≤ space_of k
    left_in = fit_at (bytes_of k) (space_of k) _ p (marks_of k rest anchor) (sym (ap (fit (bytes_of k) (space_of k)) left_head) ∙ f)

    pub left_fits : Fits w64 (anchor + t * bytes_of k)
    left_fits = record { fits = omega (arith, left_in, space_most k, bytes_least k) }

-- ---- a bitmap location by location: those passed of the first j, and the bits from there on
pub record Through (k : Class) (anchor set j : ℕ) (p : List ℕ) : Type 0 where
  pub within : j ≤ window_of k
  pub few : length p ≤ j
  pub marks : marks_of k set anchor ≡ p ++ marked (bytes_of k) (window_of k - j) (set / 2 ^ j) (anchor + j * bytes_of k)

pub through_begin : (k : Class) (anchor set : ℕ) → Through k anchor set 0 []
through_begin k anchor set =
    let a : anchor + 0 * bytes_of k ≡ anchor = omega arith in
    let b : set / 2 ^ 0 ≡ set = omega arith in
    let e : window_of k - 0 ≡ window_of k = omega arith in
    record { within = omega arith; few = omega arith; marks = rw (a, b, e) }

module _ {k : Class} {anchor set j : ℕ} {p : List ℕ} (t : Through k anchor set j p) where
  pub through_end : window_of k ≤ j → marks_of k set anchor ≡ p
  through_end h =
      let e : window_of k - j ≡ 0 = omega arith in
      t.marks ∙ rw (e, marked_none (bytes_of k) (set / 2 ^ j) (anchor + j * bytes_of k)) (append-nil p)

  module _ (l : j < window_of k) where
    one_more : window_of k - j ≡ suc (window_of k - (j + 1))
    one_more = omega arith

    half : set / 2 ^ j / 2 ≡ set / 2 ^ (j + 1)
    half = shr-shr set j 1

    on : anchor + j * bytes_of k + bytes_of k ≡ anchor + (j + 1) * bytes_of k
    on = omega arith

    pub through_clear : set / 2 ^ j % 2 ≡ 0 → Through k anchor set (j + 1) p
    through_clear e =
        record {
          within = omega arith;
          few = omega (arith, t.few);
          marks = t.marks ∙ rw (one_more, marked_clear (bytes_of k) (window_of k - (j + 1)) (set / 2 ^ j) (anchor + j * bytes_of k) e, half, on);
        }

    module _ (e : set / 2 ^ j % 2 ≡ 1) where
      pub through_head : marks_of k set anchor ≡ p ++ (anchor + j * bytes_of k) ∷ marked (bytes_of k) (window_of k - (j + 1)) (set / 2 ^ (j + 1)) (anchor + (j + 1) * bytes_of k)
      through_head = t.marks ∙ rw (one_more, marked_set (bytes_of k) (window_of k - (j + 1)) (set / 2 ^ j) (anchor + j * bytes_of k) e, half, on)

      pub through_set : Through k anchor set (j + 1) (p ++ (anchor + j * bytes_of k) ∷ [])
      through_set =
          record {
            within = omega arith;
            few = omega (arith, t.few, length-append p ((anchor + j * bytes_of k) ∷ []));
            marks = through_head ∙ sym (append_assoc p ((anchor + j * bytes_of k) ∷ []) _);
          }

      pub through_fits : fit (bytes_of k) (space_of k) (marks_of k set anchor) ≡ true → anchor + j * bytes_of k < 2 ^ 64
      through_fits f =
          let h = fit_at (bytes_of k) (space_of k) _ p _ (sym (ap (fit (bytes_of k) (space_of k)) through_head) ∙ f) in
          omega (arith, h, space_most k, bytes_least k)

-- ---- as the loops ask
-- the distance stays small
pub far_small : (k : Class) (j : ℕ) {c : ℕ} → j < window_of k → c ≡ bytes_of k → Fits w64 (j * c)
far_small k j {c} l ce = record { fits = omega (arith, ap (λ (x : ℕ). j * x) ce, mul-le-mul_left j (bytes_most k), bytes_most k) }

pub zeros_fit : (bits : ℕ) → Fits w64 (count_trailing_zeros 64 bits)
zeros_fit bits = record { fits = omega (arith, trailing_le 64 bits) }

pub zeros_far : (bits : ℕ) (k : Class) {c : ℕ} → c ≡ bytes_of k → Fits w64 (count_trailing_zeros 64 bits * c)
zeros_far bits k {c} ce = record { fits = omega (arith, ap (λ (x : ℕ). count_trailing_zeros 64 bits * x) ce, mul-le-mul_left (count_trailing_zeros 64 bits) (bytes_most k), trailing_le 64 bits) }

-- fewer bits are left
pub zeros_less : (bits : ℕ) → (bits ≡ 0 → ⊥) → bit_and bits (bits - 1) < bits
zeros_less bits nz = omega (arith, and_le_r bits (bits - 1), nz)

-- and one bit after another
module _ {j n : ℕ} (l : j < n) where
  pub run_bit : n < 2 ^ 64 → Fits w64 (j + 1)
  run_bit h = record { fits = omega arith }

  pub run_less : n - (j + 1) < n - j
  run_less = omega arith
