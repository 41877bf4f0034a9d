-- The needs of skimming, stated as the code asks them.
-- Assumes nothing.
use mathlib.Core.Bool.{Bool, true, false, ◌&&◌}
use mathlib.Core.List.{List, ◌++◌}
use mathlib.Core.Path.{◌≡◌, refl, sym, ap, subst, ◌∙◌}
use Prim.Native.Nat.{ℕ, suc, ◌+◌, ◌-◌, ◌*◌, ◌/◌, ◌%◌, ◌^◌, ◌≤◌, ◌<◌}
use native.Mathlib.Nat.{mul-le-mul_right, suc-mul}
use native.Mathlib.Omega.{arith}
use lib.ListN.{length, length-append}
use mir.Syntax.{w64}
use mir.Val.{Fits}
use borrow.Author.Rules.{rules}
use borrow.Author.Tests.{lt-ltb, ltb-true, le-leb, leb-true}
use lib.Dec.{leb, ltb, lit≤}
use Rattle.std.specs.Prelude.{Option, Some}
use Rattle.answer.proofs.Limits.{input_most}
use Rattle.word.specs.declared.Class.{Class}
use Rattle.word.specs.Class.{bytes_of, window_of}
use Rattle.word.specs.Class.Laws.{bytes_least, bytes_most, by_bytes}
use Rattle.word.specs.Word.{word_at}
use Rattle.relr_table.specs.Words.{Where, marked}
use Rattle.relr_table.specs.Table.{space_of, All}
use Rattle.relr_table.specs.Place.{Place, Stands, inside}
use Rattle.relr_table.specs.Inner.{marks_of, Marked, Whole, between}
use Rattle.relr_walk.specs.declared.skim.Passed.{Passed}
use Rattle.relr_walk.specs.declared.skim.Stepped.{Stepped}
use Rattle.relr_walk.specs.declared.skim.Stepped.TheVariants.{One, Many}
use Rattle.relr_walk.specs.Inner.{Scanned, Skimmable, Skims, Top, Fence, Cleared, Steps}
use Rattle.relr_walk.proofs.Leads.{leads_all}
use Rattle.relr_table.proofs.Marked.{On, all_map, marked_on, marked_most}
use Rattle.relr_table.proofs.PlaceNeeds.{one_mark, address_marks, bitmap_at, half_fits}
use Rattle.relr_table.proofs.SetBits.{ones_are, ones_fit}
use Rattle.relr_table.proofs.Passed.{all_fit, fit_one, standing_load, word_marked, word_done, step_fits, step_less, space_most}

-- ---- the two ends
module _ (low high x : ℕ) where
  -- the test, as a fact
  between_true : between low high x ≡ true → (low ≤ x) × (x < high)
  between_true e = go (leb low x) (ltb x high) refl refl e
    where
      go : (a b : Bool) → leb low x ≡ a → ltb x high ≡ b → (a && b) ≡ true → (low ≤ x) × (x < high)
      go true true f g h = (leb-true low x f, ltb-true x high g)
      go true false f g h = let z : ◌≡◌ {A = ℕ} 0 1 = cc in absurd (omega arith)
      go false b f g h = let z : ◌≡◌ {A = ℕ} 0 1 = cc in absurd (omega arith)

  true_between : low ≤ x → x < high → between low high x ≡ true
  true_between l h = rw (le-leb low x l) (lt-ltb x high h)

-- ---- a bitmap's locations, counted
pub ruleset tallies = (ones_are, ones_fit, rules)

-- ---- a word that lies between the two ends
-- each location of a bitmap is its anchor or more, and ends by the window's end
window_all : (k : Class) (anchor set top : ℕ) → anchor + window_of k * bytes_of k ≤ top → All (λ x. (anchor ≤ x) × (x + bytes_of k ≤ top)) (marks_of k set anchor)
window_all k anchor set top h =
    all_map (On (bytes_of k) (window_of k) anchor) (λ x. (anchor ≤ x) × (x + bytes_of k ≤ top))
    (λ x (j, l, e). (omega arith, omega (arith, mul-le-mul_right (bytes_of k) (more l), suc-mul j (bytes_of k))))
    (marks_of k set anchor) (marked_on (bytes_of k) (window_of k) set anchor)
  where
    more : {j n : ℕ} → j < n → suc j ≤ n
    more h = omega arith

-- a window is a word or more
window_some : (k : Class) → bytes_of k ≤ window_of k * bytes_of k
window_some = by_bytes (λ (n : ℕ). n ≤ (8 * n - 1) * n) (lit≤ tt) (lit≤ tt)

module _ {k : Class} {low high clear : ℕ} (f : Fence k high clear) where
  -- what is marked from an anchor between `low` and the fence
  clears : {w : Where} {x anchor bits n : ℕ} {next : Place} → Marked k w x anchor bits next → n ≡ length (marks_of k bits anchor) → between low clear anchor ≡ true
      → Cleared k low high w x n next
  clears {anchor = anchor} {bits = bits} m e b =
      let (la, lc) = between_true low clear anchor b in
      let (in_space, in-high) = f anchor lc in
      let l = marks_of k bits anchor in
      record {
        anchor = anchor;
        bits = bits;
        marked = m;
        counted = e;
        fits = all_fit (bytes_of k) (space_of k) l
            (all_map (λ y. (anchor ≤ y) × (y + bytes_of k ≤ space_of k)) (λ y. y + bytes_of k ≤ space_of k) (λ y z. z.1) l (window_all k anchor bits (space_of k) (omega arith)));
        each = all_map (λ y. (anchor ≤ y) × (y + bytes_of k ≤ high)) (λ y. between low high y ≡ true)
            (λ y z. true_between low high y (omega (arith, z.0)) (omega (arith, z.1, bytes_least k))) l (window_all k anchor bits high in-high);
      }

module _ (k : Class) (low clear : ℕ) {b : Bool} where
  pub step_address : {x c : ℕ} → x % 2 ≡ 0 → b ≡ between low clear x → b ≡ true → c ≡ bytes_of k → (p : Place) (high : ℕ) → Fence k high clear
      → Steps k low high p x (Some (One (x + c)))
  step_address {x} {c} even be was ce p high f w s =
      let t = sym be ∙ was in
      let (in_space, in-high) = f x (between_true low clear x t).1 in
      let r = space_of k - bytes_of k in
      clears f
      (address_marks k x r even (omega (arith, window_some k)) (omega (arith, window_some k)) ce (inside refl (omega (arith, window_some k))) w)
      (sym (ap length (one_mark k x))) t

  pub step_bitmap : {x d n : ℕ} {p : Place} → (x % 2 ≡ 0 → ⊥) → x < space_of k → b ≡ between low clear p → b ≡ true → d ≡ window_of k * bytes_of k
      → ((c m u : ℕ) → x / 2 < 2 ^ m → n ≡ length (marked c m (x / 2) u)) → (high : ℕ) → Fence k high clear → Steps k low high p x (Some (Many n (p + d)))
  step_bitmap {x} {d} {n} {p} odd small be was de tells high f w s =
      let t = sym be ∙ was in
      let (in_space, in-high) = f p (between_true low clear p t).1 in
      let r = space_of k - bytes_of k in
      let h = half_fits k x small in
      clears f
      (bitmap_at k p (x / 2) x (omega arith) refl {r = r} (omega (arith, window_some k)) (omega (arith, window_some k)) h de (inside refl (omega arith)) w s)
      (tells (bytes_of k) (window_of k) p h) t

pub ruleset steps = (step_address, step_bitmap, rules)

-- ---- an address nearer to the end than a window
module _ (k : Class) (low top clear : ℕ) {b : Bool} where
  pub near_address : {x c : ℕ} → x % 2 ≡ 0 → b ≡ between low top x → b ≡ true → c ≡ bytes_of k → (p : Place) (high : ℕ) → Top k high top → Fence k high clear
      → Steps k low high p x (Some (One (x + c)))
  near_address {x} {c} even be was ce p high t f w s =
      let (l, lt) = between_true low top x (sym be ∙ was) in
      let (in_space, in-high) = t x lt in
      let one = one_mark k x in
      record {
        anchor = x;
        bits = 1;
        marked = address_marks k x (space_of k - bytes_of k) even (omega arith) (omega arith) ce (inside refl (omega arith)) w;
        counted = sym (ap length one);
        fits = rw one (fit_one (bytes_of k) (space_of k) x (omega arith));
        each = rw one (true_between low high x l in-high, tt);
      }

pub ruleset nears = (near_address, rules)

-- the offsets passed are at most 64 for each word
module _ {k : Class} {s : List ℕ} {low high at count first : ℕ} {p : Place} (h : Scanned k s low high at p count first) where
  pub long : Whole k s → at ≤ length s + 8
  long w = go h.standing.left h.standing.long
    where
      go : (n : ℕ) → length s ≡ at + n * bytes_of k → at ≤ length s + 8
      go n e = omega arith

  pub scan_load : at < length s → at + bytes_of k ≤ length s
  scan_load l = standing_load h.standing l

  -- a step past a word that lies between the two ends
  module _ {x n : ℕ} {next : Place} (l : at < length s) (e : x ≡ word_at k s at) (o : (w : Where) → Stands k w p → Cleared k low high w x n next) where
    c : Cleared k low high h.standing.w x n next
    c = o h.standing.w h.standing.stands

    few_more : n ≤ window_of k
    few_more = omega (arith, c.counted, marked_most (bytes_of k) (window_of k) c.bits c.anchor)

    scan_step : Scanned k s low high (at + bytes_of k) next (count + n) first
    scan_step =
        let m = marks_of k c.bits c.anchor in
        record {
          list = h.list ++ m;
          standing = word_done (word_marked h.standing l e c.marked) c.fits;
          counted = omega (arith, c.counted, h.counted, length-append h.list m);
          lead = leads_all h.lead m c.each;
          few = omega (arith, few_more, bytes_most k, bytes_least k, h.few);
        }

    scan_sum : Whole k s → Fits w64 (count + n)
    scan_sum w = record { fits = omega (arith, few_more, bytes_most k, h.few, long w, w.few, input_most) }

-- ---- words that are skimmed
pub record Skimming (k : Class) (s : List ℕ) (low high at₀ : ℕ) (p₀ : Place) (count₀ at : ℕ) (p : Place) (count : ℕ) : Type 0 where
  pub ahead : at₀ ≤ at
  pub on : (first : ℕ) → Scanned k s low high at₀ p₀ count₀ first → Scanned k s low high at p count first

pub skim_begin : (k : Class) (s : List ℕ) (low high at : ℕ) (p : Place) (count : ℕ) → Skimming k s low high at p count at p count
skim_begin k s low high at p count = record { ahead = omega arith; on = λ first h. h }

module _ {k : Class} {s : List ℕ} {low high : ℕ} {from : Passed} (a : Skimmable k s low high from) {at count : ℕ} {p : Place} (g : Skimming k s low high from.at from.place from.count at p count) where
  now : Scanned k s low high at p count a.first
  now = g.on a.first a.scanned

  pub skim_load : at < length s → at + bytes_of k ≤ length s
  skim_load l = scan_load now l

  pub skim_end : Skims k s low high from (record { at = at; place = p; count = count })
  skim_end = record { ahead = g.ahead; on = g.on }

  -- a word that was passed
  further : {c x n : ℕ} {next : Place} → at < length s → x ≡ word_at k s at → ((w : Where) → Stands k w p → Cleared k low high w x n next) → c ≡ bytes_of k
      → Skimming k s low high from.at from.place from.count (at + c) next (count + n)
  further l e z ce = record { ahead = omega (arith, g.ahead); on = λ first h. rw ce (scan_step (g.on first h) l e z) }

  module _ {top clear x : ℕ} {next : Place} {r : Option Stepped} (l : at < length s) (e : x ≡ word_at k s at) (t : Top k high top) (f : Fence k high clear)
      (o : (high : ℕ) → Top k high top → Fence k high clear → Steps k low high p x r) where
    module _ {i : Stepped} (is : r ≡ Some i) (q : i ≡ One next) where
      one : (w : Where) → Stands k w p → Cleared k low high w x 1 next
      one = subst (Steps k low high p x) (is ∙ ap Some q) (o high t f)

      pub one_sum : Fits w64 (count + 1)
      one_sum = scan_sum now l e one a.whole

      pub one_on : {c : ℕ} → c ≡ bytes_of k → Skimming k s low high from.at from.place from.count (at + c) next (count + 1)
      one_on ce = further l e one ce

    module _ {i : Stepped} {n : ℕ} (is : r ≡ Some i) (q : i ≡ Many n next) where
      many : (w : Where) → Stands k w p → Cleared k low high w x n next
      many = subst (Steps k low high p x) (is ∙ ap Some q) (o high t f)

      pub many_sum : Fits w64 (count + n)
      many_sum = scan_sum now l e many a.whole

      pub many_on : {c : ℕ} → c ≡ bytes_of k → Skimming k s low high from.at from.place from.count (at + c) next (count + n)
      many_on ce = further l e many ce

pub ruleset skims = (skim_begin, skim_load, skim_end, one_sum, one_on, many_sum, many_on, step_fits, step_less, rules)
