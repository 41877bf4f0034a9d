-- When a number is longer than its shortest form, and what the setting makes of what was read.
-- Assumes nothing.
use mathlib.Core.Path.{◌≡◌, refl, sym, ap, ap₂, ◌∙◌}
use mathlib.Core.Bool.{Bool, true, false, cond}
use mathlib.Core.List.{List, [], ◌∷◌}
use Prim.Native.Nat.{ℕ, zero, suc, ◌+◌, ◌-◌, ◌*◌, ◌/◌, ◌^◌, ◌≤◌, ◌<◌}
use native.Mathlib.Decide.{dec_lt, ℕ_discrete}
use native.Mathlib.Nat.{mul_assoc, mul-le-mul_right}
use native.Mathlib.Omega.{arith}
use borrow.Author.Rules.{rules}
use borrow.Author.Tests.{lt-ltb, le-ltb, ltb-true, ltb-false, leb-true, leb-false, eq-eqb, ne_eqb}
use lib.Dec.{ltb, leb, eqb, lit<}
use lib.Arith.{digits_lt}
use lib.ListN.{length, get_or, drop}
use lib.Seq.{get_or-drop}
use lib.IntN.{ℤ}
use lib.Signed.{mag}
use mir.Syntax.{w64}
use mir.Val.{Fits}
use Rattle.answer.specs.Bytes.{Bytes, bytes_drop}
use Rattle.answer.specs.declared.Refusal.{Refusal}
use Rattle.answer.specs.declared.Refusal.TheVariants.{Padded}
use Rattle.leb128.specs.Number.{got, more, raw, lax_unsigned, signed, lax_signed, short, short_unsigned, is_neg, short_signed, padded, unpadded_unsigned, unpadded_signed, read_unsigned, read_signed}
use Rattle.leb128.specs.Inner.{Ending, Standing}
use Rattle.leb128.proofs.Reading.{signed_pos, signed_neg, next_le, rest_of}
use Rattle.leb128.proofs.RoundTrip.{pow_suc7}
use Rattle.leb128.proofs.Writing.{short_some, short_le, short_gt}
use Rattle.answer.specs.Outcome.{err_at}
use Rattle.leb128.specs.Number.{ok_at}

-- ---- a form of n bytes against the shortest
pub padded_not : (t : Bool) (l : List ℕ) (n : ℕ) → n ≤ length l → padded t l n ≡ false
padded_not false l n h = refl
padded_not true l n h = le-ltb (length l) n h

pub padded_more : (t : Bool) (l : List ℕ) (n : ℕ) → padded t l n ≡ true → length l < n
padded_more false l n e = let z : ◌≡◌ {A = ℕ} 0 1 = cc in absurd (omega arith)
padded_more true l n e = ltb-true (length l) n e

pub strict_not : (l : List ℕ) (n : ℕ) → padded true l n ≡ false → n ≤ length l
strict_not l n e = ltb-false (length l) n e

-- ---- k digits and a last byte are longer than the shortest form exactly where the number, or its complement, needs no such byte
module _ (limit : ℕ) (low : 0 < limit) (neg : Bool) (m j : ℕ) where
  spare : m < limit * 2 ^ (7 * j) → ltb (length (short limit neg m)) (suc j + 1) ≡ true
  spare h = lt-ltb (length (short limit neg m)) (suc j + 1) (omega (arith, short_le limit low neg m j h))

  taken : limit * 2 ^ (7 * j) ≤ m → ltb (length (short limit neg m)) (suc j + 1) ≡ false
  taken h = le-ltb (length (short limit neg m)) (suc j + 1) (omega (arith, short_gt limit low neg m j h))

-- a digit more takes a number past the bits of those before it
on_top : (low d k : ℕ) → 0 < d → 2 ^ (7 * k) ≤ low + d * 2 ^ (7 * k)
on_top low d k h = let l : 1 ≤ d = omega arith in omega (arith, mul-le-mul_right (2 ^ (7 * k)) l)

-- a test that says whether a byte is another
test_is : (b c : ℕ) (t : Bool) → (b ≡ c → t ≡ true) → ((b ≡ c → ⊥) → t ≡ false) → eqb b c ≡ t
test_is b c t f g = elim (ℕ_discrete b c) [ yes e ↦ eq-eqb b c e ∙ sym (f e) | no n ↦ ne_eqb b c n ∙ sym (g n) ]

some : (b : ℕ) → (b ≡ 0 → ⊥) → 0 < b
some zero n = absurd (n refl)
some (suc b) n = omega arith

module _ (low b j : ℕ) (e : Ending low (suc j) b) where
  abbrev v : ℕ
  v = low + b * 2 ^ (7 * suc j)

  -- an unsigned number's last byte is 0
  last_unsigned_law : eqb b 0 ≡ ltb (length (short_unsigned v)) (suc j + 1)
  last_unsigned_law =
      test_is b 0 (ltb (length (short_unsigned v)) (suc j + 1))
      (λ z. spare 128 (lit< tt) false v j (rw z (omega (arith, e.low_lt, pow_suc7 j))))
      (λ n. taken 128 (lit< tt) false v j (omega (arith, on_top low b (suc j) (some b n), pow_suc7 j)))

  -- a signed number is half its digits' range at most, or the complement is
  top : 2 ^ (7 * suc j) ≡ 2 * (64 * 2 ^ (7 * j))
  top = rw pow_suc7 (omega arith)

  abbrev z : ℤ
  z = signed v (suc j + 1)

  signed_spare : mag z < 64 * 2 ^ (7 * j) → ltb (length (short_signed z)) (suc j + 1) ≡ true
  signed_spare h = spare 64 (lit< tt) (is_neg z) (mag z) j h

  signed_taken : 64 * 2 ^ (7 * j) ≤ mag z → ltb (length (short_signed z)) (suc j + 1) ≡ false
  signed_taken h = taken 64 (lit< tt) (is_neg z) (mag z) j h

  by_plus : b < 64 → mag z ≡ v
  by_plus h = ap mag (signed_pos low (suc j) b e.low_lt h)

  by_minus : 64 ≤ b → mag z ≡ 2 ^ (7 * suc j) - 1 - low + (127 - b) * 2 ^ (7 * suc j)
  by_minus h = ap mag (signed_neg low (suc j) b e.low_lt h e.digit)

  -- its last byte only repeats the sign, which the highest bit of low has too
  last_plus : low < 64 * 2 ^ (7 * j) → eqb b 0 ≡ ltb (length (short_signed z)) (suc j + 1)
  last_plus h =
      test_is b 0 (ltb (length (short_signed z)) (suc j + 1))
      (λ is. let f : b * 2 ^ (7 * suc j) ≡ 0 = rw is (omega arith) in signed_spare (omega (arith, by_plus (omega arith))))
      (λ n. signed_taken (elim (dec_lt b 64) [
        | yes l ↦ omega (arith, by_plus l, on_top low b (suc j) (some b n), top)
        | no l ↦ let k : 64 ≤ b = omega arith in omega (arith, by_minus k, top)
      ]))

  last_minus : 64 * 2 ^ (7 * j) ≤ low → eqb b 127 ≡ ltb (length (short_signed z)) (suc j + 1)
  last_minus h =
      test_is b 127 (ltb (length (short_signed z)) (suc j + 1))
      (λ is. let f : (127 - b) * 2 ^ (7 * suc j) ≡ 0 = rw is (omega arith) in signed_spare (omega (arith, by_minus (omega arith), top, e.low_lt)))
      (λ n. signed_taken (elim (dec_lt b 64) [
        | yes l ↦ omega (arith, by_plus l)
        | no l ↦
            let k : 64 ≤ b = omega arith in
            let d : 0 < 127 - b = below b e.digit n in
            omega (arith, by_minus k, on_top 0 (127 - b) (suc j) d, top)
      ]))
    where
      below : (b : ℕ) → b < 128 → (b ≡ 127 → ⊥) → 0 < 127 - b
      below b l n = elim (dec_lt b 127) [ yes k ↦ omega arith | no k ↦ absurd (n (omega arith)) ]

-- ---- the byte before the last has the highest of the digits before it
-- a digit is taken off the low end, or put there
off : (low d u b w : ℕ) → d < 128 → low + b * (w * 128) ≡ d + u * 128 → (low ≡ d + low / 128 * 128) × (u ≡ low / 128 + b * w)
off low d u b w h e = let p : b * (w * 128) ≡ b * w * 128 = sym (mul_assoc b w 128) in (omega arith, omega arith)

put : (low d g y w : ℕ) → low ≡ d + (g + y * w) * 128 → low ≡ d + g * 128 + y * (w * 128)
put low d g y w e = let p : y * (w * 128) ≡ y * w * 128 = sym (mul_assoc y w 128) in omega arith

-- of a number of j + 2 bytes, whose digits before the last make low
record Highest (l : List ℕ) (low j : ℕ) : Type 0 where
  under : ℕ
  under_lt : under < 2 ^ (7 * j)
  is : low ≡ under + (get_or l j 0 - 128) * 2 ^ (7 * j)
  more : 128 ≤ get_or l j 0

highest : (n : ℕ) (l : List ℕ) (low b j : ℕ) → Bytes l → low < 2 ^ (7 * suc j) → raw n l ≡ got (low + b * 2 ^ (7 * suc j)) (suc j + 1) → Highest l low j
unfolding raw
highest zero l low b j bytes h e = let z : ◌≡◌ {A = ℕ} 0 1 = cc in absurd (omega arith)
highest (suc n) [] low b j bytes h e = let z : ◌≡◌ {A = ℕ} 0 1 = cc in absurd (omega arith)
highest (suc n) (x ∷ l) low b j bytes h e = go (highest n l (low / 128) b) j h (ltb x 128) refl e
  where
    go : ((i : ℕ) → Bytes l → low / 128 < 2 ^ (7 * suc i) → raw n l ≡ got (low / 128 + b * 2 ^ (7 * suc i)) (suc i + 1) → Highest l (low / 128) i)
        → (j : ℕ) → low < 2 ^ (7 * suc j) → (t : Bool) → ltb x 128 ≡ t → cond t (got x 1) (more (x - 128) (raw n l)) ≡ got (low + b * 2 ^ (7 * suc j)) (suc j + 1)
        → Highest (x ∷ l) low j
    go ih j h true t e = let z : 1 ≡ suc j + 1 = cc in absurd (omega arith)
    go ih zero h false t e =
        let r = rest_of (x - 128) (raw n l) e in
        let w = off low (x - 128) r.value b 1 (omega (arith, bytes.0)) r.made in
        record { under = 0; under_lt = lit< tt; is = omega (arith, w.0); more = ltb-false x 128 t }
    go ih (suc i) h false t e =
        let r = rest_of (x - 128) (raw n l) e in
        let w = off low (x - 128) r.value b (2 ^ (7 * suc i)) (omega (arith, bytes.0)) (ap (λ (y : ℕ). low + b * y) (sym (pow_suc7 (suc i))) ∙ r.made) in
        let k = ih i bytes.1 (omega (arith, pow_suc7 (suc i))) (r.is ∙ ap₂ got w.1 (omega (arith, r.long))) in
        record {
          under = x - 128 + k.under * 128;
          under_lt = omega (arith, pow_suc7 i, k.under_lt, bytes.0);
          is = put low (x - 128) k.under (get_or l i 0 - 128) (2 ^ (7 * i)) (w.0 ∙ ap (λ (y : ℕ). x - 128 + y * 128) k.is) ∙ ap (λ (y : ℕ). x - 128 + k.under * 128 + (get_or l i 0 - 128) * y) (sym (pow_suc7 i));
          more = k.more;
        }

-- so its bit below the top one is the highest of low
module _ (s : List ℕ) (at low b j : ℕ) (bytes : Bytes s) (e : Ending low (suc j) b) (there : Standing s at low (suc j) b) where
  top_of : Highest (drop at s) low j
  top_of = highest there.0 (drop at s) low b j (bytes_drop at s bytes) e.low_lt there.1

  byte_is : get_or (drop at s) j 0 ≡ get_or s (at + j) 0
  byte_is = get_or-drop at s j 0

  top_clear : get_or s (at + j) 0 < 192 → low < 64 * 2 ^ (7 * j)
  top_clear h = let k = top_of in omega (arith, k.is, digits_lt (clear k) k.under_lt)
    where
      clear : Highest (drop at s) low j → get_or (drop at s) j 0 - 128 < 64
      clear k = omega (arith, byte_is)

  top_set : 192 ≤ get_or s (at + j) 0 → 64 * 2 ^ (7 * j) ≤ low
  top_set h = let k = top_of in let m : 64 ≤ get_or (drop at s) j 0 - 128 = omega (arith, byte_is) in omega (arith, k.is, mul-le-mul_right (2 ^ (7 * j)) m)

-- ---- as the code asks
module _ (t : Bool) (low k b : ℕ) (e : Ending low k b) where
  one_byte : (l : List ℕ) → 0 < length l → k ≤ 0 → false ≡ padded t l (k + 1)
  one_byte l h z = sym (padded_not t l (k + 1) (omega arith))

  pub one_unsigned : k ≤ 0 → false ≡ padded t (short_unsigned (low + b * 2 ^ (7 * k))) (k + 1)
  one_unsigned z = one_byte (short_unsigned (low + b * 2 ^ (7 * k))) (short_some 128 (lit< tt) false (low + b * 2 ^ (7 * k))) z

  pub one_signed : k ≤ 0 → false ≡ padded t (short_signed (signed (low + b * 2 ^ (7 * k)) (k + 1))) (k + 1)
  one_signed z = let n = signed (low + b * 2 ^ (7 * k)) (k + 1) in one_byte (short_signed n) (short_some 64 (lit< tt) (is_neg n) (mag n)) z

module _ (t : Bool) (low b : ℕ) (is : t ≡ true) where
  pub more_unsigned : (k : ℕ) → Ending low k b → 0 < k → eqb b 0 ≡ padded t (short_unsigned (low + b * 2 ^ (7 * k))) (k + 1)
  more_unsigned zero e h = absurd (omega arith)
  more_unsigned (suc j) e h = rw is (last_unsigned_law low b j e)

-- a signed number of k digits and a last byte, at a place
module _ (t : Bool) (s : List ℕ) (at low b : ℕ) (bytes : Bytes s) (is : t ≡ true) where
  -- a last byte 0 repeats the sign where the byte before has none, and 127 where it has one
  pub repeats_plus : (k : ℕ) → Ending low k b → Standing s at low k b → 0 < k → b ≡ 0 → ltb (get_or s (at + (k - 1)) 0) 192 ≡ padded t (short_signed (signed (low + b * 2 ^ (7 * k)) (k + 1))) (k + 1)
  repeats_plus zero e there h z = absurd (omega arith)
  repeats_plus (suc j) e there h z = let q : suc j - 1 ≡ j = omega arith in rw (is, q) (go (ltb (get_or s (at + j) 0) 192) refl)
    where
      go : (u : Bool) → ltb (get_or s (at + j) 0) 192 ≡ u → u ≡ ltb (length (short_signed (signed (low + b * 2 ^ (7 * suc j)) (suc j + 1)))) (suc j + 1)
      go true f = sym (eq-eqb b 0 z) ∙ last_plus low b j e (top_clear s at low b j bytes e there (ltb-true _ _ f))
      go false f = sym (ne_eqb b 127 (λ n. absurd (omega arith))) ∙ last_minus low b j e (top_set s at low b j bytes e there (ltb-false _ _ f))

  pub repeats_minus : (k : ℕ) → Ending low k b → Standing s at low k b → 0 < k → b ≡ 127 → leb 192 (get_or s (at + (k - 1)) 0) ≡ padded t (short_signed (signed (low + b * 2 ^ (7 * k)) (k + 1))) (k + 1)
  repeats_minus zero e there h z = absurd (omega arith)
  repeats_minus (suc j) e there h z = let q : suc j - 1 ≡ j = omega arith in rw (is, q) (go (leb 192 (get_or s (at + j) 0)) refl)
    where
      go : (u : Bool) → leb 192 (get_or s (at + j) 0) ≡ u → u ≡ ltb (length (short_signed (signed (low + b * 2 ^ (7 * suc j)) (suc j + 1)))) (suc j + 1)
      go true f = sym (eq-eqb b 127 z) ∙ last_minus low b j e (top_set s at low b j bytes e there (leb-true _ _ f))
      go false f = sym (ne_eqb b 0 (λ n. absurd (omega arith))) ∙ last_plus low b j e (top_clear s at low b j bytes e there (leb-false _ _ f))

-- that byte is there
module _ (s : List ℕ) (at low k b : ℕ) (there : Standing s at low k b) (some : 0 < k) where
  pub before_inside : at + (k - 1) < length s
  before_inside = omega (arith, next_le there.0 s at (low + b * 2 ^ (7 * k)) (k + 1) there.1)

  pub before_fits : length s < 2 ^ 64 → Fits w64 (at + (k - 1))
  before_fits h = record { fits = omega (arith, before_inside) }

-- any other last byte is needed
pub repeats_none : (t : Bool) (low k b : ℕ) → Ending low k b → 0 < k → (b ≡ 0 → ⊥) → (b ≡ 127 → ⊥) → false ≡ padded t (short_signed (signed (low + b * 2 ^ (7 * k)) (k + 1))) (k + 1)
repeats_none false low k b e h n m = refl
repeats_none true low zero b e h n m = absurd (omega arith)
repeats_none true low (suc j) b e h n m = elim (dec_lt low (64 * 2 ^ (7 * j))) [
  | yes l ↦ sym (ne_eqb b 0 n) ∙ last_plus low b j e l
  | no l ↦ sym (ne_eqb b 127 m) ∙ last_minus low b j e (omega arith)
]

-- where the setting is lax
pub never_lax : (t : Bool) (l : List ℕ) (n : ℕ) → t ≡ false → false ≡ padded t l n
never_lax t l n e = rw e refl

pub ruleset paddings = (one_unsigned, more_unsigned, rules)

-- ---- what stands at a place, by the setting: what is refused, a value in its shortest form, and one that is longer
module _ (t : Bool) (B : ℕ) (s : List ℕ) (at : ℕ) where
  -- the bytes of a number
  size : (n : ℕ) → at + n - at ≡ n
  size n = omega arith

  pub kept_unsigned : {why : Refusal} {p : ℕ} → err_at why p ≡ lax_unsigned B s at → err_at why p ≡ read_unsigned t B s at
  unfolding read_unsigned
  kept_unsigned e = ap (unpadded_unsigned t at) e

  pub kept_signed : {why : Refusal} {p : ℕ} → err_at why p ≡ lax_signed B s at → err_at why p ≡ read_signed t B s at
  unfolding read_signed
  kept_signed e = ap (unpadded_signed t at) e

  module _ (n : ℕ) {v : ℕ} (e : ok_at v (at + n) ≡ lax_unsigned B s at) where
    pub value_unsigned : padded t (short_unsigned v) n ≡ false → ok_at v (at + n) ≡ read_unsigned t B s at
    unfolding read_unsigned
    value_unsigned h = sym (rw (← e, size n, h))

    pub longer_unsigned : padded t (short_unsigned v) n ≡ true → err_at Padded at ≡ read_unsigned t B s at
    unfolding read_unsigned
    longer_unsigned h = sym (rw (← e, size n, h))

  module _ (n : ℕ) {z : ℤ} (e : ok_at z (at + n) ≡ lax_signed B s at) where
    pub value_signed : padded t (short_signed z) n ≡ false → ok_at z (at + n) ≡ read_signed t B s at
    unfolding read_signed
    value_signed h = sym (rw (← e, size n, h))

    pub longer_signed : padded t (short_signed z) n ≡ true → err_at Padded at ≡ read_signed t B s at
    unfolding read_signed
    longer_signed h = sym (rw (← e, size n, h))
