-- Where a number is refused with 5, by either setting, once over the width B: exactly where its last allowed byte is `Guilty`. So the place is inside the
-- input, not before the number's first byte, and every byte of the number before it has its top bit set.
-- Assumes nothing.
use mathlib.Core.Path.{◌≡◌, refl, sym, ap, ◌∙◌, subst}
use mathlib.Core.List.{List, [], ◌∷◌, ◌++◌}
use mathlib.Core.Bool.{Bool, true, false, cond}
use mathlib.Core.Logic.{◌⊎◌, inl, inr}
use Prim.Native.Nat.{ℕ, zero, suc, ◌+◌, ◌-◌, ◌*◌, ◌/◌, ◌^◌, ◌≤◌, ◌<◌}
use native.Mathlib.Decide.{dec_lt}
use native.Mathlib.Omega.{arith}
use lib.ListN.{length, get_or, take, drop, length-drop}
use lib.Seq.{get_or-drop, length-take-le, split_at}
use lib.Dec.{ltb}
use lib.Signed.{mag}
use borrow.Author.Tests.{ltb-false}
use Rattle.answer.specs.Bytes.{Bytes, bytes_drop}
use Rattle.answer.specs.declared.Refusal.TheVariants.{Width}
use Rattle.leb128.specs.Number.{Raw, cut, long, got, raw, count, last_place, unsigned_of, lax_unsigned, signed, signed_of, lax_signed}
use Rattle.leb128.specs.LastByte.{last_unsigned, last_signed, BadUnsigned, BadSigned, Guilty}
use Rattle.leb128.proofs.Reading.{count_is, next_le, Spent, spent_there, spent_unsigned, spent_signed}
use Rattle.leb128.proofs.Laws.{Below, below}
use Rattle.leb128.proofs.LastByte.{Digits, takes_unsigned, refuses_unsigned, takes_signed, refuses_signed}
use Rattle.answer.specs.Outcome.{err_at}
use Rattle.answer.specs.Outcome.Laws.{err_parts}
use Rattle.leb128.specs.Number.{ok_at}

-- the bytes before the last allowed one
digits_take : (j : ℕ) (l : List ℕ) → Bytes l → j ≤ length l → ((i : ℕ) → i < j → 128 ≤ get_or l i 0) → Digits (take j l)
digits_take zero l h k t = tt
digits_take (suc j) [] h k t = tt
digits_take (suc j) (b ∷ l) h k t = ((t 0 (omega arith), h.0), digits_take j l h.1 (omega arith) (λ i m. t (suc i) (omega arith)))

-- a number of B bits at a place, of which the bytes allowed are there, those before the last with their top bits set
record Full (B : ℕ) (s : List ℕ) (at : ℕ) : Type 0 where
  inside : last_place B at < length s
  before : (i : ℕ) → at ≤ i → i < last_place B at → 128 ≤ get_or s i 0

module _ (B : ℕ) (s : List ℕ) (at : ℕ) (wide : 0 < B) (bytes : Bytes s) where
  spent_full : Spent (count B) (raw (count B) (drop at s)) → Full B s at
  spent_full h = record { inside = omega (arith, there.0, length-drop at s); before = tops }
    where
      last : ℕ
      last = (B - 1) / 7

      there : (last < length (drop at s)) × ((i : ℕ) → i < last → 128 ≤ get_or (drop at s) i 0)
      there = spent_there last (drop at s) (subst (λ (n : ℕ). Spent n (raw n (drop at s))) (sym (count_is B wide)) h)

      tops : (i : ℕ) → at ≤ i → i < last_place B at → 128 ≤ get_or s i 0
      tops i f g = subst (λ (n : ℕ). 128 ≤ n) (get_or-drop at s (i - at) 0 ∙ ap (λ (n : ℕ). get_or s n 0) e) (there.1 (i - at) (omega arith))
        where
          e : at + (i - at) ≡ i
          e = omega arith

  -- such a number is its bytes before the last allowed one, and then that one
  module _ (full : Full B s at) where
    ds : List ℕ
    ds = take (count B - 1) (drop at s)

    abbrev b : ℕ
    b = get_or s (last_place B at) 0

    rest : List ℕ
    rest = drop (suc (count B - 1)) (drop at s)

    room : count B - 1 < length (drop at s)
    room = omega (arith, full.inside, length-drop at s)

    here : drop at s ≡ ds ++ (b ∷ rest)
    unfolding ds rest
    here = split_at (drop at s) (count B - 1) 0 room ∙ ap (λ (x : ℕ). ds ++ (x ∷ rest)) (get_or-drop at s (count B - 1) 0)

    size : length ds ≡ count B - 1
    unfolding ds
    size = length-take-le (count B - 1) (drop at s) (omega (arith, room))

    tops : (i : ℕ) → i < count B - 1 → 128 ≤ get_or (drop at s) i 0
    tops i h = rw get_or-drop (full.before (at + i) (omega arith) (omega arith))

    digits : Digits ds
    unfolding ds
    digits = digits_take (count B - 1) (drop at s) (bytes_drop at s bytes) (omega (arith, room)) tops

    sizes : length ds + 1 ≡ count B
    sizes = omega (arith, size)

    place_is : at + length ds ≡ last_place B at
    place_is = omega (arith, size)

    bad_unsigned : lax_unsigned B s at ≡ err_at Width (last_place B at) → BadUnsigned B b
    bad_unsigned e =
        elim (dec_lt b (last_unsigned B)) [
          | yes h ↦
              let f = takes_unsigned B s at b ds rest here wide digits sizes h in
              let z : ◌≡◌ {A = ℕ} 0 1 = cc in
              absurd (omega arith)
          | no h ↦ omega arith
        ]

    unsigned_bad : BadUnsigned B b → lax_unsigned B s at ≡ err_at Width (last_place B at)
    unsigned_bad h = refuses_unsigned B s at b ds rest here wide digits sizes h ∙ ap (err_at Width) place_is

    not_taken : lax_signed B s at ≡ err_at Width (last_place B at) → (b < last_signed B) ⊎ ((128 - last_signed B ≤ b) × (b < 128)) → ⊥
    not_taken e h =
        let f = takes_signed B s at b ds rest here wide digits sizes h in
        let z : ◌≡◌ {A = ℕ} 0 1 = cc in
        omega arith

    bad_signed : lax_signed B s at ≡ err_at Width (last_place B at) → BadSigned B b
    bad_signed e =
        elim (dec_lt b 128) [
          | no h ↦ inl (omega arith)
          | yes h ↦
              elim (dec_lt b (last_signed B)) [
                | yes l ↦ absurd (not_taken e (inl l))
                | no l ↦
                    elim (dec_lt b (128 - last_signed B)) [
                      | yes u ↦ inr (omega arith, u)
                      | no u ↦ absurd (not_taken e (inr (omega arith, h)))
                    ]
              ]
        ]

    signed_bad : BadSigned B b → lax_signed B s at ≡ err_at Width (last_place B at)
    signed_bad h = refuses_signed B s at b ds rest here wide digits sizes h ∙ ap (err_at Width) place_is

  -- a 5 is at the last place, after as many bytes as the width allows
  outside_unsigned : {p : ℕ} (r : Raw) → raw (count B) (drop at s) ≡ r → unsigned_of B (length s) at r ≡ err_at Width p → (p ≡ last_place B at) × Spent (count B) r
  outside_unsigned cut e f = let (w, q) = err_parts f in let z : ◌≡◌ {A = ℕ} 0 1 = cc in absurd (omega arith)
  outside_unsigned long e f = (sym (err_parts f).1, tt)
  outside_unsigned {p} (got v k) e f = go (ltb v (2 ^ B)) refl f
    where
      go : (t : Bool) → ltb v (2 ^ B) ≡ t → cond t (ok_at v (at + k)) (err_at Width (last_place B at)) ≡ err_at Width p → (p ≡ last_place B at) × (count B ≤ k)
      go true g h = let z : ◌≡◌ {A = ℕ} 0 1 = cc in absurd (omega arith)
      go false g h =
          let l : v < 2 ^ (7 * k) = subst Below e (below (count B) (drop at s) (bytes_drop at s bytes)) in
          (sym (err_parts h).1, spent_unsigned B v k l (ltb-false v (2 ^ B) g))

  outside_signed : {p : ℕ} (r : Raw) → raw (count B) (drop at s) ≡ r → signed_of B (length s) at r ≡ err_at Width p → (p ≡ last_place B at) × Spent (count B) r
  outside_signed cut e f = let (w, q) = err_parts f in let z : ◌≡◌ {A = ℕ} 0 1 = cc in absurd (omega arith)
  outside_signed long e f = (sym (err_parts f).1, tt)
  outside_signed {p} (got v k) e f = go (ltb (mag (signed v k)) (2 ^ (B - 1))) refl f
    where
      go : (t : Bool) → ltb (mag (signed v k)) (2 ^ (B - 1)) ≡ t → cond t (ok_at (signed v k) (at + k)) (err_at Width (last_place B at)) ≡ err_at Width p
          → (p ≡ last_place B at) × (count B ≤ k)
      go true g h = let z : ◌≡◌ {A = ℕ} 0 1 = cc in absurd (omega arith)
      go false g h =
          let l : v < 2 ^ (7 * k) = subst Below e (below (count B) (drop at s) (bytes_drop at s bytes)) in
          let n = next_le (count B) s at v k e in
          (sym (err_parts h).1, spent_signed B v k wide (omega (arith, n.0)) l (ltb-false (mag (signed v k)) (2 ^ (B - 1)) g))

  -- what stands of such a number, with a byte that may not be the last, is a guilty one, and the other way round
  guilty : {Bad : ℕ → ℕ → Type 0} {p : ℕ} → p ≡ last_place B at → Full B s at → Bad B (get_or s (last_place B at) 0) → Guilty Bad B s at p
  guilty {Bad} is full h = subst (Guilty Bad B s at) (sym is) (record { last = refl; first = omega arith; inside = full.inside; before = full.before; bad = h })

  guilty_full : {Bad : ℕ → ℕ → Type 0} {p : ℕ} → Guilty Bad B s at p → Full B s at × Bad B (get_or s (last_place B at) 0)
  guilty_full {Bad} {p} g =
      let is : p ≡ last_place B at = g.last in
      (record { inside = rw is at g.inside; before = rw is at g.before }, rw is at g.bad)

  -- a number is refused with 5 exactly at a guilty byte
  pub unsigned_guilty : {p : ℕ} → lax_unsigned B s at ≡ err_at Width p → Guilty BadUnsigned B s at p
  unfolding lax_unsigned
  unsigned_guilty e =
      let (is, spent) = outside_unsigned (raw (count B) (drop at s)) refl e in
      let full = spent_full spent in
      guilty is full (bad_unsigned full (e ∙ ap (err_at Width) is))

  pub guilty_unsigned : {p : ℕ} → Guilty BadUnsigned B s at p → lax_unsigned B s at ≡ err_at Width p
  guilty_unsigned g = let (full, h) = guilty_full g in unsigned_bad full h ∙ ap (err_at Width) (sym g.last)

  pub signed_guilty : {p : ℕ} → lax_signed B s at ≡ err_at Width p → Guilty BadSigned B s at p
  unfolding lax_signed
  signed_guilty e =
      let (is, spent) = outside_signed (raw (count B) (drop at s)) refl e in
      let full = spent_full spent in
      guilty is full (bad_signed full (e ∙ ap (err_at Width) is))

  pub guilty_signed : {p : ℕ} → Guilty BadSigned B s at p → lax_signed B s at ≡ err_at Width p
  guilty_signed g = let (full, h) = guilty_full g in signed_bad full h ∙ ap (err_at Width) (sym g.last)
