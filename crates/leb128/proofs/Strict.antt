-- What strict reading accepts, once over the width B: the bytes of the number are its shortest form.
-- Assumes nothing.
use mathlib.Core.Path.{◌≡◌, refl, sym, ap, ap₂, ◌∙◌, subst}
use mathlib.Core.List.{List, [], ◌∷◌, ◌++◌}
use mathlib.Core.Bool.{Bool, true, false, cond}
use Prim.Native.Nat.{ℕ, zero, suc, ◌+◌, ◌-◌, ◌*◌, ◌%◌, ◌^◌, ◌≤◌, ◌<◌}
use native.Mathlib.Omega.{arith}
use lib.ListN.{length, take, drop, take-append-drop}
use lib.Seq.{take-append_seam, drop-drop}
use lib.Dec.{ltb, lit<, lit≤}
use lib.IntN.{ℤ, pos, negsuc}
use lib.Signed.{mag}
use borrow.Author.Tests.{ltb-false}
use Rattle.answer.specs.Bytes.{Bytes, bytes_drop, bytes_append}
use Rattle.leb128.specs.Number.{Raw, cut, long, got, more, raw, count, last_place, unsigned_of, lax_unsigned, signed, signed_of, lax_signed, short, short_by, short_unsigned, is_neg, short_signed, read_unsigned, read_signed}
use Rattle.answer.specs.declared.Refusal.TheVariants.{Width}
use Rattle.leb128.proofs.Reading.{Ends, ends, rest_of}
use Rattle.leb128.proofs.Writing.{turn_lt, digit_ind, short_end, short_more}
use Rattle.leb128.proofs.RoundTrip.{val, raw_short, signed_short, unsigned_bytes, signed_bytes}
use Rattle.leb128.proofs.Laws.{Below, below, shortest_unsigned, shortest_signed}
use Rattle.leb128.proofs.Setting.{read_lax_unsigned, read_lax_signed, unsigned_value, signed_value, strict_most_unsigned, strict_most_signed}
use Rattle.answer.specs.Outcome.{err_at}
use Rattle.leb128.specs.Number.{ok_at}
use Rattle.leb128.proofs.Reading.{ok_parts}

-- ---- the bytes of a number are fixed by how many they are and what they make
-- a digit more than one is more than one
longer : (d m : ℕ) (l : List ℕ) {v : ℕ} → more d (raw m l) ≡ got v 1 → ⊥
longer d m l e =
    let r = rest_of d (raw m l) e in
    let h : (0 < r.size) × (r.size ≤ length l) = subst (Ends (length l)) r.is (ends m l) in
    omega (arith, r.long)

same_bytes : (n m : ℕ) (k l : List ℕ) (v i : ℕ) → Bytes k → Bytes l → raw n k ≡ got v i → raw m l ≡ got v i → take i k ≡ take i l
unfolding raw
same_bytes zero m k l v i bk bl e f = let z : ◌≡◌ {A = ℕ} 0 1 = cc in absurd (omega arith)
same_bytes (suc n) m [] l v i bk bl e f = let z : ◌≡◌ {A = ℕ} 0 1 = cc in absurd (omega arith)
same_bytes (suc n) zero (b ∷ k) l v i bk bl e f = let z : ◌≡◌ {A = ℕ} 0 1 = cc in absurd (omega arith)
same_bytes (suc n) (suc m) (b ∷ k) [] v i bk bl e f = let z : ◌≡◌ {A = ℕ} 0 1 = cc in absurd (omega arith)
same_bytes (suc n) (suc m) (b ∷ k) (c ∷ l) v i bk bl e f = go (same_bytes n m k l) (ltb b 128) refl (ltb c 128) refl e f
  where
    go : ((v i : ℕ) → Bytes k → Bytes l → raw n k ≡ got v i → raw m l ≡ got v i → take i k ≡ take i l)
        → (s : Bool) → ltb b 128 ≡ s → (t : Bool) → ltb c 128 ≡ t
        → cond s (got b 1) (more (b - 128) (raw n k)) ≡ got v i → cond t (got c 1) (more (c - 128) (raw m l)) ≡ got v i → take i (b ∷ k) ≡ take i (c ∷ l)
    go ih true p true q e f = let w : b ≡ c = cc in let o : i ≡ 1 = cc in rw (o, w)
    go ih true p false q e f = let o : i ≡ 1 = cc in absurd (longer (c - 128) m l (f ∙ ap (got v) o))
    go ih false p true q e f = let o : i ≡ 1 = cc in absurd (longer (b - 128) n k (e ∙ ap (got v) o))
    go ih false p false q e f =
        let r = rest_of (b - 128) (raw n k) e in
        let t = rest_of (c - 128) (raw m l) f in
        let w : b ≡ c = omega (arith, r.made, t.made, bk.0, bl.0, ltb-false b 128 p, ltb-false c 128 q) in
        let u : t.value ≡ r.value = omega (arith, r.made, t.made, w) in
        let o : t.size ≡ r.size = omega (arith, r.long, t.long) in
        ap (λ (x : ℕ). take x (b ∷ k)) r.long ∙ ap₂ ◌∷◌ w (ih r.value r.size bk.1 bl.1 r.is (t.is ∙ ap₂ got u o))
        ∙ ap (λ (x : ℕ). take x (c ∷ l)) (sym r.long)

-- ---- the shortest form is bytes
short_bytes : (limit : ℕ) → 0 < limit → limit ≤ 128 → (neg : Bool) (m : ℕ) → Bytes (short limit neg m)
short_bytes limit low high neg = digit_ind limit low (λ (m : ℕ). Bytes (short limit neg m))
    (λ m h. rw (short_end limit low neg m h) (omega (arith, turn_lt neg m (omega arith)), tt))
    (λ m h ih. rw (short_more limit low neg m h) (omega (arith, turn_lt neg (m % 128) (omega arith)), ih))

-- 0 is the one byte 0
pub zero_short : short_signed (pos 0) ≡ 0 ∷ []
unfolding short short_by
zero_short = refl

-- ---- k digits are one signed number
signed_one : (u w k : ℕ) → u < 2 ^ (7 * k) → w < 2 ^ (7 * k) → signed u k ≡ signed w k → u ≡ w
unfolding signed
signed_one u w k h l = go (ltb u (2 ^ (7 * k - 1))) (ltb w (2 ^ (7 * k - 1)))
  where
    go : (s t : Bool) → cond s (pos u) (negsuc (2 ^ (7 * k) - suc u)) ≡ cond t (pos w) (negsuc (2 ^ (7 * k) - suc w)) → u ≡ w
    go true true e = cc
    go true false e = let z : ◌≡◌ {A = ℕ} 0 1 = cc in absurd (omega arith)
    go false true e = let z : ◌≡◌ {A = ℕ} 0 1 = cc in absurd (omega arith)
    go false false e = let f : 2 ^ (7 * k) - suc u ≡ 2 ^ (7 * k) - suc w = cc in omega arith

-- ---- a number that is read is the digits that stand there
record Made (r : Raw) (at next : ℕ) : Type 0 where
  value : ℕ
  size : ℕ
  is : r ≡ got value size
  place : next ≡ at + size

module _ (B end at : ℕ) where
  made_unsigned : (r : Raw) {v next : ℕ} → unsigned_of B end at r ≡ ok_at v next → (m : Made r at next) × (m.value ≡ v)
  made_unsigned cut e = let z : ◌≡◌ {A = ℕ} 0 1 = cc in absurd (omega arith)
  made_unsigned long e = let z : ◌≡◌ {A = ℕ} 0 1 = cc in absurd (omega arith)
  made_unsigned (got u k) {v} {next} e = go (ltb u (2 ^ B)) e
    where
      go : (t : Bool) → cond t (ok_at u (at + k)) (err_at Width (last_place B at)) ≡ ok_at v next → (m : Made (got u k) at next) × (m.value ≡ v)
      go true e = (let (a, b) = ok_parts e in (record { value = u; size = k; is = refl; place = sym b }, a))
      go false e = let z : ◌≡◌ {A = ℕ} 0 1 = cc in absurd (omega arith)

  made_signed : (r : Raw) {z : ℤ} {next : ℕ} → signed_of B end at r ≡ ok_at z next → (m : Made r at next) × (signed m.value m.size ≡ z)
  made_signed cut e = let o : ◌≡◌ {A = ℕ} 0 1 = cc in absurd (omega arith)
  made_signed long e = let o : ◌≡◌ {A = ℕ} 0 1 = cc in absurd (omega arith)
  made_signed (got u k) {z} {next} e = go (ltb (mag (signed u k)) (2 ^ (B - 1))) e
    where
      go : (t : Bool) → cond t (ok_at (signed u k) (at + k)) (err_at Width (last_place B at)) ≡ ok_at z next → (m : Made (got u k) at next) × (signed m.value m.size ≡ z)
      go true e = (let (a, b) = ok_parts e in (record { value = u; size = k; is = refl; place = sym b }, a))
      go false e = let o : ◌≡◌ {A = ℕ} 0 1 = cc in absurd (omega arith)

-- ---- the bytes of a number that is accepted strictly: its shortest form, and then what stands behind it
module _ (B : ℕ) (s : List ℕ) (at : ℕ) (wide : 0 < B) (bytes : Bytes s) where
  -- from its digits on, which are as many as those of the form given
  spelled : {v k next : ℕ} (form : List ℕ) → raw (count B) (drop at s) ≡ got v k → raw (count B) (form ++ []) ≡ got v k → Bytes form → length form ≡ k → next ≡ at + k
      → drop at s ≡ form ++ drop next s
  spelled {v} {k} {next} form e f b l n =
      let h : take k (drop at s) ≡ take k (form ++ []) = same_bytes (count B) (count B) (drop at s) (form ++ []) v k (bytes_drop at s bytes) (bytes_append form [] b tt) e f in
      let g : take k (form ++ []) ≡ form = ap (λ (x : ℕ). take x (form ++ [])) (sym l) ∙ take-append_seam form [] in
      sym (take-append-drop k (drop at s)) ∙ ap₂ ◌++◌ (h ∙ g) (drop-drop k at s ∙ ap (λ (x : ℕ). drop x s) (sym n))

  pub strict_unsigned : {v next : ℕ} → read_unsigned true B s at ≡ ok_at v next → drop at s ≡ short_unsigned v ++ drop next s
  unfolding lax_unsigned
  strict_unsigned {v} {next} e =
      let lax = read_lax_unsigned true B s at e in
      let (m, is) = made_unsigned B (length s) at (raw (count B) (drop at s)) lax in
      let k : length (short_unsigned v) ≡ m.size = omega (arith, m.place, shortest_unsigned B s at bytes lax, strict_most_unsigned B s at e) in
      spelled (short_unsigned v) (m.is ∙ ap (λ (x : ℕ). got x m.size) is)
      (raw_short 128 (lit< tt) (lit≤ tt) false [] v (count B) (unsigned_bytes B v wide (unsigned_value true B s at v next e).0) ∙ ap (got v) k)
      (short_bytes 128 (lit< tt) (lit≤ tt) false v) k m.place

  pub strict_signed : {z : ℤ} {next : ℕ} → read_signed true B s at ≡ ok_at z next → drop at s ≡ short_signed z ++ drop next s
  unfolding lax_signed
  strict_signed {z} {next} e =
      let lax = read_lax_signed true B s at e in
      let (m, is) = made_signed B (length s) at (raw (count B) (drop at s)) lax in
      let k : length (short_signed z) ≡ m.size = omega (arith, m.place, shortest_signed B s at bytes lax, strict_most_signed B s at e) in
      let w = val (is_neg z) (mag z) (2 ^ (7 * length (short_signed z))) in
      let b = short_bytes 64 (lit< tt) (lit≤ tt) (is_neg z) (mag z) in
      let f : raw (count B) (short_signed z ++ []) ≡ got w (length (short_signed z)) =
      raw_short 64 (lit< tt) (lit≤ tt) (is_neg z) [] (mag z) (count B) (signed_bytes B z wide (signed_value true B s at z next e).0) in
      let h : m.value < 2 ^ (7 * m.size) = subst Below m.is (below (count B) (drop at s) (bytes_drop at s bytes)) in
      let l : w < 2 ^ (7 * length (short_signed z)) = subst Below f (below (count B) (short_signed z ++ []) (bytes_append (short_signed z) [] b tt)) in
      let o : m.value ≡ w = signed_one m.value w m.size h (subst (λ (x : ℕ). w < 2 ^ (7 * x)) k l) (is ∙ sym (signed_short z) ∙ ap (signed w) k) in
      spelled (short_signed z) m.is (f ∙ ap₂ got (sym o) k) b k m.place
