-- The facts of the readers over the setting and the width B, as the tables ask them: a value is within the width, the next place is past the
-- first byte and within the input; what was written reads back; where a 5 points, and how large a refusal's place can be. What any setting
-- reads, lax reading reads as the same value.
-- Assumes nothing.
use mathlib.Core.Path.{◌≡◌, refl, sym, ap, ◌∙◌, subst}
use mathlib.Core.List.{List, ◌++◌, append_assoc}
use mathlib.Core.Bool.{Bool, true, false, cond}
use mathlib.Core.Logic.{inl, inr}
use Prim.Native.Nat.{ℕ, ◌+◌, ◌-◌, ◌^◌, ◌≤◌, ◌<◌}
use native.Mathlib.Omega.{arith}
use lib.ListN.{length, take, drop, drop_of_length-le}
use lib.Seq.{sets, sets-eq, drop_at, length-take-le, drop-append_seam}
use lib.IntN.{ℤ}
use lib.Signed.{mag}
use Rattle.answer.specs.Bytes.{Bytes}
use Rattle.answer.specs.Said.{Said}
use Rattle.answer.specs.Unless.{Unless, same, but}
use Rattle.answer.specs.Written.{Written}
use Rattle.answer.specs.declared.Refusal.{Refusal}
use Rattle.answer.specs.declared.Refusal.TheVariants.{Missing, Width, Padded}
use Rattle.leb128.specs.Number.{raw, lax_unsigned, lax_signed, short_unsigned, short_signed, padded, unpadded_unsigned, unpadded_signed, read_unsigned, read_signed}
use Rattle.leb128.specs.Longer.{LongerUnsigned, LongerSigned}
use Rattle.leb128.specs.LastByte.{OutsideUnsigned, OutsideSigned}
use Rattle.leb128.proofs.Reading.{count_is}
use Rattle.leb128.proofs.RoundTrip.{read_short_unsigned, read_short_signed}
use Rattle.leb128.proofs.Laws.{GoodUnsigned, GoodSigned, unsigned_good, signed_good}
use Rattle.leb128.proofs.GuiltyByte.{unsigned_guilty, signed_guilty}
use Rattle.leb128.proofs.Padding.{padded_not, padded_more, strict_not, kept_unsigned, kept_signed, value_unsigned, value_signed}
use Rattle.std.specs.Prelude.{Ok, Err}
use Rattle.answer.specs.Outcome.{err_at}
use Rattle.leb128.specs.Number.{Unsigned, Signed}
use Rattle.leb128.specs.Number.{ok_at}
use Rattle.leb128.proofs.Reading.{ok_parts}
use Rattle.answer.specs.Outcome.Laws.{err_parts}

-- ---- what the setting lets through, and what it refuses
-- what a test makes, by the test
either : {X : Type 0} (Q : Type 0) (b : Bool) (x y : X) {z : X} → cond b x y ≡ z → (b ≡ true → x ≡ z → Q) → (b ≡ false → y ≡ z → Q) → Q
either Q true x y e f g = f refl e
either Q false x y e f g = g refl e

module _ (t : Bool) (at : ℕ) where
  -- a number that is read, and not longer than its shortest form if that is asked
  let_unsigned : {v next : ℕ} (r : Unsigned) → unpadded_unsigned t at r ≡ ok_at v next → (r ≡ ok_at v next) × (padded t (short_unsigned v) (next - at) ≡ false)
  let_unsigned (Err x) e = let o : ◌≡◌ {A = ℕ} 0 1 = cc in absurd (omega arith)
  let_unsigned {v} {next} (Ok (u, past)) e =
      either _ (padded t (short_unsigned u) (past - at)) (err_at Padded at) (ok_at u past) e (λ f q. (let o : ◌≡◌ {A = ℕ} 0 1 = cc in absurd (omega arith)))
      (λ f q. (let (a, b) = ok_parts q in (q, rw (← a, ← b) f)))

  let_signed : {z : ℤ} {next : ℕ} (r : Signed) → unpadded_signed t at r ≡ ok_at z next → (r ≡ ok_at z next) × (padded t (short_signed z) (next - at) ≡ false)
  let_signed (Err x) e = let o : ◌≡◌ {A = ℕ} 0 1 = cc in absurd (omega arith)
  let_signed {z} {next} (Ok (y, past)) e =
      either _ (padded t (short_signed y) (past - at)) (err_at Padded at) (ok_at y past) e (λ f q. (let o : ◌≡◌ {A = ℕ} 0 1 = cc in absurd (omega arith)))
      (λ f q. (let (a, b) = ok_parts q in (q, rw (← a, ← b) f)))

  -- a refusal is that of what was read, or that of a padded number at its first byte
  module _ (Q : Type 0) {why : Refusal} {p : ℕ} where
    not_unsigned : (r : Unsigned) → unpadded_unsigned t at r ≡ err_at why p → (r ≡ err_at why p → Q) → ((v next : ℕ) → why ≡ Padded → p ≡ at → r ≡ ok_at v next → Q) → Q
    not_unsigned (Err x) e f g = f e
    not_unsigned (Ok (v, past)) e f g = either Q (padded t (short_unsigned v) (past - at)) (err_at Padded at) (ok_at v past) e (λ b q. g v past (sym (err_parts q).0) (sym (err_parts q).1) refl) (λ b q. f q)

    not_signed : (r : Signed) → unpadded_signed t at r ≡ err_at why p → (r ≡ err_at why p → Q) → ((z : ℤ) (next : ℕ) → why ≡ Padded → p ≡ at → r ≡ ok_at z next → Q) → Q
    not_signed (Err x) e f g = f e
    not_signed (Ok (z, past)) e f g = either Q (padded t (short_signed z) (past - at)) (err_at Padded at) (ok_at z past) e (λ b q. g z past (sym (err_parts q).0) (sym (err_parts q).1) refl) (λ b q. f q)

-- ---- lax reading takes every form
module _ (B : ℕ) (s : List ℕ) (at : ℕ) where
  pub lax_unsigned_law : read_unsigned false B s at ≡ lax_unsigned B s at
  unfolding read_unsigned
  lax_unsigned_law = go (lax_unsigned B s at)
    where
      go : (r : Unsigned) → unpadded_unsigned false at r ≡ r
      go (Ok (v, next)) = refl
      go (Err e) = refl

  pub lax_signed_law : read_signed false B s at ≡ lax_signed B s at
  unfolding read_signed
  lax_signed_law = go (lax_signed B s at)
    where
      go : (r : Signed) → unpadded_signed false at r ≡ r
      go (Ok (z, next)) = refl
      go (Err e) = refl

module _ (t : Bool) (B : ℕ) (s : List ℕ) (at : ℕ) where
  -- what any setting reads
  pub read_lax_unsigned : {v next : ℕ} → read_unsigned t B s at ≡ ok_at v next → lax_unsigned B s at ≡ ok_at v next
  unfolding read_unsigned
  read_lax_unsigned e = (let_unsigned t at (lax_unsigned B s at) e).0

  pub read_lax_signed : {z : ℤ} {next : ℕ} → read_signed t B s at ≡ ok_at z next → lax_signed B s at ≡ ok_at z next
  unfolding read_signed
  read_lax_signed e = (let_signed t at (lax_signed B s at) e).0

  -- a value
  pub unsigned_value : (v next : ℕ) → read_unsigned t B s at ≡ ok_at v next → (v < 2 ^ B) × (at < next) × (next ≤ length s)
  unsigned_value v next e = subst (GoodUnsigned B (length s) at) (read_lax_unsigned e) (unsigned_good B s at)

  pub signed_value : (z : ℤ) (next : ℕ) → read_signed t B s at ≡ ok_at z next → (mag z < 2 ^ (B - 1)) × (at < next) × (next ≤ length s)
  signed_value z next e = subst (GoodSigned B (length s) at) (read_lax_signed e) (signed_good B s at)

  -- at the end or past it
  pub unsigned_end : 0 < B → length s ≤ at → read_unsigned t B s at ≡ err_at Missing (length s)
  unfolding lax_unsigned raw
  unsigned_end h l = sym (kept_unsigned t B s at (sym (rw (drop_of_length-le s l, ← count_is B h))))

  pub signed_end : 0 < B → length s ≤ at → read_signed t B s at ≡ err_at Missing (length s)
  unfolding lax_signed raw
  signed_end h l = sym (kept_signed t B s at (sym (rw (drop_of_length-le s l, ← count_is B h))))

  -- a refusal that is 5 tells of a number outside its width; the place of any refusal is within the input, or its end
  module _ (wide : 0 < B) (bytes : Bytes s) {why : Refusal} {p : ℕ} where
    pub unsigned_outside : read_unsigned t B s at ≡ err_at why p → why ≡ Width → OutsideUnsigned B s p
    unfolding read_unsigned
    unsigned_outside e w =
        not_unsigned t at (OutsideUnsigned B s p) (lax_unsigned B s at) e (λ f. (at, unsigned_guilty B s at wide bytes (f ∙ ap (λ (w : Refusal). err_at w p) w)))
        (λ v next f g h. let q : Padded ≡ Width = sym f ∙ w in let z : ◌≡◌ {A = ℕ} 0 1 = cc in absurd (omega arith))

    pub signed_outside : read_signed t B s at ≡ err_at why p → why ≡ Width → OutsideSigned B s p
    unfolding read_signed
    signed_outside e w =
        not_signed t at (OutsideSigned B s p) (lax_signed B s at) e (λ f. (at, signed_guilty B s at wide bytes (f ∙ ap (λ (w : Refusal). err_at w p) w)))
        (λ y next f g h. let q : Padded ≡ Width = sym f ∙ w in let o : ◌≡◌ {A = ℕ} 0 1 = cc in absurd (omega arith))

    pub unsigned_place : read_unsigned t B s at ≡ err_at why p → p ≤ length s
    unfolding read_unsigned
    unsigned_place e =
        not_unsigned t at (p ≤ length s) (lax_unsigned B s at) e (λ f. go f (subst (GoodUnsigned B (length s) at) f (unsigned_good B s at)))
        (λ v next f g h. let k : (v < 2 ^ B) × (at < next) × (next ≤ length s) = subst (GoodUnsigned B (length s) at) h (unsigned_good B s at) in omega arith)
      where
        go : lax_unsigned B s at ≡ err_at why p → GoodUnsigned B (length s) at (err_at why p) → p ≤ length s
        go f (inl (w, is)) = omega arith
        go f (inr (w, is)) = omega (arith, (unsigned_guilty B s at wide bytes (f ∙ ap (λ (w : Refusal). err_at w p) w)).inside)

    pub signed_place : read_signed t B s at ≡ err_at why p → p ≤ length s
    unfolding read_signed
    signed_place e =
        not_signed t at (p ≤ length s) (lax_signed B s at) e (λ f. go f (subst (GoodSigned B (length s) at) f (signed_good B s at)))
        (λ z next f g h. let k : (mag z < 2 ^ (B - 1)) × (at < next) × (next ≤ length s) = subst (GoodSigned B (length s) at) h (signed_good B s at) in omega arith)
      where
        go : lax_signed B s at ≡ err_at why p → GoodSigned B (length s) at (err_at why p) → p ≤ length s
        go f (inl (w, is)) = omega arith
        go f (inr (w, is)) = omega (arith, (signed_guilty B s at wide bytes (f ∙ ap (λ (w : Refusal). err_at w p) w)).inside)

-- ---- a number that is accepted strictly is no longer than its shortest form
module _ (B : ℕ) (s : List ℕ) (at : ℕ) where
  pub strict_most_unsigned : {v next : ℕ} → read_unsigned true B s at ≡ ok_at v next → next ≤ at + length (short_unsigned v)
  unfolding read_unsigned
  strict_most_unsigned {v} {next} e = omega (arith, strict_not (short_unsigned v) (next - at) (let_unsigned true at (lax_unsigned B s at) e).1)

  pub strict_most_signed : {z : ℤ} {next : ℕ} → read_signed true B s at ≡ ok_at z next → next ≤ at + length (short_signed z)
  unfolding read_signed
  strict_most_signed {z} {next} e = omega (arith, strict_not (short_signed z) (next - at) (let_signed true at (lax_signed B s at) e).1)

-- ---- what a setting reads is what lax reading does, unless it refuses a number that is longer than its shortest form
-- of what was read in n bytes, against a shortest form
unless_padded : {X : Type 0} (bad : Refusal → ℕ → X) (P : Said) (t : Bool) (l : List ℕ) (n at : ℕ) (x : X) → (length l < n → P Padded at) → Unless bad P (cond (padded t l n) (bad Padded at) x) x
unless_padded bad P t l n at x says = go (padded t l n) refl
  where
    go : (b : Bool) → padded t l n ≡ b → Unless bad P (cond b (bad Padded at) x) x
    go true f = but Padded at refl (says (padded_more t l n f))
    go false f = same refl

module _ (P : Said) (t : Bool) (B : ℕ) (s : List ℕ) (at : ℕ) where
  pub unless_unsigned : (LongerUnsigned B s at → P Padded at) → Unless err_at P (read_unsigned t B s at) (read_unsigned false B s at)
  unfolding read_unsigned
  unless_unsigned says = go (lax_unsigned B s at) refl
    where
      go : (r : Unsigned) → lax_unsigned B s at ≡ r → Unless err_at P (unpadded_unsigned t at r) (unpadded_unsigned false at r)
      go (Err x) e = same refl
      go (Ok (v, next)) e = unless_padded err_at P t (short_unsigned v) (next - at) at (ok_at v next) (λ h. says (record { value = v; next = next; read = e; longer = omega arith }))

  pub unless_signed : (LongerSigned B s at → P Padded at) → Unless err_at P (read_signed t B s at) (read_signed false B s at)
  unfolding read_signed
  unless_signed says = go (lax_signed B s at) refl
    where
      go : (r : Signed) → lax_signed B s at ≡ r → Unless err_at P (unpadded_signed t at r) (unpadded_signed false at r)
      go (Err x) e = same refl
      go (Ok (z, next)) e = unless_padded err_at P t (short_signed z) (next - at) at (ok_at z next) (λ h. says (record { value = z; next = next; read = e; longer = omega arith }))

-- ---- the shortest form is read by either setting
module _ (t : Bool) (B : ℕ) (s : List ℕ) (at : ℕ) (rest : List ℕ) (wide : 0 < B) where
  pub read_unsigned_law : (x : ℕ) → x < 2 ^ B → drop at s ≡ short_unsigned x ++ rest → read_unsigned t B s at ≡ ok_at x (at + length (short_unsigned x))
  read_unsigned_law x h e =
      sym (value_unsigned t B s at (length (short_unsigned x)) (sym (read_short_unsigned B x s at rest wide h e)) (padded_not t (short_unsigned x) (length (short_unsigned x)) (omega arith)))

  pub read_signed_law : (z : ℤ) → mag z < 2 ^ (B - 1) → drop at s ≡ short_signed z ++ rest → read_signed t B s at ≡ ok_at z (at + length (short_signed z))
  read_signed_law z h e =
      sym (value_signed t B s at (length (short_signed z)) (sym (read_short_signed B z s at rest wide h e)) (padded_not t (short_signed z) (length (short_signed z)) (omega arith)))

-- where it was written
back_at : (old bytes : List ℕ) (at : ℕ) → at + length bytes ≤ length old → drop at (sets old at bytes) ≡ bytes ++ drop (at + length bytes) old
back_at old bytes at h =
    let l : at ≤ length old = omega arith in
    rw (sets-eq bytes old at h, append_assoc) (drop_at (take at old) (bytes ++ drop (at + length bytes) old) at (length-take-le at old l))

module _ (t : Bool) (B : ℕ) (old new : List ℕ) (at next : ℕ) (wide : 0 < B) where
  pub written_unsigned : (x : ℕ) → x < 2 ^ B → at + length (short_unsigned x) ≤ length old → Written old new at next (short_unsigned x) → read_unsigned t B new at ≡ ok_at x next
  written_unsigned x h l w = rw (w.list, w.place) (read_unsigned_law t B _ at _ wide x h (back_at old (short_unsigned x) at l))

  pub written_signed : (z : ℤ) → mag z < 2 ^ (B - 1) → at + length (short_signed z) ≤ length old → Written old new at next (short_signed z) → read_signed t B new at ≡ ok_at z next
  written_signed z h l w = rw (w.list, w.place) (read_signed_law t B _ at _ wide z h (back_at old (short_signed z) at l))

-- between two lists
module _ (t : Bool) (B : ℕ) where
  pub between_unsigned : (x : ℕ) (s rest : List ℕ) → 0 < B → x < 2 ^ B
      → read_unsigned t B (s ++ (short_unsigned x ++ rest)) (length s) ≡ ok_at x (length s + length (short_unsigned x))
  between_unsigned x s rest b h = read_unsigned_law t B (s ++ (short_unsigned x ++ rest)) (length s) rest b x h (drop-append_seam s (short_unsigned x ++ rest))

  pub between_signed : (z : ℤ) (s rest : List ℕ) → 0 < B → mag z < 2 ^ (B - 1)
      → read_signed t B (s ++ (short_signed z ++ rest)) (length s) ≡ ok_at z (length s + length (short_signed z))
  between_signed z s rest b h = read_signed_law t B (s ++ (short_signed z ++ rest)) (length s) rest b z h (drop-append_seam s (short_signed z ++ rest))
