-- The needs of the readers of a record and of the head, as the code asks them: what a callee's contract says of what it read or refused.
-- Assumes nothing.
use Prim.Native.Nat.{ℕ}
use mathlib.Core.Path.{◌≡◌, refl, ap, ap₂, sym, ◌∙◌}
use mathlib.Core.Bool.{Bool, true, false}
use mathlib.Core.List.{List}
use lib.IntN.{ℤ, pos, ◌+ℤ◌}
use lib.Signed.{mag}
use mir.Syntax.{w64}
use mir.Val.{to_z, of_z}
use Rattle.std.specs.Prelude.{Ok, Err, Option, Some, None}
use Rattle.answer.specs.declared.Refusal.TheVariants.{Identifier, Width}
use Rattle.answer.specs.declared.Refused.{Refused}
use Rattle.answer.specs.Outcome.{err_at}
use Rattle.leb128.specs.Number.{Unsigned, ok_at, read_signed, is_neg}
use Rattle.leb128.specs.Inner.{EndsNumber}
use Rattle.records.specs.Identifier.{starts_with}
use Rattle.records.specs.Reading.{one, none}
use Rattle.wrap.specs.Wrap.{residue, wrapped}
use Rattle.apa1_table.specs.Table.{row, identifier, step_at, plain, head_at}
use Rattle.apa1_table.specs.Table.Laws.{step_not, step_not_2, step_is, head_other, head_not, head_is, count_negative, count_other, plain_is, plain_not}
use Rattle.apa1_read.specs.Inner.{EndsRecord, Skips}

-- a signed number as the code passes it on: by its bits
abbrev Bits : ℤ → ℤ
Bits z = to_z w64 (of_z w64 z)

-- ---- a record
module _ (strict : Bool) (s : List ℕ) (at o : ℕ) (a : ℤ) where
  pub entry_not : {e : Refused} → Err e ≡ read_signed strict 64 s at → none e.why e.place ≡ step_at strict s at (row o a)
  entry_not f = sym (step_not strict s at (row o a) (sym f))

  module _ {d : ℤ} {next : ℕ} (f : ok_at d next ≡ read_signed strict 64 s at) where
    pub entry_not_2 : {e : Refused} → Err e ≡ read_signed strict 64 s next → none e.why e.place ≡ step_at strict s at (row o a)
    entry_not_2 g = sym (step_not_2 strict s at (row o a) (sym f) (sym g))

    -- m and z are the sums
    pub entry_is : {b : ℤ} {past m : ℕ} {z : ℤ} → ok_at b past ≡ read_signed strict 64 s next → m ≡ residue 64 (pos o +ℤ Bits d) → z ≡ wrapped 64 (Bits a +ℤ Bits b)
        → Bits d ≡ d → Bits a ≡ a → Bits b ≡ b → Bits z ≡ z → one (row m (Bits z)) past (row m (Bits z)) ≡ step_at strict s at (row o a)
    entry_is {b} {past} {m} {z} h k l i j n q =
        let u : row m (Bits z) ≡ row (residue 64 (pos o +ℤ d)) (wrapped 64 (a +ℤ b)) =
        ap₂ row (k ∙ ap (λ (y : ℤ). residue 64 (pos o +ℤ y)) i) (q ∙ l ∙ ap₂ (λ (y w : ℤ). wrapped 64 (y +ℤ w)) j n) in
        sym (step_is strict s at (row o a) (sym f) (sym h) u)

-- ---- a record that is passed over
module _ (strict : Bool) (s : List ℕ) (at : ℕ) where
  pub skip_not : {e : Refused} → Err e ≡ read_signed strict 64 s at → Skips strict s at (Err e)
  skip_not f prev = step_not strict s at prev (sym f)

  module _ {d : ℤ} {next : ℕ} (f : ok_at d next ≡ read_signed strict 64 s at) where
    pub skip_not_2 : {e : Refused} → Err e ≡ read_signed strict 64 s next → Skips strict s at (Err e)
    skip_not_2 g prev = step_not_2 strict s at prev (sym f) (sym g)

    pub skip_is : {a : ℤ} {past : ℕ} → ok_at a past ≡ read_signed strict 64 s next → Skips strict s at (Ok past)
    skip_is g prev = (_, step_is strict s at prev (sym f) (sym g) refl)

-- ---- the place past a record
pub record_ends : (strict : Bool) (s : List ℕ) (at : ℕ) {next : ℕ} (r : Option ℕ) → EndsNumber strict 64 s at (Some next) → EndsNumber strict 64 s next r → EndsRecord strict s at r
record_ends strict s at (Some past) f g = let (d, e) = f in let (a, i) = g in λ prev. (_, step_is strict s at prev e i refl)
record_ends strict s at None f g = tt

-- ---- the count
module _ (strict : Bool) (s : List ℕ) where
  pub count_bad : {e : Refused} → Err e ≡ read_signed strict 64 s 4 → Err e ≡ plain (read_signed strict 64 s 4)
  count_bad f = sym (plain_not (sym f))

  pub count_is : {z : ℤ} {first m : ℕ} → ok_at z first ≡ read_signed strict 64 s 4 → m ≡ mag (Bits z) → Bits z ≡ z → ok_at m first ≡ plain (read_signed strict 64 s 4)
  count_is {z} {first} f g i = ap (λ (y : ℕ). ok_at y first) (g ∙ ap mag i) ∙ sym (plain_is z first) ∙ ap plain f

-- ---- the head
module _ (strict : Bool) (s : List ℕ) {t : Bool} (e : t ≡ starts_with identifier s) where
  pub head_none : t ≡ false → err_at Identifier 0 ≡ head_at strict s
  head_none f = sym (head_other strict s (sym e ∙ f))

  module _ (n : t ≡ true) where
    pub head_bad : {x : Refused} → Err x ≡ read_signed false 64 s 4 → Err x ≡ head_at strict s
    head_bad h = sym (head_not strict s (sym e ∙ n) (sym h))

    module _ {z : ℤ} {first : ℕ} (h : ok_at z first ≡ read_signed false 64 s 4) {b : Bool} (k : b ≡ is_neg (Bits z)) (i : Bits z ≡ z) where
      sign : b ≡ is_neg z
      sign = k ∙ ap is_neg i

      pub head_negative : b ≡ true → err_at Width 4 ≡ head_at strict s
      head_negative l = sym (head_is strict s (sym e ∙ n) (sym h) ∙ count_negative z first _ (sym sign ∙ l))

      pub head_count_law : {u : Unsigned} → b ≡ false → u ≡ plain (read_signed strict 64 s 4) → u ≡ head_at strict s
      head_count_law l q = q ∙ sym (head_is strict s (sym e ∙ n) (sym h) ∙ count_other z first _ (sym sign ∙ l))
