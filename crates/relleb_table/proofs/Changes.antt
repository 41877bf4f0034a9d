-- The writer makes no addend difference of 0: behind a negative symbol field stands a number that is not 0.
-- Assumes nothing.
use Prim.Native.Nat.{ℕ, ◌-◌, ◌^◌, ◌≤◌, ◌<◌}
use mathlib.Core.Path.{◌≡◌, ap, sym, ◌∙◌}
use mathlib.Core.Bool.{Bool, true, cond}
use mathlib.Core.List.{List, [], ◌∷◌}
use native.Mathlib.Omega.{arith}
use lib.IntN.{ℤ, pos, negsuc, ◌+ℤ◌, ◌-ℤ◌, +ℤ_idr}
use lib.Pow.{pow_mono, pow_pos}
use lib.Signed.{mag}
use mir.Syntax.{w64}
use mir.Val.{of_z}
use borrow.Author.Tests.{eq-eqb}
use Rattle.leb128.specs.Number.{IsWidth}
use Rattle.records.specs.Columns.{Each}
use Rattle.wrap.specs.Wrap.{wrapped, same}
use Rattle.wrap.specs.Wrap.Laws.{back_wrapped, wrapped_same, same_bits}
use Rattle.relleb_table.specs.Table.{Row, State, start, behind, field_of, InWidth, Changed, Along}
use Rattle.relleb_table.specs.Table.Laws.{field_is}

module _ (W : ℕ) (wide : IsWidth W) where
  -- a difference of 0 leads from an addend to itself
  unchanged : (a b : ℤ) → mag a < 2 ^ (W - 1) → mag b < 2 ^ (W - 1) → wrapped W (a -ℤ b) ≡ pos 0 → same a b ≡ true
  unchanged a b h k z =
      let f : a ≡ b = sym (back_wrapped W wide.0 b a h) ∙ ap (λ (y : ℤ). wrapped W (b +ℤ y)) z ∙ ap (wrapped W) (+ℤ_idr b) ∙ wrapped_same W wide.0 b k in
      let w : W - 1 ≤ 63 = omega (arith, wide.1) in
      let m = pow_mono w in
      sym (same_bits a b (omega arith) (omega arith)) ∙ eq-eqb (of_z w64 a) (of_z w64 b) (ap (of_z w64) f)

  -- one record
  pub entry_changes : (prev : State) (x : Row) → mag prev.addend < 2 ^ (W - 1) → InWidth W x → Changed W prev x
  entry_changes prev x h l n z =
      let s = unchanged x.addend prev.addend l.1 h z in
      let f : field_of prev.addend x ≡ pos x.symbol = field_is prev.addend x ∙ ap (λ (b : Bool). cond b (pos x.symbol) (negsuc x.symbol)) s in
      let o : ◌≡◌ {A = ℕ} 0 1 = cc in
      omega arith

  -- every record of a legal list
  along_changes : (l : List Row) (prev : State) → mag prev.addend < 2 ^ (W - 1) → Each (InWidth W) l → Along (Changed W) prev l
  along_changes [] prev h f = tt
  along_changes (x ∷ l) prev h f = (entry_changes prev x h f.0, along_changes l (behind prev x) f.0.1 f.1)

  pub legal_changes : (l : List Row) → Each (InWidth W) l → Along (Changed W) start l
  legal_changes l f = along_changes l start (pow_pos (W - 1)) f
