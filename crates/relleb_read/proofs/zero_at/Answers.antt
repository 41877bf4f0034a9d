use Prim.Native.Nat.{ℕ}
use mathlib.Core.Path.{◌≡◌, sym, ◌∙◌}
use native.Mathlib.Omega.{arith}
use borrow.Author.Tests.{eq-eqb}
use Rattle.answer.specs.Bytes.{bytes_of_law}
use Rattle.relleb_read.proofs.EntryNeeds.{changes_past, changes_byte}
use Rattle.relleb_read.proofs.zero_at.Goals as goal

pub returns-then-at-s : goal.returns-then-at-s
returns-then-at-s c =
    λ h. changes_byte c.args.s.now c.args.at c.args.strict (bytes_of_law c.args.s.now (λ i. (c.type_inv.s i).fits))
    (λ e. (let q = sym (eq-eqb _ _ e) ∙ h in let z : ◌≡◌ {A = ℕ} 0 1 = cc in omega arith))

pub returns-else-at-s : goal.returns-else-at-s
returns-else-at-s c = λ h. changes_past _ _ c.args.strict c.if-at-s.false
