use mathlib.Core.Path.{◌≡◌, refl, ap, ◌∙◌}
use Rattle.std.proofs.Common.{inl, inr}
use Prim.Native.Nat.{ℕ, suc, ◌+◌, ◌-◌, ◌*◌, ◌≤◌, ◌<◌}
use native.Mathlib.Omega.{arith}
use borrow.Author.Rules.{rules}
use lib.ListN.{drop, get_or}
use lib.Pow.{pow_mono}
use Rattle.leb128.specs.Number.{raw}
use Rattle.leb128.proofs.Reading.{onto, onto_none, low_more, at_end, at_last, shl_is, turned, no_more}
use Rattle.answer.specs.declared.Refusal.TheVariants.{Width}
use Rattle.answer.specs.Outcome.{refused_at}
use Rattle.leb128.proofs.scan.Goals as goal

pub loop-i-init : goal.loop-i-init
loop-i-init c =
    (omega arith, search rules, search rules, onto_none _ ∙ ap (λ (n : ℕ). onto 0 0 (raw (suc n) (drop c.args.at c.args.s.now))) e)
  where
    e : c.args.last ≡ c.args.last - 0
    e = omega arith

pub returns-then-s-i : goal.returns-then-s-i
returns-then-s-i c =
    inl (c.loop-i.invariant.3 ∙ ap (onto _ _) (at_end _ _ _ c.if-s-i.true), refl)

pub overflow_cast-b : goal.overflow_cast-b
overflow_cast-b c = omega (arith, c.type_inv.s c.loop-i.i)

pub returns-then-b-lt128 : goal.returns-then-b-lt128
returns-then-b-lt128 c =
    let l = c.loop-i in
    (l.invariant.3 ∙ ap (onto _ _) (at_last _ _ _ c.if-s-i.false c.if-b-lt128.true), l.invariant.2, c.if-b-lt128.true, l.invariant.1)

pub returns-then-last-j : goal.returns-then-last-j
returns-then-last-j c =
    let l = c.loop-i in
    let p : l.i ≡ c.args.at + c.args.last = omega (arith, l.invariant.0, l.invariant.1, c.if-last-j.true) in
    inr (no_more _ _ _ _ _ _ l.invariant.3 (c.type_inv.s l.i).fits c.if-b-lt128.false c.if-s-i.false l.invariant.1 c.if-last-j.true, ap (refused_at Width) p)

pub overflow_add-low : goal.overflow_add-low
overflow_add-low c =
    let l = c.loop-i in
    let h : get_or c.args.s.now l.i 0 - 128 < 128 = omega (arith, c.type_inv.s l.i) in
    let k : 7 * (l.j + 1) ≤ 63 = omega arith in
    rw (shl_is 7 (7 * l.j) h (search rules)) (omega (arith, low_more l.j l.invariant.2 h, pow_mono k))

pub loop-i-preserved : goal.loop-i-preserved
loop-i-preserved c =
    let l = c.loop-i in
    let h : get_or c.args.s.now l.i 0 - 128 < 128 = omega (arith, c.type_inv.s l.i) in
    rw (shl_is 7 (7 * l.j) h (search rules)) (
      omega (arith, l.invariant.0),
      search rules,
      low_more l.j l.invariant.2 h,
      turned _ _ _ _ _ _ l.invariant.3 (c.type_inv.s l.i).fits c.if-b-lt128.false c.if-s-i.false c.if-last-j.false,
    )
