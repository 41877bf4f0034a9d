-- The text handed out, as the code asks it.
-- Assumes nothing.
use Prim.Native.Nat.{ℕ, ◌≤◌, ◌<◌}
use mathlib.Core.Path.{◌≡◌, refl, ap, sym, ◌∙◌}
use mathlib.Core.List.{List, ◌++◌}
use native.Mathlib.Omega.{arith}
use lib.ListN.{length, drop}
use borrow.Author.Rules.{rules}
use Rattle.answer.specs.declared.Answer.{Answer}
use Rattle.answer.specs.Outcome.{accepted, success, no_room, itself}
use Rattle.answer.specs.Outcome.Laws.{Counted, answer_fits, answer_long, filled_self, filled_long}
use Rattle.listing.specs.Text.{text_of, text_room}
use Rattle.listing.specs.Contract.{Lists}
use Rattle.listing.specs.Inner.{Copies}

-- ---- bytes handed out
module _ (bytes old : List ℕ) where
  whole : Counted (accepted bytes) (length bytes)
  whole = record { list = bytes; is = refl; long = refl }

  pub copy_long : {r : Answer} → length old < length bytes → r ≡ no_room (length bytes) → Copies bytes old r old
  copy_long k e = record { answer = e ∙ sym (answer_long (length old) whole k); text = sym (filled_long itself old whole k) }

  pub copy_all : {r : Answer} {new : List ℕ} → length bytes ≤ length old → r ≡ success (length bytes) → new ≡ bytes → Copies bytes old r (new ++ drop (length bytes) old)
  copy_all k e f =
      record { answer = e ∙ sym (answer_fits (length old) whole k); text = ap (λ (t : List ℕ). t ++ drop (length bytes) old) f ∙ sym (filled_self old refl k) }

pub ruleset copies = (copy_long, copy_all, rules)

-- ---- the page's text
pub listed : (input lent : List ℕ) {page bytes new : List ℕ} {r : Answer} → page ≡ text_of input → length page ≤ text_room → bytes ≡ page → Copies bytes lent r new → Lists input lent r new
listed input lent {page} {bytes} {new} {r} e h f c =
    let d : Copies (text_of input) lent r new = rw (sym e ∙ sym f) c in
    record { answer = d.answer; text = d.text; few = omega (arith, ap length e) }
