-- The number of a refusal that a match has found, however many refusals there are.
-- Assumes nothing.
use Prim.Native.Nat.{ℕ}
use mathlib.Core.Path.{◌≡◌, sym, ap, ◌∙◌}
use borrow.Author.Rules.{rules}
use Rattle.answer.specs.declared.Refusal.{Refusal}
use Rattle.answer.specs.Outcome.{number_of}

pub number_of_law : (w v : Refusal) (n : ℕ) → w ≡ v → number_of v ≡ n → n ≡ number_of w
number_of_law w v n e f = sym (ap number_of e ∙ f)

pub ruleset numbers = (number_of_law, rules)
