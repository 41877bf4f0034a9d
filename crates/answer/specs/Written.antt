-- A lent buffer after stores one behind another.
-- Assumes nothing.
use Rattle.std.specs.Prelude.{ℕ, ◌+◌, ◌≡◌, List, ◌++◌, length}
use Rattle.std.proofs.Common.{ap, ◌∙◌, arith, length-append}
use Rattle.std.proofs.lemmas.List.Edits.{sets}
use Rattle.std.proofs.Math.Seq.{length-sets}
use Rattle.answer.specs.Outcome.Laws.{sets_append}

-- the elements l stand at a place of what was there, and `next` is the place past them
pub record Written {A : Type 0} (old new : List A) (at next : ℕ) (l : List A) : Type 0 where
  pub list : new ≡ sets old at l
  pub place : next ≡ at + length l

module _ {A : Type 0} where
  -- one write after another is one write of both
  pub written_then : {old mid new a b : List A} {at next past : ℕ} → Written old mid at next a → Written mid new next past b → Written old new at past (a ++ b)
  written_then {old} {mid} {new} {a} {b} {at} v w =
      record {
        list = w.list ∙ rw (v.place, v.list) (sets_append old at a b);
        place = omega (arith, v.place, w.place, length-append a b);
      }

  -- the length stays
  pub written_long : {old new l : List A} {at next : ℕ} → Written old new at next l → length new ≡ length old
  written_long {old} {l = l} {at = at} w = ap length w.list ∙ length-sets old at l
