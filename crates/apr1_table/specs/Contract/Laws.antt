-- The second pass of a read is lax: what the first found by the setting is the same list so.
-- Assumes nothing.
use Rattle.std.specs.Prelude.{ℕ, ◌≤◌, ◌≡◌, Bool, false, List, length}
use Rattle.std.proofs.Common.{ap, sym, ◌∙◌, arith}
use Rattle.answer.specs.declared.Answer.{Answer}
use Rattle.answer.specs.Outcome.{Outcome, success, found_of, itself, filled}
use Rattle.answer.specs.Outcome.Laws.{Counted, found_count, gives_full}
use Rattle.records.specs.Reading.{Fitting}
use Rattle.apr1_table.specs.Table.{decode}
use Rattle.apr1_table.specs.Table.Setting.{decode_lax}
use Rattle.apr1_table.specs.Contract.{Reads}
use Rattle.std.specs.Prelude.{Result, Ok}
use Rattle.answer.specs.declared.Refused.{Refused}

module _ (strict : Bool) (s : List ℕ) {f : Result ℕ Refused} (is : f ≡ found_of (decode strict s)) {k : ℕ} (e : f ≡ Ok k) where
  all : Counted (decode strict s) k
  all = found_count (decode strict s) (sym is ∙ e)

  pub fillable : {room : ℕ} → k ≤ room → Fitting (decode false s) room
  fillable h = record { list = all.list; is = decode_lax strict s all.is ∙ all.is; fits = omega (arith, all.long) }

  pub reads_full : {old new : List ℕ} {r : Answer} → k ≤ length old → new ≡ filled itself (decode false s) old → r ≡ success k → Reads strict s old r new
  reads_full {old} h d a = gives_full old is e h (d ∙ ap (λ (o : Outcome (List ℕ)). filled itself o old) (decode_lax strict s all.is)) a
