-- What a setting makes of a table: what lax reading does, unless it refuses a number longer than its shortest form.
-- Assumes nothing.
use Rattle.std.specs.Prelude.{ℕ, ◌≡◌, Bool, List, leb}
use Rattle.std.proofs.Math.Path.{refl}
use Rattle.std.proofs.Common.{sym, ◌∙◌}
use Rattle.std.proofs.Math.Bool.{false}
use Rattle.std.proofs.Math.ListN.{length}
use Rattle.answer.specs.declared.Refusal.TheVariants.{Limit, Identifier, Space, Padded}
use Rattle.answer.specs.Outcome.{accepted, refused, input_limit}
use Rattle.answer.specs.Said.{Said}
use Rattle.answer.specs.Unless.{Unless, same, unless_then, unless_cond, unless_accepted}
use Rattle.leb128.specs.Number.{read_unsigned}
use Rattle.leb128.specs.Longer.{LongerUnsigned}
use Rattle.leb128.proofs.Setting.{unless_unsigned}
use Rattle.records.specs.Identifier.{starts_with}
use Rattle.records.specs.Reading.{none, records}
use Rattle.records.proofs.Unless.{unless_records}
use Rattle.apr1_table.specs.Table.{identifier, last, second_of, first_of, step_at, joined, with_first, with_count, parse, decode}
use Rattle.std.specs.Prelude.{Ok, Err}
use Rattle.answer.specs.Outcome.{err_at}
use Rattle.leb128.specs.Number.{Unsigned}

-- a number longer than its shortest form is refused, at its first byte
abbrev pub Spelled : List ℕ → Said
Spelled s why p = (why ≡ Padded) × LongerUnsigned 32 s p

module _ (strict : Bool) (s : List ℕ) where
  number : (at : ℕ) → Unless err_at (Spelled s) (read_unsigned strict 32 s at) (read_unsigned false 32 s at)
  number at = unless_unsigned (Spelled s) strict 32 s at (λ h. (refl, h))

  first : (at x : ℕ) (u : Unsigned) → Unless none (Spelled s) (first_of strict s at x u) (first_of false s at x u)
  unfolding first_of second_of
  first at x (Ok (c, next)) =
      unless_then err_at none (Spelled s) (second_of at x c) (second_of at x c) (λ why p. refl) (λ u. same refl) (read_unsigned strict 32 s next) (read_unsigned false 32 s next) (number next)
  first at x (Err e) = same refl

  step : (at x : ℕ) → Unless none (Spelled s) (step_at strict s at x) (step_at false s at x)
  unfolding step_at first_of
  step at x =
      unless_then err_at none (Spelled s) (first_of strict s at x) (first_of false s at x) (λ why p. refl) (first at x) (read_unsigned strict 32 s at) (read_unsigned false 32 s at) (number at)

  with_first_law : (n at : ℕ) (u : Unsigned) → Unless refused (Spelled s) (with_first strict s n at u) (with_first false s n at u)
  unfolding with_first joined
  with_first_law n at (Ok (a, past)) =
      let rest = records (step_at strict s) (length s) n past a in
      let lax = records (step_at false s) (length s) n past a in
      unless_cond refused (Spelled s) (leb a last) (joined a rest) (joined a lax) (refused Space at)
      (unless_then refused refused (Spelled s) (joined a) (joined a) (λ why p. refl) (λ o. same refl) rest lax (unless_records (Spelled s) (step_at strict s) (step_at false s) (length s) step n past a))
  with_first_law n at (Err e) = same refl

  with_count_law : (u : Unsigned) → Unless refused (Spelled s) (with_count strict s u) (with_count false s u)
  unfolding with_count with_first
  with_count_law (Ok (n, next)) =
      unless_then err_at refused (Spelled s) (with_first strict s n next) (with_first false s n next) (λ why p. refl) (with_first_law n next)
      (read_unsigned strict 32 s next) (read_unsigned false 32 s next) (number next)
  with_count_law (Err e) = same refl

  pub decode_unless : Unless refused (Spelled s) (decode strict s) (decode false s)
  unfolding decode parse with_count
  decode_unless =
      let at = length identifier in
      let n = read_unsigned strict 32 s at in
      let lax = read_unsigned false 32 s at in
      unless_cond refused (Spelled s) (leb (length s) input_limit) (parse strict s) (parse false s) (refused Limit 0)
      (unless_cond refused (Spelled s) (starts_with identifier s) (with_count strict s n) (with_count false s lax) (refused Identifier 0)
      (unless_then err_at refused (Spelled s) (with_count strict s) (with_count false s) (λ why p. refl) with_count_law n lax (number at)))

  -- what is accepted is accepted laxly, as the same list
  pub decode_lax : {l : List ℕ} → decode strict s ≡ accepted l → decode false s ≡ decode strict s
  decode_lax e = unless_accepted (Spelled s) decode_unless e ∙ sym e
