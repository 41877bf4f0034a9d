-- What a setting makes of a table: what lax reading does, unless it refuses a number longer than its shortest form.
-- Assumes nothing.
use Rattle.std.specs.Prelude.{ℕ, ◌≡◌, Bool, List, pos, negsuc, leb, Ok, Err}
use Rattle.std.proofs.Math.Path.{refl}
use Rattle.std.proofs.Common.{sym, ◌∙◌}
use Rattle.std.proofs.Math.Bool.{false}
use Rattle.std.proofs.Math.ListN.{length}
use Rattle.answer.specs.declared.Refusal.TheVariants.{Limit, Identifier, Padded}
use Rattle.answer.specs.Outcome.{accepted, refused, input_limit, err_at}
use Rattle.answer.specs.Said.{Said}
use Rattle.answer.specs.Unless.{Unless, same, unless_then, unless_cond, unless_accepted}
use Rattle.leb128.specs.Number.{read_signed, Signed}
use Rattle.leb128.specs.Longer.{LongerSigned}
use Rattle.leb128.proofs.Setting.{unless_signed}
use Rattle.records.specs.Identifier.{starts_with}
use Rattle.records.specs.Reading.{none}
use Rattle.records.proofs.Unless.{unless_counted}
use Rattle.apa1_table.specs.Table.{Row, start, identifier, second_of, first_of, step_at, plain, count_of, head_at, parse, decode}

-- a number longer than its shortest form is refused, at its first byte
abbrev pub Spelled : List ℕ → Said
Spelled s why p = (why ≡ Padded) × LongerSigned 64 s p

module _ (strict : Bool) (s : List ℕ) where
  number : (strict : Bool) (at : ℕ) → Unless err_at (Spelled s) (read_signed strict 64 s at) (read_signed false 64 s at)
  number strict at = unless_signed (Spelled s) strict 64 s at (λ h. (refl, h))

  second : (prev : Row) (u : Signed) → Unless none (Spelled s) (first_of strict s prev u) (first_of false s prev u)
  unfolding first_of second_of
  second prev (Ok (d, next)) =
      unless_then err_at none (Spelled s) (second_of prev d) (second_of prev d) (λ why p. refl) (λ u. same refl) (read_signed strict 64 s next) (read_signed false 64 s next) (number strict next)
  second prev (Err e) = same refl

  step : (at : ℕ) (prev : Row) → Unless none (Spelled s) (step_at strict s at prev) (step_at false s at prev)
  unfolding step_at first_of
  step at prev =
      unless_then err_at none (Spelled s) (first_of strict s prev) (first_of false s prev) (λ why p. refl) (second prev) (read_signed strict 64 s at) (read_signed false 64 s at) (number strict at)

  count : (u v w : Signed) → Unless err_at (Spelled s) v w → Unless err_at (Spelled s) (count_of u v) (count_of u w)
  unfolding count_of plain
  count (Ok (pos n, first)) v w h = unless_then err_at err_at (Spelled s) plain plain (λ why p. refl) (λ u. same refl) v w h
  count (Ok (negsuc n, first)) v w h = same refl
  count (Err e) v w h = same refl

  head : Unless err_at (Spelled s) (head_at strict s) (head_at false s)
  unfolding head_at
  head =
      let at = length identifier in
      unless_cond err_at (Spelled s) (starts_with identifier s) (count_of (read_signed false 64 s at) _) (count_of (read_signed false 64 s at) _)
      (err_at Identifier 0) (count (read_signed false 64 s at) _ _ (number _ at))

  pub decode_unless : Unless refused (Spelled s) (decode strict s) (decode false s)
  unfolding decode parse
  decode_unless =
      unless_cond refused (Spelled s) (leb (length s) input_limit) (parse strict s) (parse false s) (refused Limit 0)
      (unless_counted (Spelled s) (step_at strict s) (step_at false s) (length s) step start (head_at strict s) (head_at false s) head)

  -- what is accepted is accepted laxly, as the same list
  pub decode_lax : {l : List Row} → decode strict s ≡ accepted l → decode false s ≡ decode strict s
  decode_lax e = unless_accepted (Spelled s) decode_unless e ∙ sym e
