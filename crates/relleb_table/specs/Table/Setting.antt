-- What a setting makes of a table: what lax reading does, unless it refuses a number longer than its shortest form or an addend's difference of 0.
-- Assumes nothing.
use Rattle.std.specs.Prelude.{ℕ, ◌≡◌, Bool, cond, List, ◌⊎◌, ℤ, pos, negsuc, ◌+ℤ◌, length, leb}
use Rattle.std.proofs.Math.Path.{refl}
use Rattle.std.proofs.Common.{sym, ap, ◌∙◌, arith}
use Rattle.std.proofs.Math.Bool.{true, false}
use Rattle.std.proofs.Math.Logic.{inl, inr}
use Rattle.answer.specs.declared.Refusal.TheVariants.{Limit, Padded, Zero}
use Rattle.answer.specs.Outcome.{accepted, refused, input_limit}
use Rattle.answer.specs.Said.{Said}
use Rattle.answer.specs.Unless.{Unless, same, but, unless_at, unless_then, unless_cond, unless_accepted}
use Rattle.leb128.specs.Number.{read_unsigned, read_signed}
use Rattle.leb128.specs.Longer.{LongerUnsigned, LongerSigned}
use Rattle.leb128.proofs.Setting.{unless_unsigned, unless_signed}
use Rattle.records.specs.Reading.{one, none}
use Rattle.records.proofs.Unless.{unless_counted}
use Rattle.wrap.specs.Wrap.{wrapped}
use Rattle.relleb_table.specs.Table.{Row, row, State, state, start, no_change, with_addend, with_symbol, with_type, with_offset, step_at, parse, decode}
use Rattle.relleb_table.specs.Table.Laws.{no_change_law}
use Rattle.std.specs.Prelude.{Ok, Err}
use Rattle.answer.specs.Outcome.{err_at}
use Rattle.leb128.specs.Number.{Unsigned, Signed, ok_at}

-- a number longer than its shortest form: the count, a difference of offsets, one of types, a symbol field, or a difference of addends
abbrev pub Longer : ℕ → List ℕ → ℕ → Type 0
Longer W s p = LongerUnsigned 64 s p ⊎ (LongerUnsigned W s p ⊎ (LongerSigned 32 s p ⊎ (LongerSigned 33 s p ⊎ LongerSigned W s p)))

-- a difference of addends, in its shortest form, that is 0
abbrev pub Unchanged : ℕ → List ℕ → ℕ → Type 0
Unchanged W s p = (next : ℕ) × (read_signed true W s p ≡ ok_at (pos 0) next)

-- the one or the other is refused, at its first byte
abbrev pub Spelled : ℕ → List ℕ → Said
Spelled W s why p = ((why ≡ Padded) × Longer W s p) ⊎ ((why ≡ Zero) × Unchanged W s p)

module _ (strict : Bool) (W : ℕ) (s : List ℕ) where
  -- a difference that the setting refuses is 0
  unchanged : (at past : ℕ) (e : ℤ) → read_signed strict W s at ≡ ok_at e past → no_change strict e ≡ true → Unchanged W s at
  unchanged at past e f h = go strict f h
    where
      go : (t : Bool) → read_signed t W s at ≡ ok_at e past → no_change t e ≡ true → Unchanged W s at
      go false f h = let z : ◌≡◌ {A = ℕ} 0 1 = cc in absurd (omega arith)
      go true f h = (past, f ∙ ap (λ (z : ℤ). ok_at z past) (no_change_law e h))

  addend : (at : ℕ) (base : ℤ) (o t y : ℕ) (u : Signed) → read_signed strict W s at ≡ u → Unless none (Spelled W s) (with_addend strict W at base o t y u) (with_addend false W at base o t y u)
  unfolding with_addend
  addend at base o t y (Ok (e, past)) f = go (no_change strict e) refl
    where
      go : (b : Bool) → no_change strict e ≡ b → Unless none (Spelled W s) (cond b (none Zero at) (one (row o t y (wrapped W (base +ℤ e))) past (state o t (wrapped W (base +ℤ e)))))
          (one (row o t y (wrapped W (base +ℤ e))) past (state o t (wrapped W (base +ℤ e))))
      go true h = but Zero at refl (inr (refl, unchanged at past e f h))
      go false h = same refl
  addend at base o t y (Err e) f = same refl

  symbol : (base : ℤ) (o t : ℕ) (u : Signed) → Unless none (Spelled W s) (with_symbol strict W s base o t u) (with_symbol false W s base o t u)
  unfolding with_symbol with_addend
  symbol base o t (Ok ((pos y), next)) = same refl
  symbol base o t (Ok ((negsuc y), next)) =
      unless_at err_at none (Spelled W s) (with_addend strict W next base o t y) (with_addend false W next base o t y) (λ why p. refl)
      (read_signed strict W s next) (read_signed false W s next) (addend next base o t y (read_signed strict W s next) refl) (unless_signed (Spelled W s) strict W s next (λ h. inl (refl, inr (inr (inr (inr h))))))
  symbol base o t (Err e) = same refl

  type : (prev : State) (o : ℕ) (u : Signed) → Unless none (Spelled W s) (with_type strict W s prev o u) (with_type false W s prev o u)
  unfolding with_type with_symbol
  type prev o (Ok (d, next)) =
      unless_then err_at none (Spelled W s) (with_symbol strict W s prev.addend o _) (with_symbol false W s prev.addend o _) (λ why p. refl) (symbol prev.addend o _)
      (read_signed strict 33 s next) (read_signed false 33 s next) (unless_signed (Spelled W s) strict 33 s next (λ h. inl (refl, inr (inr (inr (inl h))))))
  type prev o (Err e) = same refl

  offset : (prev : State) (u : Unsigned) → Unless none (Spelled W s) (with_offset strict W s prev u) (with_offset false W s prev u)
  unfolding with_offset with_type
  offset prev (Ok (d, next)) =
      unless_then err_at none (Spelled W s) (with_type strict W s prev _) (with_type false W s prev _) (λ why p. refl) (type prev _)
      (read_signed strict 32 s next) (read_signed false 32 s next) (unless_signed (Spelled W s) strict 32 s next (λ h. inl (refl, inr (inr (inl h)))))
  offset prev (Err e) = same refl

  step : (at : ℕ) (prev : State) → Unless none (Spelled W s) (step_at strict W s at prev) (step_at false W s at prev)
  unfolding step_at with_offset
  step at prev =
      unless_then err_at none (Spelled W s) (with_offset strict W s prev) (with_offset false W s prev) (λ why p. refl) (offset prev)
      (read_unsigned strict W s at) (read_unsigned false W s at) (unless_unsigned (Spelled W s) strict W s at (λ h. inl (refl, inr (inl h))))

  pub decode_unless : Unless refused (Spelled W s) (decode strict W s) (decode false W s)
  unfolding decode parse
  decode_unless =
      unless_cond refused (Spelled W s) (leb (length s) input_limit) (parse strict W s) (parse false W s) (refused Limit 0)
      (unless_counted (Spelled W s) (step_at strict W s) (step_at false W s) (length s) step start _ _
      (unless_unsigned (Spelled W s) _ 64 s 0 (λ h. inl (refl, inl h))))

  -- what is accepted is accepted laxly, as the same list
  pub decode_lax : {l : List Row} → decode strict W s ≡ accepted l → decode false W s ≡ decode strict W s
  decode_lax e = unless_accepted (Spelled W s) decode_unless e ∙ sym e
