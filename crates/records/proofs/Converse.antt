-- The converse of the round trip: where each record that is read stands in the bytes that are written for it, the input is what is written for the list.
-- Assumes nothing.
use Prim.Native.Nat.{ℕ, zero, suc, ◌+◌, ◌≤◌}
use mathlib.Core.Path.{◌≡◌, refl, ap, sym, ◌∙◌}
use mathlib.Core.Bool.{Bool, true, false, cond}
use mathlib.Core.List.{List, [], ◌∷◌, ◌++◌}
use lib.Dec.{ltb}
use lib.ListN.{length, drop, drop_of_length-le}
use borrow.Author.Tests.{ltb-false}
use Rattle.answer.specs.declared.Refusal.TheVariants.{Trailing}
use Rattle.answer.specs.Outcome.{Outcome, accepted, refused, before, after}
use Rattle.answer.specs.Outcome.Laws.{accepted_refused}
use Rattle.records.proofs.Writing.{after_accepted}
use Rattle.records.specs.Reading.{Step, one, none, step_then, records, counted}
use Rattle.records.specs.Writing.{Put, bytes, puts}
use Rattle.records.specs.Writing.Laws.{puts_more, puts_end}
use Rattle.std.specs.Prelude.{Ok, Err}
use Rattle.leb128.specs.Number.{Unsigned}
use Rattle.leb128.specs.Number.{ok_at}

-- ---- what an accepted reading is made of
-- the first record, and those of the rest
record Taken {S A : Type 0} (step : ℕ → S → Step S A) (end n at : ℕ) (st : S) (l : List A) : Type 0 where
  first : A
  past : ℕ
  state : S
  is : step at st ≡ one first past state
  rest : List A
  left : records step end n past state ≡ accepted rest
  whole : l ≡ first ∷ rest

module _ {S A : Type 0} (step : ℕ → S → Step S A) (end : ℕ) where
  taken : (n at : ℕ) (st : S) {l : List A} → records step end (suc n) at st ≡ accepted l → Taken step end n at st l
  unfolding records step_then before
  taken n at st {l} e = go (step at st) refl e
    where
      last : (x : A) (past : ℕ) (next : S) → step at st ≡ one x past next → (o : Outcome (List A)) → records step end n past next ≡ o → before x o ≡ accepted l → Taken step end n at st l
      last x past next f (accepted m) g e = record { first = x; past = past; state = next; is = f; rest = m; left = g; whole = cc }
      last x past next f (refused why p) g e = absurd (accepted_refused e refl)

      go : (y : Step S A) → step at st ≡ y → step_then y (records step end n) ≡ accepted l → Taken step end n at st l
      go (one x past next) f e = last x past next f (records step end n past next) refl e
      go (none why p) f e = absurd (accepted_refused e refl)

  taken_none : (at : ℕ) (st : S) {l : List A} → records step end 0 at st ≡ accepted l → (end ≤ at) × (l ≡ [])
  unfolding records
  taken_none at st {l} e = go (ltb at end) refl e
    where
      go : (t : Bool) → ltb at end ≡ t → cond t (refused Trailing at) (accepted []) ≡ accepted l → (end ≤ at) × (l ≡ [])
      go true h e = absurd (accepted_refused e refl)
      go false h e = (ltb-false at end h, cc)

-- ---- the converse
-- the record x, read at a place of s after the state st, stands there in the bytes that are written for it after that state; `now` is the state behind it
pub record Verbatim {S A : Type 0} (put : S → A → Put) (next : S → A → S) (Good : S → Type 0) (s : List ℕ) (at : ℕ) (st : S) (x : A) (past : ℕ) (now : S) : Type 0 where
  pub own : List ℕ
  pub is : put st x ≡ bytes own
  pub here : drop at s ≡ own ++ drop past s
  pub state : now ≡ next st x
  pub good : Good now

module _ {S A : Type 0} (step : ℕ → S → Step S A) (put : S → A → Put) (next : S → A → S) (Good : S → Type 0) (s : List ℕ)
    (each : (at : ℕ) (st : S) (x : A) (past : ℕ) (now : S) → Good st → step at st ≡ one x past now → Verbatim put next Good s at st x past now) where
  -- n records from a place on are so many, and the bytes from there on are those that are written for them
  forth : (n at i : ℕ) (st : S) {l : List A} → Good st → records step (length s) n at st ≡ accepted l → (puts put next i st l ≡ accepted (drop at s)) × (length l ≡ n)
  forth zero at i st {l} g e =
      let (h, z) = taken_none step (length s) at st e in
      (ap (puts put next i st) z ∙ puts_end put next i st ∙ ap accepted (sym (drop_of_length-le s h)), ap length z)
  forth (suc n) at i st {l} g e =
      let c = taken step (length s) n at st e in
      let v = each at st c.first c.past c.state g c.is in
      let (p, m) = forth n c.past (i + 1) c.state v.good c.left in
      let q : puts put next (i + 1) (next st c.first) c.rest ≡ accepted (drop c.past s) = ap (λ (t : S). puts put next (i + 1) t c.rest) (sym v.state) ∙ p in (
        ap (puts put next i st) c.whole ∙ puts_more put next i st c.first c.rest v.is ∙ after_accepted v.own q ∙ ap accepted (sym v.here),
        ap length c.whole ∙ ap suc m,
      )

  -- so of a whole table: what a count announces, behind a head that stands there as it is written for so many records
  module _ (head_of : ℕ → List ℕ) (st : S) (good : Good st) {l : List A} where
    pub forth_counted : (u : Unsigned) → ((n first : ℕ) → u ≡ ok_at n first → s ≡ head_of n ++ drop first s) → counted step (length s) st u ≡ accepted l
        → after (head_of (length l)) (puts put next 0 st l) ≡ accepted s
    unfolding counted
    forth_counted (Ok (n, first)) heads e =
        let (p, m) = forth n first 0 st good e in
        after_accepted (head_of (length l)) p ∙ ap accepted (ap (λ (k : ℕ). head_of k ++ drop first s) m ∙ sym (heads n first refl))
    forth_counted (Err x) heads e = absurd (accepted_refused e refl)
