-- Document 02, §8: *where* stays a whole number. No number bounds it; case K followed by bitmaps, worked out; and for every *where* the code
-- has a number of 64 bits that says all it needs.
-- Assumes nothing.
use mathlib.Core.List.{List, [], ◌∷◌, ◌++◌}
use mathlib.Core.Path.{◌≡◌, refl, sym, ap, ap₂, ◌∙◌}
use Prim.Native.Nat.{ℕ, zero, suc, ◌+◌, ◌*◌, ◌%◌, ◌^◌, ◌≤◌, ◌<◌}
use native.Mathlib.Decide.{dec_le}
use native.Mathlib.Nat.{mul-le-mul_left, mul-le-mul_right}
use native.Mathlib.Omega.{arith}
use lib.Dec.{lit<, lit≤}
use Rattle.answer.specs.declared.Refusal.TheVariants.{Space}
use Rattle.answer.specs.Outcome.{accepted, refused, after, input_limit}
use Rattle.answer.specs.Outcome.Laws.{after_none}
use Rattle.word.specs.declared.Class.{Class}
use Rattle.word.specs.declared.Size.TheVariants.{Eight}
use Rattle.word.specs.declared.ByteOrder.{ByteOrder}
use Rattle.word.specs.declared.ByteOrder.TheVariants.{Little, Big}
use Rattle.word.specs.Class.{class_in, bytes_of, window_of}
use Rattle.word.specs.Class.Laws.{bytes_least}
use Rattle.word.specs.Word.{value_of, bytes_in, arranged, first_words, words_of, bytes_of_words}
use Rattle.relr_table.specs.Words.{Where, nowhere, from, marked, fit, anchored, read}
use Rattle.relr_table.specs.Table.{space_of, parse, decode}
use Rattle.relr_table.specs.Place.{Place, Nowhere, Beyond, Stands, inside, unset, past}
use Rattle.relr_table.specs.Inner.{read_of}
use Rattle.relr_table.proofs.Marked.{marked_zero}
use Rattle.relr_table.proofs.Passed.{space_most}
use Rattle.relr_table.proofs.PlaceNeeds.{place_far, stands_inside, stands_nowhere, stands_past}
use Rattle.relr_table.proofs.Steps.{read_address, read_far}

-- so many empty bitmaps
abbrev pub empties : ℕ → List ℕ
empties zero = []
empties (suc m) = 1 ∷ empties m

module _ (c n top : ℕ) where
  empty_read : (t : List ℕ) (i u : ℕ) → read c n top (1 ∷ t) i (from u) ≡ read c n top t (i + c) (from (u + n * c))
  unfolding read anchored fit
  empty_read t i u = rw marked_zero (sym (after_none (read c n top t (i + c) (from (u + n * c)))))

  -- behind them *where* is n words further for each, whatever number that is
  pub where_after : (m : ℕ) (t : List ℕ) (i u : ℕ) → read c n top (empties m ++ t) i (from u) ≡ read c n top t (i + m * c) (from (u + m * (n * c)))
  where_after zero t i u = ap₂ (λ (a b : ℕ). read c n top t a (from b)) (omega arith) (omega arith)
  where_after (suc m) t i u =
      empty_read (empties m ++ t) i u ∙ where_after m t (i + c) (u + n * c) ∙ ap₂ (λ (a b : ℕ). read c n top t a (from b)) (omega arith) (omega arith)

module _ (k : Class) where
  -- behind an address and m empty bitmaps
  module _ (x : ℕ) (even : x % 2 ≡ 0) (in_space : x + bytes_of k ≤ space_of k) where
    pub behind_empties : (m : ℕ) (t : List ℕ) (i : ℕ) (w : Where)
        → read_of k (x ∷ (empties m ++ t)) i w ≡ after (x ∷ []) (read_of k t (i + bytes_of k + m * bytes_of k) (from (x + bytes_of k + m * (window_of k * bytes_of k))))
    behind_empties m t i w =
        read_address (bytes_of k) (window_of k) (space_of k) x (empties m ++ t) i w even in_space
        ∙ ap (after (x ∷ [])) (where_after (bytes_of k) (window_of k) (space_of k) m t (i + bytes_of k) (x + bytes_of k))

    -- so no number bounds it: with enough of them, which are accepted, *where* is past any v
    pub where_unbounded : (v : ℕ) → (m u : ℕ) × (v < u) × ((t : List ℕ) (i : ℕ) (w : Where) → read_of k (x ∷ (empties m ++ t)) i w ≡ after (x ∷ []) (read_of k t (i + bytes_of k + m * bytes_of k) (from u)))
    where_unbounded v =
        let a : 1 ≤ window_of k = omega (arith, bytes_least k) in
        let some : 1 ≤ window_of k * bytes_of k = omega (arith, bytes_least k, mul-le-mul_right (bytes_of k) a) in
        (v, x + bytes_of k + v * (window_of k * bytes_of k), omega (arith, bytes_least k, mul-le-mul_left v some), behind_empties v)

  -- ---- every *where* has a place of 64 bits
  pub place_of : (w : Where) → (p : Place) × (p < 2 ^ 64) × Stands k w p
  place_of nowhere = (Nowhere, lit< tt, unset refl refl)
  place_of (from v) =
      elim (dec_le (v + bytes_of k) (space_of k)) [
        | yes h ↦ (v, omega (arith, space_most k, bytes_least k), inside refl h)
        | no h ↦ (Beyond, lit< tt, past v refl (omega arith) refl)
      ]

  -- and what words mean goes by the place alone
  pub place_enough : (v w : Where) (p : Place) → Stands k v p → Stands k w p → (t : List ℕ) (i : ℕ) → read_of k t i v ≡ read_of k t i w
  place_enough v w p (inside e h) s t i = rw (e, stands_inside h s)
  place_enough v w p (unset e n) s t i = rw (e, stands_nowhere n s)
  place_enough v w p (past u e far b) s t i =
      let (u', f, far') = stands_past (omega (arith, place_far k)) (λ n. omega arith) s in
      rw (e, f) (read_far (bytes_of k) (window_of k) (space_of k) t i u u' far far')

-- ---- case K, followed by bitmaps
-- empty ones are accepted
accepts : (o : ByteOrder) → decode (class_in Eight o) (bytes_of_words (class_in Eight o) (18446744073709551608 ∷ 1 ∷ 1 ∷ [])) ≡ accepted (18446744073709551608 ∷ [])
unfolding input_limit value_of bytes_in arranged first_words words_of bytes_of_words marked fit anchored read after parse decode
accepts Little = refl
accepts Big = refl

-- and a bit behind them is outside the space, at its word's byte
refuses : (o : ByteOrder) → decode (class_in Eight o) (bytes_of_words (class_in Eight o) (18446744073709551608 ∷ 1 ∷ 3 ∷ [])) ≡ refused Space 16
unfolding input_limit value_of bytes_in arranged first_words words_of bytes_of_words marked fit anchored read after parse decode
refuses Little = refl
refuses Big = refl

-- where a *where* that wraps would have it mark 504
wraps : (o : ByteOrder) → read_of (class_in Eight o) (3 ∷ []) 16 (from ((18446744073709551608 + 8 + 63 * 8) % 2 ^ 64)) ≡ accepted (504 ∷ [])
unfolding marked fit anchored read after
wraps o = refl

-- behind m of them *where* is 2^64 and 504 for each, for as many as an input can hold and more
pub case_k : (o : ByteOrder) (m : ℕ) (t : List ℕ) (i : ℕ) (w : Where) → read_of (class_in Eight o) (18446744073709551608 ∷ (empties m ++ t)) i w ≡ after (18446744073709551608 ∷ []) (read_of (class_in Eight o) t (i + 8 + m * 8) (from (2 ^ 64 + m * 504)))
case_k o m t i w = behind_empties (class_in Eight o) 18446744073709551608 refl (lit≤ tt) m t i w
