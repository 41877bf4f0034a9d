-- What is true of every word of a table is true of the table; and that no table is refused with 12.
-- Assumes nothing.
use Prim.Native.Nat.{ℕ, suc, ◌+◌, ◌*◌, ◌/◌, ◌%◌, ◌≤◌, ◌<◌}
use mathlib.Core.List.{List, [], ◌∷◌}
use mathlib.Core.Bool.{cond}
use native.Mathlib.Omega.{arith}
use lib.Dec.{eqb, leb}
use lib.ListN.{length}
use Rattle.answer.specs.declared.Refusal.TheVariants.{Missing, Order, Space, Outside}
use Rattle.answer.specs.Outcome.{Outcome, accepted, refused, after, input_limit, number_of}
use Rattle.answer.specs.Said.{Said, OfOutcome, of_cond, of_limited, of_after}
use Rattle.word.specs.declared.Class.{Class}
use Rattle.word.specs.Class.{bytes_of, window_of}
use Rattle.word.specs.Class.Laws.{bytes_least}
use Rattle.word.specs.Word.{words_of}
use Rattle.relr_table.specs.Words.{Where, nowhere, from, marked, fit, anchored, read}
use Rattle.relr_table.specs.Table.{space_of, parse, decode}
use Rattle.relr_table.proofs.Marked.{marked_most}

-- what is true of no words, of a word that is refused and of one that gives at most n offsets is true of all: Q is said of so many words
-- from a byte on, and of their outcome
module _ (c n top : ℕ) (some : 0 < n) (Q : ℕ → ℕ → Outcome (List ℕ) → Type 0) (end : (i : ℕ) → Q 0 i (accepted [])) (order : (m i : ℕ) → Q (suc m) i (refused Order i)) (space : (m i : ℕ) → Q (suc m) i (refused Space i))
    (word : (m i : ℕ) (xs : List ℕ) (o : Outcome (List ℕ)) → length xs ≤ n → Q m (i + c) o → Q (suc m) i (after xs o)) where
  bitmap : (x : ℕ) (t : List ℕ) (i : ℕ) → ((v : ℕ) → Q (length t) (i + c) (read c n top t (i + c) (from v))) → (w : Where)
      → Q (suc (length t)) i
      (anchored w i λ u. cond (fit c top (marked c n (x / 2) u)) (after (marked c n (x / 2) u) (read c n top t (i + c) (from (u + n * c)))) (refused Space i))
  unfolding anchored
  bitmap x t i rest nowhere = order (length t) i
  bitmap x t i rest (from u) =
      let next = read c n top t (i + c) (from (u + n * c)) in
      of_cond (Q (suc (length t)) i) (fit c top (marked c n (x / 2) u)) (after (marked c n (x / 2) u) next) (refused Space i)
      (word (length t) i (marked c n (x / 2) u) next (marked_most c n (x / 2) u) (rest (u + n * c))) (space (length t) i)

  address : (x : ℕ) (t : List ℕ) (i : ℕ) → ((v : ℕ) → Q (length t) (i + c) (read c n top t (i + c) (from v)))
      → Q (suc (length t)) i (cond (leb (x + c) top) (after (x ∷ []) (read c n top t (i + c) (from (x + c)))) (refused Space i))
  address x t i rest =
      let next = read c n top t (i + c) (from (x + c)) in
      of_cond (Q (suc (length t)) i) (leb (x + c) top) (after (x ∷ []) next) (refused Space i) (word (length t) i (x ∷ []) next (omega arith) (rest (x + c))) (space (length t) i)

  pub each_word : (t : List ℕ) (i : ℕ) (w : Where) → Q (length t) i (read c n top t i w)
  unfolding read
  each_word [] i w = end i
  each_word (x ∷ t) i w =
      of_cond (Q (suc (length t)) i) (eqb (x % 2) 0)
      (cond (leb (x + c) top) (after (x ∷ []) (read c n top t (i + c) (from (x + c)))) (refused Space i))
      (anchored w i λ u. cond (fit c top (marked c n (x / 2) u)) (after (marked c n (x / 2) u) (read c n top t (i + c) (from (u + n * c)))) (refused Space i))
      (address x t i (λ v. each_word t (i + c) (from v))) (bitmap x t i (λ v. each_word t (i + c) (from v)) w)

-- a refusal's number is below 12
abbrev pub Early : Said
Early why p = number_of why < number_of Outside

pub decode_early : (k : Class) (s : List ℕ) → OfOutcome Early (decode k s)
unfolding decode parse
decode_early k s =
    let words = read (bytes_of k) (window_of k) (space_of k) (words_of k s) 0 nowhere in
    of_limited Early input_limit (length s) (parse k s) (omega arith)
    (λ h. of_cond (OfOutcome Early) (eqb (length s % bytes_of k) 0) words (refused Missing (length s))
    (each_word (bytes_of k) (window_of k) (space_of k) (omega (arith, bytes_least k)) (λ (m i : ℕ) (o : Outcome (List ℕ)). OfOutcome Early o)
    (λ i. tt) (λ m i. omega arith) (λ m i. omega arith) (λ m i xs o h q. of_after Early xs o q) (words_of k s) 0 nowhere) (omega arith))
