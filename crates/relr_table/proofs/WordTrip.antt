-- On words: reading what the writer wrote gives the list back, and there are no more words than offsets.
-- Assumes nothing.
use mathlib.Core.Bool.{true}
use mathlib.Core.List.{List, [], ◌∷◌, ◌++◌}
use mathlib.Core.Path.{◌≡◌, refl}
use Prim.Native.Nat.{ℕ, suc, ◌+◌, ◌/◌, ◌%◌, ◌^◌, ◌≤◌, ◌<◌}
use native.Mathlib.Omega.{arith}
use lib.Dec.{leb, le→leb}
use lib.ListN.{length, length-append}
use Rattle.answer.specs.Outcome.{accepted}
use Rattle.relr_table.specs.Words.{nowhere, from, marked, fit, read, word, table, Legal}
use Rattle.relr_table.specs.Table.{All}
use Rattle.relr_table.proofs.Marked.{all_left, all_right, of_T}
use Rattle.relr_table.proofs.Accepted.{Reads, r_nil, r_word, r_map, reads_read}
use Rattle.relr_table.proofs.Greedy.{Greedy, g_nil, g_word, g_map, Rising, write_greedy}

abbrev pub Good : ℕ → ℕ → ℕ → Type 0
Good c top x = (x % 2 ≡ 0) × (x + c ≤ top)

pub legal_rising : (c top lo : ℕ) (l : List ℕ) → Legal c top lo l → Rising lo l
unfolding Legal
legal_rising c top lo [] h = tt
legal_rising c top lo (x ∷ l) h = (h.0, legal_rising c top (suc x) l h.3)

pub legal_good : (c top lo : ℕ) (l : List ℕ) → Legal c top lo l → All (Good c top) l
unfolding Legal
legal_good c top lo [] h = tt
legal_good c top lo (x ∷ l) h = ((h.1, h.2), legal_good c top (suc x) l h.3)

good_fit : (c top : ℕ) (l : List ℕ) → All (Good c top) l → fit c top l ≡ true
unfolding fit
good_fit c top [] h = refl
good_fit c top (x ∷ l) h = rw (of_T (leb (x + c) top) (le→leb (x + c) top h.0.1), good_fit c top l h.1)

word_odd : (b : ℕ) → word b % 2 ≡ 1
unfolding word
word_odd b = omega arith

word_half : (b : ℕ) → word b / 2 ≡ b
unfolding word
word_half b = omega arith

module _ (c n top : ℕ) where
  greedy_reads : {v : ℕ} {l t : List ℕ} → Greedy c n v l t → All (Good c top) l → Reads c n top (from v) t l
  greedy_reads g_nil h = r_nil
  greedy_reads (g_word o p g) h = r_word h.0.0 h.0.1 (greedy_reads g h.1)
  greedy_reads (g_map {v = v} {x = x} {q = q} {l = l} {m = m} b i e f p g) h =
      let k : marked c n (word b / 2) v ≡ x ∷ q = rw word_half e in
      let h' : All (Good c top) ((x ∷ q) ++ l) = rw f at h in
      let a : fit c top (marked c n (word b / 2) v) ≡ true = rw k (good_fit c top (x ∷ q) (all_left (Good c top) (x ∷ q) l h')) in
      let d : m ≡ marked c n (word b / 2) v ++ l = rw k f in
      r_map (word_odd b) a d (greedy_reads g (all_right (Good c top) (x ∷ q) l h'))

  pub greedy_length : {v : ℕ} {l t : List ℕ} → Greedy c n v l t → length t ≤ length l
  greedy_length g_nil = omega arith
  greedy_length (g_word o p g) = omega (arith, greedy_length g)
  greedy_length (g_map {q = q} {l = l} b i e f p g) = rw f (omega (arith, greedy_length g, length-append q l))

  -- Each word is a number below 2 ^ (n + 1).
  greedy_words : {v : ℕ} {l t : List ℕ} → 0 < c → top ≤ 2 ^ suc n → Greedy c n v l t → All (Good c top) l → All (λ w. w < 2 ^ suc n) t
  unfolding word
  greedy_words pos u g_nil h = tt
  greedy_words pos u (g_word o p g) h = (omega (arith, h.0.1), greedy_words pos u g h.1)
  greedy_words pos u (g_map {x = x} {q = q} {l = l} b i e f p g) h =
      (omega arith, greedy_words pos u g (all_right (Good c top) (x ∷ q) l (rw f at h)))

  pub table_words : 0 < c → top ≤ 2 ^ suc n → (l : List ℕ) → Legal c top 0 l → All (λ w. w < 2 ^ suc n) (table c n l)
  unfolding table Legal
  table_words pos u [] h = tt
  table_words pos u (x ∷ l) h = (
    omega arith,
    greedy_words pos u (write_greedy c n pos l (x + c) (suc x) (legal_rising c top (suc x) l h.3)) (legal_good c top (suc x) l h.3),
  )

  pub table_reads : 0 < c → (l : List ℕ) → Legal c top 0 l → Reads c n top nowhere (table c n l) l
  unfolding table Legal
  table_reads pos [] h = r_nil
  table_reads pos (x ∷ l) h =
      r_word h.1 h.2 (greedy_reads (write_greedy c n pos l (x + c) (suc x) (legal_rising c top (suc x) l h.3)) (legal_good c top (suc x) l h.3))

  pub table_length : 0 < c → (l : List ℕ) → Legal c top 0 l → length (table c n l) ≤ length l
  unfolding table Legal
  table_length pos [] h = omega arith
  table_length pos (x ∷ l) h = omega (arith, greedy_length (write_greedy c n pos l (x + c) (suc x) (legal_rising c top (suc x) l h.3)))

  -- the table that is written is read as the list.
  pub table_read : 0 < c → (l : List ℕ) → Legal c top 0 l → read c n top (table c n l) 0 nowhere ≡ accepted l
  table_read pos l h = reads_read c n top (table_reads pos l h) 0
