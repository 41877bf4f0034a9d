-- Document 02, §9, as theorems: "one of two values; RELR reading, RELR writing, applying and all calls over them use it. [..] Little-endian stays as 01
-- has it. Demands 2 and 3 hold for both orders and classes." The last is what the contracts and Demands.antt say, over the class with its order.
--   little-..          with low byte first, each definition of a word is document 01's
--   relr_read_orders   a table read high byte first is the word-by-word reversed table read low byte first
--   relr_write_orders  a table written high byte first is the word-by-word reversed table that is written low byte first
-- Assumes nothing.
use Prim.Native.Nat.{ℕ, zero, suc, ◌+◌, ◌-◌, ◌*◌, ◌/◌, ◌%◌, ◌≤◌, ◌<◌}
use mathlib.Core.Bool.{Bool, true, false, cond}
use mathlib.Core.Path.{◌≡◌, refl, sym, ap, ◌∙◌, subst}
use mathlib.Core.List.{List, [], ◌∷◌, ◌++◌, reverse}
use native.Mathlib.Nat.{div-add-mod', mul-div_cancel}
use native.Mathlib.Omega.{arith}
use lib.Dec.{eqb, leb, ltb}
use lib.ListN.{length, take, drop, length-append, length-drop, take-append-drop}
use lib.Seq.{drop_at, take_at, length-take-le}
use Rattle.answer.specs.declared.Answer.{Answer}
use Rattle.answer.specs.declared.Refusal.TheVariants as why
use Rattle.answer.specs.Outcome.{Outcome, accepted, refused, list_limit, limited, Gives}
use Rattle.word.specs.declared.Size.{Size}
use Rattle.word.specs.declared.ByteOrder.TheVariants.{Little, Big}
use Rattle.std.specs.Prelude.{Option}
use Rattle.std.specs.Prelude.{Some, None}
use Rattle.word.specs.Class.{size_of, width_of, class_in, class_of, in_class}
use Rattle.word.specs.Class.Laws.{size_least}
use Rattle.word.specs.Word.{value_of, bytes_in, arranged, word_at, with_word, first_words, words_of, bytes_of_words}
use Rattle.word.specs.Word.Laws.{reverse_length, bytes_length, bytes_words_length}
use Rattle.relr_table.specs.Words.{table}
use Rattle.relr_table.specs.Table.{space_of, parse, decode, checked, table_bytes, build, encode}
use Rattle.relr_table.specs.Contract.{decoding, encoding, Reads}
use Rattle.demands.specs.LowFirst as low
use Rattle.demands.specs.Reversed.{reversed_first, reversed, reversed_in, outcome_reversed}

-- ---- low byte first
module _ (z : Size) where
  pub little_word : (s : List ℕ) (at : ℕ) → word_at (class_in z Little) s at ≡ low.word_at (size_of z) s at
  unfolding word_at arranged low.word_at
  little_word s at = refl

  pub little_store : (s : List ℕ) (at w : ℕ) → with_word (class_in z Little) s at w ≡ low.with_word (size_of z) s at w
  unfolding with_word arranged low.with_word
  little_store s at w = refl

  pub little_first : (n : ℕ) (s : List ℕ) → first_words (class_in z Little) n s ≡ low.first_words (size_of z) n s
  unfolding first_words arranged low.first_words
  little_first zero s = refl
  little_first (suc n) s = ap (λ (l : List ℕ). value_of (take (size_of z) s) ∷ l) (little_first n (drop (size_of z) s))

  pub little_words : (s : List ℕ) → words_of (class_in z Little) s ≡ low.words_of (size_of z) s
  unfolding words_of low.words_of
  little_words s = little_first (length s / size_of z) s

  pub little_bytes : (ws : List ℕ) → bytes_of_words (class_in z Little) ws ≡ low.bytes_of_words (size_of z) ws
  unfolding bytes_of_words arranged low.bytes_of_words
  little_bytes [] = refl
  little_bytes (w ∷ ws) = ap (λ (l : List ℕ). bytes_in (size_of z) w ++ l) (little_bytes ws)

-- ---- word by word reversed
reversed_first_long : (n m : ℕ) (s : List ℕ) → length (reversed_first n m s) ≡ length s
unfolding reversed_first
reversed_first_long n zero s = refl
reversed_first_long n (suc m) s =
    length-append (reverse (take n s)) (reversed_first n m (drop n s))
    ∙ rw (reverse_length, reversed_first_long n m (drop n s)) (sym (length-append (take n s) (drop n s)) ∙ ap length (take-append-drop n s))

reversed_long : (n : ℕ) (s : List ℕ) → length (reversed n s) ≡ length s
unfolding reversed
reversed_long n s = reversed_first_long n (length s / n) s

module _ (z : Size) where
  some : 0 < size_of z
  some = omega (arith, size_least z)

  -- the words of the one, low byte first, are those of the other, high byte first
  reversed_first_law : (m : ℕ) (s : List ℕ) → m * size_of z ≤ length s → first_words (class_in z Little) m (reversed_first (size_of z) m s) ≡ first_words (class_in z Big) m s
  unfolding first_words reversed_first arranged
  reversed_first_law zero s h = refl
  reversed_first_law (suc m) s h =
      let n = size_of z in
      let l : length (reverse (take n s)) ≡ n = reverse_length (take n s) ∙ length-take-le n s (omega arith) in
      let t = reversed_first n m (drop n s) in
      rw (take_at (reverse (take n s)) t n l, drop_at (reverse (take n s)) t n l, reversed_first_law m (drop n s) (simp length-drop (omega arith)))

  reversed_all : (s : List ℕ) → first_words (class_in z Little) (length s / size_of z) (reversed (size_of z) s) ≡ first_words (class_in z Big) (length s / size_of z) s
  unfolding reversed
  reversed_all s = reversed_first_law (length s / size_of z) s (omega (arith, div-add-mod' (length s) (size_of z)))

  reversed_words : (s : List ℕ) → words_of (class_in z Little) (reversed (size_of z) s) ≡ words_of (class_in z Big) s
  unfolding words_of
  reversed_words s = rw (reversed_long (size_of z) s) (reversed_all s)

  pub decode_orders : (s : List ℕ) → decode (class_in z Big) s ≡ decode (class_in z Little) (reversed (size_of z) s)
  unfolding decode parse
  decode_orders s = rw (reversed_long (size_of z) s, reversed_words s)

  -- the bytes of words in the one order and in the other
  reversed_first_bytes : (ws : List ℕ) → reversed_first (size_of z) (length ws) (bytes_of_words (class_in z Little) ws) ≡ bytes_of_words (class_in z Big) ws
  unfolding bytes_of_words reversed_first arranged
  reversed_first_bytes [] = refl
  reversed_first_bytes (w ∷ ws) =
      let n = size_of z in
      let b = bytes_in n w in
      let t = bytes_of_words (class_in z Little) ws in
      rw (take_at b t n (bytes_length n w), drop_at b t n (bytes_length n w), reversed_first_bytes ws)

  reversed_bytes : (ws : List ℕ) → reversed (size_of z) (bytes_of_words (class_in z Little) ws) ≡ bytes_of_words (class_in z Big) ws
  unfolding reversed
  reversed_bytes ws = rw (bytes_words_length (class_in z Little) ws, mul-div_cancel (length ws) some) (reversed_first_bytes ws)

-- a list's refusals are the same in both orders
module _ (n : Option Size) where
  reversed_cond : (b : Bool) (o q : Outcome (List ℕ)) → outcome_reversed n (cond b o q) ≡ cond b (outcome_reversed n o) (outcome_reversed n q)
  reversed_cond true o q = refl
  reversed_cond false o q = refl

  reversed_checked : (c top i lo : ℕ) (l : List ℕ) (o : Outcome (List ℕ)) → outcome_reversed n (checked c top i lo l o) ≡ checked c top i lo l (outcome_reversed n o)
  unfolding checked outcome_reversed
  reversed_checked c top i lo [] o = refl
  reversed_checked c top i lo (x ∷ l) o =
      let rest = checked c top (suc i) (suc x) l o in
      let first = eqb (x % 2) 1 in
      let second = ltb top (x + c) in
      let third = ltb x lo in
      reversed_cond first (refused why.Odd i) (cond second (refused why.Space i) (cond third (refused why.Order i) rest))
      ∙ ap (cond first (refused why.Odd i)) (reversed_cond second (refused why.Space i) (cond third (refused why.Order i) rest)
      ∙ ap (cond second (refused why.Space i)) (reversed_cond third (refused why.Order i) rest
      ∙ ap (cond third (refused why.Order i)) (reversed_checked c top (suc i) (suc x) l o)))

  reversed_limited : (most long : ℕ) (o : Outcome (List ℕ)) → outcome_reversed n (limited most long o) ≡ limited most long (outcome_reversed n o)
  unfolding outcome_reversed
  reversed_limited most long o = reversed_cond (leb long most) o (refused why.Limit 0)

reversed_table : (z : Size) (l : List ℕ) → outcome_reversed (Some z) (accepted (table_bytes (class_in z Little) l)) ≡ accepted (table_bytes (class_in z Big) l)
unfolding outcome_reversed reversed_in
reversed_table z l = ap accepted (reversed_bytes z (table (size_of z) (width_of z - 1) l))

pub encode_orders : (z : Size) (l : List ℕ) → encode (class_in z Big) l ≡ outcome_reversed (Some z) (encode (class_in z Little) l)
unfolding encode build
encode_orders z l =
    let n = Some z in
    let table = accepted (table_bytes (class_in z Little) l) in
    let top = space_of (class_in z Little) in
    sym (reversed_limited n list_limit (length l) (checked (size_of z) top 0 0 l table)
    ∙ ap (limited list_limit (length l)) (reversed_checked n (size_of z) top 0 0 l table ∙ ap (checked (size_of z) top 0 0 l) (reversed_table z l)))

-- ---- the calls
module _ (class : ℕ) where
  pub relr_read_orders : (s : List ℕ) → decoding class Big s ≡ decoding class Little (reversed_in (class_of class) s)
  unfolding decoding reversed_in
  relr_read_orders s = go (class_of class)
    where
      go : (n : Option Size) → in_class n (λ z. decode (class_in z Big) s) ≡ in_class n (λ z. decode (class_in z Little) (reversed_in n s))
      go (Some z) = decode_orders z s
      go None = refl

  module _ (s : List ℕ) {old new : List ℕ} {r : Answer} where
    pub relr_reads_big : Reads class Little (reversed_in (class_of class) s) old r new → Reads class Big s old r new
    relr_reads_big h = subst (λ (o : Outcome (List ℕ)). Gives o old r new) (sym (relr_read_orders s)) h

    pub relr_reads_little : Reads class Big s old r new → Reads class Little (reversed_in (class_of class) s) old r new
    relr_reads_little h = subst (λ (o : Outcome (List ℕ)). Gives o old r new) (relr_read_orders s) h

  pub relr_write_orders : (l : List ℕ) → encoding class Big l ≡ outcome_reversed (class_of class) (encoding class Little l)
  unfolding encoding outcome_reversed
  relr_write_orders l = go (class_of class)
    where
      go : (n : Option Size) → in_class n (λ z. encode (class_in z Big) l) ≡ outcome_reversed n (in_class n (λ z. encode (class_in z Little) l))
      go (Some z) = encode_orders z l
      go None = refl
