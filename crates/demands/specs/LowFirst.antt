-- Words as document 01 has them, low byte first, by the definitions from before document 02's §9: n is the number of a word's bytes.
-- Assumes nothing.
use Rattle.std.specs.Prelude.{ℕ, zero, suc, ◌/◌, List, [], ◌∷◌, ◌++◌, length, take, drop}
use Rattle.std.proofs.lemmas.List.Edits.{sets}
use Rattle.word.specs.Word.{value_of, bytes_in}

-- the word of n bytes at a place
unfoldable pub word_at : ℕ → List ℕ → ℕ → ℕ
word_at n s at = value_of (take n (drop at s))

-- the same bytes with the word w of n bytes stored at a place
unfoldable pub with_word : ℕ → List ℕ → ℕ → ℕ → List ℕ
with_word n s at w = sets s at (bytes_in n w)

-- the first k words of n bytes each
unfoldable pub first_words : ℕ → ℕ → List ℕ → List ℕ
first_words n zero s = []
first_words n (suc k) s = value_of (take n s) ∷ first_words n k (drop n s)

-- the whole words of n bytes in a list of bytes
unfoldable pub words_of : ℕ → List ℕ → List ℕ
words_of n s = first_words n (length s / n) s

-- the bytes of a list of words of n bytes
unfoldable pub bytes_of_words : ℕ → List ℕ → List ℕ
bytes_of_words n [] = []
bytes_of_words n (w ∷ ws) = bytes_in n w ++ bytes_of_words n ws
