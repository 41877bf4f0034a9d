-- Demand 3: the table that is written decodes to its list, has no more words than the list has offsets, and is the least of all such tables.
-- Assumes nothing.
use mathlib.Core.List.{List, ◌++◌}
use mathlib.Core.Path.{◌≡◌, refl, ap, ◌∙◌}
use Prim.Native.Nat.{ℕ, ◌/◌, ◌≤◌}
use native.Mathlib.Nat.{mul-le-mul_right, div-add-mod'}
use native.Mathlib.Omega.{arith}
use lib.ListN.{length, take, drop}
use lib.Seq.{take-append_seam}
use Rattle.answer.specs.declared.Answer.{Answer}
use Rattle.answer.specs.Outcome.{accepted, Gives}
use Rattle.answer.specs.Outcome.Laws.{Counted, answer_fits, answer_long, filled_self}
use Rattle.word.specs.declared.Class.{Class}
use Rattle.word.specs.Class.{bytes_of, window_of}
use Rattle.word.specs.Class.Laws.{bytes_least}
use Rattle.word.specs.Word.{words_of}
use Rattle.word.specs.Word.Laws.{words_first, words_length, bytes_words_are}
use Rattle.relr_table.specs.Words.{table}
use Rattle.relr_table.specs.Table.{space_of, decode, table_bytes, encode, Writable}
use Rattle.relr_table.specs.Contract.{Least}
use Rattle.relr_table.specs.Inner.{words_read}
use Rattle.relr_table.proofs.Minimal.{table_least}
use Rattle.relr_table.proofs.Decoding.{decode_good}
use Rattle.relr_table.proofs.RoundTrip.{bytes_long, legal, table_most, table_decodes, encode_accepts}

module _ (k : Class) (l : List ℕ) (h : Writable k l) where
  -- no table that decodes to the list has fewer bytes
  pub table_fewest : (t : List ℕ) → decode k t ≡ accepted l → length (table_bytes k l) ≤ length t
  unfolding words_read
  table_fewest t e =
      let d = decode_good k t l e in
      let m = table_least (bytes_of k) (window_of k) (space_of k) (omega (arith, bytes_least k)) l (words_of k t) (legal k l h) d.1 in
      let n : length (words_of k t) ≡ length t / bytes_of k = ap length (words_first k t) ∙ words_length k (length t / bytes_of k) t in
      let q : length (table (bytes_of k) (window_of k) l) ≤ length t / bytes_of k = omega arith in
      omega (arith, bytes_long k l, mul-le-mul_right (bytes_of k) q, div-add-mod' (length t) (bytes_of k))

  counts : Counted (encode k l) (length (table_bytes k l))
  counts = record { list = table_bytes k l; is = encode_accepts k l h; long = refl }

  pub least_of : {old new : List ℕ} {r : Answer} → Gives (encode k l) old r new → Least k l old r new
  least_of {old} {new} {r} w =
      record {
        need = length (table_bytes k l);
        least = table_fewest;
        some = table_bytes k l;
        some_bytes = bytes_words_are k (table (bytes_of k) (window_of k) l);
        some_long = refl;
        some_is = table_decodes k l h;
        most = table_most k l h;
        short = λ g. w.answer ∙ answer_long (length old) counts g;
        enough = λ g. (w.answer ∙ answer_fits (length old) counts g, front g);
      }
    where
      front : length (table_bytes k l) ≤ length old → decode k (take (length (table_bytes k l)) new) ≡ accepted l
      front g =
          let e : new ≡ table_bytes k l ++ drop (length (table_bytes k l)) old = w.held ∙ filled_self old (encode_accepts k l h) g in
          rw (e, take-append_seam (table_bytes k l) (drop (length (table_bytes k l)) old)) (table_decodes k l h)
