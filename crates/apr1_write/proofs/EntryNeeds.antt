-- The needs of a pair and of the head, stated as the code asks them: their lengths, their stores, and the run of gaps that makes a pair.
-- Assumes nothing.
use Prim.Native.Nat.{ℕ, ◌+◌, ◌*◌, ◌^◌, ◌≤◌, ◌<◌}
use mathlib.Core.Path.{◌≡◌, refl, sym, ap, ◌∙◌}
use mathlib.Core.List.{List, [], ◌∷◌, ◌++◌, append_assoc}
use native.Mathlib.Numerals.{add-one}
use native.Mathlib.Omega.{arith}
use lib.ListN.{length, get_or, drop, length-append}
use lib.Seq.{drop-cons}
use mir.Syntax.{w64}
use mir.Val.{Fits}
use borrow.Author.Rules.{rules}
use Rattle.answer.specs.Written.{Written, written_then, written_long}
use Rattle.leb128.specs.Number.{short_unsigned}
use Rattle.leb128.proofs.RoundTrip.{unsigned_bytes}
use Rattle.apr1_table.specs.Table.{identifier, last, pair, run, one_pair, head_of}
use Rattle.apr1_table.specs.Table.Laws.{run_more}
use Rattle.apr1_write.specs.Inner.{Countable}
use Rattle.apr1_table.proofs.Pairs.{one_bytes, one_most, head_bytes}

-- ---- lengths and stores of a pair and of the head
module _ (c d : ℕ) where
  pub len_sum : {r t : ℕ} → r ≡ length (short_unsigned c) → t ≡ length (short_unsigned d) → c < 2 ^ 64 → d < 2 ^ 64 → Fits w64 (r + t)
  len_sum e f h k = record { fits = omega (arith, unsigned_bytes 64 c (omega arith) h, unsigned_bytes 64 d (omega arith) k) }

  pub len_pair : {r t : ℕ} → r ≡ length (short_unsigned c) → t ≡ length (short_unsigned d) → r + t ≡ length (one_pair (pair c d))
  len_pair e f = rw one_bytes (omega (arith, length-append (short_unsigned c) (short_unsigned d)))

  head_is : head_of c d ≡ identifier ++ one_pair (pair c d)
  head_is = head_bytes c d ∙ ap (λ (b : List ℕ). identifier ++ b) (sym (one_bytes c d))

  pub len_first : {r : ℕ} → r ≡ length (one_pair (pair c d)) → c < 2 ^ 64 → d < 2 ^ 64 → Fits w64 (4 + r)
  len_first e h k = record { fits = omega (arith, one_most 64 c d (omega arith) h k) }

  pub len_head : {r : ℕ} → r ≡ length (one_pair (pair c d)) → 4 + r ≡ length (head_of c d)
  len_head e = rw head_is (omega (arith, length-append identifier (one_pair (pair c d))))

  module _ (table : List ℕ) (at : ℕ) where
    pub pair_room : at + length (one_pair (pair c d)) ≤ length table → at + length (short_unsigned c) ≤ length table
    pair_room h = let g = rw one_bytes at h in omega (arith, length-append (short_unsigned c) (short_unsigned d))

    module _ {mid : List ℕ} {next : ℕ} (w : Written table mid at next (short_unsigned c)) where
      pub pair_room_2 : at + length (one_pair (pair c d)) ≤ length table → next + length (short_unsigned d) ≤ length mid
      pair_room_2 h = let g = rw one_bytes at h in omega (arith, length-append (short_unsigned c) (short_unsigned d), w.place, written_long w)

      pub pair_done : {new : List ℕ} {past : ℕ} → Written mid new next past (short_unsigned d) → Written table new at past (one_pair (pair c d))
      pair_done v = rw one_bytes (written_then w v)

  module _ (table : List ℕ) where
    whole : 0 + length (head_of c d) ≤ length table → 4 + length (one_pair (pair c d)) ≤ length table
    whole h = omega (arith, ap length head_is, length-append identifier (one_pair (pair c d)))

    pub head_room : 0 + length (head_of c d) ≤ length table → length identifier ≤ length table
    head_room h = omega (arith, whole h)

    module _ {mid : List ℕ} {at : ℕ} (w : Written table mid 0 at identifier) where
      pub head_room_2 : 0 + length (head_of c d) ≤ length table → at + length (one_pair (pair c d)) ≤ length mid
      head_room_2 h = omega (arith, whole h, w.place, written_long w)

      pub head_done : {new : List ℕ} {past : ℕ} → Written mid new at past (one_pair (pair c d)) → Written table new 0 past (head_of c d)
      head_done u = rw head_is (written_then w u)

pub ruleset lengths = (len_sum, len_pair, len_first, len_head, pair_room, pair_room_2, pair_done, head_room, head_room_2, head_done, rules)

-- ---- a run of equal gaps: the k offsets from index f on follow y
pub record Counting (l : List ℕ) (f y d i x : ℕ) : Type 0 where
  pub k : ℕ
  pub so_far : i ≡ f + k
  pub reach : x ≡ y + k * d
  pub low : x ≤ last
  pub within : i ≤ length l
  pub here : drop f l ≡ run y k d ++ drop i l

pub count_begin : {l : List ℕ} {f y d : ℕ} → Countable l f y d → Counting l f y d f y
unfolding run
count_begin h = record { k = 0; so_far = omega arith; reach = omega arith; low = h.low; within = h.within; here = refl }

module _ {l : List ℕ} {f y d i x : ℕ} (h : Countable l f y d) (g : Counting l f y d i x) where
  module _ {z : ℕ} (il : i < length l) (ze : z ≡ get_or l i 0) where
    next : drop i l ≡ z ∷ drop (i + 1) l
    next = rw (ze, add-one) (drop-cons l i 0 il)

    pub count_more : x + d ≤ z → z ≤ x + d → z ≤ last → Counting l f y d (i + 1) z
    count_more e e2 m =
        let q : z ≡ y + (g.k + 1) * d = omega (arith, g.reach) in
        record {
          k = g.k + 1;
          so_far = omega (arith, g.so_far);
          reach = q;
          low = m;
          within = omega arith;
          here = g.here ∙ rw (next, run_more y g.k d, q) (sym (append_assoc (run y g.k d) ((y + (g.k + 1) * d) ∷ []) (drop (i + 1) l)));
        }

pub ruleset counts = (count_begin, count_more, rules)
