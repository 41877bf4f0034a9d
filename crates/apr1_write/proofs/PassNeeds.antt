-- The needs of the writer's two passes, and of a write, stated as the code asks them.
-- Assumes nothing.
use Prim.Native.Nat.{ℕ, suc, ◌+◌, ◌-◌, ◌*◌, ◌≤◌, ◌<◌}
use mathlib.Core.Path.{◌≡◌, refl, sym, ap, subst, ◌∙◌}
use mathlib.Core.List.{List, [], ◌∷◌, ◌++◌, append_assoc, append-nil}
use native.Mathlib.Numerals.{add-one}
use native.Mathlib.Omega.{arith}
use lib.ListN.{length, get_or, drop, length-append, drop_of_length-le}
use lib.Seq.{sets, sets-eq, drop-cons}
use mir.Syntax.{w64}
use mir.Val.{Fits}
use borrow.Author.Rules.{rules}
use Rattle.std.specs.Prelude.{Result, Ok, Err}
use Rattle.answer.specs.declared.Answer.{Answer}
use Rattle.answer.specs.declared.Refusal.TheVariants.{Order, Space, Limit, Empty}
use Rattle.answer.specs.declared.Refused.{Refused}
use Rattle.answer.proofs.Limits.{list_small}
use Rattle.answer.specs.Outcome.{Outcome, accepted, refused, success, refusal, no_room, list_limit, itself, found_of, err_at, Gives, filled}
use Rattle.answer.specs.Outcome.Laws.{filled_self, found_accepted, gives_refused, gives_short, gives_full}
use Rattle.answer.specs.Written.{Written, written_then, written_long}
use Rattle.apr1_write.specs.declared.Need.{Need}
use Rattle.apr1_table.specs.Table.{last, Pair, pair, pair_then, pairs_from, one_pair, pair_bytes, head_of, checked, build, Rising, encode}
use Rattle.apr1_table.specs.Inner.{Run, head_in, pairs_in, table_in}
use Rattle.apr1_write.specs.Inner.{Sizable, Sizes, Puttable, PairsPut, Encodable, TablePut, SizesIn}
use Rattle.apr1_table.proofs.Pairs.{one_most, pair_bytes_none, pair_bytes_append, pair_bytes_more, head_most, table_bytes_law, checked_space, checked_order, checked_more, rising_rest, build_none, from_head, build_is, step_checked, step_rising, step_pairs}
use Rattle.apr1_table.proofs.RoundTrip.{encode_over, encode_in, encode_accepts}

-- ---- the first pass
pub record Sizing (l : List ℕ) (a i x n b : ℕ) : Type 0 where
  pub head : a ≡ head_in l
  pub first : a ≤ last
  pub ps : List Pair
  pub low : x ≤ last
  pub within : i ≤ length l
  pub clean : (o : Outcome (List ℕ)) → checked 0 0 l o ≡ checked i (x + 1) (drop i l) o
  pub rises : Rising (x + 1) (drop i l) → Rising 0 l
  pub so : Rising (x + 1) (drop i l) → pairs_in l ≡ ps ++ pairs_from x 0 0 (drop i l)
  pub counted : n ≡ length ps
  pub few : n ≤ i
  pub long : b ≡ length (pair_bytes ps)
  pub small : b ≤ 10 * i

module _ {l : List ℕ} {a : ℕ} (s : Sizable l) (e : a ≡ get_or l 0 0) where
  pub size_far : last < a → build l ≡ refused Space 0
  size_far h = build_is l s.some ∙ ap (λ (m : List ℕ). checked 0 0 m (accepted (table_in l))) (from_head l s.some) ∙ rw (← e) (checked_space 0 0 a (drop 1 l) _ h)

  pub size_begin : a ≤ last → Sizing l a 1 a 0 0
  size_begin h =
      let f : l ≡ a ∷ drop 1 l = rw e (from_head l s.some) in
      record {
        head = e;
        first = h;
        ps = [];
        low = h;
        within = omega (arith, s.some);
        clean = λ o. ap (λ (m : List ℕ). checked 0 0 m o) f ∙ checked_more 0 0 a (drop 1 l) o h (omega arith);
        rises = λ r. subst (Rising 0) (sym f) (omega arith, h, subst (λ (n : ℕ). Rising n (drop 1 l)) (add-one a) r);
        so = λ r. rw e;
        counted = refl;
        few = omega arith;
        long = rw pair_bytes_none;
        small = omega arith;
      }

module _ {l : List ℕ} {a i x n b : ℕ} (s : Sizable l) (g : Sizing l a i x n b) where
  module _ {y : ℕ} (il : i < length l) (ye : y ≡ get_or l i 0) where
    follow : drop i l ≡ y ∷ drop (i + 1) l
    follow = rw (ye, add-one) (drop-cons l i 0 il)

    pub size_space : last < y → build l ≡ refused Space i
    size_space h = build_is l s.some ∙ g.clean _ ∙ rw follow (checked_space i (x + 1) y (drop (i + 1) l) _ h)

    pub size_order : y ≤ x → y ≤ last → build l ≡ refused Order i
    size_order h k = build_is l s.some ∙ g.clean _ ∙ rw follow (checked_order i (x + 1) y (drop (i + 1) l) _ k (omega arith))

    module _ (up : x < y) (low : y ≤ last) where
      module _ {k : ℕ} (r : Run l (i + 1) y (y - x) k) where
        module _ {q : ℕ} (qe : q ≡ length (one_pair (pair (k + 1) (y - x)))) where
          most : q ≤ 10
          most = rw qe (one_most 32 (k + 1) (y - x) (omega arith) (omega (arith, r.within, s.few, list_small)) (omega arith))

          pub size_bytes : Fits w64 (b + q)
          size_bytes = record { fits = omega (arith, g.small, most, s.few, list_small) }

          pub size_more : Sizing l a (i + 1 + k) (y + k * (y - x)) (n + 1) (b + q)
          size_more =
              record {
                head = g.head;
                first = g.first;
                ps = g.ps ++ pair (k + 1) (y - x) ∷ [];
                low = r.low;
                within = r.within;
                clean = λ o. g.clean o ∙ step_checked l i x y k il ye low up r o;
                rises = λ h. g.rises (step_rising l i x y k il ye low up r h);
                so = λ h. g.so (step_rising l i x y k il ye low up r h) ∙ rw (step_pairs l i x y k il ye low up r h) (sym (append_assoc g.ps (pair (k + 1) (y - x) ∷ []) _));
                counted = omega (arith, g.counted, length-append g.ps (pair (k + 1) (y - x) ∷ []));
                few = omega (arith, g.few);
                long = omega (
                  arith,
                  g.long,
                  qe,
                  ap length (pair_bytes_append g.ps (pair (k + 1) (y - x) ∷ [])),
                  length-append (pair_bytes g.ps) (pair_bytes (pair (k + 1) (y - x) ∷ [])),
                  ap length (pair_bytes_more (pair (k + 1) (y - x)) []),
                  length-append (one_pair (pair (k + 1) (y - x))) (pair_bytes []),
                  ap length pair_bytes_none,
                );
                small = omega (arith, g.small, most);
              }

  module _ (il : length l ≤ i) where
    none : Rising (x + 1) (drop i l)
    none = subst (Rising (x + 1)) (sym (drop_of_length-le l il)) tt

    done : pairs_in l ≡ g.ps
    unfolding pairs_from pair_then
    done = g.so none ∙ rw (drop_of_length-le l il) (append-nil g.ps)

    pub size_total : {t : ℕ} → t ≡ length (head_of n a) → Fits w64 (t + b)
    size_total e = record { fits = omega (arith, head_most n a (omega (arith, g.few, g.within, s.few, list_small)) (omega (arith, g.first)), g.small, g.within, s.few, list_small) }

    pub size_end : {t : ℕ} → t ≡ length (head_of n a) → SizesIn l (Ok (record { pairs = n; bytes = t + b }))
    size_end e =
        let c : n ≡ length (pairs_in l) = rw done g.counted in (
          c,
          omega (arith, e, g.long, ap (λ (q : List Pair). length (pair_bytes q)) done, ap (λ (m : ℕ). length (head_of m a)) c, ap (λ (m : ℕ). length (head_of (length (pairs_in l)) m)) g.head, ap length (table_bytes_law l), length-append (head_of (length (pairs_in l)) (head_in l)) (pair_bytes (pairs_in l))),
          g.rises none,
        )

pub ruleset sizes = (size_far, size_begin, size_space, size_order, size_bytes, size_more, size_total, size_end, rules)

-- ---- the second pass
pub record Putting (l old now : List ℕ) (first i x at : ℕ) : Type 0 where
  pub ps : List Pair
  pub low : x ≤ last
  pub within : i ≤ length l
  pub rising : Rising (x + 1) (drop i l)
  pub so : pairs_in l ≡ ps ++ pairs_from x 0 0 (drop i l)
  pub written : Written old now first at (pair_bytes ps)

module _ {l old : List ℕ} {first : ℕ} (f : Puttable l old first) where
  pub put_begin : {x : ℕ} → x ≡ get_or l 0 0 → Putting l old old first 1 x first
  put_begin {x} e =
      let q : l ≡ x ∷ drop 1 l = rw e (from_head l f.writable.some) in
      let r : Rising 0 (x ∷ drop 1 l) = subst (Rising 0) q f.writable.rising in
      record {
        ps = [];
        low = r.1;
        within = omega (arith, f.writable.some);
        rising = subst (λ (n : ℕ). Rising n (drop 1 l)) (sym (add-one x)) r.2;
        so = rw e;
        written = rw pair_bytes_none (record { list = refl; place = omega arith });
      }

  module _ {now : List ℕ} {i x at : ℕ} (g : Putting l old now first i x at) where
    put_long : length now ≡ length old
    put_long = written_long g.written

    module _ {y : ℕ} (il : i < length l) (ye : y ≡ get_or l i 0) where
      rest : (x + 1 ≤ y) × (y ≤ last) × Rising (suc y) (drop (i + 1) l)
      rest = let n : drop i l ≡ y ∷ drop (i + 1) l = rw (ye, add-one) (drop-cons l i 0 il) in subst (Rising (x + 1)) n g.rising

      module _ {k : ℕ} (r : Run l (i + 1) y (y - x) k) where
        further : Rising (y + k * (y - x) + 1) (drop (i + 1 + k) l)
        further = rising_rest l (i + 1) y (y - x) k (omega (arith, rest.0)) r (subst (λ (n : ℕ). Rising n (drop (i + 1) l)) (sym (add-one y)) rest.2)

        parts : pairs_in l ≡ (g.ps ++ pair (k + 1) (y - x) ∷ []) ++ pairs_from (y + k * (y - x)) 0 0 (drop (i + 1 + k) l)
        parts = g.so ∙ rw (step_pairs l i x y k il ye rest.1 (omega (arith, rest.0)) r further) (sym (append_assoc g.ps (pair (k + 1) (y - x) ∷ []) _))

        bytes : pair_bytes (g.ps ++ pair (k + 1) (y - x) ∷ []) ≡ pair_bytes g.ps ++ one_pair (pair (k + 1) (y - x))
        bytes = pair_bytes_append g.ps (pair (k + 1) (y - x) ∷ []) ∙ rw (pair_bytes_more, pair_bytes_none, append-nil)

        pub put_room : at + length (one_pair (pair (k + 1) (y - x))) ≤ length now
        put_room =
            omega (
              arith,
              f.room,
              g.written.place,
              put_long,
              ap (λ (q : List Pair). length (pair_bytes q)) parts,
              ap length (pair_bytes_append (g.ps ++ pair (k + 1) (y - x) ∷ []) (pairs_from (y + k * (y - x)) 0 0 (drop (i + 1 + k) l))),
              length-append (pair_bytes (g.ps ++ pair (k + 1) (y - x) ∷ [])) (pair_bytes (pairs_from (y + k * (y - x)) 0 0 (drop (i + 1 + k) l))),
              ap length bytes,
              length-append (pair_bytes g.ps) (one_pair (pair (k + 1) (y - x))),
            )

        pub put_more : {new : List ℕ} {past : ℕ} → Written now new at past (one_pair (pair (k + 1) (y - x))) → Putting l old new first (i + 1 + k) (y + k * (y - x)) past
        put_more {new} {past} w =
            record {
              ps = g.ps ++ pair (k + 1) (y - x) ∷ [];
              low = r.low;
              within = r.within;
              rising = further;
              so = parts;
              written = subst (λ (q : List ℕ). Written old new first past q) (sym bytes) (written_then g.written w);
            }

    pub put_end : length l ≤ i → PairsPut l old now first
    unfolding pairs_from pair_then
    put_end h =
        let e : pairs_in l ≡ g.ps = g.so ∙ rw (drop_of_length-le l h) (append-nil g.ps) in
        rw e g.written.list

pub ruleset puttings = (put_begin, put_room, put_more, put_end, rules)

-- ---- the head, and then the pairs
module _ (l old : List ℕ) (n : ℕ) (f : Encodable l old n) where
  split : length (table_in l) ≡ length (head_of n (head_in l)) + length (pair_bytes (pairs_in l))
  split = ap length (table_bytes_law l) ∙ length-append (head_of (length (pairs_in l)) (head_in l)) (pair_bytes (pairs_in l)) ∙ rw f.pairs

  module _ {a : ℕ} (e : a ≡ get_or l 0 0) where
    pub fill_head : 0 + length (head_of n a) ≤ length old
    fill_head = rw e (omega (arith, f.room, split))

    module _ {mid : List ℕ} {at : ℕ} (w : Written old mid 0 at (head_of n a)) where
      pub fill_rest : Puttable l mid at
      fill_rest =
          record {
            writable = f.writable;
            room = omega (arith, f.room, split, w.place, ap (λ (m : ℕ). length (head_of n m)) e, written_long w);
          }

      pub fill_all : {new : List ℕ} → PairsPut l mid new at → TablePut l old new
      fill_all {new} p =
          let v : Written mid new at (at + length (pair_bytes (pairs_in l))) (pair_bytes (pairs_in l)) = record { list = p; place = refl } in
          let b : head_of n a ++ pair_bytes (pairs_in l) ≡ table_in l = rw (f.pairs, e) (sym (table_bytes_law l)) in
          (written_then w v).list ∙ ap (sets old 0) b

pub ruleset fills = (fill_head, fill_rest, fill_all, rules)

-- ---- any list
module _ (l : List ℕ) where
  pub measure_over : list_limit < length l → Sizes l (err_at Limit 0)
  measure_over h = encode_over l h

  pub measure_empty : length l < 1 → Sizes l (err_at Empty 0)
  measure_empty h = encode_in l (omega arith) ∙ none l h
    where
      none : (m : List ℕ) → length m < 1 → build m ≡ refused Empty 0
      none [] e = build_none
      none (x ∷ m) e = absurd (omega arith)

  module _ (some : 1 ≤ length l) (few : length l ≤ list_limit) where
    pub measure_sizable : Sizable l
    measure_sizable = record { some = some; few = few }

    pub measure_in : (r : Result Need Refused) → SizesIn l r → Sizes l r
    measure_in (Ok t) s = (s.0, s.1, record { few = few; some = some; rising = s.2 })
    measure_in (Err e) s = encode_in l few ∙ s

pub ruleset measures = (measure_over, measure_empty, measure_sizable, measure_in, rules)

-- ---- a write: what the first pass found
module _ (l old : List ℕ) where
  pub write_not : {a : Answer} {e : Refused} → Sizes l (Err e) → a ≡ refusal e.why e.place → Gives (encode l) old a old
  write_not s q = gives_refused old q s

  module _ {t : Need} (s : Sizes l (Ok t)) where
    found : Ok t.bytes ≡ found_of (encode l)
    found = sym (found_accepted (record { list = table_in l; is = encode_accepts l s.2; long = sym s.1 }))

    pub write_short : {a : Answer} → length old < t.bytes → a ≡ no_room t.bytes → Gives (encode l) old a old
    write_short h q = gives_short old found refl h q

    pub write_full : {a : Answer} {new : List ℕ} → t.bytes ≤ length old → TablePut l old new → a ≡ success t.bytes → Gives (encode l) old a new
    write_full {new = new} h u q =
        let m : length (table_in l) ≤ length old = omega (arith, s.1) in
        let z : 0 + length (table_in l) ≤ length old = omega arith in
        let k : 0 + length (table_in l) ≡ length (table_in l) = omega arith in
        let f : new ≡ filled itself (encode l) old = u ∙ sets-eq (table_in l) old 0 z ∙ rw k (sym (filled_self old (encode_accepts l s.2) m)) in
        gives_full old found refl h f q
