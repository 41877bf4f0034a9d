-- The needs of the writer's two passes, stated as the code asks them.
-- Assumes nothing.
use Rattle.std.proofs.Common.{◌≡◌, ℕ, zero, suc, ◌+◌, ◌-◌, ◌*◌, ◌%◌, ◌^◌, ◌<◌, ◌≤◌, Bool, true, false, cond, ltb, List, [], ◌∷◌, ◌++◌, length, get_or, drop, sym, refl, ap, ◌∙◌, subst, append_assoc, append-nil, mul-le-mul_right, mul-le-mul_left, add-one, arith, length-append, drop_of_length-le, drop-cons, pow_mono, w64, Fits, rules, le-ltb, lt-ltb}
use Rattle.answer.specs.declared.Refusal.{Refusal}
use Rattle.answer.specs.declared.Refusal.TheVariants.{Limit}
use Rattle.std.specs.Prelude.{Result, Ok, Err}
use Rattle.answer.proofs.Limits.{list_small}
use Rattle.answer.specs.Outcome.{Outcome, accepted, refused_at, found_of, list_limit, itself, Gives, filled}
use Rattle.answer.specs.Outcome.Laws.{found_accepted, found_refused, found_count, buffer_more, buffer_long, filled_self, gives_not, gives_short, gives_full}
use Rattle.answer.specs.declared.Answer.{Answer}
use Rattle.answer.specs.declared.Refused.{Refused}
use Rattle.answer.specs.Written.{Written}
use Rattle.word.specs.declared.Class.{Class}
use Rattle.word.specs.Class.{bytes_of, window_of}
use Rattle.word.specs.Class.Laws.{bytes_least, bytes_most, class_is}
use Rattle.word.specs.Word.Laws.{bytes_words_length, store_sets, bytes_words_none, bytes_words_one, bytes_words_append}
use Rattle.word.specs.Word.{with_word, bytes_of_words}
use Rattle.relr_table.specs.Words.{Where, nowhere, from, falls, bit, word, write, table, Legal}
use Rattle.relr_table.specs.Table.{space_of, checked, build, table_bytes, encode, Writable}
use Rattle.relr_table.specs.Place.{Place, Nowhere, unset}
use Rattle.relr_write.specs.declared.packer.Pending.{Pending}
use Rattle.relr_write.specs.declared.packer.Packed.{Packed}
use Rattle.relr_write.specs.declared.packer.Packed.TheVariants.{Joined, Flushed, Alone}
use Rattle.relr_write.specs.Inner.{Near, words_for, Bits, Holding, Adds, Precedes, Acts, Packs, fault_of, end_of, Encodable, Room, Leaves}
use Rattle.relr_write.specs.declared.Rest.{Rest}
use Rattle.relr_table.proofs.Steps.{write_join, write_flush, write_end, write_done}
use Rattle.relr_table.specs.Contract.{WritesIn}
use Rattle.relr_table.proofs.RoundTrip.{encode_over, encode_in, encode_legal, encode_is}
use Rattle.relr_table.proofs.Least.{least_of}
use Rattle.relr_table.proofs.Checked.{legal_checked}
use Rattle.relr_write.proofs.EntryNeeds.{window_most, Sound, sound, checked_bad, checked_clean}

-- ---- what is pending
module _ (k : Class) {lo b : ℕ} {w : Where} {p : Place} (h : Holding k lo w p b) where
  pub holding_small : b < 2 ^ 63
  holding_small = go w h.bits
    where
      go : (w : Where) → Bits k lo w b → b < 2 ^ 63
      go nowhere e = omega arith
      go (from v) (m, l, g, f) = omega (arith, pow_mono l, pow_mono (window_most k))

-- the words at the end
words_end : (k : Class) (w : Where) (lo b : ℕ) → Bits k lo w b → words_for k w b [] ≡ end_of b
unfolding table word
words_end k nowhere lo b e = rw e
words_end k (from v) lo b h = go b
  where
    go : (b : ℕ) → write (bytes_of k) (window_of k) [] v b ≡ end_of b
    go zero = write_done (bytes_of k) (window_of k) v
    go (suc b) = rw (lt-ltb 0 (suc b) (omega arith)) (write_end (bytes_of k) (window_of k) v (suc b) (omega arith))

-- as many words whatever bits are pending, if any are
write_count : (c n : ℕ) (l : List ℕ) (v a b : ℕ) → 0 < a → 0 < b → length (write c n l v a) ≡ length (write c n l v b)
write_count c n [] v a b h g = rw (write_end c n v a h, write_end c n v b g)
write_count c n (x ∷ l) v a b h g = go (falls c n v x) refl (write_count c n l v (a + bit c v x) (b + bit c v x) (omega arith) (omega arith))
  where
    go : (t : Bool) → falls c n v x ≡ t → length (write c n l v (a + bit c v x)) ≡ length (write c n l v (b + bit c v x)) → length (write c n (x ∷ l) v a) ≡ length (write c n (x ∷ l) v b)
    go true e ih = rw (write_join c n x l v a e, write_join c n x l v b e) ih
    go false e ih = rw (write_flush c n x l v a h e, write_flush c n x l v b g e)

-- one bit instead of those that are pending
module _ (k : Class) (lo : ℕ) (p : Place) (b : ℕ) (some : 0 < b) where
  one_bit : (w : Where) → Holding k lo w p b → Holding k lo w p 1
  one_bit nowhere h = absurd (omega (arith, h.bits))
  one_bit (from v) h = let (m, l, g, f) = h.bits in record { stands = h.stands; near = h.near; bits = (m, l, omega arith, f) }

  one_count : (w : Where) → Holding k lo w p b → (l : List ℕ) → length (words_for k w b l) ≡ length (words_for k w 1 l)
  one_count nowhere h l = refl
  one_count (from v) h l = write_count (bytes_of k) (window_of k) l v b 1 some (omega arith)

-- the first place
pub holding_begin : (k : Class) → Holding k 0 nowhere Nowhere 0
holding_begin k = record { stands = unset refl refl; near = λ e. absurd (omega arith); bits = refl }

-- ---- the first pass: the words found_count, and the offsets left
pub record Sizing (k : Class) (l : List ℕ) (i least : ℕ) (p : Place) (b words : ℕ) : Type 0 where
  pub w : Where
  pub holding : Holding k least w p b
  pub flag : b ≤ 1
  pub so : length (table (bytes_of k) (window_of k) l) ≡ words + length (words_for k w b (drop i l))
  pub few : words + b ≤ 2 * i
  pub clean : (o : Outcome (List ℕ)) → checked (bytes_of k) (space_of k) 0 0 l o ≡ checked (bytes_of k) (space_of k) i least (drop i l) o

module _ {k : Class} {l : List ℕ} {i least b words : ℕ} {p : Place} (h : Sizing k l i least p b words) where
  module _ {n x : ℕ} {f : Result (Unit {0}) Refusal} (ne : n ≡ length l) (il : i < n) (xe : x ≡ get_or l i 0) (fe : f ≡ fault_of k x least) where
    left : drop i l ≡ x ∷ drop (i + 1) l
    left = rw (xe, add-one) (drop-cons l i 0 (omega arith))

    pub sizing_bad : {why : Refusal} → f ≡ Err why → Err (refused_at why i) ≡ found_of (build k l)
    unfolding build
    sizing_bad e = sym (found_refused (h.clean (accepted (table_bytes k l)) ∙ rw left (checked_bad k x least i (drop (i + 1) l) _ (sym fe ∙ e))))

    module _ (e : f ≡ Ok tt) where
      ok : Sound k x least
      ok = sound k x least (sym fe ∙ e)

      module _ {r : Packed} (pk : Packs k (record { place = p; bits = b }) x r) where
        acts : Acts k least h.w (record { place = p; bits = b }) x r
        acts = pk.acts h.w least h.holding ok.above

        still : (o : Outcome (List ℕ)) → checked (bytes_of k) (space_of k) 0 0 l o ≡ checked (bytes_of k) (space_of k) (i + 1) (x + 1) (drop (i + 1) l) o
        still o = h.clean o ∙ rw left (checked_clean k x least i (drop (i + 1) l) o ok)

        pub sizing_join : {q : Pending} → r ≡ Joined q → Sizing k l (i + 1) (x + 1) p 1 words
        sizing_join {q} re =
            let (pe, some, a) = subst (Acts k least h.w (record { place = p; bits = b }) x) re acts in
            let g : Holding k (x + 1) a.v p q.bits = subst (λ (z : Place). Holding k (x + 1) a.v z q.bits) pe (rw add-one a.holding) in
            let s : length (words_for k h.w b (drop i l)) ≡ length (words_for k a.v 1 (drop (i + 1) l)) =
            rw left (ap length (a.is (drop (i + 1) l)) ∙ one_count k (x + 1) p q.bits some a.v g (drop (i + 1) l)) in
            record {
              w = a.v;
              holding = one_bit k (x + 1) p q.bits some a.v g;
              flag = omega arith;
              so = omega (arith, h.so, s);
              few = omega (arith, h.few);
              clean = still;
            }

        pub sizing_alone : {q : Pending} → r ≡ Alone q → Sizing k l (i + 1) (x + 1) q.place b (words + 1)
        sizing_alone {q} re =
            let (be, qe, a) = subst (Acts k least h.w (record { place = p; bits = b }) x) re acts in
            let g : Holding k (x + 1) a.v q.place b = subst (λ (z : ℕ). Holding k (x + 1) a.v q.place z) (qe ∙ sym be) (rw add-one a.holding) in
            let u = ap (λ (z : ℕ). length (words_for k a.v z (drop (i + 1) l))) (qe ∙ sym be) in
            let s : length (words_for k h.w b (drop i l)) ≡ 1 + length (words_for k a.v q.bits (drop (i + 1) l)) = rw left (ap length (a.is (drop (i + 1) l)) ∙ omega arith) in
            record {
              w = a.v;
              holding = g;
              flag = h.flag;
              so = omega (arith, h.so, s, u);
              few = omega (arith, h.few);
              clean = still;
            }

  pub sizing_product : {c : ℕ} → c ≡ bytes_of k → length l ≤ list_limit → i ≤ length l → Fits w64 ((words + b) * c)
  sizing_product {c} ce m q =
      let f : c ≤ 8 = omega (arith, bytes_most k) in
      record { fits = omega (arith, h.few, mul-le-mul_left (words + b) f, list_small) }

  pub sizing_end : {n c : ℕ} → n ≡ length l → n ≤ i → c ≡ bytes_of k → Ok ((words + b) * c) ≡ found_of (build k l)
  unfolding build Legal
  sizing_end ne il ce =
      let d : drop i l ≡ [] = drop_of_length-le l {i = i} (omega arith) in
      let e : checked (bytes_of k) (space_of k) 0 0 l (accepted (table_bytes k l)) ≡ accepted (table_bytes k l) =
      h.clean (accepted (table_bytes k l)) ∙ rw d (legal_checked (bytes_of k) (space_of k) i least [] _ tt) in
      let m : words + b ≡ length (table (bytes_of k) (window_of k) l) = omega (arith, h.so, ap (λ (t : List ℕ). length (words_for k h.w b t)) d, ap length (words_end k h.w least b h.holding.bits), ends b h.flag) in
      sym (found_accepted (record { list = table_bytes k l; is = e; long = bytes_words_length k (table (bytes_of k) (window_of k) l) ∙ rw (m, ce) }))
    where
      ends : (t : ℕ) → t ≤ 1 → length (end_of t) ≡ t
      ends zero q = refl
      ends (suc t) q = rw (lt-ltb 0 (suc t) (omega arith)) (omega arith)

pub ruleset sizings = (sizing_bad, sizing_join, sizing_alone, sizing_product, sizing_end, rules)

-- ---- the second pass: the words passed, and the offsets left
pub record Packing (k : Class) (l out : List ℕ) (i lo : ℕ) (p : Pending) : Type 0 where
  pub w : Where
  pub holding : Holding k lo w p.place p.bits
  pub so : table (bytes_of k) (window_of k) l ≡ out ++ words_for k w p.bits (drop i l)

pub packing_begin : (k : Class) (l : List ℕ) → Packing k l [] 0 0 (record { place = Nowhere; bits = 0 })
packing_begin k l = record { w = nowhere; holding = holding_begin k; so = refl }

module _ {k : Class} {l out : List ℕ} {i lo : ℕ} {p : Pending} (h : Packing k l out i lo p) {x : ℕ} (il : i < length l) (xe : x ≡ get_or l i 0) (le : lo ≤ x) {r : Packed} (pk : Packs k p x r) where
  first_left : drop i l ≡ x ∷ drop (i + 1) l
  first_left = rw (xe, add-one) (drop-cons l i 0 il)

  does : Acts k lo h.w p x r
  does = pk.acts h.w lo h.holding le

  adds : {q : Pending} (b : List ℕ) → Adds k h.w p.bits x b q → Packing k l (out ++ b) (i + 1) (x + 1) q
  adds b a =
      record {
        w = a.v;
        holding = rw add-one a.holding;
        so = h.so ∙ rw first_left (ap (λ (t : List ℕ). out ++ t) (a.is (drop (i + 1) l)) ∙ sym (append_assoc out b _));
      }

  pub packing_join : {q : Pending} → r ≡ Joined q → Packing k l out (i + 1) (x + 1) q
  packing_join {q} re =
      let (pe, some, a) = subst (Acts k lo h.w p x) re does in
      subst (λ (t : List ℕ). Packing k l t (i + 1) (x + 1) q) (append-nil out) (adds [] a)

  pub packing_alone : {q : Pending} → r ≡ Alone q → Packing k l (out ++ x ∷ []) (i + 1) (x + 1) q
  packing_alone re = let (be, qe, a) = subst (Acts k lo h.w p x) re does in adds (x ∷ []) a

  module _ {y : ℕ} {q : Pending} (re : r ≡ Flushed y q) where
    precedes : Precedes k lo h.w p.bits x y q
    precedes = subst (Acts k lo h.w p x) re does

    pub packing_less : (n : ℕ) → 2 * (n - i) + length (end_of q.bits) < 2 * (n - i) + length (end_of p.bits)
    packing_less n = rw (precedes.none, lt-ltb 0 p.bits precedes.some) (omega arith)

    pub packing_flush : Packing k l (out ++ y ∷ []) i lo q
    packing_flush =
        let a = precedes in
        let e : words_for k h.w p.bits (drop i l) ≡ y ∷ words_for k a.v 0 (drop i l) = rw first_left (a.is (drop (i + 1) l)) in
        let f = ap (λ (z : ℕ). y ∷ words_for k a.v z (drop i l)) (sym a.none) in
        record {
          w = a.v;
          holding = subst (λ (z : ℕ). Holding k lo a.v q.place z) (sym a.none) a.holding;
          so = h.so ∙ ap (λ (t : List ℕ). out ++ t) (e ∙ f) ∙ sym (append_assoc out (y ∷ []) _);
        }

pub packing_end : {k : Class} {l out : List ℕ} {i lo : ℕ} {p : Pending} → Packing k l out i lo p → length l ≤ i → table (bytes_of k) (window_of k) l ≡ out ++ end_of p.bits
packing_end {k} {l} {out} {i} {lo} {p} h il =
    h.so ∙ rw (drop_of_length-le l il) (ap (λ (t : List ℕ). out ++ t) (words_end k h.w lo p.bits h.holding.bits))

-- ---- stores
word_long : (k : Class) (w : ℕ) → length (bytes_of_words k (w ∷ [])) ≡ bytes_of k
word_long k w = bytes_words_length k (w ∷ []) ∙ omega arith

pub put_one : (k : Class) (old : List ℕ) (at w c : ℕ) {new : List ℕ} → c ≡ bytes_of k → new ≡ with_word k old at w → Written old new at (at + c) (bytes_of_words k (w ∷ []))
put_one k old at w c ce e = record { list = e ∙ store_sets k old at w ∙ rw bytes_words_one; place = omega (arith, word_long k w) }

pub ruleset stores = (put_one, rules)

-- ---- the second pass
pub record Putting (k : Class) (l old : List ℕ) (i : ℕ) (p : Pending) (at : ℕ) (now : List ℕ) : Type 0 where
  pub out : List ℕ
  pub lo : ℕ
  pub packing : Packing k l out i lo p
  pub legal : Legal (bytes_of k) (space_of k) lo (drop i l)
  pub place : at ≡ length (bytes_of_words k out)
  pub held : now ≡ bytes_of_words k out ++ drop at old
  pub within : i ≤ length l

pub putting_begin : (k : Class) (l old : List ℕ) → Encodable k l old → Putting k l old 0 (record { place = Nowhere; bits = 0 }) 0 old
putting_begin k l old h =
    record {
      out = [];
      lo = 0;
      packing = packing_begin k l;
      legal = h.legal;
      place = rw bytes_words_none;
      held = rw bytes_words_none;
      within = omega arith;
    }

module _ {k : Class} {l old : List ℕ} (f : Encodable k l old) {i at : ℕ} {p : Pending} {now : List ℕ} (g : Putting k l old i p at now) where
  -- what is written is a part of the table
  part : (b : List ℕ) (rest : List ℕ) → table (bytes_of k) (window_of k) l ≡ g.out ++ (b ++ rest) → at + length (bytes_of_words k b) ≤ length old
  part b rest e =
      omega (
        arith,
        f.room,
        g.place,
        ap (λ (t : List ℕ). length (bytes_of_words k t)) e,
        ap length (bytes_words_append k g.out (b ++ rest)),
        ap length (bytes_words_append k b rest),
        length-append (bytes_of_words k g.out) (bytes_of_words k (b ++ rest)),
        length-append (bytes_of_words k b) (bytes_of_words k rest),
      )

  at_most : at ≤ length old
  at_most = omega (arith, part [] _ g.packing.so)

  pub putting_long : length now ≡ length old
  putting_long = buffer_long (bytes_of_words k g.out) old at g.held (sym g.place) at_most

  pub putting_small : p.bits < 2 ^ 63
  putting_small = holding_small k g.packing.holding

  stored : (b : List ℕ) {n : ℕ} {new : List ℕ} → at + length (bytes_of_words k b) ≤ length old → Written now new at n (bytes_of_words k b)
      → (n ≡ length (bytes_of_words k (g.out ++ b))) × (new ≡ bytes_of_words k (g.out ++ b) ++ drop n old)
  stored b h u = (
    omega (arith, u.place, g.place, ap length (bytes_words_append k g.out b), length-append (bytes_of_words k g.out) (bytes_of_words k b)),
    u.list ∙ buffer_more (bytes_of_words k g.out) old at (bytes_of_words k b) g.held (sym g.place) h ∙ rw (u.place, ← bytes_words_append k g.out b),
  )

  module _ {n x : ℕ} (ne : n ≡ length l) (il : i < n) (xe : x ≡ get_or l i 0) where
    put_left : drop i l ≡ x ∷ drop (i + 1) l
    put_left = rw (xe, add-one) (drop-cons l i 0 (omega arith))

    next_legal : (g.lo ≤ x) × (x % 2 ≡ 0) × (x + bytes_of k ≤ space_of k) × Legal (bytes_of k) (space_of k) (x + 1) (drop (i + 1) l)
    unfolding Legal
    next_legal = let h : Legal (bytes_of k) (space_of k) g.lo (x ∷ drop (i + 1) l) = rw put_left at g.legal in (h.0, h.1, h.2, rw add-one h.3)

    pub putting_in : x + bytes_of k ≤ space_of k
    putting_in = next_legal.2

    pub putting_even : x % 2 ≡ 0
    putting_even = next_legal.1

    pub putting_near : Near p.place x
    putting_near = λ z. omega (arith, g.packing.holding.near z, next_legal.0)

    module _ {r : Packed} (pk : Packs k p x r) where
      pub putting_join : {q : Pending} → r ≡ Joined q → Putting k l old (i + 1) q at now
      putting_join re =
          record {
            out = g.out;
            lo = x + 1;
            packing = packing_join g.packing (omega arith) xe next_legal.0 pk re;
            legal = next_legal.3;
            place = g.place;
            held = g.held;
            within = omega arith;
          }

      -- a word of the table comes next
      module _ {j lo : ℕ} {q : Pending} (y : ℕ) (pa : Packing k l (g.out ++ y ∷ []) j lo q) where
        fits : at + length (bytes_of_words k (y ∷ [])) ≤ length old
        fits = part (y ∷ []) _ (pa.so ∙ append_assoc g.out (y ∷ []) _)

        room : Room at (bytes_of k) now
        room = omega (arith, fits, word_long k y, putting_long)

        more : {m : ℕ} {new : List ℕ} → Legal (bytes_of k) (space_of k) lo (drop j l) → j ≤ length l → Written now new at m (bytes_of_words k (y ∷ [])) → Putting k l old j q m new
        more le jl u =
            let (a, b) = stored (y ∷ []) fits u in
            record { out = g.out ++ y ∷ []; lo = lo; packing = pa; legal = le; place = a; held = b; within = jl }

      module _ {q : Pending} (re : r ≡ Alone q) where
        alone : Packing k l (g.out ++ x ∷ []) (i + 1) (x + 1) q
        alone = packing_alone g.packing (omega arith) xe next_legal.0 pk re

        pub putting_room_alone : Room at (bytes_of k) now
        putting_room_alone = room x alone

        pub putting_alone : {m : ℕ} {new : List ℕ} → Written now new at m (bytes_of_words k (x ∷ [])) → Putting k l old (i + 1) q m new
        putting_alone u = more x alone next_legal.3 (omega arith) u

      module _ {y : ℕ} {q : Pending} (re : r ≡ Flushed y q) where
        flushed : Packing k l (g.out ++ y ∷ []) i g.lo q
        flushed = packing_flush g.packing (omega arith) xe next_legal.0 pk re

        pub putting_room_flushed : Room at (bytes_of k) now
        putting_room_flushed = room y flushed

        pub putting_flush : {m : ℕ} {new : List ℕ} → Written now new at m (bytes_of_words k (y ∷ [])) → Putting k l old i q m new
        putting_flush u = more y flushed g.legal g.within u

        pub putting_less : 2 * (n - i) + length (end_of q.bits) < 2 * (n - i) + length (end_of p.bits)
        putting_less = packing_less g.packing (omega arith) xe next_legal.0 pk re n

  pub putting_end : {n : ℕ} → n ≡ length l → n ≤ i → Leaves k l old (record { at = at; bits = p.bits }) now
  putting_end ne il = record { out = g.out; so = packing_end g.packing (omega arith); small = putting_small; place = g.place; held = g.held }

pub ruleset puttings = (putting_begin, putting_long, putting_small, putting_in, putting_even, putting_near, putting_join, putting_room_alone, putting_alone, putting_room_flushed, putting_flush, putting_less, putting_end, rules)

-- ---- the bitmap that is pending at the end
module _ {k : Class} {l old : List ℕ} (f : Encodable k l old) {r : Rest} {now : List ℕ} (g : Leaves k l old r now) where
  bytes_all : length (table_bytes k l) ≡ r.at + length (bytes_of_words k (end_of r.bits))
  bytes_all =
      omega (
        arith,
        g.place,
        ap (λ (t : List ℕ). length (bytes_of_words k t)) g.so,
        ap length (bytes_words_append k g.out (end_of r.bits)),
        length-append (bytes_of_words k g.out) (bytes_of_words k (end_of r.bits)),
      )

  leaving_long : length now ≡ length old
  leaving_long = buffer_long (bytes_of_words k g.out) old r.at g.held (sym g.place) (omega (arith, f.room, bytes_all))

  module _ (pos : 0 < r.bits) where
    last : end_of r.bits ≡ (2 * r.bits + 1) ∷ []
    last = rw (lt-ltb 0 r.bits pos)

    pub leaving_room : Room r.at (bytes_of k) now
    leaving_room = omega (arith, f.room, bytes_all, ap (λ (t : List ℕ). length (bytes_of_words k t)) last, word_long k (2 * r.bits + 1), leaving_long)

    pub leaving_end : {m : ℕ} {new : List ℕ} → Written now new r.at m (bytes_of_words k ((2 * r.bits + 1) ∷ [])) → new ≡ table_bytes k l ++ drop (length (table_bytes k l)) old
    leaving_end u =
        let e : bytes_of_words k g.out ++ bytes_of_words k ((2 * r.bits + 1) ∷ []) ≡ table_bytes k l =
        sym (bytes_words_append k g.out ((2 * r.bits + 1) ∷ [])) ∙ ap (bytes_of_words k) (sym (g.so ∙ rw last)) in
        let h : r.at + length (bytes_of_words k ((2 * r.bits + 1) ∷ [])) ≡ length (table_bytes k l) =
        sym (bytes_all ∙ rw last) in
        u.list
        ∙ buffer_more (bytes_of_words k g.out) old r.at (bytes_of_words k ((2 * r.bits + 1) ∷ [])) g.held (sym g.place) (omega (arith, f.room, h))
        ∙ rw (e, h)

pub ruleset leavings = (leaving_room, leaving_end, rules)

-- ---- a write for a class: f is what the first pass found
pub measure_over : (k : Class) (l : List ℕ) → list_limit < length l → Err (refused_at Limit 0) ≡ found_of (encode k l)
measure_over k l h = sym (found_refused (encode_over k l h))

pub measure_in : {k j : Class} (e : k ≡ j) (l : List ℕ) {f : Result ℕ Refused} → f ≡ found_of (build j l) → length l ≤ list_limit → f ≡ found_of (encode k l)
measure_in {k} {j} e l {f} h s = subst (λ (i : Class). f ≡ found_of (encode i l)) (sym e) (h ∙ ap found_of (sym (encode_in j l s)))

pub ruleset measures = (class_is, measure_over, measure_in, rules)

module _ (k : Class) (l old : List ℕ) {f : Result ℕ Refused} (is : f ≡ found_of (encode k l)) {n : ℕ} (e : f ≡ Ok n) (fits : n ≤ length old) where
  pub write_encodable : Encodable k l old
  unfolding Writable
  write_encodable =
      let c = found_count (encode k l) (sym is ∙ e) in
      record { legal = (encode_legal k l c.is).1; room = omega (arith, c.long, ap length (encode_is k l c.is)) }

  pub write_filled : {new : List ℕ} → new ≡ table_bytes k l ++ drop (length (table_bytes k l)) old → new ≡ filled itself (encode k l) old
  write_filled u =
      let c = found_count (encode k l) (sym is ∙ e) in
      u ∙ rw (← encode_is k l c.is) (sym (filled_self old c.is (omega (arith, c.long))))

pub writes_in : {k : Class} {l old new : List ℕ} {a : Answer} → Gives (encode k l) old a new → WritesIn k l old a new
writes_in {k} {l} g = record { gives = g; least = λ h. least_of k l h g }

pub ruleset writes = (writes_in, gives_not, gives_short, gives_full, write_encodable, write_filled, rules)
