-- Which lists are written; that their tables are within the input's limit; and that they read back as the list.
-- Assumes nothing.
use Prim.Native.Nat.{ℕ, zero, suc, ◌+◌, ◌-◌, ◌*◌, ◌^◌, ◌≤◌, ◌<◌}
use mathlib.Core.Bool.{Bool, true, false, cond}
use mathlib.Core.Path.{◌≡◌, refl, sym, ap, subst, ◌∙◌}
use mathlib.Core.List.{List, [], ◌∷◌, ◌++◌, append_assoc}
use native.Mathlib.Nat.{mul-le-mul_left, mul_comm}
use native.Mathlib.Numerals.{add-one}
use native.Mathlib.Omega.{arith}
use native.Mathlib.Decide.{dec_le}
use lib.Dec.{eqb, leb}
use lib.ListN.{length, drop, length-append}
use borrow.Author.Tests.{ne_eqb, eqb-true, le-leb, lt-leb}
use Rattle.answer.specs.declared.Refusal.TheVariants as why
use Rattle.answer.proofs.Limits.{list_most, list_small}
use Rattle.answer.specs.Outcome.{Outcome, accepted, input_limit, list_limit, refused}
use Rattle.answer.specs.Outcome.Laws.{accepted_refused, limited_over, limited_in, limited_accepted}
use Rattle.leb128.specs.Number.{read_unsigned, short_unsigned}
use Rattle.records.specs.Columns.{Each}
use Rattle.records.specs.Identifier.{starts_with}
use Rattle.records.specs.Identifier.Laws.{starts_same}
use Rattle.records.specs.Reading.{one, records}
use Rattle.records.specs.Writing.{Put, bytes, none as unput, puts}
use Rattle.records.specs.Writing.Laws.{puts_more, puts_end}
use Rattle.records.proofs.Writing.{after_accepted}
use Rattle.records.proofs.RoundTrip.{unsigned_here, back}
use Rattle.apr1_table.specs.Table.{identifier, last, Pair, pair, run, reach, expand, step_at, parse, with_first, with_count, pair_then, pairs_from, one_pair, pair_bytes, head_of, checked, build, decode, encode, Writable, Rising}
use Rattle.apr1_table.specs.Table.Laws.{run_more, expand_none, expand_more, step_is, joined_is}
use Rattle.apr1_table.specs.Inner.{head_in, pairs_in, table_in}
use Rattle.apr1_table.proofs.Pairs.{one_bytes, one_most, pair_bytes_none, pair_bytes_more, head_bytes, head_most, table_bytes_law, checked_space, checked_order, checked_more, rising_checked, build_none, from_head, build_is}
use Rattle.leb128.specs.Number.{ok_at}

-- ---- the lists that have a table: not empty, rising, inside the space
checked_rising : (i lo : ℕ) (l : List ℕ) (o : Outcome (List ℕ)) (b : List ℕ) → checked i lo l o ≡ accepted b → Rising lo l
checked_rising i lo [] o b e = tt
checked_rising i lo (x ∷ l) o b e = go (checked_rising (i + 1) (x + 1) l o b) (dec_le x last) (dec_le lo x)
  where
    go : (checked (i + 1) (x + 1) l o ≡ accepted b → Rising (x + 1) l) → Dec (x ≤ last) → Dec (lo ≤ x) → (lo ≤ x) × (x ≤ last) × Rising (suc x) l
    go ih (no h) d = absurd (accepted_refused e (checked_space i lo x l o (omega arith)))
    go ih (yes h) (no k) = absurd (accepted_refused e (checked_order i lo x l o h (omega arith)))
    go ih (yes h) (yes k) = (k, h, subst (λ (n : ℕ). Rising n l) (add-one x) (ih (sym (checked_more i lo x l o h k) ∙ e)))

-- the list's limit
module _ (l : List ℕ) where
  pub encode_over : list_limit < length l → encode l ≡ refused why.Limit 0
  unfolding encode
  encode_over h = limited_over list_limit (length l) (build l) h

  pub encode_in : length l ≤ list_limit → encode l ≡ build l
  unfolding encode
  encode_in h = limited_in list_limit (length l) (build l) h

-- a list is accepted exactly where it can be written
pub encode_accepts : (l : List ℕ) → Writable l → encode l ≡ accepted (table_in l)
encode_accepts l w = encode_in l w.few ∙ build_is l w.some ∙ rising_checked 0 0 l (accepted (table_in l)) w.rising

build_legal : (l : List ℕ) {b : List ℕ} → build l ≡ accepted b → (0 < length l) × Rising 0 l
build_legal [] e = absurd (accepted_refused e build_none)
build_legal (x ∷ l) e = let s : 0 < length (x ∷ l) = omega arith in (s, checked_rising 0 0 (x ∷ l) _ _ (sym (build_is (x ∷ l) s) ∙ e))

module _ (l : List ℕ) {b : List ℕ} (e : encode l ≡ accepted b) where
  pub encode_legal : Writable l
  unfolding encode
  encode_legal =
      let (h, f) = limited_accepted list_limit (length l) (build l) e in
      let (some, rising) = build_legal l f in
      record { few = h; some = some; rising = rising }

  pub encode_is : b ≡ table_in l
  encode_is = let f = sym e ∙ encode_accepts l encode_legal in cc

-- ---- the pairs behind s, where a run of c gaps d from s on ends at x
-- each pair stays inside the space, and its numbers have 32 bits
abbrev Fine : Pair → Type 0
Fine p = (p.count < 2 ^ 32) × (p.gap < 2 ^ 32)

abbrev Stays : ℕ → List Pair → Type 0
Stays s [] = Unit {0}
Stays s (p ∷ ps) = (reach s p ≤ last) × Stays (reach s p) ps

product_least : (c d : ℕ) → 0 < d → c ≤ c * d
product_least c d h = omega (arith, mul-le-mul_left c h)

pub record Made (s d c : ℕ) (l : List ℕ) (ps : List Pair) : Type 0 where
  pub stays : Stays s ps
  pub fine : Each Fine ps
  pub gives : expand s ps ≡ run s c d ++ l
  pub few : length ps ≤ length l + 1

-- a run as a pair before others, where what follows it is made behind its end
closed : (s d c x : ℕ) (l : List ℕ) (ps : List Pair) → x ≡ s + c * d → 0 < d → x ≤ last → Stays x ps → Each Fine ps → expand x ps ≡ l → length ps ≤ length l
    → Made s d c l (pair_then c d ps)
unfolding pair_then run
closed s d zero x l ps e p h a b g n = let q : x ≡ s = omega arith in record { stays = rw q at a; fine = b; gives = rw q at g; few = omega arith }
closed s d (suc c) x l ps e p h a b g n =
    record {
      stays = (omega arith, rw e at a);
      fine = ((omega (arith, product_least (suc c) d p), omega (arith, product_least d (suc c) (omega arith), mul_comm d (suc c))), b);
      gives = expand_more s (pair (suc c) d) ps ∙ ap (λ (m : List ℕ). run s (suc c) d ++ m) (ap (λ (n : ℕ). expand n ps) (sym e) ∙ g);
      few = omega arith;
    }

one_run : (x d : ℕ) (l : List ℕ) → run x 1 d ++ l ≡ (x + d) ∷ l
unfolding run
one_run x d l = refl

made : (l : List ℕ) (s d c x : ℕ) → x ≡ s + c * d → 0 < d → x ≤ last → Rising (x + 1) l → Made s d c l (pairs_from x d c l)
unfolding pairs_from
made [] s d c x e p h r = closed s d c x [] [] e p h tt tt (expand_none x) (omega arith)
made (y ∷ l) s d c x e p h r =
    go (λ q. made l s d (suc c) y (omega arith) p r.1 up) (made l x (y - x) 1 y (omega (arith, r.0)) (omega (arith, r.0)) r.1 up) (eqb (y - x) d) refl
  where
    up : Rising (y + 1) l
    up = subst (λ (n : ℕ). Rising n l) (sym (add-one y)) r.2

    one_gap : run x 1 (y - x) ++ l ≡ y ∷ l
    one_gap = let q : x + (y - x) ≡ y = omega (arith, r.0) in one_run x (y - x) l ∙ rw q

    go : (y - x ≡ d → Made s d (suc c) l (pairs_from y d (suc c) l)) → Made x (y - x) 1 l (pairs_from y (y - x) 1 l) → (t : Bool) → eqb (y - x) d ≡ t
        → Made s d c (y ∷ l) (cond t (pairs_from y d (suc c) l) (pair_then c d (pairs_from y (y - x) 1 l)))
    go f m true q =
        let g : y - x ≡ d = eqb-true (y - x) d q in
        let a = f g in
        let z : s + (c + 1) * d ≡ y = omega (arith, r.0) in
        let k : run s (suc c) d ≡ run s c d ++ y ∷ [] = ap (λ (n : ℕ). run s n d) (sym (add-one c)) ∙ run_more s c d ∙ ap (λ (n : ℕ). run s c d ++ n ∷ []) z in
        record {
          stays = a.stays;
          fine = a.fine;
          gives = a.gives ∙ ap (λ (m : List ℕ). m ++ l) k ∙ append_assoc (run s c d) (y ∷ []) l;
          few = omega (arith, a.few);
        }
    go f m false q = closed s d c x (y ∷ l) (pairs_from y (y - x) 1 l) e p h m.stays m.fine (m.gives ∙ one_gap) (omega (arith, m.few))

-- the pairs of a whole list
pub record Whole (a : ℕ) (l : List ℕ) (ps : List Pair) : Type 0 where
  pub stays : Stays a ps
  pub fine : Each Fine ps
  pub gives : expand a ps ≡ l
  pub few : length ps ≤ length l

pub whole : (a : ℕ) (l : List ℕ) → a ≤ last → Rising (a + 1) l → Whole a l (pairs_from a 0 0 l)
unfolding pairs_from pair_then
whole a [] h r = record { stays = tt; fine = tt; gives = expand_none a; few = omega arith }
whole a (y ∷ l) h r =
    let up : Rising (y + 1) l = subst (λ (n : ℕ). Rising n l) (sym (add-one y)) r.2 in
    let m = made l a (y - a) 1 y (omega (arith, r.0)) (omega (arith, r.0)) r.1 up in
    let q : a + (y - a) ≡ y = omega (arith, r.0) in
    rw (ne_eqb (y - a) 0 (λ z. absurd (omega (arith, r.0))))
    (record { stays = m.stays; fine = m.fine; gives = m.gives ∙ one_run a (y - a) l ∙ rw q; few = omega (arith, m.few) })

-- ---- how many bytes
pairs_most : (ps : List Pair) → Each Fine ps → length (pair_bytes ps) ≤ 10 * length ps
pairs_most [] f = rw pair_bytes_none (omega arith)
pairs_most (p ∷ ps) f =
    rw pair_bytes_more
    (omega (arith, length-append (one_pair p) (pair_bytes ps), pairs_most ps f.1, one_most 32 p.count p.gap (omega arith) f.0.0 f.0.1))

-- ---- the pairs read back
-- a pair's bytes behind an offset from which it stays inside the space
put_pair : ℕ → Pair → Put
put_pair s p = cond (leb (reach s p) last) (bytes (one_pair p)) (unput why.Space)

puts_pairs : (ps : List Pair) (i s : ℕ) → Stays s ps → puts put_pair reach i s ps ≡ accepted (pair_bytes ps)
unfolding put_pair
puts_pairs [] i s h = puts_end put_pair reach i s ∙ rw pair_bytes_none
puts_pairs (p ∷ ps) i s h =
    puts_more put_pair reach i s p ps (rw (le-leb (reach s p) last h.0)) ∙ after_accepted (one_pair p) (puts_pairs ps (i + 1) (reach s p) h.1) ∙ rw pair_bytes_more

read_pair : (strict : Bool) (pre post : List ℕ) (s : ℕ) (p : Pair) → s ≤ last → Fine p → reach s p ≤ last
    → step_at strict (pre ++ (one_pair p ++ post)) (length pre) s ≡ one p (length pre + length (one_pair p)) (reach s p)
read_pair strict pre post s p g f h =
    let c = short_unsigned p.count in
    let d = short_unsigned p.gap in
    let w : 0 < 32 = omega arith in
    let t : List ℕ = pre ++ (one_pair p ++ post) in
    let i : t ≡ pre ++ (c ++ (d ++ post)) = ap (λ (m : List ℕ). pre ++ (m ++ post)) (one_bytes p.count p.gap) ∙ ap (λ (m : List ℕ). pre ++ m) (append_assoc c d post) in
    let j : t ≡ (pre ++ c) ++ (d ++ post) = i ∙ sym (append_assoc pre c (d ++ post)) in
    let r = unsigned_here strict 32 t pre (d ++ post) (length pre) w refl p.count f.0 i in
    let q = unsigned_here strict 32 t (pre ++ c) post (length (pre ++ c)) w refl p.gap f.1 j in
    let n : length ((pre ++ c) ++ d) ≡ length pre + length (one_pair p) =
    omega (arith, length-append (pre ++ c) d, length-append pre c, ap length (one_bytes p.count p.gap), length-append c d) in
    step_is strict t (length pre) s r q g h ∙ ap (λ (m : ℕ). one p m (reach s p)) n

pair_back : (strict : Bool) (pre post b : List ℕ) (s : ℕ) (p : Pair) → s ≤ last → Fine p → put_pair s p ≡ bytes b
    → (step_at strict (pre ++ (b ++ post)) (length pre) s ≡ one p (length pre + length b) (reach s p)) × (reach s p ≤ last)
unfolding put_pair
pair_back strict pre post b s p g f e = go (dec_le (reach s p) last)
  where
    go : Dec (reach s p ≤ last) → (step_at strict (pre ++ (b ++ post)) (length pre) s ≡ one p (length pre + length b) (reach s p)) × (reach s p ≤ last)
    go (no h) =
        let q : unput why.Space ≡ bytes b = sym (ap (λ (t : Bool). cond t (bytes (one_pair p)) (unput why.Space)) (lt-leb (reach s p) last (omega arith))) ∙ e in
        let z : ◌≡◌ {A = ℕ} 0 1 = cc in absurd (omega arith)
    go (yes h) =
        let q : bytes (one_pair p) ≡ bytes b = sym (ap (λ (t : Bool). cond t (bytes (one_pair p)) (unput why.Space)) (le-leb (reach s p) last h)) ∙ e in
        let k : one_pair p ≡ b = cc in
        (subst (λ (m : List ℕ). step_at strict (pre ++ (m ++ post)) (length pre) s ≡ one p (length pre + length m) (reach s p)) k (read_pair strict pre post s p g f h), h)

-- ---- a table whose head and pairs are read
parse_at : (strict : Bool) (s : List ℕ) (n a next first : ℕ) {ps : List Pair} → starts_with identifier s ≡ true → read_unsigned strict 32 s 4 ≡ ok_at n next → read_unsigned strict 32 s next ≡ ok_at a first → a ≤ last
    → records (step_at strict s) (length s) n first a ≡ accepted ps → parse strict s ≡ accepted (a ∷ expand a ps)
unfolding parse with_count with_first
parse_at strict s n a next first i c d h e = rw (i, c, d, le-leb a last h) (joined_is a e)

-- ---- the round trip: a written table is read as the list
parse_build : (strict : Bool) (l : List ℕ) → 0 < length l → length l ≤ list_limit → Rising 0 l → parse strict (table_in l) ≡ accepted l
parse_build strict l some few r =
    let a : ℕ = head_in l in
    let q : l ≡ a ∷ drop 1 l = from_head l some in
    let u : (0 ≤ a) × (a ≤ last) × Rising (suc a) (drop 1 l) = subst (Rising 0) q r in
    let m = whole a (drop 1 l) u.1 (subst (λ (n : ℕ). Rising n (drop 1 l)) (sym (add-one a)) u.2) in
    let n : ℕ = length (pairs_in l) in
    let k : n < 2 ^ 32 = omega (arith, m.few, ap length q, list_small) in
    let v : a < 2 ^ 32 = omega (arith, u.1) in
    let b = pair_bytes (pairs_in l) in
    let e : table_in l ≡ head_of n a ++ b = table_bytes_law l in
    let f : table_in l ≡ identifier ++ (short_unsigned n ++ (short_unsigned a ++ b)) =
    e ∙ ap (λ (t : List ℕ). t ++ b) (head_bytes n a) ∙ append_assoc identifier (short_unsigned n ++ short_unsigned a) b ∙ ap (λ (t : List ℕ). identifier ++ t) (append_assoc (short_unsigned n) (short_unsigned a) b) in
    let g : table_in l ≡ (identifier ++ short_unsigned n) ++ (short_unsigned a ++ b) = f ∙ sym (append_assoc identifier (short_unsigned n) (short_unsigned a ++ b)) in
    let w : 0 < 32 = omega arith in
    let s = ap (starts_with identifier) f ∙ starts_same identifier (short_unsigned n ++ (short_unsigned a ++ b)) in
    let c = unsigned_here strict 32 (table_in l) identifier (short_unsigned a ++ b) 4 w refl n k f in
    let d = unsigned_here strict 32 (table_in l) (identifier ++ short_unsigned n) b (length (identifier ++ short_unsigned n)) w refl a v g in
    let h : length ((identifier ++ short_unsigned n) ++ short_unsigned a) ≡ length (head_of n a) =
    ap length (append_assoc identifier (short_unsigned n) (short_unsigned a) ∙ sym (head_bytes n a)) in
    let z : records (step_at strict (table_in l)) (length (table_in l)) n (length (head_of n a)) a ≡ accepted (pairs_in l) =
    rw e (back (step_at strict) put_pair reach (λ (x : ℕ). x ≤ last) Fine (pair_back strict) (pairs_in l) 0 a (head_of n a) u.1 m.fine (puts_pairs (pairs_in l) 0 a m.stays)) in
    parse_at strict (table_in l) n a _ _ s c d u.1 (ap (λ (i : ℕ). records (step_at strict (table_in l)) (length (table_in l)) n i a) h ∙ z)
    ∙ ap accepted (ap (λ (t : List ℕ). a ∷ t) m.gives ∙ sym q)

-- a table has at most 4 bytes, and 10 for each offset
pub table_most : (l : List ℕ) → Writable l → length (table_in l) ≤ 4 + 10 * length l
table_most l w =
    let q : l ≡ head_in l ∷ drop 1 l = from_head l w.some in
    let u : (0 ≤ head_in l) × (head_in l ≤ last) × Rising (suc (head_in l)) (drop 1 l) = subst (Rising 0) q w.rising in
    let m = whole (head_in l) (drop 1 l) u.1 (subst (λ (n : ℕ). Rising n (drop 1 l)) (sym (add-one (head_in l))) u.2) in
    omega (
      arith,
      ap length (table_bytes_law l),
      length-append (head_of (length (pairs_in l)) (head_in l)) (pair_bytes (pairs_in l)),
      pairs_most (pairs_in l) m.fine,
      m.few,
      ap length q,
      head_most (length (pairs_in l)) (head_in l) (omega (arith, m.few, ap length q, w.few, list_small)) (omega (arith, u.1)),
    )

table_fits : (l : List ℕ) → Writable l → length (table_in l) ≤ input_limit
table_fits l w = omega (arith, table_most l w, w.few, list_most)

-- ---- what is written
module _ (l : List ℕ) {b : List ℕ} (e : encode l ≡ accepted b) where
  -- is within the input's limit
  pub encode_fits : length b ≤ input_limit
  encode_fits = rw (encode_is l e) (table_fits l (encode_legal l e))

  -- and reads back as the list
  pub decode_encode : (strict : Bool) → decode strict b ≡ accepted l
  unfolding decode
  decode_encode strict =
      let w = encode_legal l e in
      limited_in input_limit (length b) (parse strict b) encode_fits ∙ rw (encode_is l e) (parse_build strict l w.some w.few w.rising)
