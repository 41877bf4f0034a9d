-- The needs of applying a bitmap by strips, stated as the code asks them.
-- Assumes nothing.
use Rattle.std.proofs.Common.{◌≡◌, ℕ, zero, suc, ◌+◌, ◌-◌, ◌*◌, ◌/◌, ◌%◌, ◌^◌, ◌<◌, ◌≤◌, List, [], ◌∷◌, ◌++◌, length, sym, refl, ap, ◌∙◌, subst, inr, mul-le-mul_right, mod-lt, mod-eq_of_lt, zero-add, mul-div_cancel, arith, pow_pos, shr-shr, w64, Fits, rules}
use native.Mathlib.Decide.{dec_lt}
use native.Mathlib.Nat.{add-mod-mod}
use Rattle.word.specs.declared.Class.{Class}
use Rattle.word.specs.Class.{bytes_of, bits_of, window_of}
use Rattle.word.specs.Class.Laws.{bytes_least, bytes_most, by_bytes}
use Rattle.word.specs.Word.{word_at, with_word}
use Rattle.word.specs.Word.Laws.{load_store, store_length}
use Rattle.word.proofs.TwoWords.{load_beside}
use Rattle.relr_table.specs.Table.{patched}
use Rattle.relr_apply.specs.Inner.{wrapped, spots_of, low_of, addend, Filled, Summed, Added, Swept, Strip, StripAdded, Spacious}
use Rattle.relr_table.proofs.SetBits.{Through, through_begin, through_end, through_clear, through_set}
use Rattle.relr_apply.proofs.PassNeeds.{adds, wrapped_more}

-- ---- the strips
pub record Filling (k : Class) (base : ℕ) (strips : List ℕ) (e : ℕ) : Type 0 where
  pub within : e ≤ 8
  pub filled : Filled k base e strips

-- eight words at the most lie in 64 bytes
eight : (k : Class) (e : ℕ) → e < 8 → e * bytes_of k + bytes_of k ≤ 64
eight k e l = by_bytes (λ (c : ℕ). e * c + c ≤ 64) (omega arith) (omega arith) k

module _ {k : Class} {base : ℕ} {strips : List ℕ} {e : ℕ} (g : Filling k base strips e) where
  module _ (l : e < 8) where
    module _ {c : ℕ} (ce : c ≡ bytes_of k) where
      room : e * bytes_of k + bytes_of k ≤ length strips
      room = rw g.filled.long (eight k e l)

      module _ {j : Class} (je : j ≡ low_of k) where
        pub fill_more : {a : ℕ} {new : List ℕ} → a ≡ (0 + addend base e) % 2 ^ bits_of k → new ≡ with_word j strips (e * c) a → Filling k base new (e + 1)
        fill_more {a} {new} ae u =
            let n : new ≡ with_word (low_of k) strips (e * bytes_of k) a = u ∙ rw (je, ce) in
            record {
              within = omega arith;
              filled = record {
                long = ap length n ∙ store_length (low_of k) strips (e * bytes_of k) a ∙ g.filled.long;
                each = λ i h. rw n (word i (dec_lt i e) h);
              };
            }
          where
            small : a < 2 ^ bits_of k
            small = rw ae (mod-lt (0 + addend base e) (pow_pos (bits_of k)))

            word : (i : ℕ) → Dec (i < e) → i < e + 1 → word_at (low_of k) (with_word (low_of k) strips (e * bytes_of k) a) (i * bytes_of k) ≡ addend base i % 2 ^ bits_of k
            word i (yes b) h =
                let o : i * bytes_of k + bytes_of k ≤ e * bytes_of k = omega (arith, mul-le-mul_right (bytes_of k) b) in
                load_beside (low_of k) strips (e * bytes_of k) a (i * bytes_of k) room (omega (arith, room)) (inr o) ∙ g.filled.each i b
            word i (no b) h =
                let q : i ≡ e = omega arith in
                rw q (load_store (low_of k) strips (e * bytes_of k) a room small ∙ ae ∙ rw zero-add)

pub ruleset fillings = (fill_more, rules)

-- ---- an addition of a word of the strips, which is one made once or not at all
times_added : (k : Class) (base b : ℕ) {strips image new : List ℕ} {x y : ℕ} → Summed k strips y image new x → word_at (low_of k) strips y ≡ base * b % 2 ^ bits_of k → Added k base b image new x
times_added k base b {strips} {image} {new} {x} {y} g e =
    let w = word_at k image x in
    let sum : new ≡ with_word k image x ((w + base * b) % 2 ^ bits_of k) = g.is ∙ ap (with_word k image x) (rw e (add-mod-mod w (base * b) (2 ^ bits_of k))) in
    record {
      none = λ z.
          let s : w + base * b ≡ w = rw z (omega arith) in
          sum ∙ ap (with_word k image x) (rw s (mod-eq_of_lt g.small)) ∙ g.back;
      once = λ z.
          let s : w + base * b ≡ w + base = rw z (omega arith) in
          adds k image new x base refl refl (sum ∙ rw s);
    }

-- ---- a strip
-- so many bytes are so many words
words_of_law : (k : Class) (t : ℕ) {n : ℕ} → n ≡ t * bytes_of k → n / bytes_of k ≡ t
words_of_law k t e = let some : 0 < bytes_of k = omega (arith, bytes_least k) in rw e (mul-div_cancel t some)

-- the word of a strip that two bits have for the one of them that is bit t
entry_is : (base bits t : ℕ) → t < 2 → addend base (2 * bits + t) ≡ base * (bits / 2 ^ t % 2)
entry_is base bits t l =
    let e : (2 * bits + t) / 2 ≡ bits = omega arith in
    let f : (2 * bits + t) % 2 ≡ t = omega arith in
    rw (e, f)

pub record Along (k : Class) (old : List ℕ) (base x bits n : ℕ) (image : List ℕ) (j : ℕ) : Type 0 where
  pub t : ℕ
  pub here : j ≡ t * bytes_of k
  pub within : j ≤ n
  pub same : length image ≡ length old
  pub swept : Swept k base t bits x old image

module _ {k : Class} {base : ℕ} {strips old : List ℕ} {x bits n : ℕ} (m : Strip k base strips old x bits n) where
  -- where the strip begins
  strip_at : bits * (2 * bytes_of k) ≤ 48
  strip_at = by_bytes (λ (c : ℕ). bits * (2 * c) ≤ 48) (omega (arith, m.two)) (omega (arith, m.two)) k

  module _ {image : List ℕ} {j : ℕ} (g : Along k old base x bits n image j) where
    pub strip_end : n ≤ j → StripAdded k base n bits x old image
    strip_end h =
        let q : n ≡ g.t * bytes_of k = omega (arith, g.here, g.within) in
        record { same = g.same; swept = rw (words_of_law k g.t q) g.swept }

    module _ (l : j < n) where
      less : g.t < m.words
      less = go (dec_lt g.t m.words)
        where
          go : Dec (g.t < m.words) → g.t < m.words
          go (yes h) = h
          go (no h) = let w : m.words ≤ g.t = omega arith in absurd (omega (arith, mul-le-mul_right (bytes_of k) w, g.here, m.long))

      on : j + bytes_of k ≤ n
      on = omega (arith, mul-le-mul_right (bytes_of k) less, g.here, m.long)

      module _ {c : ℕ} (ce : c ≡ bytes_of k) where
        near : bits * (2 * bytes_of k) + j + bytes_of k ≤ 64
        near = omega (arith, strip_at, mul-le-mul_right (bytes_of k) m.few, on, m.long, bytes_most k)

        -- the strip has the addend of the word
        entry : word_at (low_of k) strips (bits * (2 * c) + j) ≡ base * (bits / 2 ^ g.t % 2) % 2 ^ bits_of k
        entry =
            let e : 2 * bits + g.t < 8 = omega (arith, m.two, less, m.few) in
            let at : bits * (2 * c) + j ≡ (2 * bits + g.t) * bytes_of k = rw (ce, g.here) (omega arith) in
            rw at (m.addends.each (2 * bits + g.t) e ∙ ap (λ (y : ℕ). y % 2 ^ bits_of k) (entry_is base bits g.t (omega (arith, less, m.few))))

        pub strip_next : {new : List ℕ} → Summed k strips (bits * (2 * c) + j) image new (x + j) → Along k old base x bits n new (j + c)
        strip_next {new} u =
            let b = bits / 2 ^ g.t % 2 in
            record {
              t = suc g.t;
              here = rw (ce, g.here) (omega arith);
              within = rw ce on;
              same = ap length u.is ∙ store_length k image (x + j) _ ∙ g.same;
              swept = (image, (g.swept, subst (λ (y : ℕ). Added k base b image new (x + y)) g.here (times_added k base b u entry)));
            }

pub ruleset alongs = (strip_end, strip_next, rules)

-- ---- a window, strip by strip
-- x is the index of the location at j
pub record Sweeping (k : Class) (old : List ℕ) (base first set : ℕ) (image : List ℕ) (bits x j : ℕ) : Type 0 where
  pub p : List ℕ
  pub through : Through k first set j p
  pub rest : bits ≡ set / 2 ^ j
  pub here : x ≡ first + j * bytes_of k
  pub held : image ≡ patched k base (wrapped p) old

-- from one location to the next
module _ {k : Class} {old : List ℕ} {base first set : ℕ} {image : List ℕ} {bits x j : ℕ} (g : Sweeping k old base first set image bits x j)
    (few : first + window_of k * bytes_of k < 2 ^ 64) (less : j < window_of k) {new : List ℕ} (a : Added k base (bits % 2) image new x) where
  half : bits / 2 ≡ set / 2 ^ (j + 1)
  half = rw g.rest (shr-shr set j 1)

  next : x + bytes_of k ≡ first + (j + 1) * bytes_of k
  next = rw g.here (omega arith)

  clear : bits % 2 ≡ 0 → Sweeping k old base first set new (bits / 2) (x + bytes_of k) (j + 1)
  clear e = record { p = g.p; through = through_clear g.through less (rw g.rest at e); rest = half; here = next; held = a.none e ∙ g.held }

  marks : bits % 2 ≡ 1 → Sweeping k old base first set new (bits / 2) (x + bytes_of k) (j + 1)
  marks e =
      let y = first + j * bytes_of k in
      let small : y < 2 ^ 64 = omega (arith, mul-le-mul_right (bytes_of k) less) in
      record {
        p = g.p ++ y ∷ [];
        through = through_set g.through less (rw g.rest at e);
        rest = half;
        here = next;
        held = a.once e ∙ rw (g.here, g.held) (sym (wrapped_more k base g.p y old ∙ rw (mod-eq_of_lt small)));
      }

  sweep_on : Sweeping k old base first set new (bits / 2) (x + bytes_of k) (j + 1)
  sweep_on = go (bits % 2) refl
    where
      go : (d : ℕ) → bits % 2 ≡ d → Sweeping k old base first set new (bits / 2) (x + bytes_of k) (j + 1)
      go zero e = clear e
      go (suc zero) e = marks e
      go (suc (suc d)) e = absurd (omega arith)

-- a strip further, of two words or, at the window's end, of one
module _ {k : Class} {old : List ℕ} {base first set : ℕ} {image : List ℕ} {bits x j : ℕ} (g : Sweeping k old base first set image bits x j)
    (few : first + window_of k * bytes_of k < 2 ^ 64) where
  sweep_one : {new : List ℕ} → j + 1 ≤ window_of k → Swept k base 1 (bits % 4) x image new → Sweeping k old base first set new (bits / 2) (x + bytes_of k) (j + 1)
  sweep_one {new} l (mid, (e, a)) =
      let b : bits % 4 / 2 ^ 0 % 2 ≡ bits % 2 = omega arith in
      let h : x + 0 * bytes_of k ≡ x = omega arith in
      let less : j < window_of k = omega arith in
      sweep_on g few less (subst (λ (i : List ℕ). Added k base (bits % 2) i new x) e (rw (b, h) at a))

  sweep_two : {new : List ℕ} → j + 2 ≤ window_of k → Swept k base 2 (bits % 4) x image new → Sweeping k old base first set new (bits / 4) (x + 2 * bytes_of k) (j + 2)
  sweep_two {new} l (mid, (s, a)) =
      let b : bits % 4 / 2 ^ 1 % 2 ≡ bits / 2 % 2 = omega arith in
      let h : x + 1 * bytes_of k ≡ x + bytes_of k = omega arith in
      let d : Sweeping k old base first set new (bits / 2 / 2) (x + bytes_of k + bytes_of k) (j + 1 + 1) = sweep_on (sweep_one (omega arith) s) few (omega arith) (rw (b, h) at a) in
      let q : bits / 2 / 2 ≡ bits / 4 = omega arith in
      let y : x + bytes_of k + bytes_of k ≡ x + 2 * bytes_of k = omega arith in
      let i : j + 1 + 1 ≡ j + 2 = omega arith in
      rw (q, y, i) at d

-- at each strip
pub record Rolling (k : Class) (old : List ℕ) (base first set n : ℕ) (image : List ℕ) (bits x j : ℕ) : Type 0 where
  pub same : length image ≡ length old
  pub before : j ≤ n → Sweeping k old base first set image bits x j
  pub behind : n < j → image ≡ patched k base (spots_of k set first) old

module _ {k : Class} {n base : ℕ} {strips old : List ℕ} {first : ℕ} (m : Spacious k n base strips old first) where
  pub roll_begin : (set : ℕ) → Rolling k old base first set n old set first 0
  unfolding patched wrapped
  roll_begin set =
      record {
        same = refl;
        before = λ _. record { p = []; through = through_begin k first set; rest = omega arith; here = omega arith; held = refl };
        behind = λ h. absurd (omega arith);
      }

  module _ {set : ℕ} {image : List ℕ} {bits x j : ℕ} (g : Rolling k old base first set n image bits x j) where
    pub roll_end : n ≤ j → image ≡ patched k base (spots_of k set first) old
    roll_end h = go (dec_lt n j)
      where
        go : Dec (n < j) → image ≡ patched k base (spots_of k set first) old
        go (yes l) = g.behind l
        go (no l) =
            let d = g.before (omega arith) in
            let e = through_end d.through (omega (arith, m.locations)) in
            rw e d.held

    module _ (l : j < n) where
      at : Sweeping k old base first set image bits x j
      at = g.before (omega arith)

      -- the locations from here on lie inside the image
      ahead : (t : ℕ) → j + t ≤ n → x + t * bytes_of k ≤ length old
      ahead t h =
          let q : j + t ≤ window_of k = omega (arith, m.locations) in
          omega (arith, at.here, m.room, mul-le-mul_right (bytes_of k) q)

      small : length old * 1 < 2 ^ 63 → first + window_of k * bytes_of k < 2 ^ 64
      small h = omega (arith, m.room)

      strip : (t d : ℕ) → t ≤ 2 → j + t ≤ n → d ≡ t * bytes_of k → Strip k base strips image x (bits % 4) d
      strip t d h q e = record { addends = m.addends; two = omega arith; words = t; few = h; long = e; room = rw (g.same, e) (ahead t q) }

      module _ {c : ℕ} (ce : c ≡ bytes_of k) where
        module _ {d : ℕ} where
          pub roll_last : n - j < 2 → d ≡ c → Strip k base strips image x (bits % 4) d
          roll_last h e = strip 1 d (omega arith) (omega arith) (e ∙ rw ce (omega arith))

          pub roll_strip : 2 ≤ n - j → d ≡ 2 * c → Strip k base strips image x (bits % 4) d
          roll_strip h e = strip 2 d (omega arith) (omega arith) (e ∙ rw ce (omega arith))

          words : {new : List ℕ} (t : ℕ) → StripAdded k base d (bits % 4) x image new → d ≡ t * bytes_of k → Swept k base t (bits % 4) x image new
          words t s e = rw (words_of_law k t e) at s.swept

          module _ (few : length old * 1 < 2 ^ 63) {new : List ℕ} (s : StripAdded k base d (bits % 4) x image new) where
            pub roll_done : n - j < 2 → d ≡ c → Rolling k old base first set n new (bits / 4) (x + 2 * c) (j + 2)
            roll_done h e =
                let w : j + 1 ≡ window_of k = omega (arith, m.locations) in
                let o = sweep_one at (small few) (omega arith) (words 1 s (e ∙ rw ce (omega arith))) in
                let f = through_end o.through (omega arith) in
                record { same = s.same ∙ g.same; before = λ q. absurd (omega arith); behind = λ q. rw f o.held }

            pub roll_more : 2 ≤ n - j → d ≡ 2 * c → Rolling k old base first set n new (bits / 4) (x + 2 * c) (j + 2)
            roll_more h e =
                record {
                  same = s.same ∙ g.same;
                  before = λ q. rw ce (sweep_two at (small few) (omega (arith, m.locations)) (words 2 s (e ∙ rw ce)));
                  behind = λ q. absurd (omega arith);
                }

pub ruleset rollings = (roll_begin, roll_end, roll_last, roll_strip, rules)
