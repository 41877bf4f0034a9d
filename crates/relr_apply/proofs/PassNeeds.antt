-- The needs of applying, stated as the code asks them.
-- Assumes nothing.
use Rattle.std.proofs.Common.{◌≡◌, ℕ, zero, suc, ◌+◌, ◌-◌, ◌*◌, ◌/◌, ◌%◌, ◌^◌, ◌<◌, ◌≤◌, Bool, true, false, cond, eqb, ltb, leb, List, [], ◌∷◌, ◌++◌, length, sym, refl, ap, ◌∙◌, subst, mul-le-mul_right, arith, w64, Fits, rules, le-ltb, lt-ltb, le-leb, leb-true}
use lib.Bits.{bit_and}
use lib.Count.{count_trailing_zeros}
use Rattle.answer.specs.declared.Refusal.{Refusal}
use Rattle.answer.specs.declared.Refusal.TheVariants as why
use Rattle.answer.specs.declared.Answer.{Answer}
use Rattle.answer.specs.declared.Refused.{Refused}
use Rattle.std.specs.Prelude.{Result, Ok, Err}
use Rattle.relr_apply.specs.declared.Pace.{Pace}
use Rattle.answer.specs.Outcome.{Outcome, accepted, refused, found_of, success, refusal}
use Rattle.answer.specs.Outcome.Laws.{Counted, found_count, not_found, answer_all, answer_none}
use Rattle.word.specs.declared.Class.{Class}
use Rattle.word.specs.Class.{bytes_of, bits_of, window_of}
use Rattle.word.specs.Class.Laws.{bytes_least, by_bytes, class_is}
use Rattle.word.specs.Word.{word_at, with_word}
use Rattle.relr_table.specs.Table.{space_of, decode, inside, Inside, All, contained, targets, indexes, added, patched, above}
use Rattle.relr_table.specs.Contract.{changed, AppliesIn}
use Rattle.relr_table.specs.Words.{marked}
use Rattle.relr_table.specs.Inner.{marks_of, full, between}
use Rattle.relr_apply.specs.Inner.{wrapped, spots_of, Patchable, Runs, Filled, Spacious, Windows, Sized, Targeted, Aimed, Patched, End}
use Rattle.relr_table.proofs.Marked.{all_left, all_right, marked_none}
use Rattle.relr_table.proofs.PlaceNeeds.{one_mark}
use Rattle.relr_table.proofs.SetBits.{Next, Left, left_begin, left_end, left_head, left_next, next_zeros, next_full, full_none}
use Rattle.relr_table.proofs.Steps.{marked_set, marked_clear}
use Rattle.relr_table.proofs.Following.{Following, Followed, following_begin, following_end, follow_address, follow_bitmap}
use Rattle.relr_table.proofs.Decoding.{decode_good, contained_space}
use Rattle.relr_table.proofs.Applying.{patched_length, patched_append, patched_more, patched_one, targets_over, targets_in, targets_accepted}

-- ---- an addition
pub adds : (k : Class) (image new : List ℕ) (x base : ℕ) {w v : ℕ} → w ≡ word_at k image x → v ≡ (w + base) % 2 ^ bits_of k → new ≡ with_word k image x v
    → new ≡ added k base image x
unfolding added
adds k image new x base e f g = g ∙ rw (f, e)

-- ---- indexes
wrapped_none : wrapped [] ≡ []
unfolding wrapped
wrapped_none = refl

wrapped_cons : (x : ℕ) (l : List ℕ) → wrapped (x ∷ l) ≡ x % 2 ^ 64 ∷ wrapped l
unfolding wrapped
wrapped_cons x l = refl

indexes_none : (start : ℕ) → indexes start [] ≡ []
unfolding indexes
indexes_none start = refl

indexes_cons : (start x : ℕ) (l : List ℕ) → indexes start (x ∷ l) ≡ (x - start) ∷ indexes start l
unfolding indexes
indexes_cons start x l = refl

wrapped_append : (p q : List ℕ) → wrapped (p ++ q) ≡ wrapped p ++ wrapped q
unfolding wrapped
wrapped_append [] q = refl
wrapped_append (x ∷ p) q = rw (wrapped_append p q)

-- one more addition behind those at some indexes
pub wrapped_more : (k : Class) (base : ℕ) (p : List ℕ) (y : ℕ) (image : List ℕ) → patched k base (wrapped (p ++ y ∷ [])) image ≡ added k base (patched k base (wrapped p) image) (y % 2 ^ 64)
unfolding patched wrapped
wrapped_more k base p y image =
    ap (λ (l : List ℕ). patched k base l image) (wrapped_append p (y ∷ [])) ∙ patched_append k base (wrapped p) (y % 2 ^ 64 ∷ []) image

-- an index and an offset that stand for one another
index_is : (f start x size c : ℕ) → size < 2 ^ 63 → (f + start) % 2 ^ 64 ≡ x % 2 ^ 64 → start ≤ x → x - start + c ≤ size → f % 2 ^ 64 ≡ x - start
index_is f start x size c h e l r = omega arith

-- and the locations of a bitmap that do, of which those that are marked lie inside an image
module _ (c start size : ℕ) (few : size < 2 ^ 63) where
  abbrev In : ℕ → Type 0
  In x = (start ≤ x) × (x - start + c ≤ size)

  abbrev At : ℕ → Type 0
  At x = x % 2 ^ 64 + c ≤ size

  further : (f a : ℕ) → (f + start) % 2 ^ 64 ≡ a % 2 ^ 64 → (f + c + start) % 2 ^ 64 ≡ (a + c) % 2 ^ 64
  further f a e = omega arith

  abbrev Same : ℕ → ℕ → ℕ → ℕ → Type 0
  Same n b f a = (wrapped (marked c n b f) ≡ indexes start (marked c n b a)) × All At (marked c n b f)

  spots_are : (n b f a : ℕ) → (f + start) % 2 ^ 64 ≡ a % 2 ^ 64 → All In (marked c n b a) → Same n b f a
  spots_are zero b f a e h = rw (marked_none c b f, marked_none c b a) (wrapped_none ∙ sym (indexes_none start), tt)
  spots_are (suc n) b f a e h = go (b % 2) refl (spots_are n (b / 2) (f + c) (a + c) (further f a e))
    where
      go : (d : ℕ) → b % 2 ≡ d → (All In (marked c n (b / 2) (a + c)) → Same n (b / 2) (f + c) (a + c)) → Same (suc n) b f a
      go zero z ih = rw (marked_clear c n b f z, marked_clear c n b a z) (ih (rw (marked_clear c n b a z) at h))
      go (suc zero) o ih =
          let i : All In (a ∷ marked c n (b / 2) (a + c)) = rw (marked_set c n b a o) at h in
          let x : f % 2 ^ 64 ≡ a - start = index_is f start a size c few e i.0.0 i.0.1 in
          let (p, q) = ih i.1 in
          rw (marked_set c n b f o, marked_set c n b a o)
          (wrapped_cons f (marked c n (b / 2) (f + c)) ∙ rw (x, p) (sym (indexes_cons start a (marked c n (b / 2) (a + c)))), (rw x i.0.1, q))
      go (suc (suc d)) o ih = absurd (omega arith)

-- ---- a word's locations
pub record Patching (k : Class) (old : List ℕ) (base first set : ℕ) (image : List ℕ) (bits : ℕ) : Type 0 where
  pub p : List ℕ
  pub left : Left k first set bits p
  pub held : image ≡ patched k base (wrapped p) old

module _ {k : Class} {old : List ℕ} {base first set : ℕ} (m : Patchable k old first set) where
  pub patching_begin : Patching k old base first set old set
  unfolding patched wrapped
  patching_begin = record { p = []; left = left_begin k first set m.in_window; held = refl }

  module _ {image : List ℕ} {bits : ℕ} (g : Patching k old base first set image bits) where
    pub patching_long : length image ≡ length old
    patching_long = ap length g.held ∙ patched_length k base (wrapped g.p) old

    pub patching_end : bits ≡ 0 → image ≡ patched k base (spots_of k set first) old
    patching_end z = let e = left_end g.left z in rw e g.held

    module _ {t rest c x : ℕ} (n : Next k first bits t rest) (ce : c ≡ bytes_of k) (xe : x ≡ (first + t * c) % 2 ^ 64) where
      here : (first + t * bytes_of k) % 2 ^ 64 + bytes_of k ≤ length old
      here =
          let P : ℕ → Type 0 = λ y. y % 2 ^ 64 + bytes_of k ≤ length old in
          (all_right P g.p ((first + t * bytes_of k) ∷ marks_of k rest first) (subst (All P) (left_head g.left n) m.in_image)).0

      next_in : x + bytes_of k ≤ length image
      next_in = rw (xe, ce, patching_long) here

      next_set : {new : List ℕ} → new ≡ added k base image x → Patching k old base first set new rest
      next_set {new} e =
          let y = first + t * bytes_of k in
          record {
            p = g.p ++ y ∷ [];
            left = left_next g.left n;
            held = (rw (xe, ce) at e) ∙ rw g.held (sym (wrapped_more k base g.p y old));
          }

    -- by trailing zeros
    module _ {c x : ℕ} (nz : bits ≡ 0 → ⊥) (ce : c ≡ bytes_of k) (xe : x ≡ (first + count_trailing_zeros 64 bits * c) % 2 ^ 64) where
      zeros : Next k first bits (count_trailing_zeros 64 bits) (bit_and bits (bits - 1))
      zeros = next_zeros k first bits nz g.left.small

      pub zeros_in : x + bytes_of k ≤ length image
      zeros_in = next_in zeros ce xe

      pub zeros_set : {new : List ℕ} → new ≡ added k base image x → Patching k old base first set new (bit_and bits (bits - 1))
      zeros_set = next_set zeros ce xe

pub ruleset patchings = (adds, patching_begin, patching_end, zeros_in, zeros_set, rules)

-- where all bits are set
pub record Running (k : Class) (old : List ℕ) (base first n : ℕ) (image : List ℕ) (j : ℕ) : Type 0 where
  pub window : n ≡ window_of k
  pub within : j ≤ n
  pub patching : Patching k old base first (full k) image (2 ^ window_of k - 2 ^ j)

module _ {k : Class} {old : List ℕ} {base first n : ℕ} (r : Runs k n old first) where
  pub running_begin : Running k old base first n old 0
  running_begin = record { window = r.locations; within = omega arith; patching = patching_begin r.patchable }

  module _ {image : List ℕ} {j : ℕ} (g : Running k old base first n image j) where
    pub running_end : n ≤ j → image ≡ patched k base (spots_of k (full k) first) old
    running_end l = patching_end r.patchable g.patching (full_none k j (omega (arith, g.within, g.window)))

    module _ {c : ℕ} (l : j < n) (ce : c ≡ bytes_of k) where
      step : Next k first (2 ^ window_of k - 2 ^ j) j (2 ^ window_of k - 2 ^ (j + 1))
      step = next_full k first j (omega (arith, g.window))

      module _ {x : ℕ} (xe : x ≡ (first + j * c) % 2 ^ 64) where
        pub running_in : x + bytes_of k ≤ length image
        running_in = next_in r.patchable g.patching step ce xe

        pub running_set : {new : List ℕ} → new ≡ added k base image x → Running k old base first n new (j + 1)
        running_set e = record { window = g.window; within = omega arith; patching = next_set r.patchable g.patching step ce xe e }

pub ruleset runnings = (running_begin, running_end, running_in, running_set, rules)

-- which it is
module _ {k : Class} {base : ℕ} {pace : Pace} {image : List ℕ} {first set : ℕ} (s : Sized k base pace image first set) where
  pub bitmap_spacious : first < pace.room → Spacious k pace.window base pace.strips.now image first
  bitmap_spacious l =
      record {
        locations = s.paced.locations;
        addends = s.paced.addends;
        room = leb-true (first + window_of k * bytes_of k) (length image) (sym (s.paced.windows.are first) ∙ lt-ltb first pace.room l);
      }

pub ruleset bitmaps = (bitmap_spacious, rules)

-- ---- a table's words
-- the index of the word before *where*, and of the first location of the next bitmap
index_of : (p start c : ℕ) → ((p + c) % 2 ^ 64 + start) % 2 ^ 64 ≡ (p + start + c) % 2 ^ 64 % 2 ^ 64
index_of p start c = omega arith

-- from there to the one before the next
index_on : (p start c d : ℕ) → ((p + d) % 2 ^ 64 + start + c) % 2 ^ 64 ≡ ((p + start + c) % 2 ^ 64 + d) % 2 ^ 64
index_on p start c d = omega arith

-- the index of the word before *where* is kept
pub record Working (k : Class) (s old : List ℕ) (base start at behind : ℕ) (image : List ℕ) : Type 0 where
  pub list : List ℕ
  pub following : Following k s list at ((behind + start + bytes_of k) % 2 ^ 64)
  pub few : length old * 1 < 2 ^ 63
  pub held : image ≡ patched k base (indexes start list) old

module _ {k : Class} {base : ℕ} {pace : Pace} {s old : List ℕ} {start : ℕ} (t : Aimed k base pace s start old) where
  pub working_begin : length old * 1 < 2 ^ 63 → Working k s old base start 0 0 old
  unfolding patched indexes
  working_begin h = record { list = []; following = following_begin k s _ t.targeted.good.whole; few = h; held = refl }

  module _ {at behind : ℕ} {image : List ℕ} (g : Working k s old base start at behind image) where
    pub working_long : length image ≡ length old
    working_long = ap length g.held ∙ patched_length k base (indexes start g.list) old

    pub working_end : length s ≤ at → Patched k s base start old image
    working_end h l e = let q : l ≡ g.list = cc (following_end g.following h) in g.held ∙ rw q

    module _ {anchor set next : ℕ} (word : Followed k s g.list t.targeted.good.list at anchor set next) where
      in_image : All (Inside k start (length image)) (marks_of k set anchor)
      in_image =
          let a = word.among in
          let P = Inside k start (length old) in
          rw working_long (all_right P g.list (marks_of k set anchor) (all_left P (g.list ++ marks_of k set anchor) a.rest (rw a.whole at t.targeted.in_image)))

      more : {new : List ℕ} {c b : ℕ} → c ≡ bytes_of k → (b + start + bytes_of k) % 2 ^ 64 ≡ next → new ≡ patched k base (indexes start (marks_of k set anchor)) image
          → Working k s old base start (at + c) b new
      more ce be u = rw ce (record { list = g.list ++ marks_of k set anchor; following = rw be word.on; few = g.few; held = u ∙ rw (g.held, patched_more) })

    module _ {x : ℕ} (l : at < length s) (e : x ≡ word_at k s at) where
      module _ (even : x % 2 ≡ 0) where
        alone : Followed k s g.list t.targeted.good.list at x 1 ((x + bytes_of k) % 2 ^ 64)
        alone = follow_address g.following t.targeted.good.is l e even

        word_inside : Inside k start (length image) x
        word_inside = let h : All (Inside k start (length image)) (x ∷ []) = rw (one_mark k x) at (in_image alone) in h.0

        pub working_low : start ≤ x
        working_low = word_inside.0

        pub working_in : x - start + bytes_of k ≤ length image
        working_in = word_inside.1

        pub working_one : {new : List ℕ} {c : ℕ} → c ≡ bytes_of k → new ≡ added k base image (x - start) → Working k s old base start (at + c) (x - start) new
        working_one ce u =
            let back : x - start + start ≡ x = omega (arith, working_low) in
            more alone ce (rw back) (u ∙ rw (one_mark k x) (sym (patched_one k base start x image)))

      module _ {c f : ℕ} (small : x < space_of k) (odd : x % 2 ≡ 0 → ⊥) (ce : c ≡ bytes_of k) (fe : f ≡ (behind + c) % 2 ^ 64) where
        abbrev a : ℕ
        a = (behind + start + bytes_of k) % 2 ^ 64

        word : Followed k s g.list t.targeted.good.list at a (x / 2) ((a + window_of k * bytes_of k) % 2 ^ 64)
        word = follow_bitmap g.following t.targeted.good.is l e small odd

        fewer : length image < 2 ^ 63
        fewer = omega (arith, working_long, g.few)

        spots : (spots_of k (x / 2) f ≡ indexes start (marks_of k (x / 2) a)) × All (λ y. y % 2 ^ 64 + bytes_of k ≤ length image) (marks_of k (x / 2) f)
        spots = spots_are (bytes_of k) start (length image) fewer (window_of k) (x / 2) f a (rw (fe, ce) (index_of behind start (bytes_of k))) (in_image word)

        pub working_marks : Sized k base pace image f (x / 2)
        working_marks = record { patchable = record { in_window = word.in_window; in_image = spots.1 }; paced = rw working_long t.paced }

        pub working_more : {new : List ℕ} {d b : ℕ} → d ≡ window_of k * bytes_of k → b ≡ (behind + d) % 2 ^ 64 → new ≡ patched k base (spots_of k (x / 2) f) image
            → Working k s old base start (at + c) b new
        working_more {d = d} de be u =
            more word ce (rw (be, ← de) (index_on behind start (bytes_of k) d)) (u ∙ ap (λ (l : List ℕ). patched k base l image) spots.0)

pub ruleset workings = (working_begin, working_end, working_low, working_in, working_one, working_marks, rules)

-- ---- one class by two names
module _ {k j : Class} (e : k ≡ j) (s old : List ℕ) (start : ℕ) where
  pub aimed_to : {base : ℕ} {pace : Pace} → pace.window ≡ window_of k → Filled k base 8 pace.strips.now → pace.all ≡ full k → Windows k (length old) pace.room → Targeted k s start old
      → Aimed j base pace s start old
  aimed_to {base} {pace} ne r ae w h =
      subst (λ (i : Class). Aimed i base pace s start old) e
      (record { targeted = h; paced = record { locations = ne; addends = r; bits = ae; windows = w } })

pub ruleset classes = (class_is, aimed_to, rules)

-- ---- applying as a whole
pub over_is : (k : Class) (base m : ℕ) → m + 1 ≡ 2 ^ bits_of k → base < 2 ^ 64 → ltb m base ≡ above k base
over_is k base m =
    by_bytes (λ (n : ℕ). m + 1 ≡ 2 ^ (8 * n) → base < 2 ^ 64 → ltb m base ≡ cond (eqb n 4) (ltb 4294967295 base) false)
    (λ e h. let f : m ≡ 4294967295 = omega arith in rw f)
    (λ e h. le-ltb m base (omega arith)) k

module _ (k : Class) (s : List ℕ) (base start : ℕ) (old : List ℕ) where
  abbrev aims : Outcome (List ℕ)
  aims = targets k s base start (length old)

  changed_refused : {w : Refusal} {p : ℕ} → aims ≡ refused w p → old ≡ changed k base start aims old
  unfolding changed
  changed_refused e = rw e

  changed_accepted : {l : List ℕ} → aims ≡ accepted l → changed k base start aims old ≡ patched k base (indexes start l) old
  unfolding changed
  changed_accepted e = rw e

  module _ {m : ℕ} (me : m + 1 ≡ 2 ^ bits_of k) (small : base < 2 ^ 64) where
    pub apply_over : {a : Answer} → m < base → a ≡ refusal why.Base 0 → AppliesIn k s base start old a old
    apply_over l q =
        let t = targets_over k s base start (length old) (sym (over_is k base m me small) ∙ lt-ltb m base l) in
        record { answer = q ∙ sym (answer_none t); image = changed_refused t }

    module _ (n : ℕ) {f : Result ℕ Refused} (l : base ≤ m) (h : f ≡ found_of (contained (between start n) (decode k s))) (ne : End k start (length old) n) where
      is : f ≡ found_of aims
      is =
          h
          ∙ ap found_of
          (contained_space k s (between start n) (inside k start (length old)) ne ∙ sym (targets_in k s base start (length old) (sym (over_is k base m me small) ∙ le-ltb m base l)))

      pub apply_refused : {a : Answer} {r : Refused} → f ≡ Err r → a ≡ refusal r.why r.place → AppliesIn k s base start old a old
      apply_refused e q =
          let t = not_found aims (sym is ∙ e) in
          record { answer = q ∙ sym (answer_none t); image = changed_refused t }

      module _ {o : ℕ} (e : f ≡ Ok o) where
        has : Counted aims o
        has = found_count aims (sym is ∙ e)

        both : (decode k s ≡ accepted has.list) × All (Inside k start (length old)) has.list
        both = targets_accepted k s base start (length old) has.is

        pub apply_targeted : Targeted k s start old
        apply_targeted =
            let d = decode_good k s has.list both.0 in
            record { good = record { whole = d.0; list = has.list; is = d.1 }; in_image = both.1 }

        pub apply_done : {a : Answer} {new : List ℕ} → Patched k s base start old new → a ≡ success o → AppliesIn k s base start old a new
        apply_done p q =
            record {
              answer = q ∙ sym (answer_all has);
              image = p has.list (decode_good k s has.list both.0).1 ∙ sym (changed_accepted has.is);
            }

pub ruleset applies = (apply_over, apply_refused, apply_done, rules)
