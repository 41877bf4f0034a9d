-- The needs of the second pass of a read, stated as the code asks them.
-- Assumes nothing.
use Rattle.std.specs.Prelude.{Result, Ok}
use Rattle.std.proofs.Common.{◌≡◌, ℕ, zero, suc, ◌+◌, ◌-◌, ◌*◌, ◌/◌, ◌%◌, ◌^◌, ◌<◌, ◌≤◌, List, [], ◌∷◌, ◌++◌, length, take, drop, set as stored, sym, refl, ap, ◌∙◌, subst, append_assoc, append-nil, arith, length-append, length-set, length-drop, take_all, take-append-drop, length-take-le, drop-drop, take-suc-set, take_at, drop-set-lt, w64, Fits, rules}
use lib.Bits.{bit_and}
use lib.Count.{count_trailing_zeros}
use lib.Pow.{pow_mono, pow_pos}
use borrow.Rule.Slice.PartMut.{put_mid}
use Rattle.std.proofs.lemmas.List.{take_more_set}
use lib.Seq.{sets, sets-eq, length-sets, take-set-le, drop-append-add}
use borrow.Author.Rules.{scaled_Fits}
use Rattle.answer.specs.Outcome.Laws.{sets_append, found_count, filled_self, gives_not, gives_short, gives_full}
use Rattle.answer.specs.Written.{Written, written_long}
use Rattle.answer.specs.declared.Refused.{Refused}
use Rattle.answer.specs.Outcome.{found_of, filled, itself}
use Rattle.word.specs.declared.Class.{Class}
use Rattle.word.specs.Class.{bytes_of, window_of}
use Rattle.word.specs.Word.{word_at}
use Rattle.word.specs.Class.Laws.{bytes_most, class_is}
use Rattle.relr_table.specs.Inner.{marks_of, full}
use Rattle.relr_read.specs.Inner.{Markable, Bounded, Ample, Laid, Fillable, Filled}
use Rattle.relr_table.proofs.PlaceNeeds.{one_mark}
use Rattle.relr_table.proofs.Passed.{among_long}
use Rattle.relr_table.proofs.Following.{Following, Followed, following_begin, following_end, follow_address, follow_bitmap, behind_on}
use Rattle.relr_table.proofs.SetBits.{Next, Left, left_begin, left_end, left_next, left_more, left_fits, next_zeros, next_full, full_none, Through, through_end, through_clear, through_set, through_fits}
use Rattle.relr_table.specs.Table.{space_of, decode}
use Rattle.relr_table.proofs.Decoding.{decode_good}

-- ---- a word's locations
pub record Filling (k : Class) (old : List ℕ) (at anchor set : ℕ) (column : List ℕ) (bits i : ℕ) : Type 0 where
  pub p : List ℕ
  pub left : Left k anchor set bits p
  pub list : column ≡ sets old at p
  pub next : i ≡ at + length p

module _ {k : Class} {old : List ℕ} {at anchor set : ℕ} (m : Markable k old at anchor set) where
  module _ {column : List ℕ} {bits i : ℕ} (g : Filling k old at anchor set column bits i) where
    pub filling_long : length column ≡ length old
    filling_long = ap length g.list ∙ length-sets old at g.p

    pub filling_end : bits ≡ 0 → Written old column at i (marks_of k set anchor)
    filling_end z = let e = left_end g.left z in record { list = rw e g.list; place = rw e g.next }

    -- the next location
    module _ {t rest : ℕ} (n : Next k anchor bits t rest) where
      next_in : i < length column
      next_in = omega (arith, filling_long, g.next, left_more g.left n, m.room)

      next_set : Filling k old at anchor set (stored column i (anchor + t * bytes_of k)) rest (i + 1)
      next_set =
          let x = anchor + t * bytes_of k in
          record {
            p = g.p ++ x ∷ [];
            left = left_next g.left n;
            list = rw (g.list, g.next) (sets_append old at g.p (x ∷ []));
            next = omega (arith, g.next, length-append g.p (x ∷ []));
          }

    -- by trailing zeros
    module _ (nz : bits ≡ 0 → ⊥) where
      zeros : Next k anchor bits (count_trailing_zeros 64 bits) (bit_and bits (bits - 1))
      zeros = next_zeros k anchor bits nz g.left.small

      pub filling_in : i < length column
      filling_in = next_in zeros

      module _ {c : ℕ} (ce : c ≡ bytes_of k) where
        pub zeros_fits : Fits w64 (anchor + count_trailing_zeros 64 bits * c)
        zeros_fits = rw ce (left_fits g.left zeros m.fits)

        pub zeros_set : Filling k old at anchor set (stored column i (anchor + count_trailing_zeros 64 bits * c)) (bit_and bits (bits - 1)) (i + 1)
        zeros_set = rw ce (next_set zeros)

pub ruleset markings = (filling_in, zeros_fits, zeros_set, filling_end, rules)

-- where all bits are set: the first j are passed, and each is marked
full_left : (k : Class) (anchor j : ℕ) → j ≤ window_of k → (p : List ℕ) × Left k anchor (full k) (2 ^ window_of k - 2 ^ j) p × (length p ≡ j)
full_left k anchor zero h = ([], left_begin k anchor (full k) (omega (arith, pow_pos (window_of k))), refl)
full_left k anchor (suc j) h =
    let (p, l, e) = full_left k anchor j (omega arith) in
    let n : j + 1 ≡ suc j = omega arith in
    (p ++ (anchor + j * bytes_of k) ∷ [], rw n at (left_next l (next_full k anchor j (omega arith))), length-append p ((anchor + j * bytes_of k) ∷ []) ∙ rw (e, n))

full_long : (k : Class) (anchor : ℕ) → length (marks_of k (full k) anchor) ≡ window_of k
full_long k anchor = let (p, l, e) = full_left k anchor (window_of k) (omega arith) in ap length (left_end l (full_none k (window_of k) refl)) ∙ e

-- x is the location at j, and the part of the column for the bitmap holds those before it
pub record Running (k : Class) (anchor : ℕ) (part : List ℕ) (x j : ℕ) : Type 0 where
  pub long : length part ≡ window_of k
  pub here : x ≡ (anchor + j * bytes_of k) % 2 ^ 64
  pub left : Left k anchor (full k) (2 ^ window_of k - 2 ^ j) (take j part)

module _ {k : Class} {old : List ℕ} {at anchor : ℕ} (m : Markable k old at anchor (full k)) where
  module _ {w : ℕ} (we : w ≡ window_of k) where
    pub running_room : at + w ≤ length old
    running_room = omega (arith, m.room, full_long k anchor)

    part_long : length (take (at + w - at) (drop at old)) ≡ w
    part_long = length-take-le (at + w - at) (drop at old) (simp length-drop (omega (arith, running_room))) ∙ omega arith

    module _ {part : List ℕ} {x j : ℕ} (g : Running k anchor part x j) where
      pub running_set : j < length (take (at + w - at) (drop at old)) → {c y : ℕ} → c ≡ bytes_of k → y ≡ (x + c) % 2 ^ 64 → Running k anchor (stored part j x) y (j + 1)
      running_set l {c} {y} ce ye =
          let step = next_full k anchor j (omega (arith, part_long)) in
          let e : x ≡ anchor + j * bytes_of k = omega (arith, g.here, (left_fits g.left step m.fits).fits) in
          let on : anchor + j * bytes_of k + bytes_of k ≡ anchor + (j + 1) * bytes_of k = omega arith in
          let is : take (j + 1) (stored part j x) ≡ take j part ++ (anchor + j * bytes_of k) ∷ [] = rw e (take_more_set part j _ (omega (arith, g.long, part_long))) in
          record { long = length-set part j x ∙ g.long; here = ye ∙ rw (ce, e, on); left = rw is (left_next g.left step) }

      pub running_end : length (take (at + w - at) (drop at old)) ≤ j → Written old (put_mid at (at + w - at) old part) at (at + w) (marks_of k (full k) anchor)
      running_end l =
          let h : window_of k ≤ j = omega (arith, part_long) in
          let z : 2 ^ window_of k - 2 ^ j ≡ 0 = omega (arith, pow_mono h) in
          let is : marks_of k (full k) anchor ≡ part = left_end g.left z ∙ take_all j part (omega (arith, g.long)) in
          let n : at + w - at ≡ length part = omega (arith, g.long) in
          record {
            list = rw (is, n, sets-eq part old at (omega (arith, running_room, g.long)), drop-drop, append_assoc);
            place = rw is (omega (arith, g.long));
          }

pub ruleset runnings = (running_room, running_set, running_end, rules)

-- location by location
pub record Spreading (k : Class) (n : ℕ) (old : List ℕ) (at anchor set : ℕ) (column : List ℕ) (i j : ℕ) : Type 0 where
  pub p : List ℕ
  pub through : Through k anchor set j p
  pub next : i ≡ at + length p
  pub held : take i column ≡ take at old ++ p
  pub kept : drop n column ≡ drop n old
  pub long : length column ≡ length old

module _ {k : Class} {n : ℕ} {old : List ℕ} {at anchor set : ℕ} (m : Ample k n old at anchor set) where
  module _ {column : List ℕ} {i j : ℕ} (g : Spreading k n old at anchor set column i j) where
    module _ {w : ℕ} (we : w ≡ window_of k) where
      pub spreading_end : w ≤ j → Laid n old column at i (marks_of k set anchor)
      spreading_end h =
          let e = through_end g.through (omega arith) in
          record { place = rw e g.next; list = rw e g.held; kept = g.kept; long = g.long }

      module _ (l : j < w) where
        less : j < window_of k
        less = omega arith

        before : i < n
        before = omega (arith, g.next, g.through.few, m.ample)

        pub spreading_in : i < length column
        spreading_in = omega (arith, before, g.long, m.bounded.room)

        module _ {c x : ℕ} (ce : c ≡ bytes_of k) (xe : x ≡ (anchor + j * c) % 2 ^ 64) where
          clear : set / 2 ^ j % 2 ≡ 0 → Spreading k n old at anchor set (stored column i x) i (j + 1)
          clear e =
              record {
                p = g.p;
                through = through_clear g.through less e;
                next = g.next;
                held = take-set-le i column i x (omega arith) ∙ g.held;
                kept = drop-set-lt n column i x before ∙ g.kept;
                long = length-set column i x ∙ g.long;
              }

          marks : set / 2 ^ j % 2 ≡ 1 → Spreading k n old at anchor set (stored column i x) (i + 1) (j + 1)
          marks e =
              let y = anchor + j * bytes_of k in
              let is : x ≡ y = xe ∙ rw ce (omega (arith, through_fits g.through less e m.bounded.marks.fits)) in
              let one : i + 1 ≡ suc i = omega arith in
              let on : take i column ++ (x ∷ []) ≡ take at old ++ (g.p ++ y ∷ []) = rw (g.held, is) (append_assoc (take at old) g.p (y ∷ [])) in
              record {
                p = g.p ++ y ∷ [];
                through = through_set g.through less e;
                next = omega (arith, g.next, length-append g.p (y ∷ []));
                held = rw one (take-suc-set column i x spreading_in ∙ on);
                kept = drop-set-lt n column i x before ∙ g.kept;
                long = length-set column i x ∙ g.long;
              }

          pub spreading_set : Spreading k n old at anchor set (stored column i x) (i + set / 2 ^ j % 2) (j + 1)
          spreading_set = go (set / 2 ^ j % 2) refl
            where
              go : (d : ℕ) → set / 2 ^ j % 2 ≡ d → Spreading k n old at anchor set (stored column i x) (i + set / 2 ^ j % 2) (j + 1)
              go zero e = let z : i + 0 ≡ i = omega arith in rw (e, z) (clear e)
              go (suc zero) e = rw e (marks e)
              go (suc (suc d)) e = absurd (omega arith)

pub ruleset spreadings = (spreading_end, spreading_set, rules)

-- which it is
laid : {n : ℕ} {old new l : List ℕ} {at next : ℕ} → at + length l ≤ n → n ≤ length old → Written old new at next l → Laid n old new at next l
laid {n} {old} {new} {l} {at} {next} e h u =
    let m = at + length l in
    let front : length (take at old ++ l) ≡ m = length-append (take at old) l ∙ ap (λ (a : ℕ). a + length l) (length-take-le at old (omega arith)) in
    let is : new ≡ (take at old ++ l) ++ drop m old = u.list ∙ sets-eq l old at (omega arith) in
    let far : n ≡ length (take at old ++ l) + (n - m) = omega (arith, front) in
    let past : m + (n - m) ≡ n = omega arith in
    record {
      place = u.place;
      list = rw (is, u.place) (take_at (take at old ++ l) (drop m old) m front);
      kept = ap (λ (a : ℕ). drop a new) far ∙ rw is (drop-append-add (take at old ++ l) (drop m old) (n - m)) ∙ drop-drop (n - m) m old ∙ rw past;
      long = written_long u;
    }

module _ {k : Class} {n : ℕ} {old : List ℕ} {at anchor set : ℕ} (b : Bounded k n old at anchor set) where
  pub bitmap_marked : {new : List ℕ} {next : ℕ} → Written old new at next (marks_of k set anchor) → Laid n old new at next (marks_of k set anchor)
  bitmap_marked = laid b.end b.room

  module _ {r : ℕ} (e : set ≡ r) (g : r ≡ full k) where
    pub bitmap_ran : {new : List ℕ} {next : ℕ} → Written old new at next (marks_of k (full k) anchor) → Laid n old new at next (marks_of k set anchor)
    bitmap_ran {new} {next} u = bitmap_marked (subst (λ (s : ℕ). Written old new at next (marks_of k s anchor)) (sym (e ∙ g)) u)

pub ruleset bitmaps = (bitmap_marked, bitmap_ran, rules)

-- ---- a table's words
pub record Reading (k : Class) (s : List ℕ) (n : ℕ) (old : List ℕ) (at behind : ℕ) (column : List ℕ) (i : ℕ) : Type 0 where
  pub list : List ℕ
  pub following : Following k s list at ((behind + bytes_of k) % 2 ^ 64)
  pub next : i ≡ length list
  pub held : take i column ≡ list
  pub kept : drop n column ≡ drop n old
  pub long : length column ≡ length old

module _ {k : Class} {s : List ℕ} {n : ℕ} {old : List ℕ} (f : Fillable k s n old) where
  pub reading_begin : Reading k s n old 0 0 old 0
  reading_begin = record { list = []; following = following_begin k s _ f.good.whole; next = refl; held = refl; kept = refl; long = refl }

  module _ {at behind : ℕ} {column : List ℕ} {i : ℕ} (g : Reading k s n old at behind column i) where
    pub reading_end : length s ≤ at → Filled k s old column
    reading_end h l e =
        let q : l ≡ g.list = cc (following_end g.following h) in
        let r : f.good.list ≡ g.list = cc (following_end g.following h, f.good.is) in
        let m : n ≡ i = omega (arith, f.count, ap length r, g.next) in
        let t : take n column ≡ g.list = rw m g.held in
        sym (take-append-drop n column) ∙ rw (q, ← g.next, ← m, t, g.kept)

    module _ {anchor set next : ℕ} (word : Followed k s g.list f.good.list at anchor set next) where
      end : i + length (marks_of k set anchor) ≤ n
      end = omega (arith, among_long word.among, f.count, g.next)

      more : {new : List ℕ} {c r b : ℕ} → c ≡ bytes_of k → (b + bytes_of k) % 2 ^ 64 ≡ next → Laid n column new i r (marks_of k set anchor) → Reading k s n old (at + c) b new r
      more {new} {c} {r} {b} ce be u =
          rw ce
          (record {
            list = g.list ++ marks_of k set anchor;
            following = rw be word.on;
            next = omega (arith, u.place, g.next, length-append g.list (marks_of k set anchor));
            held = u.list ∙ rw g.held;
            kept = u.kept ∙ g.kept;
            long = u.long ∙ g.long;
          })

    module _ {x : ℕ} (l : at < length s) (e : x ≡ word_at k s at) where
      module _ (even : x % 2 ≡ 0) where
        alone : Followed k s g.list f.good.list at x 1 ((x + bytes_of k) % 2 ^ 64)
        alone = follow_address g.following f.good.is l e even

        pub reading_in : i < length column
        reading_in = omega (arith, end alone, ap length (one_mark k x), g.long, f.room)

        pub reading_one : {c : ℕ} → c ≡ bytes_of k → Reading k s n old (at + c) x (stored column i x) (i + 1)
        reading_one ce =
            let m = one_mark k x in
            let e : i + 1 ≡ i + length (marks_of k 1 x) = omega (arith, ap length m) in
            more alone ce refl (laid (end alone) (omega (arith, g.long, f.room)) (record { list = rw m; place = e }))

      module _ {c a : ℕ} (small : x < space_of k) (odd : x % 2 ≡ 0 → ⊥) (ce : c ≡ bytes_of k) (ae : a ≡ (behind + c) % 2 ^ 64) where
        anchor : a ≡ (behind + bytes_of k) % 2 ^ 64
        anchor = ae ∙ rw ce

        word : Followed k s g.list f.good.list at a (x / 2) ((a + window_of k * bytes_of k) % 2 ^ 64)
        word = rw anchor (follow_bitmap g.following f.good.is l e small odd)

        pub reading_marks : Bounded k n column i a (x / 2)
        reading_marks =
            record {
              marks = record { in_window = word.in_window; fits = word.among.fits; room = omega (arith, end word, g.long, f.room) };
              end = end word;
              room = omega (arith, g.long, f.room);
            }

        more_of : {new : List ℕ} {d r b : ℕ} → d ≡ window_of k * bytes_of k → b ≡ (behind + d) % 2 ^ 64 → Laid n column new i r (marks_of k (x / 2) a)
            → Reading k s n old (at + c) b new r
        more_of {d = d} de be u = more word ce (rw (be, ← de) (behind_on behind a d (bytes_of k) anchor)) u

-- what the bitmap says comes first, since it shows where it stands
pub reading_more : {k : Class} {s : List ℕ} {n : ℕ} {old : List ℕ} {at behind : ℕ} {column new : List ℕ} {i x c a d r b : ℕ} → Laid n column new i r (marks_of k (x / 2) a)
    → a ≡ (behind + c) % 2 ^ 64 → b ≡ (behind + d) % 2 ^ 64 → x ≡ word_at k s at → Reading k s n old at behind column i → Fillable k s n old → at < length s → x < space_of k
    → (x % 2 ≡ 0 → ⊥) → c ≡ bytes_of k → d ≡ window_of k * bytes_of k → Reading k s n old (at + c) b new r
reading_more u ae be e g f l small odd ce de = more_of f g l e small odd ce ae de be u

pub ruleset readings = (reading_begin, reading_end, reading_in, reading_one, reading_marks, reading_more, rules)

-- ---- one class by two names
pub fillable_to : {k j : Class} → k ≡ j → (s : List ℕ) (n : ℕ) (old : List ℕ) → Fillable k s n old → Fillable j s n old
fillable_to e s n old h = subst (λ (i : Class). Fillable i s n old) e h

pub ruleset classes = (class_is, fillable_to, rules)

-- ---- a read for a class: f is what the first pass found
module _ (k : Class) (s old : List ℕ) {f : Result ℕ Refused} (is : f ≡ found_of (decode k s)) {n : ℕ} (e : f ≡ Ok n) (fits : n ≤ length old) where
  pub read_fillable : Fillable k s n old
  read_fillable =
      let c = found_count (decode k s) (sym is ∙ e) in
      let d = decode_good k s c.list c.is in
      record { good = record { whole = d.0; list = c.list; is = d.1 }; count = c.long; room = fits }

  pub read_filled : {new : List ℕ} → Filled k s old new → new ≡ filled itself (decode k s) old
  read_filled d =
      let c = found_count (decode k s) (sym is ∙ e) in
      d c.list (decode_good k s c.list c.is).1 ∙ sym (filled_self old c.is (omega (arith, c.long)))

pub ruleset reads = (gives_not, gives_short, gives_full, read_fillable, read_filled, rules)
