-- The needs of the first pass, stated as the code asks them.
-- Assumes nothing.
use mathlib.Core.Bool.{Bool, true, false}
use mathlib.Core.List.{List, [], ◌∷◌, ◌++◌, append_assoc, append-nil}
use mathlib.Core.Path.{◌≡◌, refl, sym, ap, subst, ◌∙◌}
use Prim.Native.Nat.{ℕ, ◌+◌, ◌-◌, ◌*◌, ◌%◌, ◌^◌, ◌≤◌, ◌<◌}
use native.Mathlib.Omega.{arith}
use lib.Bits.{bit_and}
use lib.Count.{count_trailing_zeros}
use lib.ListN.{length, length-append}
use mir.Syntax.{w64}
use mir.Val.{Fits}
use borrow.Author.Rules.{rules}
use borrow.Author.Tests.{lt-ltb, le-ltb, le-leb}
use Rattle.answer.specs.declared.Refusal.{Refusal}
use Rattle.answer.specs.declared.Refusal.TheVariants.{Limit, Missing, Space}
use Rattle.std.specs.Prelude.{Result, Ok, Err}
use Rattle.answer.specs.declared.Refused.{Refused}
use Rattle.answer.proofs.Limits.{input_most}
use Rattle.answer.specs.Outcome.{Outcome, found_of, input_limit, refused_at}
use Rattle.answer.specs.Outcome.Laws.{after_refused, found_refused}
use Rattle.word.specs.declared.Class.{Class}
use Rattle.word.specs.Class.{bytes_of, window_of}
use Rattle.word.specs.Class.Laws.{bytes_least, bytes_most}
use Rattle.word.specs.Word.{word_at}
use Rattle.relr_table.specs.Words.{fit}
use Rattle.relr_table.specs.Table.{space_of, decode, contained}
use Rattle.relr_table.specs.Place.{Place, Nowhere}
use Rattle.relr_table.specs.declared.place.Opened.{Opened}
use Rattle.relr_table.specs.declared.place.Opened.TheVariants.{Address, Marks}
use Rattle.relr_table.specs.Inner.{marks_of, OpensAt, Whole, words_read, between, Standing}
use Rattle.relr_walk.specs.declared.skim.Passed.{Passed}
use Rattle.relr_walk.specs.Inner.{grow, surveyed, none, Leads, Scanned, ScannedTo, Skimmable, Skims, origin, Begun}
use Rattle.relr_table.proofs.Decoding.{decode_long, decode_part, decode_whole, contained_space}
use Rattle.relr_walk.proofs.SkimNeeds.{long, scan_load}
use Rattle.relr_walk.proofs.Leads.{leads_begin, leads_more, leads_end}
use Rattle.relr_table.proofs.Leading.{contained_refused, contained_every}
use Rattle.relr_table.proofs.PlaceNeeds.{one_mark}
use Rattle.relr_table.proofs.Passed.{fit_append, fit_one, fit_not, standing_begin, standing_end, Word, word_refused, word_marks, word_one, word_done, step_fits, step_less, space_most}
use Rattle.relr_table.proofs.Marked.{marked_most}
use Rattle.relr_table.proofs.SetBits.{Next, Left, left_begin, left_end, left_head, left_next, left_more, next_zeros, zeros_fit, zeros_far, zeros_less}

-- ---- counting
pub survey_all : {first count : ℕ} → count ≤ first → Ok count ≡ surveyed count first
survey_all {first} {count} h = rw (le-ltb first count h)

-- ---- between two words
pub scan_begin : {k : Class} {s : List ℕ} (low high : ℕ) → Whole k s → Scanned k s low high 0 Nowhere 0 none
scan_begin {k} {s} low high h = record { list = []; standing = standing_begin k s h; counted = refl; lead = leads_begin (between low high); few = omega arith }

pub scan_from : {k : Class} {s : List ℕ} {low high at count : ℕ} {p : Place} → Begun k s low high at p count → Scanned k s low high at p count none
scan_from b = b.skimmed.on none (scan_begin _ _ b.whole)

pub scan_whole : {k : Class} {s : List ℕ} {low high at count : ℕ} {p : Place} → Begun k s low high at p count → Whole k s
scan_whole b = b.whole

pub skim_allowed : {k : Class} {s : List ℕ} {low high at count first : ℕ} {p : Place} → Whole k s → Scanned k s low high at p count first
    → Skimmable k s low high (record { at = at; place = p; count = count })
skim_allowed w h = record { whole = w; first = _; scanned = h }

-- ---- inside a word
pub record Walking (k : Class) (s : List ℕ) (low high at count first anchor set : ℕ) (next : Place) (bits : ℕ) : Type 0 where
  pub list : List ℕ
  pub passed : List ℕ
  pub word : Word k s list at anchor set next
  pub left : Left k anchor set bits passed
  pub fits : fit (bytes_of k) (space_of k) passed ≡ true
  pub counted : count ≡ length (list ++ passed)
  pub lead : Leads (between low high) first (list ++ passed)
  pub few : length list ≤ 64 * at

-- from where a walk skimmed to
module _ {k : Class} {s : List ℕ} {low high first : ℕ} {from q : Passed} (h₀ : ScannedTo k s low high from first) (z : Skims k s low high from q) where
  h : ScannedTo k s low high q first
  h = z.on first h₀

  scan_small : Whole k s → q.count < none
  scan_small w = omega (arith, h.few, long h w, w.few, input_most)

  pub scan_fetch : q.at < length s → q.at + bytes_of k ≤ length s
  scan_fetch l = scan_load h l

  pub scan_less : {c : ℕ} → q.at < length s → c ≡ bytes_of k → length s - (q.at + c) < length s - from.at
  scan_less l ce = omega (arith, z.ahead, bytes_least k)

  pub scan_end : Whole k s → {r : Result ℕ Refused} → r ≡ surveyed q.count first → length s ≤ q.at → r ≡ found_of (contained (between low high) (words_read k s))
  scan_end w e l = e ∙ leads_end h.counted (scan_small w) h.lead (standing_end h.standing l)

  module _ {x : ℕ} {r : Result Opened Refusal} (l : q.at < length s) (e : x ≡ word_at k s q.at) (o : OpensAt k q.place x r) where
    pub scan_refused : {why : Refusal} → r ≡ Err why → Err (refused_at why q.at) ≡ found_of (contained (between low high) (words_read k s))
    scan_refused f = sym (found_refused (contained_refused (between low high) (word_refused h.standing l e o f)))

    module _ {t : Opened} (g : r ≡ Ok t) {y : ℕ} {next : Place} (f : t ≡ Address y next) where
      pub scan_count : Whole k s → Fits w64 (q.count + 1)
      scan_count w = record { fits = omega (arith, scan_small w) }

      pub scan_one : {c x' : ℕ} {b : Bool} → Whole k s → c ≡ bytes_of k → b ≡ between low high y → x' ≡ grow first q.count b
          → Scanned k s low high (q.at + c) next (q.count + 1) x'
      scan_one {c} w ce be gr =
          let a = word_one h.standing l e o (g ∙ ap Ok f) in
          let m = one_mark k y in
          let st = word_done a (rw m (fit_one (bytes_of k) (space_of k) y a.in_space)) in
          record {
            list = h.list ++ y ∷ [];
            standing = rw (ce, ← m) st;
            counted = omega (arith, h.counted, length-append h.list (y ∷ []));
            lead = rw (gr, be) (leads_more h.counted y (scan_small w) h.lead);
            few = omega (arith, h.few, bytes_least k);
          }

    module _ {t : Opened} (g : r ≡ Ok t) {anchor set : ℕ} {next : Place} (f : t ≡ Marks anchor set next) where
      pub scan_reach : (last : ℕ) → last + bytes_of k ≡ space_of k → anchor ≤ last
      scan_reach last lg = omega (arith, (word_marks h.standing l e o (g ∙ ap Ok f)).in_space)

pub walk_begin : {k : Class} {s : List ℕ} {low high at count first x : ℕ} {p : Place} {r : Result Opened Refusal} {t : Opened} {anchor set : ℕ} {next : Place} → Scanned k s low high at p count first
    → at < length s → x ≡ word_at k s at → OpensAt k p x r → r ≡ Ok t → t ≡ Marks anchor set next → Walking k s low high at count first anchor set next set
unfolding fit
walk_begin {k} {anchor = anchor} {set = set} h l e o g f =
    let w = word_marks h.standing l e o (g ∙ ap Ok f) in
    record {
      list = h.list;
      passed = [];
      word = w;
      left = left_begin k anchor set w.in_window;
      fits = refl;
      counted = rw append-nil h.counted;
      lead = rw append-nil h.lead;
      few = omega (arith, h.few, h.counted);
    }

module _ {k : Class} {s : List ℕ} {low high at count first anchor set : ℕ} {next : Place} {bits : ℕ} (h : Walking k s low high at count first anchor set next bits) where
  module _ (nz : bits ≡ 0 → ⊥) where
    -- the location of the lowest bit left
    abbrev x : ℕ
    x = anchor + count_trailing_zeros 64 bits * bytes_of k

    zeros : Next k anchor bits (count_trailing_zeros 64 bits) (bit_and bits (bits - 1))
    zeros = next_zeros k anchor bits nz h.left.small

    pub walk_small : Whole k s → at < length s → count < 2 ^ 63
    walk_small w l =
        omega (arith, h.counted, length-append h.list h.passed, left_more h.left zeros, marked_most (bytes_of k) (window_of k) set anchor, h.few, bytes_most k, w.few, input_most)

    pub walk_count : Whole k s → at < length s → Fits w64 (count + 1)
    walk_count w l = record { fits = omega (arith, walk_small w l) }

    module _ {c : ℕ} (last : ℕ) (g : last + bytes_of k ≡ space_of k) (ce : c ≡ bytes_of k) where
      pub walk_far : last - anchor < count_trailing_zeros 64 bits * c → Err (refused_at Space at) ≡ found_of (contained (between low high) (words_read k s))
      walk_far l =
          let a : space_of k < x + bytes_of k = omega (arith, ap (λ (y : ℕ). count_trailing_zeros 64 bits * y) ce) in
          let q = marks_of k (bit_and bits (bits - 1)) anchor in
          let f : fit (bytes_of k) (space_of k) (marks_of k set anchor) ≡ false =
          rw (left_head h.left zeros, fit_append (bytes_of k) (space_of k) h.passed (x ∷ q) h.fits) (fit_not (bytes_of k) (space_of k) x q a) in
          sym (found_refused (contained_refused (between low high) (h.word.so ∙ rw f (after_refused h.list Space at))))

      pub walk_set : {first' : ℕ} {b : Bool} → Whole k s → at < length s → count_trailing_zeros 64 bits * c ≤ last - anchor → b ≡ between low high (anchor + count_trailing_zeros 64 bits * c)
          → first' ≡ grow first count b → anchor ≤ last → Walking k s low high at (count + 1) first' anchor set next (bit_and bits (bits - 1))
      walk_set w lt l be e m =
          let a : x + bytes_of k ≤ space_of k = omega (arith, ap (λ (y : ℕ). count_trailing_zeros 64 bits * y) ce) in
          let b : (h.list ++ h.passed) ++ x ∷ [] ≡ h.list ++ (h.passed ++ x ∷ []) = append_assoc h.list h.passed (x ∷ []) in
          record {
            list = h.list;
            passed = h.passed ++ x ∷ [];
            word = h.word;
            left = left_next h.left zeros;
            fits = fit_append (bytes_of k) (space_of k) h.passed (x ∷ []) h.fits ∙ fit_one (bytes_of k) (space_of k) x a;
            counted = rw (← b) (omega (arith, h.counted, length-append (h.list ++ h.passed) (x ∷ [])));
            lead = rw (← b, e, be, ce) (leads_more h.counted x (omega (arith, walk_small w lt)) h.lead);
            few = h.few;
          }

  pub walk_offset : {d last : ℕ} → d ≤ last - anchor → anchor ≤ last → last < 2 ^ 64 → Fits w64 (anchor + d)
  walk_offset l m q = record { fits = omega arith }

  pub walk_done : {c : ℕ} → c ≡ bytes_of k → bits ≡ 0 → Scanned k s low high (at + c) next count first
  walk_done ce z =
      let e = left_end h.left z in
      let st = word_done h.word (rw e h.fits) in
      let most = marked_most (bytes_of k) (window_of k) set anchor in
      record {
        list = h.list ++ h.passed;
        standing = subst (λ (i : ℕ). Standing k s (h.list ++ h.passed) (at + i) next) (sym ce) (subst (λ (l : List ℕ). Standing k s (h.list ++ l) (at + bytes_of k) next) e st);
        counted = h.counted;
        lead = h.lead;
        few = omega (arith, h.counted, length-append h.list h.passed, ap length e, most, h.few, bytes_least k, bytes_most k);
      }

pub ruleset scans = (scan_from, scan_whole, skim_allowed, scan_fetch, scan_less, scan_end, scan_refused, scan_count, scan_one, scan_reach, walk_begin, walk_offset, walk_far, walk_set, walk_small, walk_count, walk_done, zeros_fit, zeros_far, zeros_less, step_fits, step_less, rules)

-- ---- the first pass over any bytes
module _ (k : Class) (s : List ℕ) (low high : ℕ) where
  pub find_long : input_limit < length s → Err (refused_at Limit 0) ≡ found_of (contained (between low high) (decode k s))
  find_long h = sym (found_refused (contained_refused (between low high) (decode_long k s h)))

  pub find_part : {r : ℕ} → r ≡ length s % bytes_of k → 0 < r → length s ≤ input_limit → Err (refused_at Missing (length s)) ≡ found_of (contained (between low high) (decode k s))
  find_part e g h = sym (found_refused (contained_refused (between low high) (decode_part k s h λ z. omega arith)))

  module _ {r : ℕ} (e : r ≡ length s % bytes_of k) (z : r ≤ 0) (h : length s ≤ input_limit) where
    whole : Whole k s
    whole = record { words = omega arith; few = h }

    pub find_begin : {p : Passed} → p ≡ origin → Skimmable k s low high p
    find_begin {p} o = subst (Skimmable k s low high) (sym o) (skim_allowed whole (scan_begin low high whole))

    pub find_words : {f : Result ℕ Refused} → f ≡ found_of (contained (between low high) (words_read k s)) → f ≡ found_of (contained (between low high) (decode k s))
    find_words q = q ∙ ap (λ (o : Outcome (List ℕ)). found_of (contained (between low high) o)) (sym (decode_whole k s whole))

    module _ {b q : Passed} (o : b ≡ origin) (u : Skims k s low high b q) where
      p : Skims k s low high origin q
      p = subst (λ (b : Passed). Skims k s low high b q) o u

      pub find_rest : Begun k s low high q.at q.place q.count
      find_rest = record { whole = whole; skimmed = p }

      pub find_all : length s ≤ q.at → Ok q.count ≡ found_of (contained (between low high) (decode k s))
      find_all l =
          let b = scan_begin low high whole in
          find_words (scan_end b p whole (survey_all (omega (arith, scan_small b p whole))) l)

pub ruleset finding = (find_long, find_part, find_begin, find_words, find_rest, find_all, rules)

-- ---- the same between the ends of the space: r is its last offset, and an end past it holds no offset back
pub count_all : (k : Class) (r : ℕ) → r + bytes_of k ≡ space_of k → (s : List ℕ) {f : Result ℕ Refused}
    → f ≡ found_of (contained (between 0 (r + 1)) (decode k s)) → f ≡ found_of (decode k s)
count_all k r h s e =
    let all : contained (between 0 (r + 1)) (decode k s) ≡ decode k s =
    contained_space k s (between 0 (r + 1)) (λ x. true) (λ x l. rw (le-leb 0 x (omega arith)) (lt-ltb x (r + 1) (omega arith))) ∙ contained_every (decode k s) in
    e ∙ ap found_of all
