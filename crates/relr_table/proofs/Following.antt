-- The second walk, over a table that the first accepted: no word is held against the space again, and *where* is a number that wraps.
-- Assumes nothing.
use mathlib.Core.Bool.{true, cond, false≢true}
use mathlib.Core.List.{List, [], ◌∷◌, ◌++◌}
use mathlib.Core.Path.{◌≡◌, refl, sym, ap, ◌∙◌}
use Prim.Native.Nat.{ℕ, ◌+◌, ◌*◌, ◌/◌, ◌%◌, ◌^◌, ◌≤◌, ◌<◌}
use native.Mathlib.Decide.{ℕ_discrete, dec_le}
use native.Mathlib.Omega.{arith}
use lib.ListN.{length, drop}
use lib.Pow.{pow-lt}
use Rattle.answer.specs.declared.Refusal.{Refusal}
use Rattle.answer.specs.declared.Refusal.TheVariants.{Order, Space}
use Rattle.answer.specs.Outcome.{accepted, refused, after}
use Rattle.answer.specs.Outcome.Laws.{accepted_refused, after_after, after_refused}
use Rattle.word.specs.declared.Class.{Class}
use Rattle.word.specs.Class.{bytes_of, window_of}
use Rattle.word.specs.Class.Laws.{bytes_least}
use Rattle.word.specs.Word.{word_at, first_words}
use Rattle.relr_table.specs.Words.{Where, nowhere, from, fit}
use Rattle.relr_table.specs.Table.{space_of}
use Rattle.relr_table.specs.Inner.{read_of, marks_of, Whole, words_read}
use Rattle.relr_table.proofs.Marked.{marked_zero}
use Rattle.relr_table.proofs.Passed.{Ahead, ahead_begin, ahead_load, ahead_end, ahead_split, Among, among_read, space_most}
use Rattle.relr_table.proofs.PlaceNeeds.{one_read, odd_read, far_unfit, half_fits}
use Rattle.relr_table.proofs.Steps.{read_address_far, read_unanchored}

-- a number is *where*, but for what is more than a word of memory holds
abbrev pub Wraps : Where → ℕ → Type 0
Wraps nowhere p = Unit {0}
Wraps (from v) p = p ≡ v % 2 ^ 64

-- a walk between two words: the offsets passed, and *where*
pub record Following (k : Class) (s list : List ℕ) (at p : ℕ) : Type 0 where
  pub w : Where
  pub ahead : Ahead k s list at w
  pub wraps : Wraps w p

pub following_begin : (k : Class) (s : List ℕ) (p : ℕ) → Whole k s → Following k s [] 0 p
following_begin k s p h = record { w = nowhere; ahead = ahead_begin k s h; wraps = tt }

-- from the location a word before *where* to the one before the next, each of which wraps
pub behind_on : (b a d c : ℕ) → a ≡ (b + c) % 2 ^ 64 → ((b + d) % 2 ^ 64 + c) % 2 ^ 64 ≡ (a + d) % 2 ^ 64
behind_on b a d c e = omega arith

-- past a word: the locations that it marks come next in the table's list, and so *where* becomes `next`
pub record Followed (k : Class) (s list l : List ℕ) (at anchor set next : ℕ) : Type 0 where
  pub in_window : set < 2 ^ window_of k
  pub among : Among k list l anchor set
  pub on : Following k s (list ++ marks_of k set anchor) (at + bytes_of k) next

module _ {k : Class} {s list : List ℕ} {at p : ℕ} (h : Following k s list at p) where
  pub following_load : at < length s → at + bytes_of k ≤ length s
  following_load = ahead_load h.ahead

  pub following_end : length s ≤ at → words_read k s ≡ accepted list
  following_end = ahead_end h.ahead

  module _ {l : List ℕ} {x : ℕ} (good : words_read k s ≡ accepted l) (lt : at < length s) (e : x ≡ word_at k s at) where
    -- what an accepted word says
    past : {anchor set next : ℕ} (v m : ℕ) → length s ≡ at + bytes_of k + m * bytes_of k
        → words_read k s
        ≡ after list
        (cond (fit (bytes_of k) (space_of k) (marks_of k set anchor))
        (after (marks_of k set anchor) (read_of k (first_words k m (drop (at + bytes_of k) s)) (at + bytes_of k) (from v))) (refused Space at))
        → set < 2 ^ window_of k → next ≡ v % 2 ^ 64 → Followed k s list l at anchor set next
    past {anchor} {set} {next} v m long so small wrap =
        let a = among_read at (read_of k (first_words k m (drop (at + bytes_of k) s)) (at + bytes_of k) (from v)) (sym so ∙ good) in
        record {
          in_window = small;
          among = a;
          on = record {
            w = from v;
            ahead = record { left = m; long = long; so = so ∙ rw a.fits (after_after list (marks_of k set anchor) _) };
            wraps = wrap;
          };
        }

    -- an accepted word is not refused
    never : {A : Type 0} (why : Refusal) → words_read k s ≡ after list (refused why at) → A
    never why f = absurd (accepted_refused good (f ∙ after_refused list why at))

    pub follow_address : x % 2 ≡ 0 → Followed k s list l at x 1 ((x + bytes_of k) % 2 ^ 64)
    follow_address even =
        let (m, long, so) = ahead_split h.ahead lt e in
        let some : 0 < window_of k = omega (arith, bytes_least k) in
        elim (dec_le (x + bytes_of k) (space_of k)) [
          | yes q ↦ past (x + bytes_of k) m long (so ∙ ap (after list) (one_read k x even q _ at h.w)) (pow-lt some) refl
          | no q ↦ never Space (so ∙ ap (after list) (read_address_far (bytes_of k) (window_of k) (space_of k) x _ at h.w even (omega arith)))
        ]

    -- a bitmap whose bits are all outside the space has none
    anchor_is : (u : ℕ) → fit (bytes_of k) (space_of k) (marks_of k (x / 2) u) ≡ true → x / 2 < 2 ^ window_of k → p ≡ u % 2 ^ 64 → marks_of k (x / 2) u ≡ marks_of k (x / 2) p
    anchor_is u f small wrap =
        elim (ℕ_discrete (x / 2) 0) [
          | yes z ↦ rw (z, marked_zero (bytes_of k) (window_of k) u, marked_zero (bytes_of k) (window_of k) p)
          | no n ↦ elim (dec_le (u + bytes_of k) (space_of k)) [
            | yes q ↦ ap (marks_of k (x / 2)) (near q)
            | no q ↦ absurd (false≢true (sym (far_unfit (bytes_of k) (space_of k) (window_of k) (x / 2) u (omega arith) (omega arith) small) ∙ f))
          ]
        ]
      where
        near : u + bytes_of k ≤ space_of k → u ≡ p
        near q = omega (arith, space_most k, bytes_least k)

    pub follow_bitmap : x < space_of k → (x % 2 ≡ 0 → ⊥) → Followed k s list l at p (x / 2) ((p + window_of k * bytes_of k) % 2 ^ 64)
    follow_bitmap in_space odd = go h.w h.wraps (ahead_split h.ahead lt e)
      where
        small : x / 2 < 2 ^ window_of k
        small = half_fits k x in_space

        go : (w : Where) → Wraps w p
            → (m : ℕ) × (length s ≡ at + bytes_of k + m * bytes_of k)
            × (words_read k s ≡ after list (read_of k (x ∷ first_words k m (drop (at + bytes_of k) s)) at w))
            → Followed k s list l at p (x / 2) ((p + window_of k * bytes_of k) % 2 ^ 64)
        go nowhere t (m, long, so) = never Order (so ∙ ap (after list) (read_unanchored (bytes_of k) (window_of k) (space_of k) x _ at (omega arith)))
        go (from u) wrap (m, long, so) =
            let o = read_of k (first_words k m (drop (at + bytes_of k) s)) (at + bytes_of k) (from (u + window_of k * bytes_of k)) in
            let f = so ∙ ap (after list) (odd_read (bytes_of k) (window_of k) (space_of k) x _ at u (omega arith)) in
            let a : Among k list l u (x / 2) = among_read at o (sym f ∙ good) in
            let same = ap (λ (q : List ℕ). after list (cond (fit (bytes_of k) (space_of k) q) (after q o) (refused Space at))) (anchor_is u a.fits small wrap) in
            past (u + window_of k * bytes_of k) m long (f ∙ same) small (omega arith)
