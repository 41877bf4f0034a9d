-- A call for the class that a number names, from what it does for a class: n is what the number says, and a what is answered.
-- Assumes nothing.
use Rattle.std.specs.Prelude.{List, ◌≡◌, refl, ℕ, Option, Some, None}
use Rattle.std.proofs.Math.Path.{sym}
use Rattle.std.proofs.Common.{◌∙◌, subst, arith, rules}
use Rattle.answer.specs.declared.Answer.{Answer}
use Rattle.answer.specs.declared.Refusal.TheVariants as why
use Rattle.answer.specs.Outcome.{refused, refusal, Gives}
use Rattle.answer.specs.Outcome.Laws.{answer_none, gives_refused}
use Rattle.word.specs.declared.Size.{Size}
use Rattle.word.specs.declared.ByteOrder.{ByteOrder}
use Rattle.word.specs.Class.{class_in, class_of}
use Rattle.relr_table.specs.Table.{decode, encode}
use Rattle.relr_table.specs.Contract.{decoding, Reads, encoding, Writes, WritesIn, applying, image_after, Applies, AppliesIn}

-- ---- the outcomes
module _ (class : ℕ) (order : ByteOrder) {n : Option Size} (e : n ≡ class_of class) where
  module _ (u : n ≡ None) where
    pub decoding_unknown : (s : List ℕ) → decoding class order s ≡ refused why.Class 0
    unfolding decoding
    decoding_unknown s = rw (← e, u)

    encoding_unknown : (l : List ℕ) → encoding class order l ≡ refused why.Class 0
    unfolding encoding
    encoding_unknown l = rw (← e, u)

  module _ {z : Size} (u : n ≡ Some z) where
    pub decoding_is : (s : List ℕ) → decoding class order s ≡ decode (class_in z order) s
    unfolding decoding
    decoding_is s = rw (← e, u)

    pub encoding_is : (l : List ℕ) → encoding class order l ≡ encode (class_in z order) l
    unfolding encoding
    encoding_is l = rw (← e, u)

-- ---- the calls
module _ (class : ℕ) (order : ByteOrder) (l old : List ℕ) {n : Option Size} (e : n ≡ class_of class) {a : Answer} where
  module _ (u : n ≡ None) (q : a ≡ refusal why.Class 0) where
    pub reads_unknown : Reads class order l old a old
    reads_unknown = gives_refused old q (decoding_unknown class order e u l)

    pub writes_unknown : Writes class order l old a old
    writes_unknown =
        record {
          gives = gives_refused old q (encoding_unknown class order e u l);
          least = λ z f. let o : ◌≡◌ {A = ℕ} 0 1 = cc in absurd (omega arith);
        }

    pub applies_unknown : (base start : ℕ) → Applies class order l base start old a old
    unfolding applying image_after
    applies_unknown base start =
        let c : class_of class ≡ None = sym e ∙ u in
        record { answer = q ∙ rw c (sym (answer_none refl)); image = rw c }

  module _ {z : Size} (u : n ≡ Some z) {new : List ℕ} where
    pub reads_named : Gives (decode (class_in z order) l) old a new → Reads class order l old a new
    reads_named g = rw (decoding_is class order e u l) g

    pub writes_named : WritesIn (class_in z order) l old a new → Writes class order l old a new
    writes_named w =
        record {
          gives = rw (encoding_is class order e u l) w.gives;
          least = λ j f h. let q : z ≡ j = cc in rw q at (w.least (rw (← q) at h));
        }

    pub applies_named : (base start : ℕ) → AppliesIn (class_in z order) l base start old a new → Applies class order l base start old a new
    unfolding applying image_after
    applies_named base start r =
        let c : class_of class ≡ Some z = sym e ∙ u in
        record { answer = rw c r.answer; image = rw c r.image }

-- ---- one order by two names
module _ (class : ℕ) {o order : ByteOrder} (e : o ≡ order) (s old : List ℕ) (a : Answer) (new : List ℕ) where
  pub reads_order : Reads class o s old a new → Reads class order s old a new
  reads_order h = subst (λ (q : ByteOrder). Reads class q s old a new) e h

  pub writes_order : Writes class o s old a new → Writes class order s old a new
  writes_order h = subst (λ (q : ByteOrder). Writes class q s old a new) e h

  pub applies_order : (base start : ℕ) → Applies class o s base start old a new → Applies class order s base start old a new
  applies_order base start h = subst (λ (q : ByteOrder). Applies class q s base start old a new) e h

pub ruleset orders = (reads_order, writes_order, applies_order, rules)

pub ruleset reading = (reads_unknown, reads_named, rules)

pub ruleset writing = (writes_unknown, writes_named, rules)

pub ruleset applies = (applies_unknown, applies_named, rules)
