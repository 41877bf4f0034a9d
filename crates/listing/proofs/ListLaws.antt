-- What a caller of `list` may go by: every text has room in text_room bytes, and depends on the first held_bytes of its input.
-- Assumes nothing.
use Prim.Native.Nat.{ℕ, zero, suc, ◌≤◌, ◌<◌}
use mathlib.Core.Path.{◌≡◌, refl, ap, sym, ◌∙◌}
use mathlib.Core.List.{List, [], ◌∷◌}
use native.Mathlib.Decide.{dec_lt}
use native.Mathlib.Omega.{arith}
use lib.ListN.{length, take, drop, length-append, length-drop}
use lib.Seq.{take_all, take-append_seam, length-take-le}
use Rattle.answer.specs.declared.Answer.{Answer}
use Rattle.answer.specs.Outcome.{success, itself}
use Rattle.answer.specs.Outcome.Laws.{answer_fits, filled_self, filled_long}
use Rattle.records.specs.Identifier.{starts_with}
use Rattle.listing.specs.declared.kind.Kind.{Kind}
use Rattle.listing.specs.declared.kind.Kind.TheVariants.{Relr32, Relr64, Apr1, Apa1, Relleb32, Relleb64}
use Rattle.std.specs.Prelude.{Option, Some, None}
use Rattle.listing.specs.Text.{line_of, first_line, held_bytes, text_room, text_of}
use Rattle.listing.specs.Text.Laws.{text_unknown, text_limit}
use Rattle.listing.specs.Contract.{Lists}

-- ---- the buffer keeps its length
pub lists_same : {input old new : List ℕ} {r : Answer} → Lists input old r new → length new ≡ length old
lists_same {input} {old} {new} l =
    elim (dec_lt (length old) (length (text_of input))) [
      | yes h ↦ ap length (l.text ∙ filled_long itself old (record { list = text_of input; is = refl; long = refl }) h)
      | no h ↦ ap length (l.text ∙ filled_self old refl (omega arith)) ∙ simp (length-append, length-drop) (omega arith)
    ]

-- ---- with room for every text the call succeeds, and the text is the first bytes that the count says
module _ {input old new : List ℕ} {r : Answer} (l : Lists input old r new) (room : text_room ≤ length new) where
  fits : length (text_of input) ≤ length old
  fits = omega (arith, l.few, lists_same l)

  pub lists_all : r ≡ success (length (text_of input))
  lists_all = l.answer ∙ answer_fits (length old) (record { list = text_of input; is = refl; long = refl }) fits

  pub lists_count : r.count ≡ length (text_of input)
  unfolding success
  lists_count = ap (λ (a : Answer). a.count) lists_all

  pub lists_text : take r.count new ≡ text_of input
  lists_text =
      ap (λ (n : ℕ). take n new) lists_count
      ∙ ap (take (length (text_of input))) (l.text ∙ filled_self old refl fits)
      ∙ take-append_seam (text_of input) (drop (length (text_of input)) old)

  pub lists_within : r.count ≤ length new
  lists_within = omega (arith, lists_count, l.few)

  pub lists_part : r.count ≡ length (take r.count new)
  lists_part = sym (length-take-le r.count new lists_within)

-- ---- the first held_bytes of an input have its text
starts_take : (l s : List ℕ) (n : ℕ) → length l ≤ n → starts_with l (take n s) ≡ starts_with l s
unfolding starts_with
starts_take [] s n h = refl
starts_take (b ∷ l) s zero h = absurd (omega arith)
starts_take (b ∷ l) [] (suc n) h = refl
starts_take (b ∷ l) (c ∷ s) (suc n) h = rw (starts_take l s n (omega arith))

first_take : (s : List ℕ) → first_line (take held_bytes s) ≡ first_line s
unfolding first_line
first_take s =
    rw (
      starts_take (line_of Relr32) s held_bytes (omega arith),
      starts_take (line_of Relr64) s held_bytes (omega arith),
      starts_take (line_of Apr1) s held_bytes (omega arith),
      starts_take (line_of Apa1) s held_bytes (omega arith),
      starts_take (line_of Relleb32) s held_bytes (omega arith),
      starts_take (line_of Relleb64) s held_bytes (omega arith),
    )

line_most : (k : Kind) → length (line_of k) ≤ 9
line_most Relr32 = omega arith
line_most Relr64 = omega arith
line_most Apr1 = omega arith
line_most Apa1 = omega arith
line_most Relleb32 = omega arith
line_most Relleb64 = omega arith

pub text_held : (s : List ℕ) → text_of (take held_bytes s) ≡ text_of s
text_held s = elim (dec_lt held_bytes (length s)) [ yes h ↦ long h (first_line s) refl | no h ↦ ap text_of (take_all held_bytes s (omega arith)) ]
  where
    long : held_bytes < length s → (line : Option Kind) → line ≡ first_line s → text_of (take held_bytes s) ≡ text_of s
    long h None e = sym (text_unknown (take held_bytes s) (e ∙ sym (first_take s)) refl) ∙ text_unknown s e refl
    long h (Some k) e =
        let n : length (take held_bytes s) ≡ held_bytes = length-take-le held_bytes s (omega arith) in
        sym (text_limit (take held_bytes s) (e ∙ sym (first_take s)) refl (omega (arith, length-drop (length (line_of k)) (take held_bytes s), line_most k)))
        ∙ text_limit s e refl (omega (arith, length-drop (length (line_of k)) s, line_most k))
