-- The first line of an input: the bytes up to the first line feed are a kind's name, to the byte, or the kind is unknown.
-- Assumes nothing.
use Prim.Native.Nat.{ℕ}
use mathlib.Core.Path.{◌≡◌, refl, ap, sym, ◌∙◌}
use mathlib.Core.Bool.{Bool, true, false, cond}
use mathlib.Core.List.{List, [], ◌∷◌, ◌++◌}
use native.Mathlib.Omega.{arith}
use lib.Dec.{eqb}
use borrow.Author.Tests.{eqb-true}
use Rattle.records.specs.Identifier.{starts_with}
use Rattle.listing.specs.declared.kind.Kind.{Kind}
use Rattle.listing.specs.declared.kind.Kind.TheVariants.{Relr32, Relr64, Apr1, Apa1, Relleb32, Relleb64}
use Rattle.std.specs.Prelude.{Option, Some, None}
use Rattle.listing.specs.Text.{feed, name_of, first_line}
use Rattle.listing.proofs.TableNeeds.{line_starts}

-- no byte of a list is a line feed
abbrev pub NoFeed : List ℕ → Type 0
NoFeed [] = Unit {0}
NoFeed (b ∷ l) = (b ≡ 10 → ⊥) × NoFeed l

-- one byte of the start, and those after it
starts_both : (c b : ℕ) (l s : List ℕ) → starts_with (b ∷ l) (c ∷ s) ≡ true → (c ≡ b) × (starts_with l s ≡ true)
unfolding starts_with
starts_both c b l s = go (eqb c b) refl
  where
    go : (t : Bool) → eqb c b ≡ t → cond t (starts_with l s) false ≡ true → (c ≡ b) × (starts_with l s ≡ true)
    go true h e = (eqb-true c b h, e)
    go false h e = let z : ◌≡◌ {A = ℕ} 0 1 = cc in absurd (omega arith)

starts_none : (b : ℕ) (l : List ℕ) → starts_with (b ∷ l) [] ≡ true → ⊥
unfolding starts_with
starts_none b l e = let z : ◌≡◌ {A = ℕ} 0 1 = cc in omega arith

starts_line : (n l t : List ℕ) → NoFeed n → NoFeed l → starts_with (n ++ feed) (l ++ 10 ∷ t) ≡ true → l ≡ n
starts_line [] [] t h g e = refl
starts_line [] (b ∷ l) t h g e = absurd (g.0 (starts_both b 10 [] (l ++ 10 ∷ t) e).0)
starts_line (a ∷ n) [] t h g e = absurd (h.0 (sym (starts_both 10 a (n ++ feed) t e).0))
starts_line (a ∷ n) (b ∷ l) t h g e =
    let f = starts_both b a (n ++ feed) (l ++ 10 ∷ t) e in
    ap (λ (x : ℕ). x ∷ l) f.0 ∙ ap (λ (x : List ℕ). a ∷ x) (starts_line n l t h.1 g.1 f.1)

starts_feed : (n s : List ℕ) → NoFeed s → starts_with (n ++ feed) s ≡ true → ⊥
starts_feed [] [] h e = starts_none 10 [] e
starts_feed [] (c ∷ s) h e = h.0 (starts_both c 10 [] s e).0
starts_feed (b ∷ n) [] h e = starts_none b (n ++ feed) e
starts_feed (b ∷ n) (c ∷ s) h e = starts_feed n s h.1 (starts_both c b (n ++ feed) s e).1

name_plain : (k : Kind) → NoFeed (name_of k)
name_plain Relr32 = ((λ e. omega arith), ((λ e. omega arith), ((λ e. omega arith), ((λ e. omega arith), ((λ e. omega arith), ((λ e. omega arith), tt))))))
name_plain Relr64 = ((λ e. omega arith), ((λ e. omega arith), ((λ e. omega arith), ((λ e. omega arith), ((λ e. omega arith), ((λ e. omega arith), tt))))))
name_plain Apr1 = ((λ e. omega arith), ((λ e. omega arith), ((λ e. omega arith), ((λ e. omega arith), tt))))
name_plain Apa1 = ((λ e. omega arith), ((λ e. omega arith), ((λ e. omega arith), ((λ e. omega arith), tt))))
name_plain Relleb32 = ((λ e. omega arith), ((λ e. omega arith), ((λ e. omega arith), ((λ e. omega arith), ((λ e. omega arith), ((λ e. omega arith), ((λ e. omega arith), ((λ e. omega arith), tt))))))))
name_plain Relleb64 = ((λ e. omega arith), ((λ e. omega arith), ((λ e. omega arith), ((λ e. omega arith), ((λ e. omega arith), ((λ e. omega arith), ((λ e. omega arith), ((λ e. omega arith), tt))))))))

-- where the bytes before the first line feed name a kind, they are its name
pub line_is : (l t : List ℕ) (k : Kind) → NoFeed l → first_line (l ++ 10 ∷ t) ≡ Some k → l ≡ name_of k
line_is l t k h e = starts_line (name_of k) l t (name_plain k) h (line_starts (l ++ 10 ∷ t) k e)

-- each name, with a line feed behind it, names its kind
pub line_named : (k : Kind) (t : List ℕ) → first_line (name_of k ++ 10 ∷ t) ≡ Some k
unfolding first_line starts_with
line_named Relr32 t = refl
line_named Relr64 t = refl
line_named Apr1 t = refl
line_named Apa1 t = refl
line_named Relleb32 t = refl
line_named Relleb64 t = refl

-- an input without a line feed names no kind
pub line_unended : (s : List ℕ) → NoFeed s → first_line s ≡ None
line_unended s h = go (first_line s) refl
  where
    go : (line : Option Kind) → first_line s ≡ line → line ≡ None
    go (Some k) e = absurd (starts_feed (name_of k) s h (line_starts s k e))
    go None e = refl
