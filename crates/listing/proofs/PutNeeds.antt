-- One put after another, and the library's decimal form.
-- Assumes nothing.
use Prim.Native.Nat.{ℕ, suc, ◌+◌, ◌%◌, ◌^◌, ◌≤◌, ◌<◌}
use mathlib.Core.Path.{◌≡◌, ap, sym, ◌∙◌}
use mathlib.Core.List.{List, [], ◌∷◌, ◌++◌, append_assoc}
use native.Mathlib.Numerals.{add-one}
use native.Mathlib.Omega.{arith}
use lib.IntN.{ℤ, pos, negsuc}
use lib.ListN.{length-append}
use lib.Signed.{mag}
use Rattle.std.specs.Fmt as fmt
use Rattle.std.proofs.lemmas.Fmt.{decimal_by_steps}
use Rattle.listing.specs.Text.{decimal, decimal_signed}
use Rattle.listing.specs.Text.Laws.{decimal_one, decimal_more, signed_plus, signed_minus}
use Rattle.listing.specs.Inner.{Prints}

-- ---- one put after another
pub put_put : {old mid new a b : List ℕ} {m n k : ℕ} → Prints old mid a m → Prints mid new b n → m + n ≤ k → Prints old new (a ++ b) k
put_put {old} {a = a} {b = b} p q h =
    record {
      is = q.is ∙ ap (λ (t : List ℕ). t ++ b) p.is ∙ append_assoc old a b;
      few = omega (arith, p.few, q.few, length-append a b);
    }

-- ---- the library's decimal form of a number of 64 bits is this crate's
pub decimal_same : (n : ℕ) → n < 2 ^ 64 → fmt.decimal n ≡ decimal n
decimal_same =
    decimal_by_steps (λ n l. l ≡ decimal n) (λ n h. sym (decimal_one n h))
    (λ n l h e. ap (λ (t : List ℕ). t ++ ((48 + n % 10) ∷ [])) e ∙ sym (decimal_more n h))

pub signed_same : (z : ℤ) → mag z < 2 ^ 63 → fmt.signed_decimal z ≡ decimal_signed z
signed_same (pos n) h = decimal_same n (omega arith) ∙ sym (signed_plus n)
signed_same (negsuc n) h = ap (λ (t : List ℕ). 45 ∷ t) (decimal_same (suc n) (omega arith) ∙ ap decimal (sym (add-one n))) ∙ sym (signed_minus n)
