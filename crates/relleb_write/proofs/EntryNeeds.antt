-- The needs of the writers of a record's numbers, as the code asks them.
-- Assumes nothing.
use Prim.Native.Nat.{ℕ, ◌+◌, ◌-◌, ◌^◌, ◌≤◌}
use mathlib.Core.Path.{◌≡◌, ap, ap₂, sym, ◌∙◌}
use mathlib.Core.Bool.{Bool, true, false, not, cond}
use mathlib.Core.List.{List, [], ◌++◌, append-nil}
use native.Mathlib.Omega.{arith}
use lib.Dec.{ltb}
use lib.IntN.{ℤ, pos, negsuc, ◌-ℤ◌}
use lib.ListN.{length, length-append}
use lib.Signed.{mag}
use mir.Syntax.{w64}
use mir.Val.{to_z, of_z, Fits, SFits}
use mir.Facts.{to_z-of_z}
use borrow.Author.Rules.{rules}
use borrow.Author.Tests.{not-true, not-false}
use Rattle.answer.specs.declared.Refusal.TheVariants.{Space, Addend}
use Rattle.answer.specs.Written.{Written, written_then}
use Rattle.leb128.specs.Number.{short_unsigned, short_signed, is_neg}
use Rattle.leb128.proofs.RoundTrip.{unsigned_bytes, signed_bytes}
use Rattle.records.specs.Writing.{bytes}
use Rattle.records.specs.Writing as Writing
use Rattle.wrap.specs.Wrap.{residue, wrapped, same}
use Rattle.relleb_table.specs.Table.{row, state, field_of, change_bytes, symbol_bytes, type_bytes, field_bytes, put_of}
use Rattle.relleb_write.specs.Inner.{Measured}
use Rattle.relleb_table.specs.Table.Laws.{put_space, put_addend, put_bytes, entry_is, field_is, symbol_bytes_law, type_bytes_law, offset_bytes, field_bytes_law, change_none, change_some}

-- a signed number as the code passes it on: by its bits
abbrev pub Bits : ℤ → ℤ
Bits z = to_z w64 (of_z w64 z)

-- ---- the numbers of a record
module _ (W o k y b l : ℕ) (a c : ℤ) {t : Bool} (e : t ≡ ltb o (2 ^ W)) where
  pub no_space : not t ≡ true → Writing.none Space ≡ put_of W (state b l c) (row o k y a)
  no_space h = sym (put_space W (state b l c) (row o k y a) (sym e ∙ not-true t h))

  module _ {u : Bool} (h : not t ≡ false) (f : u ≡ ltb (mag (Bits a)) (2 ^ (W - 1))) (i : Bits a ≡ a) where
    test : u ≡ ltb (mag a) (2 ^ (W - 1))
    test = f ∙ ap (λ (z : ℤ). ltb (mag z) (2 ^ (W - 1))) i

    pub no_addend : not u ≡ true → Writing.none Addend ≡ put_of W (state b l c) (row o k y a)
    no_addend g = sym (put_addend W (state b l c) (row o k y a) (sym e ∙ not-false t h) (sym test ∙ not-true u g))

    pub numbers : {d : ℕ} {x z v : ℤ} {q : Bool} → not u ≡ false → d ≡ residue W (pos o -ℤ pos b) → x ≡ wrapped 32 (pos k -ℤ pos l) → q ≡ same (Bits a) (Bits c) → v ≡ cond q (pos y) (negsuc y)
        → z ≡ wrapped W (Bits a -ℤ Bits c) → Bits c ≡ c → Bits x ≡ x → Bits v ≡ v → Bits z ≡ z
        → bytes (field_bytes d (Bits x) (Bits v) (Bits z)) ≡ put_of W (state b l c) (row o k y a)
    numbers {d} {x} {z} {v} {q} g p r s w m j n α β =
        let ex : Bits x ≡ wrapped 32 (pos k -ℤ pos l) = n ∙ r in
        let ev : Bits v ≡ field_of c (row o k y a) = α ∙ w ∙ ap (λ (t : Bool). cond t (pos y) (negsuc y)) (s ∙ ap₂ same i j) ∙ sym (field_is c (row o k y a)) in
        let ez : Bits z ≡ wrapped W (a -ℤ c) = β ∙ m ∙ ap₂ (λ (f g : ℤ). wrapped W (f -ℤ g)) i j in
        ap bytes (rw (p, ex, ev, ez) (sym (entry_is W (state b l c) (row o k y a))))
        ∙ sym (put_bytes W (state b l c) (row o k y a) (sym e ∙ not-false t h) (sym test ∙ not-false u g))

pub ruleset fields = (no_space, no_addend, numbers, rules)

-- ---- how many bytes they take
module _ (d : ℕ) (t f : ℤ) {v₁ v₂ v₃ : ℕ} (h₁ : Fits w64 d) (h₂ : SFits w64 t) (h₃ : SFits w64 f)
    (e₁ : v₁ ≡ length (short_unsigned d)) (e₂ : v₂ ≡ length (short_signed (Bits t))) (e₃ : v₃ ≡ length (short_signed (Bits f))) where
  first : v₁ ≤ 10
  first = omega (arith, unsigned_bytes 64 d (omega arith) h₁.fits)

  second : v₂ ≤ 10
  second = rw (e₂, to_z-of_z {w = w64} h₂) (omega (arith, signed_bytes 64 t (omega arith) h₂.sfits))

  third : v₃ ≤ 10
  third = rw (e₃, to_z-of_z {w = w64} h₃) (omega (arith, signed_bytes 64 f (omega arith) h₃.sfits))

  pub three_fit : Fits w64 (v₁ + v₂ + v₃)
  three_fit = record { fits = omega (arith, first, second, third) }

  module _ (a : ℤ) (h₄ : SFits w64 a) {b : Bool} (k : b ≡ is_neg (Bits f)) where
    long : (rest : List ℕ) → change_bytes f a ≡ rest → length (field_bytes d t f a) ≡ v₁ + v₂ + v₃ + length rest
    long rest g =
        let i₂ = to_z-of_z {w = w64} h₂ in
        let i₃ = to_z-of_z {w = w64} h₃ in
        rw (field_bytes_law d t f a, g, e₁, e₂, e₃, i₂, i₃)
        (omega (arith, length-append (short_unsigned d) (short_signed t ++ (short_signed f ++ rest)), length-append (short_signed t) (short_signed f ++ rest), length-append (short_signed f) rest))

    pub three_long : b ≡ false → Measured (v₁ + v₂ + v₃) (field_bytes d t f a)
    three_long m =
        record { is = omega (arith, long [] (change_none f a (ap is_neg (sym (to_z-of_z {w = w64} h₃)) ∙ sym k ∙ m))); few = omega (arith, first, second, third) }

    module _ {v₄ : ℕ} (e₄ : v₄ ≡ length (short_signed (Bits a))) where
      fourth : v₄ ≤ 10
      fourth = rw (e₄, to_z-of_z {w = w64} h₄) (omega (arith, signed_bytes 64 a (omega arith) h₄.sfits))

      pub four_fit : Fits w64 (v₁ + v₂ + v₃ + v₄)
      four_fit = record { fits = omega (arith, first, second, third, fourth) }

      pub four_long : b ≡ true → Measured (v₁ + v₂ + v₃ + v₄) (field_bytes d t f a)
      four_long m =
          let i = to_z-of_z {w = w64} h₄ in
          record {
            is = omega (arith, long (short_signed a) (change_some f a (ap is_neg (sym (to_z-of_z {w = w64} h₃)) ∙ sym k ∙ m)), e₄, ap (λ (z : ℤ). length (short_signed z)) i);
            few = omega (arith, first, second, third, fourth);
          }

pub two_fit : (d : ℕ) (t : ℤ) {v₁ v₂ : ℕ} → Fits w64 d → SFits w64 t → v₁ ≡ length (short_unsigned d) → v₂ ≡ length (short_signed (Bits t)) → Fits w64 (v₁ + v₂)
two_fit d t h₁ h₂ e₁ e₂ =
    let i = to_z-of_z {w = w64} h₂ in
    record { fits = omega (arith, unsigned_bytes 64 d (omega arith) h₁.fits, signed_bytes 64 t (omega arith) h₂.sfits, ap (λ (z : ℤ). length (short_signed z)) i) }

pub ruleset lengths = (two_fit, three_fit, four_fit, three_long, four_long, rules)

-- ---- putting them: a number, and then what stands behind it
module _ (table : List ℕ) (at : ℕ) (f a : ℤ) (room : at + length (symbol_bytes f a) ≤ length table) where
  symbol_all : length (symbol_bytes f a) ≡ length (short_signed f) + length (change_bytes f a)
  symbol_all = ap length (symbol_bytes_law f a) ∙ length-append (short_signed f) (change_bytes f a)

  pub symbol_room : Bits f ≡ f → at + length (short_signed (Bits f)) ≤ length table
  symbol_room i = rw i (omega (arith, symbol_all))

  module _ {mid : List ℕ} {next : ℕ} (g : Written table mid at next (short_signed (Bits f))) (i : Bits f ≡ f) {b : Bool} (m : b ≡ is_neg (Bits f)) where
    pub symbol_put : b ≡ false → Written table mid at next (symbol_bytes f a)
    symbol_put n = rw (symbol_bytes_law f a, change_none f a (ap is_neg (sym i) ∙ sym m ∙ n), append-nil) (rw i at g)

    module _ (n : b ≡ true) (q : Bits a ≡ a) where
      pub change_room : length mid ≡ length table → next + length (short_signed (Bits a)) ≤ length mid
      change_room p = rw q (omega (arith, symbol_all, ap length (change_some f a (ap is_neg (sym i) ∙ sym m ∙ n)), g.place, ap (λ (z : ℤ). length (short_signed z)) i))

      pub change_put : {new : List ℕ} {past : ℕ} → Written mid new next past (short_signed (Bits a)) → Written table new at past (symbol_bytes f a)
      change_put p = rw (symbol_bytes_law f a, change_some f a (ap is_neg (sym i) ∙ sym m ∙ n)) (written_then (rw i at g) (rw q at p))

pub ruleset symbol_puts = (symbol_room, symbol_put, change_room, change_put, rules)

module _ (table : List ℕ) (at : ℕ) (t f a : ℤ) (room : at + length (type_bytes t f a) ≤ length table) where
  type_all : length (type_bytes t f a) ≡ length (short_signed t) + length (symbol_bytes f a)
  type_all = ap length (type_bytes_law t f a) ∙ length-append (short_signed t) (symbol_bytes f a)

  pub type_room : Bits t ≡ t → at + length (short_signed (Bits t)) ≤ length table
  type_room i = rw i (omega (arith, type_all))

  module _ {mid : List ℕ} {next : ℕ} (g : Written table mid at next (short_signed (Bits t))) (i : Bits t ≡ t) where
    pub type_rest : length mid ≡ length table → next + length (symbol_bytes f a) ≤ length mid
    type_rest p = omega (arith, type_all, g.place, ap (λ (z : ℤ). length (short_signed z)) i)

    pub type_put : {new : List ℕ} {past : ℕ} → Written mid new next past (symbol_bytes f a) → Written table new at past (type_bytes t f a)
    type_put p = rw (type_bytes_law t f a) (written_then (rw i at g) p)

pub ruleset type_puts = (type_room, type_rest, type_put, rules)

module _ (table : List ℕ) (at d : ℕ) (t f a : ℤ) (room : at + length (field_bytes d t f a) ≤ length table) where
  offset_all : length (field_bytes d t f a) ≡ length (short_unsigned d) + length (type_bytes t f a)
  offset_all = ap length (offset_bytes d t f a) ∙ length-append (short_unsigned d) (type_bytes t f a)

  pub offset_room : at + length (short_unsigned d) ≤ length table
  offset_room = omega (arith, offset_all)

  module _ {mid : List ℕ} {next : ℕ} (g : Written table mid at next (short_unsigned d)) where
    pub offset_rest : length mid ≡ length table → next + length (type_bytes t f a) ≤ length mid
    offset_rest p = omega (arith, offset_all, g.place)

    pub offset_put : {new : List ℕ} {past : ℕ} → Written mid new next past (type_bytes t f a) → Written table new at past (field_bytes d t f a)
    offset_put p = rw (offset_bytes d t f a) (written_then g p)

pub ruleset offset_puts = (offset_room, offset_rest, offset_put, rules)
