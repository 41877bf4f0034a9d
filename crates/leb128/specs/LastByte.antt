-- The last byte that a number's width allows: which values it may have, and what a refusal 5 says of it.
-- Assumes nothing.
use Rattle.std.specs.Prelude.{ℕ, ◌-◌, ◌*◌, ◌^◌, ◌≤◌, ◌<◌, ◌≡◌, List, ◌⊎◌, length, get_or}
use Rattle.leb128.specs.Number.{count, last_place}

-- After the bytes before it, the last allowed byte of an unsigned number of B bits is from 0 to `last_unsigned B` - 1;
-- of a signed one it is from 0 to `last_signed B` - 1, or from 128 - `last_signed B` to 127.
unfoldable pub last_unsigned : ℕ → ℕ
last_unsigned B = 2 ^ (B - 7 * (count B - 1))

unfoldable pub last_signed : ℕ → ℕ
last_signed B = 2 ^ (B - 1 - 7 * (count B - 1))

-- a byte that may not be the last allowed one: it leaves the width, or its top bit is set
abbrev pub BadUnsigned : ℕ → ℕ → Type 0
BadUnsigned B b = last_unsigned B ≤ b

abbrev pub BadSigned : ℕ → ℕ → Type 0
BadSigned B b = (128 ≤ b) ⊎ ((last_signed B ≤ b) × (b < 128 - last_signed B))

-- the place at which a number of B bits that begins at `at` is outside its width: that of its last allowed byte. It is not before the
-- number's first byte and inside the input, the bytes before it have their top bits set, and the byte there may not be the last
pub record Guilty (Bad : ℕ → ℕ → Type 0) (B : ℕ) (s : List ℕ) (at place : ℕ) : Type 0 where
  pub last : place ≡ last_place B at
  pub first : at ≤ place
  pub inside : place < length s
  pub before : (i : ℕ) → at ≤ i → i < place → 128 ≤ get_or s i 0
  pub bad : Bad B (get_or s place 0)

-- some number of B bits is outside its width, and that is said at a place
abbrev pub OutsideUnsigned : ℕ → List ℕ → ℕ → Type 0
OutsideUnsigned B s place = (at : ℕ) × Guilty BadUnsigned B s at place

abbrev pub OutsideSigned : ℕ → List ℕ → ℕ → Type 0
OutsideSigned B s place = (at : ℕ) × Guilty BadSigned B s at place
