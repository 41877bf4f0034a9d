-- Document 01's starred cases and its case N, RELR's in both byte orders, and document 02's §1, §6 and §9: one table, and one claim, that each of its rows holds.
-- Assumes nothing.
use Rattle.std.specs.Prelude.{ℕ, ◌≡◌, refl, Bool, true, false, List, [], ◌∷◌, ℤ, pos, negsuc, length}
use Rattle.word.specs.declared.Size.{Size}
use Rattle.word.specs.declared.Size.TheVariants.{Four, Eight}
use Rattle.word.specs.declared.ByteOrder.{ByteOrder}
use Rattle.word.specs.declared.ByteOrder.TheVariants.{Little, Big}
use Rattle.word.specs.declared.Class.{Class}
use Rattle.std.specs.Prelude.{Some}
use Rattle.word.specs.Class.{class_in}
use Rattle.word.specs.Word.{value_of, bytes_in, arranged, word_at, with_word, first_words, words_of, bytes_of_words}
use Rattle.relr_table.specs.Words as relr
use Rattle.relr_table.specs.Table.{parse, decode, checked, build, encode, leading, contained, targets, indexes, added, patched}
use Rattle.relr_table.specs.Contract.{changed, image_after}
use Rattle.leb128.specs.Number.{raw, lax_unsigned, read_unsigned, signed, lax_signed, read_signed, short, short_by, short_unsigned, short_signed}
use Rattle.answer.specs.declared.Refusal.TheVariants.{Width, Space, Outside, Padded, Zero}
use Rattle.answer.specs.Outcome.{Outcome, accepted, refused, input_limit, list_limit, before, after}
use Rattle.records.specs.Columns.{Each}
use Rattle.records.specs.Identifier.{starts_with}
use Rattle.records.specs.Reading.{step_then, records, counted}
use Rattle.records.specs.Writing.{put_then, puts}
use Rattle.wrap.specs.Wrap.{residue, signed_in, same}
use Rattle.apr1_table.specs.Table as apr1
use Rattle.apa1_table.specs.Table as apa1
use Rattle.relleb_table.specs.Table as relleb
use Rattle.leb128.specs.Number.{ok_at}

-- a row: what is written and what it stands for, to be read and to be written; the bytes of words, low byte first and high byte first; a table that
-- is applied: its words, the base, the start, the words of the image before, the outcome and the words of the image after; or the bytes of a table
-- that is read in the other order, or by each setting, and what it reads as
pub data Case : Type 0 where
  unsigned_number : ℕ → List ℕ → ℕ → Case
  signed_number : ℕ → List ℕ → ℤ → Case
  relr_table : Size → List ℕ → List ℕ → Case
  relr_laid : Size → List ℕ → List ℕ → List ℕ → Case
  relr_applied : Size → List ℕ → ℕ → ℕ → List ℕ → Outcome (List ℕ) → List ℕ → Case
  relr_other : Class → List ℕ → Outcome (List ℕ) → Case
  apr1_table : List ℕ → List ℕ → Case
  apa1_table : List ℕ → List apa1.Row → Case
  relleb_table : ℕ → List ℕ → List relleb.Row → Case
  apr1_other : List ℕ → Outcome (List ℕ) → Outcome (List ℕ) → Case
  apa1_other : List ℕ → Outcome (List apa1.Row) → Outcome (List apa1.Row) → Case
  relleb_other : ℕ → List ℕ → Outcome (List relleb.Row) → Outcome (List relleb.Row) → Case

-- in an order, the bytes of a table's words decode to the offsets, and are their table
pub Packed : Size → List ℕ → List ℕ → ByteOrder → Type 0
Packed z offsets words order =
    let k = class_in z order in
    (decode k (bytes_of_words k words) ≡ accepted offsets) × (encode k offsets ≡ accepted (bytes_of_words k words))

-- in an order, a table that is applied has that outcome, and makes of the one image the other
pub PatchedTo : Size → List ℕ → ℕ → ℕ → List ℕ → Outcome (List ℕ) → List ℕ → ByteOrder → Type 0
PatchedTo z words base start old o new order =
    let k = class_in z order in
    (targets k (bytes_of_words k words) base start (length (bytes_of_words k old)) ≡ o)
    × (image_after (Some z) order (bytes_of_words k words) base start (bytes_of_words k old) ≡ bytes_of_words k new)

-- in each order
abbrev pub InBoth : (ByteOrder → Type 0) → Type 0
InBoth P = P Little × P Big

-- by each setting, lax and strict
abbrev pub ByBoth : (Bool → Type 0) → Type 0
ByBoth P = P false × P true

-- laxly the one, strictly the other
abbrev pub Either : {A : Type 0} → (Bool → Outcome A) → Outcome A → Outcome A → Type 0
Either f lax strict = (f false ≡ lax) × (f true ≡ strict)

-- what a row says: the bytes, at a width, read by each setting as the value, and are its shortest form; a table's bytes, or its words in each
-- order, decode to the list, by each setting, and are its table; in each order a table that is applied has that outcome, and makes of the one image
-- the other; another table has those outcomes laxly and strictly
pub Holds : Case → Type 0
Holds (unsigned_number width bytes v) = ByBoth (λ (t : Bool). read_unsigned t width bytes 0 ≡ ok_at v (length bytes)) × (short_unsigned v ≡ bytes)
Holds (signed_number width bytes z) = ByBoth (λ (t : Bool). read_signed t width bytes 0 ≡ ok_at z (length bytes)) × (short_signed z ≡ bytes)
Holds (relr_table z offsets words) = InBoth (Packed z offsets words)
Holds (relr_laid z words low high) = (bytes_of_words (class_in z Little) words ≡ low) × (bytes_of_words (class_in z Big) words ≡ high)
Holds (relr_applied z words base start old o new) = InBoth (PatchedTo z words base start old o new)
Holds (relr_other k bytes o) = decode k bytes ≡ o
Holds (apr1_table bytes l) = ByBoth (λ (t : Bool). apr1.decode t bytes ≡ accepted l) × (apr1.encode l ≡ accepted bytes)
Holds (apa1_table bytes l) = ByBoth (λ (t : Bool). apa1.decode t bytes ≡ accepted l) × (apa1.encode l ≡ accepted bytes)
Holds (relleb_table width bytes l) = ByBoth (λ (t : Bool). relleb.decode t width bytes ≡ accepted l) × (relleb.encode width l ≡ accepted bytes)
Holds (apr1_other bytes lax strict) = Either (λ (t : Bool). apr1.decode t bytes) lax strict
Holds (apa1_other bytes lax strict) = Either (λ (t : Bool). apa1.decode t bytes) lax strict
Holds (relleb_other width bytes lax strict) = Either (λ (t : Bool). relleb.decode t width bytes) lax strict

-- images of eight bytes: their words
abbrev full : Size → List ℕ
full Four = 0xFFFFFFFF ∷ 0xFFFFFFFF ∷ []
full Eight = 0xFFFFFFFFFFFFFFFF ∷ []

abbrev zeros : Size → List ℕ
zeros Four = 0 ∷ 0 ∷ []
zeros Eight = 0 ∷ []

-- the cases
pub worked : List Case
worked =
    -- A
    unsigned_number 32 (0xE5 ∷ 0x8E ∷ 0x26 ∷ []) 624485
    -- B: negsuc n is - (n + 1)
    ∷ signed_number 32 (0xC0 ∷ 0xBB ∷ 0x78 ∷ []) (negsuc 123455)
    -- C
    ∷ relr_table Eight (0x2000 ∷ 0x2008 ∷ 0x2010 ∷ 0x2018 ∷ []) (0x2000 ∷ 0xF ∷ [])
    -- D
    ∷ relr_table Eight (0x2000 ∷ 0x21F8 ∷ []) (0x2000 ∷ 0x8000000000000001 ∷ [])
    -- E, both
    ∷ relr_table Eight (0x2000 ∷ 0x2200 ∷ []) (0x2000 ∷ 0x2200 ∷ [])
    ∷ relr_table Eight (0x2000 ∷ 0x21F8 ∷ 0x2200 ∷ []) (0x2000 ∷ 0x8000000000000001 ∷ 0x3 ∷ [])
    -- F
    ∷ relr_table Four (0x100 ∷ 0x17C ∷ []) (0x100 ∷ 0x80000001 ∷ [])
    -- G
    ∷ relr_table Eight (0x10 ∷ 0x14 ∷ 0x18 ∷ 0x20 ∷ []) (0x10 ∷ 0x14 ∷ 0x18 ∷ 0x3 ∷ [])
    -- J
    ∷ relr_applied Eight (0 ∷ []) 1 0 (full Eight) (accepted (0 ∷ [])) (zeros Eight)
    -- N, both
    ∷ relr_applied Eight (0 ∷ []) 2 0 (zeros Eight) (accepted (0 ∷ [])) (2 ∷ [])
    ∷ relr_applied Eight (2 ∷ []) 2 0 (zeros Eight) (refused Outside 0) (zeros Eight)
    -- §1: a module linked at 0x1000; an offset just below the start
    ∷ relr_applied Eight (0x1000 ∷ []) 1 0x1000 (full Eight) (accepted (0x1000 ∷ [])) (zeros Eight)
    ∷ relr_applied Eight (0x1000 ∷ 0xFFE ∷ []) 1 0x1000 (full Eight) (refused Outside 1) (full Eight)
    -- the last word of the image, and one that ends two bytes beyond
    ∷ relr_applied Four (0x1000 ∷ 0x3 ∷ []) 1 0x1000 (full Four) (accepted (0x1000 ∷ 0x1004 ∷ [])) (zeros Four)
    ∷ relr_applied Four (0x1006 ∷ []) 1 0x1000 (full Four) (refused Outside 0) (full Four)
    -- a start near 2^64; one past the space of class 4, and there no offsets
    ∷ relr_applied Eight (0xFFFFFFFFFFFFFFF8 ∷ []) 1 0xFFFFFFFFFFFFFFF8 (full Eight) (accepted (0xFFFFFFFFFFFFFFF8 ∷ [])) (zeros Eight)
    ∷ relr_applied Four (0 ∷ []) 1 0xFFFFFFFFFFFFFFFF (full Four) (refused Outside 0) (full Four)
    ∷ relr_applied Four [] 1 0xFFFFFFFFFFFFFFFF (full Four) (accepted []) (full Four)
    -- §9: F's words low byte first and high byte first; C's words of eight bytes; F high byte first, read low byte first; C so
    ∷ relr_laid Four (0x100 ∷ 0x80000001 ∷ []) (0 ∷ 1 ∷ 0 ∷ 0 ∷ 1 ∷ 0 ∷ 0 ∷ 0x80 ∷ []) (0 ∷ 0 ∷ 1 ∷ 0 ∷ 0x80 ∷ 0 ∷ 0 ∷ 1 ∷ [])
    ∷ relr_laid Eight (0x2000 ∷ []) (0 ∷ 0x20 ∷ 0 ∷ 0 ∷ 0 ∷ 0 ∷ 0 ∷ 0 ∷ []) (0 ∷ 0 ∷ 0 ∷ 0 ∷ 0 ∷ 0 ∷ 0x20 ∷ 0 ∷ [])
    ∷ relr_other (class_in Four Little) (0 ∷ 0 ∷ 1 ∷ 0 ∷ 0x80 ∷ 0 ∷ 0 ∷ 1 ∷ []) (accepted (0x10000 ∷ 0x1000080 ∷ []))
    ∷ relr_other (class_in Eight Little) (0 ∷ 0 ∷ 0 ∷ 0 ∷ 0 ∷ 0 ∷ 0x20 ∷ 0 ∷ 0 ∷ 0 ∷ 0 ∷ 0 ∷ 0 ∷ 0 ∷ 0 ∷ 0xF ∷ []) (accepted (0x20000000000000 ∷ 0xF00000000000000 ∷ []))
    -- an addition that carries from one byte into the next
    ∷ relr_applied Four (0 ∷ []) 1 0 (0xFF ∷ []) (accepted (0 ∷ [])) (0x100 ∷ [])
    -- H
    ∷ apr1_table (0x41 ∷ 0x50 ∷ 0x52 ∷ 0x31 ∷ 0x02 ∷ 0x80 ∷ 0x20 ∷ 0x02 ∷ 0x04 ∷ 0x01 ∷ 0x08 ∷ []) (0x1000 ∷ 0x1004 ∷ 0x1008 ∷ 0x1010 ∷ [])
    -- I
    ∷ apa1_table (0x41 ∷ 0x50 ∷ 0x41 ∷ 0x31 ∷ 0x02 ∷ 0x80 ∷ 0x20 ∷ 0x10 ∷ 0x08 ∷ 0x08 ∷ []) (apa1.row 0x1000 (pos 16) ∷ apa1.row 0x1008 (pos 24) ∷ [])
    -- P
    ∷ relleb_table 64 (0x02 ∷ 0x10 ∷ 0x81 ∷ 0x02 ∷ 0x7C ∷ 0x7C ∷ 0x08 ∷ 0x00 ∷ 0x03 ∷ []) (relleb.row 16 257 3 (negsuc 3) ∷ relleb.row 24 257 3 (negsuc 3) ∷ [])
    -- §6: a padded A, and a padded D of a pair that passes the space
    ∷ apr1_other (0x41 ∷ 0x50 ∷ 0x52 ∷ 0x31 ∷ 0x00 ∷ 0x84 ∷ 0x00 ∷ []) (accepted (4 ∷ [])) (refused Padded 5)
    ∷ apr1_other (0x41 ∷ 0x50 ∷ 0x52 ∷ 0x31 ∷ 0x01 ∷ 0xFC ∷ 0xFF ∷ 0xFF ∷ 0xFF ∷ 0x0F ∷ 0x01 ∷ 0x84 ∷ 0x00 ∷ []) (refused Space 10) (refused Padded 11)
    -- a padded count, one that is negative too, and a padded difference of -1
    ∷ apa1_other (0x41 ∷ 0x50 ∷ 0x41 ∷ 0x31 ∷ 0x80 ∷ 0x00 ∷ []) (accepted []) (refused Padded 4)
    ∷ apa1_other (0x41 ∷ 0x50 ∷ 0x41 ∷ 0x31 ∷ 0xC0 ∷ 0x7F ∷ []) (refused Width 4) (refused Width 4)
    ∷ apa1_other (0x41 ∷ 0x50 ∷ 0x41 ∷ 0x31 ∷ 0x01 ∷ 0x08 ∷ 0xFF ∷ 0x7F ∷ []) (accepted (apa1.row 8 (negsuc 0) ∷ [])) (refused Padded 6)
    -- an addend's difference of 0, and one that is padded too
    ∷ relleb_other 32 (0x01 ∷ 0x10 ∷ 0x00 ∷ 0x7C ∷ 0x00 ∷ []) (accepted (relleb.row 16 0 3 (pos 0) ∷ [])) (refused Zero 4)
    ∷ relleb_other 64 (0x01 ∷ 0x10 ∷ 0x00 ∷ 0x7C ∷ 0x80 ∷ 0x00 ∷ []) (accepted (relleb.row 16 0 3 (pos 0) ∷ [])) (refused Padded 4)
    ∷ []

-- each of them holds
pub claim : Each Holds worked
unfolding Holds Packed PatchedTo worked input_limit list_limit read_unsigned lax_unsigned read_signed lax_signed raw signed short short_by before after
    value_of bytes_in arranged word_at with_word first_words words_of bytes_of_words
    relr.marked relr.fit relr.anchored relr.read relr.falls relr.bit relr.word relr.first relr.write relr.table
    parse decode checked build encode leading contained targets indexes added patched changed image_after
    starts_with step_then records counted put_then puts residue signed_in same
    apr1.run apr1.expand apr1.second_of apr1.first_of apr1.step_at apr1.joined apr1.with_first apr1.with_count apr1.parse apr1.decode apr1.pair_then
    apr1.pairs_from apr1.one_pair apr1.pair_bytes apr1.head_of apr1.table_of apr1.checked apr1.build apr1.encode
    apa1.second_of apa1.first_of apa1.step_at apa1.plain apa1.count_of apa1.head_at apa1.parse apa1.decode apa1.entry_bytes apa1.head_of apa1.build apa1.encode
    relleb.with_addend relleb.with_symbol relleb.with_type relleb.with_offset relleb.step_at relleb.parse relleb.decode relleb.field_of relleb.symbol_bytes
    relleb.type_bytes relleb.field_bytes relleb.entry_bytes relleb.put_of relleb.build relleb.encode
claim =
    (((refl, refl), refl), (((refl, refl), refl), (((refl, refl), (refl, refl)), (((refl, refl), (refl, refl)), (((refl, refl), (refl, refl)), (((refl, refl), (refl, refl)), (((refl, refl), (refl, refl)), (((refl, refl), (refl, refl)), (((refl, refl), (refl, refl)), (((refl, refl), (refl, refl)), (((refl, refl), (refl, refl)), (((refl, refl), (refl, refl)), (((refl, refl), (refl, refl)), (((refl, refl), (refl, refl)), (((refl, refl), (refl, refl)), (((refl, refl), (refl, refl)), (((refl, refl), (refl, refl)), (((refl, refl), (refl, refl)), ((refl, refl), ((refl, refl), (refl, (refl, (((refl, refl), (refl, refl)), (((refl, refl), refl), (((refl, refl), refl), (((refl, refl), refl), ((refl, refl), ((refl, refl), ((refl, refl), ((refl, refl), ((refl, refl), ((refl, refl), ((refl, refl), tt)))))))))))))))))))))))))))))))))
