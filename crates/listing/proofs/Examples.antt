-- Listings computed: case P of document 01, one of each other kind, and the refusals that are the listing's own.
-- Assumes nothing.
use mathlib.Core.Path.{◌≡◌, refl}
use mathlib.Core.List.{[], ◌∷◌}
use Rattle.leb128.specs.Number as number
use Rattle.records.specs.Identifier as identifier
use Rattle.records.specs.Reading as reading
use Rattle.wrap.specs.Wrap as wrap
use Rattle.word.specs.Word as word
use Rattle.relr_table.specs.Words as words
use Rattle.relr_table.specs.Table as relr
use Rattle.relr_table.specs.Contract as relr-contract
use Rattle.apr1_table.specs.Table as apr1
use Rattle.apa1_table.specs.Table as apa1
use Rattle.relleb_table.specs.Table as relleb
use Rattle.answer.specs.Outcome as outcome
use Rattle.listing.specs.Text.{text_of, text_after, first_line, table_text, rows_of, mapped, printed, rows_from, row_text, field, decimal, digits_by, decimal_signed, refusal_text}

-- case P, whole
p : text_of (114 ∷ 101 ∷ 108 ∷ 108 ∷ 101 ∷ 98 ∷ 54 ∷ 52 ∷ 10 ∷ 2 ∷ 16 ∷ 129 ∷ 2 ∷ 124 ∷ 124 ∷ 8 ∷ 0 ∷ 3 ∷ []) ≡ 110 ∷ 111 ∷ 9 ∷ 111 ∷ 102 ∷ 102 ∷ 115 ∷ 101 ∷ 116 ∷ 9 ∷ 116 ∷ 121 ∷ 112 ∷ 101 ∷ 9 ∷ 115 ∷ 121 ∷ 109 ∷ 98 ∷ 111 ∷ 108 ∷ 9 ∷ 97 ∷ 100 ∷ 100 ∷ 101 ∷ 110 ∷ 100 ∷ 10 ∷ 48 ∷ 9 ∷ 49 ∷ 54 ∷ 9 ∷ 50 ∷ 53 ∷ 55 ∷ 9 ∷ 51 ∷ 9 ∷ 45 ∷ 52 ∷ 10 ∷ 49 ∷ 9 ∷ 50 ∷ 52 ∷ 9 ∷ 50 ∷ 53 ∷ 55 ∷ 9 ∷ 51 ∷ 9 ∷ 45 ∷ 52 ∷ 10 ∷ []
unfolding text_of text_after first_line identifier.starts_with table_text rows_of mapped printed rows_from row_text field decimal digits_by decimal_signed refusal_text outcome.before outcome.input_limit outcome.after reading.counted reading.records reading.step_then number.read_unsigned number.lax_unsigned number.raw number.read_signed number.lax_signed number.signed wrap.residue wrap.signed_in relleb.decode relleb.parse relleb.step_at relleb.with_offset relleb.with_type relleb.with_symbol relleb.with_addend
p = refl

-- an unknown first line
unknown : text_of (114 ∷ 101 ∷ 108 ∷ 114 ∷ 49 ∷ 54 ∷ 10 ∷ []) ≡ 114 ∷ 101 ∷ 102 ∷ 117 ∷ 115 ∷ 101 ∷ 100 ∷ 9 ∷ 49 ∷ 9 ∷ 48 ∷ 10 ∷ []
unfolding text_of text_after first_line identifier.starts_with table_text rows_of mapped printed rows_from row_text field decimal digits_by decimal_signed refusal_text
unknown = refl

-- a carriage return is part of the line
return_line : text_of (97 ∷ 112 ∷ 97 ∷ 49 ∷ 13 ∷ 10 ∷ []) ≡ 114 ∷ 101 ∷ 102 ∷ 117 ∷ 115 ∷ 101 ∷ 100 ∷ 9 ∷ 49 ∷ 9 ∷ 48 ∷ 10 ∷ []
unfolding text_of text_after first_line identifier.starts_with table_text rows_of mapped printed rows_from row_text field decimal digits_by decimal_signed refusal_text
return_line = refl

-- a first line without its line feed
unended : text_of (114 ∷ 101 ∷ 108 ∷ 114 ∷ 51 ∷ 50 ∷ []) ≡ 114 ∷ 101 ∷ 102 ∷ 117 ∷ 115 ∷ 101 ∷ 100 ∷ 9 ∷ 49 ∷ 9 ∷ 48 ∷ 10 ∷ []
unfolding text_of text_after first_line identifier.starts_with table_text rows_of mapped printed rows_from row_text field decimal digits_by decimal_signed refusal_text
unended = refl

-- no input
empty : text_of ([]) ≡ 114 ∷ 101 ∷ 102 ∷ 117 ∷ 115 ∷ 101 ∷ 100 ∷ 9 ∷ 49 ∷ 9 ∷ 48 ∷ 10 ∷ []
unfolding text_of text_after first_line identifier.starts_with table_text rows_of mapped printed rows_from row_text field decimal digits_by decimal_signed refusal_text
empty = refl

-- the reader's refusal, with its place
early : text_of (114 ∷ 101 ∷ 108 ∷ 108 ∷ 101 ∷ 98 ∷ 54 ∷ 52 ∷ 10 ∷ 2 ∷ 16 ∷ []) ≡ 114 ∷ 101 ∷ 102 ∷ 117 ∷ 115 ∷ 101 ∷ 100 ∷ 9 ∷ 52 ∷ 9 ∷ 50 ∷ 10 ∷ []
unfolding text_of text_after first_line identifier.starts_with table_text rows_of mapped printed rows_from row_text field decimal digits_by decimal_signed refusal_text outcome.before outcome.input_limit outcome.after reading.counted reading.records reading.step_then number.read_unsigned number.lax_unsigned number.raw number.read_signed number.lax_signed number.signed wrap.residue wrap.signed_in relleb.decode relleb.parse relleb.step_at relleb.with_offset relleb.with_type relleb.with_symbol relleb.with_addend
early = refl

-- a table of no whole words
cut_word : text_of (114 ∷ 101 ∷ 108 ∷ 114 ∷ 51 ∷ 50 ∷ 10 ∷ 0 ∷ 1 ∷ 0 ∷ []) ≡ 114 ∷ 101 ∷ 102 ∷ 117 ∷ 115 ∷ 101 ∷ 100 ∷ 9 ∷ 52 ∷ 9 ∷ 51 ∷ 10 ∷ []
unfolding text_of text_after first_line identifier.starts_with table_text rows_of mapped printed rows_from row_text field decimal digits_by decimal_signed refusal_text outcome.input_limit outcome.after relr-contract.decoding relr.decode relr.parse words.marked words.fit words.anchored words.read word.words_of word.first_words word.arranged word.value_of
cut_word = refl

-- case F: offsets alone
offsets : text_of (114 ∷ 101 ∷ 108 ∷ 114 ∷ 51 ∷ 50 ∷ 10 ∷ 0 ∷ 1 ∷ 0 ∷ 0 ∷ 1 ∷ 0 ∷ 0 ∷ 128 ∷ []) ≡ 110 ∷ 111 ∷ 9 ∷ 111 ∷ 102 ∷ 102 ∷ 115 ∷ 101 ∷ 116 ∷ 9 ∷ 116 ∷ 121 ∷ 112 ∷ 101 ∷ 9 ∷ 115 ∷ 121 ∷ 109 ∷ 98 ∷ 111 ∷ 108 ∷ 9 ∷ 97 ∷ 100 ∷ 100 ∷ 101 ∷ 110 ∷ 100 ∷ 10 ∷ 48 ∷ 9 ∷ 50 ∷ 53 ∷ 54 ∷ 9 ∷ 45 ∷ 9 ∷ 45 ∷ 9 ∷ 45 ∷ 10 ∷ 49 ∷ 9 ∷ 51 ∷ 56 ∷ 48 ∷ 9 ∷ 45 ∷ 9 ∷ 45 ∷ 9 ∷ 45 ∷ 10 ∷ []
unfolding text_of text_after first_line identifier.starts_with table_text rows_of mapped printed rows_from row_text field decimal digits_by decimal_signed refusal_text outcome.input_limit outcome.after relr-contract.decoding relr.decode relr.parse words.marked words.fit words.anchored words.read word.words_of word.first_words word.arranged word.value_of
offsets = refl

-- case I: offsets with addends
pairs : text_of (97 ∷ 112 ∷ 97 ∷ 49 ∷ 10 ∷ 65 ∷ 80 ∷ 65 ∷ 49 ∷ 2 ∷ 128 ∷ 32 ∷ 16 ∷ 8 ∷ 8 ∷ []) ≡ 110 ∷ 111 ∷ 9 ∷ 111 ∷ 102 ∷ 102 ∷ 115 ∷ 101 ∷ 116 ∷ 9 ∷ 116 ∷ 121 ∷ 112 ∷ 101 ∷ 9 ∷ 115 ∷ 121 ∷ 109 ∷ 98 ∷ 111 ∷ 108 ∷ 9 ∷ 97 ∷ 100 ∷ 100 ∷ 101 ∷ 110 ∷ 100 ∷ 10 ∷ 48 ∷ 9 ∷ 52 ∷ 48 ∷ 57 ∷ 54 ∷ 9 ∷ 45 ∷ 9 ∷ 45 ∷ 9 ∷ 49 ∷ 54 ∷ 10 ∷ 49 ∷ 9 ∷ 52 ∷ 49 ∷ 48 ∷ 52 ∷ 9 ∷ 45 ∷ 9 ∷ 45 ∷ 9 ∷ 50 ∷ 52 ∷ 10 ∷ []
unfolding text_of text_after first_line identifier.starts_with table_text rows_of mapped printed rows_from row_text field decimal digits_by decimal_signed refusal_text outcome.before outcome.input_limit outcome.after reading.counted reading.records reading.step_then number.read_unsigned number.lax_unsigned number.raw number.read_signed number.lax_signed number.signed wrap.residue wrap.signed_in apa1.decode apa1.parse apa1.head_at apa1.count_of apa1.plain apa1.step_at apa1.first_of apa1.second_of
pairs = refl

-- case H: offsets alone
runs : text_of (97 ∷ 112 ∷ 114 ∷ 49 ∷ 10 ∷ 65 ∷ 80 ∷ 82 ∷ 49 ∷ 2 ∷ 128 ∷ 32 ∷ 2 ∷ 4 ∷ 1 ∷ 8 ∷ []) ≡ 110 ∷ 111 ∷ 9 ∷ 111 ∷ 102 ∷ 102 ∷ 115 ∷ 101 ∷ 116 ∷ 9 ∷ 116 ∷ 121 ∷ 112 ∷ 101 ∷ 9 ∷ 115 ∷ 121 ∷ 109 ∷ 98 ∷ 111 ∷ 108 ∷ 9 ∷ 97 ∷ 100 ∷ 100 ∷ 101 ∷ 110 ∷ 100 ∷ 10 ∷ 48 ∷ 9 ∷ 52 ∷ 48 ∷ 57 ∷ 54 ∷ 9 ∷ 45 ∷ 9 ∷ 45 ∷ 9 ∷ 45 ∷ 10 ∷ 49 ∷ 9 ∷ 52 ∷ 49 ∷ 48 ∷ 48 ∷ 9 ∷ 45 ∷ 9 ∷ 45 ∷ 9 ∷ 45 ∷ 10 ∷ 50 ∷ 9 ∷ 52 ∷ 49 ∷ 48 ∷ 52 ∷ 9 ∷ 45 ∷ 9 ∷ 45 ∷ 9 ∷ 45 ∷ 10 ∷ 51 ∷ 9 ∷ 52 ∷ 49 ∷ 49 ∷ 50 ∷ 9 ∷ 45 ∷ 9 ∷ 45 ∷ 9 ∷ 45 ∷ 10 ∷ []
unfolding text_of text_after first_line identifier.starts_with table_text rows_of mapped printed rows_from row_text field decimal digits_by decimal_signed refusal_text outcome.before outcome.input_limit outcome.after reading.counted reading.records reading.step_then number.read_unsigned number.lax_unsigned number.raw apr1.decode apr1.parse apr1.run apr1.expand apr1.second_of apr1.first_of apr1.step_at apr1.joined apr1.with_first apr1.with_count
runs = refl
