-- Calls and loads as text.
use Rattle.std.specs.Prelude.{ℕ, zero, suc, ◌+◌, ◌-◌, ◌*◌, ◌/◌, ◌%◌, ◌≤◌, min, max, cond, List, [], ◌∷◌, ◌++◌, ltb, eqb, length, Result}
use Prim.Native.Char.{code}
use Rattle.numbers.specs.declared.Refusal.{Refusal}
use Rattle.numerals.specs.Digits.{decimal_of, column, pair}
use Rattle.numerals.specs.Laid.{space_number}
use Rattle.format.specs.declared.Call.{Call}
use Rattle.format.specs.Records.{Record}
use Rattle.format.specs.Format.{the_groups, field_width, fields_of, name_of}
use Rattle.format.specs.Calls.{value_of}
use Rattle.load.specs.Bytes.{call_bytes}
use Rattle.numerals.specs.Texts.{bytes, line_feed}
use Rattle.load.specs.Answers.{WrittenValues}
use Rattle.load.specs.Reading.{edition_of, Walk, walk, open_number, unless_refused}
use Rattle.load.specs.Writing.{answered, answered_values}

-- the lowest digit of v in base 16: 0 to 9, A to F
unfoldable pub glyph_of : ℕ → ℕ
glyph_of v = cond (ltb (v % 16) 10) (code "0" + v % 16) (code "A" - 10 + v % 16)

-- v in base 16 without zeros in front, at most k + 1 digits
unfoldable pub hex_up_to : ℕ → ℕ → List ℕ
hex_up_to zero v = glyph_of v ∷ []
hex_up_to (suc k) v = cond (ltb v 16) (glyph_of v ∷ []) (hex_up_to k (v / 16) ++ (glyph_of v ∷ []))

-- a value as a word: a set of groups in hex, any other in decimal
unfoldable pub word_of : ℕ → ℕ → List ℕ
word_of f v = cond (eqb f the_groups) (hex_up_to 15 v) (decimal_of v)

-- fields of a call, each after a space, and a line feed
unfoldable pub fields_text : List ℕ → Call → List ℕ
fields_text [] c = bytes "\n"
fields_text (f ∷ fs) c = bytes " " ++ (word_of f (value_of f c) ++ fields_text fs c)

-- the kind's name and the fields that it has in edition e
unfoldable pub line_of : ℕ → Call → List ℕ
line_of e c = name_of e c.kind ++ fields_text (fields_of e c.kind) c

-- The bytes that a word has at most: 16 in hex; in decimal 20, or three for each byte of the field's width where these are fewer.
unfoldable pub word_most : ℕ → ℕ
word_most f = cond (eqb f the_groups) 16 (max 1 (min 20 (3 * field_width f)))

unfoldable pub fields_most : List ℕ → ℕ
fields_most [] = 1
fields_most (f ∷ fs) = suc (word_most f) + fields_most fs

-- The line has at most 68 bytes, and three for each byte of the call's record. Every call has one, if its values go into their fields' widths.
abbrev pub Brief : ℕ → Call → Type 0
Brief e c = (length (line_of e c) ≤ 68) × (length (line_of e c) ≤ 3 * length (call_bytes e c))

-- the number of a refusal and its record, as a comment
unfoldable pub stop_line : ℕ → ℕ → List ℕ
stop_line n k = bytes "# stop " ++ pair n k line_feed

-- the lines from record k on; none for stop 0, the number of a load that is read to its end
unfoldable pub lines_of : ℕ → ℕ → List Record → ℕ → List ℕ
lines_of e k [] stop = unless_refused stop (λ n. stop_line n k) []
lines_of e k (r ∷ rs) stop = line_of e r.call ++ lines_of e (k + 1) rs stop

unfoldable pub rest_of : ℕ → ℕ → Walk → List ℕ
rest_of e k w = lines_of e k w.records w.stop

-- the first line of a show, for edition 1 a comment
unfoldable pub header_of : ℕ → List ℕ
header_of e = cond (eqb e 1) (bytes "# edition 1\n") (bytes "edition " ++ column e line_feed)

-- the text of a load: a stop line alone where it does not open
unfoldable pub text_of : List ℕ → List ℕ
text_of s = unless_refused (open_number s) (λ n. stop_line n 0) (header_of (edition_of s) ++ rest_of (edition_of s) 1 (walk s 1))

-- ── what is answered ──
-- The text's length, or 15 where it does not go into the lent buffer. The buffer is then `lent_out text out`.
unfoldable pub printed : List ℕ → List ℕ → Result ℕ Refusal
printed text out = answered (space_number text out) (length text)

-- The same in numbers.
unfoldable pub print_values : List ℕ → List ℕ → WrittenValues
print_values text out = answered_values (space_number text out) (length text)
