-- The forms of the lines of a show, such as `claim CLOCK GROUPS LENGTH`, for the report of a line with too few or too many words. A form
-- follows the format's table: a kind that is added has one by its row.
use Rattle.std.specs.Prelude.{ℕ, suc, ◌≤◌, true, cond, List, [], ◌∷◌, ◌++◌, ◌≡◌, length, get_or, Option, Some, None}
use Rattle.format.specs.Format.{fields_of, has_kind, name_of}
use Rattle.numerals.specs.Texts.{bytes}
use Rattle.words.specs.Parts.{first_said, line_at, words_in}
use Rattle.words.specs.Reports.{BeginsWith, form_for, wants_form}
use Rattle.words.specs.Words.{is_word}
use Rattle.load_text.specs.Making.{heading, made_by, wrong}
use Rattle.load_text.specs.Parsing.{edition_word, kind_named}

-- The words of the fields in a form, in the order of the fields: the kind has none, then clock, groups, length, ticket, pool, units, client,
-- reserved, limit, grace.
unfoldable pub field_words : List (List ℕ)
field_words = [] ∷ bytes "CLOCK" ∷ bytes "GROUPS" ∷ bytes "LENGTH" ∷ bytes "TICKET" ∷ bytes "POOL" ∷ bytes "UNITS" ∷ bytes "DESK" ∷ bytes "GUARANTEE" ∷ bytes "LIMIT" ∷ bytes "TICKS" ∷ []

unfoldable pub field_word : ℕ → List ℕ
field_word f = get_or field_words f []

-- Those of fields, each after a space.
unfoldable pub fields_form : List ℕ → List ℕ
fields_form [] = []
fields_form (f ∷ fs) = bytes " " ++ (field_word f ++ fields_form fs)

-- The kind's name and its fields in edition e; empty for a kind that the edition lacks.
unfoldable pub kind_form : ℕ → ℕ → List ℕ
kind_form e k = name_of e k ++ fields_form (fields_of e k)

-- The form of the line that a show may begin with.
abbrev pub edition_form : List ℕ
edition_form = bytes "edition NUMBER"

-- That of the kind that a word names; empty where it names none.
abbrev pub named_form : ℕ → Option ℕ → List ℕ
named_form e None = []
named_form e (Some k) = kind_form e k

-- The form of a line of a show of edition e, by the line's first word.
unfoldable pub word_form : ℕ → List ℕ → List ℕ
word_form e w = cond (is_word w edition_word) edition_form (named_form e (kind_named e w))

-- The form that is told of a line of a text with reason n.
unfoldable pub form_of : List ℕ → ℕ → ℕ → List ℕ
form_of text line n = form_for (word_form (heading text).edition) text line n

-- A form has as many words as its line needs, the kind's name and one for each field, and is never left out of a report. proofs/Forms has
-- the proof: form-words.
abbrev pub FormWords : Type 0
FormWords = (e k : ℕ) → has_kind e k ≡ true → (length (words_in (kind_form e k)) ≡ suc (length (fields_of e k))) × (length (kind_form e k) ≤ 64)

-- A line that `make` finds to have too few or too many words is told with a form that begins with its first word. proofs/Told has the proof:
-- forms-told.
abbrev pub FormsTold : Type 0
FormsTold = (text : List ℕ) (line n : ℕ) → made_by text ≡ wrong line n → wants_form n ≡ true
    → BeginsWith (first_said (line_at text line)) (form_of text line n)
