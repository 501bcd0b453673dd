-- What a line of a show says: a call, or the edition that the show begins with.
use Rattle.std.specs.Prelude.{ℕ, ◌-◌, ◌^◌, ◌≤◌, ◌<◌, ◌≡◌, cond, List, [], ◌∷◌, eqb, length, get_or, Option, Some, None, Result, Ok, Err}
use Rattle.numbers.specs.declared.Refusal.TheVariants as refusal
use Rattle.numbers.specs.Numbers.{or_else}
use Rattle.format.specs.declared.Call.{Call}
use Rattle.format.specs.Format.{the_groups, field_width, has_kind, fields_of, names}
use Rattle.format.specs.Calls.{with_value, bare, call_of}
use Rattle.load.specs.Reading.{unless_refused}
use Rattle.numerals.specs.Texts.{bytes}
use Rattle.words.specs.declared.reasons.Reason.{Reason}
use Rattle.words.specs.declared.reasons.Reason.TheVariants.{Unknown, Missing, TooMany, NoClock, NoTicket, NoLength, NoGroups, TooLarge, NoPool, NoUnits, NoClient, NoReserved, NoLimit, NoGrace, Refused}
use Rattle.words.specs.Answers.{WordValues}
use Rattle.words.specs.Parts.{words_in, said}
use Rattle.words.specs.Reasons.{reason_number, unknown_reason, missing_reason, too_many_reason, too_large_reason}
use Rattle.words.specs.Sets.{groups_in, groups_values}
use Rattle.words.specs.Words.{number_in, is_word, place_in, number_values}
use Rattle.load_text.specs.declared.parse.Head.{Head}
use Rattle.load_text.specs.declared.parse.Head.TheVariants.{Silent, Edition, Other}
use Rattle.load_text.specs.Answers.{Line, a_call, nothing, ParsedValues}

-- ── calls ──
-- The reasons of words that say nothing as a field, in the order of the fields: the kind has no word, then clock, groups, length, ticket,
-- pool, units, client, reserved, limit, grace.
unfoldable pub no_reasons : List Reason
no_reasons = Unknown ∷ NoClock ∷ NoGroups ∷ NoLength ∷ NoTicket ∷ NoPool ∷ NoUnits ∷ NoClient ∷ NoReserved ∷ NoLimit ∷ NoGrace ∷ []

unfoldable pub no_reason : ℕ → Reason
no_reason f = get_or no_reasons f Unknown

-- What a word says as a field: a set of groups, or a number in decimal that goes into the field's width.
unfoldable pub field_in : ℕ → List ℕ → Result ℕ Reason
field_in f w = cond (eqb f the_groups) (groups_in w) (number_in 10 (256 ^ field_width f - 1) (no_reason f) TooLarge w)

-- A call with that in the field; the first word that is wrong decides.
abbrev pub with_field : ℕ → Result ℕ Reason → Result Call Reason → Result Call Reason
with_field f (Ok v) (Ok c) = Ok (with_value f v c)
with_field f (Err r) (Ok c) = Err r
with_field f x (Err r) = Err r

-- The words put into the fields, one after the other. How many there are is judged before what they say.
unfoldable pub filled_in : List ℕ → List (List ℕ) → Result Call Reason → Result Call Reason
filled_in [] [] p = p
filled_in [] (w ∷ ws) p = Err TooMany
filled_in (f ∷ fs) [] p = Err Missing
filled_in (f ∷ fs) (w ∷ ws) p = filled_in fs ws (with_field f (field_in f w) p)

-- The kind that a word names, 0 for none.
unfoldable pub kind_of : List ℕ → ℕ
kind_of w = place_in w 0 names

-- The kind that it names in an edition, which may lack it; no edition has kind 0.
unfoldable pub kind_named : ℕ → List ℕ → Option ℕ
kind_named e w = cond (has_kind e (kind_of w)) (Some (kind_of w)) None

-- A word that names a kind is the kind's name, and not empty: none names kind 7, which has no name. proofs/Tables has the proof:
-- named-by-name.
abbrev pub NamedByName : Type 0
NamedByName = (e : ℕ) (w : List ℕ) (k : ℕ) → kind_named e w ≡ Some k → (w ≡ get_or names k []) × (0 < length w)

-- A line that says the call of words; what is wrong with them stays so.
abbrev pub calling : Result Call Reason → Line
calling (Ok c) = a_call c
calling (Err r) = Err r

-- By the kind that the first word names, and the words after it.
abbrev pub kind_says : ℕ → Option ℕ → List (List ℕ) → Line
kind_says e None ws = Err Unknown
kind_says e (Some k) ws = calling (filled_in (fields_of e k) ws (Ok (bare k)))

unfoldable pub call_said : ℕ → List (List ℕ) → Line
call_said e [] = nothing
call_said e (k ∷ ws) = kind_says e (kind_named e k) ws

-- What a line of a show of edition e says.
unfoldable pub line_says : ℕ → List ℕ → Line
line_says e l = call_said e (words_in (said l))

-- ── the edition ──
abbrev pub edition_word : List ℕ
edition_word = bytes "edition"

-- By the words behind it.
unfoldable pub edition_in : List (List ℕ) → Result ℕ Reason
edition_in [] = Err Missing
edition_in (w ∷ []) = number_in 10 255 (Refused refusal.Edition) (Refused refusal.Edition) w
edition_in (w ∷ a ∷ ws) = Err TooMany

abbrev pub heads : Result ℕ Reason → Result Head Reason
heads (Ok e) = Ok (Edition e)
heads (Err r) = Err r

unfoldable pub head_in : List (List ℕ) → Result Head Reason
head_in [] = Ok Silent
head_in (k ∷ ws) = cond (is_word k edition_word) (heads (edition_in ws)) (Ok Other)

-- What a line says as the first of a show: nothing, its edition, something else, or no edition that a byte can name.
unfoldable pub head_says : List ℕ → Result Head Reason
head_says l = head_in (words_in (said l))

-- ── a line in numbers ──
-- By its words alone, without the cases of the code's answer.
-- How many words there are for the fields of a kind: 0 for as many.
unfoldable pub word_count_number : List ℕ → List (List ℕ) → ℕ
word_count_number [] [] = 0
word_count_number [] (w ∷ ws) = too_many_reason
word_count_number (f ∷ fs) [] = missing_reason
word_count_number (f ∷ fs) (w ∷ ws) = word_count_number fs ws

-- What a word says as a field.
unfoldable pub word_as : ℕ → List ℕ → WordValues
word_as f w = cond (eqb f the_groups) (groups_values w) (number_values 10 (256 ^ field_width f - 1) (reason_number (no_reason f)) too_large_reason w)

-- The first word that is wrong as its field: 0 for none.
unfoldable pub wrong_word : List ℕ → List (List ℕ) → ℕ
wrong_word (f ∷ fs) (w ∷ ws) = or_else (word_as f w).number (wrong_word fs ws)
wrong_word [] ws = 0
wrong_word (f ∷ fs) [] = 0

-- What the words say as their fields.
unfoldable pub values_said : List ℕ → List (List ℕ) → List ℕ
values_said (f ∷ fs) (w ∷ ws) = (word_as f w).value ∷ values_said fs ws
values_said [] ws = []
values_said (f ∷ fs) [] = []

-- The number of the words behind a kind's name, 0 for none. How many there are is judged before what they say.
unfoldable pub words_number : List ℕ → List (List ℕ) → ℕ
words_number fs ws = or_else (word_count_number fs ws) (wrong_word fs ws)

-- By the kind that the first word names: the call of the words' values, where nothing is wrong.
abbrev pub kind_values : ℕ → Option ℕ → List (List ℕ) → ParsedValues
kind_values e None ws = record { number = unknown_reason; calls = [] }
kind_values e (Some k) ws =
    let fs = fields_of e k in
    record { number = words_number fs ws; calls = unless_refused (words_number fs ws) (λ n. []) (call_of e k (values_said fs ws) ∷ []) }

unfoldable pub call_values : ℕ → List (List ℕ) → ParsedValues
call_values e [] = record { number = 0; calls = [] }
call_values e (k ∷ ws) = kind_values e (kind_named e k) ws

unfoldable pub parse_values : ℕ → List ℕ → ParsedValues
parse_values e l = call_values e (words_in (said l))

-- A line that is wrong has a reason that is no number of document 01. proofs/Within has the proof: reasons-apart.
abbrev pub ReasonsApart : Type 0
ReasonsApart = (e : ℕ) (l : List ℕ) (r : Reason) → line_says e l ≡ Err r → 101 ≤ reason_number r
