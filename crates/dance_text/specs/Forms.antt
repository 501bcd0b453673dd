-- The forms of the lines of a dance show, for the report of a line with too few or too many words.
use Rattle.std.specs.Prelude.{ℕ, ◌≤◌, true, List, [], ◌≡◌, length, Option, Some, None, Err}
use Rattle.numerals.specs.Texts.{bytes}
use Rattle.words.specs.Parts.{first_said, line_at, words_in}
use Rattle.words.specs.Reports.{BeginsWith, form_for, wants_form}
use Rattle.dance_text.specs.declared.Name.{Name}
use Rattle.dance_text.specs.declared.Name.TheVariants.{NewRig, NewClaim, EndClaim}
use Rattle.dance_text.specs.declared.Mistake.{Mistake}
use Rattle.dance_text.specs.Lines.{call_named}
use Rattle.dance_text.specs.Shows.{survey_of}

-- The form of a call.
abbrev pub call_form : Name → List ℕ
call_form NewRig = bytes "rig GROUPS"
call_form NewClaim = bytes "claim GROUPS"
call_form EndClaim = bytes "release TICKET"

abbrev pub named_form : Option Name → List ℕ
named_form None = []
named_form (Some n) = call_form n

-- Of a line by its first word.
unfoldable pub word_form : List ℕ → List ℕ
word_form w = named_form (call_named w)

-- The form that is told of a line of a text with reason n.
unfoldable pub form_of : List ℕ → ℕ → ℕ → List ℕ
form_of text line n = form_for word_form text line n

-- A form has as many words as its line needs, the call's name and one more, and is never left out of a report. proofs/Forms has the proof:
-- form-words.
abbrev pub FormWords : Type 0
FormWords = (n : Name) → (length (words_in (call_form n)) ≡ 2) × (length (call_form n) ≤ 64)

-- A line that `survey` finds to have too few or too many words is told with a form that begins with its first word. proofs/Forms has the proof:
-- forms-told.
abbrev pub FormsTold : Type 0
FormsTold = (text : List ℕ) (m : Mistake) → survey_of text ≡ Err m →
    wants_form m.number ≡ true → BeginsWith (first_said (line_at text m.line)) (form_of text m.line m.number)
