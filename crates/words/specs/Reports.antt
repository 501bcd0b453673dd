-- The line that tells what is wrong with a line of text.
use Rattle.std.specs.Prelude.{ℕ, ◌<◌, Bool, ◌&&◌, ◌||◌, cond, List, [], ◌∷◌, ◌++◌, map, ◌≡◌, leb, ltb, length, get_or, replicate}
use Rattle.numbers.specs.Numbers.{edition_number, misfit_number, overlong_number}
use Rattle.numerals.specs.Digits.{decimal_of}
use Rattle.numerals.specs.Laid.{lent_out}
use Rattle.numerals.specs.Texts.{bytes}
use Rattle.words.specs.declared.reports.Reported.{Reported}
use Rattle.words.specs.Parts.{place_of, is, line_at, first_said}
use Rattle.words.specs.Reasons.{unknown_reason, missing_reason, too_many_reason, no_clock_reason, no_ticket_reason, no_length_reason, no_groups_reason, too_large_reason, over63_reason, backward_reason, no_pool_reason, no_units_reason, no_client_reason, no_reserved_reason, no_limit_reason, no_grace_reason}

-- What is wrong with a line: a number and its text.
pub record Told : Type 0 where
  pub number : ℕ
  pub text : List ℕ

abbrev pub reason : ℕ → List ℕ → Told
reason number text = record { number = number; text = text }

unfoldable pub reasons : List Told
reasons =
    reason unknown_reason (bytes "unknown call")
    ∷ reason missing_reason (bytes "a number is missing")
    ∷ reason too_many_reason (bytes "too many words")
    ∷ reason no_clock_reason (bytes "clock is not a number")
    ∷ reason no_ticket_reason (bytes "ticket is not a number")
    ∷ reason no_length_reason (bytes "length is not a number")
    ∷ reason no_groups_reason (bytes "groups are not hex or a list")
    ∷ reason too_large_reason (bytes "number too large")
    ∷ reason over63_reason (bytes "group over 63")
    ∷ reason backward_reason (bytes "range runs backward")
    ∷ reason no_pool_reason (bytes "pool is not a number")
    ∷ reason no_units_reason (bytes "units are not a number")
    ∷ reason no_client_reason (bytes "desk is not a number")
    ∷ reason no_reserved_reason (bytes "guarantee is not a number")
    ∷ reason no_limit_reason (bytes "limit is not a number")
    ∷ reason no_grace_reason (bytes "grace is not a number")
    ∷ reason edition_number (bytes "unknown edition")
    ∷ reason misfit_number (bytes "rig must be first")
    ∷ reason overlong_number (bytes "load over 65,536 bytes")
    ∷ []

-- For a number that has no text.
abbrev pub not_written : List ℕ
not_written = bytes "not written"

unfoldable pub reason_texts : List (List ℕ)
reason_texts = map (λ r. r.text) reasons ++ (not_written ∷ [])

unfoldable pub reason_text : ℕ → List ℕ
reason_text n = get_or reason_texts (place_of (is n) (map (λ r. r.number) reasons) 0) []

-- ── the form of a line ──
-- A line with too few or too many words is told with the form of its call, such as `claim CLOCK GROUPS LENGTH`.
abbrev pub wants_form : ℕ → Bool
wants_form n = is missing_reason n || is too_many_reason n

-- The form for a line of a text with reason n, by the first word that the line says; empty where the reason wants none.
unfoldable pub form_for : (List ℕ → List ℕ) → List ℕ → ℕ → ℕ → List ℕ
form_for forms text line n = cond (wants_form n) (forms (first_said (line_at text line))) []

-- A form behind the reason. One that is empty, or over 64 bytes, is left out.
unfoldable pub form_told : List ℕ → List ℕ
form_told form = cond (ltb 0 (length form) && leb (length form) 64) (bytes ": " ++ form) []

-- A form begins with a word, which is not empty, and is not left out.
pub record BeginsWith (w form : List ℕ) : Type 0 where
  pub some : 0 < length w
  pub first : first_said form ≡ w
  pub told : form_told form ≡ bytes ": " ++ form

-- ── the report ──
-- The line's number, what is wrong, and the form.
unfoldable pub report_of : ℕ → ℕ → List ℕ → List ℕ
report_of line n form = bytes "line " ++ (decimal_of line ++ (bytes ": " ++ (reason_text n ++ (form_told form ++ bytes "\n"))))

-- the same at the start of 128 bytes, and its length
abbrev pub reported : ℕ → ℕ → List ℕ → Reported
reported line n form = record { text = lent_out (report_of line n form) (replicate 128 0); length = length (report_of line n form) }
