-- What a line of a dance show says: `rig GROUPS`, `claim GROUPS` or `release TICKET`. Lines, words, sets of groups and reasons are those of
-- the planner's text (crate words).
use Rattle.std.specs.Prelude.{ℕ, cond, List, [], ◌∷◌, eqb, Option, Some, None, Result, Ok, Err}
use Rattle.numbers.specs.Numbers.{most_tickets}
use Rattle.numerals.specs.Texts.{bytes}
use Rattle.words.specs.declared.reasons.Reason.{Reason}
use Rattle.words.specs.declared.reasons.Reason.TheVariants.{Unknown, Missing, TooMany, NoTicket, TooLarge}
use Rattle.words.specs.Answers.{WordValues}
use Rattle.words.specs.Parts.{words_in, said}
use Rattle.words.specs.Sets.{groups_in, groups_values}
use Rattle.words.specs.Words.{is_word, number_in, number_values}
use Rattle.words.specs.Reasons.{unknown_reason, missing_reason, too_many_reason, no_ticket_reason, too_large_reason, reason_number}
use Rattle.dance_text.specs.declared.Call.{Call}
use Rattle.dance_text.specs.declared.Call.TheVariants.{Rig, Claim, Release}
use Rattle.dance_text.specs.declared.Name.{Name}
use Rattle.dance_text.specs.declared.Name.TheVariants.{NewRig, NewClaim, EndClaim}

-- The call that a word names.
unfoldable pub call_named : List ℕ → Option Name
call_named w =
    cond (is_word w (bytes "rig")) (Some NewRig) (cond (is_word w (bytes "claim")) (Some NewClaim) (cond (is_word w (bytes "release")) (Some EndClaim) None))

-- The call of what a word says; what is wrong stays so.
abbrev pub call_or : (ℕ → Call) → Result ℕ Reason → Result Call Reason
call_or call (Ok v) = Ok (call v)
call_or call (Err r) = Err r

-- What the word after a call's name says.
abbrev pub word_says : Name → List ℕ → Result Call Reason
word_says NewRig w = call_or Rig (groups_in w)
word_says NewClaim w = call_or Claim (groups_in w)
word_says EndClaim w = call_or Release (number_in 10 most_tickets NoTicket TooLarge w)

-- What the words after it say. How many there are is judged before what they say.
unfoldable pub words_say : Name → List (List ℕ) → Result Call Reason
words_say n [] = Err Missing
words_say n (w ∷ []) = word_says n w
words_say n (w ∷ v ∷ ws) = Err TooMany

-- What a line says: a call or nothing, or what is wrong with it.
abbrev pub Line : Type 0
Line = Result (Option Call) Reason

abbrev pub calling : Result Call Reason → Line
calling (Ok c) = Ok (Some c)
calling (Err r) = Err r

-- By the call that the first word names, and the words after it.
abbrev pub named_says : Option Name → List (List ℕ) → Line
named_says None ws = Err Unknown
named_says (Some n) ws = calling (words_say n ws)

unfoldable pub call_said : List (List ℕ) → Line
call_said [] = Ok None
call_said (k ∷ ws) = named_says (call_named k) ws

-- What a line says.
unfoldable pub line_says : List ℕ → Line
line_says l = call_said (words_in (said l))

-- ── a line in numbers ──
-- What a line says: the number of what is wrong with it, 0 for nothing; its call, where it says one.
pub record LineValues : Type 0 where
  pub number : ℕ
  pub calls : List Call

abbrev pub line_values : Line → LineValues
line_values (Ok None) = record { number = 0; calls = [] }
line_values (Ok (Some c)) = record { number = 0; calls = c ∷ [] }
line_values (Err r) = record { number = reason_number r; calls = [] }

-- The same by the line's words. What the word behind a call's name says, and the call of it.
abbrev pub word_as : Name → List ℕ → WordValues
word_as NewRig w = groups_values w
word_as NewClaim w = groups_values w
word_as EndClaim w = number_values 10 most_tickets no_ticket_reason too_large_reason w

abbrev pub call_with : Name → ℕ → List Call
call_with NewRig v = Rig v ∷ []
call_with NewClaim v = Claim v ∷ []
call_with EndClaim v = Release v ∷ []

abbrev pub no_call_for : ℕ → LineValues
no_call_for n = record { number = n; calls = [] }

-- A call has one word behind its name.
unfoldable pub words_values : Name → List (List ℕ) → LineValues
words_values n [] = no_call_for missing_reason
words_values n (w ∷ []) = record { number = (word_as n w).number; calls = cond (eqb (word_as n w).number 0) (call_with n (word_as n w).value) [] }
words_values n (w ∷ v ∷ ws) = no_call_for too_many_reason

abbrev pub values_named : Option Name → List (List ℕ) → LineValues
values_named None ws = no_call_for unknown_reason
values_named (Some n) ws = words_values n ws

unfoldable pub named_values : List (List ℕ) → LineValues
named_values [] = no_call_for 0
named_values (k ∷ ws) = values_named (call_named k) ws

unfoldable pub parse_values : List ℕ → LineValues
parse_values l = named_values (words_in (said l))
