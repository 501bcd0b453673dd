-- The answers of the code, each by its number and values: "Where an answer is an enum, a definition gives this paper's number and values for
-- each of its cases." A number is document 01's or a reason (crate words), 0 where nothing is wrong. A value that a case does not have is 0,
-- or none.
use Rattle.std.specs.Prelude.{ℕ, List, [], ◌∷◌, Option, Some, None, Result, Ok, Err}
use Rattle.format.specs.declared.Call.{Call}
use Rattle.words.specs.declared.reasons.Reason.{Reason}
use Rattle.words.specs.Answers.{TextValues}
use Rattle.words.specs.Reasons.{reason_number}
use Rattle.load_text.specs.declared.Mistake.{Mistake}

-- What a line says: a call or nothing, or what is wrong with it.
abbrev pub Line : Type 0
Line = Result (Option Call) Reason

abbrev pub a_call : Call → Line
a_call c = Ok (Some c)

abbrev pub nothing : Line
nothing = Ok None

-- In numbers: the call, where it says one.
pub record ParsedValues : Type 0 where
  pub number : ℕ
  pub calls : List Call

abbrev pub parsed_values : Line → ParsedValues
parsed_values (Ok None) = record { number = 0; calls = [] }
parsed_values (Ok (Some c)) = record { number = 0; calls = c ∷ [] }
parsed_values (Err r) = record { number = reason_number r; calls = [] }

-- What a text comes to: the length of its load, or the line that is wrong with its number.
abbrev pub Made : Type 0
Made = Result ℕ Mistake

abbrev pub mistake : ℕ → ℕ → Made
mistake line n = Err (record { line = line; number = n })

abbrev pub made_values : Made → TextValues
made_values (Ok n) = record { number = 0; line = 0; length = n }
made_values (Err m) = record { number = m.number; line = m.line; length = 0 }
