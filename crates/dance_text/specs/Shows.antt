-- What a text says as a dance show: its calls, or the first line that is wrong.
use Rattle.std.specs.Prelude.{ℕ, zero, suc, ◌+◌, Bool, true, false, List, [], ◌∷◌, ◌++◌, map, ltb, length, ◌≡◌, Some, None, Result, Ok, Err}
use Rattle.numbers.specs.Numbers.{misfit_number}
use Rattle.words.specs.Parts.{lines_in}
use Rattle.dance_text.specs.declared.Call.{Call}
use Rattle.dance_text.specs.declared.Call.TheVariants.{Rig, Claim, Release}
use Rattle.dance_text.specs.declared.Mistake.{Mistake}
use Rattle.dance_text.specs.Lines.{Line, line_says, line_values}
use Rattle.words.specs.Reasons.{reason_number}

-- What the lines of a text say; and the calls among that.
unfoldable pub said_in : List ℕ → List Line
said_in text = map line_says (lines_in text)

abbrev pub calls_of : Line → List Call
calls_of l = (line_values l).calls

unfoldable pub calls_in : List Line → List Call
calls_in [] = []
calls_in (l ∷ ls) = calls_of l ++ calls_in ls

-- "The first record is the rig and no other is": whether a call is out of place, after other calls or as the first.
abbrev pub misplaced : Bool → Call → ℕ
misplaced true (Rig g) = misfit_number
misplaced true (Claim g) = 0
misplaced true (Release k) = 0
misplaced false (Rig g) = 0
misplaced false (Claim g) = misfit_number
misplaced false (Release k) = misfit_number

-- The number of what is wrong with a line, or 0; `begun` where a call stands before it.
abbrev pub line_number : Bool → Line → ℕ
line_number begun (Ok None) = 0
line_number begun (Ok (Some c)) = misplaced begun c
line_number begun (Err r) = reason_number r

-- What a line that says l is found to say there: r.
pub record Behind (begun : Bool) (l r : Line) : Type 0 where
  pub number : (line_values r).number ≡ line_number begun l
  pub says : line_number begun l ≡ 0 → r ≡ l

-- A survey; or where the number n of line k is not 0, that line.
abbrev pub wrong_or : ℕ → ℕ → Result ℕ Mistake → Result ℕ Mistake
wrong_or zero k s = s
wrong_or (suc n) k s = Err (record { line = k; number = suc n })

-- After k lines and c calls: the first line that is wrong, and its number; or the count of calls.
unfoldable pub survey_in : ℕ → ℕ → List Line → Result ℕ Mistake
survey_in k c [] = Ok c
survey_in k c (l ∷ ls) = wrong_or (line_number (ltb 0 c) l) (k + 1) (survey_in (k + 1) (c + length (calls_of l)) ls)

unfoldable pub survey_of : List ℕ → Result ℕ Mistake
survey_of text = survey_in 0 0 (said_in text)
