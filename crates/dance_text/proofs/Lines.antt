-- What a line says in numbers: the values of each case are those that its words give.
use Prim.Native.Nat.{ℕ}
use mathlib.Core.Bool.{cond}
use mathlib.Core.List.{List, [], ◌∷◌}
use mathlib.Core.Path.{◌≡◌, refl, ap, ◌∙◌}
use native.Mathlib.Omega.{arith}
use lib.Dec.{eqb}
use borrow.Author.Tests.{ne_eqb}
use Rattle.std.specs.Prelude.{Option, Some, None, Result, Ok, Err, length}
use Rattle.numbers.specs.Numbers.{most_tickets}
use Rattle.words.specs.declared.reasons.Reason.{Reason}
use Rattle.words.specs.declared.reasons.Reason.TheVariants.{NoTicket, TooLarge}
use Rattle.words.specs.Answers.{WordValues, word_values}
use Rattle.words.specs.Parts.{words_in, said, chomped, parts, bytes_before}
use Rattle.words.specs.Reasons.{reason_number}
use Rattle.words.specs.Sets.{groups_in}
use Rattle.words.specs.Words.{number_in}
use Rattle.words.proofs.Numbers.{reason-some}
use Rattle.words.proofs.Values.{number-values, groups-values}
use Rattle.dance_text.specs.declared.Call.{Call}
use Rattle.dance_text.specs.declared.Call.TheVariants.{Rig, Claim, Release}
use Rattle.dance_text.specs.declared.Name.{Name}
use Rattle.dance_text.specs.declared.Name.TheVariants.{NewRig, NewClaim, EndClaim}
use Rattle.dance_text.specs.Lines.{Line, call_named, call_or, calling, word_says, words_say, named_says, call_said, line_says, LineValues, line_values, word_as, call_with, words_values, values_named, named_values, parse_values}

-- The call of what a word says, in numbers.
abbrev called : (ℕ → Call) → WordValues → LineValues
called call x = record { number = x.number; calls = cond (eqb x.number 0) (call x.value ∷ []) [] }

-- No reason is 0.
call-values : (call : ℕ → Call) (x : Result ℕ Reason) → line_values (calling (call_or call x)) ≡ called call (word_values x)
call-values call (Ok v) = refl
call-values call (Err r) = rw (ne_eqb (reason_number r) 0 (λ e. omega (arith, reason-some r))) refl

word-values : (n : Name) (w : List ℕ)
    → line_values (calling (word_says n w)) ≡ record { number = (word_as n w).number; calls = cond (eqb (word_as n w).number 0) (call_with n (word_as n w).value) [] }
word-values NewRig w = call-values Rig (groups_in w) ∙ ap (called Rig) (groups-values w)
word-values NewClaim w = call-values Claim (groups_in w) ∙ ap (called Claim) (groups-values w)
word-values EndClaim w = call-values Release (number_in 10 most_tickets NoTicket TooLarge w) ∙ ap (called Release) (number-values reason_number _ _ _ _ w)

words-values : (n : Name) (ws : List (List ℕ)) → line_values (calling (words_say n ws)) ≡ words_values n ws
unfolding words_say words_values
words-values n [] = refl
words-values n (w ∷ []) = word-values n w
words-values n (w ∷ v ∷ ws) = refl

line-values : (ws : List (List ℕ)) → line_values (call_said ws) ≡ named_values ws
unfolding call_said named_values
line-values [] = refl
line-values (k ∷ ws) = by (call_named k)
  where
    by : (n : Option Name) → line_values (named_says n ws) ≡ values_named n ws
    by None = refl
    by (Some n) = words-values n ws

-- An empty line says nothing.
pub silent-empty : (l : List ℕ) → length l ≡ 0 → Ok None ≡ line_says l
unfolding line_says call_said said chomped words_in parts bytes_before
silent-empty [] e = refl
silent-empty (b ∷ l) e = absurd (omega (arith, e))

-- What a line says, with its number and call: what `parse_line` promises.
pub with_values : (l : List ℕ) (r : Line) → r ≡ line_says l → (r ≡ line_says l) × (line_values r ≡ parse_values l)
unfolding line_says parse_values
with_values l r e = (e, ap line_values e ∙ line-values (words_in (said l)))
