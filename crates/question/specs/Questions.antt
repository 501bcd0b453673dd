-- Which question a line asks: its first word is the question's name, the others are decimal numbers. A question more is a case of `Question`
-- (src/questions.rt), its name here, by how many tickets it is of, and its text in Answers.
use Rattle.std.specs.Prelude.{cond, List, [], ◌∷◌, ℕ, Option, Some, None, Result, Ok, Err}
use Rattle.numbers.specs.Numbers.{most_tickets}
use Rattle.numerals.specs.Texts.{bytes}
use Rattle.words.specs.Parts.{words_in}
use Rattle.words.specs.Words.{is_word, number_in}
use Rattle.question.specs.declared.questions.Question.{Question}
use Rattle.question.specs.declared.questions.Question.TheVariants.{Lookup, Why, Common, Free}

-- ── tickets ──
-- What a word says as a ticket. (Why it says none is not told.)
module _ {E : Type 0} where
  abbrev pub ticket_or_none : Result ℕ E → Option ℕ
  ticket_or_none (Ok k) = Some k
  ticket_or_none (Err r) = None

unfoldable pub ticket_in : List ℕ → Option ℕ
ticket_in w = ticket_or_none {E = ℕ} (number_in 10 most_tickets 0 0 w)

-- ── the questions by name: of nothing, of a ticket, of two ──
unfoldable pub alone_asks : List ℕ → Option Question
alone_asks w = cond (is_word w (bytes "free")) (Some Free) None

unfoldable pub ticket_asks : List ℕ → Option ℕ → Option Question
ticket_asks w None = None
ticket_asks w (Some k) = cond (is_word w (bytes "lookup")) (Some (Lookup k)) (cond (is_word w (bytes "why")) (Some (Why k)) None)

unfoldable pub pair_asks : List ℕ → Option ℕ → Option ℕ → Option Question
pair_asks w None k = None
pair_asks w (Some j) None = None
pair_asks w (Some j) (Some k) = cond (is_word w (bytes "common")) (Some (Common j k)) None

-- ── a line ──
-- By how many words stand behind the name.
unfoldable pub question_in : List (List ℕ) → Option Question
question_in [] = None
question_in (w ∷ []) = alone_asks w
question_in (w ∷ (k ∷ [])) = ticket_asks w (ticket_in k)
question_in (w ∷ (j ∷ (k ∷ []))) = pair_asks w (ticket_in j) (ticket_in k)
question_in (w ∷ (j ∷ (k ∷ (l ∷ ws)))) = None

unfoldable pub question_of : List ℕ → Option Question
question_of line = question_in (words_in line)
