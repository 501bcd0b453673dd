-- The listing of a dance show, from the text and the rules of the frame table; and what a lent buffer gets of it.
use Rattle.std.specs.Prelude.{Bool, false, not, cond, List, [], ◌∷◌, ◌++◌, ℕ, ◌+◌, ◌*◌, eqb, ltb, leb, length, Result, Ok, Err}
use Rattle.numbers.specs.Numbers.{no_space_number}
use Rattle.numerals.specs.Laid.{lent_out}
use Rattle.frames.specs.Calls.{Model, claim, release, Answer, Step, step, blank, new}
use Rattle.words.specs.Answers.{TextValues, wrong_at, lent_as}
use Rattle.dance_text.specs.declared.Call.{Call}
use Rattle.dance_text.specs.declared.Call.TheVariants.{Rig, Claim, Release}
use Rattle.dance_text.specs.declared.Mistake.{Mistake}
use Rattle.dance_text.specs.Shows.{said_in, calls_in, survey_of}
use Rattle.frame_listing.specs.Lines.{header, line_of, on_lines, stop_line}

-- What a call does to table m.
abbrev pub step_of : Model → Call → Step
step_of m (Rig g) = new g
step_of m (Claim g) = step m (claim g)
step_of m (Release k) = step m (release k)

-- A call that answers n ends the listing: a rig that is refused.
abbrev pub stops : Call → ℕ → Bool
stops (Rig g) n = not (eqb n 0)
stops (Claim g) n = false
stops (Release k) n = false

-- The lines of call k.
unfoldable pub entry_of : ℕ → Answer → List ℕ
entry_of k a = line_of k a.number a.ticket a.row a.contention ++ on_lines a.grants

-- The lines of calls from call k on, in table m.
unfoldable pub lines_of : ℕ → Model → List Call → List ℕ
lines_of k m [] = []
lines_of k m (c ∷ cs) =
    let s = step_of m c in
    cond (stops c s.answer.number) stop_line (entry_of k s.answer ++ lines_of (k + 1) s.model cs)

-- The listing of a text whose lines are not wrong: the header, and the lines of its calls.
unfoldable pub text_of : List ℕ → List ℕ
text_of text = header ++ lines_of 1 (blank 0) (calls_in (said_in text))

-- Room that the listing of every show of so many calls goes into: proofs/Sizes, `listing-bounded`.
unfoldable pub room_for : ℕ → ℕ
room_for n = cond (ltb 100000000000000000 n) 18446744073709551615 (42 + 129 * n)

-- ── what is answered ──
-- The first line that is wrong, counted from 1, and its number; else the listing's length, or 15 at line 0 where it does not go in.
abbrev pub Listed : Type 0
Listed = Result ℕ Mistake

abbrev pub no_room : Listed
no_room = Err (record { line = 0; number = no_space_number })

-- By the survey of the text: where no line is wrong, r.
abbrev pub mistake_or : Result ℕ Mistake → Listed → Listed
mistake_or (Ok calls) r = r
mistake_or (Err m) r = Err m

unfoldable pub listed_of : List ℕ → List ℕ → Listed
listed_of text out = mistake_or (survey_of text) (cond (leb (length (text_of text)) (length out)) (Ok (length (text_of text))) no_room)

-- In numbers: "Where an answer is an enum, a definition gives this paper's number and values for each of its cases."
abbrev pub listed_values : Listed → TextValues
listed_values (Ok n) = record { number = 0; line = 0; length = n }
listed_values (Err m) = record { number = m.number; line = m.line; length = 0 }

-- The same by the text.
abbrev pub values_or : Result ℕ Mistake → TextValues → TextValues
values_or (Ok calls) v = v
values_or (Err m) v = wrong_at m.line m.number

unfoldable pub listing_values : List ℕ → List ℕ → TextValues
listing_values text out = values_or (survey_of text) (lent_as (text_of text) out)

-- The lent buffer after it: where a line is wrong, or the listing does not go in, no byte differs.
abbrev pub out_or : Result ℕ Mistake → List ℕ → List ℕ → List ℕ
out_or (Ok calls) p out = p
out_or (Err m) p out = out

unfoldable pub listed_out : List ℕ → List ℕ → List ℕ
listed_out text out = out_or (survey_of text) (lent_out (text_of text) out) out

-- The answer in one number: the length, 15, or 0 where a line is wrong.
abbrev pub beat_of : TextValues → ℕ
beat_of v = cond (eqb v.line 0) (cond (eqb v.number 0) v.length v.number) 0
