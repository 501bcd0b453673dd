-- The load that a text makes, line by line, and what `make` answers of it and leaves in a lent buffer.
use Rattle.std.specs.Prelude.{ℕ, ◌+◌, ◌≤◌, ◌<◌, List, [], ◌∷◌, ◌++◌, map, ◌≡◌, length, take, drop, ⊤, Result, Ok, Err}
use Rattle.numbers.specs.Numbers.{or_else}
use Rattle.numerals.specs.declared.page.Page.{Page}
use Rattle.numerals.specs.Laid.{laid, space_number, lent_out}
use Rattle.numerals.specs.Pages.{Lays}
use Rattle.format.specs.declared.Call.{Call}
use Rattle.format.specs.Records.{record_of, records_of}
use Rattle.load.specs.Bytes.{calls_bytes}
use Rattle.load.specs.Reading.{edition_of, open_number, load_number, walk, unless_refused}
use Rattle.words.specs.declared.reasons.Reason.{Reason}
use Rattle.words.specs.Answers.{TextValues, wrong_at, lent_as}
use Rattle.words.specs.Parts.{lines_in}
use Rattle.words.specs.Reasons.{reason_number}
use Rattle.load.specs.Writing.{grow_number}
use Rattle.load_text.specs.declared.Mistake.{Mistake}
use Rattle.load_text.specs.declared.Start.{Start}
use Rattle.load_text.specs.declared.parse.Head.{Head}
use Rattle.load_text.specs.declared.parse.Head.TheVariants.{Silent, Edition, Other}
use Rattle.load_text.specs.Answers.{Line, Made, mistake, parsed_values}
use Rattle.load_text.specs.Parsing.{line_says, head_says}

-- ── the heading ──
-- A show may begin with its edition, before any call; without it the edition is 1. The heading ends after so many lines, the last of which
-- is wrong where there is a number.
pub record Heading : Type 0 where
  pub number : ℕ
  pub edition : ℕ
  pub lines : ℕ

abbrev pub no_heading : Heading
no_heading = record { number = 0; edition = 1; lines = 0 }

-- A heading by the line that is its k-th, unless that says nothing.
abbrev pub headed : Result Head Reason → ℕ → Heading → Heading
headed (Ok Silent) k h = h
headed (Ok (Edition e)) k h = record { number = 0; edition = e; lines = k }
headed (Ok Other) k h = no_heading
headed (Err r) k h = record { number = reason_number r; edition = 1; lines = k }

unfoldable pub heading_in : ℕ → List (Result Head Reason) → Heading
heading_in k [] = no_heading
heading_in k (h ∷ hs) = headed h (k + 1) (heading_in (k + 1) hs)

unfoldable pub heading : List ℕ → Heading
heading text = heading_in 0 (map head_says (lines_in text))

-- What the lines after it say.
unfoldable pub said_in : List ℕ → List Line
said_in text = map (line_says (heading text).edition) (drop (heading text).lines (lines_in text))

-- Its number: what is wrong with the line, or 11 where a load of its edition byte alone does not open.
unfoldable pub heading_number : List ℕ → ℕ
heading_number text = or_else (heading text).number (open_number ((heading text).edition ∷ []))

-- What the code finds of it: the text behind its lines, or what is wrong with the last of them.
pub record Opens (text : List ℕ) (r : Start) : Type 0 where
  pub number : (heading text).number ≡ 0
  pub edition : r.edition ≡ (heading text).edition
  pub lines : r.lines ≡ (heading text).lines
  pub few : r.lines + length r.rest.now ≤ length text
  pub rest : lines_in r.rest.now ≡ drop (heading text).lines (lines_in text)

pub record Misread (text : List ℕ) (m : Mistake) : Type 0 where
  pub some : 0 < m.number
  pub number : m.number ≡ (heading text).number
  pub edition : 1 ≡ (heading text).edition
  pub line : m.line ≡ (heading text).lines

abbrev pub Starts : List ℕ → Result Start Mistake → Type 0
Starts text (Ok r) = Opens text r
Starts text (Err m) = Misread text m

-- ── a text ──
-- What lines make: a load, or the first line that is wrong, counted from 1, and its number.
pub data Making : Type 0 where
  whole : List ℕ → Making
  wrong : ℕ → ℕ → Making

-- The number of calls after a load of edition e and n bytes, 0 for none. A call is tested as by the writer, in room for the longest load:
-- 13, then 14.
abbrev pub calls_number : ℕ → ℕ → List Call → ℕ
calls_number e n [] = 0
calls_number e n (c ∷ cs) = grow_number e n (record_of c) 65536

-- The number of a line after such a load, 0 for one that is not wrong, and the record that it adds.
unfoldable pub line_number : ℕ → ℕ → Line → ℕ
line_number e n p = or_else (parsed_values p).number (calls_number e n (parsed_values p).calls)

unfoldable pub line_bytes : ℕ → Line → List ℕ
line_bytes e p = calls_bytes e (parsed_values p).calls

-- What lines make of a load s of edition e, after k lines: what the later lines make, unless line k + 1 has a number.
unfoldable pub gathered : ℕ → ℕ → List ℕ → List Line → Making
gathered e k s [] = whole s
gathered e k s (p ∷ ps) = unless_refused (line_number e (length s) p) (wrong (k + 1)) (gathered e (k + 1) (s ++ line_bytes e p) ps)

-- What a text makes: "Writing begins from the edition byte alone".
abbrev pub behind_heading : Heading → List Line → Making
behind_heading h ps = gathered h.edition h.lines (h.edition ∷ []) ps

unfoldable pub made_by : List ℕ → Making
made_by text = unless_refused (heading_number text) (wrong (heading text).lines) (behind_heading (heading text) (said_in text))

-- ── `make` ──
-- The first line that is wrong, else 15, whose line is 0, for a load that does not go in.
abbrev pub answer_on : Making → List ℕ → Made
answer_on (whole s) out = unless_refused (space_number s out) (mistake 0) (Ok (length s))
answer_on (wrong k n) out = mistake k n

-- The buffer after it: where a number is answered, "no byte of a lent buffer differs".
abbrev pub buffer_on : Making → List ℕ → List ℕ
buffer_on (whole s) out = lent_out s out
buffer_on (wrong k n) out = out

unfoldable pub made_of : List ℕ → List ℕ → Made
made_of text out = answer_on (made_by text) out

unfoldable pub made_out : List ℕ → List ℕ → List ℕ
made_out text out = buffer_on (made_by text) out

-- The answer in numbers.
abbrev pub values_on : Making → List ℕ → TextValues
values_on (whole s) out = lent_as s out
values_on (wrong k n) out = wrong_at k n

unfoldable pub make_values : List ℕ → List ℕ → TextValues
make_values text out = values_on (made_by text) out

-- What the code does with a line that says p, behind a load of edition e that is laid on a page: the line's record is laid, or r tells its
-- number, and nothing is laid;
abbrev pub Adds : ℕ → Page → Line → Result ⊤ Reason → Page → Type 0
Adds e old p (Ok u) new = (line_number e old.at p ≡ 0) × Lays old (line_bytes e p) new
Adds e old p (Err r) new = (line_number e old.at p ≡ reason_number r) × (new ≡ old)

-- and with a text: its load is laid over a buffer o, which becomes q, or it has a line that is wrong.
abbrev pub Gathers : List ℕ → List ℕ → Made → List ℕ → Type 0
Gathers text o (Ok n) q = (s : List ℕ) × (made_by text ≡ whole s) × (length s ≡ n) × (q ≡ laid o 0 s)
Gathers text o (Err m) q = made_by text ≡ wrong m.line m.number

-- ── what it reads as ──
-- The calls that lines say.
unfoldable pub calls_in : List Line → List Call
calls_in [] = []
calls_in (p ∷ ps) = (parsed_values p).calls ++ calls_in ps

-- A load that is answered with its length stands in the buffer's first bytes, and reads as the calls that the lines say, to its end; its
-- edition is the show's.
-- proofs/Making has the proof: made_reads.
abbrev pub MadeReads : Type 0
MadeReads = (text out : List ℕ) (n : ℕ) → made_of text out ≡ Ok n
    → (n ≤ length out) × (load_number (take n (made_out text out)) ≡ 0)
    × (walk (take n (made_out text out)) 1 ≡ record { records = records_of (calls_in (said_in text)); stop = 0 })
    × (edition_of (take n (made_out text out)) ≡ (heading text).edition)
