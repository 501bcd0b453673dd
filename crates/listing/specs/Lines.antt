-- The lines of a listing, as bytes. (The stop line is in `replay`.) Quotations are from document 01, "What the program prints".
-- "Every line ends in one line feed (byte 10)."
use Rattle.std.specs.Prelude.{List, [], ◌∷◌, ◌++◌, ℕ}
use Rattle.rules.specs.Calls.{Answer}
use Rattle.numerals.specs.Digits.{pair}
use Rattle.numerals.specs.Texts.{bytes, space, line_feed}

-- "The header"
abbrev pub header : List ℕ
header = bytes "rec answer ticket start\n"

-- The line of record k: "its number from 1, the answer (0 accepted), the ticket concerned, the start".
unfoldable pub line_of : ℕ → ℕ → ℕ → ℕ → List ℕ
line_of k number ticket start = pair k number space ++ pair ticket start line_feed

-- "`on TICKET CLOCK`", for a ticket granted at a clock.
unfoldable pub on_line : ℕ → ℕ → List ℕ
on_line clock ticket = bytes "on " ++ pair ticket clock line_feed

-- "Each grant adds" such a line.
unfoldable pub on_lines : ℕ → List ℕ → List ℕ
on_lines clock [] = []
on_lines clock (k ∷ ks) = on_line clock k ++ on_lines clock ks

-- What record k answered: its line, then those of the tickets granted at a clock.
abbrev pub answer_lines : ℕ → ℕ → Answer → List ℕ
answer_lines k clock a = line_of k a.number a.ticket a.start ++ on_lines clock a.grants
