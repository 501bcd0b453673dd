-- The lines of a dance show's listing. Every line ends in one line feed. No paper gives them: they are those of a load's listing with row and
-- contention in place of the start.
use Rattle.std.specs.Prelude.{List, [], ◌∷◌, ◌++◌, ℕ}
use Rattle.numerals.specs.Digits.{column, pair}
use Rattle.numerals.specs.Texts.{bytes, space, line_feed}

abbrev pub header : List ℕ
header = bytes "rec answer ticket row contention\n"

-- The line of call k: those five numbers.
unfoldable pub line_of : ℕ → ℕ → ℕ → ℕ → ℕ → List ℕ
line_of k number ticket row contention = pair k number space ++ (pair ticket row space ++ column contention line_feed)

-- `on TICKET` for each grant: there is no clock.
unfoldable pub on_line : ℕ → List ℕ
on_line ticket = bytes "on " ++ column ticket line_feed

unfoldable pub on_lines : List ℕ → List ℕ
on_lines [] = []
on_lines (k ∷ ks) = on_line k ++ on_lines ks

-- A dark rig ends the listing, in place of the rig's line.
abbrev pub stop_line : List ℕ
stop_line = bytes "stop 1 1\n"
