-- The line that tells where a load ends early, as bytes. Quotations are from document 01, "What the program prints".
use Rattle.std.specs.Prelude.{List, ◌++◌, ℕ, zero, suc}
use Rattle.numerals.specs.Digits.{pair}
use Rattle.numerals.specs.Texts.{bytes, line_feed}

-- "`stop NUMBER RECORD`", at record k.
unfoldable pub stop_line : ℕ → ℕ → List ℕ
stop_line number k = bytes "stop " ++ pair number k line_feed

-- Lines, or where a number is not 0 "`stop NUMBER RECORD`, in place of" them.
abbrev pub stop_or : ℕ → ℕ → List ℕ → List ℕ
stop_or zero k lines = lines
stop_or (suc n) k lines = stop_line (suc n) k
