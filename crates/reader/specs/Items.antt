-- What a reader answers at its position, and where it stands after that. It tests the load that it was opened on: "A load [is tested in the
-- order] 14, 12, 11, then each record 12, 13."
use Rattle.std.specs.Prelude.{ℕ, List, [], Err}
use Rattle.load.specs.Answers.{refusal_of, Answer, ItemValues}
use Rattle.load.specs.Reading.{item_at, record_values, open_number, unless_refused}

-- The refusal of a load that does not open, at every position; else what stands there.
abbrev pub refused : ℕ → Answer
refused n = Err (refusal_of n)

unfoldable pub item_of : List ℕ → ℕ → Answer
item_of s at = unless_refused (open_number s) refused (item_at s at)

-- The same in numbers: of a load that does not open its number, no call, and the position is kept; else those of what stands there.
abbrev pub not_opened : ℕ → ℕ → ItemValues
not_opened at n = record { number = n; calls = []; next = at }

unfoldable pub read_values : List ℕ → ℕ → ItemValues
read_values s at = unless_refused (open_number s) (not_opened at) (record_values s at)

-- The next position: after a record; "at 12 or 13 it keeps its position", and so at the end and at a load that does not open.
unfoldable pub position_after : List ℕ → ℕ → ℕ
position_after s at = (read_values s at).next
