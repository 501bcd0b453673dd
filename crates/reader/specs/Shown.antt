-- "Each record is shown as that part of the caller's load": its bytes, and where they lie in it.
use Rattle.std.specs.Prelude.{ℕ, ◌+◌, ◌-◌, List, take, drop, Some, None, Ok, Err}
use Rattle.load.specs.Answers.{Answer}
use Rattle.reader.specs.Items.{item_of, position_after}

-- From its length bytes up to the next position. Where no record stands the position stays, and the part is empty.
unfoldable pub record_part : List ℕ → ℕ → List ℕ
record_part s at = take (position_after s at - at) (drop at s)

-- How far into the load the part begins: at the record's position. An empty part lies at the load's start.
abbrev pub start_of : ℕ → Answer → ℕ
start_of at (Ok (Some item)) = at
start_of at (Ok None) = 0
start_of at (Err r) = 0

unfoldable pub record_start : List ℕ → ℕ → ℕ
record_start s at = start_of at (item_of s at)

-- A pointer is a block of memory and a count of bytes from its start. So many bytes further on:
abbrev pub further : ℕ × ℕ → ℕ → ℕ × ℕ
further p n = (p.0, p.1 + n)
