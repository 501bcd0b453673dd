-- Room that the listing of every load of n bytes goes into (proofs/Sizes, `listing-bounded`): the header and a stop line, and for each
-- record, of which there are n / least_length at most, a line and an `on` line.
use Rattle.std.specs.Prelude.{cond, ℕ, ◌+◌, ◌*◌, ◌/◌, ltb}
use Rattle.numbers.specs.Numbers.{most_bytes}
use Rattle.format.specs.Format.{least_length}

unfoldable pub room_for : ℕ → ℕ
room_for n = cond (ltb most_bytes n) 71 (71 + 129 * (n / least_length))
