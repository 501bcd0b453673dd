-- How large the numbers get that code adds, so that no sum wraps. The limits of the papers are in numbers, specs/Numbers.
use Rattle.std.specs.Prelude.{ℕ}

-- A start or a grant, of whatever claim, to which a length is added.
abbrev pub most_at : ℕ
most_at = 1000000000000000000

-- The planned start of a claim in range, and a start bound.
abbrev pub most_start : ℕ
most_start = 2000000000000

-- A start or a grant of a packed claim: at most the latest clock and 65 lengths.
abbrev pub most_packed : ℕ
most_packed = 1000300000000

-- The end of a claim that is packed or on.
abbrev pub most_end : ℕ
most_end = 3000000000000

-- The time of an event.
abbrev pub most_time : ℕ
most_time = 4000000000000

-- How many numbers of units, and how many times, an event's word of 64 bits tells apart.
abbrev pub units_in_word : ℕ
units_in_word = 65536

abbrev pub times_in_word : ℕ
times_in_word = 281474976710656
