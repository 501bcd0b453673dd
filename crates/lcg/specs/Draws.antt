-- The generator of request P5. Quotations are from document 02.
use Rattle.std.specs.Prelude.{ℕ, zero, suc, ◌+◌, ◌*◌, ◌/◌, ◌%◌}
use Rattle.lcg.specs.declared.Generator.{Generator}

-- "The state becomes (1,664,525 × state + 1,013,904,223) modulo 2^32"
unfoldable pub state_after : ℕ → ℕ
state_after s = (1664525 * s + 1013904223) % 4294967296

-- "a draw is the new state divided by 65,536, rounded down"
unfoldable pub draw_after : ℕ → ℕ
draw_after s = state_after s / 65536

-- The draw of a generator, and the generator after it.
abbrev pub draw_of : Generator → ℕ
draw_of g = draw_after g.state

abbrev pub advanced : Generator → Generator
advanced g = record { state = state_after g.state }

-- The state after n draws.
unfoldable pub state_in : ℕ → ℕ → ℕ
state_in zero s = s
state_in (suc n) s = state_in n (state_after s)

-- The draw after n others.
abbrev pub draw_in : ℕ → ℕ → ℕ
draw_in n s = draw_after (state_in n s)
