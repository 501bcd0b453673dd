-- Bytes laid over a lent buffer. What would go past its end is left out, and a place stops at the greatest usize, so that every writer is
-- total: a dry run on a short buffer counts.
use Rattle.std.specs.Prelude.{ℕ, ◌+◌, min, cond, List, ◌++◌, ◌≡◌, leb, length, drop}
use Rattle.std.proofs.lemmas.List.Edits.{sets}
use Rattle.numbers.specs.Numbers.{no_space_number}

-- The place after n bytes from a place on; the greatest usize where there is none.
unfoldable pub behind : ℕ → ℕ → ℕ
behind at n = min (at + n) 18446744073709551615

-- o with xs laid over it from a place on.
unfoldable pub laid : List ℕ → ℕ → List ℕ → List ℕ
laid o at xs = sets o at xs

-- o has become p: xs was laid at a place, and r is the place after it.
pub record Put (o : List ℕ) (at : ℕ) (xs : List ℕ) (r : ℕ) (p : List ℕ) : Type 0 where
  pub next : r ≡ behind at (length xs)
  pub is : p ≡ laid o at xs

-- ── a lent buffer, for the callers of public functions ──
-- 15 where "a lent output buffer is shorter than the output", else 0.
unfoldable pub space_number : List ℕ → List ℕ → ℕ
space_number text out = cond (leb (length text) (length out)) 0 no_space_number

-- The output at the buffer's start, whose "later bytes .. keep their contents"; where it does not go in, "no byte of a lent buffer differs".
unfoldable pub lent_out : List ℕ → List ℕ → List ℕ
lent_out text out = cond (leb (length text) (length out)) (text ++ drop (length text) out) out
