-- What is gathered for the row of a new claim. The rows behind the head are kept as a set: row j + 1 is group j of it.
use Rattle.std.specs.Prelude.{◌≡◌, true, false, ◌||◌, List, ℕ, suc, ◌-◌, ◌≤◌, ◌<◌, eqb}
use Rattle.groups.specs.Groups.{has}
use Rattle.frames.specs.declared.Claim.{Claim}
use Rattle.frames.specs.Rows.{contention, taken}
use Rattle.frame_table.specs.declared.Rivals.{Rivals}

-- The set with one row more; the head row is not one of these.
abbrev pub WithRow : ℕ → ℕ → ℕ → Type 0
WithRow rows row r = (j : ℕ) → j < 64 → has r j ≡ (has rows j || eqb row (suc j))

-- The first row behind the head that is not in the set, 65 where all are.
pub record FreeRow (rows r : ℕ) : Type 0 where
  pub low : 1 ≤ r
  pub high : r ≤ 65
  pub below : (j : ℕ) → suc j < r → has rows j ≡ true
  pub free : r ≤ 64 → has rows (r - 1) ≡ false

-- The claims ps that share a group with g: their rows behind the head, and how many they are.
pub record RivalsOf (ps : List Claim) (g : ℕ) (r : Rivals) : Type 0 where
  pub rows : (j : ℕ) → j < 64 → has r.rows j ≡ taken g ps (suc j)
  pub count : r.count ≡ contention g ps
