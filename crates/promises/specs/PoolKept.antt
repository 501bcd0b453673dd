-- "On claims never hold more than k together", and "a look gives the units free; with the held ones, counted from grants and releases, they
-- make k after any calls" (document 02, P3). Beside demand 3, of the same lists of calls, and by the same ledger. proofs/PoolKept has the
-- theorem.
use Rattle.std.specs.Prelude.{◌≡◌, cond, List, ℕ, ◌+◌, ◌≤◌}
use Rattle.rules.specs.Lists.{sum}
use Rattle.rules.specs.Calls.{at_pool, Call, step}
use Rattle.promises.specs.Ledger.{Steps, Entry, Ledger}
use Rattle.promises.specs.Runs.{Told, Start, AtAnyTime}

-- The units held: those that the granted and not yet released claims asked for.
abbrev pub units_held : List Entry → ℕ
units_held l = sum (λ e. cond e.held e.asked.units 0) l

pub record Kept (l : Ledger) (told : Told) : Type 0 where
  pub never_more : units_held l.claims ≤ l.pool
  pub free_and_held : told at_pool + units_held l.claims ≡ l.pool

abbrev pub PoolKeptOf : Steps → Start → List Call → Type 0
PoolKeptOf step s calls = AtAnyTime step s calls Kept

abbrev pub PoolKept : Start → List Call → Type 0
PoolKept s calls = PoolKeptOf step s calls
