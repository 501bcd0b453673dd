-- What code asks of a row of claims.
use Rattle.std.specs.Prelude.{◌≡◌, true, false, List, ◌≤◌, length}
use Rattle.numbers.specs.Numbers.{most_clock, most_length, most_pending, most_units, most_grace}
use Rattle.rules.specs.declared.Claim.{Claim}
use Rattle.rules.specs.declared.Setting.{Setting}
use Rattle.rules.specs.Lists.{◌∈◌}
use Rattle.rules.specs.Claims.{on, at}
use Rattle.rules.specs.Pool.{held_units}
use Rattle.rules.specs.Plans.{Ascending, Sane}
use Rattle.plan.specs.Bounds.{most_packed, most_start}

-- A claim whose numbers are in range, by the clock and the pool of a setting. No sum of a start or grant and a length then wraps.
pub record Sized (v : Setting) (c : Claim) : Type 0 where
  pub sane : Sane v c
  pub short : c.length ≤ most_length
  pub aged : on c ≡ true → at c ≤ v.clock
  pub planned : on c ≡ false → at c ≤ most_start

-- Claims in ascending order of ticket, each in range, no more than there are places, that hold no more units than there are; clock, pool
-- and grace are in range too.
pub record InRange (v : Setting) (ps : List Claim) : Type 0 where
  pub few : length ps ≤ most_pending
  pub timely : v.clock ≤ most_clock
  pub ascending : Ascending ps
  pub sized : (c : Claim) → c ∈ ps → Sized v c
  pub pooled : v.pool ≤ most_units
  pub stock : held_units ps ≤ v.pool
  pub lenient : v.grace ≤ most_grace

-- Starts and grants are as low as in a packed row: no end of theirs is too late to be a planned start.
abbrev pub Capped : List Claim → Type 0
Capped ps = (c : Claim) → c ∈ ps → at c ≤ most_packed
