-- The claims that share a group with a new one, as one pass over the row tells them.
use Rattle.std.specs.Prelude.{◌≡◌, true, false, List, ℕ, ◌<◌, length}
use Rattle.groups.specs.Groups.{has}
use Rattle.rules.specs.declared.Claim.{Claim}
use Rattle.rules.specs.declared.Setting.{Setting}
use Rattle.rules.specs.Lists.{sum}
use Rattle.rules.specs.Claims.{rival, remaining}
use Rattle.rules.specs.Order.{rivals}
use Rattle.plan.specs.SortKeys.{claim_at}
use Rattle.plan.specs.declared.placing.Rivals.{Rivals}

-- The set x has places of claims alone, and that of each claim that shares a group with w.
pub record RivalPlaces (w : Claim) (ps : List Claim) (x : ℕ) : Type 0 where
  pub inside : (k : ℕ) → k < 64 → has x k ≡ true → k < length ps
  pub apart : (k : ℕ) → k < length ps → k < 64 → has x k ≡ false → rival (claim_at ps k) w ≡ false

-- How many they are, the time that they have left, and their places.
pub record RivalsOf (v : Setting) (w : Claim) (ps : List Claim) (r : Rivals) : Type 0 where
  pub count : r.count ≡ length (rivals ps w)
  pub time : r.time ≡ sum (remaining v) (rivals ps w)
  pub places : RivalPlaces w ps r.places
