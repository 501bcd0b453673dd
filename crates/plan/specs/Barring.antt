-- Both reasons for which a start does not fit a claim, as one: a claim that shares a group with it bars it like one that draws more units
-- than are left. What is gathered for the search, and that it is the rules' `fits`, is proved in proofs/Barring.
use Rattle.std.specs.Prelude.{cond, List, ℕ}
use Rattle.rules.specs.declared.Claim.{Claim}
use Rattle.rules.specs.declared.Setting.{Setting}
use Rattle.rules.specs.Lists.{sum}
use Rattle.rules.specs.Claims.{rival}
use Rattle.rules.specs.Pool.{covers}
use Rattle.numbers.specs.Numbers.{most_units}

-- The units by which c bars w.
abbrev pub bars_by : Claim → Claim → ℕ
bars_by w c = cond (rival c w) most_units c.units

-- By how many w is barred at x.
unfoldable pub barred : Setting → Claim → ℕ → List Claim → ℕ
barred v w x ps = sum (λ c. cond (covers v x c) (bars_by w c) 0) ps
