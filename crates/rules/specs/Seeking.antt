-- Seeking a start: the least of the clock and the ends that passes a test. Packing and placing differ only in the test.
use Rattle.std.specs.Prelude.{Bool, List, ◌∷◌, map, ℕ, max}
use Rattle.rules.specs.declared.Claim.{Claim}
use Rattle.rules.specs.Lists.{greatest, least}
use Rattle.rules.specs.declared.Setting.{Setting}
use Rattle.rules.specs.Claims.{end_of}

-- "candidate starts": the clock, and the ends not below it.
abbrev pub candidates : Setting → List Claim → List ℕ
candidates v ps = v.clock ∷ map (λ c. max v.clock (end_of v c)) ps

-- The least candidate that passes p; the last end, where none does.
unfoldable pub seek : Setting → (ℕ → Bool) → List Claim → ℕ
seek v p ps = least p (greatest (end_of v) v.clock ps) (candidates v ps)
