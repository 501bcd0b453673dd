-- Packing: "Packing takes waiting claims by start, then ticket. Each gets the least start, not below the clock, that comes after the
-- conflicting claims preceding it and leaves units enough beside the on claims and those already packed" (document 02, P3). For a claim
-- that draws no units that is document 01's "greatest of the clock and the ends of the claims that precede it" (proofs/NoUnits:
-- `start-documented`).
-- Packing takes the claims in the order `before`. On every table that calls can make that is the order of `precedes` for claims that conflict
-- (proofs/Calls: `packs-as-documented`): no two waiting claims that conflict have the same start.
use Rattle.std.specs.Prelude.{◌≡◌, Bool, true, false, not, ◌&&◌, ◌||◌, List, map, ℕ, zero, suc, ◌≤◌, leb}
use Rattle.rules.specs.declared.Claim.{Claim}
use Rattle.rules.specs.declared.Phase.TheVariants.{Waiting}
use Rattle.rules.specs.Lists.{◌∈◌, all, keep}
use Rattle.rules.specs.declared.Setting.{Setting}
use Rattle.rules.specs.Claims.{on, with_phase, rival, end_of}
use Rattle.rules.specs.Order.{key, before, precedes}
use Rattle.rules.specs.Pool.{spare}
use Rattle.rules.specs.Seeking.{seek}
use Rattle.rules.specs.Plans.{Spare}

-- w may start at s behind the claims qs: after the ends of those that conflict with it, and with units enough beside all.
unfoldable pub ready : Setting → List Claim → Claim → ℕ → Bool
ready v qs w s = all (λ c. not (rival c w) || leb (end_of v c) s) qs && spare v qs w s

-- The start of w behind the claims qs: the least that is ready. (The least of all numbers, not only of the candidates: proofs/Starts,
-- `for-least`.)
unfoldable pub start_for : Setting → List Claim → Claim → ℕ
start_for v qs w = seek v (ready v qs w) qs

-- A waiting claim with the start that f gives it.
unfoldable pub moved : (Claim → ℕ) → Claim → Claim
moved f c = elim (on c) [ true ↦ c | false ↦ with_phase c (Waiting (f c)) ]

-- The claims before w, the waiting ones with the starts that f gives them.
unfoldable pub ahead : (Claim → ℕ) → List Claim → Claim → List Claim
ahead f ps w = map (moved f) (keep (λ c. before c w) ps)

-- The packed start of w: its start behind the claims before it, at their own packed starts. The first number bounds how many
-- claims can stand before one another; one more than w's key is enough.
unfoldable pub start_within : ℕ → Setting → List Claim → Claim → ℕ
start_within zero v ps w = v.clock
start_within (suc k) v ps w = start_for v (ahead (λ c. start_within k v ps c) ps w) w

unfoldable pub packed_start : Setting → List Claim → Claim → ℕ
packed_start v ps w = start_within (suc (key w)) v ps w

unfoldable pub pack : Setting → List Claim → List Claim
pack v ps = map (moved (packed_start v ps)) ps

-- The sentence at the top, of the starts f: at s a waiting claim w comes after the ends, at these starts, of the claims that precede it,
-- and leaves units enough beside the on claims and those packed before it; and f w is the least such s that is not below the clock.
pub record MayStart (v : Setting) (ps : List Claim) (f : Claim → ℕ) (w : Claim) (s : ℕ) : Type 0 where
  pub from_clock : v.clock ≤ s
  pub after : (c : Claim) → c ∈ ps → precedes c w ≡ true → end_of v (moved f c) ≤ s
  pub spare : Spare v (ahead f ps w) w s

abbrev pub Packs : Setting → List Claim → (Claim → ℕ) → Type 0
Packs v ps f =
    (w : Claim) → w ∈ ps → on w ≡ false
    → MayStart v ps f w (f w) × ((s : ℕ) → MayStart v ps f w s → f w ≤ s)
