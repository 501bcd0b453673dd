-- What the laws say of a plan, the list of pending claims with their starts and grants. Two claims are claims of different tickets.
use Rattle.std.specs.Prelude.{◌≡◌, ◌⊎◌, ◌≢◌, true, false, List, ℕ, ◌+◌, ◌≤◌, ◌<◌}
use Rattle.rules.specs.declared.Claim.{Claim}
use Rattle.rules.specs.Lists.{◌∈◌, keep, Ascends}
use Rattle.rules.specs.declared.Setting.{Setting}
use Rattle.rules.specs.Claims.{on, at, rival, end_of}
use Rattle.rules.specs.Order.{before, meets}
use Rattle.rules.specs.Pool.{used, held_units}

-- Tickets ascend, so no ticket stands twice.
abbrev pub Ascending : List Claim → Type 0
Ascending l = Ascends (λ (c : Claim). c.ticket) l

-- A claim's numbers are in range.
pub record Sane (v : Setting) (c : Claim) : Type 0 where
  pub long : 1 ≤ c.length
  pub small : c.ticket < 65536
  pub drawn : c.units ≤ v.pool

-- No two holders share a group, and together they hold no more units than there are.
pub record Apart (v : Setting) (ps : List Claim) : Type 0 where
  pub apart : (c d : Claim) → c ∈ ps → d ∈ ps → c.ticket ≢ d.ticket → rival c d ≡ true → on c ≡ true → on d ≡ true → ⊥
  pub stock : held_units ps ≤ v.pool

-- A waiting claim starts at or after the end of each conflicting claim before it, and planned use never exceeds the pool.
pub record Separated (v : Setting) (ps : List Claim) : Type 0 where
  pub behind : (c w : Claim) → c ∈ ps → w ∈ ps → on w ≡ false → before c w ≡ true → rival c w ≡ true → end_of v c ≤ at w
  pub supplied : (x : ℕ) → v.clock ≤ x → used v x ps ≤ v.pool

-- If c is on, its promised end is not below t. So it is of all the claims: nobody overruns at that clock.
abbrev pub PromptAt : ℕ → Claim → Type 0
PromptAt t c = on c ≡ true → t ≤ at c + c.length

abbrev pub NoOverrunAt : ℕ → List Claim → Type 0
NoOverrunAt t ps = (c : Claim) → c ∈ ps → PromptAt t c

-- No planned start is below t.
abbrev pub StartsFrom : ℕ → List Claim → Type 0
StartsFrom t ps = (w : Claim) → w ∈ ps → on w ≡ false → t ≤ at w

-- A claim that has a group or the pool in common with w ends as w starts.
abbrev pub HeldUp : Setting → List Claim → Claim → Type 0
HeldUp v ps w = (c : Claim) × c ∈ ps × (meets c w ≡ true) × (end_of v c ≡ at w)

-- Each planned start is the clock or such an end.
abbrev pub Tight : Setting → List Claim → Type 0
Tight v ps = (w : Claim) → w ∈ ps → on w ≡ false → (at w ≡ v.clock) ⊎ HeldUp v ps w

-- Each planned start is such an end.
abbrev pub Blocked : Setting → List Claim → Type 0
Blocked v ps = (w : Claim) → w ∈ ps → on w ≡ false → HeldUp v ps w

-- "A start must leave, over the whole hold, units enough beside all planned holds": at every time x of the hold of w from s, beside the
-- claims qs. Nothing is asked where w draws none.
abbrev pub Spare : Setting → List Claim → Claim → ℕ → Type 0
Spare v qs w s = 0 < w.units → (x : ℕ) → s ≤ x → x < s + w.length → used v x qs + w.units ≤ v.pool

-- w may start at s behind the claims qs.
pub record Behind (v : Setting) (qs : List Claim) (w : Claim) (s : ℕ) : Type 0 where
  pub after : (c : Claim) → c ∈ qs → rival c w ≡ true → end_of v c ≤ s
  pub spare : Spare v qs w s

-- No waiting claim could start sooner behind the claims before it.
abbrev pub Earliest : Setting → List Claim → Type 0
Earliest v ps = (w : Claim) → w ∈ ps → on w ≡ false → (s : ℕ) → v.clock ≤ s → Behind v (keep (λ c. before c w) ps) w s → at w ≤ s

-- The claim c leaves room for w at s, and all do.
abbrev pub Room : Setting → Claim → ℕ → Claim → Type 0
Room v w s c = (end_of v c ≤ s) ⊎ ((on c ≡ false) × (s + w.length ≤ at c))

pub record Fits (v : Setting) (ps : List Claim) (w : Claim) (s : ℕ) : Type 0 where
  pub room : (c : Claim) → c ∈ ps → rival c w ≡ true → Room v w s c
  pub spare : Spare v ps w s
