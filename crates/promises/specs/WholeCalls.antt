-- The sentences of document 01, "What each call does", and of document 02, P3, on order, packing, placing and granting, of whole calls: of the
-- table m before a timed call that is accepted and the table after it. (What is answered beside, what lookups tell and what a refused call leaves
-- is said of runs.) proofs/WholeCalls has them for every table that calls can make.
use Rattle.std.specs.Prelude.{◌≡◌, ◌⊎◌, ◌≢◌, true, false, ◌&&◌, cond, List, [], ◌∷◌, ◌++◌, map, ℕ, ◌+◌, ◌-◌, ◌*◌, ◌≤◌, ◌<◌, ltb, eqb, length as count}
use Rattle.rules.specs.declared.Claim.{Claim}
use Rattle.rules.specs.declared.Phase.TheVariants.{On}
use Rattle.rules.specs.declared.Request.{Request}
use Rattle.rules.specs.Lists.{◌∈◌, greatest, sum, any, keep}
use Rattle.rules.specs.Claims.{on, at, with_phase, end_of, remaining}
use Rattle.rules.specs.Order.{precedes, rivals}
use Rattle.rules.specs.Packing.{moved, Packs}
use Rattle.rules.specs.Plans.{Fits}
use Rattle.rules.specs.Pool.{held_by}
use Rattle.rules.specs.Calls.{Model, ruled, setting_of, Action, claims, releases, withdraws, moves_clock, timed, clock, Step, advance, remove, step}
use Rattle.promises.specs.Ledger.{Steps}

-- The claim c of the table m is the claim d of the table n: tickets tell.
pub record Becomes (m n : Model) (c d : Claim) : Type 0 where
  pub old : c ∈ m.pending
  pub new : d ∈ n.pending
  pub same : d.ticket ≡ c.ticket

-- The units of d that w cannot have: those that d holds, but where this call granted them to d after the turn of w.
abbrev pub kept_from : List ℕ → Claim → Claim → ℕ
kept_from grants w d = cond (ltb w.ticket d.ticket && any (λ k. eqb k d.ticket) grants) 0 (held_by d)

-- Every accepted timed call, at clock t. s is the call's step.
pub record TimedCall (m : Model) (t : ℕ) (s : Step) : Type 0 where
  -- "first sets the clock"
  pub clock_set : s.model.clock ≡ t
  -- "Each gets the least start, not below the clock, that comes after the conflicting claims preceding it and leaves units enough beside
  -- the on claims and those already packed."
  pub starts_packed : Packs (setting_of s.model) s.model.pending at
  -- For a claim that draws no units that is document 01's: "Each waiting claim's planned start becomes the greatest of the clock and the ends
  -- of the claims that precede it."
  pub starts_documented : (w : Claim) → w ∈ s.model.pending → on w ≡ false → w.units ≡ 0
      → at w ≡ greatest (end_of (setting_of s.model)) t (keep (λ c. precedes c w) s.model.pending)
  -- "Of two conflicting waiting claims the one with the smaller planned start precedes. Packing never changes this", and granting neither:
  -- what precedes a waiting claim w before the call precedes it after, for as long as both are pending, and w still waits.
  pub none_overtaken : (d d' w w' : Claim) → Becomes m s.model d d' → Becomes m s.model w w' → on w ≡ false → precedes d w ≡ true
      → (on w' ≡ false) × (precedes d' w' ≡ true)
  -- "a claim goes on when its start is the clock, no claim precedes it and its units are truly free after the grants before it": all that go
  -- on start at the clock, so the grants before it are those of lower tickets. Who stays where nobody precedes it wanted units.
  pub units_wanting : (w : Claim) → w ∈ s.model.pending → on w ≡ false → at w ≡ t → ((d : Claim) → d ∈ s.model.pending → precedes d w ≡ false)
      → s.model.pool < sum (kept_from s.answer.grants w) s.model.pending + w.units
  -- For a claim that draws none that is document 01's: "Every waiting claim that no pending claim precedes goes on at the call's clock."
  pub grants_documented : (w : Claim) → w ∈ s.model.pending → on w ≡ false → w.units ≡ 0 → (d : Claim) × d ∈ s.model.pending × (precedes d w ≡ true)

-- "first sets the clock and packs the waiting claims": what the other records call `advance m t`. "Packing takes waiting claims by start,
-- then ticket": by the starts that they have in m.
pub record FirstPacking (m : Model) (t : ℕ) : Type 0 where
  pub starts : Claim → ℕ
  pub packs : Packs (ruled m t) m.pending starts
  pub packed : (advance m t).pending ≡ map (moved starts) m.pending
  -- No other starts are so.
  pub no_other : (f : Claim → ℕ) → Packs (ruled m t) m.pending f → (w : Claim) → w ∈ m.pending → on w ≡ false → f w ≡ starts w

-- A packed claim x is d after the call: as it was, or granted at the start that it had.
abbrev pub Stays : ℕ → Claim → Claim → Type 0
Stays t x d = (d ≡ x) ⊎ ((on x ≡ false) × (at x ≡ t) × (d ≡ with_phase x (On t)))

-- An accepted claim. `step` is how calls are run.
pub record ClaimCall (step : Steps) (m : Model) (t : ℕ) (ask : Request) (s : Step) : Type 0 where
  -- The new claim, as it stands after the call.
  pub new : Claim
  pub groups : new.groups ≡ ask.groups
  pub length : new.length ≡ ask.length
  pub units : new.units ≡ ask.units
  pub client : new.client ≡ ask.client
  -- "The answer is ticket, start, ..": it waits at that start, or was granted at it.
  pub ticket : new.ticket ≡ s.answer.ticket
  pub start : at new ≡ s.answer.start
  -- "The planned start is the least s, not below the clock, such that for each conflicting on claim s ≥ its end, and for each conflicting
  -- waiting claim either s ≥ its end or s + length ≤ its planned start", with "units enough beside all planned holds": of all numbers, and
  -- not of the candidates alone.
  pub from_clock : t ≤ s.answer.start
  pub fits : Fits (ruled m t) (advance m t).pending new s.answer.start
  pub least : (x : ℕ) → t ≤ x → Fits (ruled m t) (advance m t).pending new x → s.answer.start ≤ x
  -- "Crowd is the number of pending claims that conflict with it. Ceiling is clock + the sum, over those, of remaining time .. + crowd ×
  -- (length − 1)."
  pub contention_counted : s.answer.contention ≡ count (rivals (advance m t).pending new)
  pub bound_counted : (let rs = rivals (advance m t).pending new in
      s.answer.bound ≡ t + sum (remaining (ruled m t)) rs + count rs * (ask.length - 1))
  -- It pushes none back: the others stand as after a call that only sets the clock.
  pub others_same : s.model.pending ≡ (step m (clock t)).model.pending ++ (new ∷ [])

-- An accepted release or withdrawal of ticket k.
pub record LeaveCall (m : Model) (t k : ℕ) (s : Step) : Type 0 where
  -- "packs again": by the starts that the first packing gave, then ticket. So what is set free is theirs who stand first.
  pub starts : Claim → ℕ
  pub packs : Packs (ruled m t) (remove (advance m t) k).pending starts
  pub pulled_forward : (x : Claim) → x ∈ (advance m t).pending → x.ticket ≢ k → on x ≡ false → starts x ≤ at x
  -- All but ticket k stay, at those starts, or granted there; and nobody else is pending.
  pub all_stay : (x : Claim) → x ∈ (advance m t).pending → x.ticket ≢ k → (d : Claim) × d ∈ s.model.pending × Stays t (moved starts x) d
  pub none_else : (d : Claim) → d ∈ s.model.pending → (x : Claim) × x ∈ (advance m t).pending × (x.ticket ≢ k) × Stays t (moved starts x) d

-- A clock call: all stay where the first packing put them, or are granted there.
pub record ClockCall (m : Model) (t : ℕ) (s : Step) : Type 0 where
  pub all_stay : (x : Claim) → x ∈ (advance m t).pending → (d : Claim) × d ∈ s.model.pending × Stays t x d
  pub none_else : (d : Claim) → d ∈ s.model.pending → (x : Claim) × x ∈ (advance m t).pending × Stays t x d

-- "then acts"
abbrev pub Acts : Steps → Model → ℕ → Action → Step → Type 0
Acts step m t (claims ask) s = ClaimCall step m t ask s
Acts step m t (releases k) s = LeaveCall m t k s
Acts step m t (withdraws k) s = LeaveCall m t k s
Acts step m t moves_clock s = ClockCall m t s

-- Of a table and every timed call of it, by `step`.
pub record WholeCallsOf (step : Steps) (m : Model) : Type 0 where
  pub of_packing : (t : ℕ) → FirstPacking m t
  pub of_timed : (t : ℕ) (x : Action) → (step m (timed t x)).answer.number ≡ 0 → TimedCall m t (step m (timed t x)) × Acts step m t x (step m (timed t x))

abbrev pub WholeCalls : Model → Type 0
WholeCalls m = WholeCallsOf step m
