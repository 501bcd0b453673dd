-- "The planned start is the least s, not below the clock, such that for each conflicting on claim s ≥ its end, and for each conflicting waiting
-- claim either s ≥ its end or s + length ≤ its planned start", and "a start must leave, over the whole hold, units enough beside all planned
-- holds" (document 02, P3): of every accepted claim of a run, beside the others as ledger and lookups tell them after it, where they stand as if
-- it were not there. Beside demand 3. proofs/LeastStart has the theorem.
use Rattle.std.specs.Prelude.{◌≡◌, ◌⊎◌, true, List, ℕ, ◌+◌, ◌≤◌}
use Rattle.groups.specs.Groups.{shares}
use Rattle.rules.specs.declared.Request.{Request}
use Rattle.rules.specs.declared.Standing.TheVariants.{Waits}
use Rattle.rules.specs.Lists.{◌∈◌}
use Rattle.rules.specs.Calls.{at_ticket, Call, claim, Answer, step}
use Rattle.promises.specs.Ledger.{Turn, Steps, Entry, lacking, Ledger, noted}
use Rattle.promises.specs.Runs.{Told, Start, AtAnyCall}
use Rattle.promises.specs.Plan.{end_told, SpareTold}
use Rattle.promises.specs.StartsPacked.{Packed}

-- A claim e leaves room for a hold of what is asked for, from x on.
abbrev pub RoomTold : Ledger → Told → Request → ℕ → Entry → Type 0
RoomTold l told ask x e = (end_told l told e ≤ x) ⊎ ((s : ℕ) × (told (at_ticket e.ticket) ≡ Waits s) × (x + ask.length ≤ s))

-- That hold fits beside these claims.
pub record FitsBeside (l : Ledger) (told : Told) (es : List Entry) (ask : Request) (x : ℕ) : Type 0 where
  pub room : (e : Entry) → e ∈ es → shares e.asked.groups ask.groups ≡ true → RoomTold l told ask x e
  pub spare : SpareTold l told es ask x

-- The answer to a claim at clock u, beside the others in the ledger l after it.
pub record LeastOf (l : Ledger) (told : Told) (u : ℕ) (ask : Request) (a : Answer) : Type 0 where
  pub from_clock : u ≤ a.start
  pub fits : FitsBeside l told (lacking a.ticket l.claims) ask a.start
  pub least : (x : ℕ) → u ≤ x → FitsBeside l told (lacking a.ticket l.claims) ask x → a.start ≤ x
  -- And those others are packed as if it were not there: it pushes none back.
  pub others_packed : Packed l told (lacking a.ticket l.claims)

abbrev pub Least : Ledger → Turn → Told → Told → Type 0
Least l t before after = (u : ℕ) (ask : Request) → t.call ≡ claim u ask → t.answer.number ≡ 0 → LeastOf (noted l t) after u ask t.answer

abbrev pub LeastStartOf : Steps → Start → List Call → Type 0
LeastStartOf step s calls = AtAnyCall step s calls Least

abbrev pub LeastStart : Start → List Call → Type 0
LeastStart s calls = LeastStartOf step s calls
