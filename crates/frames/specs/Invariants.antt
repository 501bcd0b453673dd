-- What holds of a frame table between calls. proofs/Calls: `new` gives it, and every call keeps it.
use Rattle.std.specs.Prelude.{◌≡◌, ◌≢◌, true, List, ℕ, ◌≤◌}
use Rattle.groups.specs.Groups.{shares}
use Rattle.rules.specs.Lists.{◌∈◌, Ascends}
use Rattle.frames.specs.declared.Claim.{Claim}
use Rattle.frames.specs.Calls.{Model}

abbrev pub ticket_of : Claim → ℕ
ticket_of c = c.ticket

-- No two claims of a row share a group.
abbrev pub RowsApart : List Claim → Type 0
RowsApart ps = (c d : Claim) → c ∈ ps → d ∈ ps → c.ticket ≢ d.ticket → c.row ≡ d.row → shares c.groups d.groups ≡ true → ⊥

-- Every row from r on up to that of a claim has a claim.
abbrev pub NoGaps : ℕ → List Claim → Type 0
NoGaps r ps = (c : Claim) → c ∈ ps → (j : ℕ) → r ≤ j → j ≤ c.row → (d : Claim) × d ∈ ps × (d.row ≡ j)

pub record Invariant (m : Model) : Type 0 where
  pub ascending : Ascends ticket_of m.pending
  pub issued : (c : Claim) → c ∈ m.pending → (1 ≤ c.ticket) × (c.ticket ≤ m.issued)
  pub apart : RowsApart m.pending
  pub filled : NoGaps 0 m.pending
