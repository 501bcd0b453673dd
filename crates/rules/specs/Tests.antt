-- What calls are tested for. A test takes what it looks at, so that another kind of table can use it. Quotations are from document 01.
use Rattle.std.specs.Prelude.{Bool, not, ◌&&◌, ◌||◌, cond, List, [], ◌∷◌, ℕ, ◌+◌, ltb, leb, eqb, Option, is_some}
use Rattle.numbers.specs.Numbers.{dark_number, off_rig_number, length_number, backward_number, late_number, full_number, ticketless_number, unknown_number, not_yet_on_number, already_on_number, misfit_number, spots_number, stranger_number, over_number, overbooked_number, grace_number, most_clock, most_length, most_tickets, most_pending, most_clients, most_grace}
use Rattle.groups.specs.Groups.{empty, within}
use Rattle.rules.specs.declared.Claim.{Claim}
use Rattle.rules.specs.declared.Share.{Share}
use Rattle.rules.specs.Lists.{any}
use Rattle.rules.specs.Shares.{reserved_of, limit_of}

-- A test, with the number that is given when it is true.
pub record Test : Type 0 where
  pub fails : Bool
  pub number : ℕ

abbrev pub test : Bool → ℕ → Test
test b n = record { fails = b; number = n }

-- The number of the first test that fails, or 0.
unfoldable pub first_number : List Test → ℕ
first_number [] = 0
first_number (x ∷ xs) = cond x.fails x.number (first_number xs)

-- "late: clock over 1,000,000,000,000", "backward: clock below the table's clock"
abbrev pub late : ℕ → Test
late t = test (ltb most_clock t) late_number

abbrev pub backward : ℕ → ℕ → Test
backward now t = test (ltb t now) backward_number

-- "dark: no group in the claim, or in a new rig", "off-rig: a group outside the rig"
abbrev pub dark : ℕ → Test
dark g = test (empty g) dark_number

-- "1 is now for a claim with neither group nor unit", "spots: more units than k" (document 02, P3)
abbrev pub nothing_asked : ℕ → ℕ → Test
nothing_asked g u = test (empty g && eqb u 0) dark_number

abbrev pub spots : ℕ → ℕ → Test
spots pool u = test (ltb pool u) spots_number

-- "stranger, a claim from an undeclared desk or a declaration outside 1 to 8" (document 02, P4)
abbrev pub stranger : Option Share → Test
stranger s = test (not (is_some s)) stranger_number

abbrev pub no_client : ℕ → Test
no_client c = test (eqb c 0 || ltb most_clients c) stranger_number

abbrev pub off_rig : ℕ → ℕ → Test
off_rig rig g = test (not (within g rig)) off_rig_number

-- "length: 0 or over 3,600,000"
abbrev pub bad_length : ℕ → Test
bad_length n = test (eqb n 0 || ltb most_length n) length_number

-- "full: 64 claims are pending", "ticketless: 65,535 tickets issued"
abbrev pub full : ℕ → Test
full pending = test (leb most_pending pending) full_number

-- "A desk below its guarantee never meets 6. Otherwise a claim is accepted only if pending claims plus the unfilled guarantees of the other
-- desks are below 64; else it gets 6." "over, desk at its limit" (document 02, P4): of a share and its client's own pending claims.
abbrev pub full_for : Option Share → ℕ → ℕ → ℕ → Test
full_for s own pending unfilled = test (leb (reserved_of s) own && leb most_pending (pending + unfilled)) full_number

abbrev pub over : Option Share → ℕ → Test
over s own = test (leb (limit_of s) own) over_number

-- A declaration: "after an accepted claim the table answers it 13"; "overbooked .. for guarantees adding up to over 64, a guarantee above its
-- limit, a limit over 64, or a desk declared twice" (document 02, P4). s is the share that the client has, if any, and so many places are
-- reserved in all.
abbrev pub begun : ℕ → Test
begun issued = test (ltb 0 issued) misfit_number

abbrev pub overbooked : Option Share → ℕ → ℕ → ℕ → Test
overbooked s all reserved limit =
    test (ltb most_pending (all + reserved) || (ltb limit reserved || (ltb most_pending limit || is_some s))) overbooked_number

-- "a grace over 60,000 or set after an accepted claim" (document 02, P6): of the tickets issued and the grace that is asked for.
abbrev pub bad_grace : ℕ → ℕ → Test
bad_grace issued n = test (ltb 0 issued || ltb most_grace n) grace_number

abbrev pub ticketless : ℕ → Test
ticketless issued = test (leb most_tickets issued) ticketless_number

-- "unknown: ticket not pending", "not yet on: release of a waiting claim", "already on: withdrawal of an on claim"
abbrev pub named : ℕ → Claim → Bool
named k c = eqb c.ticket k

-- Of the claims ps: whether none is the ticket's, whether the ticket's waits, whether it is on.
abbrev pub unknown : {A : Type 0} → (A → Bool) → List A → Test
unknown named ps = test (not (any named ps)) unknown_number

abbrev pub not_yet_on : {A : Type 0} → (A → Bool) → (A → Bool) → List A → Test
not_yet_on named on ps = test (any (λ c. named c && not (on c)) ps) not_yet_on_number

abbrev pub already_on : {A : Type 0} → (A → Bool) → (A → Bool) → List A → Test
already_on named on ps = test (any (λ c. named c && on c) ps) already_on_number
