-- Client 1 alone: tables as loads of editions 1 and 2 make them, "with desk 1 declared, guarantee and limit 64" (document 02, P4), and nobody else. Then a
-- claim is tested as document 01 says: 6 comes as there, and 18 never. proofs/OneClient has it for every such run (`alone-as-ever`).
use Rattle.std.specs.Prelude.{◌≡◌, ◌≢◌, true, List, [], ◌∷◌, ℕ, length}
use Rattle.numbers.specs.Numbers.{over_number}
use Rattle.rules.specs.declared.Claim.{Claim}
use Rattle.rules.specs.declared.Request.{Request}
use Rattle.rules.specs.Lists.{◌∈◌}
use Rattle.rules.specs.Shares.{first_shares}
use Rattle.rules.specs.Tests.{Test, first_number, late, backward, dark, nothing_asked, off_rig, spots, bad_length, full, ticketless}
use Rattle.rules.specs.Calls.{Model, declares, sets_grace, Call, timed, looks, sets_up, claim, tests, step}

-- The call declares nobody.
abbrev pub CallDeclaresNone : Call → Type 0
CallDeclaresNone (timed t x) = Unit {0}
CallDeclaresNone (looks q) = Unit {0}
CallDeclaresNone (sets_up (declares c r l)) = ⊥
CallDeclaresNone (sets_up (sets_grace n)) = Unit {0}

-- Nor does any accepted call of the list, made from table m on.
abbrev pub DeclaresNone : Model → List Call → Type 0
DeclaresNone m [] = Unit {0}
DeclaresNone m (c ∷ cs) = ((step m c).answer.number ≡ 0 → CallDeclaresNone c) × DeclaresNone (step m c).model cs

-- "A claim is tested in the order 5, 4, 1, 2, 3, 6, 7": document 01's, and with "16 .. after 2" those of a table with a pool.
abbrev pub documented_tests : Model → ℕ → Request → List Test
documented_tests m t ask =
    late t ∷ backward m.clock t ∷ dark ask.groups ∷ off_rig m.rig ask.groups ∷ bad_length ask.length
    ∷ full (length m.pending) ∷ ticketless m.issued ∷ []

abbrev pub pooled_tests : Model → ℕ → Request → List Test
pooled_tests m t ask =
    late t ∷ backward m.clock t ∷ nothing_asked ask.groups ask.units ∷ off_rig m.rig ask.groups ∷ spots m.pool ask.units
    ∷ bad_length ask.length ∷ full (length m.pending) ∷ ticketless m.issued ∷ []

-- A table of client 1 alone.
pub record Alone (m : Model) : Type 0 where
  pub declared : m.shares ≡ first_shares true
  pub own : (c : Claim) → c ∈ m.pending → c.client ≡ 1

-- What it makes of a claim.
pub record TestsAsEver (m : Model) : Type 0 where
  pub pooled : (t : ℕ) (ask : Request) → ask.client ≡ 1 → first_number (tests m (claim t ask)) ≡ first_number (pooled_tests m t ask)
  pub documented : (t : ℕ) (ask : Request) → ask.client ≡ 1 → ask.units ≡ 0 → first_number (tests m (claim t ask)) ≡ first_number (documented_tests m t ask)
  pub never_over : (t : ℕ) (ask : Request) → (step m (claim t ask)).answer.number ≢ over_number
