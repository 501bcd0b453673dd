-- Units held stay within the pool, and with those free they make it, after any calls: the invariant of the table, read in the ledger.
use mathlib.Core.Path.{◌≡◌, ◌∙◌, ap}
use mathlib.Core.Bool.{Bool, cond}
use mathlib.Core.List.{List}
use Prim.Native.Nat.{ℕ}
use native.Mathlib.Omega.{arith}
use Rattle.rules.specs.declared.Claim.{Claim}
use Rattle.rules.specs.Pool.{held_by, held_units, free_units}
use Rattle.rules.specs.Calls.{Model, Call}
use Rattle.promises.specs.Ledger.{Entry, Ledger}
use Rattle.promises.specs.Runs.{tells, Start, Begins}
use Rattle.promises.specs.PoolKept.{Kept, PoolKept}
use Rattle.promises.proofs.Matching.{match-sum}
use Rattle.promises.proofs.Demand3.{Tracks, Story, after-calls}

held-is : (P : Type 0) (c : Claim) (e : Entry) → Tracks P c e → held_by c ≡ cond e.held e.asked.units 0
held-is P c e r = ap (λ (b : Bool). cond b c.units 0) r.held ∙ ap (λ (n : ℕ). cond e.held n 0) r.units

kept_of : (P : Type 0) (l : Ledger) (m : Model) → Story P l m → Kept l (tells m)
unfolding held_units free_units
kept_of P l m s =
    let h = match-sum held_by (λ (e : Entry). cond e.held e.asked.units 0) (λ c e _. held-is P c e) s.match in
    let i = s.inv.spaced.holders.stock in
    record { never_more = omega (arith, s.pool); free_and_held = omega (arith, s.pool) }

pub pool_kept : (s : Start) → Begins s → (calls : List Call) → PoolKept s calls
pool_kept s b calls before rest e = kept_of _ _ _ (after-calls s b before)
