-- The lowest ticket that is on: claims in ascending order of ticket, of which the first that is on has it.
use mathlib.Core.Path.{◌≡◌, refl, sym, ap}
use mathlib.Core.Bool.{true}
use mathlib.Core.List.{List, [], ◌∷◌}
use Prim.Native.Nat.{ℕ, ◌≤◌}
use native.Mathlib.Omega.{arith}
use Rattle.std.specs.Prelude.{Some}
use Rattle.std.specs.List.{find}
use Rattle.std.specs.Option.{option_map}
use Rattle.rules.specs.declared.Claim.{Claim}
use Rattle.rules.specs.Lists.{keep, least}
use Rattle.rules.specs.Claims.{on}
use Rattle.rules.specs.Plans.{Ascending}
use Rattle.rules.specs.Calls.{Model}
use Rattle.rules.proofs.Bools.{by-test}
use Rattle.rules.proofs.Lists.{Each, keep-e, map-e, least_under, least-low}
use Rattle.generator.specs.Workload.{tickets_on, lowest_of, lowest_on}

least_first : (d : ℕ) (l : List ℕ) → Each (λ n. d ≤ n) l → least (λ n. true) d l ≡ d
least_first d l h = let a = least_under (λ n. true) d l in let b = least-low (λ n. true) d d l (omega arith) h in omega arith

-- Of claims in ascending order of ticket.
first_on : (c : Claim) (ps : List Claim) → Ascending (c ∷ ps) → lowest_of (c.ticket ∷ tickets_on ps) ≡ Some c.ticket
first_on c ps a = ap Some (least_first c.ticket (tickets_on ps) (λ n m.
    let x = map-e (λ (y : Claim). y.ticket) (keep on ps) m in
    let l = a.0 x.0 (keep-e on ps x.1).0 in
    let q = x.2 in
    omega arith))

first_lowest : (ps : List Claim) → Ascending ps → option_map (λ (c : Claim). c.ticket) (find on ps) ≡ lowest_of (tickets_on ps)
unfolding keep
first_lowest [] a = refl
first_lowest (c ∷ ps) a = by-test (on c) (λ e. rw e (sym (first_on c ps a))) (λ e. rw e (first_lowest ps a.1))

pub lowest-is : (m : Model) → Ascending m.pending → option_map (λ (c : Claim). c.ticket) (find on m.pending) ≡ lowest_on m
unfolding lowest_on
lowest-is m a = first_lowest m.pending a
