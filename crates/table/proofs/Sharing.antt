-- The tests 6 and 18 by what is counted: from what the code found to what the rules give.
use Rattle.std.proofs.Common.{Some, is_some}
use Rattle.rules.specs.declared.Share.{Share}
use mathlib.Core.Path.{◌≡◌, refl, sym, ◌∙◌, ap}
use mathlib.Core.Logic.{◌≢◌}
use mathlib.Core.Bool.{true}
use mathlib.Core.List.{List, [], ◌∷◌}
use Prim.Native.Nat.{ℕ, ◌-◌, ◌≤◌, ◌<◌}
use native.Mathlib.Omega.{arith}
use lib.ListN.{length, length-map, get_or}
use borrow.Author.Tests.{leb-true}
use Rattle.numbers.specs.Numbers.{full_number}
use Rattle.rules.specs.declared.Claim.{Claim}
use Rattle.rules.specs.Shares.{reserved_of, share_of, pending_of, unfilled_by_others, unfilled_in_all}
use Rattle.rules.specs.Tests.{Test, first_number, full, full_for, over}
use Rattle.rules.specs.Calls.{Model, clients_of, full_to, over_of}
use Rattle.rules.proofs.Bools.{by-test}
use Rattle.rules.proofs.Tests.{fails-here, front, passes, past, swapped}
use Rattle.rules.proofs.Shares.{declared-range, pending-few, full-by-all, full-for-all, below-not-full, below-not-over}
use Rattle.table.specs.Counts.{pending_each, unfilled_each, number_counted}
use Rattle.table.specs.Outcomes.{share_number}
use Rattle.table.specs.Valid.{Valid}
use Rattle.table.proofs.Counting.{each_at, each-unfilled}

-- The clients of the pending claims; as many as there are claims.
abbrev theirs : Model → List ℕ
theirs m = clients_of m.pending

many : (m : Model) → length (theirs m) ≡ length m.pending
many m = length-map m.pending (λ (c : Claim). c.client)

-- As the code has them, by what was counted.
pub number_is : (m : Model) (c : ℕ) (s : Share) → Valid m → share_of m.shares c ≡ Some s → (each : List ℕ) → each ≡ pending_each (clients_of m.pending)
    → number_counted m.shares each (length m.pending) (get_or each (c - 1) 0) (Some s) ≡ share_number m c
unfolding number_counted share_number
number_is m c t v known each e =
    let n = length m.pending in
    let r = declared-range m.shares v.booked.eight c (ap is_some known) in
    let own : get_or each (c - 1) 0 ≡ pending_of (theirs m) c = ap (λ (l : List ℕ). get_or l (c - 1) 0) e ∙ each_at (theirs m) c r.0 r.1 in
    let all : unfilled_each m.shares each ≡ unfilled_in_all m.shares (theirs m) = ap (unfilled_each m.shares) e ∙ each-unfilled m.shares (theirs m) in
    let s : Some t ≡ share_of m.shares c = sym known in
    let first = full_for (Some t) (get_or each (c - 1) 0) n (unfilled_each m.shares each) in
    let last = over (Some t) (get_or each (c - 1) 0) in
    let a : first.fails ≡ (full_for (share_of m.shares c) (pending_of (theirs m) c) n (unfilled_in_all m.shares (theirs m))).fails = cc (s, own, all) in
    let b : last.fails ≡ (over_of m c).fails = cc (s, own) in
    swapped first (full_to m c) (last ∷ []) (a ∙ full-by-all m.shares (theirs m) c n r.0 r.1) refl
    ∙ front (full_to m c) (last ∷ []) (over_of m c ∷ []) (swapped last (over_of m c) [] b refl)

-- Where all places are taken there is none for anybody.
pub full-shut : (m : Model) (c : ℕ) → Valid m → (full (length m.pending)).fails ≡ true → full_number ≡ share_number m c
unfolding share_number
full-shut m c v e =
    fails-here (full_to m c) _ refl
    (ap (λ n. (full_for (share_of m.shares c) (pending_of (theirs m) c) n (unfilled_by_others m.shares (theirs m) c)).fails) (sym (many m))
    ∙ full-for-all m.shares (theirs m) c v.booked (omega (arith, leb-true 64 (length m.pending) e, many m)))

-- With fewer claims pending in all than are reserved for it, a client has a place.
pub below_none : (m : Model) (c : ℕ) → Valid m → length m.pending < reserved_of (share_of m.shares c) → 0 ≡ share_number m c
unfolding share_number first_number
below_none m c v l =
    let few : pending_of (theirs m) c < reserved_of (share_of m.shares c) = omega (arith, pending-few (theirs m) c, many m) in
    sym (rw (
      below-not-full (share_of m.shares c) (pending_of (theirs m) c) (length m.pending) (unfilled_by_others m.shares (theirs m) c) few,
      below-not-over m.shares (theirs m) c v.booked few,
    ))

-- ── two tests in front of others ──
pub two-fail : (x y : Test) (ts : List Test) {n : ℕ} → n ≡ first_number (x ∷ y ∷ []) → n ≢ 0 → n ≡ first_number (x ∷ y ∷ ts)
unfolding first_number
two-fail x y ts e z =
    by-test x.fails (λ a. e ∙ rw a) (λ a. by-test y.fails (λ b. e ∙ rw (a, b)) (λ b. absurd (z (e ∙ rw (a, b)))))

pub two-pass : (x y : Test) (ts : List Test) {k : ℕ} → 1 ≤ x.number → 1 ≤ y.number → first_number (x ∷ y ∷ []) ≡ 0 → k ≡ first_number ts → k ≡ first_number (x ∷ y ∷ ts)
two-pass x y ts p q e h =
    let a = passes x (y ∷ []) p e in
    let b = passes y [] q a.1 in
    past x (y ∷ ts) a.0 (past y ts b.0 h)
