-- What a record does; the number by which one ends the load; and where a loop over the records stands.
use mathlib.Core.Path.{◌≡◌, refl}
use mathlib.Core.Bool.{Bool, ◌&&◌, ◌||◌}
use mathlib.Core.List.{List}
use mathlib.Core.Logic.{◌≢◌}
use Prim.Native.Nat.{ℕ, ◌+◌, ◌≤◌, ◌<◌}
use native.Mathlib.Omega.{arith}
use lib.ListN.{length}
use lib.Dec.{leb, eqb}
use borrow.Author.Tests.{ne_eqb, leb-true}
use Rattle.numbers.specs.Numbers.{dark_number, edition_number, overlong_number}
use Rattle.rules.specs.Calls.{Model, Call as TableCall, Step, finish, admit, step}
use Rattle.rules.proofs.Calls.{step-cases, new-cases}
use Rattle.table.proofs.Promised.{Promised, by_call, by-new}
use Rattle.format.specs.declared.Call.{Call}
use Rattle.format.specs.Records.{Record}
use Rattle.load.specs.Answers.{one_record}
use Rattle.load.specs.Reading.{item_at}
use Rattle.format.proofs.Format.{either}
use Rattle.load.proofs.Reading.{step-next}
use Rattle.replay.specs.Records.{says_call, step_of, ending}

-- ── one record ──
-- What a record does is what a call promises.
pub record-promised : (alone : Bool) (m : Model) (r : Record) → Promised m (step_of alone m r)
unfolding step_of
record-promised alone m r =
    let c = r.call in
    either (eqb c.kind 1) (λ e. rw e (by-new c.groups c.pool alone)) (λ e. rw e (by_call (says_call r)))

-- ── the number by which a record ends the load ──
-- It is what the record is answered.
pub ending-is : (k n : ℕ) → ending k n ≢ 0 → ending k n ≡ n
unfolding ending
ending-is k n h =
    either (leb edition_number n && leb n overlong_number || eqb n dark_number && eqb k 1) (λ p. rw p refl) (λ p. absurd (h (rw p refl)))

-- Behind the rig it is 11 at least.
ending-late : (k n : ℕ) → k ≢ 1 → ending k n ≢ 0 → edition_number ≤ n
unfolding ending
ending-late k n l h =
    either (leb edition_number n) (λ p. leb-true edition_number n p)
    (λ p. either (eqb n dark_number) (λ q. absurd (h (rw (p, q, ne_eqb k 1 l) refl))) (λ q. absurd (h (rw (p, q) refl))))

-- A call that is turned down leaves the table.
refused-keeps : (m : Model) (c : TableCall) → (step m c).answer.number ≢ 0 → (step m c).model ≡ m
unfolding admit finish
refused-keeps m =
    step-cases (λ c s. s.answer.number ≢ 0 → s.model ≡ m) m (λ c n i h. refl) (λ t ask a h. absurd (h refl)) (λ c t j q o v h. absurd (h refl))
    (λ c r l d h. absurd (h refl)) (λ n d h. absurd (h refl))

-- So does a record that ends the load behind the rig: a rig is answered 1 at most.
pub ending-keeps : (alone : Bool) (m : Model) (r : Record) (k : ℕ) → k ≢ 1 → ending k (step_of alone m r).answer.number ≢ 0 → (step_of alone m r).model ≡ m
unfolding step_of
ending-keeps alone m r k l h =
    let c = r.call in
    let late = ending-late k (step_of alone m r).answer.number l h in
    either (eqb c.kind 1)
    (λ e. absurd (new-cases (λ (s : Step). edition_number ≤ s.answer.number → ⊥) c.groups c.pool alone (λ d b. omega arith) (λ d b. omega arith) (rw e at late)))
    (λ e. rw e (refused-keeps m (says_call r) (λ z. omega (arith, rw e at late))))

-- ── a loop over the records ──
-- It stands before record k, at a position.
pub record Reached (at k : ℕ) : Type 0 where
  pub inside : at ≤ 65536
  pub some : 0 < k
  pub few : k ≤ at

pub reached-start : Reached 1 1
reached-start = record { inside = omega arith; some = omega arith; few = omega arith }

pub reached-more : (s : List ℕ) (at k : ℕ) → Reached at k → length s ≤ 65536 → (c : Call) (next : ℕ) → item_at s at ≡ one_record c next → Reached next (k + 1)
reached-more s at k w l c next e =
    let i = step-next s at c next e in
    record { inside = omega (arith, i.1); some = omega arith; few = omega (arith, i.0, w.few) }
