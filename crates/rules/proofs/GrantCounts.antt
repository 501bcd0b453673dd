-- How many tickets a call names as granted: no more than are then pending, and over calls no more than were issued, since a claim is
-- granted once.
use mathlib.Core.Path.{◌≡◌, refl}
use mathlib.Core.Bool.{Bool, not, cond}
use mathlib.Core.List.{List, [], ◌∷◌, ◌++◌, map}
use Prim.Native.Nat.{ℕ, ◌+◌, ◌-◌, ◌≤◌}
use native.Mathlib.Omega.{arith}
use lib.ListN.{length, length-map}
use Rattle.rules.specs.declared.Claim.{Claim}
use Rattle.rules.specs.declared.Request.{Request}
use Rattle.rules.specs.Lists.{sum, keep}
use Rattle.rules.specs.declared.Setting.{Setting}
use Rattle.rules.specs.Claims.{on}
use Rattle.rules.specs.Packing.{packed_start, moved, pack}
use Rattle.rules.specs.Granting.{goes, granted, grant, grants}
use Rattle.rules.specs.Tests.{named}
use Rattle.rules.specs.declared.Reply.{Reply}
use Rattle.rules.specs.Calls.{Model, setting_of, ruled, Call, Step, unchanged, advance, declared, with_grace, plain, finish, join, remove, admit, step, blank, new}
use Rattle.rules.proofs.Bools.{by-test}
use Rattle.rules.proofs.Lists.{keep-length}
use Rattle.rules.proofs.Packing.{moved-phase}
use Rattle.rules.proofs.Granting.{goes-wait, granted-cases}
use Rattle.rules.proofs.Calls.{placed, Leaves, by-release, by-withdraw, by-clock, step-cases, new-cases}

-- 1 for a claim that waits.
abbrev waits : Claim → ℕ
waits c = cond (on c) 0 1

-- How many claims wait.
unfoldable pub waiting_in : List Claim → ℕ
waiting_in ps = sum waits ps

unfoldable pub waiting : Model → ℕ
waiting m = waiting_in m.pending

pub waiting_none : (g k : ℕ) (alone : Bool) → waiting (blank g k alone) ≡ 0
unfolding waiting waiting_in sum
waiting_none g k alone = refl

waiting-map : (f : Claim → Claim) → ((c : Claim) → on (f c) ≡ on c) → (ps : List Claim) → waiting_in (map f ps) ≡ waiting_in ps
unfolding waiting_in sum
waiting-map f e [] = omega arith
waiting-map f e (c ∷ ps) = rw (e c) (omega (arith, waiting-map f e ps))

waiting-pack : (v : Setting) (ps : List Claim) → waiting_in (pack v ps) ≡ waiting_in ps
unfolding pack
waiting-pack v ps = waiting-map (moved (packed_start v ps)) (moved-phase (packed_start v ps)) ps

waiting-keep : (p : Claim → Bool) (ps : List Claim) → waiting_in (keep p ps) ≤ waiting_in ps
unfolding waiting_in sum keep
waiting-keep p [] = omega arith
waiting-keep p (c ∷ ps) = let h = waiting-keep p ps in by-test (p c) (λ e. rw e (omega arith)) (λ e. rw e (omega arith))

waiting-snoc : (ps : List Claim) (w : Claim) → waiting_in (ps ++ (w ∷ [])) ≤ waiting_in ps + 1
unfolding waiting_in sum
waiting-snoc [] w = by-test (on w) (λ e. rw e (omega arith)) (λ e. rw e (omega arith))
waiting-snoc (c ∷ ps) w = omega (arith, waiting-snoc ps w)

-- What goes on waits no longer.
waiting-grant : (v : Setting) (qs ps : List Claim) → length (keep (goes v qs) ps) + waiting_in (map (granted v qs) ps) ≤ waiting_in ps
unfolding waiting_in sum keep
waiting-grant v qs [] = omega arith
waiting-grant v qs (c ∷ ps) =
    let h = waiting-grant v qs ps in
    granted-cases (λ (x : Claim). length (keep (goes v qs) (c ∷ ps)) + (waits x + sum waits (map (granted v qs) ps)) ≤ waits c + sum waits ps) v qs c
    (λ g. rw (g, goes-wait v qs c g) (omega arith)) (λ g. rw g (omega arith))

-- A step from the table m.
pub record Counted (m : Model) (s : Step) : Type 0 where
  -- No more are named than are then pending.
  pub few : length s.answer.grants ≤ length s.model.pending
  -- Those named, and those that still wait, waited before or were issued by the call.
  pub once : length s.answer.grants + waiting s.model ≤ waiting m + (s.model.issued - m.issued)
  -- A call issues one ticket at most.
  pub issues_few : s.model.issued - m.issued ≤ 1

module _ (m : Model) where
  finish-counted : (q : Model) (r : Reply) → waiting q ≤ waiting m + (q.issued - m.issued) → q.issued - m.issued ≤ 1 → Counted m (finish q r)
  unfolding waiting finish grant grants
  finish-counted q r h i =
      let v = setting_of q in
      let ps = pack v q.pending in
      let l = length-map (keep (goes v ps) ps) (λ (c : Claim). c.ticket) in
      record {
        few = omega (arith, l, length-map ps (granted v ps), keep-length (goes v ps) ps);
        once = omega (arith, l, waiting-grant v ps ps, waiting-pack v q.pending);
        issues_few = i;
      }

  waiting-advance : (t : ℕ) → waiting (advance m t) ≡ waiting m
  unfolding waiting advance
  waiting-advance t = waiting-pack (ruled m t) m.pending

  waiting-left : {c : Call} {t k : ℕ} {q : Model} → Leaves m c t k q → (waiting q ≤ waiting m) × (q.issued ≡ m.issued)
  unfolding waiting advance remove
  waiting-left (by-release t k) = (omega (arith, waiting-keep (λ c. not (named k c)) (advance m t).pending, waiting-advance t), refl)
  waiting-left (by-withdraw t k) = (omega (arith, waiting-keep (λ c. not (named k c)) (advance m t).pending, waiting-advance t), refl)
  waiting-left (by-clock t) = (omega (arith, waiting-advance t), refl)

  admit-counted : (t : ℕ) (ask : Request) → Counted m (admit (advance m t) ask)
  unfolding waiting admit join advance
  admit-counted t ask =
      let q = advance m t in
      finish-counted (join q (placed q ask)) _ (omega (arith, waiting-snoc q.pending (placed q ask), waiting-advance t)) (omega arith)

  declare-counted : (c r l : ℕ) → Counted m (unchanged (declared m c r l) 0)
  unfolding waiting
  declare-counted c r l = record { few = omega arith; once = omega arith; issues_few = omega arith }

  grace-counted : (n : ℕ) → Counted m (unchanged (with_grace m n) 0)
  unfolding waiting
  grace-counted n = record { few = omega arith; once = omega arith; issues_few = omega arith }

  pub step-counted : (c : Call) → Counted m (step m c)
  step-counted c =
      step-cases (λ d s. Counted m s) m
      (λ d n z. record { few = omega arith; once = omega arith; issues_few = omega arith })
      (λ t ask a. admit-counted t ask)
      (λ d t k q o v. let l = waiting-left v in finish-counted q (plain k t) (omega (arith, l.0)) (omega (arith, l.1)))
      (λ c r l d. declare-counted c r l) (λ n d. grace-counted n) c

  -- A new table has nothing pending.
  pub new-counted : (g k : ℕ) (alone : Bool) → Counted m (new g k alone)
  unfolding waiting waiting_in sum
  new-counted g k alone = new-cases (Counted m) g k alone (λ e. none) (λ e. none)
    where
      none : {x k n : ℕ} → Counted m (unchanged (blank x k alone) n)
      none = record { few = omega arith; once = omega arith; issues_few = omega arith }
