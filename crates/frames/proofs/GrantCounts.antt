-- How many tickets a call names as granted: no more than are then pending, and over calls no more than were claimed, since a claim is
-- granted once. Rests on the cases of a call and of a head change.
use mathlib.Core.Path.{◌≡◌, refl, ap}
use mathlib.Core.Bool.{Bool, false, not}
use mathlib.Core.List.{List, [], ◌∷◌, ◌++◌, map}
use Prim.Native.Nat.{ℕ, suc, ◌+◌, ◌≤◌}
use native.Mathlib.Omega.{arith}
use lib.ListN.{length, length-append, length-map}
use Rattle.rules.specs.Lists.{any, keep}
use Rattle.rules.proofs.Bools.{by-test, or-fl, or-fr}
use Rattle.frames.specs.declared.Claim.{Claim}
use Rattle.frames.specs.Rows.{on, named, nearer, head_tickets}
use Rattle.frames.specs.Calls.{Model, Call, Step, unchanged, fresh, admit, lacking, remove, step, blank, new}
use Rattle.frames.proofs.Rows.{turned-cases}
use Rattle.frames.proofs.Calls.{step-cases, new-cases}

-- ── claims that wait ──
-- A claim behind the head row;
abbrev waits : Claim → Bool
waits c = not (on c)

-- how many there are among claims,
unfoldable pub waiting_in : List Claim → ℕ
waiting_in ps = length (keep waits ps)

-- and in a table.
unfoldable pub waiting : Model → ℕ
waiting m = waiting_in m.pending

-- Nobody waits in a table without claims.
pub waiting_none : (g : ℕ) → waiting (blank g) ≡ 0
unfolding waiting waiting_in keep
waiting_none g = refl

-- Each claim is on or waits;
on-or-waits : (ps : List Claim) → length (head_tickets ps) + waiting_in ps ≡ length ps
unfolding head_tickets waiting_in keep
on-or-waits [] = refl
on-or-waits (c ∷ ps) =
    let h = on-or-waits ps in
    by-test (on c) (λ e. rw e (omega (arith, h))) (λ e. rw e (omega (arith, h)))

-- with none in the head row, all wait.
all-wait : (ps : List Claim) → any on ps ≡ false → waiting_in ps ≡ length ps
unfolding waiting_in keep any
all-wait [] h = refl
all-wait (c ∷ ps) h = rw (or-fl (on c) _ h) (ap suc (all-wait ps (or-fr (on c) _ h)))

-- Of fewer claims no more wait;
waiting-keep : (p : Claim → Bool) (ps : List Claim) → waiting_in (keep p ps) ≤ waiting_in ps
unfolding waiting_in keep
waiting-keep p [] = omega arith
waiting-keep p (c ∷ ps) =
    let h = waiting-keep p ps in
    by-test (p c)
    (λ e. by-test (on c) (λ f. rw (e, f) h) (λ f. rw (e, f) (omega arith)))
    (λ e. by-test (on c) (λ f. rw (e, f) h) (λ f. rw (e, f) (omega arith)))

-- a new one is on or waits.
waiting-snoc : (ps : List Claim) (w : Claim) → length (head_tickets (w ∷ [])) + waiting_in (ps ++ (w ∷ [])) ≡ waiting_in ps + 1
unfolding waiting_in keep
waiting-snoc [] w = on-or-waits (w ∷ [])
waiting-snoc (c ∷ ps) w =
    let h = waiting-snoc ps w in
    by-test (on c) (λ e. rw e h) (λ e. rw e (omega (arith, h)))

-- ── a call ──
-- What a step from the table m names.
pub record Counted (m : Model) (s : Step) : Type 0 where
  -- No more tickets than claims are then pending.
  pub few : length s.answer.grants ≤ length s.model.pending
  -- Those named, and those that still wait, waited before, but for one that the call claimed.
  pub once : length s.answer.grants + waiting s.model ≤ waiting m + 1

module _ (m : Model) where
  -- A claim that is accepted is on or waits.
  admitted : (g : ℕ) → Counted m (admit m g)
  unfolding waiting admit
  admitted g =
      let w : Claim = fresh m g in
      record {
        few = omega (arith, on-or-waits (w ∷ []), length-append m.pending (w ∷ []));
        once = omega (arith, waiting-snoc m.pending w);
      }

  -- Where the head row has emptied, those granted waited.
  removed : (k : ℕ) → Counted m (remove m k)
  unfolding waiting remove lacking
  removed k =
      let rest : List Claim = lacking k m.pending in
      let fewer = waiting-keep (λ c. not (named k c)) m.pending in
      let t = turned-cases (λ qs ks. (length ks ≤ length qs) × (length ks + waiting_in qs ≤ waiting_in rest)) rest
      (λ e. (omega arith, omega arith))
      (λ e. let b = on-or-waits (map nearer rest) in (omega arith, omega (arith, length-map rest nearer, all-wait rest e))) in
      record { few = t.0; once = omega (arith, t.1) }

  -- A refused call names none,
  unmoved : (n : ℕ) → Counted m (unchanged m n)
  unmoved n = record { few = omega arith; once = omega arith }

  -- and no more does a new table.
  opened : (g n : ℕ) → Counted m (unchanged (blank g) n)
  opened g n = record { few = omega arith; once = omega (arith, waiting_none g) }

  -- So with every call,
  pub step-counted : (c : Call) → Counted m (step m c)
  step-counted = step-cases (λ c s. Counted m s) m (λ c n z. unmoved n) (λ g a. admitted g) (λ k a. removed k)

  -- and with a new table.
  pub new-counted : (g : ℕ) → Counted m (new g)
  new-counted g = new-cases (Counted m) g (λ e. opened 0 1) (λ e. opened g 0)
