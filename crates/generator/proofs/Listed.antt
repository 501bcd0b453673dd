-- A workload is listed to its end: no record of it is answered by a number that ends a listing.
use mathlib.Core.Path.{◌≡◌, refl, sym, ap, subst, ◌∙◌}
use mathlib.Core.Bool.{true}
use mathlib.Core.List.{List, [], ◌∷◌}
use Prim.Native.Nat.{ℕ, ◌+◌, ◌<◌}
use native.Mathlib.Omega.{arith}
use borrow.Author.Tests.{ne_eqb}
use Rattle.rules.specs.Tests.{Test, first_number}
use Rattle.rules.specs.Calls.{Model, Step, Call as TableCall, claim as claimCall, release as releaseCall, asking, tests, step}
use Rattle.rules.proofs.Bools.{by-test}
use Rattle.rules.proofs.Calls.{step-number}
use Rattle.format.specs.declared.Call.{Call}
use Rattle.format.specs.Calls.{claim, release}
use Rattle.format.specs.Records.{record_of, records_of}
use Rattle.replay.specs.Records.{step_of, ending}
use Rattle.replay.specs.Replay.{replay_from}
use Rattle.generator.proofs.Records.{claim-does, release-does}

-- ── numbers ──
-- A number that ends no listing behind the rig.
abbrev Silent : ℕ → Type 0
Silent n = (k : ℕ) → 1 < k → ending k n ≡ 0

abbrev Silents : List Test → Type 0
Silents [] = Unit {0}
Silents (x ∷ ts) = Silent x.number × Silents ts

first-silent : (ts : List Test) → Silents ts → Silent (first_number ts)
unfolding first_number ending
first-silent [] s = λ k h. refl
first-silent (x ∷ ts) s = by-test x.fails (λ e. rw e s.0) (λ e. rw e (first-silent ts s.1))

dark-silent : Silent 1
unfolding ending
dark-silent k h = rw (ne_eqb k 1 (λ z. omega arith)) refl

claim-silents : (m : Model) (t g n : ℕ) → Silents (tests m (claimCall t (asking g n)))
unfolding tests ending
claim-silents m t g n = (λ k h. refl, (λ k h. refl, (λ k h. refl, (dark-silent, (λ k h. refl, (λ k h. refl, (λ k h. refl, (λ k h. refl, (λ k h. refl, (λ k h. refl, tt))))))))))

release-silents : (m : Model) (t j : ℕ) → Silents (tests m (releaseCall t j))
unfolding tests ending
release-silents m t j = (λ k h. refl, (λ k h. refl, (λ k h. refl, (λ k h. refl, tt))))

-- What a record does is a call of the table whose tests are all silent.
does-silent : (m : Model) (r : Call) (c : TableCall) → step_of true m (record_of r) ≡ step m c → Silents (tests m c) → Silent (step_of true m (record_of r)).answer.number
does-silent m r c e s = subst Silent (sym (ap (λ (x : Step). x.answer.number) e ∙ step-number m c)) (first-silent (tests m c) s)

module _ (m : Model) where
  claim-silent : (t g n : ℕ) → Silent (step_of true m (record_of (claim t g n))).answer.number
  claim-silent t g n = does-silent m (claim t g n) (claimCall t (asking g n)) (claim-does m t g n) (claim-silents m t g n)

  release-silent : (t j : ℕ) → Silent (step_of true m (record_of (release t j))).answer.number
  release-silent t j = does-silent m (release t j) (releaseCall t j) (release-does m t j) (release-silents m t j)

-- ── records ──
-- Records behind a rig that are all run.
abbrev pub Runs : List Call → Type 0
Runs cs = (k : ℕ) (m : Model) → 1 < k → (replay_from true k m (records_of cs) 0).stop ≡ 0

pub none_runs : Runs []
unfolding replay_from
none_runs k m h = refl

one-runs : (c : Call) (cs : List Call) → ((m : Model) → Silent (step_of true m (record_of c)).answer.number) → Runs cs → Runs (c ∷ cs)
unfolding replay_from
one-runs c cs s r k m h = rw (s m k h) (r (k + 1) (step_of true m (record_of c)).model (omega arith))

pub claim-runs : (t g n : ℕ) (cs : List Call) → Runs cs → Runs (claim t g n ∷ cs)
claim-runs t g n cs r = one-runs (claim t g n) cs (λ m. claim-silent m t g n) r

pub release-runs : (t j : ℕ) (cs : List Call) → Runs cs → Runs (release t j ∷ cs)
release-runs t j cs r = one-runs (release t j) cs (λ m. release-silent m t j) r
