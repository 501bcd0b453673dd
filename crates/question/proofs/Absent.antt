-- Where `common` tells that one of two tickets is not pending, the one that the answer names is not.
use mathlib.Core.Bool.{Bool, true, false, cond}
use mathlib.Core.List.{List, [], ◌∷◌}
use mathlib.Core.Logic.{◌⊎◌, inl, inr, ⊎_elim}
use mathlib.Core.Path.{◌≡◌, refl}
use Prim.Native.Nat.{ℕ}
use native.Mathlib.Omega.{arith}
use Rattle.std.proofs.Common.{Option}
use Rattle.std.proofs.Common.{Some, None}
use Rattle.rules.specs.declared.Claim.{Claim}
use Rattle.rules.specs.declared.Common.TheVariants.{Unknown}
use Rattle.rules.specs.declared.Standing.{Standing}
use Rattle.rules.specs.declared.Standing.TheVariants.{NotPending, Waits, Holds}
use Rattle.rules.specs.Lists.{keep}
use Rattle.rules.specs.Tests.{named}
use Rattle.rules.specs.Claims.{conflicts}
use Rattle.rules.specs.Calls.{shared, between, standing, standing_of, common_of}
use Rattle.question.specs.Answers.{absent_of, NamedAbsent}

shared-known : (g : Option ℕ) → shared g ≡ Unknown → ⊥
shared-known (Some g) e = let z : ◌≡◌ {A = ℕ} 0 1 = cc in omega arith
shared-known None e = let z : ◌≡◌ {A = ℕ} 0 1 = cc in omega arith

either-none : (xs ys : List Claim) → between xs ys ≡ Unknown → (xs ≡ []) ⊎ (ys ≡ [])
either-none [] ys e = inl refl
either-none (c ∷ cs) [] e = inr refl
either-none (c ∷ cs) (d ∷ ds) e = absurd (shared-known (conflicts c d) e)

none_kept : (k : ℕ) (ps : List Claim) → keep (named k) ps ≡ [] → standing_of k ps ≡ NotPending
unfolding keep standing_of
none_kept k [] e = refl
none_kept k (c ∷ ps) e = go (named k c) (none_kept k ps) e
  where
    go : (b : Bool) → (keep (named k) ps ≡ [] → standing_of k ps ≡ NotPending) → cond b (c ∷ keep (named k) ps) (keep (named k) ps) ≡ []
        → cond b (standing c) (standing_of k ps) ≡ NotPending
    go true f e = let z : ◌≡◌ {A = ℕ} 0 1 = cc in absurd (omega arith)
    go false f e = f e

named_by : (j k : ℕ) (ps : List Claim) (s : Standing) → standing_of j ps ≡ s → (standing_of j ps ≡ NotPending) ⊎ (standing_of k ps ≡ NotPending)
    → standing_of (absent_of j k s) ps ≡ NotPending
named_by j k ps NotPending e h = e
named_by j k ps (Waits s) e h = ⊎_elim (λ p. let z : ◌≡◌ {A = ℕ} 0 1 = cc in absurd (omega arith)) (λ q. q) h
named_by j k ps (Holds s) e h = ⊎_elim (λ p. let z : ◌≡◌ {A = ℕ} 0 1 = cc in absurd (omega arith)) (λ q. q) h

pub named-absent : NamedAbsent
unfolding common_of
named-absent j k ps e =
    named_by j k ps (standing_of j ps) refl
    (⊎_elim (λ p. inl (none_kept j ps p)) (λ q. inr (none_kept k ps q)) (either-none (keep (named j) ps) (keep (named k) ps) e))
