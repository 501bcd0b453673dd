-- Rows of claims: what is read from them.
use mathlib.Core.Path.{◌≡◌, ◌∙◌, ap, sym}
use mathlib.Core.Logic.{⊎_elim}
use mathlib.Core.List.{List, [], ◌∷◌}
use mathlib.Core.List.Memᴰ
use Prim.Native.Nat.{ℕ, suc, ◌+◌, ◌≤◌, ◌<◌}
use native.Mathlib.Omega.{arith}
use native.Mathlib.Numerals.{add-one}
use lib.ListN.{length, drop, get_or}
use Rattle.std.proofs.Math.Seq.{drop-cons}
use Rattle.std.proofs.lemmas.List.{drop_all, get_or_default}
use Rattle.numbers.specs.Numbers.{most_clock}
use Rattle.rules.specs.declared.Claim.{Claim}
use Rattle.rules.specs.declared.Setting.{Setting}
use Rattle.rules.specs.Lists.{◌∈◌}
use Rattle.rules.specs.Claims.{on, at}
use Rattle.rules.specs.Vacant.{vacant}
use Rattle.rules.proofs.Bools.{by-test}
use Rattle.rules.proofs.Lists.{none}
use Rattle.rules.proofs.Places.{at-place}
use Rattle.plan.specs.Rows.{Sized, InRange}
use Rattle.plan.specs.SortKeys.{claim_at}
use Rattle.plan.specs.Bounds.{most_at}

-- ── a row's claims are in range ──
pub sized-small : (v : Setting) (c : Claim) → v.clock ≤ most_clock → Sized v c → at c ≤ most_at
sized-small v c h s = by-test (on c) (λ o. omega (arith, s.aged o)) (λ o. omega (arith, s.planned o))

-- What is left at place i: the claim there, and what is left after it.
pub row_step : (ps : List Claim) (i : ℕ) → i < length ps → drop i ps ≡ get_or ps i vacant ∷ drop (i + 1) ps
row_step ps i h = drop-cons ps i vacant h ∙ ap (λ k. get_or ps i vacant ∷ drop k ps) (sym (add-one i))

-- An element that is read as the one at its place, by whatever stands there where there is none, is the claim at that place.
pub read-at : (ps : List Claim) (i : ℕ) (c : Claim) → i < length ps → c ≡ get_or ps i c → c ≡ get_or ps i vacant
read-at ps i c h e = e ∙ get_or_default ps i c vacant h

module _ {v : Setting} {ps : List Claim} (r : InRange v ps) where
  pub row-member : (i : ℕ) → i < length ps → get_or ps i vacant ∈ ps
  row-member i h = at-place vacant ps i h

  pub row_sized : (i : ℕ) → i < length ps → Sized v (get_or ps i vacant)
  row_sized i h = r.sized _ (row-member i h)

  pub row_small : (i : ℕ) → i < length ps → at (get_or ps i vacant) ≤ most_at
  row_small i h = sized-small v _ r.timely (row_sized i h)

-- ── reading a row front to back: P holds of the claims that are left at place i ──
pub record Left (P : List Claim → Type 0) (v : Setting) (ps : List Claim) (i : ℕ) : Type 0 where
  pub row : InRange v ps
  pub within : i ≤ length ps
  pub holds : P (drop i ps)

pub left-start : {P : List Claim → Type 0} {v : Setting} {ps : List Claim} → InRange v ps → P ps → Left P v ps 0
left-start r p = record { row = r; within = omega arith; holds = p }

module _ {P : List Claim → Type 0} {v : Setting} {ps : List Claim} {i : ℕ} (w : Left P v ps i) where
  pub left_here : i < length ps → P (get_or ps i vacant ∷ drop (i + 1) ps)
  left_here h = rw (row_step ps i h) at w.holds

  pub left-next : {Q : List Claim → Type 0} → i < length ps → (P (get_or ps i vacant ∷ drop (i + 1) ps) → Q (drop (i + 1) ps)) → Left Q v ps (i + 1)
  left-next h f = record { row = w.row; within = omega arith; holds = f (left_here h) }

  pub left_end : length ps ≤ i → P []
  left_end h = rw (drop_all i ps h) at w.holds

-- ── a claim of a row has a place in it ──
pub row_place : (ps : List Claim) {c : Claim} → c ∈ ps → (i : ℕ) × (i < length ps) × (claim_at ps i ≡ c)
row_place [] m = none m
row_place (d ∷ ps) m = ⊎_elim (λ e. (0, omega arith, sym e)) (λ k. let r = row_place ps k in (suc r.0, omega arith, r.2)) (Memᴰ.cases_cons m)
