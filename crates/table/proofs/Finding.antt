-- Finding the claim of a ticket: what its place tells of it, and what is left without it.
use mathlib.Core.Path.{◌≡◌, refl, sym, ap, ◌∙◌, subst}
use mathlib.Core.Logic.{◌≢◌, ⊎_elim}
use mathlib.Core.Bool.{Bool, true, false, not}
use mathlib.Core.List.{List, [], ◌∷◌}
use mathlib.Core.List.Memᴰ
use Prim.Native.Nat.{ℕ, zero, suc, ◌+◌, ◌-◌, ◌≤◌, ◌<◌}
use native.Mathlib.Omega.{arith}
use lib.ListN.{length, get_or, drop}
use borrow.Author.Tests.{eq-eqb, ne_eqb, eqb-true, eqb-false}
use Rattle.std.proofs.Common.{Option, Some, None}
use Rattle.std.specs.List.{position, position_or_len, remove, list_any}
use Rattle.std.proofs.lemmas.Grind.{common_steps}
use Rattle.std.proofs.lemmas.List.{drop_all}
use Rattle.std.proofs.lemmas.List.Quantifiers.{position-Some}
use Rattle.numbers.specs.Numbers.{unknown_number, already_on_number}
use Rattle.rules.specs.declared.Claim.{Claim}
use Rattle.rules.specs.declared.Setting.{Setting}
use Rattle.rules.specs.declared.Common.TheVariants.{Unknown}
use Rattle.rules.specs.declared.Standing.TheVariants.{NotPending}
use Rattle.rules.specs.Lists.{any, keep, sum}
use Rattle.rules.specs.Pool.{held_by, held_units, free_units}
use Rattle.rules.specs.Plans.{Ascending}
use Rattle.rules.specs.Tests.{named}
use Rattle.rules.specs.Claims.{conflicts, on}
use Rattle.rules.specs.Calls.{shared, between, common_of, standing, standing_of}
use Rattle.rules.specs.Chains.{chain, chain_refused, chain_tickets, chain_of}
use Rattle.rules.specs.Vacant.{vacant}
use Rattle.rules.proofs.Places.{at-place}
use Rattle.rules.proofs.Bools.{by-test}
use Rattle.rules.proofs.Lists.{Each, none, keep_all}
use Rattle.rules.proofs.Lookup.{lookup_absent, none_named, lookup-found, one-named}
use Rattle.table.specs.Outcomes.{lacking}
use Rattle.plan.proofs.Rows.{row_step}

-- `any` of the rules is that of slices.
pub any_is : {A : Type 0} (p : A → Bool) (l : List A) → list_any p l ≡ any p l
unfolding any
any_is p [] = refl
any_is p (x ∷ l) = rw (any_is p l)

-- ── a ticket that no claim has ──
passed-all : (k : ℕ) (ps : List Claim) → length ps ≤ position_or_len (named k) ps → Each (λ c. c.ticket ≢ k) ps
passed-all k [] h c m = none m
passed-all k (d ∷ ps) h c m =
    by-test (named k d)
    (λ e. let z = rw e at h in absurd (omega arith))
    (λ e. let z = rw e at h in ⊎_elim (λ q. subst (λ (x : Claim). x.ticket ≢ k) (sym q) (eqb-false d.ticket k e)) (passed-all k ps (omega arith) c) (Memᴰ.cases_cons m))

no-place : (p : Claim → Bool) (ps : List Claim) → None ≡ position p ps → length ps ≤ position_or_len p ps
no-place p ps e = grind (arith, common_steps)

module _ (ps : List Claim) (k : ℕ) (e : None ≡ position (named k) ps) where
  absent : Each (λ c. c.ticket ≢ k) ps
  absent = passed-all k ps (no-place (named k) ps e)

  pub absent-standing : NotPending ≡ standing_of k ps
  absent-standing = sym (lookup_absent k ps absent)

  pub absent-kept : keep (named k) ps ≡ []
  absent-kept = none_named k ps absent

  pub absent-lacking : ps ≡ lacking k ps
  absent-lacking = sym (keep_all (λ c. not (named k c)) ps (λ c m. ap not (ne_eqb c.ticket k (absent c m))))

-- ── one that a claim has ──
-- The others, in ascending order of ticket, are those before it and those behind it.
others : (ps : List Claim) (k i : ℕ) → Ascending ps → i < length ps → (get_or ps i vacant).ticket ≡ k → remove ps i ≡ lacking k ps
unfolding keep
others [] k i a h e = absurd (omega arith)
others (c ∷ ps) k zero a h e =
    rw (eq-eqb c.ticket k e) (sym (keep_all (λ d. not (named k d)) ps (λ d m. ap not (ne_eqb d.ticket k (λ q. omega (arith, a.0 d m, e, q))))))
others (c ∷ ps) k (suc i) a h e =
    let l : i < length ps = omega arith in
    rw (ne_eqb c.ticket k (λ q. omega (arith, a.0 _ (at-place vacant ps i l), e, q))) (ap (λ (r : List Claim). c ∷ r) (others ps k i a.1 l e))

module _ (ps : List Claim) (k i : ℕ) (a : Ascending ps) (e : Some i ≡ position (named k) ps) where
  found : (i < length ps) × (named k (get_or ps i vacant) ≡ true) × ((j : ℕ) → j < i → named k (get_or ps j vacant) ≡ false)
  found = position-Some (named k) ps i vacant (sym e)

  pub found-place : i < length ps
  found-place = found.0

  pub found-named : (get_or ps i vacant).ticket ≡ k
  found-named = eqb-true (get_or ps i vacant).ticket k found.1

  pub found-standing : standing (get_or ps i vacant) ≡ standing_of k ps
  found-standing = sym (lookup-found ps a (get_or ps i vacant) (at-place vacant ps i found-place)) ∙ ap (λ (x : ℕ). standing_of x ps) found-named

  pub found-kept : keep (named k) ps ≡ get_or ps i vacant ∷ []
  found-kept = ap (λ (x : ℕ). keep (named x) ps) (sym found-named) ∙ one-named ps a (get_or ps i vacant) (at-place vacant ps i found-place)

  pub found-lacking : remove ps i ≡ lacking k ps
  found-lacking = others ps k i a found-place found-named

-- ── two tickets ──
module _ (ps : List Claim) (j k : ℕ) where
  pub no-first : keep (named j) ps ≡ [] → Unknown ≡ common_of j k ps
  unfolding common_of
  no-first e = rw e

  pub no_second : keep (named k) ps ≡ [] → Unknown ≡ common_of j k ps
  unfolding common_of
  no_second e = rw e (go (keep (named j) ps))
    where
      go : (cs : List Claim) → Unknown ≡ between cs []
      go [] = refl
      go (c ∷ cs) = refl

  pub both_found : (c d : Claim) → keep (named j) ps ≡ c ∷ [] → keep (named k) ps ≡ d ∷ [] → (g : Option ℕ) → g ≡ conflicts c d → shared g ≡ common_of j k ps
  unfolding common_of
  both_found c d p q g h = rw (p, q) (ap shared h)

-- ── the chain of a ticket ──
module _ (v : Setting) (ps : List Claim) (k : ℕ) where
  pub no-chain : keep (named k) ps ≡ [] → chain_refused unknown_number ≡ chain_of v k ps
  unfolding chain_of
  no-chain e = rw e

  module _ (c : Claim) (e : keep (named k) ps ≡ c ∷ []) where
    pub held-chain : on c ≡ true → chain_refused already_on_number ≡ chain_of v k ps
    unfolding chain_of
    held-chain o = rw (e, o)

    pub waiting-chain : on c ≡ false → chain_tickets (chain v ps c) ≡ chain_of v k ps
    unfolding chain_of
    waiting-chain o = rw (e, o)

-- ── the units that are free, with the first i claims done ──
module _ (ps : List Claim) (i pool free : ℕ) (stock : held_units ps ≤ pool) (e : free + held_units ps ≡ pool + held_units (drop i ps)) where
  module _ (h : i < length ps) where
    abbrev next : Claim
    next = get_or ps i vacant

    step : held_units (drop i ps) ≡ held_by next + held_units (drop (i + 1) ps)
    unfolding held_units sum
    step = ap held_units (row_step ps i h)

    pub free-covers : held_by next ≤ free
    free-covers = omega (arith, step)

    pub free-more : (free - held_by next) + held_units ps ≡ pool + held_units (drop (i + 1) ps)
    free-more = omega (arith, step)

  pub free-end : length ps ≤ i → free ≡ free_units pool ps
  unfolding free_units held_units sum
  free-end h = let z : held_units (drop i ps) ≡ 0 = ap held_units (drop_all i ps h) in omega arith

-- A claim of another ticket in front.
module _ (k : ℕ) (c : Claim) (l : List Claim) where
  pub passed-by : (c.ticket ≡ k → ⊥) → standing_of k l ≡ standing_of k (c ∷ l)
  unfolding standing_of
  passed-by e = rw (ne_eqb c.ticket k e)
