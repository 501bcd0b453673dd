-- Following a chain, a claim at a time: the first claim of the row that passes is the link; from a claim that waits the chain goes on at its
-- link, and one that is on ends it.
use Rattle.std.proofs.Common.{◌≡◌, Bool, ℕ, ◌+◌, ◌≤◌, ◌<◌, true, false, ◌&&◌, List, [], ◌∷◌, ◌++◌, map, eqb, length, drop, get_or, refl, sym, ◌∙◌, ap, arith, append_assoc, length-append}
use Rattle.std.proofs.lemmas.List.{drop_all}
use Rattle.rules.specs.declared.Claim.{Claim}
use Rattle.rules.specs.declared.Setting.{Setting}
use Rattle.rules.specs.Lists.{◌∈◌, first_with}
use Rattle.rules.specs.Claims.{on, at, end_of}
use Rattle.rules.specs.Order.{meets}
use Rattle.rules.specs.Vacant.{vacant}
use Rattle.rules.specs.Chains.{counts_as, links, link, chain, chain_within}
use Rattle.rules.specs.Invariants.{Settled}
use borrow.Author.Tests.{eqb-true, eqb-false}
use Rattle.rules.proofs.Bools.{by-test}
use Rattle.rules.proofs.Chains.{link-true, chain-on, chain-waits}
use Rattle.plan.proofs.Rows.{row_step}

-- One place more that fails.
pub fails_more : (p : ℕ → Bool) (i : ℕ) → ((j : ℕ) → j < i → p j ≡ false) → p i ≡ false → (j : ℕ) → j < i + 1 → p j ≡ false
fails_more p i h e j k = by-test (eqb j i) (λ q. rw (eqb-true j i q) e) (λ q. let z = eqb-false j i q in h j (omega arith))

-- ── the link ──
module _ (v : Setting) (ps : List Claim) (w : Claim) where
  -- The link, as far as it is looked for in the claims that are left.
  abbrev pub link_in : List Claim → Claim
  link_in l = first_with (λ d. links v ps d w) w l

  -- The claim at hand passes, or it does not.
  pub link_here : (i : ℕ) → i < length ps → eqb (end_of v (get_or ps i vacant)) (at w) ≡ true → meets (get_or ps i vacant) w ≡ true
      → link_in (drop i ps) ≡ get_or ps i vacant
  unfolding first_with links counts_as
  link_here i h e m = rw (row_step ps i h, e, m) refl

  pub link_on : (i : ℕ) → i < length ps → (eqb (end_of v (get_or ps i vacant)) (at w) && meets (get_or ps i vacant) w) ≡ false
      → link_in (drop i ps) ≡ link_in (drop (i + 1) ps)
  unfolding first_with links counts_as
  link_on i h e = rw (row_step ps i h, e) refl

  -- None is left.
  pub link_none : (i : ℕ) → length ps ≤ i → w ≡ link_in (drop i ps)
  unfolding first_with
  link_none i h = rw (drop_all i ps h) refl

-- ── the chain ──
abbrev pub told : List Claim → List ℕ
told l = map (λ (c : Claim). c.ticket) l

-- Tickets, then those of the chain of w.
abbrev pub with_chain : Setting → List Claim → Claim → List ℕ → List ℕ
with_chain v ps w l = l ++ told (chain v ps w)

-- There is room for the claim itself.
pub room_here : (v : Setting) (ps : List Claim) (w : Claim) (l : List ℕ) → length l + length (chain v ps w) ≤ 64 → length l < 64
unfolding chain chain_within
room_here v ps w l h = omega arith

-- One that is on ends the chain.
pub ruleset ends_here = (chain-on)

-- From one that waits it goes on at its link.
module _ {q : ℕ} {v : Setting} {ps : List Claim} {w : Claim} (s : Settled q v ps) (m : w ∈ ps) (o : on w ≡ false) where
  pub linked : link v ps w ∈ ps
  linked = (link-true q v ps s w m o).pending

  pub goes_on : (l : List ℕ) → with_chain v ps (link v ps w) (l ++ (w.ticket ∷ [])) ≡ with_chain v ps w l
  goes_on l =
      append_assoc l (w.ticket ∷ []) (told (chain v ps (link v ps w)))
      ∙ ap (λ (r : List Claim). l ++ told r) (sym (chain-waits q v ps s w m o))

  -- There is room for the chain of the link.
  pub room_on : (l : List ℕ) → length l + length (chain v ps w) ≤ 64 → length (l ++ (w.ticket ∷ [])) + length (chain v ps (link v ps w)) ≤ 64
  room_on l h = omega (arith, ap length (chain-waits q v ps s w m o), length-append l (w.ticket ∷ []))
