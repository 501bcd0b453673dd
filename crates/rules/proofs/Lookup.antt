-- What lookup tells, by the pending claim of the ticket; and what a lookup answers as a call of a run.
use mathlib.Core.Path.{◌≡◌, refl, sym, ◌∙◌, ap}
use mathlib.Core.Logic.{⊎_elim, ◌≢◌}
use mathlib.Core.Bool.{Bool, true, false, not, ◌||◌, cond}
use mathlib.Core.List.Memᴰ
use mathlib.Core.List.{List, [], ◌∷◌}
use Prim.Native.Nat.{ℕ, zero, suc, ◌+◌}
use native.Mathlib.Omega.{arith}
use lib.Dec.{eqb}
use borrow.Author.Tests.{eqb-true, eqb-false, ne_eqb}
use Rattle.std.proofs.Common.{Option}
use Rattle.std.proofs.Common.{Some, None}
use Rattle.std.proofs.Common.{is_some}
use Rattle.groups.specs.Groups.{shares}
use Rattle.rules.specs.declared.Claim.{Claim}
use Rattle.rules.specs.Lists.{◌∈◌, any, keep}
use Rattle.rules.specs.Claims.{on, at, conflicts, rival}
use Rattle.rules.specs.declared.Common.{Common}
use Rattle.rules.specs.declared.Common.TheVariants.{Shared}
use Rattle.rules.specs.declared.Standing.{Standing}
use Rattle.rules.specs.declared.Standing.TheVariants.{NotPending, Waits, Holds}
use Rattle.rules.specs.Tests.{first_number, named}
use Rattle.rules.specs.Calls.{Model, Look, at_ticket, at_two, looks, Step, look_tests, tests, unchanged, act, unless, step, StandingValues, standing_values, standing, standing_of, value_at, lookup_gives, common_values, shared, between, common_of, group_in, groups_between, common_gives}
use Rattle.rules.specs.Plans.{Ascending}
use Rattle.rules.proofs.Bools.{by-test, clash}
use Rattle.rules.proofs.Lists.{Each, here, there, none}
use Rattle.rules.proofs.Order.{ascending-same}

pub lookup_absent : (k : ℕ) (ps : List Claim) → Each (λ c. c.ticket ≢ k) ps → standing_of k ps ≡ NotPending
unfolding standing_of
lookup_absent k [] h = refl
lookup_absent k (c ∷ ps) h = rw (ne_eqb c.ticket k (h c here)) (lookup_absent k ps (λ d m. h d (there m)))

pub none_named : (k : ℕ) (ps : List Claim) → Each (λ c. c.ticket ≢ k) ps → keep (named k) ps ≡ []
unfolding keep
none_named k [] h = refl
none_named k (c ∷ ps) h = rw (ne_eqb c.ticket k (h c here)) (none_named k ps (λ d m. h d (there m)))

pub lookup-found : (ps : List Claim) → Ascending ps → (c : Claim) → c ∈ ps → standing_of c.ticket ps ≡ standing c
unfolding standing_of
lookup-found [] a c m = none m
lookup-found (d ∷ ps) a c m =
    by-test (eqb d.ticket c.ticket)
    (λ e. rw e (ap standing (ascending-same (d ∷ ps) a d c here m (eqb-true _ _ e))))
    (λ e. rw e (⊎_elim (λ i. absurd (eqb-false _ _ e (sym (ap (λ (x : Claim). x.ticket) i)))) (lookup-found ps a.1 c) (Memᴰ.cases_cons m)))

-- The claim of a ticket, among claims in ascending order of ticket.
pub one-named : (ps : List Claim) → Ascending ps → (c : Claim) → c ∈ ps → keep (named c.ticket) ps ≡ c ∷ []
unfolding keep
one-named [] a c m = none m
one-named (d ∷ ps) a c m =
    by-test (eqb d.ticket c.ticket)
    (λ e.
    let f = eqb-true d.ticket c.ticket e in
    let others = none_named c.ticket ps (λ x j q. omega (arith, a.0 x j, q, f)) in
    rw (e, others) (ap (λ (x : Claim). x ∷ []) (ascending-same (d ∷ ps) a d c here m f)))
    (λ e. rw e (⊎_elim (λ i. absurd (eqb-false _ _ e (sym (ap (λ (x : Claim). x.ticket) i)))) (one-named ps a.1 c) (Memᴰ.cases_cons m)))

standing-waits : (c : Claim) (s : ℕ) → standing c ≡ Waits s → (on c ≡ false) × (at c ≡ s)
standing-waits c s h =
    by-test (on c) (λ o. let q = rw o at h in let z : ◌≡◌ {A = ℕ} 0 1 = cc in absurd (omega arith)) (λ o. let q = rw o at h in (o, cc))

pub lookup-waits : (k s : ℕ) (ps : List Claim) → standing_of k ps ≡ Waits s → (c : Claim) × c ∈ ps × (c.ticket ≡ k) × (on c ≡ false) × (at c ≡ s)
unfolding standing_of
lookup-waits k s [] h = let z : ◌≡◌ {A = ℕ} 0 1 = cc in absurd (omega arith)
lookup-waits k s (c ∷ ps) h =
    by-test (named k c)
    (λ e. let r = standing-waits c s (rw e at h) in (c, here, eqb-true _ _ e, r.0, r.1))
    (λ e. let r = lookup-waits k s ps (rw e at h) in (r.0, there r.1, r.2, r.3, r.4))

standing-holds : (c : Claim) (p : ℕ) → standing c ≡ Holds p → (on c ≡ true) × (at c + c.length ≡ p)
standing-holds c p h =
    by-test (on c) (λ o. let q = rw o at h in (o, cc)) (λ o. let q = rw o at h in let z : ◌≡◌ {A = ℕ} 0 1 = cc in absurd (omega arith))

pub lookup-holds : (k p : ℕ) (ps : List Claim) → standing_of k ps ≡ Holds p → (c : Claim) × c ∈ ps × (c.ticket ≡ k) × (on c ≡ true) × (at c + c.length ≡ p)
unfolding standing_of
lookup-holds k p [] h = let z : ◌≡◌ {A = ℕ} 0 1 = cc in absurd (omega arith)
lookup-holds k p (c ∷ ps) h =
    by-test (named k c)
    (λ e. let r = standing-holds c p (rw e at h) in (c, here, eqb-true _ _ e, r.0, r.1))
    (λ e. let r = lookup-holds k p ps (rw e at h) in (r.0, there r.1, r.2, r.3, r.4))

-- The claim of a ticket that lookup knows.
pub lookup-known : (k : ℕ) (ps : List Claim) → standing_of k ps ≢ NotPending → (c : Claim) × c ∈ ps × (c.ticket ≡ k)
unfolding standing_of
lookup-known k [] h = absurd (h refl)
lookup-known k (c ∷ ps) h =
    by-test (named k c)
    (λ e. (c, here, eqb-true _ _ e))
    (λ e. let r = lookup-known k ps (λ q. h (rw e q)) in (r.0, there r.1, r.2))

-- What it tells of two claims, among claims in ascending order of ticket.
pub common-found : (ps : List Claim) → Ascending ps → (c d : Claim) → c ∈ ps → d ∈ ps → common_of c.ticket d.ticket ps ≡ shared (conflicts c d)
unfolding common_of
common-found ps a c d i j = rw (one-named ps a c i, one-named ps a d j)

pub shared-rival : (c d : Claim) (g : ℕ) → shared (conflicts c d) ≡ Shared g → rival c d ≡ true
unfolding shares
shared-rival c d g e = go (conflicts c d) e
  where
    go : (m : Option ℕ) → shared m ≡ Shared g → is_some m ≡ true
    go (Some h) q = refl
    go None q = let z : ◌≡◌ {A = ℕ} 0 1 = cc in absurd (omega arith)

pub rival-shared : (c d : Claim) → rival c d ≡ true → (g : ℕ) × (shared (conflicts c d) ≡ Shared g)
unfolding shares
rival-shared c d e = go (conflicts c d) e
  where
    go : (m : Option ℕ) → is_some m ≡ true → (g : ℕ) × (shared m ≡ Shared g)
    go (Some h) q = (h, refl)
    go None q = clash q refl

-- ── what a lookup answers ──
-- It changes nothing, and its answer has nothing but the number.
look-step : (m : Model) (q : Look) → step m (looks q) ≡ unchanged m (first_number (tests m (looks q)))
unfolding step act
look-step m q = idle (first_number (tests m (looks q)))
  where
    idle : (n : ℕ) → unless m n (unchanged m 0) ≡ unchanged m n
    idle zero = refl
    idle (suc n) = refl

pub look-idle : (m : Model) (q : Look) → (step m (looks q)).model ≡ m
look-idle m q = ap (λ (s : Step). s.model) (look-step m q)

pub look-number : (m : Model) (q : Look) → (step m (looks q)).answer.number ≡ first_number (tests m (looks q))
look-number m q = ap (λ (s : Step). s.answer.number) (look-step m q)

pub look-answer : (m : Model) (q : Look) → (unchanged m (step m (looks q)).answer.number).answer ≡ (step m (looks q)).answer
look-answer m q = rw (look-step m q)

-- The numbers of a standing, number n put in place of its own.
abbrev values_first : ℕ → ℕ → List Claim → StandingValues
values_first n k ps = record { number = n; start = value_at (λ c. cond (on c) 0 (at c)) k ps; end = value_at (λ c. cond (on c) (at c + c.length) 0) k ps }

values-first : (k : ℕ) (ps : List Claim) → standing_values (standing_of k ps) ≡ values_first (cond (not (any (named k) ps)) 8 0) k ps
unfolding any standing_of value_at
values-first k [] = refl
values-first k (c ∷ ps) = by-test (named k c) (λ e. rw e (by-test (on c) (λ o. rw o) (λ o. rw o))) (λ e. rw e (values-first k ps))

pub lookup-told : (m : Model) (k : ℕ) (s : Standing) → s ≡ standing_of k m.pending → (s ≡ standing_of k m.pending) × (standing_values s ≡ lookup_gives m k)
unfolding tests first_number
lookup-told m k s e = (e, ap standing_values e ∙ values-first k m.pending ∙ ap (λ (n : ℕ). values_first n k m.pending) (sym (look-number m (at_ticket k))))

-- A ticket is pending exactly where a claim has it.
some : List Claim → Bool
some [] = false
some (c ∷ cs) = true

any-keep : (k : ℕ) (ps : List Claim) → any (named k) ps ≡ some (keep (named k) ps)
unfolding any keep some
any-keep k [] = refl
any-keep k (c ∷ ps) = go (named k c) (any-keep k ps)
  where
    go : (x : Bool) → any (named k) ps ≡ some (keep (named k) ps) → (x || any (named k) ps) ≡ some (cond x (c ∷ keep (named k) ps) (keep (named k) ps))
    go true ih = refl
    go false ih = ih

between-values : (cs ds : List Claim) → common_values (between cs ds) ≡ record { number = cond (not (some cs)) 8 (cond (not (some ds)) 8 0); groups = groups_between cs ds }
unfolding some
between-values [] ds = refl
between-values (c ∷ cs) [] = refl
between-values (c ∷ cs) (d ∷ ds) = go (conflicts c d)
  where
    go : (g : Option ℕ) → common_values (shared g) ≡ record { number = 0; groups = group_in g }
    go (Some g) = refl
    go None = refl

pub common-told : (m : Model) (j k : ℕ) (s : Common) → s ≡ common_of j k m.pending → (s ≡ common_of j k m.pending) × (common_values s ≡ common_gives m j k)
unfolding tests first_number common_of
common-told m j k s e =
    let cs = keep (named j) m.pending in
    let ds = keep (named k) m.pending in
    let t = look-number m (at_two j k) in
    (e, ap common_values e ∙ between-values cs ds ∙ ap (λ (n : ℕ). record { number = n; groups = groups_between cs ds }) (sym (t ∙ rw (any-keep j m.pending, any-keep k m.pending))))

-- A lookup without tests is never refused.
pub unrefused : (m : Model) (q : Look) → ((known held : ℕ → Bool) → look_tests known held q ≡ []) → 0 ≡ (step m (looks q)).answer.number
unfolding tests first_number
unrefused m q e = sym (look-number m q ∙ ap first_number (e _ _))
