-- Granting: the groups and units that are held, collected claim by claim, tell who goes on in a packed row. The grants are written front to back
-- over the claims of the row, the tickets into a row of their own. Rests on `union-shares` of groups and on `goes-quick` of rules.
use mathlib.Core.Path.{◌≡◌, refl, sym, ◌∙◌, ap, subst}
use mathlib.Core.Logic.{⊎_elim}
use mathlib.Core.Bool.{Bool, true, false, ◌&&◌, ◌||◌, cond, or_assoc, or-false}
use mathlib.Core.List.{List, [], ◌∷◌, ◌++◌, map, map-append, append-nil, append_assoc}
use Prim.Native.Nat.{ℕ, suc, ◌+◌, ◌-◌, ◌≤◌, ◌<◌}
use native.Mathlib.Omega.{arith}
use native.Mathlib.Numerals.{add-one}
use lib.ListN.{length, take, drop, get_or, set, length-map}
use lib.Dec.{leb, eqb}
use lib.Seq.{length-take-le, take-suc, take_all, split_at, set_at}
use borrow.Author.Tests.{leb-true, le-leb, eqb-true}
use Rattle.std.proofs.lemmas.List.{drop_all, get_or-append_right}
use Rattle.groups.specs.Groups.{shares, union}
use Rattle.groups.proofs.Groups.{union-shares}
use Rattle.groups.proofs.Words.{zero-shares}
use Rattle.rules.specs.declared.Claim.{Claim}
use Rattle.rules.specs.declared.Phase.TheVariants.{On}
use Rattle.rules.specs.declared.Setting.{Setting}
use Rattle.rules.specs.Lists.{any, keep, sum}
use Rattle.rules.specs.Claims.{on, at, with_phase}
use Rattle.rules.specs.Pool.{held_units}
use Rattle.rules.specs.Plans.{Ascending, Sane, StartsFrom}
use Rattle.rules.specs.Granting.{taken_before, truly_free, goes, granted, grant, grants}
use Rattle.rules.specs.Vacant.{vacant}
use Rattle.rules.proofs.Bools.{by-test, both_ways, or-e, or_r}
use Rattle.rules.proofs.Lists.{Each, keep-length, sum-snoc}
use Rattle.rules.proofs.Granting.{granted-go, granted-stay, goes-at, goes-truly-free, goes-quick, taken-front}
use Rattle.plan.specs.Rows.{InRange}
use Rattle.plan.specs.Holders.{goes_at}
use Rattle.plan.proofs.Rows.{row_step}

-- ── the first pass ──
-- d is on and has a group of x.
abbrev holds : ℕ → Claim → Bool
holds x d = on d && shares d.groups x

-- The claims in rest are left: h has the groups of the holders and `free` units are not held, but for theirs.
pub record Holding (pool : ℕ) (ps rest : List Claim) (h free : ℕ) : Type 0 where
  pub all : (x : ℕ) → (shares h x || any (holds x) rest) ≡ any (holds x) ps
  pub stock : held_units ps ≤ pool
  pub left : free + held_units ps ≡ pool + held_units rest

module _ {pool : ℕ} {ps : List Claim} where
  pub holding-start : held_units ps ≤ pool → Holding pool ps ps 0 pool
  holding-start s = record { all = λ x. rw (zero-shares x); stock = s; left = refl }

  module _ {c : Claim} {rest : List Claim} {h free : ℕ} (p : Holding pool ps (c ∷ rest) h free) where
    pub holding-covers : on c ≡ true → c.units ≤ free
    unfolding held_units sum
    holding-covers o = let e = rw o at p.left in omega (arith, p.stock)

    pub holding_on : on c ≡ true → Holding pool ps rest (union h c.groups) (free - c.units)
    unfolding any held_units sum
    holding_on o = record {
      all = λ x. rw (union-shares h c.groups x) (or_assoc (shares h x) (shares c.groups x) (any (holds x) rest) ∙ (rw o at (p.all x)));
      stock = p.stock;
      left = let e = rw o at p.left in omega (arith, p.stock);
    }

    pub holding_wait : on c ≡ false → Holding pool ps rest h free
    unfolding any held_units sum
    holding_wait o = record { all = λ x. rw o at (p.all x); stock = p.stock; left = let e = rw o at p.left in omega (arith, e) }

-- What the first pass tells: h shares a group with x exactly where a holder does, and the holders leave `free` units.
pub record Held (pool : ℕ) (ps : List Claim) (h free : ℕ) : Type 0 where
  pub groups : (x : ℕ) → shares h x ≡ any (holds x) ps
  pub units : free + held_units ps ≡ pool

pub holding-end : {pool : ℕ} {ps : List Claim} {i h free : ℕ} → length ps ≤ i → Holding pool ps (drop i ps) h free → Held pool ps h free
unfolding any held_units sum
holding-end {ps = ps} {i} {h} l p =
    let e = drop_all i ps l in
    let q = rw e at p in
    record { groups = λ x. sym (or-false (shares h x)) ∙ q.all x; units = omega (arith, q.left) }

-- ── the grants ──
keep-append : {A : Type 0} (p : A → Bool) (a b : List A) → keep p (a ++ b) ≡ keep p a ++ keep p b
unfolding keep
keep-append p [] b = refl
keep-append p (x ∷ a) b = let ih = keep-append p a b in by-test (p x) (λ e. rw e (ap (λ l. x ∷ l) ih)) (λ e. rw e ih)

-- The tickets of those of l that go on among ps.
abbrev tickets : Setting → List Claim → List Claim → List ℕ
tickets v ps l = map (λ c. c.ticket) (keep (goes v ps) l)

-- The units of c, where it goes on.
abbrev taken : Setting → List Claim → Claim → ℕ
taken v ps c = cond (goes v ps c) c.units 0

-- The first i claims are done: they stand in the row as granted, `out` has the tickets of those that go on, and so many units are still free.
pub record Written (v : Setting) (ps : List Claim) (i : ℕ) (new : List Claim) (out : List ℕ) (free : ℕ) : Type 0 where
  pub within : i ≤ length ps
  pub claims : new ≡ map (granted v ps) (take i ps) ++ drop i ps
  pub told : out ≡ tickets v ps (take i ps)
  pub spent : free + held_units ps + sum (taken v ps) (take i ps) ≡ v.pool

pub written_start : {v : Setting} {ps : List Claim} {h free : ℕ} → Held v.pool ps h free → Written v ps 0 ps [] free
unfolding keep sum
written_start p = record { within = omega arith; claims = refl; told = refl; spent = omega (arith, p.units) }

module _ {v : Setting} {ps : List Claim} {i : ℕ} {new : List Claim} {out : List ℕ} {free : ℕ} (w : Written v ps i new out free) where
  abbrev next : Claim
  next = get_or ps i vacant

  front-length : length (map (granted v ps) (take i ps)) ≡ i
  front-length = length-map (take i ps) (granted v ps) ∙ length-take-le i ps w.within

  -- A ticket for each claim at most.
  pub written-fewer : length out ≤ i
  written-fewer =
      omega (arith, ap length w.told, length-map (keep (goes v ps) (take i ps)) (λ c. c.ticket), keep-length (goes v ps) (take i ps), length-take-le i ps w.within)

  module _ (h : i < length ps) where
    -- The next claim is as it was.
    pub written-next : get_or new i vacant ≡ next
    written-next =
        ap (λ l. get_or l i vacant) (w.claims ∙ ap (λ l. map (granted v ps) (take i ps) ++ l) (row_step ps i h))
        ∙ get_or-append_right (map (granted v ps) (take i ps)) (next ∷ drop (i + 1) ps) i i vacant front-length (omega arith)
        ∙ (let z : i - i ≡ 0 = omega arith in rw z)

    -- The claims in front of the next, and it.
    front_next : take (i + 1) ps ≡ take i ps ++ (next ∷ [])
    front_next = ap (λ k. take k ps) (add-one i) ∙ take-suc ps i vacant h

    before-next : InRange v ps → at next ≡ v.clock → sum (taken_before (goes v ps) next) ps ≡ sum (taken v ps) (take i ps)
    before-next r a =
        subst
        (λ (l : List Claim). Each (Sane v) l → Ascending l → sum (taken_before (goes v l) next) l ≡ sum (taken v l) (take i ps)) (sym (split_at ps i vacant h))
        (λ s u. taken-front v (take i ps) (drop (suc i) ps) next s u a) (λ d j. (r.sized d j).sane) r.ascending

    -- The units free tell whether its units are truly free.
    free-is : InRange v ps → at next ≡ v.clock → truly_free v ps (goes v ps) next ≡ leb next.units free
    unfolding truly_free
    free-is r a =
        let e = before-next r a in
        let f = w.spent in
        both_ways _ _
        (λ z. le-leb next.units free (⊎_elim (λ y. omega (arith, eqb-true next.units 0 y)) (λ y. omega (arith, leb-true (held_units ps + sum (taken_before (goes v ps) next) ps + next.units) v.pool y)) (or-e (eqb next.units 0) _ z)))
        (λ z. or_r (eqb next.units 0) _ (le-leb (held_units ps + sum (taken_before (goes v ps) next) ps + next.units) v.pool (omega (arith, leb-true next.units free z))))

    -- Groups and units tell whether the next claim goes on, as it is read from the row.
    pub written-goes : {held first : ℕ} → InRange v ps → StartsFrom v.clock ps → Held v.pool ps held first → goes v ps next ≡ goes_at v.clock held free (get_or new i vacant)
    written-goes r low k =
        rw (written-next, k.groups next.groups)
        (goes-quick v ps low next
        ∙ by-test (eqb (at next) v.clock) (λ e. rw (e, free-is r (eqb-true _ _ e))) (λ e. rw e))

    spent-more : sum (taken v ps) (take (i + 1) ps) ≡ sum (taken v ps) (take i ps) + taken v ps next
    spent-more = ap (sum (taken v ps)) front_next ∙ sum-snoc (taken v ps) (take i ps) next

    claims-more : map (granted v ps) (take (i + 1) ps) ++ drop (i + 1) ps ≡ map (granted v ps) (take i ps) ++ (granted v ps next ∷ drop (i + 1) ps)
    claims-more =
        ap (λ l. map (granted v ps) l ++ drop (i + 1) ps) front_next
        ∙ ap (λ l. l ++ drop (i + 1) ps) (map-append (granted v ps) (take i ps) (next ∷ []))
        ∙ append_assoc (map (granted v ps) (take i ps)) (granted v ps next ∷ []) (drop (i + 1) ps)

    told-more : tickets v ps (take (i + 1) ps) ≡ tickets v ps (take i ps) ++ tickets v ps (next ∷ [])
    told-more =
        ap (tickets v ps) front_next ∙ ap (map (λ c. c.ticket)) (keep-append (goes v ps) (take i ps) (next ∷ []))
        ∙ map-append (λ c. c.ticket) (keep (goes v ps) (take i ps)) (keep (goes v ps) (next ∷ []))

    -- What goes on draws no more than is free.
    written-covers : InRange v ps → goes v ps next ≡ true → next.units ≤ free
    written-covers r g = leb-true next.units free (sym (free-is r (goes-at v ps next g)) ∙ goes-truly-free v ps next g)

    -- It goes on, and stands as x in the row.
    pub written-gone : InRange v ps → (c x : Claim) → c ≡ next → goes v ps next ≡ true → x ≡ with_phase c (On v.clock)
        → Written v ps (i + 1) (set new i x) (out ++ (c.ticket ∷ [])) (free - c.units)
    unfolding keep
    written-gone r c x e g q = record {
      within = omega arith;
      claims =
          ap (λ l. set l i x) (w.claims ∙ ap (λ l. map (granted v ps) (take i ps) ++ l) (row_step ps i h))
          ∙ set_at (map (granted v ps) (take i ps)) next (drop (i + 1) ps) x i front-length
          ∙ ap (λ y. map (granted v ps) (take i ps) ++ (y ∷ drop (i + 1) ps)) (q ∙ ap (λ y. with_phase y (On v.clock)) e ∙ sym (granted-go v ps next g))
          ∙ sym claims-more;
      told = ap (λ l. l ++ (c.ticket ∷ [])) w.told ∙ sym (told-more ∙ (rw (g, ← e)));
      spent =
          let t : taken v ps next ≡ next.units = rw g in
          omega (arith, w.spent, spent-more, written-covers r g, ap (λ (y : Claim). y.units) e);
    }

    -- It does not go on.
    pub written-stay : goes v ps next ≡ false → Written v ps (i + 1) new out free
    unfolding keep
    written-stay g = record {
      within = omega arith;
      claims =
          w.claims ∙ ap (λ l. map (granted v ps) (take i ps) ++ l) (row_step ps i h)
          ∙ ap (λ y. map (granted v ps) (take i ps) ++ (y ∷ drop (i + 1) ps)) (sym (granted-stay v ps next g))
          ∙ sym claims-more;
      told = w.told ∙ sym (told-more ∙ (rw g (append-nil _)));
      spent = let t : taken v ps next ≡ 0 = rw g in omega (arith, w.spent, spent-more);
    }

  -- All claims are done.
  pub written-end : length ps ≤ i → (new ≡ grant v ps) × (out ≡ grants v ps)
  unfolding grant grants
  written-end h = (
    w.claims ∙ ap (λ l. map (granted v ps) l ++ drop i ps) (take_all i ps h) ∙ ap (λ l. map (granted v ps) ps ++ l) (drop_all i ps h) ∙ append-nil _,
    w.told ∙ ap (tickets v ps) (take_all i ps h),
  )
