-- Packing, granting, one claim more, fewer claims and a later clock: each keeps its part of the invariant.
use mathlib.Core.Path.{◌≡◌, refl, ap, subst}
use mathlib.Core.Logic.{◌⊎◌, inl, inr, ⊎_elim, ◌≢◌}
use mathlib.Core.Bool.{Bool, true, false, cond}
use mathlib.Core.List.Memᴰ
use mathlib.Core.List.{List, [], ◌∷◌, ◌++◌}
use Prim.Native.Nat.{ℕ, suc, ◌-◌, ◌≤◌, ◌<◌}
use native.Mathlib.Omega.{arith}
use Rattle.rules.specs.declared.Claim.{Claim}
use Rattle.rules.specs.declared.Phase.TheVariants.{Waiting, On}
use Rattle.rules.specs.Lists.{◌∈◌, sum, keep}
use Rattle.rules.specs.declared.Setting.{Setting}
use Rattle.rules.specs.Claims.{on, at, with_phase, rival, end_of}
use Rattle.rules.specs.Order.{before}
use Rattle.rules.specs.Pool.{units_at, used, held_by, held_units}
use Rattle.rules.specs.Packing.{packed_start, moved, pack, Packs}
use Rattle.rules.specs.Granting.{granted, grant}
use Rattle.rules.specs.Plans.{Sane, Separated, Behind, Earliest, Fits}
use Rattle.rules.specs.Invariants.{Proper, Packable, Spaced, Packed, Settled}
use Rattle.rules.proofs.Bools.{by-test, by_order, clash}
use Rattle.rules.proofs.Lists.{Each, keep-e, keep-i, map_each, snoc-each, snoc-each2, sum-le, sum-keep, sum-keep-le, sum-snoc}
use Rattle.rules.proofs.Claims.{conflicts-sym, end-wait}
use Rattle.rules.proofs.Order.{before_on, before-key, ends-before, before-lt, either-before, ascending-map, ascending-keep, ascending-snoc}
use Rattle.rules.proofs.Pool.{Covers, units-le, units-is}
use Rattle.rules.proofs.Packing.{moved-cases, moved-ticket, pack-starts, pack-tight, pack-apart, pack-separates, pack-earliest, packs-at}
use Rattle.rules.proofs.Granting.{granted-cases, granted-ticket, grant-apart, grant-separates, grant-starts, grant-blocked, grant-earliest}

pub packs : (k : ℕ) (v : Setting) (ps : List Claim) → Packable k v ps → Packed k v (pack v ps)
unfolding pack
packs k v ps f = record {
  spaced =
      record {
        proper = map_each (Proper k v) (moved (packed_start v ps)) ps (λ c m. moved-cases (Proper k v) (packed_start v ps) c (λ p. f.proper c m) (λ p. more c (f.proper c m)));
        ascending = ascending-map (moved (packed_start v ps)) ps (moved-ticket (packed_start v ps)) f.ascending;
        holders = pack-apart v ps f.holders;
        fit = pack-separates v ps sane f.ascending f.holders.stock;
        low = pack-starts v ps;
      };
  tight = pack-tight v ps sane;
  earliest = pack-earliest v ps sane;
}
  where
    sane : Each (Sane v) ps
    sane c m = (f.proper c m).sane

    more : (c : Claim) → Proper k v c → Proper k v (with_phase c (Waiting (packed_start v ps c)))
    more c p = record { sane = record { long = p.sane.long; small = p.sane.small; drawn = p.sane.drawn }; numbered = p.numbered; issued = p.issued; aged = λ e. clash e refl }

pub grant-settles : (k : ℕ) (v : Setting) (ps : List Claim) → Packed k v ps → Settled k v (grant v ps)
unfolding grant
grant-settles k v ps f =
    let s = f.spaced in
    let sane : Each (Sane v) ps = λ c m. (s.proper c m).sane in
    record {
      spaced =
          record {
            proper = map_each (Proper k v) (granted v ps) ps (λ c m. granted-cases (Proper k v) v ps c (λ p. gone c (s.proper c m)) (λ p. s.proper c m));
            ascending = ascending-map (granted v ps) ps (granted-ticket v ps) s.ascending;
            holders = grant-apart v ps s.holders s.fit s.low f.tight sane s.ascending;
            fit = grant-separates v ps s.holders s.fit s.low f.tight sane s.ascending;
            low = grant-starts v ps s.holders s.fit s.low f.tight sane s.ascending;
          };
      blocked = grant-blocked v ps s.holders s.fit s.low f.tight sane s.ascending;
      earliest = grant-earliest v ps f.earliest;
    }
  where
    gone : (c : Claim) → Proper k v c → Proper k v (with_phase c (On v.clock))
    gone c p = record { sane = record { long = p.sane.long; small = p.sane.small; drawn = p.sane.drawn }; numbered = p.numbered; issued = p.issued; aged = λ e. omega arith }

-- ── what the invariant says of two claims, and of a start ──
-- Of two conflicting claims one waits, and the other ends at its start or sooner.
pub spaced-clear : (k : ℕ) (v : Setting) (ps : List Claim) → Spaced k v ps → (c w : Claim) → c ∈ ps → w ∈ ps → c.ticket ≢ w.ticket → rival c w ≡ true
    → ((on w ≡ false) × (end_of v c ≤ at w)) ⊎ ((on c ≡ false) × (end_of v w ≤ at c))
spaced-clear k v ps f c w m n d h =
    by-test (on w)
    (λ q. by-test (on c) (λ p. absurd (f.holders.apart c w m n d h p q)) (λ p. inr (p, after p (before_on w c q))))
    (λ q. by-test (on c)
    (λ p. inl (q, f.fit.behind c w m n q (before_on c w p) h))
    (λ p. ⊎_elim (λ b. inl (q, f.fit.behind c w m n q b h)) (λ b. inr (p, after p b)) (either-before c w (f.proper c m).sane (f.proper w n).sane d)))
  where
    after : on c ≡ false → before w c ≡ true → end_of v w ≤ at c
    after p b = f.fit.behind w c n m p b (conflicts-sym c w h)

-- Planned starts are packed starts.
pub settled-packs : (k : ℕ) (v : Setting) (ps : List Claim) → Settled k v ps → Packs v ps at
settled-packs k v ps f = packs-at v ps (λ c m. (f.spaced.proper c m).sane) f.spaced.ascending f.spaced.fit f.spaced.low f.earliest

-- A later clock, or the same, and the same pool.
pub record Later (v u : Setting) : Type 0 where
  pub later : v.clock ≤ u.clock
  pub same : v.pool ≡ u.pool

pub later-sane : {v u : Setting} {c : Claim} → Later v u → Sane v c → Sane u c
later-sane l s = record { long = s.long; small = s.small; drawn = omega (arith, s.drawn, l.same) }

pub later-self : (v : Setting) → Later v v
later-self v = record { later = omega arith; same = refl }

pub spaced-packable : (k : ℕ) (v u : Setting) (ps : List Claim) → Later v u → Spaced k v ps → Packable k u ps
spaced-packable k v u ps l g = record {
  proper = λ c m. older (g.proper c m);
  ascending = g.ascending;
  holders = record { apart = g.holders.apart; stock = omega (arith, g.holders.stock, l.same) };
}
  where
    older : {c : Claim} → Proper k v c → Proper k u c
    older p = record { sane = later-sane l p.sane; numbered = p.numbered; issued = p.issued; aged = λ e. omega (arith, p.aged e) }

pub spaced-packs : (k : ℕ) (v : Setting) (ps : List Claim) → Spaced k v ps → Packed k v (pack v ps)
spaced-packs k v ps s = packs k v ps (spaced-packable k v v ps (later-self v) s)

-- Some of the claims.
pub spaced-keep : (k : ℕ) (v : Setting) (ps : List Claim) (p : Claim → Bool) → Spaced k v ps → Spaced k v (keep p ps)
unfolding held_units used
spaced-keep k v ps p f = record {
  proper = λ c m. f.proper c (old m);
  ascending = ascending-keep p ps f.ascending;
  holders = record { apart = λ c d m n. f.holders.apart c d (old m) (old n); stock = omega (arith, f.holders.stock, sum-keep-le held_by p ps) };
  fit = record {
    behind = λ c w m n. f.fit.behind c w (old m) (old n);
    supplied = λ x l. omega (arith, f.fit.supplied x l, sum-keep-le (units_at v x) p ps);
  };
  low = λ c m. f.low c (old m);
}
  where
    old : {c : Claim} → c ∈ keep p ps → c ∈ ps
    old m = (keep-e p ps m).0

-- ── one claim more, where it fits ──
module _ (k : ℕ) (v : Setting) (ps : List Claim) (w : Claim) (sane : Sane v w) (waits : on w ≡ false) (fit : Fits v ps w (at w)) where
  pub separated-snoc : Each (Sane v) ps → Separated v ps → Separated v (ps ++ (w ∷ []))
  unfolding used
  separated-snoc sanes p = record {
    behind =
        snoc-each2 (λ (c d : Claim). on d ≡ false → before c d ≡ true → rival c d ≡ true → end_of v c ≤ at d) ps w
        p.behind
        (λ c m q b h. ⊎_elim (λ r. r) (λ r. absurd (omega (arith, before-lt c w b r.0, r.1, sane.long, sane.small))) (fit.room c m h))
        (λ c m q b h.
        ⊎_elim
        (λ r. absurd (omega (arith, before-lt w c b waits, end-wait v c q, (sanes c m).long, (sanes c m).small)))
        (λ r. omega (arith, end-wait v w waits, r.1))
        (fit.room c m (conflicts-sym w c h)))
        (λ q b h. absurd (omega (arith, before-lt w w b waits)));
    supplied = λ x l.
        omega (
          arith,
          p.supplied x l,
          sum-snoc (units_at v x) ps w,
          units-le v x w (v.pool - sum (units_at v x) ps) (λ q z. omega (arith, fit.spare z x (q.begun waits) (omega (arith, q.going, end-wait v w waits)))),
        );
  }

  pub holds-none : held_by w ≡ 0
  holds-none = rw waits

  pub spaced-snoc : Spaced k v ps → w.ticket ≡ suc k → v.clock ≤ at w → Spaced (suc k) v (ps ++ (w ∷ []))
  unfolding held_units
  spaced-snoc p e low = record {
    proper =
        snoc-each (Proper (suc k) v) ps w
        (λ c m. record { sane = (p.proper c m).sane; numbered = (p.proper c m).numbered; issued = omega (arith, (p.proper c m).issued); aged = (p.proper c m).aged })
        (record { sane = sane; numbered = omega arith; issued = omega arith; aged = λ q. clash q waits });
    ascending = ascending-snoc ps w p.ascending (λ c m. omega (arith, (p.proper c m).issued));
    holders = record {
      apart =
          snoc-each2 (λ (c d : Claim). c.ticket ≢ d.ticket → rival c d ≡ true → on c ≡ true → on d ≡ true → ⊥) ps w
          p.holders.apart (λ c m a b q r. clash r waits) (λ c m a b q r. clash q waits) (λ a b q r. clash q waits);
      stock = omega (arith, p.holders.stock, sum-snoc held_by ps w, holds-none);
    };
    fit = separated-snoc (λ c m. (p.proper c m).sane) p.fit;
    low = snoc-each (λ (x : Claim). on x ≡ false → v.clock ≤ at x) ps w p.low (λ q. low);
  }

  -- Where none of the others could start sooner, and w has the least start that fits, none of them all could.
  pub earliest-snoc : Each (Sane v) ps → Earliest v ps → ((s : ℕ) → v.clock ≤ s → Fits v ps w s → at w ≤ s) → Earliest v (ps ++ (w ∷ []))
  unfolding used
  earliest-snoc sanes old least x i o s l b =
      ⊎_elim (λ q. old x q o s l few) (λ q. let e = Memᴰ.eq_of_singleton q in by_order (at w) s (λ z. omega (arith, ap at e)) (last e)) (Memᴰ.append_cases ps i)
    where
      -- Behind more claims a start is no easier.
      few : Behind v (keep (λ c. before c x) ps) x s
      few = record {
        after = λ c m p.
            let r = keep-e (λ c. before c x) ps m in
            b.after c (keep-i (λ c. before c x) r.1 (Memᴰ.append_left (w ∷ []) r.0)) p;
        spare = λ z t a e.
            omega (
              arith,
              b.spare z t a e,
              sum-keep (units_at v t) (λ c. before c x) ps,
              sum-keep (units_at v t) (λ c. before c x) (ps ++ (w ∷ [])),
              sum-snoc (λ c. cond (before c x) (units_at v t c) 0) ps w,
            );
      }

      -- A start sooner than its own, behind those before it, would fit w.
      sooner : s ≤ at w → Behind v (keep (λ c. before c w) ps) w s → Fits v ps w s
      sooner l k = record {
        room = λ c m h.
            ⊎_elim
            (λ r. inl (k.after c (keep-i (λ c. before c w) (ends-before v c w (sanes c m) r) m) h))
            (λ r. inr (r.0, omega (arith, r.1)))
            (fit.room c m h);
        spare = λ z t a e.
            by_order (at w) t
            (λ q. fit.spare z t q (omega arith))
            (λ q. omega (arith, k.spare z t a e, sum-keep (units_at v t) (λ c. before c w) ps, sum-le (units_at v t) (λ c. cond (before c w) (units_at v t c) 0) ps (each t q)));
      }
        where
          -- What is used before w starts is used by claims before it.
          each : (t : ℕ) → t < at w → (c : Claim) → c ∈ ps → units_at v t c ≤ cond (before c w) (units_at v t c) 0
          each t q c m = units-le v t c (cond (before c w) (units_at v t c) 0) (λ y z. rw (first c m y) (omega (arith, units-is v t c y)))
            where
              first : (c : Claim) → c ∈ ps → Covers v t c → before c w ≡ true
              first c m y = by-test (on c) (before_on c w) (λ o. before-key c w (omega (arith, y.begun o, (sanes c m).small)))

      last : x ≡ w → s < at w → at x ≤ s
      last e q =
          let k = subst (λ (y : Claim). Behind v (keep (λ c. before c y) ps) y s) e few in
          omega (arith, ap at e, least s l (sooner (omega arith) k))
