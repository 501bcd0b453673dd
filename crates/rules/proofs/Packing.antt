-- Packing: the equation of a packed start; that packing is what the papers say; what packing gives, keeps, and leaves alone.
-- Of an end it uses only proofs/Claims, of a start behind other claims only proofs/Starts, of planned use only proofs/Pool.
use mathlib.Core.Path.{◌≡◌, refl, sym, ◌∙◌, ap, subst}
use mathlib.Core.Logic.{◌⊎◌, inl, inr, ⊎_elim, ◌≢◌}
use mathlib.Core.Bool.{Bool, true, false, not, ◌&&◌, cond}
use mathlib.Core.List.{List, [], ◌∷◌, map}
use Prim.Native.Nat.{ℕ, zero, suc, ◌+◌, ◌≤◌, ◌<◌}
use native.Mathlib.Omega.{arith}
use lib.Dec.{ltb}
use lib.ListN.{length, length-map}
use borrow.Author.Tests.{ltb-true, ltb-false, not-true}
use Rattle.rules.specs.declared.Claim.{Claim}
use Rattle.rules.specs.declared.Phase.TheVariants.{Waiting}
use Rattle.rules.specs.Lists.{◌∈◌, sum, keep}
use Rattle.rules.specs.declared.Setting.{Setting}
use Rattle.rules.specs.Claims.{on, at, with_phase, rival, end_of}
use Rattle.rules.specs.Order.{key, before, precedes, meets}
use Rattle.rules.specs.Pool.{units_at, used, held_by, held_units}
use Rattle.rules.specs.Packing.{start_for, moved, ahead, start_within, packed_start, pack, MayStart, Packs}
use Rattle.rules.specs.Plans.{Ascending, Sane, Apart, Separated, StartsFrom, HeldUp, Tight, Behind, Earliest}
use Rattle.rules.proofs.Bools.{by-test, by_order, clash, and_l, and_r, same?}
use Rattle.rules.proofs.Lists.{Each, Each2, here, there, keep-e, keep-i, map-id, map-e, map-i, map_each, map-each2, sum-le, sum-cong, sum-map, sum-keep, sum-gap, sum-but}
use Rattle.rules.proofs.Claims.{conflicts-sym, waiting-is, end-wait}
use Rattle.rules.proofs.Order.{before_on, before-key, before-lt, before-not, keys-differ, either-before, by_key, last_of, ends-before, precedes-conflicts, precedes-on, precedes-lt, precedes-before, ascending-same}
use Rattle.rules.proofs.Pool.{units-le, units-is, units-cover, units_mono}
use Rattle.rules.proofs.Starts.{for-low, for-behind, for-least, for-is}

-- ── a claim at a new start ──
pub moved_on : (f : Claim → ℕ) (c : Claim) → on c ≡ true → moved f c ≡ c
unfolding moved
moved_on f c e = rw (e, moved)

pub moved-wait : (f : Claim → ℕ) (c : Claim) → on c ≡ false → moved f c ≡ with_phase c (Waiting (f c))
unfolding moved
moved-wait f c e = rw (e, moved)

-- To show something of a claim at its new start, show it of these two.
pub moved-cases : (P : Claim → Type 0) (f : Claim → ℕ) (c : Claim) → (on c ≡ true → P c) → (on c ≡ false → P (with_phase c (Waiting (f c)))) → P (moved f c)
moved-cases P f c h k = by-test (on c) (λ e. rw (moved_on f c e) (h e)) (λ e. rw (moved-wait f c e) (k e))

pub moved-ticket : (f : Claim → ℕ) (c : Claim) → (moved f c).ticket ≡ c.ticket
moved-ticket f c = moved-cases (λ (x : Claim). x.ticket ≡ c.ticket) f c (λ p. refl) (λ p. refl)

pub moved_at : (f : Claim → ℕ) (c : Claim) → on c ≡ false → at (moved f c) ≡ f c
moved_at f c o = moved-cases (λ (x : Claim). at x ≡ f c) f c (λ q. clash q o) (λ q. refl)

pub moved-phase : (f : Claim → ℕ) (c : Claim) → on (moved f c) ≡ on c
moved-phase f c = moved-cases (λ (x : Claim). on x ≡ on c) f c (λ q. refl) (λ q. sym q)

pub moved-conflicts : (f : Claim → ℕ) (c w : Claim) → rival (moved f c) w ≡ rival c w
moved-conflicts f c w = moved-cases (λ (x : Claim). rival x w ≡ rival c w) f c (λ q. refl) (λ q. refl)

pub moved-units : (f : Claim → ℕ) (c : Claim) → (moved f c).units ≡ c.units
moved-units f c = moved-cases (λ (x : Claim). x.units ≡ c.units) f c (λ q. refl) (λ q. refl)

pub moved-sane : {v : Setting} (f : Claim → ℕ) (c : Claim) → Sane v c → Sane v (moved f c)
moved-sane {v} f c s = moved-cases (Sane v) f c (λ q. s) (λ q. record { long = s.long; small = s.small; drawn = s.drawn })

pub moved-cong : (f g : Claim → ℕ) (c : Claim) → (on c ≡ false → f c ≡ g c) → moved f c ≡ moved g c
moved-cong f g c h =
    moved-cases (λ (x : Claim). x ≡ moved g c) f c (λ o. sym (moved_on g c o))
    (λ o. ap (λ (s : ℕ). with_phase c (Waiting s)) (h o) ∙ sym (moved-wait g c o))

-- A claim at the start that it has.
pub moved_same : (f : Claim → ℕ) (c : Claim) → (on c ≡ false → f c ≡ at c) → moved f c ≡ c
moved_same f c h = moved-cases (λ (x : Claim). x ≡ c) f c (λ o. refl) (λ o. ap (λ (s : ℕ). with_phase c (Waiting s)) (h o) ∙ waiting-is c o)

-- ── the claims ahead of w ──
pub ahead-e : (f : Claim → ℕ) (ps : List Claim) (w : Claim) {d : Claim} → d ∈ ahead f ps w → (c : Claim) × c ∈ ps × (before c w ≡ true) × (d ≡ moved f c)
unfolding ahead
ahead-e f ps w m =
    let r = map-e (moved f) (keep (λ c. before c w) ps) m in
    let k = keep-e (λ c. before c w) ps r.1 in
    (r.0, k.0, k.1, r.2)

pub ahead-i : (f : Claim → ℕ) (ps : List Claim) (w : Claim) {c : Claim} → c ∈ ps → before c w ≡ true → moved f c ∈ ahead f ps w
unfolding ahead
ahead-i f ps w m b = map-i (moved f) (keep-i (λ c. before c w) b m)

-- What holds of each claim before w, at its new start, holds of each claim ahead.
ahead-each : (P : Claim → Type 0) (f : Claim → ℕ) (ps : List Claim) (w : Claim)
    → ((c : Claim) → c ∈ ps → before c w ≡ true → on c ≡ true → P c)
    → ((c : Claim) → c ∈ ps → before c w ≡ true → on c ≡ false → P (with_phase c (Waiting (f c))))
    → Each P (ahead f ps w)
ahead-each P f ps w h k d m =
    let r = ahead-e f ps w m in
    subst P (sym r.3) (moved-cases P f r.0 (h r.0 r.1 r.2) (k r.0 r.1 r.2))

ahead-cong : (f g : Claim → ℕ) (ps : List Claim) (w : Claim)
    → ((c : Claim) → c ∈ ps → on c ≡ false → before c w ≡ true → f c ≡ g c) → ahead f ps w ≡ ahead g ps w
unfolding ahead keep
ahead-cong f g [] w h = refl
ahead-cong f g (c ∷ ps) w h =
    let ih = ahead-cong f g ps w (λ d m. h d (there m)) in
    by-test (before c w) (λ e. rw e (cc (moved-cong f g c (λ o. h c here o e)))) (λ e. rw e ih)

-- ── the equation ──
enough : (j k : ℕ) (v : Setting) (ps : List Claim) (w : Claim) → key w < j → key w < k → start_within j v ps w ≡ start_within k v ps w
unfolding start_within
enough zero k v ps w p q = absurd (omega arith)
enough (suc j) zero v ps w p q = absurd (omega arith)
enough (suc j) (suc k) v ps w p q =
    ap (λ (l : List Claim). start_for v l w)
    (ahead-cong (λ c. start_within j v ps c) (λ c. start_within k v ps c) ps w
    (λ c m o e. let l = before-lt c w e o in enough j k v ps c (omega arith) (omega arith)))

-- A packed start is the start behind the claims before it, at their packed starts.
pub start-eq : (v : Setting) (ps : List Claim) (w : Claim) → packed_start v ps w ≡ start_for v (ahead (packed_start v ps) ps w) w
unfolding packed_start start_within
start-eq v ps w =
    ap (λ (l : List Claim). start_for v l w)
    (ahead-cong (λ c. start_within (key w) v ps c) (packed_start v ps) ps w
    (λ c m o e. enough (key w) (suc (key c)) v ps c (before-lt c w e o) (omega arith)))

-- What the claims ahead use, summed over all claims.
pub ahead-used : (v : Setting) (x : ℕ) (f : Claim → ℕ) (ps : List Claim) (w : Claim)
    → used v x (ahead f ps w) ≡ sum (λ c. cond (before c w) (units_at v x (moved f c)) 0) ps
unfolding used ahead
ahead-used v x f ps w =
    sum-map (units_at v x) (moved f) (keep (λ c. before c w) ps) ∙ sum-keep (λ c. units_at v x (moved f c)) (λ c. before c w) ps

-- ── packing is what the papers say ──
-- No two conflicting waiting claims have the same start.
abbrev pub Untied : List Claim → Type 0
Untied ps = Each2 (λ c w. on c ≡ false → on w ≡ false → c.ticket ≢ w.ticket → rival c w ≡ true → at c ≢ at w) ps

pub separated-untied : (v : Setting) (ps : List Claim) → Each (Sane v) ps → Separated v ps → Untied ps
separated-untied v ps sane f c w m k oc ow n h e = go (either-before c w (sane c m) (sane w k) n)
  where
    go : (before c w ≡ true) ⊎ (before w c ≡ true) → ⊥
    go (inl b) = omega (arith, f.behind c w m k ow b h, end-wait v c oc, (sane c m).long)
    go (inr b) = omega (arith, f.behind w c k m oc b (conflicts-sym c w h), end-wait v w ow, (sane w k).long)

module _ (v : Setting) (ps : List Claim) (sane : Each (Sane v) ps) (ascending : Ascending ps) (untied : Untied ps) where
  first-precedes : (c w : Claim) → c ∈ ps → w ∈ ps → on w ≡ false → before c w ≡ true → rival c w ≡ true → precedes c w ≡ true
  first-precedes c w m k o b h =
      by-test (on c) (precedes-on c w h)
      (λ q.
      let l = before-lt c w b q in
      ⊎_elim
      (λ e. absurd (omega (arith, ap key (ascending-same ps ascending c w m k e))))
      (λ n. by_order (at w) (at c) (λ x. absurd (untied c w m k q o n h (omega (arith, (sane c m).small, (sane w k).small)))) (precedes-lt c w h))
      (same? c.ticket w.ticket))

  -- At any starts f: behind the claims ahead of w is after those that precede it.
  may-behind : (f : Claim → ℕ) (w : Claim) → w ∈ ps → on w ≡ false → (s : ℕ) → MayStart v ps f w s → Behind v (ahead f ps w) w s
  may-behind f w k o s h = record {
    after = λ d i q.
        let a = ahead-e f ps w i in
        let r : rival a.0 w ≡ true = sym (moved-conflicts f a.0 w) ∙ sym (ap (λ (x : Claim). rival x w) a.3) ∙ q in
        omega (arith, ap (end_of v) a.3, h.after a.0 a.1 (first-precedes a.0 w a.1 k o a.2 r));
    spare = h.spare;
  }

  behind-may : (f : Claim → ℕ) (w : Claim) (s : ℕ) → v.clock ≤ s → Behind v (ahead f ps w) w s → MayStart v ps f w s
  behind-may f w s l h = record {
    from_clock = l;
    after = λ c m p. h.after (moved f c) (ahead-i f ps w m (precedes-before c w (sane c m) p)) (moved-conflicts f c w ∙ precedes-conflicts c w p);
    spare = h.spare;
  }

  pub pack-as-documented : Packs v ps (packed_start v ps)
  pack-as-documented w m o =
      let f = packed_start v ps in
      let a = ahead f ps w in (
        subst (MayStart v ps f w) (sym (start-eq v ps w)) (behind-may f w (start_for v a w) (for-low v a w) (for-behind v a w (sane w m))),
        λ s h. rw (start-eq v ps w) (for-least v a w (sane w m) s h.from_clock (may-behind f w m o s h)),
      )

  -- No other starts are so.
  pub pack-unique : (f : Claim → ℕ) → Packs v ps f → (w : Claim) → w ∈ ps → on w ≡ false → f w ≡ packed_start v ps w
  pack-unique f p = by_key (λ (w : Claim). f w ≡ packed_start v ps w) ps (λ w m o ih.
      let a = ahead f ps w in
      let h = p w m o in
      let e : start_for v a w ≡ packed_start v ps w = ap (λ (l : List Claim). start_for v l w) (ahead-cong f (packed_start v ps) ps w ih) ∙ sym (start-eq v ps w) in
      omega (
        arith,
        e,
        h.1 (start_for v a w) (behind-may f w (start_for v a w) (for-low v a w) (for-behind v a w (sane w m))),
        for-least v a w (sane w m) (f w) h.0.from_clock (may-behind f w m o (f w) h.0),
      ))

-- ── what packing gives ──
module _ (v : Setting) (ps : List Claim) where
  new : Claim → Claim
  new c = with_phase c (Waiting (packed_start v ps c))

  start-low : (w : Claim) → v.clock ≤ packed_start v ps w
  start-low w = rw (start-eq v ps w) (for-low v (ahead (packed_start v ps) ps w) w)

  pub pack-length : length (pack v ps) ≡ length ps
  unfolding pack
  pack-length = length-map ps (moved (packed_start v ps))

  pub pack-starts : StartsFrom v.clock (pack v ps)
  unfolding pack
  pack-starts =
      map_each (λ (x : Claim). on x ≡ false → v.clock ≤ at x) (moved (packed_start v ps)) ps
      (λ c m. moved-cases (λ (x : Claim). on x ≡ false → v.clock ≤ at x) (packed_start v ps) c (λ p q. clash p q) (λ p q. start-low c))

  pub pack-held : held_units (pack v ps) ≡ held_units ps
  unfolding pack held_units
  pack-held =
      sum-map held_by (moved (packed_start v ps)) ps
      ∙ sum-cong (λ c. held_by (moved (packed_start v ps) c)) held_by ps
      (λ c m. moved-cases (λ (x : Claim). held_by x ≡ held_by c) (packed_start v ps) c (λ o. refl) (λ o. rw o))

  pub pack-apart : Apart v ps → Apart v (pack v ps)
  unfolding pack
  pack-apart h = record {
    apart =
        map-each2 (λ (c d : Claim). c.ticket ≢ d.ticket → rival c d ≡ true → on c ≡ true → on d ≡ true → ⊥) (moved (packed_start v ps)) ps
        (λ c d m k. moved-cases (λ (x : Claim). x.ticket ≢ (moved (packed_start v ps) d).ticket → rival x (moved (packed_start v ps) d) ≡ true → on x ≡ true → on (moved (packed_start v ps) d) ≡ true → ⊥) (packed_start v ps) c
        (λ p. moved-cases (λ (y : Claim). c.ticket ≢ y.ticket → rival c y ≡ true → on c ≡ true → on y ≡ true → ⊥) (packed_start v ps) d (λ q. h.apart c d m k) (λ q a b e f. clash f refl))
        (λ p a b e f. clash e refl));
    stock = omega (arith, h.stock, pack-held);
  }

  module _ (sane : Each (Sane v) ps) where
    pub start-behind : (w : Claim) → w ∈ ps → Behind v (ahead (packed_start v ps) ps w) w (packed_start v ps w)
    start-behind w k = subst (Behind v (ahead (packed_start v ps) ps w) w) (sym (start-eq v ps w)) (for-behind v (ahead (packed_start v ps) ps w) w (sane w k))

    start-on : (c w : Claim) → c ∈ ps → w ∈ ps → rival c w ≡ true → on c ≡ true → end_of v c ≤ packed_start v ps w
    start-on c w m k p o =
        (start-behind w k).after c (subst (λ (x : Claim). x ∈ ahead (packed_start v ps) ps w) (moved_on (packed_start v ps) c o) (ahead-i (packed_start v ps) ps w m (before_on c w o))) p

    -- Order is kept: what was before w, and conflicts with it, ends at its new start or sooner.
    pub pack-keeps-order : (c w : Claim) → c ∈ ps → w ∈ ps → rival c w ≡ true → on c ≡ false → before c w ≡ true → packed_start v ps c + c.length ≤ packed_start v ps w
    unfolding new
    pack-keeps-order c w m k p o b =
        omega (
          arith,
          end-wait v (new c) refl,
          (start-behind w k).after (new c) (subst (λ (x : Claim). x ∈ ahead (packed_start v ps) ps w) (moved-wait (packed_start v ps) c o) (ahead-i (packed_start v ps) ps w m b)) p,
        )

    -- What precedes a waiting claim still does.
    pub pack-precedes : (c w : Claim) → c ∈ ps → w ∈ ps → on w ≡ false → precedes c w ≡ true
        → precedes (moved (packed_start v ps) c) (moved (packed_start v ps) w) ≡ true
    pack-precedes c w m k o p =
        by-test (on c)
        (λ q. precedes-on _ _ h (moved-phase (packed_start v ps) c ∙ q))
        (λ q.
        precedes-lt _ _ h
        (omega (
          arith,
          moved_at (packed_start v ps) c q,
          moved_at (packed_start v ps) w o,
          pack-keeps-order c w m k (precedes-conflicts c w p) q (precedes-before c w (sane c m) p),
          (sane c m).long,
        )))
      where
        h : rival (moved (packed_start v ps) c) (moved (packed_start v ps) w) ≡ true
        h =
            moved-conflicts (packed_start v ps) c (moved (packed_start v ps) w)
            ∙ moved-cases (λ (x : Claim). rival c x ≡ rival c w) (packed_start v ps) w (λ q. refl) (λ q. refl)
            ∙ precedes-conflicts c w p

    pub pack-tight : Tight v (pack v ps)
    unfolding pack
    pack-tight =
        map_each (λ (x : Claim). on x ≡ false → (at x ≡ v.clock) ⊎ HeldUp v (pack v ps) x) (moved (packed_start v ps)) ps
        (λ w m. moved-cases (λ (x : Claim). on x ≡ false → (at x ≡ v.clock) ⊎ HeldUp v (pack v ps) x) (packed_start v ps) w (λ p q. clash p q)
        (λ p q. subst (λ (s : ℕ). (s ≡ v.clock) ⊎ HeldUp v (pack v ps) (with_phase w (Waiting s))) (sym (start-eq v ps w)) (go w (for-is v (ahead (packed_start v ps) ps w) w (sane w m)))))
      where
        go : (w : Claim)
            → (start_for v (ahead (packed_start v ps) ps w) w ≡ v.clock)
            ⊎ ((c : Claim) × c ∈ ahead (packed_start v ps) ps w × (meets c w ≡ true) × (end_of v c ≡ start_for v (ahead (packed_start v ps) ps w) w))
            → (start_for v (ahead (packed_start v ps) ps w) w ≡ v.clock) ⊎ HeldUp v (map (moved (packed_start v ps)) ps) (with_phase w (Waiting (start_for v (ahead (packed_start v ps) ps w) w)))
        go w (inl e) = inl e
        go w (inr r) =
            let a = ahead-e (packed_start v ps) ps w r.1 in
            inr (r.0, subst (λ (x : Claim). x ∈ map (moved (packed_start v ps)) ps) (sym a.3) (map-i (moved (packed_start v ps)) a.1), r.2, r.3)

    -- Planned use never exceeds the pool: look at the last waiting claim, in the order of packing, that uses any of it at x.
    pack-supplied : Ascending ps → held_units ps ≤ v.pool → (x : ℕ) → v.clock ≤ x → used v x (pack v ps) ≤ v.pool
    unfolding pack used held_units
    pack-supplied ascending stock x l = omega (arith, sum-map (units_at v x) (moved n) ps, ⊎_elim none-waits some-waits (last_of busy ps))
      where
        n : Claim → ℕ
        n = packed_start v ps

        -- What c uses at x, as packed.
        f : Claim → ℕ
        f c = units_at v x (moved n c)

        busy : Claim → Bool
        busy c = not (on c) && ltb 0 (f c)

        f-le : (c : Claim) → f c ≤ c.units
        f-le c = units-le v x (moved n c) c.units (λ k z. omega (arith, moved-units n c))

        holder : (c : Claim) → busy c ≡ false → f c ≤ held_by c
        holder c e =
            by-test (on c)
            (λ o. rw o (f-le c))
            (λ o. let z = ltb-false 0 (f c) (rw o at e) in omega arith)

        none-waits : Each (λ c. busy c ≡ false) ps → sum f ps ≤ v.pool
        none-waits h = omega (arith, stock, sum-le f held_by ps (λ c m. holder c (h c m)))

        some-waits : ((w : Claim) × w ∈ ps × (busy w ≡ true) × ((c : Claim) → c ∈ ps → busy c ≡ true → key c ≤ key w)) → sum f ps ≤ v.pool
        some-waits r =
            let w = r.0 in
            let m = r.1 in
            let o = not-true (on w) (and_l (not (on w)) _ r.2) in
            let z = ltb-true 0 (f w) (and_r (not (on w)) _ r.2) in
            let k = units-cover v x (moved n w) z in
            let s = (start-behind w m).spare (omega (arith, k.1, moved-units n w)) x
            (omega (arith, k.0.begun (moved-phase n w ∙ o), moved_at n w o))
            (omega (arith, k.0.going, end-wait v (moved n w) (moved-phase n w ∙ o), moved_at n w o, moved_length w)) in
            omega (
              arith,
              s,
              ahead-used v x n ps w,
              sum-but (λ (c : Claim). c.ticket) f (λ c. cond (before c w) (f c) 0) w.ticket w.units ps ascending
                  (λ c i d. other w m r.3 c i d)
                  (λ c i d. let q = ap (λ (y : Claim). y.units) (ascending-same ps ascending c w i m d) in omega (arith, f-le c)),
            )
          where
            moved_length : (w : Claim) → (moved n w).length ≡ w.length
            moved_length w = moved-cases (λ (y : Claim). y.length ≡ w.length) n w (λ q. refl) (λ q. refl)

            other : (w : Claim) → w ∈ ps → ((c : Claim) → c ∈ ps → busy c ≡ true → key c ≤ key w) → (c : Claim) → c ∈ ps → c.ticket ≢ w.ticket → f c ≤ cond (before c w) (f c) 0
            other w m last c i d =
                by-test (before c w)
                (λ b. rw b (omega arith))
                (λ b.
                let a = before-not c w b in
                by-test (busy c)
                (λ e. absurd (keys-differ c w (sane c i) (sane w m) d (omega (arith, last c i e, a.1))))
                (λ e. rw b (omega (arith, ltb-false 0 (f c) (rw a.0 at e)))))

    pub pack-separates : Ascending ps → held_units ps ≤ v.pool → Separated v (pack v ps)
    unfolding pack new
    pack-separates ascending stock = record {
      behind = λ c w mc mw o b p.
          map-each2 (λ (c w : Claim). on w ≡ false → before c w ≡ true → rival c w ≡ true → end_of v c ≤ at w) (moved (packed_start v ps)) ps
          (λ c w m k. moved-cases (λ (y : Claim). on y ≡ false → before (moved (packed_start v ps) c) y ≡ true → rival (moved (packed_start v ps) c) y ≡ true → end_of v (moved (packed_start v ps) c) ≤ at y) (packed_start v ps) w
          (λ p q. clash p q)
          (λ p q. moved-cases (λ (x : Claim). before x (new w) ≡ true → rival x (new w) ≡ true → end_of v x ≤ packed_start v ps w) (packed_start v ps) c
          (λ a b e. start-on c w m k e a)
          (λ a b e. both c w m k a p (before-lt (new c) (new w) b refl) e (same? c.ticket w.ticket))))
          c w mc mw o b p;
      supplied = pack-supplied ascending stock;
    }
      where
        both : (c w : Claim) → c ∈ ps → w ∈ ps → on c ≡ false → on w ≡ false → key (new c) < key (new w) → rival c w ≡ true
            → (c.ticket ≡ w.ticket) ⊎ (c.ticket ≢ w.ticket) → end_of v (new c) ≤ packed_start v ps w
        both c w m k a b l p (inl e) = let z = ap (λ (x : Claim). key (new x)) (ascending-same ps ascending c w m k e) in absurd (omega arith)
        both c w m k a b l p (inr n) = go (either-before c w (sane c m) (sane w k) n)
          where
            go : (before c w ≡ true) ⊎ (before w c ≡ true) → end_of v (new c) ≤ packed_start v ps w
            go (inl d) = omega (arith, end-wait v (new c) refl, pack-keeps-order c w m k p a d)
            go (inr d) = absurd (omega (arith, pack-keeps-order w c k m (conflicts-sym c w p) b d, (sane w k).long, (sane c m).small, (sane w k).small))

    -- ── packing raises no start ──
    -- A start that fits already is one that packing might choose, where those before it start no later at f.
    pub stays-behind : Separated v ps → StartsFrom v.clock ps → (f : Claim → ℕ) (w : Claim) → w ∈ ps → on w ≡ false
        → ((c : Claim) → c ∈ ps → on c ≡ false → before c w ≡ true → f c ≤ at c) → Behind v (ahead f ps w) w (at w)
    unfolding used
    stays-behind fit low f w m o h = record {
      after =
          ahead-each (λ (d : Claim). rival d w ≡ true → end_of v d ≤ at w) f ps w
          (λ c k b q p. fit.behind c w k m o b p)
          (λ c k b q p. omega (arith, end-wait v (with_phase c (Waiting (f c))) refl, end-wait v c q, fit.behind c w k m o b p, h c k q b));
      spare = λ z x l r.
          omega (
            arith,
            fit.supplied x (omega (arith, low w m o)),
            ahead-used v x f ps w,
            sum-gap (λ c. cond (before c w) (units_at v x (moved f c)) 0) (units_at v x) w.units m (own x l r) (λ c k. each x l c k),
          );
    }
      where
        own : (x : ℕ) → at w ≤ x → x < at w + w.length → cond (before w w) (units_at v x (moved f w)) 0 + w.units ≤ units_at v x w
        own x l r =
            by-test (before w w)
            (λ b. absurd (omega (arith, before-lt w w b o)))
            (λ b. rw b (omega (arith, units-is v x w (record { begun = λ q. l; going = omega (arith, end-wait v w o) }))))

        each : (x : ℕ) → at w ≤ x → (c : Claim) → c ∈ ps → cond (before c w) (units_at v x (moved f c)) 0 ≤ units_at v x c
        each x l c k =
            by-test (before c w)
            (λ b. rw b
            (moved-cases (λ (y : Claim). units_at v x y ≤ units_at v x c) f c (λ q. omega arith)
            (λ q. units_mono v v x x (with_phase c (Waiting (f c))) c refl (λ r z. record {
              begun = λ p. omega (arith, before-lt c w b q, (sane w m).small);
              going = omega (arith, r.going, end-wait v (with_phase c (Waiting (f c))) refl, end-wait v c q, h c k q b);
            }))))
            (λ b. rw b (omega arith))

    -- Where nobody overlaps and no start is below the clock, packing raises no start.
    pub pack-no-later : Separated v ps → StartsFrom v.clock ps → (w : Claim) → w ∈ ps → on w ≡ false → packed_start v ps w ≤ at w
    pack-no-later f low = by_key (λ (w : Claim). packed_start v ps w ≤ at w) ps (λ w m o ih.
        rw (start-eq v ps w) (for-least v (ahead (packed_start v ps) ps w) w (sane w m) (at w) (low w m o) (stays-behind f low (packed_start v ps) w m o ih)))

    -- ── packing what is packed ──
    pub pack-idle : Separated v ps → StartsFrom v.clock ps → Earliest v ps → pack v ps ≡ ps
    unfolding pack ahead
    pack-idle f low early = map-id (moved (packed_start v ps)) ps (λ c m. moved_same (packed_start v ps) c (same c m))
      where
        same : (w : Claim) → w ∈ ps → on w ≡ false → packed_start v ps w ≡ at w
        same = by_key (λ (w : Claim). packed_start v ps w ≡ at w) ps (λ w m o ih.
            let l : ahead (packed_start v ps) ps w ≡ keep (λ c. before c w) ps = map-id (moved (packed_start v ps)) (keep (λ c. before c w) ps) (λ c i.
            (let k = keep-e (λ c. before c w) ps i in moved_same (packed_start v ps) c (λ q. ih c k.0 q k.1))) in
            let q : packed_start v ps w ≡ start_for v (keep (λ c. before c w) ps) w = start-eq v ps w ∙ ap (λ (x : List Claim). start_for v x w) l in
            omega (arith, early w m o _ (for-low v (keep (λ c. before c w) ps) w) (for-behind v (keep (λ c. before c w) ps) w (sane w m)), pack-no-later f low w m o))

    pub pack-earliest : Earliest v (pack v ps)
    unfolding pack new used
    pack-earliest w m o s h k =
        map_each (λ (x : Claim). on x ≡ false → Behind v (keep (λ c. before c x) (pack v ps)) x s → at x ≤ s) (moved (packed_start v ps)) ps
        (λ c i. moved-cases (λ (x : Claim). on x ≡ false → Behind v (keep (λ c. before c x) (pack v ps)) x s → at x ≤ s) (packed_start v ps) c (λ p q. clash p q)
        (λ p q r. by_order (packed_start v ps c) s (λ l. l) (λ l. rw (start-eq v ps c) (for-least v (ahead (packed_start v ps) ps c) c (sane c i) s h (sooner c i (omega arith) r)))))
        w m o k
      where
        sooner : (w : Claim) → w ∈ ps → s ≤ packed_start v ps w → Behind v (keep (λ c. before c (new w)) (pack v ps)) (new w) s → Behind v (ahead (packed_start v ps) ps w) w s
        sooner w m l k = record {
          after = λ d i p. k.after d (keep-i (λ c. before c (new w)) (first d i p) (in-pack d i)) p;
          spare = λ z x a b. by_order (packed_start v ps w) x (λ c. (start-behind w m).spare z x c (omega arith)) (λ c. omega (arith, k.spare z x a b, ahead-used v x (packed_start v ps) ps w, packed-used x, sum-le _ _ ps (each x c)));
        }
          where
            in-pack : (d : Claim) → d ∈ ahead (packed_start v ps) ps w → d ∈ map (moved (packed_start v ps)) ps
            in-pack d i = let a = ahead-e (packed_start v ps) ps w i in subst (λ (x : Claim). x ∈ map (moved (packed_start v ps)) ps) (sym a.3) (map-i (moved (packed_start v ps)) a.1)

            first : (d : Claim) → d ∈ ahead (packed_start v ps) ps w → rival d w ≡ true → before d (new w) ≡ true
            first d i p =
                let a = ahead-e (packed_start v ps) ps w i in
                ends-before v d (new w) (subst (Sane v) (sym a.3) (moved-sane (packed_start v ps) a.0 (sane a.0 a.1))) ((start-behind w m).after d i p)

            packed-used : (x : ℕ) → sum (units_at v x) (keep (λ c. before c (new w)) (map (moved (packed_start v ps)) ps))
                ≡ sum (λ c. cond (before (moved (packed_start v ps) c) (new w)) (units_at v x (moved (packed_start v ps) c)) 0) ps
            packed-used x =
                sum-keep (units_at v x) (λ c. before c (new w)) (map (moved (packed_start v ps)) ps)
                ∙ sum-map (λ d. cond (before d (new w)) (units_at v x d) 0) (moved (packed_start v ps)) ps

            off : (e : Bool) {p q : ℕ} → p ≤ q → cond e p 0 ≤ q
            off true h = h
            off false h = omega arith

            -- What is used before w starts is used by claims that start before it.
            each : (x : ℕ) → x < packed_start v ps w → (c : Claim) → c ∈ ps
                → cond (before c w) (units_at v x (moved (packed_start v ps) c)) 0 ≤ cond (before (moved (packed_start v ps) c) (new w)) (units_at v x (moved (packed_start v ps) c)) 0
            each x b c i =
                moved-cases (λ (d : Claim). cond (before c w) (units_at v x d) 0 ≤ cond (before d (new w)) (units_at v x d) 0) (packed_start v ps) c
                (λ o. rw (before_on c w o, before_on c (new w) o) (omega arith))
                (λ o. off (before c w) (units-le v x (new c) (cond (before (new c) (new w)) (units_at v x (new c)) 0) (λ q z.
                rw (before-key (new c) (new w) (omega (arith, q.begun refl, (sane c i).small))) (omega (arith, units-is v x (new c) q)))))

  -- ── packing where nobody waits ──
  pub pack-holders : Each (λ c. on c ≡ true) ps → pack v ps ≡ ps
  unfolding pack
  pack-holders h = map-id (moved (packed_start v ps)) ps (λ c m. moved_on (packed_start v ps) c (h c m))

-- Starts that leave nobody overlapping, and of which none could be sooner, are packed starts.
pub packs-at : (v : Setting) (ps : List Claim) → Each (Sane v) ps → Ascending ps → Separated v ps → StartsFrom v.clock ps → Earliest v ps → Packs v ps at
unfolding ahead
packs-at v ps sane ascending fit low early w m o =
    let untied = separated-untied v ps sane fit in
    let b = stays-behind v ps sane fit low at w m o (λ c k q z. omega arith) in (
      behind-may v ps sane ascending untied at w (at w) (low w m o) b,
      λ s h. early w m o s h.from_clock (subst (λ (l : List Claim). Behind v l w s) same (may-behind v ps sane ascending untied at w m o s h)),
    )
  where
    same : ahead at ps w ≡ keep (λ c. before c w) ps
    same = map-id (moved at) (keep (λ c. before c w) ps) (λ c i. moved_same at c (λ q. refl))
