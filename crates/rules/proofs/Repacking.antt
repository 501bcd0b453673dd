-- Packing what is packed changes nothing. And where no waiting claim draws units, packing looks at the old starts only for the order of
-- conflicting claims: then a first packing is lost on a second, and claims that left between the two may as well have left before the
-- first. (Claims that have only the pool in common may overtake each other by the first packing, so that the second meets them in
-- another order.)
use mathlib.Core.Path.{◌≡◌, refl, sym, ◌∙◌, ap}
use mathlib.Core.Logic.{◌⊎◌, inl, inr, ◌≢◌}
use mathlib.Core.Bool.{Bool, true, false}
use mathlib.Core.List.{List, map, map-map}
use Prim.Native.Nat.{ℕ, ◌≤◌}
use native.Mathlib.Omega.{arith}
use Rattle.rules.specs.declared.Claim.{Claim}
use Rattle.rules.specs.declared.Phase.TheVariants.{Waiting}
use Rattle.rules.specs.Lists.{◌∈◌, keep}
use Rattle.rules.specs.declared.Setting.{Setting}
use Rattle.rules.specs.Claims.{on, with_phase, rival, end_of}
use Rattle.rules.specs.Order.{key, before}
use Rattle.rules.specs.Pool.{held_units}
use Rattle.rules.specs.Packing.{start_for, moved, ahead, packed_start, pack}
use Rattle.rules.specs.Plans.{Ascending, Sane, Behind}
use Rattle.rules.proofs.Bools.{split, by-test, clash, both_ways, same?}
use Rattle.rules.proofs.Lists.{Each, keep-e, keep-cong, keep-map, map-e, map-i, map_each, map-cong}
use Rattle.rules.proofs.Claims.{conflicts-sym}
use Rattle.rules.proofs.Order.{before_on, before-key, before-lt, either-before, by_key, ascending-same}
use Rattle.rules.proofs.Starts.{for-low, for-behind, for-least}
use Rattle.rules.proofs.Packing.{moved_on, moved-wait, moved-cases, moved-ticket, moved-phase, moved-conflicts, moved-units, moved-sane, ahead-e, ahead-i, start-eq, pack-starts, pack-separates, pack-earliest, pack-idle, pack-keeps-order}

-- Moving a claim twice is moving it to the second start.
moved_twice : (f g h : Claim → ℕ) (c : Claim) → (on c ≡ false → f (moved g c) ≡ h c) → moved f (moved g c) ≡ moved h c
moved_twice f g h c e =
    by-test (on c)
    (λ o. moved_on f (moved g c) (moved-phase g c ∙ o) ∙ moved_on g c o ∙ sym (moved_on h c o))
    (λ o.
    moved-wait f (moved g c) (moved-phase g c ∙ o)
    ∙ ap (λ (s : ℕ). with_phase (moved g c) (Waiting s)) (e o)
    ∙ moved-cases (λ (x : Claim). with_phase x (Waiting (h c)) ≡ moved h c) g c (λ q. clash q o) (λ q. sym (moved-wait h c o)))

-- At the starts g, conflicting claims stand in the order in which they stood.
abbrev KeepsOrder : (Claim → ℕ) → List Claim → Type 0
KeepsOrder g ps = (c w : Claim) → c ∈ ps → w ∈ ps → on w ≡ false → rival c w ≡ true → before (moved g c) (moved g w) ≡ before c w

-- No waiting claim draws units.
abbrev pub NoneDraws : List Claim → Type 0
NoneDraws ps = (w : Claim) → w ∈ ps → on w ≡ false → w.units ≡ 0

-- Where w draws none, being behind claims is a matter of their ends.
behind-ends : {v : Setting} {qs : List Claim} {w : Claim} {s : ℕ} → w.units ≡ 0 → ((c : Claim) → c ∈ qs → rival c w ≡ true → end_of v c ≤ s) → Behind v qs w s
behind-ends z h = record { after = h; spare = λ y. absurd (omega arith) }

module _ (v : Setting) (g : Claim → ℕ) (ps : List Claim) (sane : Each (Sane v) ps) (idle : NoneDraws ps) (order : KeepsOrder g ps) where
  qs : List Claim
  qs = map (moved g) ps

  start-moved : (w : Claim) → w ∈ ps → on w ≡ false → packed_start v qs (moved g w) ≡ packed_start v ps w
  unfolding qs
  start-moved = by_key (λ (w : Claim). packed_start v qs (moved g w) ≡ packed_start v ps w) ps (λ w m o ih.
      start-eq v qs (moved g w) ∙ same w m o ih ∙ sym (start-eq v ps w))
    where
      same : (w : Claim) → w ∈ ps → on w ≡ false → ((c : Claim) → c ∈ ps → on c ≡ false → before c w ≡ true → packed_start v qs (moved g c) ≡ packed_start v ps c)
          → start_for v (ahead (packed_start v qs) qs (moved g w)) (moved g w) ≡ start_for v (ahead (packed_start v ps) ps w) w
      same w m o ih = omega (arith, le, ge)
        where
          a : List Claim
          a = ahead (packed_start v (map (moved g) ps)) (map (moved g) ps) (moved g w)

          b : List Claim
          b = ahead (packed_start v ps) ps w

          -- The conflicting claims ahead are the same.
          one : (c : Claim) → c ∈ ps → before c w ≡ true → moved (packed_start v (map (moved g) ps)) (moved g c) ≡ moved (packed_start v ps) c
          one c i q = moved_twice (packed_start v (map (moved g) ps)) g (packed_start v ps) c (λ z. ih c i z q)

          le : start_for v a (moved g w) ≤ start_for v b w
          le = for-least v a (moved g w) (moved-sane g w (sane w m)) _ (for-low v b w) (behind-ends (moved-units g w ∙ idle w m o) (λ d i h.
              let x = ahead-e (packed_start v (map (moved g) ps)) (map (moved g) ps) (moved g w) i in
              let y = map-e (moved g) ps x.1 in
              let e : d ≡ moved (packed_start v (map (moved g) ps)) (moved g y.0) = x.3 ∙ ap (moved (packed_start v (map (moved g) ps))) y.2 in
              let h' : rival y.0 w ≡ true = meets y.0 d e h in
              let q : before y.0 w ≡ true = sym (order y.0 w y.1 m o h') ∙ ap (λ (z : Claim). before z (moved g w)) (sym y.2) ∙ x.2 in
              let r = (for-behind v b w (sane w m)).after (moved (packed_start v ps) y.0) (ahead-i (packed_start v ps) ps w y.1 q) (moved-conflicts (packed_start v ps) y.0 w ∙ h') in
              omega (arith, ap (end_of v) (e ∙ one y.0 y.1 q))))
            where
              meets : (c d : Claim) → d ≡ moved (packed_start v (map (moved g) ps)) (moved g c) → rival d (moved g w) ≡ true → rival c w ≡ true
              meets c d e h =
                  sym (moved-conflicts g c w) ∙ sym (moved-conflicts (packed_start v (map (moved g) ps)) (moved g c) w) ∙ ap (λ (z : Claim). rival z w) (sym e)
                  ∙ moved-cases (λ (z : Claim). rival d w ≡ rival d z) g w (λ q. refl) (λ q. refl) ∙ h

          ge : start_for v b w ≤ start_for v a (moved g w)
          ge = for-least v b w (sane w m) _ (for-low v a (moved g w)) (behind-ends (idle w m o) (λ d i h.
              let x = ahead-e (packed_start v ps) ps w i in
              let h' : rival x.0 w ≡ true = sym (moved-conflicts (packed_start v ps) x.0 w) ∙ ap (λ (z : Claim). rival z w) (sym x.3) ∙ h in
              let q : before (moved g x.0) (moved g w) ≡ true = order x.0 w x.1 m o h' ∙ x.2 in
              let k : rival (moved (packed_start v (map (moved g) ps)) (moved g x.0)) (moved g w) ≡ true =
              moved-conflicts (packed_start v (map (moved g) ps)) (moved g x.0) (moved g w) ∙ moved-conflicts g x.0 (moved g w)
              ∙ moved-cases (λ (z : Claim). rival x.0 z ≡ rival x.0 w) g w (λ q. refl) (λ q. refl) ∙ h' in
              let r = (for-behind v a (moved g w) (moved-sane g w (sane w m))).after _ (ahead-i (packed_start v (map (moved g) ps)) (map (moved g) ps) (moved g w) (map-i (moved g) x.1) q) k in
              omega (arith, ap (end_of v) (x.3 ∙ sym (one x.0 x.1 x.2)))))

  pub pack-moved : pack v (map (moved g) ps) ≡ pack v ps
  unfolding pack qs
  pack-moved =
      map-map (moved (packed_start v (map (moved g) ps))) (moved g) ps
      ∙ map-cong _ (moved (packed_start v ps)) ps (λ c m. moved_twice (packed_start v (map (moved g) ps)) g (packed_start v ps) c (start-moved c m))

pack-is : (v : Setting) (ps : List Claim) → pack v ps ≡ map (moved (packed_start v ps)) ps
unfolding pack
pack-is v ps = refl

module _ (v : Setting) (ps : List Claim) (sane : Each (Sane v) ps) (ascending : Ascending ps) where
  -- Packed starts keep the order of conflicting claims.
  packed-order : KeepsOrder (packed_start v ps) ps
  packed-order c w m k o h = go (split (on c)) (same? c.ticket w.ticket)
    where
      f : Claim → ℕ
      f = packed_start v ps

      new : Claim → Claim
      new x = with_phase x (Waiting (packed_start v ps x))

      both : on c ≡ false → c.ticket ≢ w.ticket → (before c w ≡ true) ⊎ (before w c ≡ true) → before (new c) (new w) ≡ before c w
      both q n (inl b) = before-key (new c) (new w) (omega (arith, pack-keeps-order v ps sane c w m k h q b, (sane c m).long, (sane c m).small)) ∙ sym b
      both q n (inr b) =
          both_ways _ _
          (λ e. absurd (omega (arith, before-lt (new c) (new w) e refl, pack-keeps-order v ps sane w c k m (conflicts-sym c w h) o b, (sane w k).long, (sane w k).small)))
          (λ e. absurd (omega (arith, before-lt c w e q, before-lt w c b o)))

      go : (on c ≡ true) ⊎ (on c ≡ false) → (c.ticket ≡ w.ticket) ⊎ (c.ticket ≢ w.ticket) → before (moved f c) (moved f w) ≡ before c w
      go (inl q) z = before_on (moved f c) (moved f w) (moved-phase f c ∙ q) ∙ sym (before_on c w q)
      go (inr q) (inl e) =
          let z : c ≡ w = ascending-same ps ascending c w m k e in
          both_ways _ _
          (λ b. absurd (omega (arith, before-lt (moved f c) (moved f w) b (moved-phase f c ∙ q), ap (λ (x : Claim). key (moved f x)) z)))
          (λ b. absurd (omega (arith, before-lt c w b q, ap key z)))
      go (inr q) (inr n) = cc (moved-wait f c q, moved-wait f w o, both q n (either-before c w (sane c m) (sane w k) n))

  packed-sane : Each (Sane v) (pack v ps)
  unfolding pack
  packed-sane = map_each (Sane v) (moved (packed_start v ps)) ps (λ c m. moved-sane (packed_start v ps) c (sane c m))

  -- Packing what is packed changes nothing.
  pub pack-twice : held_units ps ≤ v.pool → pack v (pack v ps) ≡ pack v ps
  pack-twice stock = pack-idle v (pack v ps) packed-sane (pack-separates v ps sane ascending stock) (pack-starts v ps) (pack-earliest v ps sane)

  -- Claims that leave after a packing may as well leave before it. (Who leaves is told by the ticket.)
  pub pack-keep : NoneDraws ps → (p : ℕ → Bool) → pack v (keep (λ c. p c.ticket) (pack v ps)) ≡ pack v (keep (λ c. p c.ticket) ps)
  pack-keep idle p =
      ap (pack v) same
      ∙ pack-moved v f some (λ c m. sane c (keep-e q ps m).0) (λ w m. idle w (keep-e q ps m).0) (λ c w m k. packed-order c w (keep-e q ps m).0 (keep-e q ps k).0)
    where
      f : Claim → ℕ
      f = packed_start v ps

      q : Claim → Bool
      q c = p c.ticket

      some : List Claim
      some = keep (λ c. p c.ticket) ps

      same : keep (λ c. p c.ticket) (pack v ps) ≡ map (moved f) (keep (λ c. p c.ticket) ps)
      same =
          ap (keep (λ c. p c.ticket)) (pack-is v ps) ∙ keep-map (λ c. p c.ticket) (moved f) ps
          ∙ ap (map (moved f)) (keep-cong (λ c. p (moved f c).ticket) (λ c. p c.ticket) ps (λ c m. ap p (moved-ticket f c)))
