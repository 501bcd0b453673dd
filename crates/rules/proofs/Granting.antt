-- Granting: holders stay apart and within the pool, nothing else moves, and whoever still waits is held up by a claim whose end is its
-- start. Who goes on is used through `goes-wait`, `goes-at`, `goes-free`, `goes-spare` and `stays`.
use mathlib.Core.Path.{◌≡◌, refl, sym, ◌∙◌, ap, subst}
use mathlib.Core.Logic.{◌⊎◌, inl, inr, ⊎_elim, ◌≢◌}
use mathlib.Core.Bool.{Bool, true, false, not, ◌&&◌, ◌||◌, cond}
use mathlib.Core.List.Memᴰ
use mathlib.Core.List.{List, [], ◌∷◌, ◌++◌, map, map-append}
use Prim.Native.Nat.{ℕ, zero, suc, ◌+◌, ◌≤◌, ◌<◌}
use native.Mathlib.Omega.{arith}
use lib.ListN.{length, length-map}
use lib.Dec.{ltb, leb, eqb}
use borrow.Author.Tests.{ltb-true, ltb-false, lt-ltb, le-ltb, leb-true, leb-false, eqb-true, eqb-false, eq-eqb, not-true}
use Rattle.rules.specs.declared.Claim.{Claim}
use Rattle.rules.specs.declared.Phase.TheVariants.{On}
use Rattle.rules.specs.Lists.{◌∈◌, any, sum, keep}
use Rattle.rules.specs.declared.Setting.{Setting}
use Rattle.rules.specs.Claims.{on, at, with_phase, rival, end_of}
use Rattle.rules.specs.Order.{key, before, precedes, meets}
use Rattle.rules.specs.Pool.{units_at, used, held_by, held_units}
use Rattle.rules.specs.Granting.{taken_before, truly_free, goes_within, goes, granted, grant}
use Rattle.rules.specs.Plans.{Ascending, Sane, Apart, Separated, StartsFrom, HeldUp, Tight, Blocked, Behind, Earliest}
use Rattle.rules.proofs.Bools.{by-test, by_order, clash, and_l, and_r, and_i, or-e, or_l, or-fl, or-fr, both_ways, same?}
use Rattle.rules.proofs.Lists.{Each, here, there, any_none, any_some, any-cong, keep-e, keep-i, snoc-each, map-i, map_each, map-each2, map-cong, sum-le, sum-zero, sum-cong, sum_both, sum-map, sum-keep, sum-gap, sum-but, sum-snoc, sum-append, ascends-around}
use Rattle.rules.proofs.Claims.{conflicts-sym, end-wait, end-clock, end-no-overrun}
use Rattle.rules.proofs.Order.{before_on, before-key, before-lt, keys-differ, either-before, by_key, last_of, meets-rival, meets-units, meets-none, before-precedes, precedes-conflicts, precedes-e, precedes-on, precedes-before, ends-precedes, ascending-same}
use Rattle.rules.proofs.Pool.{units-is, units_mono}

-- ── who goes on ──
-- What goes on at its turn: its start is the clock, nothing precedes it, and by p its units are free.
abbrev pub turn : Setting → List Claim → (Claim → Bool) → Claim → Bool
turn v ps p w = (not (on w) && eqb (at w) v.clock) && (not (any (λ d. precedes d w) ps) && truly_free v ps p w)

within_on : (j : ℕ) (v : Setting) (ps : List Claim) (c : Claim) → on c ≡ true → goes_within j v ps c ≡ false
unfolding goes_within
within_on zero v ps c o = refl
within_on (suc j) v ps c o = rw o

pub taken-before : (p : Claim → Bool) (w c : Claim) → before c w ≡ true → taken_before p w c ≡ cond (p c) c.units 0
unfolding taken_before
taken-before p w c b = rw (b, taken_before)

pub taken-after : (p : Claim → Bool) (w c : Claim) → before c w ≡ false → taken_before p w c ≡ 0
unfolding taken_before
taken-after p w c b = rw (b, taken_before)

taken-cong : (p q : Claim → Bool) (w c : Claim) → (before c w ≡ true → p c ≡ q c) → taken_before p w c ≡ taken_before q w c
taken-cong p q w c h =
    by-test (before c w)
    (λ b. taken-before p w c b ∙ ap (λ (x : Bool). cond x c.units 0) (h b) ∙ sym (taken-before q w c b))
    (λ b. taken-after p w c b ∙ sym (taken-after q w c b))

-- Whether units are free hangs on who goes before.
free-cong : (v : Setting) (ps : List Claim) (p q : Claim → Bool) (w : Claim) → Each (λ c. before c w ≡ true → p c ≡ q c) ps → truly_free v ps p w ≡ truly_free v ps q w
unfolding truly_free
free-cong v ps p q w h =
    ap (λ (n : ℕ). eqb w.units 0 || leb (held_units ps + n + w.units) v.pool)
    (sum-cong (taken_before p w) (taken_before q w) ps (λ c m. taken-cong p q w c (h c m)))

pub turn-cong : (v : Setting) (ps : List Claim) (p q : Claim → Bool) (w : Claim) → Each (λ c. before c w ≡ true → p c ≡ q c) ps → turn v ps p w ≡ turn v ps q w
turn-cong v ps p q w h =
    ap (λ (b : Bool). (not (on w) && eqb (at w) v.clock) && (not (any (λ d. precedes d w) ps) && b)) (free-cong v ps p q w h)

enough : (j k : ℕ) (v : Setting) (ps : List Claim) (w : Claim) → key w < j → key w < k → goes_within j v ps w ≡ goes_within k v ps w
unfolding goes_within
enough zero k v ps w p q = absurd (omega arith)
enough (suc j) zero v ps w p q = absurd (omega arith)
enough (suc j) (suc k) v ps w p q =
    turn-cong v ps (λ c. goes_within j v ps c) (λ c. goes_within k v ps c) w (λ c m b.
    by-test (on c)
    (λ o. within_on j v ps c o ∙ sym (within_on k v ps c o))
    (λ o. let l = before-lt c w b o in enough j k v ps c (omega arith) (omega arith)))

goes_on : (v : Setting) (ps : List Claim) (c : Claim) → on c ≡ true → goes v ps c ≡ false
unfolding goes
goes_on v ps c o = within_on (suc (key c)) v ps c o

-- The rule.
pub goes-eq : (v : Setting) (ps : List Claim) (w : Claim) → goes v ps w ≡ turn v ps (goes v ps) w
unfolding goes goes_within
goes-eq v ps w =
    turn-cong v ps (λ c. goes_within (key w) v ps c) (goes v ps) w (λ c m b.
    by-test (on c)
    (λ o. within_on (key w) v ps c o ∙ sym (goes_on v ps c o))
    (λ o. enough (key w) (suc (key c)) v ps c (before-lt c w b o) (omega arith)))

module _ (v : Setting) (ps : List Claim) (c : Claim) (e : goes v ps c ≡ true) where
  goes-due : (not (on c) && eqb (at c) v.clock) ≡ true
  goes-due = and_l (not (on c) && eqb (at c) v.clock) _ (sym (goes-eq v ps c) ∙ e)

  goes-open : (not (any (λ d. precedes d c) ps) && truly_free v ps (goes v ps) c) ≡ true
  goes-open = and_r (not (on c) && eqb (at c) v.clock) _ (sym (goes-eq v ps c) ∙ e)

  pub goes-wait : on c ≡ false
  goes-wait = not-true (on c) (and_l (not (on c)) _ goes-due)

  -- What goes on had the clock for its start.
  pub goes-at : at c ≡ v.clock
  goes-at = eqb-true _ _ (and_r (not (on c)) _ goes-due)

  pub goes-free : (d : Claim) → d ∈ ps → precedes d c ≡ false
  goes-free d m = any_none (λ x. precedes x c) (not-true (any (λ x. precedes x c) ps) (and_l (not (any (λ x. precedes x c) ps)) _ goes-open)) m

  pub goes-truly-free : truly_free v ps (goes v ps) c ≡ true
  goes-truly-free = and_r (not (any (λ x. precedes x c) ps)) _ goes-open

  -- Its units are free beside those held and those of the grants before it.
  pub goes-spare : 0 < c.units → held_units ps + sum (taken_before (goes v ps) c) ps + c.units ≤ v.pool
  unfolding truly_free
  goes-spare z =
      ⊎_elim
      (λ p. absurd (omega (arith, eqb-true c.units 0 p)))
      (leb-true _ _)
      (or-e (eqb c.units 0) _ goes-truly-free)

-- Why a claim whose start is the clock stays.
pub data Stays (v : Setting) (ps : List Claim) (w : Claim) : Type 0 where
  preceded : (d : Claim) → d ∈ ps → precedes d w ≡ true → Stays v ps w
  unspared : 0 < w.units → v.pool < held_units ps + sum (taken_before (goes v ps) w) ps + w.units → Stays v ps w

pub stays : (v : Setting) (ps : List Claim) (w : Claim) → goes v ps w ≡ false → on w ≡ false → at w ≡ v.clock → Stays v ps w
unfolding truly_free
stays v ps w e o c =
    let f : (not (any (λ d. precedes d w) ps) && truly_free v ps (goes v ps) w) ≡ false = simp (o, eq-eqb (at w) v.clock c) at (sym (goes-eq v ps w) ∙ e) in
    by-test (any (λ d. precedes d w) ps)
    (λ q. let r = any_some (λ x. precedes x w) ps q in preceded r.0 r.1 r.2)
    (λ q.
    let h : (eqb w.units 0 || leb (held_units ps + sum (taken_before (goes v ps) w) ps + w.units) v.pool) ≡ false = rw q at f in
    let z = eqb-false w.units 0 (or-fl (eqb w.units 0) _ h) in
    unspared (omega arith) (leb-false _ _ (or-fr (eqb w.units 0) _ h)))

-- ── a claim as granted ──
pub granted-go : (v : Setting) (ps : List Claim) (c : Claim) → goes v ps c ≡ true → granted v ps c ≡ with_phase c (On v.clock)
unfolding granted
granted-go v ps c e = rw (e, granted)

pub granted-stay : (v : Setting) (ps : List Claim) (c : Claim) → goes v ps c ≡ false → granted v ps c ≡ c
unfolding granted
granted-stay v ps c e = rw (e, granted)

pub granted-cases : (P : Claim → Type 0) (v : Setting) (ps : List Claim) (c : Claim) → (goes v ps c ≡ true → P (with_phase c (On v.clock))) → (goes v ps c ≡ false → P c) → P (granted v ps c)
granted-cases P v ps c f g = by-test (goes v ps c) (λ e. rw (granted-go v ps c e) (f e)) (λ e. rw (granted-stay v ps c e) (g e))

pub granted-ticket : (v : Setting) (ps : List Claim) (c : Claim) → (granted v ps c).ticket ≡ c.ticket
granted-ticket v ps c = granted-cases (λ (x : Claim). x.ticket ≡ c.ticket) v ps c (λ p. refl) (λ p. refl)

-- Granting leaves the number beside a claim: what goes on had the clock for its start.
pub granted-at : (v : Setting) (ps : List Claim) (c : Claim) → at (granted v ps c) ≡ at c
granted-at v ps c = granted-cases (λ (x : Claim). at x ≡ at c) v ps c (λ g. sym (goes-at v ps c g)) (λ g. refl)

pub grant-length : (v : Setting) (ps : List Claim) → length (grant v ps) ≡ length ps
unfolding grant
grant-length v ps = length-map ps (granted v ps)

-- What precedes a waiting claim still does, and the claim still waits.
pub grant-precedes : (v : Setting) (ps : List Claim) (c w : Claim) → c ∈ ps → precedes c w ≡ true → (granted v ps w ≡ w) × (precedes (granted v ps c) w ≡ true)
grant-precedes v ps c w m p = (
  granted-cases (λ (x : Claim). x ≡ w) v ps w (λ g. clash p (goes-free v ps w g c m)) (λ g. refl),
  granted-cases (λ (x : Claim). precedes x w ≡ true) v ps c (λ g. precedes-on (with_phase c (On v.clock)) w (precedes-conflicts c w p) refl) (λ g. p),
)

-- Its end is not changed by going on.
pub end-granted : (v : Setting) (ps : List Claim) (c : Claim) → goes v ps c ≡ true → end_of v (with_phase c (On v.clock)) ≡ end_of v c
end-granted v ps c e = omega (arith, end-no-overrun v (with_phase c (On v.clock)) refl (omega arith), end-wait v c (goes-wait v ps c e), goes-at v ps c e)

-- Nor is what it is planned to use.
granted-uses : (v : Setting) (ps : List Claim) (x : ℕ) → v.clock ≤ x → (c : Claim) → units_at v x (granted v ps c) ≡ units_at v x c
granted-uses v ps x l c =
    granted-cases (λ (y : Claim). units_at v x y ≡ units_at v x c) v ps c
    (λ g.
    omega (
      arith,
      units_mono v v x x (with_phase c (On v.clock)) c refl (λ k z. record { begun = λ o. omega (arith, goes-at v ps c g); going = omega (arith, k.going, end-granted v ps c g) }),
      units_mono v v x x c (with_phase c (On v.clock)) refl (λ k z. record { begun = λ o. clash refl o; going = omega (arith, k.going, end-granted v ps c g) }),
    ))
    (λ g. refl)

pub grant-uses : (v : Setting) (ps : List Claim) (x : ℕ) → v.clock ≤ x → used v x (grant v ps) ≡ used v x ps
unfolding grant used
grant-uses v ps x l = sum-map (units_at v x) (granted v ps) ps ∙ sum-cong (λ c. units_at v x (granted v ps c)) (units_at v x) ps (λ c m. granted-uses v ps x l c)

-- ── who goes on, in the order of tickets ──
-- All that go on start at the clock, so those before w, which starts there too, are those of smaller tickets.
pub taken-ticket : (v : Setting) (ps : List Claim) (w c : Claim) → Sane v c → Sane v w → at w ≡ v.clock
    → taken_before (goes v ps) w c ≡ cond (goes v ps c && ltb c.ticket w.ticket) c.units 0
taken-ticket v ps w c s r a =
    by-test (goes v ps c)
    (λ g.
    let q = goes-at v ps c g in
    by-test (ltb c.ticket w.ticket)
    (λ l. rw (g, l) (taken-before (goes v ps) w c (before-key c w (omega (arith, ltb-true c.ticket w.ticket l))) ∙ rw g))
    (λ l. rw (g, l) (by-test (before c w)
    (λ b. absurd (omega (arith, before-lt c w b (goes-wait v ps c g), ltb-false c.ticket w.ticket l)))
    (λ b. taken-after (goes v ps) w c b))))
    (λ g. rw g (by-test (before c w) (λ b. taken-before (goes v ps) w c b ∙ rw g) (λ b. taken-after (goes v ps) w c b)))

-- So among claims in ascending order of ticket they are those in front of it.
pub taken-front : (v : Setting) (front back : List Claim) (w : Claim)
    → (let ps = front ++ (w ∷ back) in
    Each (Sane v) ps → Ascending ps → at w ≡ v.clock → sum (taken_before (goes v ps) w) ps ≡ sum (λ c. cond (goes v ps c) c.units 0) front)
unfolding sum
taken-front v front back w sane ascending a =
    let ps = front ++ (w ∷ back) in
    let r = ascends-around (λ (c : Claim). c.ticket) front back w ascending in
    let at-ticket : (c : Claim) → c ∈ ps → taken_before (goes v ps) w c ≡ cond (goes v ps c && ltb c.ticket w.ticket) c.units 0
    = λ c m. taken-ticket v ps w c (sane c m) (sane w (Memᴰ.append_right front here)) a in
    omega (
      arith,
      sum-append (taken_before (goes v ps) w) front (w ∷ back),
      sum-cong (taken_before (goes v ps) w) (λ c. cond (goes v ps c) c.units 0) front (λ c m.
          at-ticket c (Memᴰ.append_left (w ∷ back) m) ∙ lower (goes v ps c) c.units (lt-ltb c.ticket w.ticket (r.0 c m))),
      at-ticket w (Memᴰ.append_right front here) ∙ upper (goes v ps w) w.units (le-ltb w.ticket w.ticket (omega arith)),
      sum-zero (taken_before (goes v ps) w) back (λ c m.
          at-ticket c (Memᴰ.append_right front (there m)) ∙ upper (goes v ps c) c.units (le-ltb c.ticket w.ticket (omega (arith, r.1 c m)))),
    )
  where
    lower : (g : Bool) {b : Bool} (n : ℕ) → b ≡ true → cond (g && b) n 0 ≡ cond g n 0
    lower true n e = rw e
    lower false n e = refl

    upper : (g : Bool) {b : Bool} (n : ℕ) → b ≡ false → cond (g && b) n 0 ≡ 0
    upper true n e = rw e
    upper false n e = refl

-- ── who goes on in a packed plan ──
module _ (v : Setting) (ps : List Claim) (low : StartsFrom v.clock ps) where
  -- A claim that starts at the clock is preceded only by holders. So one pass over them tells of all what precedes it.
  pub preceded-quick : (c : Claim) → at c ≡ v.clock → any (λ d. precedes d c) ps ≡ any (λ d. on d && rival d c) ps
  preceded-quick c a = any-cong (λ d. precedes d c) (λ d. on d && rival d c) ps (λ d k. both_ways _ _ (there' d k) (back d))
    where
      there' : (d : Claim) → d ∈ ps → precedes d c ≡ true → (on d && rival d c) ≡ true
      there' d k p =
          by-test (on d)
          (λ q. and_i (on d) _ q (precedes-conflicts d c p))
          (λ q. ⊎_elim (λ z. clash z q) (λ z. absurd (omega (arith, low d k q))) (precedes-e d c p))

      back : (d : Claim) → (on d && rival d c) ≡ true → precedes d c ≡ true
      back d z = precedes-on d c (and_r (on d) _ z) (and_l (on d) _ z)

  pub goes-quick : (c : Claim)
      → goes v ps c ≡ (not (on c) && (eqb (at c) v.clock && (not (any (λ d. on d && rival d c) ps) && truly_free v ps (goes v ps) c)))
  goes-quick c =
      goes-eq v ps c
      ∙ by-test (on c)
      (λ o. rw o)
      (λ o. by-test (eqb (at c) v.clock) (λ e. rw (o, e, preceded-quick c (eqb-true _ _ e))) (λ e. rw (o, e)))

  -- One waiting claim more, at the clock or later and with a ticket above the others', changes nothing for them.
  pub grant-snoc : Each (Sane v) ps → (w : Claim) → on w ≡ false → v.clock ≤ at w → Each (λ c. c.ticket < w.ticket) ps
      → grant v (ps ++ (w ∷ [])) ≡ grant v ps ++ (granted v (ps ++ (w ∷ [])) w ∷ [])
  unfolding grant truly_free held_units
  grant-snoc sane w o h above =
      map-append (granted v (ps ++ (w ∷ []))) ps (w ∷ [])
      ∙ ap (λ (l : List Claim). l ++ (granted v (ps ++ (w ∷ [])) w ∷ [])) (map-cong (granted v (ps ++ (w ∷ []))) (granted v ps) ps (λ c m. same c (alike c m)))
    where
      -- The new claim neither precedes one that starts at the clock nor goes before it, and holds nothing.
      same_turn : (c : Claim) → c ∈ ps → ((d : Claim) → d ∈ ps → before d c ≡ true → goes v (ps ++ (w ∷ [])) d ≡ goes v ps d)
          → at c ≡ v.clock → (not (any (λ d. precedes d c) (ps ++ (w ∷ []))) && truly_free v (ps ++ (w ∷ [])) (goes v (ps ++ (w ∷ []))) c)
          ≡ (not (any (λ d. precedes d c) ps) && truly_free v ps (goes v ps) c)
      same_turn c m ih a = rw (one, two)
        where
          never : precedes w c ≡ false
          never = by-test (precedes w c) (λ q. ⊎_elim (λ z. clash z o) (λ z. absurd (omega arith)) (precedes-e w c q)) (λ q. q)

          one : any (λ d. precedes d c) (ps ++ (w ∷ [])) ≡ any (λ d. precedes d c) ps
          one = both_ways _ _
              (λ e. let r = any_some (λ d. precedes d c) (ps ++ (w ∷ [])) e in by-test (any (λ d. precedes d c) ps) (λ z. z) (λ z. clash r.2 (snoc-each (λ (d : Claim). precedes d c ≡ false) ps w (λ d k. any_none (λ d. precedes d c) z k) never r.0 r.1)))
              (λ e. let r = any_some (λ d. precedes d c) ps e in by-test (any (λ d. precedes d c) (ps ++ (w ∷ []))) (λ z. z) (λ z. clash r.2 (any_none (λ d. precedes d c) z (Memᴰ.append_left (w ∷ []) r.1))))

          after : before w c ≡ false
          after = by-test (before w c) (λ b. absurd (omega (arith, before-lt w c b o, above c m))) (λ b. b)

          two : (eqb c.units 0 || leb (sum held_by (ps ++ (w ∷ [])) + sum (taken_before (goes v (ps ++ (w ∷ []))) c) (ps ++ (w ∷ [])) + c.units) v.pool)
              ≡ (eqb c.units 0 || leb (sum held_by ps + sum (taken_before (goes v ps) c) ps + c.units) v.pool)
          two =
              let x : held_by w ≡ 0 = rw o in
              let y = taken-after (goes v (ps ++ (w ∷ []))) c w after in
              let s = sum-snoc held_by ps w in
              let t = sum-snoc (taken_before (goes v (ps ++ (w ∷ []))) c) ps w in
              let u = sum-cong (taken_before (goes v (ps ++ (w ∷ []))) c) (taken_before (goes v ps) c) ps (λ d k. taken-cong (goes v (ps ++ (w ∷ []))) (goes v ps) c d (ih d k)) in
              let e : sum held_by (ps ++ (w ∷ [])) + sum (taken_before (goes v (ps ++ (w ∷ []))) c) (ps ++ (w ∷ [])) ≡ sum held_by ps + sum (taken_before (goes v ps) c) ps = omega arith in
              ap (λ (n : ℕ). eqb c.units 0 || leb (n + c.units) v.pool) e

      waits : (c : Claim) → c ∈ ps → on c ≡ false → goes v (ps ++ (w ∷ [])) c ≡ goes v ps c
      waits = by_key (λ (c : Claim). goes v (ps ++ (w ∷ [])) c ≡ goes v ps c) ps (λ c m q ih.
          goes-eq v (ps ++ (w ∷ [])) c
          ∙ by-test (eqb (at c) v.clock)
          (λ e. rw (q, e) (same_turn c m (λ d k b. by-test (on d) (λ z. goes_on v (ps ++ (w ∷ [])) d z ∙ sym (goes_on v ps d z)) (λ z. ih d k z b)) (eqb-true _ _ e)))
          (λ e. rw (q, e))
          ∙ sym (goes-eq v ps c))

      alike : (c : Claim) → c ∈ ps → goes v (ps ++ (w ∷ [])) c ≡ goes v ps c
      alike c m = by-test (on c) (λ q. goes_on v (ps ++ (w ∷ [])) c q ∙ sym (goes_on v ps c q)) (waits c m)

      same : (c : Claim) → goes v (ps ++ (w ∷ [])) c ≡ goes v ps c → granted v (ps ++ (w ∷ [])) c ≡ granted v ps c
      same c e =
          granted-cases (λ (x : Claim). x ≡ granted v ps c) v (ps ++ (w ∷ [])) c
          (λ g. sym (granted-go v ps c (sym e ∙ g)))
          (λ g. sym (granted-stay v ps c (sym e ∙ g)))

-- Of a claim that draws no units, in a packed plan: "Every waiting claim that no pending claim precedes goes on at the call's clock."
pub goes-documented : (v : Setting) (ps : List Claim) → Tight v ps → Each (Sane v) ps → (c : Claim) → c ∈ ps → c.units ≡ 0
    → goes v ps c ≡ (not (on c) && not (any (λ d. precedes d c) ps))
unfolding truly_free
goes-documented v ps tight sane c m z = goes-eq v ps c ∙ both_ways _ _ there' back
  where
    free : truly_free v ps (goes v ps) c ≡ true
    free = or_l (eqb c.units 0) _ (eq-eqb c.units 0 z)

    there' : turn v ps (goes v ps) c ≡ true → (not (on c) && not (any (λ d. precedes d c) ps)) ≡ true
    there' e =
        and_i (not (on c)) _
        (and_l (not (on c)) _ (and_l (not (on c) && eqb (at c) v.clock) _ e))
        (and_l (not (any (λ d. precedes d c) ps)) _ (and_r (not (on c) && eqb (at c) v.clock) _ e))

    back : (not (on c) && not (any (λ d. precedes d c) ps)) ≡ true → turn v ps (goes v ps) c ≡ true
    back e =
        let q = and_l (not (on c)) _ e in
        let o = not-true (on c) q in
        let n = and_r (not (on c)) _ e in
        let a : at c ≡ v.clock = ⊎_elim (λ p. p)
        (λ h. clash (ends-precedes v h.0 c (sane h.0 h.1) (meets-none h.0 c z h.2) (omega (arith, h.3))) (any_none (λ d. precedes d c) (not-true (any (λ d. precedes d c) ps) n) h.1))
        (tight c m o) in
        and_i (not (on c) && eqb (at c) v.clock) _ (and_i (not (on c)) _ q (eq-eqb (at c) v.clock a)) (and_i (not (any (λ d. precedes d c) ps)) _ n free)

-- ── granting keeps within the pool ──
module _ (v : Setting) (ps : List Claim) (sane : Each (Sane v) ps) (ascending : Ascending ps) where
  -- Look at the last, in the order of granting, that goes on and draws units.
  pub grant-stock : held_units ps ≤ v.pool → held_units (grant v ps) ≤ v.pool
  unfolding grant held_units
  grant-stock stock =
      omega (
        arith,
        sum-map held_by (granted v ps) ps,
        sum-le (λ c. held_by (granted v ps c)) (λ c. held_by c + taken c) ps (λ c m. both c),
        sum_both held_by taken ps,
        ⊎_elim none-draws some-draws (last_of drawing ps),
      )
    where
      taken : Claim → ℕ
      taken c = cond (goes v ps c) c.units 0

      drawing : Claim → Bool
      drawing c = goes v ps c && ltb 0 c.units

      both : (c : Claim) → held_by (granted v ps c) ≤ held_by c + taken c
      both c = granted-cases (λ (x : Claim). held_by x ≤ held_by c + taken c) v ps c (λ g. rw g (omega arith)) (λ g. rw g (omega arith))

      idle : (c : Claim) → drawing c ≡ false → taken c ≡ 0
      idle c e = by-test (goes v ps c) (λ g. rw g (let h = ltb-false 0 c.units (rw g at e) in omega arith)) (λ g. rw g)

      none-draws : Each (λ c. drawing c ≡ false) ps → sum held_by ps + sum taken ps ≤ v.pool
      none-draws h = omega (arith, stock, sum-zero taken ps (λ c m. idle c (h c m)))

      other : (w : Claim) → w ∈ ps → ((c : Claim) → c ∈ ps → drawing c ≡ true → key c ≤ key w) → (c : Claim) → c ∈ ps → c.ticket ≢ w.ticket → taken c ≤ taken_before (goes v ps) w c
      other w m h c k n =
          by-test (drawing c)
          (λ e.
          let z = keys-differ c w (sane c k) (sane w m) n in
          let y = h c k e in
          omega (arith, taken-before (goes v ps) w c (before-key c w (omega arith))))
          (λ e. omega (arith, idle c e))

      some-draws : ((w : Claim) × w ∈ ps × (drawing w ≡ true) × ((c : Claim) → c ∈ ps → drawing c ≡ true → key c ≤ key w)) → sum held_by ps + sum taken ps ≤ v.pool
      some-draws r =
          let w = r.0 in
          let g = and_l (goes v ps w) _ r.2 in
          let z = ltb-true 0 w.units (and_r (goes v ps w) _ r.2) in
          omega (
            arith,
            goes-spare v ps w g z,
            sum-but (λ (c : Claim). c.ticket) taken (taken_before (goes v ps) w) w.ticket w.units ps ascending
                (λ c k n. other w r.1 r.3 c k n)
                (λ c k e. rw (ascending-same ps ascending c w k r.1 e, g) (omega arith)),
          )

-- Planned use stays as it is, and nobody could start sooner than before.
pub grant-earliest : (v : Setting) (ps : List Claim) → Earliest v ps → Earliest v (grant v ps)
unfolding grant used
grant-earliest v ps early w m o s l k =
    map_each (λ (x : Claim). on x ≡ false → Behind v (keep (λ c. before c x) (map (granted v ps) ps)) x s → at x ≤ s) (granted v ps) ps
    (λ c i. granted-cases (λ (x : Claim). on x ≡ false → Behind v (keep (λ c. before c x) (map (granted v ps) ps)) x s → at x ≤ s) v ps c (λ g q. clash refl q) (λ g q b. early c i q s l (fewer c b)))
    w m o k
  where
    first : (c w : Claim) → before c w ≡ true → before (granted v ps c) w ≡ true
    first c w b = granted-cases (λ (x : Claim). before x w ≡ true) v ps c (λ g. before_on (with_phase c (On v.clock)) w refl) (λ g. b)

    fewer : (w : Claim) → Behind v (keep (λ c. before c w) (map (granted v ps) ps)) w s → Behind v (keep (λ c. before c w) ps) w s
    fewer w b = record {
      after = λ c i p.
          let r = keep-e (λ c. before c w) ps i in
          omega (
            arith,
            granted-cases (λ (x : Claim). end_of v x ≡ end_of v c) v ps c (λ g. end-granted v ps c g) (λ g. refl),
            b.after (granted v ps c) (keep-i (λ c. before c w) (first c w r.1) (map-i (granted v ps) r.0)) (granted-cases (λ (x : Claim). rival x w ≡ true) v ps c (λ g. p) (λ g. p)),
          );
      spare = λ z x a e.
          omega (
            arith,
            b.spare z x a e,
            uses w x (omega arith),
          );
    }
      where
        uses : (w : Claim) (x : ℕ) → v.clock ≤ x → used v x (keep (λ c. before c w) ps) ≤ used v x (keep (λ c. before c w) (map (granted v ps) ps))
        uses w x l =
            omega (
              arith,
              sum-keep (units_at v x) (λ c. before c w) ps,
              sum-keep (units_at v x) (λ c. before c w) (map (granted v ps) ps),
              sum-map (λ d. cond (before d w) (units_at v x d) 0) (granted v ps) ps,
              sum-le (λ c. cond (before c w) (units_at v x c) 0) (λ c. cond (before (granted v ps c) w) (units_at v x (granted v ps c)) 0) ps (λ c i.
                  by-test (before c w) (λ b. rw (b, first c w b) (omega (arith, granted-uses v ps x l c))) (λ b. rw b (omega arith))),
            )

-- ── granting what is packed ──
module _ (v : Setting) (ps : List Claim) (holders : Apart v ps) (fit : Separated v ps) (low : StartsFrom v.clock ps) (tight : Tight v ps) (sane : Each (Sane v) ps)
    (ascending : Ascending ps) where
  -- Where no holder of units is due, units are free as planned.
  none-due : (w : Claim) → w ∈ ps → on w ≡ false → at w ≡ v.clock → Each (λ c. on c ≡ true → 0 < c.units → v.clock < end_of v c) ps
      → held_units ps + sum (taken_before (goes v ps) w) ps + w.units ≤ v.pool
  unfolding held_units used
  none-due w m o e h =
      omega (
        arith,
        fit.supplied v.clock (omega arith),
        sum_both held_by (taken_before (goes v ps) w) ps,
        sum-gap (λ c. held_by c + taken_before (goes v ps) w c) (units_at v v.clock) w.units m own each,
      )
    where
      own : held_by w + taken_before (goes v ps) w w + w.units ≤ units_at v v.clock w
      own =
          by-test (before w w)
          (λ b. absurd (omega (arith, before-lt w w b o)))
          (λ b. rw o (omega (arith, taken-after (goes v ps) w w b, units-is v v.clock w (record { begun = λ q. omega arith; going = omega (arith, end-wait v w o, (sane w m).long) }))))

      stay : (c : Claim) → goes v ps c ≡ false → taken_before (goes v ps) w c ≡ 0
      stay c p = by-test (before c w) (λ b. taken-before (goes v ps) w c b ∙ rw p) (λ b. taken-after (goes v ps) w c b)

      taken-le : (c : Claim) → taken_before (goes v ps) w c ≤ c.units
      taken-le c =
          by-test (before c w)
          (λ b. by-test (goes v ps c)
          (λ g. let q : taken_before (goes v ps) w c ≡ c.units = taken-before (goes v ps) w c b ∙ rw g in omega arith)
          (λ g. omega (arith, stay c g)))
          (λ b. omega (arith, taken-after (goes v ps) w c b))

      each : (c : Claim) → c ∈ ps → held_by c + taken_before (goes v ps) w c ≤ units_at v v.clock c
      each c k =
          by-test (on c)
          (λ q. rw q (by_order c.units 0
          (λ z. omega (arith, stay c (goes_on v ps c q)))
          (λ z. omega (arith, stay c (goes_on v ps c q), units-is v v.clock c (record { begun = λ f. clash q f; going = h c k q z })))))
          (λ q. rw q (by-test (goes v ps c)
          (λ g. omega (arith, taken-le c, units-is v v.clock c (record { begun = λ f. omega (arith, goes-at v ps c g); going = omega (arith, end-wait v c q, (sane c k).long, goes-at v ps c g) })))
          (λ g. omega (arith, stay c g))))

  -- What does not go on is held up.
  pub stays-held : (w : Claim) → w ∈ ps → goes v ps w ≡ false → on w ≡ false → HeldUp v ps w
  stays-held w m g o = ⊎_elim (λ e. why e (stays v ps w g o e)) (λ h. h) (tight w m o)
    where
      at-clock : (d : Claim) → d ∈ ps → at w ≡ v.clock → precedes d w ≡ true → end_of v d ≡ at w
      at-clock d k e p =
          let h = fit.behind d w k m o (precedes-before d w (sane d k) p) (precedes-conflicts d w p) in
          by-test (on d) (λ q. omega (arith, end-clock v d q)) (λ q. absurd (omega (arith, end-wait v d q, low d k q, (sane d k).long)))

      -- A holder of units whose end has come.
      due : Claim → Bool
      due c = on c && (ltb 0 c.units && leb (end_of v c) v.clock)

      not-due : (c : Claim) → due c ≡ false → on c ≡ true → 0 < c.units → v.clock < end_of v c
      not-due c e q z = leb-false _ _ (simp (q, lt-ltb 0 c.units z) at e)

      why : at w ≡ v.clock → Stays v ps w → HeldUp v ps w
      why e (preceded d k p) = (d, k, meets-rival d w (precedes-conflicts d w p), at-clock d k e p)
      why e (unspared z l) =
          by-test (any due ps)
          (λ q.
          let r = any_some due ps q in
          let c = r.0 in
          let y = and_r (on c) _ r.2 in (
            c,
            r.1,
            meets-units c w (ltb-true 0 c.units (and_l (ltb 0 c.units) _ y)) z,
            omega (arith, leb-true (end_of v c) v.clock (and_r (ltb 0 c.units) _ y), end-clock v c (and_l (on c) _ r.2)),
          ))
          (λ q. absurd (omega (arith, none-due w m o e (λ c k. not-due c (any_none due q k)))))

  -- Of two conflicting waiting claims the one that goes on is before.
  goes_first : (c d : Claim) → c ∈ ps → d ∈ ps → goes v ps c ≡ true → on d ≡ false → c.ticket ≢ d.ticket → rival c d ≡ true → before c d ≡ true
  goes_first c d m k g o n h =
      ⊎_elim (λ b. b)
      (λ b. clash (before-precedes v ps fit d c (sane d k) k m (goes-wait v ps c g) b (conflicts-sym c d h)) (goes-free v ps c g d k))
      (either-before c d (sane c m) (sane d k) n)

  pub grant-apart : Apart v (grant v ps)
  unfolding grant
  grant-apart = record {
    apart =
        map-each2 (λ (c d : Claim). c.ticket ≢ d.ticket → rival c d ≡ true → on c ≡ true → on d ≡ true → ⊥) (granted v ps) ps
        (λ c d m k. granted-cases (λ (x : Claim). x.ticket ≢ (granted v ps d).ticket → rival x (granted v ps d) ≡ true → on x ≡ true → on (granted v ps d) ≡ true → ⊥) v ps c
        (λ p. granted-cases (λ (y : Claim). c.ticket ≢ y.ticket → rival c y ≡ true → true ≡ true → on y ≡ true → ⊥) v ps d
        (λ q n h a b. clash (before-precedes v ps fit c d (sane c m) m k (goes-wait v ps d q) (goes_first c d m k p (goes-wait v ps d q) n h) h) (goes-free v ps d q c m))
        (λ q n h a b. clash (precedes-on d c (conflicts-sym c d h) b) (goes-free v ps c p d k)))
        (λ p. granted-cases (λ (y : Claim). c.ticket ≢ y.ticket → rival c y ≡ true → on c ≡ true → on y ≡ true → ⊥) v ps d
        (λ q n h a b. clash (precedes-on c d h a) (goes-free v ps d q c m))
        (λ q. holders.apart c d m k)));
    stock = grant-stock v ps sane ascending holders.stock;
  }

  pub grant-separates : Separated v (grant v ps)
  unfolding grant used
  grant-separates = record {
    behind = λ c w mc mw o b p.
        map-each2 (λ (c w : Claim). on w ≡ false → before c w ≡ true → rival c w ≡ true → end_of v c ≤ at w) (granted v ps) ps
        (λ c w m k. granted-cases (λ (y : Claim). on y ≡ false → before (granted v ps c) y ≡ true → rival (granted v ps c) y ≡ true → end_of v (granted v ps c) ≤ at y) v ps w
        (λ p q. clash refl q)
        (λ p q. granted-cases (λ (x : Claim). before x w ≡ true → rival x w ≡ true → end_of v x ≤ at w) v ps c
        (λ a b e. rw (end-granted v ps c a) (more c w m k a p q e (same? c.ticket w.ticket)))
        (λ a b e. fit.behind c w m k q b e)))
        c w mc mw o b p;
    supplied = λ x l. omega (arith, fit.supplied x l, grant-uses v ps x l);
  }
    where
      more : (c w : Claim) → c ∈ ps → w ∈ ps → goes v ps c ≡ true → goes v ps w ≡ false → on w ≡ false → rival c w ≡ true
          → (c.ticket ≡ w.ticket) ⊎ (c.ticket ≢ w.ticket) → end_of v c ≤ at w
      more c w m k a p q h (inl e) = clash (subst (λ (x : Claim). goes v ps x ≡ true) (ascending-same ps ascending c w m k e) a) p
      more c w m k a p q h (inr n) = fit.behind c w m k q (goes_first c w m k a q n h) h

  pub grant-starts : StartsFrom v.clock (grant v ps)
  unfolding grant
  grant-starts =
      map_each (λ (x : Claim). on x ≡ false → v.clock ≤ at x) (granted v ps) ps
      (λ c m. granted-cases (λ (x : Claim). on x ≡ false → v.clock ≤ at x) v ps c (λ p q. clash refl q) (λ p q. low c m q))

  pub grant-blocked : Blocked v (grant v ps)
  unfolding grant
  grant-blocked =
      map_each (λ (x : Claim). on x ≡ false → HeldUp v (map (granted v ps) ps) x) (granted v ps) ps
      (λ w m. granted-cases (λ (x : Claim). on x ≡ false → HeldUp v (map (granted v ps) ps) x) v ps w (λ p q. clash refl q) (λ p q. hold w (stays-held w m p q)))
    where
      hold : (w : Claim) → HeldUp v ps w → HeldUp v (map (granted v ps) ps) w
      hold w h = (
        granted v ps h.0,
        map-i (granted v ps) h.1,
        granted-cases (λ (x : Claim). meets x w ≡ true) v ps h.0 (λ g. h.2) (λ g. h.2),
        granted-cases (λ (x : Claim). end_of v x ≡ at w) v ps h.0 (λ g. end-granted v ps h.0 g ∙ h.3) (λ g. h.3),
      )
