-- The search for the start of a claim that draws units: barred by no more than the room there is, at every time of the hold, is what fits.
use mathlib.Core.Path.{◌≡◌, sym, ◌∙◌, ap, subst}
use mathlib.Core.Logic.{inl, inr, ⊎_elim}
use mathlib.Core.Bool.{Bool, true, cond}
use mathlib.Core.List.{List, []}
use Prim.Native.Nat.{ℕ, ◌+◌, ◌-◌, ◌≤◌, ◌<◌}
use native.Mathlib.Omega.{arith}
use native.Mathlib.Numerals.{add-one}
use lib.ListN.{length, take}
use lib.Seq.{take-suc}
use Rattle.std.proofs.lemmas.List.{take_all}
use Rattle.rules.specs.declared.Claim.{Claim}
use Rattle.rules.specs.declared.Setting.{Setting}
use Rattle.rules.specs.Lists.{◌∈◌, sum}
use Rattle.rules.specs.Claims.{on, at, rival, end_of}
use Rattle.rules.specs.Pool.{covers, units_at, used}
use Rattle.rules.specs.Plans.{Room, Fits}
use Rattle.rules.specs.Placing.{place}
use Rattle.rules.specs.Vacant.{vacant}
use Rattle.rules.proofs.Bools.{by-test, by_order, clash}
use Rattle.rules.proofs.Lists.{Each, sum-le, sum-gap, sum-snoc}
use Rattle.rules.proofs.Claims.{end-le}
use Rattle.rules.proofs.Pool.{covers-e, covers-i}
use Rattle.rules.proofs.Placing.{place-low, place-fits, place-least}
use Rattle.plan.specs.Rows.{Sized, InRange, Capped}
use Rattle.plan.proofs.Rows.{row-member}
use Rattle.plan.proofs.Sorting.{inserted-length}
use Rattle.plan.specs.SortKeys.{claim_at, Inserted}
use Rattle.plan.specs.Events.{event_word, FirstFit}
use Rattle.plan.specs.Barring.{bars_by, barred}
use Rattle.plan.proofs.Plots.{holds_at, Plot, plot-none, plot-same, plot-more, fit_low, fit-room, fit-least, claim-long, claim-covers}
use Rattle.numbers.specs.Numbers.{most_units}
use Rattle.plan.specs.Bounds.{most_end, most_packed, units_in_word}

-- ── by how many a claim is barred ──
module _ (v : Setting) (w : Claim) (x : ℕ) where
  abbrev bars : Claim → ℕ
  bars c = cond (covers v x c) (bars_by w c) 0

  -- What holds at x bars by what it uses, or by more.
  bars-used : (c : Claim) → c.units ≤ most_units → units_at v x c ≤ bars c
  unfolding units_at
  bars-used c s =
      by-test (covers v x c)
      (λ k. by-test (rival c w) (λ h. rw (k, h) s) (λ h. rw (k, h) (omega arith)))
      (λ k. rw k (omega arith))

  bars-rival : (c : Claim) → rival c w ≡ true → covers v x c ≡ true → bars c ≡ most_units
  bars-rival c h k = rw (k, h)

  bars-other : (c : Claim) → (covers v x c ≡ true → rival c w ≡ true → ⊥) → bars c ≤ units_at v x c
  unfolding units_at
  bars-other c n =
      by-test (covers v x c)
      (λ k. by-test (rival c w) (λ h. absurd (n k h)) (λ h. rw (k, h) (omega arith)))
      (λ k. rw k (omega arith))

module _ (v : Setting) (ps : List Claim) (w : Claim) (small : Each (λ c. c.units ≤ most_units) ps) where
  -- Within the room, nobody who shares a group holds at x, and no more is used than the room.
  within-used : (room x : ℕ) → barred v w x ps ≤ room → used v x ps ≤ room
  unfolding barred used
  within-used room x h = omega (arith, sum-le (units_at v x) (bars v w x) ps (λ c m. bars-used v w x c (small c m)))

  within-rival : (room x : ℕ) → room < most_units → barred v w x ps ≤ room → (c : Claim) → c ∈ ps → covers v x c ≡ true → rival c w ≡ true → ⊥
  unfolding barred
  within-rival room x less h c m k r =
      omega (
        arith,
        bars-rival v w x c r k,
        sum-gap (λ (d : Claim). 0) (bars v w x) most_units m (omega (arith, bars-rival v w x c r k)) (λ d i. omega arith),
      )

  -- And the other way round.
  within : (room x : ℕ) → ((c : Claim) → c ∈ ps → covers v x c ≡ true → rival c w ≡ true → ⊥) → used v x ps ≤ room → barred v w x ps ≤ room
  unfolding barred used
  within room x none h = omega (arith, sum-le (bars v w x) (units_at v x) ps (λ c m. bars-other v w x c (none c m)))

-- ── a hold ──
-- A claim that leaves no room for w at s holds at some time of the hold, and one that leaves room at none.
module _ (v : Setting) (w c : Claim) (s : ℕ) (long : 1 ≤ w.length) (lasts : at c < end_of v c) where
  room-clear : ((x : ℕ) → s ≤ x → x < s + w.length → covers v x c ≡ true → ⊥) → Room v w s c
  room-clear h =
      by_order (end_of v c) s inl
      (λ l. by-test (on c)
      (λ o. absurd (h s (omega arith) (omega arith) (covers-i v s c (record { begun = λ q. clash o q; going = l }))))
      (λ o. by_order (s + w.length) (at c)
      (λ k. inr (o, k))
      (λ k. by_order (at c) s
      (λ a. absurd (h s (omega arith) (omega arith) (covers-i v s c (record { begun = λ q. a; going = l }))))
      (λ a. absurd (h (at c) (omega arith) k (covers-i v (at c) c (record { begun = λ q. omega arith; going = lasts })))))))

  clear_room : Room v w s c → (x : ℕ) → s ≤ x → x < s + w.length → covers v x c ≡ true → ⊥
  clear_room r x a b k =
      let e = covers-e v x c k in
      ⊎_elim (λ q. omega (arith, e.going)) (λ q. omega (arith, e.begun q.0, q.1)) r

-- ── the planned start ──
module _ (v : Setting) (ps : List Claim) (w : Claim) (row : InRange v ps) (size : Sized v w) (drawing : 0 < w.units)
    {starts ends : List ℕ} {s : ℕ} (plot : Plot v.clock starts ends (λ x. barred v w x ps))
    (first : FirstFit 0 starts ends (v.pool - w.units) v.clock w.length s) where
  small : Each (λ c. c.units ≤ most_units) ps
  small c m = omega (arith, (row.sized c m).sane.drawn, row.pooled)

  fits-at : Fits v ps w s
  fits-at =
      let drawn = size.sane.drawn in
      record {
        room = λ c m h. room-clear v w c s size.sane.long (claim-long v c (row.sized c m)) (λ x a b q.
            within-rival v ps w small (v.pool - w.units) x (omega (arith, row.pooled)) (fit-room plot (omega arith) first x a b) c m q h);
        spare = λ z x a b. omega (arith, within-used v ps w small (v.pool - w.units) x (fit-room plot (omega arith) first x a b));
      }

  pub drawn-start : s ≡ place v ps w
  drawn-start =
      let p = place-fits v ps w size.sane in
      omega (
        arith,
        place-least v ps w size.sane s (fit_low plot (omega arith) first) fits-at,
        fit-least plot (omega arith) first (place v ps w) (place-low v ps w) (λ x a b.
            within v ps w small (v.pool - w.units) x
            (λ c m q h. clear_room v w c (place v ps w) size.sane.long (claim-long v c (row.sized c m)) (p.room c m h) x a b q)
            (omega (arith, p.spare drawing x a b))),
      )

-- ── gathered claim by claim ──
-- What bars w of the first i claims is plotted, each as one hold at most.
pub record Gathered (v : Setting) (w : Claim) (ps : List Claim) (i : ℕ) (starts ends : List ℕ) : Type 0 where
  pub plot : Plot v.clock starts ends (λ x. barred v w x (take i ps))
  pub few : length starts ≤ i

-- Nothing bars it before any claim is gathered.
pub gather-start : (v : Setting) (w : Claim) (ps : List Claim) → Gathered v w ps 0 [] []
unfolding barred sum
gather-start v w ps = record { plot = plot-none; few = omega arith }

pub gather_all : {v : Setting} {w : Claim} {ps : List Claim} {i : ℕ} {starts ends : List ℕ} → length ps ≤ i → Gathered v w ps i starts ends
    → Plot v.clock starts ends (λ x. barred v w x ps)
gather_all {v} {w} {ps} {i} {starts} {ends} h g = subst (λ (l : List Claim). Plot v.clock starts ends (λ x. barred v w x l)) (take_all i ps h) g.plot

module _ (v : Setting) (w : Claim) (ps : List Claim) (i : ℕ) (here : i < length ps) where
  barred-more : (x : ℕ) → barred v w x (take (i + 1) ps) ≡ barred v w x (take i ps) + bars v w x (claim_at ps i)
  unfolding barred
  barred-more x =
      ap (λ (k : ℕ). sum (bars v w x) (take k ps)) (add-one i) ∙ ap (sum (bars v w x)) (take-suc ps i vacant here)
      ∙ sum-snoc (bars v w x) (take i ps) (claim_at ps i)

  module _ {starts ends : List ℕ} (g : Gathered v w ps i starts ends) (u : ℕ) (is : u ≡ bars_by w (claim_at ps i)) where
    pub gather_none : u ≡ 0 → Gathered v w ps (i + 1) starts ends
    gather_none z = record { plot = plot-same g.plot (λ x h. omega (arith, barred-more x, none x)); few = omega (arith, g.few) }
      where
        none : (x : ℕ) → bars v w x (claim_at ps i) ≡ 0
        none x = ap (λ (a : ℕ). cond (covers v x (claim_at ps i)) a 0) (sym is ∙ z) ∙ by-test (covers v x (claim_at ps i)) (λ e. rw e) (λ e. rw e)

    pub gather-more : Sized v (claim_at ps i) → u < units_in_word → end_of v (claim_at ps i) ≤ most_end
        → (s e : ℕ) → s ≡ at (claim_at ps i) → e ≡ end_of v (claim_at ps i) → {new-starts new-ends : List ℕ}
        → Inserted starts (event_word s u) new-starts → Inserted ends (event_word e u) new-ends → Gathered v w ps (i + 1) new-starts new-ends
    gather-more z less early s e is-s is-e into-s into-e =
        let c = claim_at ps i in
        record {
          plot = plot-same
              (plot-more g.plot s e u less (omega (arith, claim-long v c z)) (omega arith) into-s into-e)
              (λ x h. omega (
                arith,
                barred-more x,
                ap (λ (b : Bool). cond b (bars_by w c) 0) (claim-covers v c z x h),
                ap (λ (a : ℕ). holds_at s e a x) is,
                ap (λ (a : ℕ). holds_at a e (bars_by w c) x) is-s,
                ap (λ (a : ℕ). holds_at (at c) a (bars_by w c) x) is-e,
              ));
          few = omega (arith, g.few, inserted-length into-s);
        }

-- Each claim of a row ends soon enough.
pub claim-early : (v : Setting) (ps : List Claim) → InRange v ps → Capped ps → (i : ℕ) → i < length ps
    → (at (claim_at ps i) ≤ most_packed) × (end_of v (claim_at ps i) ≤ most_end)
claim-early v ps row low i h =
    let m = row-member row i h in
    let c = claim_at ps i in
    (low c m, end-le v c most_end (omega (arith, low c m, (row.sized c m).short)) (omega (arith, row.timely, row.lenient)))
