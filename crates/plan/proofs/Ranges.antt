-- Numbers in range stay in range: at a later clock, in packing, and in what is counted of the places. So no sum in the code wraps.
use mathlib.Core.Path.{◌≡◌, refl}
use mathlib.Core.Logic.{⊎_elim}
use mathlib.Core.Bool.{true, false}
use mathlib.Core.List.{List}
use Prim.Native.Nat.{ℕ, ◌+◌, ◌*◌, ◌≤◌, ◌-◌}
use native.Mathlib.Omega.{arith}
use native.Mathlib.Nat.{mul-le-mul_right}
use Rattle.numbers.specs.Numbers.{most_clock, most_pending, most_length, most_grace}
use Rattle.rules.specs.declared.Claim.{Claim}
use Rattle.rules.specs.declared.Phase.TheVariants.{Waiting}
use Rattle.rules.specs.declared.Setting.{Setting}
use Rattle.rules.specs.Claims.{on, with_phase, end_of, at, rival, remaining}
use Rattle.rules.specs.Packing.{packed_start, moved}
use Rattle.rules.specs.Lists.{◌∈◌, sum}
use Rattle.rules.specs.Order.{rivals}
use Rattle.rules.specs.Placing.{place, contention, start_bound}
use Rattle.rules.proofs.Bools.{clash}
use Rattle.rules.proofs.Claims.{end-le, remaining-le}
use Rattle.rules.proofs.Lists.{Each, keep-e, keep-length, sum-le-each}
use Rattle.rules.proofs.Packing.{moved-cases}
use Rattle.rules.proofs.Invariants.{Later, later-sane}
use Rattle.rules.proofs.Sizes.{start-cap}
use Rattle.rules.proofs.Placing.{place_is}
use Rattle.plan.specs.Rows.{Sized, InRange, Capped}
use Rattle.plan.proofs.Rows.{sized-small}
use Rattle.plan.specs.Bounds.{most_at, most_packed, most_start}

-- ── a later clock, and packing ──
pub sized-later : (v u : Setting) (c : Claim) → Later v u → Sized v c → Sized u c
sized-later v u c l s = record { sane = later-sane l s.sane; short = s.short; aged = λ o. omega (arith, s.aged o, l.later); planned = s.planned }

-- At another start.
pub sized-waiting : {v : Setting} {s : ℕ} {c : Claim} → Sized v c → s ≤ most_start → Sized v (with_phase c (Waiting s))
sized-waiting z h = record { sane = record { long = z.sane.long; small = z.sane.small; drawn = z.sane.drawn }; short = z.short; aged = λ o. clash o refl; planned = λ o. h }

-- Claims in range at a later clock, or with another grace.
pub in-range-later : {v u : Setting} {ps : List Claim} → Later v u → u.clock ≤ most_clock → u.grace ≤ most_grace → InRange v ps → InRange u ps
in-range-later {v} {u} l h g r = record {
  few = r.few;
  timely = h;
  ascending = r.ascending;
  sized = λ c m. sized-later v u c l (r.sized c m);
  pooled = omega (arith, r.pooled, l.same);
  stock = omega (arith, r.stock, l.same);
  lenient = g;
}

-- A packed start is at most the latest clock and 65 lengths: no grace is longer than the longest length.
pub start_small : {v : Setting} {ps : List Claim} → InRange v ps → (c : Claim) → c ∈ ps → on c ≡ false → packed_start v ps c ≤ most_packed
start_small {v} {ps} r c m o =
    omega (arith, start-cap v (most_clock + most_length) ps (λ d i. (r.sized d i).sane) (omega (arith, r.timely)) ends c m o, sum-le-each (λ c. c.length) most_length ps (λ d i. (r.sized d i).short), r.few)
  where
    ends : (d : Claim) → d ∈ ps → on d ≡ true → end_of v d ≤ most_clock + most_length
    ends d i q = end-le v d (most_clock + most_length) (omega (arith, (r.sized d i).aged q, (r.sized d i).short, r.timely)) (omega (arith, r.timely, r.lenient))

pub packed-small : (v : Setting) (ps : List Claim) → InRange v ps → (c : Claim) → c ∈ ps → at (moved (packed_start v ps) c) ≤ most_at
packed-small v ps r c m =
    moved-cases (λ (d : Claim). at d ≤ most_at) (packed_start v ps) c
    (λ o. sized-small v c r.timely (r.sized c m))
    (λ o. omega (arith, start_small r c m o))

-- ── the conflicting claims, their remaining time, the start bound and the planned start ──
pub remaining-short : (v : Setting) (c : Claim) → v.grace ≤ most_grace → Sized v c → remaining v c ≤ most_length
remaining-short v c l s = remaining-le v c most_length s.aged s.short (omega arith)

module _ (v : Setting) (ps : List Claim) (w : Claim) (r : InRange v ps) where
  pub rivals-few : contention ps w ≤ 64
  unfolding contention
  rivals-few = omega (arith, keep-length (λ c. rival c w) ps, r.few)

  pub time-short : sum (remaining v) (rivals ps w) ≤ most_pending * most_length
  unfolding contention
  time-short = omega (arith, rivals-few, sum-le-each (remaining v) most_length (rivals ps w) short)
    where
      short : Each (λ c. remaining v c ≤ most_length) (rivals ps w)
      short c m = remaining-short v c r.lenient (r.sized c (keep-e (λ d. rival d w) ps m).0)

  pub bound-small : Sized v w → start_bound v ps w ≤ most_start
  unfolding start_bound
  bound-small s = omega (arith, time-short, mul-le-mul_right (w.length - 1) rivals-few, r.timely, s.short)

  -- A planned start is the clock or an end.
  pub place-small : Sized v w → Capped ps → place v ps w ≤ most_start
  place-small s low =
      ⊎_elim
      (λ e. omega (arith, r.timely))
      (λ e. omega (arith, e.3, end-le v e.0 (most_packed + most_length) (omega (arith, low e.0 e.1, (r.sized e.0 e.1).short)) (omega (arith, r.timely, r.lenient))))
      (place_is v ps w s.sane)
