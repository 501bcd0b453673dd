-- Every part of a call keeps a model in range.
use mathlib.Core.Path.{◌≡◌, refl}
use mathlib.Core.Bool.{Bool, not, false}
use mathlib.Core.List.{[], ◌∷◌, map}
use Prim.Native.Nat.{ℕ, suc, ◌≤◌, ◌<◌}
use native.Mathlib.Omega.{arith}
use lib.ListN.{length, length-map, length-append}
use Rattle.numbers.specs.Numbers.{most_clock, most_tickets, most_pending, most_units, most_grace}
use Rattle.rules.specs.declared.Claim.{Claim}
use Rattle.rules.specs.declared.Phase.TheVariants.{On}
use Rattle.rules.specs.declared.Reply.{Reply}
use Rattle.rules.specs.Claims.{on, with_phase}
use Rattle.rules.specs.Packing.{packed_start, moved, pack}
use Rattle.rules.specs.Granting.{granted, grant}
use Rattle.rules.specs.Tests.{named}
use Rattle.rules.specs.Calls.{ruled, granting, Model, with_pending, with_clock, with_grace, declared, setting_of, advance, join, remove, blank}
use Rattle.rules.specs.Plans.{Sane}
use Rattle.rules.specs.Lists.{sum}
use Rattle.rules.specs.Pool.{held_by, held_units}
use Rattle.rules.proofs.Bools.{clash}
use Rattle.rules.proofs.Lists.{Each, none, keep-e, keep-length, map_each, snoc-each, sum-keep-le, sum-snoc}
use Rattle.rules.proofs.Order.{ascending-map, ascending-keep, ascending-snoc}
use Rattle.rules.proofs.Packing.{moved-cases, moved-ticket, pack-held}
use Rattle.rules.proofs.Granting.{granted-cases, granted-ticket, grant-stock}
use Rattle.plan.specs.Rows.{Sized, InRange}
use Rattle.table.specs.Valid.{Ranged}
use Rattle.plan.proofs.Ranges.{sized-waiting, in-range-later, start_small}

-- Each claim is sane at any clock.
pub ranged-sane : (m : Model) (t : ℕ) → Ranged m → Each (Sane (ruled m t)) m.pending
ranged-sane m t r c i = let s = (r.ranges.sized c i).sane in record { long = s.long; small = s.small; drawn = s.drawn }

-- The claims at the table's clock or a later one.
pub ranged-later : (m : Model) (t : ℕ) → Ranged m → m.clock ≤ t → t ≤ most_clock → InRange (ruled m t) m.pending
ranged-later m t r l k = in-range-later (record { later = l; same = refl }) k r.ranges.lenient r.ranges

-- ── new ──
pub blank-ranged : (g k : ℕ) (alone : Bool) → k ≤ most_units → Ranged (blank g k alone)
unfolding held_units sum
blank-ranged g k alone h = record {
  ranges = record { few = omega arith; timely = omega arith; ascending = tt; sized = λ c m. none m; pooled = h; stock = omega arith; lenient = omega arith };
  numbered = omega arith;
  issued = λ c m. none m;
}

-- ── claims that change one by one, and keep their tickets ──
map-ranged : (m : Model) (t : ℕ) (f : Claim → Claim) → Ranged m → t ≤ most_clock → ((c : Claim) → (f c).ticket ≡ c.ticket) → Each (λ c. Sized (ruled m t) (f c)) m.pending → held_units (map f m.pending) ≤ m.pool
    → Ranged (with_pending (with_clock m t) (map f m.pending))
map-ranged m t f r k e h s =
    let q = r.ranges in
    record {
      ranges = record {
        few = omega (arith, length-map m.pending f, q.few);
        timely = k;
        ascending = ascending-map f m.pending e q.ascending;
        sized = map_each (Sized (ruled m t)) f m.pending h;
        pooled = q.pooled;
        stock = s;
        lenient = q.lenient;
      };
      numbered = r.numbered;
      issued = map_each (λ (c : Claim). c.ticket ≤ m.issued) f m.pending (λ c i. omega (arith, e c, r.issued c i));
    }

pub advance-ranged : (m : Model) (t : ℕ) → Ranged m → m.clock ≤ t → t ≤ most_clock → Ranged (advance m t)
unfolding advance pack
advance-ranged m t r l k =
    let f = packed_start (ruled m t) m.pending in
    let q = ranged-later m t r l k in
    map-ranged m t (moved f) r k (moved-ticket f)
    (λ c i. moved-cases (Sized (ruled m t)) f c (λ o. q.sized c i) (λ o. sized-waiting (q.sized c i) (omega (arith, start_small q c i o))))
    (omega (arith, pack-held (ruled m t) m.pending, r.ranges.stock))

pub grant-ranged : (m : Model) (r : Reply) → Ranged m → Ranged (granting m r m.pending).model
unfolding grant
grant-ranged m rep r =
    let v = setting_of m in
    map-ranged m m.clock (granted v m.pending) r r.ranges.timely (granted-ticket v m.pending)
    (λ c i. granted-cases (Sized v) v m.pending c (λ g. held c (r.ranges.sized c i)) (λ g. r.ranges.sized c i))
    (grant-stock v m.pending (λ c i. (r.ranges.sized c i).sane) r.ranges.ascending r.ranges.stock)
  where
    held : (c : Claim) → Sized (setting_of m) c → Sized (setting_of m) (with_phase c (On m.clock))
    held c s = record { sane = record { long = s.sane.long; small = s.sane.small; drawn = s.sane.drawn }; short = s.short; aged = λ o. omega arith; planned = λ o. clash refl o }

-- ── fewer claims, and one more ──
pub remove-ranged : (m : Model) (k : ℕ) → Ranged m → Ranged (remove m k)
unfolding remove held_units
remove-ranged m k r =
    let p : Claim → Bool = λ c. not (named k c) in
    let q = r.ranges in
    record {
      ranges = record {
        few = omega (arith, keep-length p m.pending, q.few);
        timely = q.timely;
        ascending = ascending-keep p m.pending q.ascending;
        sized = λ c i. q.sized c (keep-e p m.pending i).0;
        pooled = q.pooled;
        stock = omega (arith, q.stock, sum-keep-le held_by p m.pending);
        lenient = q.lenient;
      };
      numbered = r.numbered;
      issued = λ c i. r.issued c (keep-e p m.pending i).0;
    }

pub join-ranged : (m : Model) (w : Claim) → Ranged m → length m.pending < most_pending → m.issued < most_tickets → Sized (setting_of m) w → on w ≡ false → w.ticket ≡ suc m.issued → Ranged (join m w)
unfolding join held_units
join-ranged m w r few spare s o e =
    let q = r.ranges in
    record {
      ranges = record {
        few = omega (arith, length-append m.pending (w ∷ []));
        timely = q.timely;
        ascending = ascending-snoc m.pending w q.ascending (λ c i. omega (arith, r.issued c i));
        sized = snoc-each (Sized (setting_of m)) m.pending w q.sized s;
        pooled = q.pooled;
        stock = let z : held_by w ≡ 0 = rw o in omega (arith, q.stock, sum-snoc held_by m.pending w);
        lenient = q.lenient;
      };
      numbered = omega arith;
      issued = snoc-each (λ (c : Claim). c.ticket ≤ suc m.issued) m.pending w (λ c i. omega (arith, r.issued c i)) (omega arith);
    }

-- ── what is set before the first claim ──
pub declared-ranged : (m : Model) (c r l : ℕ) → Ranged m → Ranged (declared m c r l)
declared-ranged m c r l h = record { ranges = h.ranges; numbered = h.numbered; issued = h.issued }

pub graced-ranged : (m : Model) (n : ℕ) → n ≤ most_grace → Ranged m → Ranged (with_grace m n)
graced-ranged m n l h = record { ranges = in-range-later (record { later = omega arith; same = refl }) h.ranges.timely l h.ranges; numbered = h.numbered; issued = h.issued }
