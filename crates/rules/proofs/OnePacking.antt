-- What the rules do twice, code does once. A call packs, acts and packs again; the second packing changes nothing after a clock call or a
-- claim, and where no waiting claim draws units the first changes nothing before a release or a withdrawal. So a claim leaves the others
-- as a clock call does.
use mathlib.Core.Path.{◌≡◌, refl, sym, ◌∙◌, ap, subst}
use mathlib.Core.Bool.{Bool, false, not}
use mathlib.Core.List.{List, [], ◌∷◌, ◌++◌}
use Prim.Native.Nat.{ℕ, ◌≤◌, ◌<◌}
use native.Mathlib.Omega.{arith}
use lib.Dec.{eqb}
use Rattle.numbers.specs.Numbers.{most_tickets}
use Rattle.rules.specs.declared.Claim.{Claim}
use Rattle.rules.specs.declared.Request.{Request}
use Rattle.rules.specs.declared.Phase.TheVariants.{On}
use Rattle.rules.specs.Lists.{keep}
use Rattle.rules.specs.Pool.{held_by, held_units}
use Rattle.rules.specs.declared.Setting.{Setting}
use Rattle.rules.specs.Claims.{on, at, with_phase}
use Rattle.rules.specs.Granting.{granted}
use Rattle.rules.specs.Placing.{place}
use Rattle.rules.specs.declared.Reply.{Reply}
use Rattle.rules.specs.Calls.{Model, setting_of, ruled, Step, advance, granting, with_clock, finish, join, remove, fresh, admit}
use Rattle.rules.specs.Plans.{Ascending, Sane, Separated, StartsFrom, Tight, Earliest, Fits}
use Rattle.rules.specs.Invariants.{IsPacked, Still}
use Rattle.rules.proofs.Lists.{Each, snoc-each, keep-e, sum-keep-le}
use Rattle.rules.proofs.Order.{ascending-keep}
use Rattle.rules.proofs.Packing.{pack-starts, pack-tight, pack-separates, pack-earliest, pack-idle}
use Rattle.rules.proofs.Repacking.{NoneDraws, pack-twice, pack-keep}
use Rattle.rules.proofs.Placing.{place-low, place-least}
use Rattle.rules.proofs.Granting.{granted-cases, grant-snoc, granted-at}
use Rattle.rules.proofs.Invariants.{separated-snoc, earliest-snoc}
use Rattle.rules.proofs.Calls.{placed, fresh-sane, placed-sane, placed-fits}

pub advance-still : (m : Model) (t : ℕ) → Each (Sane (ruled m t)) m.pending → Ascending m.pending → held_units m.pending ≤ m.pool → Still (advance m t)
unfolding advance
advance-still m t sane ascending stock = pack-twice (ruled m t) m.pending sane ascending stock

-- What is still is as packing leaves it.
module _ (m : Model) (still : Still m) where
  pub still-starts : StartsFrom m.clock m.pending
  still-starts = subst (StartsFrom m.clock) still (pack-starts (setting_of m) m.pending)

  pub still-tight : Each (Sane (setting_of m)) m.pending → Tight (setting_of m) m.pending
  still-tight sane = subst (Tight (setting_of m)) still (pack-tight (setting_of m) m.pending sane)

-- A claim placed among claims that are still leaves them so.
pub join-still : (m : Model) (ask : Request) → 1 ≤ ask.length → ask.units ≤ m.pool → m.issued < most_tickets → Each (Sane (setting_of m)) m.pending → Ascending m.pending
    → held_units m.pending ≤ m.pool → Still m → Still (join m (placed m ask))
unfolding join
join-still m ask long drawn spare sane ascending stock still =
    pack-idle v (ps ++ (w ∷ [])) (snoc-each (Sane v) ps w sane good) (separated-snoc m.issued v ps w good refl fits sane separated)
    (snoc-each (λ (x : Claim). on x ≡ false → v.clock ≤ at x) ps w (still-starts m still) (λ o. place-low v ps (fresh m ask)))
    (earliest-snoc m.issued v ps w good refl fits sane earliest (λ s l f. place-least v ps (fresh m ask) (fresh-sane m ask long drawn spare) s l (record { room = f.room; spare = f.spare })))
  where
    v : Setting
    v = setting_of m

    ps : List Claim
    ps = m.pending

    w : Claim
    w = placed m ask

    good : Sane (setting_of m) (placed m ask)
    good = placed-sane m ask long drawn spare

    fits : Fits (setting_of m) m.pending (placed m ask) (at (placed m ask))
    fits = placed-fits m ask long drawn spare

    separated : Separated (setting_of m) m.pending
    separated = subst (Separated (setting_of m)) still (pack-separates (setting_of m) m.pending sane ascending stock)

    earliest : Earliest (setting_of m) m.pending
    earliest = subst (Earliest (setting_of m)) still (pack-earliest (setting_of m) m.pending sane)

-- What finishing gives where nothing moves.
pub finish-still : (m : Model) (r : Reply) → Still m → finish m r ≡ granting m r m.pending
unfolding finish
finish-still m r still = ap (granting m r) still

-- ── an accepted claim, beside a clock call of the same clock ──
-- The new claim as it stands after the call: it waits at its place, or went on there.
abbrev pub joined : Model → Request → Claim
joined m ask = granted (setting_of m) (m.pending ++ (placed m ask ∷ [])) (placed m ask)

pub joined-cases : (m : Model) (ask : Request) (P : Claim → Type 0) → P (with_phase (placed m ask) (On m.clock)) → P (placed m ask) → P (joined m ask)
joined-cases m ask P h k = granted-cases P (setting_of m) (m.pending ++ (placed m ask ∷ [])) (placed m ask) (λ e. h) (λ e. k)

module _ (m : Model) (p : IsPacked m) (still : Still m) (ask : Request) (long : 1 ≤ ask.length) (drawn : ask.units ≤ m.pool) (spare : m.issued < most_tickets) where
  all-still : Still (join m (placed m ask))
  all-still = join-still m ask long drawn spare (λ c k. (p.spaced.proper c k).sane) p.spaced.ascending p.spaced.holders.stock still

  -- The others stand as where only the clock is set.
  pub claim-pending : (r : Reply) → (admit m ask).model.pending ≡ (finish m r).model.pending ++ (joined m ask ∷ [])
  unfolding admit join
  claim-pending r =
      ap (λ (s : Step). s.model.pending) (finish-still (join m (placed m ask)) _ all-still)
      ∙ grant-snoc (setting_of m) m.pending p.spaced.low (λ c k. (p.spaced.proper c k).sane)
      (placed m ask) refl (place-low (setting_of m) m.pending (fresh m ask)) (λ c k. omega (arith, (p.spaced.proper c k).issued))
      ∙ ap (λ (s : Step). s.model.pending ++ (joined m ask ∷ [])) (sym (finish-still m r still))

  pub joined_at : at (joined m ask) ≡ place (setting_of m) m.pending (fresh m ask)
  joined_at = granted-at (setting_of m) (m.pending ++ (placed m ask ∷ [])) (placed m ask)

-- Where no waiting claim draws units, a claim that leaves may leave before the first packing.
pub leave-once : (m : Model) (t i : ℕ) (r : Reply) → Each (Sane (ruled m t)) m.pending → Ascending m.pending → held_units m.pending ≤ m.pool → NoneDraws m.pending
    → finish (remove (advance m t) i) r ≡ finish (advance (remove m i) t) r
unfolding finish remove advance held_units
leave-once m t i r sane ascending stock idle =
    ap (granting (with_clock m t) r)
    (pack-keep v m.pending sane ascending idle (λ x. not (eqb x i))
    ∙ sym (pack-twice v rest (λ c j. sane c (keep-e q m.pending j).0) (ascending-keep q m.pending ascending) (omega (arith, stock, sum-keep-le held_by q m.pending))))
  where
    v : Setting
    v = ruled m t

    q : Claim → Bool
    q c = not (eqb c.ticket i)

    rest : List Claim
    rest = keep (λ c. not (eqb c.ticket i)) m.pending

-- Packed once more at its own clock a table finishes alike.
pub finish-advanced : (m : Model) (r : Reply) → Each (Sane (setting_of m)) m.pending → Ascending m.pending → held_units m.pending ≤ m.pool
    → finish (advance m m.clock) r ≡ finish m r
unfolding finish advance
finish-advanced m r sane ascending stock = ap (granting m r) (pack-twice (setting_of m) m.pending sane ascending stock)
