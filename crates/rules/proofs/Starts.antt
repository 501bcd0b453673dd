-- The start behind some claims: it may be taken, it is the least of all numbers that may, and it is the clock or an end. Nothing else is
-- known of it above.
use mathlib.Core.Path.{◌≡◌}
use mathlib.Core.Logic.{◌⊎◌, ⊎_elim}
use mathlib.Core.Bool.{Bool, true, not, ◌||◌}
use mathlib.Core.List.{List}
use Prim.Native.Nat.{ℕ, ◌≤◌}
use lib.Dec.{leb}
use borrow.Author.Tests.{leb-true, le-leb, not-true}
use Rattle.rules.specs.declared.Claim.{Claim}
use Rattle.rules.specs.Lists.{◌∈◌, greatest, all}
use Rattle.rules.specs.declared.Setting.{Setting}
use Rattle.rules.specs.Claims.{rival, end_of}
use Rattle.rules.specs.Order.{meets}
use Rattle.rules.specs.Pool.{spare}
use Rattle.rules.specs.Packing.{ready, start_for}
use Rattle.rules.specs.Plans.{Sane, Behind}
use Rattle.rules.proofs.Bools.{by-test, clash, and_l, and_r, and_i, or-e, or_r}
use Rattle.rules.proofs.Lists.{greatest-ge, all-e, all-i}
use Rattle.rules.proofs.Order.{meets-rival}
use Rattle.rules.proofs.Pool.{spare-e, spare-i, spare-last}
use Rattle.rules.proofs.Seeking.{anchor, anchor-ge, seek-low, seek-passes, seek-least, seek_is, spare-down}

module _ (v : Setting) (qs : List Claim) (w : Claim) where
  pub for-low : v.clock ≤ start_for v qs w
  unfolding start_for
  for-low = seek-low v qs (ready v qs w)

  ready-e : (s : ℕ) → ready v qs w s ≡ true → Behind v qs w s
  unfolding ready
  ready-e s e = record {
    after = λ c m p.
        ⊎_elim (λ q. clash p (not-true (rival c w) q)) (leb-true (end_of v c) s)
        (or-e (not (rival c w)) _ (all-e (λ c. not (rival c w) || leb (end_of v c) s) (and_l _ (spare v qs w s) e) m));
    spare = spare-e v qs w s (and_r (all (λ c. not (rival c w) || leb (end_of v c) s) qs) _ e);
  }

  module _ (sane : Sane v w) where
    ready-i : (s : ℕ) → Behind v qs w s → ready v qs w s ≡ true
    unfolding ready
    ready-i s k =
        and_i _ (spare v qs w s)
        (all-i (λ c. not (rival c w) || leb (end_of v c) s) qs (λ c m. by-test (rival c w) (λ p. or_r (not (rival c w)) _ (le-leb _ _ (k.after c m p))) (λ p. rw p)))
        (spare-i v qs w s sane.long k.spare)

    against : Claim → Bool
    against c = meets c w

    last : ready v qs w (greatest (end_of v) v.clock qs) ≡ true
    last = ready-i _ (record { after = λ c m p. greatest-ge (end_of v) v.clock m; spare = spare-last v qs w sane.drawn })

    down : (s : ℕ) → v.clock ≤ s → ready v qs w s ≡ true → ready v qs w (anchor v against qs s) ≡ true
    unfolding against
    down s h e =
        let k = ready-e s e in
        ready-i _ (record { after = λ c m p. anchor-ge v against qs s c m (meets-rival c w p) (k.after c m p); spare = spare-down v qs w s sane.long h k.spare })

    pub for-behind : Behind v qs w (start_for v qs w)
    unfolding start_for
    for-behind = ready-e _ (seek-passes v qs (ready v qs w) last)

    pub for-least : (s : ℕ) → v.clock ≤ s → Behind v qs w s → start_for v qs w ≤ s
    unfolding start_for
    for-least s h k = seek-least v against qs (ready v qs w) down s h (ready-i s k)

    -- It is the clock, or the end of a claim that has something in common with w.
    pub for-is : (start_for v qs w ≡ v.clock) ⊎ ((c : Claim) × c ∈ qs × (meets c w ≡ true) × (end_of v c ≡ start_for v qs w))
    unfolding start_for against
    for-is = seek_is v against qs (ready v qs w) last down
