-- Placing: the start fits, is the least of all numbers that do, and is the clock or the end of a claim that has something in common with it.
use mathlib.Core.Path.{◌≡◌, refl}
use mathlib.Core.Logic.{◌⊎◌, inl, inr, ⊎_elim}
use mathlib.Core.Bool.{Bool, true, false, not, ◌&&◌, ◌||◌}
use mathlib.Core.List.{List}
use Prim.Native.Nat.{ℕ, ◌+◌, ◌≤◌, ◌<◌}
use native.Mathlib.Omega.{arith}
use lib.Dec.{leb}
use borrow.Author.Tests.{leb-true, leb-false, le-leb, not-true, not-false}
use Rattle.rules.specs.declared.Claim.{Claim}
use Rattle.rules.specs.Lists.{◌∈◌, greatest, all}
use Rattle.rules.specs.declared.Setting.{Setting}
use Rattle.rules.specs.Claims.{on, at, rival, end_of}
use Rattle.rules.specs.Order.{meets}
use Rattle.rules.specs.Pool.{spare}
use Rattle.rules.specs.Placing.{clear, fits, place}
use Rattle.rules.specs.Plans.{Sane, Room, Fits}
use Rattle.rules.proofs.Bools.{by-test, and_l, and_r, and_i, or-e, or_r, or-fl, or-fr}
use Rattle.rules.proofs.Lists.{greatest-ge, all-e, all-i}
use Rattle.rules.proofs.Order.{meets-rival}
use Rattle.rules.proofs.Pool.{spare-e, spare-i, spare-last}
use Rattle.rules.proofs.Seeking.{anchor, anchor-le, anchor-ge, seek-low, seek-passes, seek-least, seek_is, spare-down}

-- A claim that leaves no room at s conflicts with w and ends after s; if it waits, w would still run at its start.
pub barred : (v : Setting) (w : Claim) (s : ℕ) (c : Claim) → clear v w s c ≡ false → (rival c w ≡ true) × (s < end_of v c) × (on c ≡ false → at c < s + w.length)
unfolding clear
barred v w s c e =
    let waits = not (on c) && leb (s + w.length) (at c) in
    let r = or-fr (not (rival c w)) (leb (end_of v c) s || waits) e in
    let q = or-fr (leb (end_of v c) s) waits r in (
      not-false (rival c w) (or-fl (not (rival c w)) _ e),
      leb-false _ _ (or-fl (leb (end_of v c) s) _ r),
      λ o. leb-false _ _ (rw o at q),
    )

-- ── what fits ──
clear-e : (v : Setting) (w : Claim) (s : ℕ) (c : Claim) → clear v w s c ≡ true → rival c w ≡ true → Room v w s c
unfolding clear
clear-e v w s c e h =
    let r : (leb (end_of v c) s || (not (on c) && leb (s + w.length) (at c))) ≡ true = rw h at e in
    ⊎_elim
    (λ p. inl (leb-true _ _ p))
    (λ p. inr (not-true (on c) (and_l (not (on c)) _ p), leb-true _ _ (and_r (not (on c)) _ p)))
    (or-e (leb (end_of v c) s) _ r)

clear-i : (v : Setting) (w : Claim) (s : ℕ) (c : Claim) → (rival c w ≡ true → Room v w s c) → clear v w s c ≡ true
unfolding clear
clear-i v w s c h =
    by-test (rival c w)
    (λ e. rw e (⊎_elim
    (λ p. rw (le-leb (end_of v c) s p))
    (λ p. rw (p.0, le-leb (s + w.length) (at c) p.1) (or_r (leb (end_of v c) s) true refl))
    (h e)))
    (λ e. rw e)

pub fits-e : (v : Setting) (ps : List Claim) (w : Claim) (s : ℕ) → fits v ps w s ≡ true → Fits v ps w s
unfolding fits
fits-e v ps w s e = record {
  room = λ c m. clear-e v w s c (all-e (clear v w s) (and_l _ (spare v ps w s) e) m);
  spare = spare-e v ps w s (and_r (all (clear v w s) ps) _ e);
}

pub fits-i : (v : Setting) (ps : List Claim) (w : Claim) (s : ℕ) → 1 ≤ w.length → Fits v ps w s → fits v ps w s ≡ true
unfolding fits
fits-i v ps w s long h = and_i _ (spare v ps w s) (all-i (clear v w s) ps (λ c m. clear-i v w s c (h.room c m))) (spare-i v ps w s long h.spare)

-- ── the planned start ──
module _ (v : Setting) (ps : List Claim) (w : Claim) where
  pub place-low : v.clock ≤ place v ps w
  unfolding place
  place-low = seek-low v ps (fits v ps w)

  module _ (sane : Sane v w) where
    against : Claim → Bool
    against c = meets c w

    last : fits v ps w (greatest (end_of v) v.clock ps) ≡ true
    last = fits-i v ps w _ sane.long (record { room = λ c m e. inl (greatest-ge (end_of v) v.clock m); spare = spare-last v ps w sane.drawn })

    down : (s : ℕ) → v.clock ≤ s → fits v ps w s ≡ true → fits v ps w (anchor v against ps s) ≡ true
    unfolding against
    down s h e =
        let f = fits-e v ps w s e in
        fits-i v ps w _ sane.long (record {
          room = λ c m q.
              ⊎_elim (λ r. inl (anchor-ge v against ps s c m (meets-rival c w q) r)) (λ r. inr (r.0, omega (arith, r.1, anchor-le v against ps s h))) (f.room c m q);
          spare = spare-down v ps w s sane.long h f.spare;
        })

    pub place-fits : Fits v ps w (place v ps w)
    unfolding place
    place-fits = fits-e v ps w _ (seek-passes v ps (fits v ps w) last)

    -- The least of all numbers not below the clock that fit.
    pub place-least : (s : ℕ) → v.clock ≤ s → Fits v ps w s → place v ps w ≤ s
    unfolding place
    place-least s h f = seek-least v against ps (fits v ps w) down s h (fits-i v ps w s sane.long f)

    pub place_is : (place v ps w ≡ v.clock) ⊎ ((c : Claim) × c ∈ ps × (meets c w ≡ true) × (end_of v c ≡ place v ps w))
    unfolding place against
    place_is = seek_is v against ps (fits v ps w) last down
