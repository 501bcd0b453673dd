-- Events that stand for the planned use of a pool: a hold entered adds its units from its start to its end, and a first fit is the first
-- time from which the use leaves units enough.
use mathlib.Core.Path.{◌≡◌, refl, ◌∙◌, ap}
use mathlib.Core.Logic.{⊎_elim}
use mathlib.Core.Bool.{Bool, ◌&&◌, cond}
use mathlib.Core.List.{List, []}
use Prim.Native.Nat.{ℕ, ◌+◌, ◌≤◌, ◌<◌}
use native.Mathlib.Omega.{arith}
use lib.Dec.{ltb, leb}
use lib.ListN.{length}
use borrow.Author.Tests.{le-leb, lt-leb, lt-ltb, le-ltb}
use Rattle.rules.specs.declared.Claim.{Claim}
use Rattle.rules.specs.declared.Setting.{Setting}
use Rattle.rules.specs.Lists.{sum}
use Rattle.rules.specs.Claims.{on, at, end_of}
use Rattle.rules.specs.Pool.{covers, units_at}
use Rattle.rules.proofs.Bools.{by-test, by_order}
use Rattle.rules.proofs.Lists.{none}
use Rattle.rules.proofs.Claims.{end-wait, end_ge}
use Rattle.rules.proofs.Pool.{units-le}
use Rattle.plan.specs.Rows.{Sized}
use Rattle.plan.specs.SortKeys.{Inserted}
use Rattle.plan.specs.Events.{event_word, time_in, units_in, up_to, before_time, Events, FirstFit}
use Rattle.plan.proofs.Sorting.{inserted-falls, inserted-one, inserted-length}
use Rattle.plan.proofs.Events.{time-of, units_of, inserted-sum, up-to-all, up-to-whole}
use Rattle.plan.specs.Bounds.{most_end, units_in_word}

-- What a hold from s to e of u units uses at x.
abbrev pub holds_at : ℕ → ℕ → ℕ → ℕ → ℕ
holds_at s e u x = cond (leb s x && ltb x e) u 0

-- The starts and ends are those of a use, from the time t on.
pub record Plot (t : ℕ) (starts ends : List ℕ) (usage : ℕ → ℕ) : Type 0 where
  pub paired : length starts ≡ length ends
  pub events : Events 0 starts ends
  pub is : (x : ℕ) → t ≤ x → up_to x starts ≡ usage x + up_to x ends

-- The same use, said otherwise.
pub plot-same : {t : ℕ} {starts ends : List ℕ} {usage other : ℕ → ℕ} → Plot t starts ends usage → ((x : ℕ) → t ≤ x → usage x ≡ other x) → Plot t starts ends other
plot-same p e = record { paired = p.paired; events = p.events; is = λ x h. omega (arith, p.is x h, e x h) }

pub plot-none : {t : ℕ} → Plot t [] [] (λ x. 0)
unfolding up_to before_time sum
plot-none = record {
  paired = refl;
  events = record { starts_rise = tt; ends_rise = tt; few = omega arith; early = λ w m. none m; balanced = λ x. omega arith; total = omega arith };
  is = λ x h. omega arith;
}

-- ── one hold more ──
module _ {t : ℕ} {starts ends : List ℕ} {usage : ℕ → ℕ} (p : Plot t starts ends usage) (s e u : ℕ) (less : u < units_in_word) (long : s < e) (early : e ≤ most_end)
    {new-starts new-ends : List ℕ} (into-s : Inserted starts (event_word s u) new-starts) (into-e : Inserted ends (event_word e u) new-ends) where
  -- What one event more adds up to a time, and before it.
  up-to-more : (time : ℕ) (old new : List ℕ) → Inserted old (event_word time u) new → (x : ℕ) → up_to x new ≡ cond (leb time x) u 0 + up_to x old
  unfolding up_to
  up-to-more time old new i x = inserted-sum _ i ∙ ap (λ (n : ℕ). n + up_to x old) (cc (time-of time u less, units_of time u less))

  before_more : (time : ℕ) (old new : List ℕ) → Inserted old (event_word time u) new → (x : ℕ) → before_time x new ≡ cond (ltb time x) u 0 + before_time x old
  unfolding before_time
  before_more time old new i x = inserted-sum _ i ∙ ap (λ (n : ℕ). n + before_time x old) (cc (time-of time u less, units_of time u less))

  -- What begins before it ends: at any time it has ended, or it holds, or has not begun.
  begun : (x : ℕ) → cond (leb s x) u 0 ≡ holds_at s e u x + cond (leb e x) u 0
  begun x =
      by_order s x
      (λ a. by_order e x
      (λ b. rw (le-leb s x a, le-leb e x b, le-ltb x e b) (omega arith))
      (λ b. rw (le-leb s x a, lt-leb e x b, lt-ltb x e b) (omega arith)))
      (λ a. rw (lt-leb s x a, lt-leb e x (omega arith)) (omega arith))

  ended-begun : (x : ℕ) → cond (leb e x) u 0 ≤ cond (ltb s x) u 0
  ended-begun x =
      by_order e x
      (λ b. rw (le-leb e x b, lt-ltb s x (omega arith)) (omega arith))
      (λ b. rw (lt-leb e x b) (omega arith))

  total-more : sum units_in new-ends ≡ sum units_in new-starts
  total-more = omega (arith, inserted-sum units_in into-s, inserted-sum units_in into-e, units_of s u less, units_of e u less, p.events.total)

  pub plot-more : Plot t new-starts new-ends (λ x. usage x + holds_at s e u x)
  plot-more = record {
    paired = omega (arith, inserted-length into-s, inserted-length into-e, p.paired);
    events = record {
      starts_rise = inserted-falls p.events.starts_rise into-s;
      ends_rise = inserted-falls p.events.ends_rise into-e;
      few = omega arith;
      early = λ w m. ⊎_elim (λ q. omega (arith, ap time_in q, time-of e u less)) (p.events.early w) (inserted-one into-e w m);
      balanced = λ x. omega (arith, up-to-more e _ _ into-e x, before_more s _ _ into-s x, p.events.balanced x, ended-begun x);
      total = omega (arith, total-more);
    };
    is = λ x h. omega (arith, up-to-more s _ _ into-s x, up-to-more e _ _ into-e x, begun x, p.is x h);
  }

-- ── a first fit ──
module _ {t : ℕ} {starts ends : List ℕ} {usage : ℕ → ℕ} (p : Plot t starts ends usage) {room from hold r : ℕ} (low : t ≤ from)
    (f : FirstFit 0 starts ends room from hold r) where
  pub fit_low : from ≤ r
  fit_low = f.low

  pub fit-room : (x : ℕ) → r ≤ x → x < r + hold → usage x ≤ room
  fit-room x h l = omega (arith, f.fits x h l, p.is x (omega (arith, f.low)))

  pub fit-least : (s : ℕ) → from ≤ s → ((x : ℕ) → s ≤ x → x < s + hold → usage x ≤ room) → r ≤ s
  fit-least s h g = f.least s h (λ x a b. omega (arith, g x a b, p.is x (omega arith)))

-- A first fit is no later than the last end.
pub fit-early : {starts ends : List ℕ} {room from hold r : ℕ} → Events 0 starts ends → FirstFit 0 starts ends room from hold r → from ≤ most_end → r ≤ most_end
fit-early {starts} {ends} v f h =
    f.least most_end h (λ x a b. omega (arith, v.total, up-to-all x starts, up-to-whole x ends (λ w m. omega (arith, v.early w m))))

-- ── the hold of a claim ──
-- A claim in range holds from its start or grant to its end.
module _ (v : Setting) (c : Claim) (s : Sized v c) where
  pub claim-long : at c < end_of v c
  claim-long = by-test (on c) (λ o. omega (arith, end_ge v c o, s.sane.long)) (λ o. omega (arith, end-wait v c o, s.sane.long))

  pub claim-covers : (x : ℕ) → v.clock ≤ x → (leb (at c) x && ltb x (end_of v c)) ≡ covers v x c
  unfolding covers
  claim-covers x h = by-test (on c) (λ o. rw (o, le-leb (at c) x (omega (arith, s.aged o)))) (λ o. rw o)

  pub claim-holds : (x : ℕ) → v.clock ≤ x → holds_at (at c) (end_of v c) c.units x ≡ units_at v x c
  unfolding units_at
  claim-holds x h = ap (λ (b : Bool). cond b c.units 0) (claim-covers x h)

-- A claim that draws none uses none.
pub claim-idle : (v : Setting) (c : Claim) (x : ℕ) → c.units ≡ 0 → units_at v x c ≡ 0
claim-idle v c x z = let h = units-le v x c 0 (λ k y. absurd (omega arith)) in omega arith
