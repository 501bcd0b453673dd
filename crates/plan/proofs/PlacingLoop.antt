-- Placing a new claim: the search for its start, and the count of those that conflict with it.
-- No candidate is after the planned start (`jump`), so one that fits is it (`found`). What can bar a candidate is kept as a set of places:
-- the claims that conflict (`RivalsBelow`), those of them that may bar a later candidate (`Passed`), those not yet tried at this one (`Tried`).
-- Rests on the rules' laws of `place` and on the laws of sets of groups, which hold of places, too.
use mathlib.Core.Path.{◌≡◌, refl, sym, ◌∙◌, ap}
use mathlib.Core.Logic.{⊎_elim, ◌≢◌}
use mathlib.Core.Bool.{Bool, true, false, not, ◌&&◌, ◌||◌}
use mathlib.Core.List.{List, [], ◌∷◌, ◌++◌}
use Prim.Native.Nat.{ℕ, ◌+◌, ◌-◌, ◌*◌, ◌^◌, ◌≤◌, ◌<◌}
use native.Mathlib.Omega.{arith}
use lib.Dec.{eqb, leb}
use lib.ListN.{length}
use borrow.Author.Tests.{eqb-true, eqb-false, le-leb}
use Rattle.std.proofs.Common.{Some, None}
use Rattle.groups.specs.Groups.{has, some_from, union, without, only, lowest, others}
use Rattle.groups.proofs.Groups.{set-under, union-has, only-has, without-has, lowest-none, others-has}
use Rattle.groups.proofs.Words.{zero_has, others-less}
use Rattle.rules.specs.declared.Claim.{Claim}
use Rattle.rules.specs.Lists.{◌∈◌, sum, keep, all}
use Rattle.rules.specs.declared.Reply.{Reply}
use Rattle.rules.specs.declared.Phase.TheVariants.{Waiting}
use Rattle.rules.specs.declared.Setting.{Setting}
use Rattle.rules.specs.Claims.{on, at, rival, end_of, remaining, with_phase}
use Rattle.rules.specs.Order.{rivals}
use Rattle.rules.specs.Pool.{spare}
use Rattle.rules.specs.Plans.{Sane}
use Rattle.rules.specs.Placing.{clear, fits, place, contention, start_bound}
use Rattle.rules.proofs.Bools.{by-test, by_order, clash, and_l, and_i, or-e, or_l, or_r, or-fl, or-fr, same?}
use Rattle.rules.proofs.Lists.{all-i}
use Rattle.rules.proofs.Pool.{spare-none}
use Rattle.rules.proofs.Placing.{barred, fits-e, place-fits, place-least}
use Rattle.plan.specs.Rows.{InRange}
use Rattle.plan.specs.declared.placing.Rivals.{Rivals}
use Rattle.plan.specs.Rivalry.{RivalPlaces, RivalsOf}
use Rattle.plan.specs.SortKeys.{claim_at}
use Rattle.plan.proofs.Rows.{row_place}
use Rattle.plan.proofs.Ranges.{rivals-few, time-short}
use Rattle.numbers.specs.Numbers.{most_length, most_pending}

-- ── from candidate to candidate ──
module _ (v : Setting) (w : Claim) (s : ℕ) (ps : List Claim) (sane : Sane v w) (h : s ≤ place v ps w) where
  -- A claim that bars a candidate ends after it, and not after the planned start.
  pub jump : (c : Claim) → c ∈ ps → clear v w s c ≡ false → (s < end_of v c) × (end_of v c ≤ place v ps w)
  jump c m e =
      let b = barred v w s c e in
      (b.1, ⊎_elim (λ r. r) (λ r. absurd (omega (arith, b.2 r.0, r.1))) ((place-fits v ps w sane).room c m b.0))

  found : v.clock ≤ s → fits v ps w s ≡ true → s ≡ place v ps w
  found l f = omega (arith, place-least v ps w sane s l (fits-e v ps w s f))

  -- A candidate that no claim bars is the planned start of a claim that draws no units.
  pub found_plain : v.clock ≤ s → all (clear v w s) ps ≡ true → w.units ≡ 0 → s ≡ place v ps w
  unfolding fits
  found_plain low clears z = found low (and_i _ (spare v ps w s) clears (spare-none v ps w z s))

-- ── what can bar a candidate, as a set of places ──
-- A set without the place j.
less_one : (x y j : ℕ) → ((k : ℕ) → k < 64 → has y k ≡ (has x k && not (eqb k j))) → (k : ℕ) → k < 64 → has y k ≡ false → k ≢ j → has x k ≡ false
less_one x y j is k h e n = by-test (eqb k j) (λ q. absurd (n (eqb-true k j q))) (λ q. by-test (has x k) (λ a. clash (is k h ∙ rw (a, q)) e) (λ a. a))

without-one : (x j k : ℕ) → k < 64 → has (without x (only j)) k ≡ (has x k && not (eqb k j))
without-one x j k h = without-has x (only j) k h ∙ ap (λ (b : Bool). has x k && not b) (only-has j k h)

-- Trying the places of a set one by one ends: without its lowest it is less.
pub others-fewer : (x j : ℕ) → lowest x ≡ Some j → others x < x
unfolding others
others-fewer x j low = by_order (2 ^ 64) x (λ h. omega (arith, set-under 64 0 (λ g. has x g && some_from g 0 (has x)))) (λ h. others-less x j h low)

module _ (w : Claim) (ps : List Claim) where
  -- Of the first n claims, those at the places of x conflict with w, and no others.
  pub record RivalsBelow (n x : ℕ) : Type 0 where
    pub inside : (k : ℕ) → k < 64 → has x k ≡ true → k < n
    pub apart : (k : ℕ) → k < n → k < 64 → has x k ≡ false → rival (claim_at ps k) w ≡ false

  pub rivals-start : RivalsBelow 0 0
  rivals-start = record { inside = λ k h e. clash e (zero_has k); apart = λ k a h e. absurd (omega arith) }

  pub rivals-more : {n x : ℕ} → RivalsBelow n x → RivalsBelow (n + 1) (union x (only n))
  rivals-more {n} {x} r = record {
    inside = λ k h e. ⊎_elim (λ a. omega (arith, r.inside k h a)) (λ a. omega (arith, eqb-true k n a)) (or-e (has x k) (eqb k n) (sym (with-one k h) ∙ e));
    apart = λ k a h e.
        let q = sym (with-one k h) ∙ e in
        r.apart k (omega (arith, eqb-false k n (or-fr (has x k) (eqb k n) q))) h (or-fl (has x k) (eqb k n) q);
  }
    where
      with-one : (k : ℕ) → k < 64 → has (union x (only n)) k ≡ (has x k || eqb k n)
      with-one k h = union-has x (only n) k h ∙ ap (λ (b : Bool). has x k || b) (only-has n k h)

  pub rivals-other : {n x : ℕ} → RivalsBelow n x → rival (claim_at ps n) w ≡ false → RivalsBelow (n + 1) x
  rivals-other {n} {x} r e = record {
    inside = λ k h a. omega (arith, r.inside k h a);
    apart = λ k a h b. ⊎_elim (λ q. ap (λ (i : ℕ). rival (claim_at ps i) w) q ∙ e) (λ q. r.apart k (omega (arith, q)) h b) (same? k n);
  }

  pub rivals_all : {n x : ℕ} → length ps ≤ n → n ≤ length ps → RivalsBelow n x → RivalPlaces w ps x
  rivals_all a b r = record { inside = λ k h e. omega (arith, r.inside k h e); apart = λ k c h e. r.apart k (omega arith) h e }

module _ (v : Setting) (w : Claim) (ps : List Claim) where
  clear_apart : (u : ℕ) (c : Claim) → rival c w ≡ false → clear v w u c ≡ true
  unfolding clear
  clear_apart u c e = rw e

  clear-ended : (u : ℕ) (c : Claim) → end_of v c ≤ u → clear v w u c ≡ true
  unfolding clear
  clear-ended u c h = or_r (not (rival c w)) _ (or_l (leb (end_of v c) u) (not (on c) && leb (u + w.length) (at c)) (le-leb (end_of v c) u h))

  -- The claims at other places than those of x leave room at s and at every later candidate.
  pub record Passed (x s : ℕ) : Type 0 where
    pub inside : (k : ℕ) → k < 64 → has x k ≡ true → k < length ps
    pub clears : (k : ℕ) → k < length ps → k < 64 → has x k ≡ false → (u : ℕ) → s ≤ u → clear v w u (claim_at ps k) ≡ true

  pub passed_start : {x : ℕ} (s : ℕ) → RivalPlaces w ps x → Passed x s
  passed_start s r = record { inside = r.inside; clears = λ k a h e u b. clear_apart u (claim_at ps k) (r.apart k a h e) }

  -- The claim at place j has barred s: the next candidate is its end, and it bars none from there on.
  pub passed-jump : {x s : ℕ} → Passed x s → (j e : ℕ) → s ≤ e → e ≡ end_of v (claim_at ps j) → Passed (without x (only j)) e
  passed-jump {x} {s} p j e h is = record {
    inside = λ k a b. p.inside k a (and_l (has x k) _ (sym (without-one x j k a) ∙ b));
    clears = λ k a b c u d.
        ⊎_elim
        (λ q. ap (λ (i : ℕ). clear v w u (claim_at ps i)) q ∙ clear-ended u (claim_at ps j) (omega arith))
        (λ q. p.clears k a b (less_one x (without x (only j)) j (without-one x j) k b c q) u (omega arith))
        (same? k j);
  }

  -- The claims at other places than those of x leave room at s.
  pub record Tried (x s : ℕ) : Type 0 where
    pub inside : (k : ℕ) → k < 64 → has x k ≡ true → k < length ps
    pub clears : (k : ℕ) → k < length ps → k < 64 → has x k ≡ false → clear v w s (claim_at ps k) ≡ true

  pub tried-start : {x s : ℕ} → Passed x s → Tried x s
  tried-start {x} {s} p = record { inside = p.inside; clears = λ k a b c. p.clears k a b c s (omega arith) }

  pub tried-next : {x s j : ℕ} → Tried x s → lowest x ≡ Some j → clear v w s (claim_at ps j) ≡ true → Tried (others x) s
  tried-next {x} {s} {j} p low e = record {
    inside = λ k a b. p.inside k a (and_l (has x k) _ (sym (others-has x j low k a) ∙ b));
    clears = λ k a b c.
        ⊎_elim
        (λ q. ap (λ (i : ℕ). clear v w s (claim_at ps i)) q ∙ e)
        (λ q. p.clears k a b (less_one x (others x) j (others-has x j low) k b c q))
        (same? k j);
  }

  pub tried-all : {x s : ℕ} → Tried x s → lowest x ≡ None → length ps ≤ 64 → all (clear v w s) ps ≡ true
  tried-all {x} {s} p low few = all-i (clear v w s) ps (λ c m.
      let r = row_place ps m in
      ap (clear v w s) (sym r.2) ∙ p.clears r.0 r.1 (omega (arith, r.1)) (lowest-none x low r.0 (omega (arith, r.1))))

-- ── the count ──
-- Of the claims ps but for those in rest, so many conflict with w, and they have so much time left.
pub record Counted (v : Setting) (w : Claim) (ps rest : List Claim) (count time : ℕ) : Type 0 where
  pub number : count + contention rest w ≡ contention ps w
  pub total : time + sum (remaining v) (rivals rest w) ≡ sum (remaining v) (rivals ps w)
  pub few : contention ps w ≤ 64
  pub short : sum (remaining v) (rivals ps w) ≤ most_pending * most_length

pub count_none : {v : Setting} {ps : List Claim} (w : Claim) → InRange v ps → Counted v w ps ps 0 0
count_none {v} {ps} w r = record { number = omega arith; total = omega arith; few = rivals-few v ps w r; short = time-short v ps w r }

module _ {v : Setting} {w : Claim} {ps : List Claim} where
  module _ {c : Claim} {rest : List Claim} {count time : ℕ} (k : Counted v w ps (c ∷ rest) count time) where
    pub count-rival : rival c w ≡ true → Counted v w ps rest (count + 1) (time + remaining v c)
    unfolding contention keep sum
    count-rival e =
        let p = rw e at k.number in
        let q = rw e at k.total in
        record { number = omega arith; total = omega arith; few = k.few; short = k.short }

    pub count-other : rival c w ≡ false → Counted v w ps rest count time
    unfolding contention keep
    count-other e = record { number = rw e at k.number; total = rw e at k.total; few = k.few; short = k.short }

  -- In the end all are counted, and their places are kept.
  pub counted-all : {count time x : ℕ} → Counted v w ps [] count time → RivalPlaces w ps x → RivalsOf v w ps (record { count = count; time = time; places = x })
  unfolding contention keep sum
  counted-all k p = record { count = omega (arith, k.number); time = omega (arith, k.total); places = p }

-- ── what is answered ──
-- What the pass counts is the contention, and with the clock it gives the start bound.
pub rivals-told : {v : Setting} {w : Claim} {ps : List Claim} {r : Rivals} → RivalsOf v w ps r
    → (r.count ≡ contention ps w) × (v.clock + r.time + r.count * (w.length - 1) ≡ start_bound v ps w)
unfolding contention start_bound
rivals-told {w = w} k = (k.count, omega (arith, k.time, ap (λ (x : ℕ). x * (w.length - 1)) k.count))

pub reply-as : (v : Setting) (w : Claim) (ps : List Claim) {s n b : ℕ} → s ≡ place v ps w → n ≡ contention ps w → b ≡ start_bound v ps w
    → ◌≡◌ {A = Reply} (record { ticket = w.ticket; start = s; contention = n; bound = b })
    (record { ticket = w.ticket; start = place v ps w; contention = contention ps w; bound = start_bound v ps w })
reply-as v w ps e f g = rw (e, f, g) refl

-- And what is entered.
pub entered-as : (v : Setting) (w : Claim) (ps : List Claim) {s : ℕ} → s ≡ place v ps w → ps ++ (with_phase w (Waiting s) ∷ []) ≡ ps ++ (with_phase w (Waiting (place v ps w)) ∷ [])
entered-as v w ps e = ap (λ (s : ℕ). ps ++ (with_phase w (Waiting s) ∷ [])) e
