-- The sweep over the events: what is left of them, with the units in use now, is a search for the first fit again, and has the same answer.
-- One law for each step: a start taken, an end taken while there is room and while there is none, and the answer before and after the last end.
use mathlib.Core.Path.{◌≡◌, sym, ◌∙◌, ap, subst}
use mathlib.Core.Logic.{⊎_elim}
use mathlib.Core.List.Memᴰ
use mathlib.Core.List.{List, [], ◌∷◌}
use Prim.Native.Nat.{ℕ, ◌+◌, ◌-◌, ◌≤◌, ◌<◌, max}
use native.Mathlib.Omega.{arith}
use native.Mathlib.Numerals.{add-one}
use lib.ListN.{length, drop, get_or, length-drop}
use Rattle.std.proofs.Math.Seq.{drop-cons}
use Rattle.std.proofs.lemmas.List.{drop_all}
use Rattle.rules.specs.Lists.{sum}
use Rattle.rules.proofs.Bools.{by_order}
use Rattle.rules.proofs.Lists.{Each, there, none}
use Rattle.plan.specs.SortKeys.{NeverFalls}
use Rattle.plan.specs.Events.{time_in, units_in, up_to, Events, FirstFit}
use Rattle.plan.proofs.Events.{up-to-in, up-to-out, up-to-most, before-in, up-to-none, before-none, up-to-all, units-few, rising-times}
use Rattle.plan.specs.Bounds.{times_in_word}

-- ── the next event is the start b, before all ends ──
module _ {held b : ℕ} {starts ends : List ℕ} (v : Events held (b ∷ starts) ends) (first : Each (λ w. time_in b < time_in w) ends) where
  starts-later : (x : ℕ) → x < time_in b → up_to x starts ≡ 0
  starts-later x h = up-to-none x starts (λ w m. omega (arith, rising-times b starts v.starts_rise w m))

  ends-later : (x : ℕ) → x ≤ time_in b → up_to x ends ≡ 0
  ends-later x h = up-to-none x ends (λ w m. omega (arith, first w m))

  start-total : sum units_in ends ≡ held + units_in b + sum units_in starts
  unfolding sum
  start-total = omega (arith, v.total)

  pub start-events : length ends ≤ 64 → Events (held + units_in b) starts ends
  start-events size = record {
    starts_rise = v.starts_rise.1;
    ends_rise = v.ends_rise;
    early = v.early;
    few = omega (arith, start-total, units-few ends size);
    balanced = λ x.
        by_order x (time_in b)
        (λ h. omega (arith, ends-later x h))
        (λ h. omega (arith, v.balanced x, before-in x b starts h));
    total = start-total;
  }

  -- A hold that fits and begins before the start reaches it, so there is room for its units too.
  pub start-fit : {room s hold r : ℕ} → 1 ≤ hold → (held ≤ room → time_in b < s + hold) → FirstFit (held + units_in b) starts ends room s hold r
      → FirstFit held (b ∷ starts) ends room s hold r
  start-fit {room} {s} {hold} z near f = record {
    low = f.low;
    fits = λ x h k. omega (arith, f.fits x h k, up-to-most x b starts);
    least = λ u h g. f.least u h (λ x i j.
        by_order (time_in b) x
        (λ l. omega (arith, g x i j, up-to-in x b starts l))
        (λ l.
        by_order held room
        (λ o.
        let here = g (time_in b) (omega arith) (omega (arith, near o)) in
        omega (arith, up-to-in (time_in b) b starts (omega arith), ends-later (time_in b) (omega arith), starts-later x l))
        (λ o. absurd (omega (arith, g u (omega arith) (omega arith), ends-later u (omega arith))))));
  }

-- ── the next event is the end e, and no start is before it ──
module _ {held e : ℕ} {starts ends : List ℕ} (v : Events held starts (e ∷ ends)) (first : Each (λ w. time_in e ≤ time_in w) starts) where
  no-starts : (x : ℕ) → x < time_in e → up_to x starts ≡ 0
  no-starts x h = up-to-none x starts (λ w m. omega (arith, first w m))

  no-ends : (x : ℕ) → x < time_in e → up_to x ends ≡ 0
  no-ends x h = up-to-none x ends (λ w m. omega (arith, rising-times e ends v.ends_rise w m))

  -- What it gives back is in use.
  pub end-held : units_in e ≤ held
  end-held = omega (arith, v.balanced (time_in e), up-to-in (time_in e) e ends (omega arith), before-none (time_in e) starts first)

  end-total : sum units_in ends ≡ held - units_in e + sum units_in starts
  unfolding sum
  end-total = omega (arith, v.total, end-held)

  pub end-events : Events (held - units_in e) starts ends
  end-events = record {
    starts_rise = v.starts_rise;
    ends_rise = v.ends_rise.1;
    early = λ w m. v.early w (there m);
    few = omega (arith, v.few);
    balanced = λ x.
        by_order (time_in e) x
        (λ h. omega (arith, v.balanced x, up-to-in x e ends h, end-held))
        (λ h. omega (arith, no-ends x h));
    total = end-total;
  }

  -- While there is room, the end bars nothing.
  pub end-open : {room s hold r : ℕ} → held ≤ room → FirstFit (held - units_in e) starts ends room s hold r → FirstFit held starts (e ∷ ends) room s hold r
  end-open o f = record {
    low = f.low;
    fits = λ x h k.
        by_order (time_in e) x
        (λ l. omega (arith, f.fits x h k, up-to-in x e ends l))
        (λ l. omega (arith, no-starts x l));
    least = λ u h g. f.least u h (λ x i j. omega (arith, g x i j, up-to-most x e ends, end-held));
  }

  -- While there is none, nothing fits before the end.
  pub end-shut : {room s hold r : ℕ} → 1 ≤ hold → room < held → FirstFit (held - units_in e) starts ends room (max s (time_in e)) hold r
      → FirstFit held starts (e ∷ ends) room s hold r
  end-shut {room} {s} z o f = record {
    low = omega (arith, f.low);
    fits = λ x h k. omega (arith, f.fits x h k, f.low, up-to-in x e ends (omega (arith, f.low)), end-held);
    least = λ u h g. f.least u
        (by_order (time_in e) u
        (λ l. omega arith)
        (λ l. absurd (omega (arith, g u (omega arith) (omega arith), up-to-out u e ends l, no-ends u l))))
        (λ x i j. omega (arith, g x i j, up-to-most x e ends, end-held));
  }

-- ── the answer ──
-- There is room, and no start before the hold is over.
pub fit-before : {held room s hold n : ℕ} {starts ends : List ℕ} → held ≤ room → s + hold ≤ n → Each (λ w. n ≤ time_in w) starts
    → FirstFit held starts ends room s hold s
fit-before {n = n} {starts} o l p = record {
  low = omega arith;
  fits = λ x h k. omega (arith, up-to-none x starts (λ w m. omega (arith, p w m)));
  least = λ u h g. h;
}

-- No end is left, so no units are in use, and no start takes any.
pub fit-after : {held room s hold : ℕ} {starts : List ℕ} → Events held starts [] → FirstFit held starts [] room s hold s
unfolding sum
fit-after {starts = starts} v = record {
  low = omega arith;
  fits = λ x h k. omega (arith, v.total, up-to-all x starts);
  least = λ u h g. h;
}

-- ── the sweep in the code ──
-- What is left of the words at place i.
next_word : (words : List ℕ) (i : ℕ) → i < length words → drop i words ≡ get_or words i 0 ∷ drop (i + 1) words
next_word words i h = drop-cons words i 0 h ∙ ap (λ k. get_or words i 0 ∷ drop k words) (sym (add-one i))

-- None of it is before the time t, where the next word is not.
times-left : (words : List ℕ) (i t : ℕ) → NeverFalls (drop i words) → (i < length words → t ≤ time_in (get_or words i 0))
    → Each (λ w. t ≤ time_in w) (drop i words)
times-left words i t r h =
    by_order (length words) i
    (λ l. subst (Each (λ (w : ℕ). t ≤ time_in w)) (sym (drop_all i words l)) (λ w m. none m))
    (λ l.
    let e = next_word words i l in
    subst (Each (λ (w : ℕ). t ≤ time_in w)) (sym e)
    (λ w m.
    ⊎_elim (λ q. omega (arith, h l, ap time_in q)) (λ k. omega (arith, h l, rising-times _ _ (subst NeverFalls e r) w k))
    (Memᴰ.cases_cons m)))

-- After i starts and j ends: what is left of both, with the units in use, gives the answer.
pub record Sweep (starts ends : List ℕ) (held room from hold s used i j : ℕ) : Type 0 where
  pub ends_few : length ends ≤ 64
  pub early : s ≤ times_in_word
  pub events : Events used (drop i starts) (drop j ends)
  pub answers : (r : ℕ) → FirstFit used (drop i starts) (drop j ends) room s hold r → FirstFit held starts ends room from hold r

pub sweep-begin : {starts ends : List ℕ} {held room from hold : ℕ} → length ends ≤ 64 → from ≤ times_in_word → Events held starts ends
    → Sweep starts ends held room from hold from held 0 0
sweep-begin n l v = record { ends_few = n; early = l; events = v; answers = λ r h. h }

module _ {starts ends : List ℕ} {held room from hold s used i j : ℕ} (p : Sweep starts ends held room from hold s used i j) where
  few-ends : length (drop j ends) ≤ 64
  few-ends = let z = p.ends_few in simp length-drop (omega arith)

  starts_from : (t : ℕ) → (i < length starts → t ≤ time_in (get_or starts i 0)) → Each (λ w. t ≤ time_in w) (drop i starts)
  starts_from t h = times-left starts i t p.events.starts_rise h

  -- The hold at s is over by the time n, and no start is before it.
  pub sweep-found : (n : ℕ) → used ≤ room → s + hold ≤ n → (i < length starts → n ≤ time_in (get_or starts i 0))
      → FirstFit held starts ends room from hold s
  sweep-found n o l h = p.answers s (fit-before o l (starts_from n h))

  pub sweep-over : length ends ≤ j → FirstFit held starts ends room from hold s
  sweep-over h = let e = drop_all j ends h in p.answers s (rw e (fit-after (rw e at p.events)))

  -- The next event is a start.
  module _ (h : i < length starts) (first : time_in (get_or starts i 0) < time_in (get_or ends j 0)) where
    start-next : Events used (get_or starts i 0 ∷ drop (i + 1) starts) (drop j ends)
    start-next = subst (λ (l : List ℕ). Events used l (drop j ends)) (next_word starts i h) p.events

    ends-behind : Each (λ w. time_in (get_or starts i 0) < time_in w) (drop j ends)
    ends-behind w m = omega (arith, times-left ends j (time_in (get_or ends j 0)) p.events.ends_rise (λ k. omega arith) w m)

    pub sweep-start : 1 ≤ hold → (used ≤ room → time_in (get_or starts i 0) < s + hold)
        → Sweep starts ends held room from hold s (used + units_in (get_or starts i 0)) (i + 1) j
    sweep-start z near = record {
      ends_few = p.ends_few;
      early = p.early;
      events = start-events start-next ends-behind few-ends;
      answers = λ r f. p.answers r (rw (next_word starts i h) (start-fit start-next ends-behind z near f));
    }

  -- The next event is an end.
  module _ (h : j < length ends) (first : i < length starts → time_in (get_or ends j 0) ≤ time_in (get_or starts i 0)) where
    end-next : Events used (drop i starts) (get_or ends j 0 ∷ drop (j + 1) ends)
    end-next = subst (λ (l : List ℕ). Events used (drop i starts) l) (next_word ends j h) p.events

    pub end-covered : units_in (get_or ends j 0) ≤ used
    end-covered = end-held end-next (starts_from _ first)

    sweep-end : {t : ℕ} → t ≤ times_in_word
        → ((r : ℕ) → FirstFit (used - units_in (get_or ends j 0)) (drop i starts) (drop (j + 1) ends) room t hold r
        → FirstFit used (drop i starts) (get_or ends j 0 ∷ drop (j + 1) ends) room s hold r)
        → Sweep starts ends held room from hold t (used - units_in (get_or ends j 0)) i (j + 1)
    sweep-end l g = record {
      ends_few = p.ends_few;
      early = l;
      events = end-events end-next (starts_from _ first);
      answers = λ r f. p.answers r (rw (next_word ends j h) (g r f));
    }

    pub sweep-open : used ≤ room → Sweep starts ends held room from hold s (used - units_in (get_or ends j 0)) i (j + 1)
    sweep-open o = sweep-end p.early (λ r f. end-open end-next (starts_from _ first) o f)

    pub sweep-shut : 1 ≤ hold → room < used → time_in (get_or ends j 0) ≤ times_in_word
        → Sweep starts ends held room from hold (max s (time_in (get_or ends j 0))) (used - units_in (get_or ends j 0)) i (j + 1)
    sweep-shut z o l = sweep-end (omega (arith, p.early)) (λ r f. end-shut end-next (starts_from _ first) z o f)
