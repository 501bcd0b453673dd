-- While nobody overruns the grace changes nothing. Packing and placing look at it only through the ends of holders (`packs-alike`,
-- `fits-alike`), and packed and planned starts are the only ones with their properties; granting and the tests do not look at it.
use mathlib.Core.Path.{◌≡◌, refl, sym, ◌∙◌, ap}
use mathlib.Core.Bool.{Bool, true}
use mathlib.Core.List.{List, [], ◌∷◌, map}
use mathlib.Core.Logic.{◌⊎◌, inl, inr, ⊎_elim}
use Prim.Native.Nat.{ℕ, zero, suc, ◌≤◌}
use native.Mathlib.Omega.{arith}
use borrow.Author.Tests.{le-ltb}
use Rattle.numbers.specs.Numbers.{most_grace}
use Rattle.rules.specs.declared.Claim.{Claim}
use Rattle.rules.specs.declared.Request.{Request}
use Rattle.rules.specs.declared.Reply.{Reply}
use Rattle.rules.specs.declared.Setting.{Setting}
use Rattle.rules.specs.Claims.{on, rival, end_of, remaining}
use Rattle.rules.specs.Order.{rivals}
use Rattle.rules.specs.Pool.{units_at, used}
use Rattle.rules.specs.Packing.{packed_start, moved, ahead, pack, MayStart, Packs}
use Rattle.rules.specs.Placing.{place, start_bound}
use Rattle.rules.specs.Granting.{truly_free, goes_within, goes, granted, grant, grants}
use Rattle.rules.specs.Tests.{first_number}
use Rattle.rules.specs.Plans.{Ascending, Sane, PromptAt, NoOverrunAt, Spare, Fits}
use Rattle.rules.specs.Invariants.{IsSpaced, Invariant}
use Rattle.rules.specs.Calls.{Model, with_clock, with_pending, with_grace, ruled, setting_of, claims, releases, withdraws, moves_clock, declares, sets_grace, Call, timed, looks, sets_up, set_grace, is_timed, clock_of, Answer, Step, tests, unchanged, advance, plain, granting, finish, join, remove, fresh, admit, act, unless, step, blank, after, answers}
use Rattle.rules.specs.InTime.{NoOverrunsFrom, GraceIndifferent}
use Rattle.rules.proofs.Bools.{by-test, clash}
use Rattle.rules.proofs.Lists.{Each, keep-e, map_each, map-cong, keep-cong, snoc-each, sum-cong}
use Rattle.rules.proofs.Claims.{setting, end-wait, end-no-overrun}
use Rattle.rules.proofs.Pool.{units-same}
use Rattle.rules.proofs.Packing.{moved-cases, moved-cong, ahead-e, Untied, separated-untied, pack-as-documented, pack-unique}
use Rattle.rules.proofs.Placing.{place-low, place-fits, place-least}
use Rattle.rules.proofs.Granting.{turn-cong}
use Rattle.rules.proofs.Invariants.{later-sane}
use Rattle.rules.proofs.Calls.{clock-passes, admissible, Admissible, advance-packed, advance-drawn, advance-spare, placed, fresh-sane, join-spaced, remove-spaced, step-number, step-invariant, blank-invariant}

-- ── two graces at one clock ──
module _ (t k d e : ℕ) where
  end-alike : (c : Claim) → PromptAt t c → end_of (setting t k d) c ≡ end_of (setting t k e) c
  end-alike c p =
      by-test (on c)
      (λ o. end-no-overrun (setting t k d) c o (p o) ∙ sym (end-no-overrun (setting t k e) c o (p o)))
      (λ o. end-wait (setting t k d) c o ∙ sym (end-wait (setting t k e) c o))

  spare-alike : (qs : List Claim) (w : Claim) (s : ℕ) → NoOverrunAt t qs → Spare (setting t k d) qs w s → Spare (setting t k e) qs w s
  unfolding used
  spare-alike qs w s p h z x a b =
      omega (arith, h z x a b, sum-cong (units_at (setting t k d) x) (units_at (setting t k e) x) qs (λ c m. units-same (setting t k d) (setting t k e) x c (end-alike c (p c m))))

-- At other starts holders stay as prompt as they were.
moved-prompt : (t : ℕ) (f : Claim → ℕ) (c : Claim) → PromptAt t c → PromptAt t (moved f c)
moved-prompt t f c p = moved-cases (PromptAt t) f c (λ o. p) (λ o q. clash q refl)

pack-prompt : (v : Setting) (t : ℕ) (ps : List Claim) → NoOverrunAt t ps → NoOverrunAt t (pack v ps)
unfolding pack
pack-prompt v t ps p = map_each (PromptAt t) (moved (packed_start v ps)) ps (λ c m. moved-prompt t (packed_start v ps) c (p c m))

module _ (t k d e : ℕ) (ps : List Claim) (p : NoOverrunAt t ps) where
  may-alike : (f : Claim → ℕ) (w : Claim) (s : ℕ) → MayStart (setting t k d) ps f w s → MayStart (setting t k e) ps f w s
  may-alike f w s h = record {
    from_clock = h.from_clock;
    after = λ c m q. omega (arith, h.after c m q, end-alike t k d e (moved f c) (moved-prompt t f c (p c m)));
    spare = spare-alike t k d e (ahead f ps w) w s (λ c m. (let r = ahead-e f ps w m in rw r.3 (moved-prompt t f r.0 (p r.0 r.1)))) h.spare;
  }

  fits-alike : (w : Claim) (s : ℕ) → Fits (setting t k d) ps w s → Fits (setting t k e) ps w s
  fits-alike w s h = record {
    room = λ c m q. ⊎_elim (λ r. inl (omega (arith, r, end-alike t k d e c (p c m)))) inr (h.room c m q);
    spare = spare-alike t k d e ps w s p h.spare;
  }

module _ (t k d e : ℕ) (ps : List Claim) (p : NoOverrunAt t ps) where
  packs-alike : (f : Claim → ℕ) → Packs (setting t k d) ps f → Packs (setting t k e) ps f
  packs-alike f h w m o = let r = h w m o in (may-alike t k d e ps p f w (f w) r.0, λ s q. r.1 s (may-alike t k e d ps p f w s q))

  pack-alike : Each (Sane (setting t k d)) ps → Ascending ps → Untied ps → pack (setting t k e) ps ≡ pack (setting t k d) ps
  unfolding pack
  pack-alike sane asc untied =
      let f = packed_start (setting t k d) ps in
      let sane' : Each (Sane (setting t k e)) ps = λ c m. later-sane (record { later = omega arith; same = refl }) (sane c m) in
      sym (map-cong (moved f) (moved (packed_start (setting t k e) ps)) ps (λ c m. moved-cong f (packed_start (setting t k e) ps) c (λ o.
      pack-unique (setting t k e) ps sane' asc untied f (packs-alike f (pack-as-documented (setting t k d) ps sane asc untied)) c m o)))

  place-alike : (w : Claim) → Sane (setting t k d) w → place (setting t k e) ps w ≡ place (setting t k d) ps w
  place-alike w s =
      let s' : Sane (setting t k e) w = later-sane (record { later = omega arith; same = refl }) s in
      omega (
        arith,
        place-least (setting t k e) ps w s' (place (setting t k d) ps w) (place-low (setting t k d) ps w) (fits-alike t k d e ps p w _ (place-fits (setting t k d) ps w s)),
        place-least (setting t k d) ps w s (place (setting t k e) ps w) (place-low (setting t k e) ps w) (fits-alike t k e d ps p w _ (place-fits (setting t k e) ps w s')),
      )

  bound-alike : (w : Claim) → start_bound (setting t k e) ps w ≡ start_bound (setting t k d) ps w
  unfolding start_bound remaining
  bound-alike w =
      rw (sum-cong (remaining (setting t k e)) (remaining (setting t k d)) (rivals ps w) (λ c m. rw (end-alike t k e d c (p c (keep-e (λ c. rival c w) ps m).0))))

-- Granting does not look at the grace.
module _ (t k d e : ℕ) (ps : List Claim) where
  within-alike : (j : ℕ) (w : Claim) → goes_within j (setting t k e) ps w ≡ goes_within j (setting t k d) ps w
  unfolding goes_within truly_free
  within-alike zero w = refl
  within-alike (suc j) w = turn-cong (setting t k e) ps (goes_within j (setting t k e) ps) (goes_within j (setting t k d) ps) w (λ c m b. within-alike j c)

  goes-alike : (w : Claim) → goes (setting t k e) ps w ≡ goes (setting t k d) ps w
  unfolding goes
  goes-alike w = within-alike _ w

  grant-alike : grant (setting t k e) ps ≡ grant (setting t k d) ps
  unfolding grant granted
  grant-alike = map-cong _ (granted (setting t k d) ps) ps (λ c m. rw (goes-alike c, granted))

  grants-alike : grants (setting t k e) ps ≡ grants (setting t k d) ps
  unfolding grants
  grants-alike = ap (map (λ c. c.ticket)) (keep-cong (goes (setting t k e) ps) (goes (setting t k d) ps) ps (λ c m. goes-alike c))

-- ── the calls with another grace ──
-- The same step with a grace of d.
abbrev regraced : ℕ → Step → Step
regraced d s = record { model = with_grace s.model d; answer = s.answer }

module _ (d : ℕ) where
  advance-alike : (m : Model) (t : ℕ) → Invariant m → m.clock ≤ t → NoOverrunAt t m.pending → advance (with_grace m d) t ≡ with_grace (advance m t) d
  unfolding advance
  advance-alike m t i l p =
      ap (λ (ps : List Claim). with_pending (with_grace (with_clock m t) d) ps)
      (pack-alike t m.pool m.grace d m.pending p (λ c k. later-sane (record { later = l; same = refl }) (i.spaced.proper c k).sane) i.spaced.ascending
      (separated-untied (setting_of m) m.pending (λ c k. (i.spaced.proper c k).sane) i.spaced.fit))

  finish-alike : (m : Model) (r : Reply) → IsSpaced m → NoOverrunAt m.clock m.pending → finish (with_grace m d) r ≡ regraced d (finish m r)
  unfolding finish
  finish-alike m r i p =
      let sane : Each (Sane (setting_of m)) m.pending = λ c k. (i.proper c k).sane in
      ap (granting (with_grace m d) r) (pack-alike m.clock m.pool m.grace d m.pending p sane i.ascending (separated-untied (setting_of m) m.pending sane i.fit))
      ∙ rw (grant-alike m.clock m.pool m.grace d (pack (setting_of m) m.pending), grants-alike m.clock m.pool m.grace d (pack (setting_of m) m.pending))

  admit-alike : (m : Model) (ask : Request) → Sane (setting_of m) (fresh m ask) → IsSpaced (join m (placed m ask)) → NoOverrunAt m.clock m.pending
      → admit (with_grace m d) ask ≡ regraced d (admit m ask)
  unfolding admit join
  admit-alike m ask s i p =
      rw (place-alike m.clock m.pool m.grace d m.pending p (fresh m ask) s, bound-alike m.clock m.pool m.grace d m.pending p (fresh m ask))
      (finish-alike (join m (placed m ask)) _ i (snoc-each (PromptAt m.clock) m.pending (placed m ask) p (λ o. clash o refl)))

  remove-alike : (m : Model) (j : ℕ) → remove (with_grace m d) j ≡ with_grace (remove m j) d
  unfolding remove
  remove-alike m j = refl

  remove-prompt : (m : Model) (j : ℕ) → NoOverrunAt m.clock m.pending → NoOverrunAt (remove m j).clock (remove m j).pending
  unfolding remove
  remove-prompt m j p c k = p c (keep-e _ m.pending k).0

  tests-alike : (m : Model) (c : Call) → tests (with_grace m d) c ≡ tests m c
  unfolding tests
  tests-alike m (timed t (claims ask)) = refl
  tests-alike m (timed t (releases j)) = refl
  tests-alike m (timed t (withdraws j)) = refl
  tests-alike m (timed t moves_clock) = refl
  tests-alike m (looks q) = refl
  tests-alike m (sets_up p) = refl

  -- A grace that is set makes the two tables one; every other call leaves them apart by the grace alone.
  abbrev Alike : Step → Step → Type 0
  Alike s r = (s ≡ regraced d r) ⊎ (s ≡ r)

  module _ (m : Model) (i : Invariant m) where
    advance-prompt : (t : ℕ) → NoOverrunAt t m.pending → NoOverrunAt (advance m t).clock (advance m t).pending
    unfolding advance
    advance-prompt t p = pack-prompt (ruled m t) t m.pending p

    leave-alike : (t j : ℕ) → m.clock ≤ t → NoOverrunAt t m.pending
        → finish (remove (advance (with_grace m d) t) j) (plain j t) ≡ regraced d (finish (remove (advance m t) j) (plain j t))
    leave-alike t j l p =
        ap (λ (n : Model). finish (remove n j) (plain j t)) (advance-alike m t i l p) ∙ ap (λ (n : Model). finish n (plain j t)) (remove-alike (advance m t) j)
        ∙ finish-alike (remove (advance m t) j) (plain j t) (remove-spaced (advance m t) j (advance-packed m t i l).spaced) (remove-prompt (advance m t) j (advance-prompt t p))

    clock-alike : (t : ℕ) → m.clock ≤ t → NoOverrunAt t m.pending → finish (advance (with_grace m d) t) (plain 0 t) ≡ regraced d (finish (advance m t) (plain 0 t))
    clock-alike t l p =
        ap (λ (n : Model). finish n (plain 0 t)) (advance-alike m t i l p) ∙ finish-alike (advance m t) (plain 0 t) (advance-packed m t i l).spaced (advance-prompt t p)

    claim-alike : (t : ℕ) (ask : Request) → Admissible m t ask → NoOverrunAt t m.pending → admit (advance (with_grace m d) t) ask ≡ regraced d (admit (advance m t) ask)
    claim-alike t ask a p =
        let q : Model = advance m t in
        let drawn = advance-drawn m t ask a in
        let spare = advance-spare m t ask a in
        ap (λ (n : Model). admit n ask) (advance-alike m t i a.clocked.later p)
        ∙ admit-alike q ask (fresh-sane q ask a.long drawn spare) (join-spaced q ask a.long drawn spare (advance-packed m t i a.clocked.later).spaced) (advance-prompt t p)

    act-alike : (c : Call) → first_number (tests m c) ≡ 0 → (is_timed c ≡ true → NoOverrunAt (clock_of c) m.pending) → Alike (act (with_grace m d) c) (act m c)
    unfolding act tests
    act-alike (timed t (claims ask)) e p = inl (claim-alike t ask (admissible m t ask e) (p refl))
    act-alike (timed t (releases j)) e p = inl (leave-alike t j (clock-passes m t _ e).0.later (p refl))
    act-alike (timed t (withdraws j)) e p = inl (leave-alike t j (clock-passes m t _ e).0.later (p refl))
    act-alike (timed t moves_clock) e p = inl (clock-alike t (clock-passes m t _ e).0.later (p refl))
    act-alike (looks q) e p = inl refl
    act-alike (sets_up (declares c r l)) e p = inl refl
    act-alike (sets_up (sets_grace n)) e p = inr refl

    step-alike : (c : Call) → (is_timed c ≡ true → (step m c).answer.number ≡ 0 → NoOverrunAt (clock_of c) m.pending) → Alike (step (with_grace m d) c) (step m c)
    unfolding step
    step-alike c p = rw (tests-alike m c) (go (first_number (tests m c)) refl)
      where
        go : (n : ℕ) → first_number (tests m c) ≡ n → Alike (unless (with_grace m d) n (act (with_grace m d) c)) (unless m n (act m c))
        go zero e = act-alike c e (λ z. p z (step-number m c ∙ e))
        go (suc n) e = inl refl

-- ── a run ──
pub indifferent-from : (m : Model) (d : ℕ) (cs : List Call) → Invariant m → NoOverrunsFrom m cs → GraceIndifferent m d cs
unfolding answers after
indifferent-from m d [] i p = record { answers_same = refl; pending_same = refl }
indifferent-from m d (c ∷ cs) i p = go (step-alike d m i c p.0) (indifferent-from (step m c).model d cs (step-invariant m c i) p.1)
  where
    go : Alike d (step (with_grace m d) c) (step m c) → GraceIndifferent (step m c).model d cs → GraceIndifferent m d (c ∷ cs)
    go (inl e) h =
        record {
          answers_same = ap (λ (s : Step). s.answer ∷ answers s.model cs) e ∙ ap (λ (l : List Answer). (step m c).answer ∷ l) h.answers_same;
          pending_same = ap (λ (s : Step). (after s.model cs).pending) e ∙ h.pending_same;
        }
    go (inr e) h = record { answers_same = ap (λ (s : Step). s.answer ∷ answers s.model cs) e; pending_same = ap (λ (s : Step). (after s.model cs).pending) e }

pub grace-indifferent : (g k : ℕ) (alone : Bool) (d : ℕ) (cs : List Call) → NoOverrunsFrom (blank g k alone) cs → GraceIndifferent (blank g k alone) d cs
grace-indifferent g k alone d cs p = indifferent-from (blank g k alone) d cs (blank-invariant g k alone) p

-- So a grace that is set first adds its own answer and changes no other.
pub set-indifferent : (g k : ℕ) (alone : Bool) (d : ℕ) (cs : List Call) → d ≤ most_grace → NoOverrunsFrom (blank g k alone) cs
    → answers (blank g k alone) (set_grace d ∷ cs) ≡ (unchanged (blank g k alone) 0).answer ∷ answers (blank g k alone) cs
unfolding answers step tests act first_number
set-indifferent g k alone d cs h p =
    rw (le-ltb most_grace d h) (ap (λ (l : List Answer). (unchanged (blank g k alone) 0).answer ∷ l) (grace-indifferent g k alone d cs p).answers_same)
