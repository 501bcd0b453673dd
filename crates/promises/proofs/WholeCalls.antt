-- Whole calls are as document 01 says, in every table that calls can make.
use mathlib.Core.Path.{◌≡◌, refl, sym, ◌∙◌, ap, subst}
use mathlib.Core.Logic.{◌⊎◌, inl, inr, ◌≢◌}
use mathlib.Core.Bool.{Bool, true, false, not, ◌&&◌}
use mathlib.Core.List.{List, [], ◌∷◌, ◌++◌, map}
use Prim.Native.Nat.{ℕ, suc, ◌+◌, ◌-◌, ◌*◌, ◌≤◌, ◌<◌}
use native.Mathlib.Omega.{arith}
use lib.Dec.{eqb, ltb}
use lib.ListN.{length as count}
use borrow.Author.Tests.{not-true, eqb-false, ne_eqb, ltb-true, le-ltb}
use Rattle.numbers.specs.Numbers.{most_tickets}
use Rattle.rules.specs.declared.Claim.{Claim}
use Rattle.rules.specs.declared.Request.{Request}
use Rattle.rules.specs.Lists.{◌∈◌, greatest, sum, any, keep}
use Rattle.rules.specs.declared.Setting.{Setting}
use Rattle.rules.specs.Claims.{on, at, end_of, remaining}
use Rattle.rules.specs.Order.{precedes, rivals}
use Rattle.rules.specs.Packing.{packed_start, moved, pack, Packs}
use Rattle.rules.specs.Placing.{place, contention, start_bound}
use Rattle.rules.specs.Plans.{Ascending, Sane, Fits}
use Rattle.rules.specs.Granting.{taken_before, goes, granted, grant, grants}
use Rattle.rules.specs.Pool.{held_by, held_units}
use Rattle.rules.specs.Tests.{named}
use Rattle.rules.specs.declared.Reply.{Reply}
use Rattle.rules.specs.Calls.{Model, ruled, setting_of, Call, timed, looks, sets_up, is_timed, declared, with_grace, Step, advance, plain, finish, join, remove, fresh, admit, step}
use Rattle.rules.specs.Invariants.{IsSpaced, IsPacked, Still, Invariant}
use Rattle.rules.proofs.Bools.{clash, by-test}
use Rattle.rules.proofs.Lists.{map-e, map-i, keep-e, keep-i, named_keep, sum-map, sum-le, sum_both}
use Rattle.rules.proofs.Order.{meets-none, ends-precedes, ascending-same}
use Rattle.rules.proofs.NoUnits.{start-documented}
use Rattle.rules.proofs.Packing.{moved_same, moved-phase, pack-precedes, pack-no-later}
use Rattle.rules.proofs.Placing.{place-low, place-least}
use Rattle.rules.proofs.Granting.{stays, taken-ticket, goes-wait, goes-at, granted-cases, granted-go, granted-stay, grant-precedes}
use Rattle.rules.proofs.Granting as granting
use Rattle.rules.proofs.Invariants.{settled-packs, spaced-packs}
use Rattle.rules.proofs.Calls.{Clocked, Admissible, advance-drawn, fresh-sane, placed-fits, advance-packed, finish-invariant, placed, join-spaced, Leaves, by-release, by-withdraw, by-clock, leaves-spaced, remove-spaced, Idle, looks-untimed, step-cases, clock-accepted, step-invariant, advance-same, finish-e, finish-clock, leaves-old, leaves-clock, join-old, advance-spare, packs-as-documented}
use Rattle.rules.proofs.OnePacking.{advance-still, finish-still, joined, joined-cases, claim-pending, joined_at}
use Rattle.promises.specs.Ledger.{table_after}
use Rattle.promises.specs.WholeCalls.{Becomes, kept_from, TimedCall, FirstPacking, Stays, ClaimCall, LeaveCall, ClockCall, Acts, WholeCalls}

-- ── order ──
-- Through the first packing.
sane-at : (m : Model) (t : ℕ) → Invariant m → (c : Claim) → c ∈ m.pending → Sane (ruled m t) c
sane-at m t i c k = let s = (i.spaced.proper c k).sane in record { long = s.long; small = s.small; drawn = s.drawn }

advance-precedes : (m : Model) (t : ℕ) → Invariant m → (d w : Claim) → d ∈ m.pending → w ∈ m.pending → on w ≡ false → precedes d w ≡ true
    → (x y : Claim) → x ∈ (advance m t).pending → y ∈ (advance m t).pending → x.ticket ≡ d.ticket → y.ticket ≡ w.ticket
    → (on y ≡ false) × (precedes x y ≡ true)
advance-precedes m t i d w di wi o p x y xi yi e h =
    let v : Setting = ruled m t in
    let f = packed_start v m.pending in
    let a = advance-same m t i d x di xi e in
    let b = advance-same m t i w y wi yi h in
    (ap on b ∙ moved-phase f w ∙ o, cc (a, b, pack-precedes v m.pending (sane-at m t i) d w di wi o p))

-- Through packing again and granting.
regranted : Model → Claim → Claim
regranted m x = granted (setting_of m) (pack (setting_of m) m.pending) (moved (packed_start (setting_of m) m.pending) x)

finish-precedes : (m : Model) → IsSpaced m → (x y : Claim) → x ∈ m.pending → y ∈ m.pending
    → moved (packed_start (setting_of m) m.pending) x ∈ pack (setting_of m) m.pending
    → on y ≡ false → precedes x y ≡ true → (on (regranted m y) ≡ false) × (precedes (regranted m x) (regranted m y) ≡ true)
unfolding regranted
finish-precedes m i x y xi yi xj o p =
    let v : Setting = setting_of m in
    let ps : List Claim = pack v m.pending in
    let f = packed_start v m.pending in
    let g = grant-precedes v ps (moved f x) (moved f y) xj (pack-precedes v m.pending (λ c k. (i.proper c k).sane) x y xi yi o p) in
    (ap on g.0 ∙ moved-phase f y ∙ o, ap (precedes (granted v ps (moved f x))) g.0 ∙ g.1)

-- Of a call from m to `finish q`, where each claim of q that is not new is one of those that the first packing gave.
finish-order : (m q : Model) (t : ℕ) (rep : Reply) → Invariant m → IsSpaced q → ((x : Claim) → x ∈ q.pending → (x ∈ (advance m t).pending) ⊎ (m.issued < x.ticket))
    → (d d' w w' : Claim) → Becomes m (finish q rep).model d d' → Becomes m (finish q rep).model w w' → on w ≡ false → precedes d w ≡ true
    → (on w' ≡ false) × (precedes d' w' ≡ true)
unfolding regranted
finish-order m q t rep i sp old d d' w w' f g o p =
    let x = finish-e q rep f.new in
    let y = finish-e q rep g.new in
    let xi = mine d f.old x.0 (sym x.2 ∙ f.same) (old x.0 x.1) in
    let yi = mine w g.old y.0 (sym y.2 ∙ g.same) (old y.0 y.1) in
    let r = advance-precedes m t i d w f.old g.old o p x.0 y.0 xi yi (sym x.2 ∙ f.same) (sym y.2 ∙ g.same) in
    let z = finish-precedes q sp x.0 y.0 x.1 y.1 x.3.0 r.0 r.1 in
    (ap on y.3.1 ∙ z.0, ap (λ (c : Claim). precedes c w') x.3.1 ∙ ap (precedes (regranted q x.0)) y.3.1 ∙ z.1)
  where
    mine : (d : Claim) → d ∈ m.pending → (x : Claim) → x.ticket ≡ d.ticket → (x ∈ (advance m t).pending) ⊎ (m.issued < x.ticket) → x ∈ (advance m t).pending
    mine d di x e (inl j) = j
    mine d di x e (inr l) = absurd (omega (arith, (i.spaced.proper d di).issued))

-- ── who stays for want of units ──
pub and_no : (b : Bool) → b && false ≡ false
and_no true = refl
and_no false = refl

module _ (v : Setting) (ps : List Claim) (sane : (c : Claim) → c ∈ ps → Sane v c) (up : Ascending ps) (w : Claim) (wi : w ∈ ps) (due : at w ≡ v.clock) where
  kept-each : (c : Claim) → c ∈ ps → held_by c + taken_before (goes v ps) w c ≤ kept_from (grants v ps) w (granted v ps c)
  unfolding grants
  kept-each c k =
      let names : any (λ j. eqb j c.ticket) (map (λ x. x.ticket) (keep (goes v ps) ps)) ≡ goes v ps c = named_keep (λ (x : Claim). x.ticket) (goes v ps) ps (ascending-same ps up) c k in
      let taken = taken-ticket v ps w c (sane c k) (sane w wi) due in
      granted-cases (λ (x : Claim). held_by c + taken_before (goes v ps) w c ≤ kept_from (map (λ x. x.ticket) (keep (goes v ps) ps)) w x) v ps c
      (λ g. rw (goes-wait v ps c g, taken, names, g) (by-test (ltb c.ticket w.ticket)
      (λ l. rw (l, le-ltb w.ticket c.ticket (omega (arith, ltb-true c.ticket w.ticket l))) (omega arith))
      (λ l. rw l (omega arith))))
      (λ g. rw (taken, names, g, and_no (ltb w.ticket c.ticket)) (omega arith))

  kept-sum : held_units ps + sum (taken_before (goes v ps) w) ps ≤ sum (kept_from (grants v ps) w) (grant v ps)
  unfolding held_units grant
  kept-sum =
      omega (
        arith,
        sum-map (kept_from (grants v ps) w) (granted v ps) ps,
        sum-le (λ c. held_by c + taken_before (goes v ps) w c) (λ c. kept_from (grants v ps) w (granted v ps c)) ps kept-each,
        sum_both held_by (taken_before (goes v ps) w) ps,
      )

  wanting-at : on w ≡ false → goes v ps w ≡ false → ((d : Claim) → d ∈ grant v ps → precedes d w ≡ false) → v.pool < sum (kept_from (grants v ps) w) (grant v ps) + w.units
  unfolding grant
  wanting-at o g none = go (stays v ps w g o due)
    where
      go : granting.Stays v ps w → v.pool < sum (kept_from (grants v ps) w) (grant v ps) + w.units
      go (granting.preceded d di p) = clash (grant-precedes v ps d w di p).1 (none (granted v ps d) (map-i (granted v ps) di))
      go (granting.unspared z l) = omega (arith, kept-sum)

finish-wanting : (q : Model) (rep : Reply) → IsSpaced q → (w : Claim) → w ∈ (finish q rep).model.pending → on w ≡ false → at w ≡ q.clock
    → ((d : Claim) → d ∈ (finish q rep).model.pending → precedes d w ≡ false)
    → (finish q rep).model.pool < sum (kept_from (finish q rep).answer.grants w) (finish q rep).model.pending + w.units
unfolding finish
finish-wanting q rep sp w wi o a none =
    let v : Setting = setting_of q in
    let ps : List Claim = pack v q.pending in
    let s = (spaced-packs q.issued v q.pending sp).spaced in
    let r = finish-e q rep wi in
    let y : Claim = moved (packed_start v q.pending) r.0 in
    let g : goes v ps y ≡ false = by-test (goes v ps y) (λ h. clash (ap on (granted-go v ps y h)) (sym (ap on r.3.1) ∙ o)) (λ h. h) in
    let same : w ≡ y = r.3.1 ∙ granted-stay v ps y g in
    let wp : w ∈ ps = subst (λ (x : Claim). x ∈ ps) (sym same) r.3.0 in
    wanting-at v ps (λ c k. (s.proper c k).sane) s.ascending w wp a o (ap (goes v ps) same ∙ g) none

-- ── every accepted timed call ──
timed-finish : (m q : Model) (t : ℕ) (rep : Reply) → Invariant m → IsSpaced q → q.clock ≡ t
    → ((x : Claim) → x ∈ q.pending → (x ∈ (advance m t).pending) ⊎ (m.issued < x.ticket)) → TimedCall m t (finish q rep)
timed-finish m q t rep i sp e old = record {
  clock_set = finish-clock q rep ∙ e;
  starts_packed = packs;
  starts_documented = λ w wi o z.
      start-documented v ps w z at packs wi o
      ∙ ap (λ (f : Claim → ℕ). greatest f v.clock (keep (λ c. precedes c w) ps)) (λ i c. end_of v (moved_same at c (λ _. refl) i))
      ∙ ap (λ (n : ℕ). greatest (end_of v) n (keep (λ c. precedes c w) ps)) (finish-clock q rep ∙ e);
  none_overtaken = finish-order m q t rep i sp old;
  units_wanting = λ w wi o a none. finish-wanting q rep sp w wi o (a ∙ sym e) none;
  grants_documented = λ w wi o z.
      let h = inv.blocked w wi o in
      let r = meets-none h.0 w z h.2 in
      (h.0, h.1, ends-precedes v h.0 w (inv.spaced.proper h.0 h.1).sane r (omega (arith, h.3)));
}
  where
    v : Setting
    v = setting_of (finish q rep).model

    ps : List Claim
    ps = (finish q rep).model.pending

    inv : Invariant (finish q rep).model
    inv = finish-invariant q rep sp

    packs : Packs v ps at
    packs = settled-packs (finish q rep).model.issued v ps inv

-- A claim stays or is granted at its start.
granted-stays : (v : Setting) (ps : List Claim) (x : Claim) → Stays v.clock x (granted v ps x)
granted-stays v ps x = granted-cases (Stays v.clock x) v ps x (λ e. inr (goes-wait v ps x e, goes-at v ps x e, refl)) (λ e. inl refl)

-- ── an accepted claim ──
module _ (m : Model) (i : Invariant m) (t : ℕ) (ask : Request) (a : Admissible m t ask) where
  -- The table that the first packing gave; the claims after the call; and the new one among them.
  abbrev first : Model
  first = advance m t

  abbrev last : List Claim
  last = (admit (advance m t) ask).model.pending

  abbrev w : Claim
  w = joined (advance m t) ask

  packed : IsPacked first
  packed = advance-packed m t i a.clocked.later

  still : Still first
  still = advance-still m t (sane-at m t i) i.spaced.ascending i.spaced.holders.stock

  spare : first.issued < most_tickets
  spare = advance-spare m t ask a

  drawn : ask.units ≤ first.pool
  drawn = advance-drawn m t ask a

  claim-timed : TimedCall m t (admit first ask)
  unfolding admit join advance
  claim-timed =
      timed-finish m (join first (placed first ask)) t _ i (join-spaced first ask a.long drawn spare packed.spaced) refl (join-old first (placed first ask) refl)

  -- The others, as after a clock call, and the new one.
  last-is : last ≡ (finish first (plain 0 t)).model.pending ++ (w ∷ [])
  last-is = claim-pending first packed still ask a.long drawn spare (plain 0 t)

  fits-at : Fits (ruled m t) first.pending w (place (ruled m t) first.pending (fresh first ask))
  unfolding advance
  fits-at =
      joined-cases first ask (λ (x : Claim). Fits (ruled m t) first.pending x (place (ruled m t) first.pending (fresh first ask)))
      (record { room = (placed-fits first ask a.long drawn spare).room; spare = (placed-fits first ask a.long drawn spare).spare })
      (record { room = (placed-fits first ask a.long drawn spare).room; spare = (placed-fits first ask a.long drawn spare).spare })

  -- The least of all numbers that fit.
  low-at : t ≤ place (ruled m t) first.pending (fresh first ask)
  low-at = place-low (ruled m t) first.pending (fresh first ask)

  least_at : (x : ℕ) → t ≤ x → Fits (ruled m t) first.pending w x → place (ruled m t) first.pending (fresh first ask) ≤ x
  unfolding advance
  least_at x h f =
      place-least (ruled m t) first.pending (fresh first ask) (fresh-sane first ask a.long drawn spare) x h
      (joined-cases first ask (λ (y : Claim). Fits (ruled m t) first.pending y x → Fits (ruled m t) first.pending (fresh first ask) x)
      (λ f. record { room = f.room; spare = f.spare }) (λ f. record { room = f.room; spare = f.spare }) f)

  contention-at : contention first.pending (fresh first ask) ≡ count (rivals first.pending w)
  unfolding contention
  contention-at = joined-cases first ask (λ (y : Claim). count (rivals first.pending (fresh first ask)) ≡ count (rivals first.pending y)) refl refl

  bound_at : (let rs = rivals first.pending w in start_bound (ruled m t) first.pending (fresh first ask) ≡ t + sum (remaining (ruled m t)) rs + count rs * (ask.length - 1))
  unfolding start_bound contention
  bound_at = joined-cases first ask (λ (y : Claim). (let rs = rivals first.pending y in start_bound (ruled m t) first.pending (fresh first ask) ≡ t + sum (remaining (ruled m t)) rs + count rs * (ask.length - 1))) refl refl

  pub claim-whole : ClaimCall step m t ask (admit first ask)
  unfolding admit finish advance
  claim-whole = record {
    new = w;
    groups = joined-cases first ask (λ (x : Claim). x.groups ≡ ask.groups) refl refl;
    length = joined-cases first ask (λ (x : Claim). x.length ≡ ask.length) refl refl;
    units = joined-cases first ask (λ (x : Claim). x.units ≡ ask.units) refl refl;
    client = joined-cases first ask (λ (x : Claim). x.client ≡ ask.client) refl refl;
    ticket = joined-cases first ask (λ (x : Claim). x.ticket ≡ suc first.issued) refl refl;
    start = joined_at first packed still ask a.long drawn spare;
    from_clock = low-at;
    fits = fits-at;
    least = least_at;
    contention_counted = contention-at;
    bound_counted = bound_at;
    others_same = last-is ∙ ap (λ (s : Step). s.model.pending ++ (w ∷ [])) (sym (clock-accepted m t a.clocked));
  }

refused : {A : Type 0} (c : Call) (n : ℕ) → Idle c n → is_timed c ≡ true → n ≡ 0 → A
refused c n (inl e) p q = clash p (looks-untimed c e)
refused c n (inr e) p q = absurd (e q)

-- What precedes a waiting claim goes on preceding it over every call, accepted or not.
pub order-holds : (m : Model) → Invariant m → (c : Call) (d d' w w' : Claim) → Becomes m (step m c).model d d' → Becomes m (step m c).model w w' → on w ≡ false → precedes d w ≡ true
    → (on w' ≡ false) × (precedes d' w' ≡ true)
order-holds m i =
    step-cases (λ c s. (d d' w w' : Claim) → Becomes m s.model d d' → Becomes m s.model w w' → on w ≡ false → precedes d w ≡ true → (on w' ≡ false) × (precedes d' w' ≡ true)) m
    (λ c n z. idle m refl) (λ t ask a. (claim-timed m i t ask a).none_overtaken)
    (λ c t k q o v. finish-order m q t (plain k t) i (leaves-spaced v (advance-packed m t i o.later)) (λ x j. inl (leaves-old v x j)))
    (λ c r l d. idle (declared m c r l) refl) (λ n d. idle (with_grace m n) refl)
  where
    idle : (n : Model) → n.pending ≡ m.pending → (d d' w w' : Claim) → Becomes m n d d' → Becomes m n w w' → on w ≡ false → precedes d w ≡ true → (on w' ≡ false) × (precedes d' w' ≡ true)
    idle n e d d' w w' f g o p =
        let same : (c c' : Claim) → Becomes m n c c' → c' ≡ c = λ c c' b. ascending-same m.pending i.spaced.ascending c' c (subst (λ (l : List Claim). c' ∈ l) e b.new) b.old b.same in
        (ap on (same w w' g) ∙ o, ap (λ (x : Claim). precedes x w') (same d d' f) ∙ ap (precedes d) (same w w' g) ∙ p)

-- ── an accepted release or withdrawal ──
module _ (m : Model) (i : Invariant m) (t k : ℕ) (o : Clocked m t) where
  -- The table without the claim, and the one after the call.
  abbrev q : Model
  q = remove (advance m t) k

  abbrev done : Model
  done = (finish (remove (advance m t) k) (plain k t)).model

  packed_there : IsPacked (advance m t)
  packed_there = advance-packed m t i o.later

  q-spaced : IsSpaced q
  q-spaced = remove-spaced (advance m t) k packed_there.spaced

  kept : (x : Claim) → x ∈ q.pending → x ∈ (advance m t).pending × (x.ticket ≢ k)
  unfolding remove
  kept x j = let r = keep-e (λ c. not (named k c)) (advance m t).pending j in (r.0, eqb-false x.ticket k (not-true (eqb x.ticket k) r.1))

  left_over : (x : Claim) → x ∈ (advance m t).pending → x.ticket ≢ k → x ∈ q.pending
  unfolding remove
  left_over x j n = keep-i (λ c. not (named k c)) (rw (ne_eqb x.ticket k n)) j

  -- The starts that the second packing gives, and where a claim comes from and goes to.
  abbrev starts : Claim → ℕ
  starts = packed_start (ruled m t) q.pending

  abbrev after : Claim → Claim
  after x = granted (ruled m t) (pack (ruled m t) q.pending) (moved starts x)

  stays_at : (x : Claim) → Stays t (moved starts x) (after x)
  stays_at x = granted-stays (ruled m t) (pack (ruled m t) q.pending) (moved starts x)

  comes : (x : Claim) → x ∈ q.pending → after x ∈ done.pending
  unfolding finish pack grant remove advance
  comes x j = map-i (granted (ruled m t) (pack (ruled m t) q.pending)) (map-i (moved starts) j)

  came : (d : Claim) → d ∈ done.pending → (x : Claim) × x ∈ q.pending × (d ≡ after x)
  unfolding remove advance
  came d di = let r = finish-e q (plain k t) di in (r.0, r.1, r.3.1)

  earlier : (x : Claim) → x ∈ q.pending → on x ≡ false → starts x ≤ at x
  unfolding remove advance
  earlier x j o = pack-no-later (ruled m t) q.pending (λ x k. (q-spaced.proper x k).sane) q-spaced.fit q-spaced.low x j o

  packs-again : Packs (ruled m t) q.pending starts
  unfolding remove advance
  packs-again = (packs-as-documented q q-spaced t).0

  pub leave-whole : LeaveCall m t k (finish (remove (advance m t) k) (plain k t))
  leave-whole = record {
    starts = starts;
    packs = packs-again;
    pulled_forward = λ x xi n o. earlier x (left_over x xi n) o;
    all_stay = λ x xi n. (after x, comes x (left_over x xi n), stays_at x);
    none_else = λ d di.
        let r = came d di in
        let o = kept r.0 r.1 in
        (r.0, o.0, o.1, subst (Stays t (moved starts r.0)) (sym r.2) (stays_at r.0));
  }

-- ── the first packing, and a clock call ──
pub first-packing : (m : Model) → Invariant m → (t : ℕ) → FirstPacking m t
unfolding advance pack
first-packing m i t = record { starts = packed_start (ruled m t) m.pending; packs = (packs-as-documented m i.spaced t).0; packed = refl; no_other = (packs-as-documented m i.spaced t).1 }

module _ (m : Model) (i : Invariant m) (t : ℕ) where
  pub clocked-is : (finish (advance m t) (plain 0 t)).model.pending ≡ grant (ruled m t) (advance m t).pending
  unfolding advance
  clocked-is = ap (λ (s : Step). s.model.pending) (finish-still (advance m t) (plain 0 t) (advance-still m t (sane-at m t i) i.spaced.ascending i.spaced.holders.stock))

  pub clock-whole : ClockCall m t (finish (advance m t) (plain 0 t))
  unfolding grant
  clock-whole =
      let v : Setting = ruled m t in
      let ps : List Claim = (advance m t).pending in
      record {
        all_stay = λ x xi. (granted v ps x, subst (λ (l : List Claim). granted v ps x ∈ l) (sym clocked-is) (map-i (granted v ps) xi), granted-stays v ps x);
        none_else = λ d di.
            let r = map-e (granted v ps) ps (subst (λ (l : List Claim). d ∈ l) clocked-is di) in
            (r.0, r.1, subst (Stays t r.0) (sym r.2) (granted-stays v ps r.0));
      }

-- ── every accepted call ──
OfCall : Model → Call → Step → Type 0
OfCall m (timed t x) s = TimedCall m t s × Acts step m t x s
OfCall m (looks q) s = Unit {0}
OfCall m (sets_up p) s = Unit {0}

of-call : (m : Model) → Invariant m → (c : Call) → is_timed c ≡ true → (step m c).answer.number ≡ 0 → OfCall m c (step m c)
unfolding OfCall
of-call m i =
    step-cases (λ c s. is_timed c ≡ true → s.answer.number ≡ 0 → OfCall m c s) m (λ c k z p q. refused c k z p q)
    (λ t ask a p q. (claim-timed m i t ask a, claim-whole m i t ask a)) (λ c t k q o v p e. left o v) (λ c r l d p e. tt) (λ n d p e. tt)
  where
    timed-left : {c : Call} {t k : ℕ} {q : Model} → Clocked m t → Leaves m c t k q → TimedCall m t (finish q (plain k t))
    timed-left {c} {t} {k} {q} o v = timed-finish m q t (plain k t) i (leaves-spaced v (advance-packed m t i o.later)) (leaves-clock v).0 (λ x j. inl (leaves-old v x j))

    left : {c : Call} {t k : ℕ} {q : Model} → Clocked m t → Leaves m c t k q → OfCall m c (finish q (plain k t))
    left o (by-release t k) = (timed-left o (by-release t k), leave-whole m i t k o)
    left o (by-withdraw t k) = (timed-left o (by-withdraw t k), leave-whole m i t k o)
    left o (by-clock t) = (timed-left o (by-clock t), clock-whole m i t)

-- ── every table that calls can make ──
pub whole_calls : (m : Model) → Invariant m → WholeCalls m
unfolding OfCall
whole_calls m i = record { of_packing = first-packing m i; of_timed = λ t x. of-call m i (timed t x) refl }

pub calls-invariant : (m : Model) (cs : List Call) → Invariant m → Invariant (table_after step m cs)
unfolding table_after
calls-invariant m [] i = i
calls-invariant m (c ∷ cs) i = calls-invariant (step m c).model cs (step-invariant m c i)
