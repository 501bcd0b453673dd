-- The calls: what accepting one means, its cases, and that every call keeps the invariant.
use mathlib.Core.Path.{◌≡◌, refl, sym, ◌∙◌, ap, subst}
use mathlib.Core.Logic.{◌⊎◌, inl, inr, ⊎_elim, ◌≢◌}
use mathlib.Core.Bool.{Bool, true, false, not, ◌&&◌}
use mathlib.Core.List.Memᴰ
use mathlib.Core.List.{List, [], ◌∷◌}
use Prim.Native.Nat.{ℕ, zero, suc, ◌≤◌, ◌<◌}
use native.Mathlib.Omega.{arith}
use Rattle.std.proofs.Common.{is_some}
use lib.Dec.{ltb, eqb}
use borrow.Author.Tests.{ltb-false, le-ltb, leb-false, eqb-false, not-false}
use Rattle.numbers.specs.Numbers.{most_clock, most_length, most_tickets, most_grace}
use Rattle.groups.specs.Groups.{empty, within}
use Rattle.rules.specs.declared.Claim.{Claim}
use Rattle.rules.specs.declared.Request.{Request}
use Rattle.rules.specs.declared.Phase.TheVariants.{Waiting}
use Rattle.rules.specs.Lists.{◌∈◌, sum}
use Rattle.rules.specs.Shares.{share_of, reserved_in_all}
use Rattle.rules.specs.Pool.{used, held_units}
use Rattle.rules.specs.declared.Setting.{Setting}
use Rattle.rules.specs.Claims.{on, at, with_phase}
use Rattle.rules.specs.Packing.{packed_start, moved, pack, Packs}
use Rattle.rules.specs.Placing.{place}
use Rattle.rules.specs.Granting.{granted, grant}
use Rattle.rules.specs.Tests.{Test, first_number, late, backward, stranger, no_client, nothing_asked, off_rig, spots, bad_length, begun, overbooked, bad_grace, ticketless, named}
use Rattle.rules.specs.declared.Reply.{Reply}
use Rattle.rules.specs.Calls.{Model, with_grace, ruled, setting_of, claims, releases, withdraws, moves_clock, declares, sets_grace, Call, timed, looks, sets_up, claim, release, withdraw, clock, declare, set_grace, is_timed, clock_of, is_look, Step, full_to, over_of, tests, unchanged, advance, plain, finish, join, remove, fresh, admit, declared, act, unless, step, blank, new, after}
use Rattle.rules.specs.Plans.{Fits, Sane}
use Rattle.rules.specs.Invariants.{Settled, IsSpaced, IsPacked, Invariant}
use Rattle.rules.proofs.Bools.{by-test, or-fl, or-fr}
use Rattle.rules.proofs.Lists.{Each, here, none, keep-e, map-e, map-i}
use Rattle.rules.proofs.Tests.{passes}
use Rattle.rules.proofs.Order.{ascending-same}
use Rattle.rules.proofs.Packing.{moved-ticket, separated-untied, pack-as-documented, pack-unique}
use Rattle.rules.proofs.Placing.{place-low, place-fits}
use Rattle.rules.proofs.Granting.{granted-ticket}
use Rattle.rules.proofs.Invariants.{packs, grant-settles, spaced-packable, spaced-packs, spaced-keep, spaced-snoc}

-- ── the tests ──
-- The clock of an accepted timed call.
pub record Clocked (m : Model) (t : ℕ) : Type 0 where
  pub later : m.clock ≤ t
  pub early : t ≤ most_clock

pub clock-passes : (m : Model) (t : ℕ) (ts : List Test) → first_number (late t ∷ backward m.clock t ∷ ts) ≡ 0 → Clocked m t × (first_number ts ≡ 0)
clock-passes m t ts e =
    let a = passes (late t) _ (omega arith) e in
    let b = passes (backward m.clock t) ts (omega arith) a.1 in
    (record { later = ltb-false _ _ b.0; early = ltb-false _ _ a.0 }, b.1)

-- What the tests of an accepted claim say.
pub record Admissible (m : Model) (t : ℕ) (ask : Request) : Type 0 where
  pub clocked : Clocked m t
  pub known : is_some (share_of m.shares ask.client) ≡ true
  pub asks : (empty ask.groups && eqb ask.units 0) ≡ false
  pub inside : within ask.groups m.rig ≡ true
  pub drawn : ask.units ≤ m.pool
  pub long : 1 ≤ ask.length
  pub short : ask.length ≤ most_length
  pub room : (full_to m ask.client).fails ≡ false
  pub limited : (over_of m ask.client).fails ≡ false
  pub spare : m.issued < most_tickets

pub admissible : (m : Model) (t : ℕ) (ask : Request) → first_number (tests m (claim t ask)) ≡ 0 → Admissible m t ask
unfolding tests
admissible m t ask e =
    let s = share_of m.shares ask.client in
    let a = clock-passes m t _ e in
    let k = passes (stranger s) _ (omega arith) a.1 in
    let b = passes (nothing_asked ask.groups ask.units) _ (omega arith) k.1 in
    let c = passes (off_rig m.rig ask.groups) _ (omega arith) b.1 in
    let g = passes (spots m.pool ask.units) _ (omega arith) c.1 in
    let d = passes (bad_length ask.length) _ (omega arith) g.1 in
    let f = passes (full_to m ask.client) _ (omega arith) d.1 in
    let o = passes (over_of m ask.client) _ (omega arith) f.1 in
    let h = passes (ticketless m.issued) [] (omega arith) o.1 in
    record {
      clocked = a.0;
      known = not-false (is_some s) k.0;
      asks = b.0;
      inside = not-false (within ask.groups m.rig) c.0;
      drawn = ltb-false m.pool ask.units g.0;
      long = positive ask.length (or-fl (eqb ask.length 0) _ d.0);
      short = ltb-false most_length ask.length (or-fr (eqb ask.length 0) _ d.0);
      room = f.0;
      limited = o.0;
      spare = leb-false most_tickets _ h.0;
    }
  where
    positive : (n : ℕ) → eqb n 0 ≡ false → 1 ≤ n
    positive zero z = absurd (eqb-false 0 0 z refl)
    positive (suc n) z = omega arith

-- What those of an accepted declaration say.
pub record Declarable (m : Model) (c r l : ℕ) : Type 0 where
  pub unissued : m.issued ≡ 0
  pub client : (no_client c).fails ≡ false
  pub books : (overbooked (share_of m.shares c) (reserved_in_all m.shares) r l).fails ≡ false

pub declarable : (m : Model) (c r l : ℕ) → first_number (tests m (declare c r l)) ≡ 0 → Declarable m c r l
unfolding tests
declarable m c r l e =
    let a = passes (begun m.issued) _ (omega arith) e in
    let b = passes (no_client c) _ (omega arith) a.1 in
    let d = passes (overbooked (share_of m.shares c) (reserved_in_all m.shares) r l) [] (omega arith) b.1 in
    record { unissued = (let z = ltb-false 0 m.issued a.0 in omega arith); client = b.0; books = d.0 }

-- And that of a grace that is set.
pub record Settable (m : Model) (n : ℕ) : Type 0 where
  pub unissued : m.issued ≡ 0
  pub lenient : n ≤ most_grace

pub settable : (m : Model) (n : ℕ) → first_number (tests m (set_grace n)) ≡ 0 → Settable m n
unfolding tests
settable m n e =
    let a = (passes (bad_grace m.issued n) [] (omega arith) e).0 in
    record { unissued = (let z = ltb-false 0 m.issued (or-fl (ltb 0 m.issued) _ a) in omega arith); lenient = ltb-false most_grace n (or-fr (ltb 0 m.issued) _ a) }

-- ── the number of an answer is that of the call's first test that fails ──
accepted-number : (m : Model) (c : Call) → (act m c).answer.number ≡ 0
unfolding act admit finish
accepted-number m (timed t (claims ask)) = refl
accepted-number m (timed t (releases k)) = refl
accepted-number m (timed t (withdraws k)) = refl
accepted-number m (timed t moves_clock) = refl
accepted-number m (looks q) = refl
accepted-number m (sets_up p) = refl

pub step-number : (m : Model) (c : Call) → (step m c).answer.number ≡ first_number (tests m c)
unfolding step
step-number m c = go (first_number (tests m c))
  where
    go : (n : ℕ) → (unless m n (act m c)).answer.number ≡ n
    go zero = accepted-number m c
    go (suc n) = refl

-- ── what the acts keep ──
pub advance-packed : (m : Model) (t : ℕ) → Invariant m → m.clock ≤ t → IsPacked (advance m t)
unfolding advance
advance-packed m t i l =
    packs m.issued (ruled m t) m.pending (spaced-packable m.issued (setting_of m) (ruled m t) m.pending (record { later = l; same = refl }) i.spaced)

pub remove-spaced : (m : Model) (k : ℕ) → IsSpaced m → IsSpaced (remove m k)
unfolding remove
remove-spaced m k s = spaced-keep m.issued (setting_of m) m.pending (λ c. not (named k c)) s

pub finish-invariant : (m : Model) (r : Reply) → IsSpaced m → Invariant (finish m r).model
unfolding finish
finish-invariant m r i = grant-settles m.issued (setting_of m) (pack (setting_of m) m.pending) (spaced-packs m.issued (setting_of m) m.pending i)

-- A new claim with its place.
abbrev pub placed : Model → Request → Claim
placed m ask = with_phase (fresh m ask) (Waiting (place (setting_of m) m.pending (fresh m ask)))

module _ (m : Model) (ask : Request) (long : 1 ≤ ask.length) (drawn : ask.units ≤ m.pool) (spare : m.issued < most_tickets) where
  pub fresh-sane : Sane (setting_of m) (fresh m ask)
  fresh-sane = record { long = long; small = omega arith; drawn = drawn }

  pub placed-sane : Sane (setting_of m) (placed m ask)
  placed-sane = record { long = long; small = omega arith; drawn = drawn }

  pub placed-fits : Fits (setting_of m) m.pending (placed m ask) (at (placed m ask))
  placed-fits = let f = place-fits (setting_of m) m.pending (fresh m ask) fresh-sane in record { room = f.room; spare = f.spare }

  pub join-spaced : IsSpaced m → IsSpaced (join m (placed m ask))
  unfolding join
  join-spaced p = spaced-snoc m.issued (setting_of m) m.pending (placed m ask) placed-sane refl placed-fits p refl (place-low (setting_of m) m.pending (fresh m ask))

-- What an accepted call that is no claim leaves pending, before it packs again and grants.
pub data Leaves (m : Model) : Call → ℕ → ℕ → Model → Type 0 where
  by-release : (t k : ℕ) → Leaves m (release t k) t k (remove (advance m t) k)
  by-withdraw : (t k : ℕ) → Leaves m (withdraw t k) t k (remove (advance m t) k)
  by-clock : (t : ℕ) → Leaves m (clock t) t 0 (advance m t)

pub leaves-spaced : {m : Model} {c : Call} {t k : ℕ} {n : Model} → Leaves m c t k n → IsPacked (advance m t) → IsSpaced n
leaves-spaced {m} (by-release t k) p = remove-spaced (advance m t) k p.spaced
leaves-spaced {m} (by-withdraw t k) p = remove-spaced (advance m t) k p.spaced
leaves-spaced (by-clock t) p = p.spaced

-- ── where the claims after a call come from ──
-- Through packing at a new clock.
pub advance-e : (m : Model) (t : ℕ) {d : Claim} → d ∈ (advance m t).pending
    → (x : Claim) × x ∈ m.pending × (d.ticket ≡ x.ticket) × (d ≡ moved (packed_start (ruled m t) m.pending) x)
unfolding advance pack
advance-e m t i =
    let f = packed_start (ruled m t) m.pending in
    let r = map-e (moved f) m.pending i in
    (r.0, r.1, ap (λ (x : Claim). x.ticket) r.2 ∙ moved-ticket f r.0, r.2)

-- What a claim c becomes by it.
pub advance-same : (m : Model) (t : ℕ) → Invariant m → (c d : Claim) → c ∈ m.pending → d ∈ (advance m t).pending → d.ticket ≡ c.ticket
    → d ≡ moved (packed_start (ruled m t) m.pending) c
advance-same m t i c d ci di e =
    let r = advance-e m t di in
    r.3 ∙ ap (moved (packed_start (ruled m t) m.pending)) (ascending-same m.pending i.spaced.ascending r.0 c r.1 ci (sym r.2 ∙ e))

-- Through packing and granting.
pub finish-e : (m : Model) (r : Reply) {d : Claim} → d ∈ (finish m r).model.pending
    → (x : Claim) × x ∈ m.pending × (d.ticket ≡ x.ticket)
    × (let v : Setting = setting_of m in
    let y : Claim = moved (packed_start v m.pending) x in
    y ∈ pack v m.pending × (d ≡ granted v (pack v m.pending) y))
unfolding finish pack grant
finish-e m r i =
    let v : Setting = setting_of m in
    let f = packed_start v m.pending in
    let ps : List Claim = pack v m.pending in
    let a = map-e (granted v ps) ps i in
    let c = map-e (moved f) m.pending a.1 in (
      c.0,
      c.1,
      ap (λ (x : Claim). x.ticket) a.2 ∙ granted-ticket v ps a.0 ∙ ap (λ (x : Claim). x.ticket) c.2 ∙ moved-ticket f c.0,
      (map-i (moved f) c.1, a.2 ∙ ap (granted v ps) c.2),
    )

-- Through the act: one that stayed, or a new one.
pub leaves-old : {m : Model} {c : Call} {t k : ℕ} {q : Model} → Leaves m c t k q → (y : Claim) → y ∈ q.pending → y ∈ (advance m t).pending
unfolding remove
leaves-old (by-release t k) y i = (keep-e _ _ i).0
leaves-old (by-withdraw t k) y i = (keep-e _ _ i).0
leaves-old (by-clock t) y i = i

pub join-old : (m : Model) (w : Claim) → w.ticket ≡ suc m.issued → (y : Claim) → y ∈ (join m w).pending → (y ∈ m.pending) ⊎ (m.issued < y.ticket)
unfolding join
join-old m w e y i =
    ⊎_elim inl (λ j. inr (omega (arith, ap (λ (z : Claim). z.ticket) (Memᴰ.eq_of_singleton j)))) (Memᴰ.append_cases m.pending i)

-- The clock of what is left, and after the call.
pub leaves-clock : {m : Model} {c : Call} {t k : ℕ} {q : Model} → Leaves m c t k q → (q.clock ≡ t) × (clock_of c ≡ t)
unfolding remove advance
leaves-clock (by-release t k) = (refl, refl)
leaves-clock (by-withdraw t k) = (refl, refl)
leaves-clock (by-clock t) = (refl, refl)

pub finish-clock : (m : Model) (r : Reply) → (finish m r).model.clock ≡ m.clock
unfolding finish
finish-clock m r = refl

-- A timed call leaves the grace as it is.
pub finish-grace : (m : Model) (r : Reply) → (finish m r).model.grace ≡ m.grace
unfolding finish
finish-grace m r = refl

pub leaves-grace : {m : Model} {c : Call} {t k : ℕ} {q : Model} → Leaves m c t k q → q.grace ≡ m.grace
unfolding remove advance
leaves-grace (by-release t k) = refl
leaves-grace (by-withdraw t k) = refl
leaves-grace (by-clock t) = refl

pub admit-grace : (m : Model) (t : ℕ) (ask : Request) → (admit (advance m t) ask).model.grace ≡ m.grace
unfolding admit join advance finish
admit-grace m t ask = refl

-- ── the cases of a call ──
-- A call that changes nothing: a lookup, or refused.
abbrev pub Idle : Call → ℕ → Type 0
Idle c n = (is_look c ≡ true) ⊎ (n ≢ 0)

-- A lookup is no timed call.
pub looks-untimed : (c : Call) → is_look c ≡ true → is_timed c ≡ false
looks-untimed (timed t x) e = sym e
looks-untimed (looks q) e = refl
looks-untimed (sets_up p) e = refl

by_tests : (P : Step → Type 0) (m : Model) (n : ℕ) (s : Step) → ((j : ℕ) → P (unchanged m (suc j))) → (n ≡ 0 → P s) → P (unless m n s)
by_tests P m zero s h k = k refl
by_tests P m (suc n) s h k = h n

-- To show something of a call's step, show it of these five.
pub step-cases : (P : Call → Step → Type 0) (m : Model)
    → ((c : Call) (n : ℕ) → Idle c n → P c (unchanged m n))
    → ((t : ℕ) (ask : Request) → Admissible m t ask → P (claim t ask) (admit (advance m t) ask))
    → ((c : Call) (t k : ℕ) (q : Model) → Clocked m t → Leaves m c t k q → P c (finish q (plain k t)))
    → ((c r l : ℕ) → Declarable m c r l → P (declare c r l) (unchanged (declared m c r l) 0))
    → ((n : ℕ) → Settable m n → P (set_grace n) (unchanged (with_grace m n) 0))
    → (c : Call) → P c (step m c)
unfolding step act tests
step-cases P m no! yes-claim yes-left yes-declare yes-grace c = by_tests (P c) m (first_number (tests m c)) (act m c) (λ j. no! c (suc j) (inr (λ e. omega arith))) (accepted c)
  where
    accepted : (c : Call) → first_number (tests m c) ≡ 0 → P c (act m c)
    accepted (timed t (claims ask)) e = yes-claim t ask (admissible m t ask e)
    accepted (timed t (releases k)) e = yes-left (release t k) t k (remove (advance m t) k) (clock-passes m t _ e).0 (by-release t k)
    accepted (timed t (withdraws k)) e = yes-left (withdraw t k) t k (remove (advance m t) k) (clock-passes m t _ e).0 (by-withdraw t k)
    accepted (timed t moves_clock) e = yes-left (clock t) t 0 (advance m t) (clock-passes m t _ e).0 (by-clock t)
    accepted (looks q) e = no! (looks q) 0 (inl refl)
    accepted (sets_up (declares c r l)) e = yes-declare c r l (declarable m c r l e)
    accepted (sets_up (sets_grace n)) e = yes-grace n (settable m n e)

-- A clock call whose clock is neither late nor backward is accepted.
pub clock-accepted : (m : Model) (t : ℕ) → Clocked m t → step m (clock t) ≡ finish (advance m t) (plain 0 t)
unfolding step act tests first_number
clock-accepted m t o = rw (le-ltb most_clock t o.early, le-ltb t m.clock o.later)

-- ── every call keeps the invariant ──
pub admit-invariant : (m : Model) (ask : Request) → 1 ≤ ask.length → ask.units ≤ m.pool → m.issued < most_tickets → IsPacked m → Invariant (admit m ask).model
unfolding admit
admit-invariant m ask l d s p = finish-invariant (join m (placed m ask)) _ (join-spaced m ask l d s p.spaced)

pub advance-spare : (m : Model) (t : ℕ) (ask : Request) → Admissible m t ask → (advance m t).issued < most_tickets
unfolding advance
advance-spare m t ask a = a.spare

pub advance-drawn : (m : Model) (t : ℕ) (ask : Request) → Admissible m t ask → ask.units ≤ (advance m t).pool
unfolding advance
advance-drawn m t ask a = a.drawn

-- Nothing pending is settled under any rules,
none-settled : (k : ℕ) (v : Setting) → Settled k v []
unfolding held_units used sum
none-settled k v = record {
  spaced =
      record {
        proper = λ c m. none m;
        ascending = tt;
        holders = record { apart = λ c d m k. none m; stock = omega arith };
        fit = record { behind = λ c d m k. none m; supplied = λ x l. omega arith };
        low = λ c m. none m;
      };
  blocked = λ c m. none m;
  earliest = λ c m. none m;
}

-- and before the first ticket nothing is pending.
pub unissued-none : (m : Model) → Invariant m → m.issued ≡ 0 → m.pending ≡ []
unissued-none m i e = go m.pending refl
  where
    go : (ps : List Claim) → m.pending ≡ ps → ps ≡ []
    go [] q = refl
    go (c ∷ ps) q =
        let p = i.spaced.proper c (subst (λ (l : List Claim). c ∈ l) (sym q) here) in
        absurd (omega (arith, p.numbered, p.issued))

pub none-invariant : (m : Model) → m.pending ≡ [] → Invariant m
none-invariant m e = subst (Settled m.issued (setting_of m)) (sym e) (none-settled m.issued (setting_of m))

pub grace-invariant : (m : Model) (n : ℕ) → Invariant m → m.issued ≡ 0 → Invariant (with_grace m n)
grace-invariant m n i e = none-invariant (with_grace m n) (unissued-none m i e)

pub step-invariant : (m : Model) (c : Call) → Invariant m → Invariant (step m c).model
step-invariant m c i =
    step-cases (λ d s. Invariant s.model) m (λ d n z. i)
    (λ t ask a. admit-invariant (advance m t) ask a.long (advance-drawn m t ask a) (advance-spare m t ask a) (advance-packed m t i a.clocked.later))
    (λ d t k q o v. finish-invariant q (plain k t) (leaves-spaced v (advance-packed m t i o.later)))
    (λ c r l d. i) (λ n d. grace-invariant m n i d.unissued) c

pub blank-invariant : (g k : ℕ) (alone : Bool) → Invariant (blank g k alone)
blank-invariant g k alone = none-invariant (blank g k alone) refl

-- To show something of a new table, show it of a refused one and of the others.
pub new-cases : (P : Step → Type 0) (g k : ℕ) (alone : Bool)
    → (empty g ≡ true → P (unchanged (blank 0 0 alone) 1)) → (empty g ≡ false → P (unchanged (blank g k alone) 0)) → P (new g k alone)
unfolding new
new-cases P g n alone h k = by-test (empty g) (λ e. rw e (h e)) (λ e. rw e (k e))

pub new-invariant : (g k : ℕ) (alone : Bool) → Invariant (new g k alone).model
new-invariant g k alone = new-cases (λ (s : Step). Invariant s.model) g k alone (λ e. blank-invariant 0 0 alone) (λ e. blank-invariant g k alone)

pub after-invariant : (m : Model) (cs : List Call) → Invariant m → Invariant (after m cs)
unfolding after
after-invariant m [] i = i
after-invariant m (c ∷ cs) i = after-invariant (step m c).model cs (step-invariant m c i)

-- ── packing as the papers have it, at every clock: in every table that calls can make, and in those inside a call ──
pub packs-as-documented : (m : Model) → IsSpaced m → (t : ℕ)
    → (let v : Setting = ruled m t in
    Packs v m.pending (packed_start v m.pending)
    × ((f : Claim → ℕ) → Packs v m.pending f → (w : Claim) → w ∈ m.pending → on w ≡ false → f w ≡ packed_start v m.pending w))
packs-as-documented m i t =
    let v : Setting = ruled m t in
    let sane : Each (Sane v) m.pending = λ c k. (let s = (i.proper c k).sane in record { long = s.long; small = s.small; drawn = s.drawn }) in
    let untied = separated-untied (setting_of m) m.pending (λ c k. (i.proper c k).sane) i.fit in
    (pack-as-documented v m.pending sane i.ascending untied, pack-unique v m.pending sane i.ascending untied)
