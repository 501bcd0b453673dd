-- From the parts of a call to its step by the rules.
use Rattle.std.proofs.Common.{Some}
use mathlib.Core.Path.{◌≡◌, refl, sym, ◌∙◌, ap, subst}
use mathlib.Core.Logic.{◌≢◌}
use mathlib.Core.Bool.{Bool, true, false, not, ◌&&◌, ◌||◌, cond}
use mathlib.Core.List.{List, [], ◌∷◌, ◌++◌}
use Prim.Native.Nat.{ℕ, zero, suc, ◌+◌, ◌-◌, ◌≤◌, ◌<◌}
use native.Mathlib.Omega.{arith}
use native.Mathlib.Numerals.{add-one}
use lib.ListN.{length, set}
use lib.Dec.{ltb}
use borrow.Author.Tests.{ltb-false, eq-eqb, ne_eqb, eqb-true, not-false}
use Rattle.numbers.specs.declared.Refusal.{Refusal}
use Rattle.numbers.specs.declared.Refusal.TheVariants.{Dark, OffRig, BadLength, Backward, Late, Full, Ticketless, Unknown, NotYetOn, AlreadyOn, Edition, Short, Misfit, Overlong, NoSpace, Spots, Stranger, Over, Overbooked, Count, Grace}
use Rattle.numbers.specs.Numbers.{most_clock, most_length, most_pending, most_tickets, most_units, or_else}
use Rattle.numbers.specs.Refusals.{number_of}
use Rattle.rules.specs.declared.Claim.{Claim}
use Rattle.rules.specs.declared.Phase.TheVariants.{Waiting}
use Rattle.rules.specs.declared.Reply.{Reply}
use Rattle.rules.specs.declared.Request.{Request}
use Rattle.rules.specs.declared.Setting.{Setting}
use Rattle.rules.specs.declared.Standing.TheVariants.{Waits, Holds}
use Rattle.rules.specs.Lists.{◌∈◌, any}
use Rattle.rules.specs.Claims.{on, at, with_phase}
use Rattle.rules.specs.Packing.{packed_start, moved, pack}
use Rattle.rules.specs.Placing.{place}
use Rattle.rules.specs.Plans.{Ascending, NoOverrunAt}
use Rattle.rules.specs.Shares.{share, with_share}
use Rattle.rules.specs.Invariants.{Still}
use Rattle.rules.specs.Tests.{Test, test, first_number, late, backward, named}
use Rattle.rules.specs.Calls.{plain, granting, Model, ruled, setting_of, with_pending, with_clock, with_issued, Call, Step, Answer, unchanged, unless, advance, finish, join, remove, fresh, placing, blank, admit, act, step, tests, standing_of, claim, declare, set_grace, with_shares, with_grace, clock as clock_call}
use Rattle.rules.proofs.Bools.{clash, by-test}
use Rattle.rules.proofs.Lists.{Each, any_none, any_false, map-e}
use Rattle.rules.proofs.Calls.{Admissible, Clocked, clock-passes, Leaves, by-release, by-withdraw, by-clock, placed, step-cases, step-invariant, blank-invariant}
use Rattle.rules.proofs.Booking.{step-booked, room-left}
use Rattle.rules.proofs.Shares.{first-booked}
use Rattle.rules.proofs.NoOverrun.{no-overrun-still}
use Rattle.rules.proofs.Packing.{pack-length, pack-holders, pack-idle, moved-cases}
use Rattle.rules.proofs.Repacking.{NoneDraws}
use Rattle.rules.proofs.OnePacking.{advance-still, join-still, finish-still, leave-once, finish-advanced}
use Rattle.plan.specs.Bounds.{most_packed}
use Rattle.plan.specs.Rows.{Sized, InRange, Capped}
use Rattle.table.specs.Valid.{Ranged, Valid}
use Rattle.table.specs.Outcomes.{number_alone, time_number, past_end, waits, draws, departed, phase_number, leaving}
use Rattle.plan.proofs.Ranges.{sized-waiting, start_small, place-small}
use Rattle.table.proofs.Ranged.{ranged-sane, blank-ranged, advance-ranged, remove-ranged, join-ranged, grant-ranged, declared-ranged, graced-ranged}

-- ── refused and accepted ──
least_number : (r : Refusal) → number_of r ≢ 0
least_number Dark e = absurd (omega arith)
least_number OffRig e = absurd (omega arith)
least_number BadLength e = absurd (omega arith)
least_number Backward e = absurd (omega arith)
least_number Late e = absurd (omega arith)
least_number Full e = absurd (omega arith)
least_number Ticketless e = absurd (omega arith)
least_number Unknown e = absurd (omega arith)
least_number NotYetOn e = absurd (omega arith)
least_number AlreadyOn e = absurd (omega arith)
least_number Edition e = absurd (omega arith)
least_number Short e = absurd (omega arith)
least_number Misfit e = absurd (omega arith)
least_number Overlong e = absurd (omega arith)
least_number NoSpace e = absurd (omega arith)
least_number Spots e = absurd (omega arith)
least_number Stranger e = absurd (omega arith)
least_number Over e = absurd (omega arith)
least_number Overbooked e = absurd (omega arith)
least_number Count e = absurd (omega arith)
least_number Grace e = absurd (omega arith)

refuses : (m : Model) (c : Call) (n : ℕ) → n ≡ first_number (tests m c) → n ≢ 0 → step m c ≡ unchanged m n
unfolding step
refuses m c n e z = ap (λ (k : ℕ). unless m k (act m c)) (sym e) ∙ go n z
  where
    go : (n : ℕ) → n ≢ 0 → unless m n (act m c) ≡ unchanged m n
    go zero q = absurd (q refl)
    go (suc n) q = refl

-- A call that the tests refuse, in a table s that is m: its answer, and the table as it was.
module _ (m s : Model) (e : m ≡ s) (c : Call) (r : Refusal) (h : number_of r ≡ first_number (tests m c)) where
  refused-step : step s c ≡ unchanged s (number_of r)
  refused-step = subst (λ (n : Model). step n c ≡ unchanged n (number_of r)) e (refuses m c (number_of r) h (least_number r))

  pub refused-answer : number_alone (number_of r) ≡ (step s c).answer
  refused-answer = ap (λ (x : Step). x.answer) (sym refused-step)

  pub refused-model : s ≡ (step s c).model
  refused-model = ap (λ (x : Step). x.model) (sym refused-step)

-- One that they let pass.
pub accepts : (m : Model) (c : Call) → 0 ≡ first_number (tests m c) → act m c ≡ step m c
unfolding step
accepts m c e = sym (ap (λ (k : ℕ). unless m k (act m c)) (sym e))

-- ── the tests 5 and 4, and what comes after them ──
first-timed : (m : Model) (t : ℕ) (ts : List Test) → first_number (late t ∷ backward m.clock t ∷ ts) ≡ or_else (time_number m.clock t) (first_number ts)
unfolding first_number time_number
first-timed m t ts = by-test (ltb most_clock t) (λ a. rw a) (λ a. by-test (ltb t m.clock) (λ b. rw (a, b)) (λ b. rw (a, b)))

pub timed-fails : (m : Model) (t : ℕ) (r : Refusal) (ts : List Test) → number_of r ≡ time_number m.clock t → number_of r ≡ first_number (late t ∷ backward m.clock t ∷ ts)
timed-fails m t r ts e = go (number_of r) (least_number r) e ∙ sym (first-timed m t ts)
  where
    go : (n : ℕ) → n ≢ 0 → n ≡ time_number m.clock t → n ≡ or_else (time_number m.clock t) (first_number ts)
    go zero z q = absurd (z refl)
    go (suc n) z q = ap (λ (k : ℕ). or_else k (first_number ts)) q

pub timed-passes : {n : ℕ} (m : Model) (t : ℕ) (ts : List Test) → 0 ≡ time_number m.clock t → n ≡ first_number ts → n ≡ first_number (late t ∷ backward m.clock t ∷ ts)
timed-passes m t ts e h = h ∙ ap (λ (k : ℕ). or_else k (first_number ts)) e ∙ sym (first-timed m t ts)

-- A clock that fails neither.
pub time-ok : (m : Model) (t : ℕ) → 0 ≡ time_number m.clock t → Clocked m t
unfolding time_number
time-ok m t e = (clock-passes m t [] (sym e)).0

-- Of a clock call, and of a release or a withdrawal.
pub clock-fails : (m : Model) (t : ℕ) (r : Refusal) → number_of r ≡ time_number m.clock t → number_of r ≡ first_number (tests m (clock_call t))
unfolding tests
clock-fails m t r e = timed-fails m t r [] e

pub clock-accepts : (m : Model) (t : ℕ) → 0 ≡ time_number m.clock t → finish (advance m t) (plain 0 t) ≡ step m (clock_call t)
unfolding tests act first_number
clock-accepts m t e = accepts m (clock_call t) (timed-passes m t [] e refl)

pub leave-fails : (m : Model) (b : Bool) (t k : ℕ) (r : Refusal) → number_of r ≡ time_number m.clock t → number_of r ≡ first_number (tests m (leaving b t k))
unfolding tests
leave-fails m true t k r e = timed-fails m t r _ e
leave-fails m false t k r e = timed-fails m t r _ e

-- The tests 8, then 9 or 10, of the first claim with the ticket; no later one has it.
phase-first : (b : Bool) (k : ℕ) (ps : List Claim) → Ascending ps
    → first_number (test (not (any (named k) ps)) 8 ∷ test (any (λ c. named k c && cond b (not (on c)) (on c)) ps) (cond b 9 10) ∷ []) ≡ phase_number b (standing_of k ps)
unfolding first_number any standing_of
phase-first b k [] a = refl
phase-first b k (c ∷ ps) a = by-test (named k c) (λ e. rw (e, none e) (here-is b (on c))) (λ e. rw e (phase-first b k ps a.1))
  where
    later : named k c ≡ true → Each (λ d. named k d ≡ false) ps
    later e d m = ne_eqb d.ticket k (λ q. omega (arith, a.0 d m, eqb-true c.ticket k e))

    none : named k c ≡ true → any (λ d. named k d && cond b (not (on d)) (on d)) ps ≡ false
    none e = any_false (λ d. named k d && cond b (not (on d)) (on d)) ps (λ d m. ap (λ (x : Bool). x && cond b (not (on d)) (on d)) (later e d m))

    here-is : (b o : Bool)
        → cond (cond b (not o) o || false) (cond b 9 10) 0 ≡ phase_number b (cond o (Holds (at c + c.length)) (Waits (at c)))
    here-is true true = refl
    here-is true false = refl
    here-is false true = refl
    here-is false false = refl

pub leave-tests : {n : ℕ} (m : Model) (b : Bool) (t k : ℕ) → Ascending m.pending → 0 ≡ time_number m.clock t → n ≡ phase_number b (standing_of k m.pending)
    → n ≡ first_number (tests m (leaving b t k))
unfolding tests
leave-tests m true t k a e h = timed-passes m t _ e (h ∙ sym (phase-first true k m.pending a))
leave-tests m false t k a e h = timed-passes m t _ e (h ∙ sym (phase-first false k m.pending a))

-- ── the clock set, and packed ──
pub packed-is : (m : Model) (t : ℕ) → with_pending (with_clock m t) (pack (ruled m t) m.pending) ≡ advance m t
unfolding advance
packed-is m t = refl

-- Where packing would change nothing, setting the clock is all there is to do.
pub idle-is : (m : Model) (t : ℕ) → pack (ruled m t) m.pending ≡ m.pending → with_clock m t ≡ advance m t
unfolding advance
idle-is m t e = ap (with_pending (with_clock m t)) (sym e)

-- It would not at the table's own clock, nor while nobody overruns, nor where nobody waits.
pub same-clock-idle : (m : Model) (t : ℕ) → Valid m → m.clock ≡ t → pack (ruled m t) m.pending ≡ m.pending
same-clock-idle m t v e =
    let s = v.settled in
    subst (λ (x : ℕ). pack (ruled m x) m.pending ≡ m.pending) e
    (pack-idle (setting_of m) m.pending (λ c i. (s.spaced.proper c i).sane) s.spaced.fit s.spaced.low s.earliest)

pub no-overrun-idle : (m : Model) (t : ℕ) → Valid m → m.clock ≤ t → false ≡ any (past_end t) m.pending → pack (ruled m t) m.pending ≡ m.pending
no-overrun-idle m t v a e = no-overrun-still m.issued (setting_of m) (ruled m t) m.pending v.settled (record { later = a; same = refl }) prompt
  where
    prompt : NoOverrunAt t m.pending
    prompt c i o = let h : (on c && ltb (at c + c.length) t) ≡ false = any_none (past_end t) (sym e) i in ltb-false (at c + c.length) t (rw o at h)

pub none-waits-idle : (v : Setting) (ps : List Claim) → false ≡ any waits ps → pack v ps ≡ ps
none-waits-idle v ps e = pack-holders v ps (λ c i. not-false (on c) (any_none waits (sym e) i))

-- A table at a later clock is in range, and packing it again would change nothing.
pub advanced-still : (m : Model) (t : ℕ) → Ranged m → Still (advance m t)
advanced-still m t r = advance-still m t (ranged-sane m t r) r.ranges.ascending r.ranges.stock

-- As many claims, tickets and units.
pub advanced-counts : (m : Model) (t : ℕ) → (length (advance m t).pending ≡ length m.pending) × ((advance m t).issued ≡ m.issued) × ((advance m t).pool ≡ m.pool)
unfolding advance
advanced-counts m t = (pack-length (ruled m t) m.pending, refl, refl)

-- ── granting ──
pub granted-is : (m : Model) (r : Reply) → Still m → granting m r m.pending ≡ finish m r
granted-is m r s = sym (finish-still m r s)

-- ── a claim taken out ──
none-draws : (ps : List Claim) → any draws ps ≡ false → NoneDraws ps
none-draws ps e w i o = eqb-true w.units 0 (not-false _ (any_none draws e i))

-- Nobody draws units where there are none.
pub no-pool-draws : (m : Model) → Ranged m → m.pool ≡ 0 → any draws m.pending ≡ false
no-pool-draws m r z = any_false draws m.pending (λ w i. rw (eq-eqb w.units 0 (omega (arith, (r.ranges.sized w i).sane.drawn))))

pub departed-none : (m : Model) (t : ℕ) → any draws m.pending ≡ false → departed m t ≡ m
unfolding departed
departed-none m t e = rw e

pub departed-some : (m : Model) (t : ℕ) → any draws m.pending ≡ true → departed m t ≡ advance m t
unfolding departed
departed-some m t e = rw e

pub departed-ranged : (m : Model) (t : ℕ) → Ranged m → m.clock ≤ t → t ≤ most_clock → Ranged (departed m t)
departed-ranged m t r l k =
    by-test (any draws m.pending)
    (λ e. subst Ranged (sym (departed-some m t e)) (advance-ranged m t r l k))
    (λ e. subst Ranged (sym (departed-none m t e)) r)

pub departed-clock : (m : Model) (t k : ℕ) → m.clock ≤ t → (remove (departed m t) k).clock ≤ t
unfolding departed advance remove
departed-clock m t k l = by-test (any draws m.pending) (λ e. rw e (omega arith)) (λ e. rw e l)

leave-act : (m : Model) (b : Bool) (t k : ℕ) → finish (remove (advance m t) k) (plain k t) ≡ act m (leaving b t k)
unfolding act
leave-act m true t k = refl
leave-act m false t k = refl

-- Where no waiting claim draws units it leaves before the packing, else between two.
pub leave-accepts : (m : Model) (b : Bool) (t k : ℕ) → Valid m → Clocked m t → 0 ≡ first_number (tests m (leaving b t k))
    → finish (advance (remove (departed m t) k) t) (plain k t) ≡ step m (leaving b t k)
unfolding remove advance
leave-accepts m b t k v o z =
    let r = v.ranged in
    by-test (any draws m.pending)
    (λ e.
    let q = remove-ranged (advance m t) k (advance-ranged m t r o.later o.early) in
    ap (λ (n : Model). finish (advance (remove n k) t) (plain k t)) (departed-some m t e)
    ∙ finish-advanced (remove (advance m t) k) (plain k t) (λ c i. (q.ranges.sized c i).sane) q.ranges.ascending q.ranges.stock)
    (λ e.
    ap (λ (n : Model). finish (advance (remove n k) t) (plain k t)) (departed-none m t e)
    ∙ sym (leave-once m t k (plain k t) (ranged-sane m t r) r.ranges.ascending r.ranges.stock (none-draws m.pending e)))
    ∙ leave-act m b t k ∙ accepts m (leaving b t k) z

-- ── a claim put in ──
-- In a table where packing changes nothing, starts are as low as packed starts.
still-capped : (m : Model) → Ranged m → Still m → Capped m.pending
unfolding pack
still-capped m g still c i =
    let f = packed_start (setting_of m) m.pending in
    let r = map-e (moved f) m.pending (subst (λ (l : List Claim). c ∈ l) (sym still) i) in
    let s = g.ranges.sized r.0 r.1 in
    omega (
      arith,
      ap at r.2,
      moved-cases (λ (x : Claim). at x ≤ most_packed) f r.0
          (λ o. omega (arith, s.aged o, g.ranges.timely))
          (λ o. start_small g.ranges r.0 r.1 o),
    )

-- A new claim with its ticket as the code counts it.
abbrev pub asked : Model → Request → Claim
asked m ask = record { groups = ask.groups; phase = Waiting m.clock; length = ask.length; ticket = m.issued + 1; units = ask.units; client = ask.client }

asked_is : (m : Model) (ask : Request) → asked m ask ≡ fresh m ask
asked_is m ask = ap (λ (k : ℕ). record { groups = ask.groups; phase = Waiting m.clock; length = ask.length; ticket = k; units = ask.units; client = ask.client }) (add-one m.issued)

placed-is : (m : Model) (ask : Request) → with_phase (asked m ask) (Waiting (place (setting_of m) m.pending (asked m ask))) ≡ placed m ask
placed-is m ask = cc (asked_is m ask)

pub joined-is : (m : Model) (ask : Request) (ps : List Claim) → ps ≡ m.pending ++ (with_phase (asked m ask) (Waiting (place (setting_of m) m.pending (asked m ask))) ∷ [])
    → with_pending (with_issued m (m.issued + 1)) ps ≡ join m (placed m ask)
unfolding join
joined-is m ask ps e = rw (e, placed-is m ask, add-one m.issued)

pub admit-is : (m : Model) (ask : Request) (r : Reply) → r ≡ placing m (asked m ask) → finish (join m (placed m ask)) r ≡ admit m ask
unfolding admit
admit-is m ask r a = ap (finish (join m (placed m ask))) (a ∙ ap (placing m) (asked_is m ask))

module _ (m : Model) (ask : Request) (g : Ranged m) (still : Still m) (few : length m.pending < most_pending) (spare : m.issued < most_tickets) (l : 1 ≤ ask.length) (h : ask.length ≤ most_length) (d : ask.units ≤ m.pool) where
  asked-sized : Sized (setting_of m) (asked m ask)
  asked-sized = record { sane = record { long = l; small = omega arith; drawn = d }; short = h; aged = λ o. clash o refl; planned = λ o. omega (arith, g.ranges.timely) }

  pub asked-row : InRange (setting_of m) m.pending × Sized (setting_of m) (asked m ask) × Capped m.pending × (length m.pending < most_pending)
  asked-row = (g.ranges, asked-sized, still-capped m g still, few)

  pub placed-ranged : Ranged (join m (placed m ask))
  placed-ranged =
      join-ranged m (placed m ask) g few spare
      (subst (Sized (setting_of m)) (placed-is m ask) (sized-waiting asked-sized (place-small (setting_of m) m.pending (asked m ask) g.ranges asked-sized (still-capped m g still))))
      refl refl

  pub placed-still : Still (join m (placed m ask))
  placed-still = join-still m ask l d spare (ranged-sane m m.clock g) g.ranges.ascending g.ranges.stock still

-- ── every call keeps a table valid ──
finish-ranged : (m : Model) (r : Reply) → Ranged m → Ranged (finish m r).model
unfolding finish advance
finish-ranged m r g = grant-ranged (advance m m.clock) r (advance-ranged m m.clock g (omega arith) g.ranges.timely)

leaves-ranged : {m : Model} {c : Call} {t k : ℕ} {q : Model} → Leaves m c t k q → Ranged (advance m t) → Ranged q
leaves-ranged {m} (by-release t k) g = remove-ranged (advance m t) k g
leaves-ranged {m} (by-withdraw t k) g = remove-ranged (advance m t) k g
leaves-ranged (by-clock t) g = g

admit-ranged : (m : Model) (ask : Request) → Ranged m → Still m → length m.pending < most_pending → m.issued < most_tickets → 1 ≤ ask.length → ask.length ≤ most_length → ask.units ≤ m.pool
    → Ranged (admit m ask).model
unfolding admit
admit-ranged m ask g still few spare l h d = finish-ranged (join m (placed m ask)) (placing m (fresh m ask)) (placed-ranged m ask g still few spare l h d)

-- What `admitted` asks for, of a claim that no test refuses.
module _ (m : Model) (t : ℕ) (ask : Request) (v : Valid m) (a : Admissible m t ask) where
  pub claim-ranged : Ranged (advance m t)
  claim-ranged = advance-ranged m t v.ranged a.clocked.later a.clocked.early

  pub claim-few : length (advance m t).pending < most_pending
  claim-few = omega (arith, (advanced-counts m t).0, room-left m t ask a v.booked)

  pub claim-spare : (advance m t).issued < most_tickets
  claim-spare = omega (arith, (advanced-counts m t).1, a.spare)

  pub claim-drawn : ask.units ≤ (advance m t).pool
  claim-drawn = omega (arith, (advanced-counts m t).2, a.drawn)

  claims-ranged : Ranged (admit (advance m t) ask).model
  claims-ranged = admit-ranged (advance m t) ask claim-ranged (advanced-still m t v.ranged) claim-few claim-spare a.long a.short claim-drawn

pub claim-accepts : (m : Model) (t : ℕ) (ask : Request) → 0 ≡ first_number (tests m (claim t ask)) → admit (advance m t) ask ≡ step m (claim t ask)
unfolding act
claim-accepts m t ask z = accepts m (claim t ask) z

pub step-valid : (m : Model) (c : Call) → Valid m → Valid (step m c).model
step-valid m c v = record {
  ranged =
      step-cases (λ d s. Ranged s.model) m (λ d n z. v.ranged) (λ t ask a. claims-ranged m t ask v a)
      (λ d t k q o l. finish-ranged q (plain k t) (leaves-ranged l (advance-ranged m t v.ranged o.later o.early)))
      (λ d r l e. declared-ranged m d r l v.ranged) (λ n e. graced-ranged m n e.lenient v.ranged) c;
  settled = step-invariant m c v.settled;
  booked = step-booked m c v.settled v.booked;
}

-- ── new ──
pub blank-valid : (g k : ℕ) (alone : Bool) → k ≤ most_units → Valid (blank g k alone)
blank-valid g k alone h = record { ranged = blank-ranged g k alone h; settled = blank-invariant g k alone; booked = first-booked alone }

-- A call that does x, in a table s that is m: its answer, and the table that it leaves.
module _ (m s : Model) (e : m ≡ s) (c : Call) (x : Step) (h : x ≡ step m c) where
  pub accepted-answer : {a : Answer} → a ≡ x.answer → a ≡ (step s c).answer
  accepted-answer q = q ∙ ap (λ (y : Step). y.answer) h ∙ ap (λ (n : Model). (step n c).answer) e

  pub accepted-model : {n : Model} → n ≡ x.model → n ≡ (step s c).model
  accepted-model q = q ∙ ap (λ (y : Step). y.model) h ∙ ap (λ (n : Model). (step n c).model) e

  pub accepted-valid : {n : Model} → Valid m → n ≡ x.model → Valid n
  accepted-valid v q = subst Valid (sym (q ∙ ap (λ (y : Step). y.model) h)) (step-valid m c v)

-- ── what is set before the first claim ──
pub declares-is : (m : Model) (c r l : ℕ) → 0 ≡ first_number (tests m (declare c r l)) → unchanged (with_shares m (set m.shares (c - 1) (Some (share r l)))) 0 ≡ step m (declare c r l)
unfolding act with_share
declares-is m c r l z = accepts m (declare c r l) z

pub graces-is : (m : Model) (n : ℕ) → 0 ≡ first_number (tests m (set_grace n)) → unchanged (with_grace m n) 0 ≡ step m (set_grace n)
unfolding act
graces-is m n z = accepts m (set_grace n) z
