-- What ledger and lookups tell of a plan is the table's plan.
use mathlib.Core.Path.{◌≡◌, sym, ◌∙◌, ap}
use mathlib.Core.Logic.{inl, inr, ⊎_elim}
use mathlib.Core.Bool.{Bool, true, false, ◌&&◌, ◌||◌, cond}
use mathlib.Core.List.{List}
use Prim.Native.Nat.{ℕ, ◌+◌, ◌*◌, ◌<◌}
use native.Mathlib.Omega.{arith}
use lib.Dec.{leb, ltb, eqb}
use borrow.Author.Tests.{le-leb, lt-ltb, le-ltb, eq-eqb, ne_eqb}
use Rattle.rules.specs.declared.Claim.{Claim}
use Rattle.rules.specs.declared.Setting.{Setting}
use Rattle.rules.specs.declared.Standing.{Standing}
use Rattle.rules.specs.declared.Standing.TheVariants.{Waits, Holds}
use Rattle.rules.specs.Lists.{◌∈◌, keep}
use Rattle.rules.specs.Claims.{on, at, rival, held_until, end_of}
use Rattle.rules.specs.Order.{before, precedes}
use Rattle.rules.specs.Plans.{Ascending}
use Rattle.rules.specs.Pool.{covers, units_at, used}
use Rattle.rules.specs.Calls.{Model, setting_of, at_ticket, standing, standing_of}
use Rattle.rules.proofs.Bools.{by-test, by_order, clash}
use Rattle.rules.proofs.Claims.{end_on, end-wait}
use Rattle.rules.proofs.Order.{before_on, ascending-same, precedes-conflicts, precedes-e, precedes-on, precedes-lt}
use Rattle.rules.proofs.Lookup.{lookup-found, lookup-waits, lookup-holds, common-found, shared-rival, rival-shared}
use Rattle.promises.specs.Ledger.{Ledger, Entry, ruled_by}
use Rattle.promises.specs.Runs.{tells}
use Rattle.promises.specs.Plan.{end_as, end_told, Precedes, begins_as, covers_told, planned_use, ahead_as, ahead_told}
use Rattle.promises.proofs.Matching.{Match, match-keep, match-sum}
use Rattle.promises.proofs.Demand3.{Tracks, Story, ruled-is}

-- What a lookup told is one thing.
pub waits-once : (a b : ℕ) → Waits a ≡ Waits b → a ≡ b
waits-once a b e = cc

pub waits-not-on : (a b : ℕ) → Waits a ≡ Holds b → ⊥
waits-not-on a b e = let z : ◌≡◌ {A = ℕ} 0 1 = cc in omega arith

pub standing_on : (c : Claim) → on c ≡ true → standing c ≡ Holds (at c + c.length)
standing_on c o = ap (λ (b : Bool). cond b (Holds (at c + c.length)) (Waits (at c))) o

pub standing-wait : (c : Claim) → on c ≡ false → standing c ≡ Waits (at c)
standing-wait c o = ap (λ (b : Bool). cond b (Holds (at c + c.length)) (Waits (at c))) o

-- ── which precedes which ──
module _ (m : Model) (up : Ascending m.pending) where
  pub record Preceding (j k s : ℕ) : Type 0 where
    pub one : Claim
    pub other : Claim
    pub one_in : one ∈ m.pending
    pub other_in : other ∈ m.pending
    pub one_is : one.ticket ≡ j
    pub other_is : other.ticket ≡ k
    pub waits : on other ≡ false
    pub start : at other ≡ s
    pub before : precedes one other ≡ true

  pub precedes-of : {j k : ℕ} (p : Precedes (tells m) j k) → Preceding j k p.start
  precedes-of {j} {k} p =
      let d = lookup-waits k p.start m.pending p.waits in
      ⊎_elim
      (λ h.
      let c = lookup-holds j h.0 m.pending h.1 in
      record { one = c.0; other = d.0; one_in = c.1; other_in = d.1; one_is = c.2; other_is = d.2; waits = d.3; start = d.4; before = precedes-on c.0 d.0 (rivals c.0 d.0 c.1 d.1 c.2 d.2) c.3 })
      (λ w.
      let c = lookup-waits j w.0 m.pending w.1 in
      record { one = c.0; other = d.0; one_in = c.1; other_in = d.1; one_is = c.2; other_is = d.2; waits = d.3; start = d.4; before = precedes-lt c.0 d.0 (rivals c.0 d.0 c.1 d.1 c.2 d.2) (omega (arith, c.4, d.4, w.2)) })
      p.sooner
    where
      rivals : (c d : Claim) → c ∈ m.pending → d ∈ m.pending → c.ticket ≡ j → d.ticket ≡ k → rival c d ≡ true
      rivals c d i i' e e' = shared-rival c d p.group (sym (common-found m.pending up c d i i') ∙ rw (e, e') p.conflict)

  pub precedes-told : (c d : Claim) → c ∈ m.pending → d ∈ m.pending → on d ≡ false → precedes c d ≡ true → Precedes (tells m) c.ticket d.ticket
  precedes-told c d i j o p =
      let g = rival-shared c d (precedes-conflicts c d p) in
      record {
        group = g.0;
        start = at d;
        conflict = common-found m.pending up c d i j ∙ g.1;
        waits = lookup-found m.pending up d j ∙ standing-wait d o;
        sooner = by-test (on c)
            (λ h. inl (at c + c.length, lookup-found m.pending up c i ∙ standing_on c h))
            (λ h. inr (at c, lookup-found m.pending up c i ∙ standing-wait c h, ⊎_elim (λ q. clash q h) (λ q. q) (precedes-e c d p)));
      }

-- ── ends and units ──
pub begins-is : (c : Claim) (x : ℕ) → leb (begins_as (standing c)) x ≡ (on c || leb (at c) x)
begins-is c x =
    by-test (on c)
    (λ o. ap (λ (s : Standing). leb (begins_as s) x) (standing_on c o) ∙ le-leb 0 x (omega arith) ∙ rw o)
    (λ o. ap (λ (s : Standing). leb (begins_as s) x) (standing-wait c o) ∙ rw o)

module _ (P : Type 0) (l : Ledger) (m : Model) (st : Story P l m) where
  pub told_is : (c : Claim) (e : Entry) → c ∈ m.pending → Tracks P c e → tells m (at_ticket e.ticket) ≡ standing c
  told_is c e j r = ap (λ (k : ℕ). standing_of k m.pending) (sym r.ticket) ∙ lookup-found m.pending st.inv.spaced.ascending c j

  pub waits-at : (c : Claim) (e : Entry) → c ∈ m.pending → Tracks P c e → (s : ℕ) → tells m (at_ticket e.ticket) ≡ Waits s → (on c ≡ false) × (at c ≡ s)
  waits-at c e j r s w =
      let d = lookup-waits e.ticket s m.pending w in
      let same : d.0 ≡ c = ascending-same m.pending st.inv.spaced.ascending d.0 c d.1 j (d.2 ∙ sym r.ticket) in
      (sym (ap on same) ∙ d.3, sym (ap at same) ∙ d.4)

  pub end-as : (c : Claim) (e : Entry) → c.length ≡ e.asked.length → end_as l e (standing c) ≡ end_of (setting_of m) c
  end-as c e r =
      by-test (on c)
      (λ o.
      ap (end_as l e) (standing_on c o) ∙ ap (λ (v : Setting). held_until v (at c + c.length)) (sym (ruled-is P l m st m.clock ∙ ap (ruled_by l) st.clock))
      ∙ sym (end_on (setting_of m) c o))
      (λ o. ap (end_as l e) (standing-wait c o) ∙ omega (arith, end-wait (setting_of m) c o, r))

  pub end_is : (c : Claim) (e : Entry) → c ∈ m.pending → Tracks P c e → end_told l (tells m) e ≡ end_of (setting_of m) c
  end_is c e j r = ap (end_as l e) (told_is c e j r) ∙ end-as c e r.length

  units-are : (x : ℕ) (c : Claim) (e : Entry) → c ∈ m.pending → Tracks P c e → units_at (setting_of m) x c ≡ cond (covers_told l (tells m) x e) e.asked.units 0
  unfolding units_at covers
  units-are x c e j r = rw (told_is c e j r, begins-is c x, end-as c e r.length, r.units)

  -- Of claims of the table, side by side with theirs in the ledger.
  pub use-is : (x : ℕ) (ps : List Claim) (es : List Entry) → ((c : Claim) → c ∈ ps → c ∈ m.pending) → Match (Tracks P) ps es → used (setting_of m) x ps ≡ planned_use l (tells m) x es
  unfolding used
  use-is x ps es h ma = match-sum (units_at (setting_of m) x) (λ e. cond (covers_told l (tells m) x e) e.asked.units 0) (λ c e i r. units-are x c e (h c i) r) ma

-- ── the order of packing ──
-- Start, then ticket, as one number and as two.
key-order : (r j s k : ℕ) → j < 65536 → k < 65536 → ltb (r * 65536 + j) (s * 65536 + k) ≡ (ltb r s || (eqb r s && ltb j k))
key-order r j s k a b =
    by_order s r
    (λ l. by_order r s (λ h. same (omega arith)) (λ h. le-ltb (r * 65536 + j) (s * 65536 + k) (omega arith) ∙ rw (le-ltb r s l, ne_eqb r s (λ e. omega arith))))
    (λ l. lt-ltb (r * 65536 + j) (s * 65536 + k) (omega arith) ∙ rw (lt-ltb r s l))
  where
    same : r ≡ s → ltb (r * 65536 + j) (s * 65536 + k) ≡ (ltb r s || (eqb r s && ltb j k))
    same e =
        by_order k j
        (λ h. le-ltb (r * 65536 + j) (s * 65536 + k) (omega arith) ∙ rw (le-ltb r s (omega arith), eq-eqb r s e, le-ltb j k h))
        (λ h. lt-ltb (r * 65536 + j) (s * 65536 + k) (omega arith) ∙ rw (le-ltb r s (omega arith), eq-eqb r s e, lt-ltb j k h))

module _ (P : Type 0) (l : Ledger) (m : Model) (st : Story P l m) (w : Claim) (f : Entry) (wi : w ∈ m.pending) (t : Tracks P w f) where
  ahead-is : (c : Claim) (e : Entry) → c ∈ m.pending → Tracks P c e → before c w ≡ ahead_as (tells m (at_ticket e.ticket)) e.ticket (at w) f.ticket
  unfolding before
  ahead-is c e i r =
      by-test (on c)
      (λ h. before_on c w h ∙ sym (ap (λ (x : Standing). ahead_as x e.ticket (at w) f.ticket) (told_is P l m st c e i r ∙ standing_on c h)))
      (λ h.
      rw (told_is P l m st c e i r ∙ standing-wait c h, h)
      (key-order (at c) c.ticket (at w) w.ticket (st.inv.spaced.proper c i).sane.small (st.inv.spaced.proper w wi).sane.small ∙ rw (r.ticket, t.ticket)))

  -- The claims before w, side by side with theirs in the ledger.
  pub ahead-match : {ps : List Claim} {es : List Entry} → ((c : Claim) → c ∈ ps → c ∈ m.pending) → Match (Tracks P) ps es
      → Match (Tracks P) (keep (λ c. before c w) ps) (ahead_told (tells m) (at w) f.ticket es)
  ahead-match h ma = match-keep (λ c. before c w) (λ e. ahead_as (tells m (at_ticket e.ticket)) e.ticket (at w) f.ticket) (λ c e i r. ahead-is c e (h c i) r) ma
