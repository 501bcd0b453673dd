-- Demand 3 holds of every rig, every pool and every list of calls, whoever is declared. The pending claims and the ledger are kept side by
-- side, call by call.
use mathlib.Core.Path.{◌≡◌, refl, sym, ◌∙◌, ap, subst}
use mathlib.Core.Logic.{◌⊎◌, inl, inr, ◌≢◌}
use mathlib.Core.Bool.{Bool, true, false, not, ◌&&◌, cond}
use mathlib.Core.List.Memᴰ
use mathlib.Core.List.{List, [], ◌∷◌, ◌++◌, map}
use Prim.Native.Nat.{ℕ, suc, ◌+◌, ◌-◌, ◌≤◌, ◌<◌}
use native.Mathlib.Omega.{arith}
use Rattle.std.proofs.Common.{Option}
use lib.Dec.{eqb}
use lib.ListN.{length}
use borrow.Author.Tests.{eq-eqb, ne_eqb}
use Rattle.groups.specs.Groups.{shares}
use Rattle.rules.specs.declared.Claim.{Claim}
use Rattle.rules.specs.declared.Request.{Request}
use Rattle.rules.specs.declared.Phase.TheVariants.{On}
use Rattle.rules.specs.Lists.{◌∈◌, any, keep, Ascends}
use Rattle.rules.specs.declared.Setting.{Setting}
use Rattle.rules.specs.declared.Share.{Share}
use Rattle.rules.specs.Shares.{share, with_share}
use Rattle.rules.specs.Claims.{on, at, with_phase, rival, held_until, end_of, remaining}
use Rattle.rules.specs.Order.{rivals}
use Rattle.rules.specs.Packing.{packed_start, moved, pack}
use Rattle.rules.specs.Placing.{place, contention, start_bound}
use Rattle.rules.specs.Granting.{goes, granted, grant, grants}
use Rattle.rules.specs.declared.Common.TheVariants.{Unknown}
use Rattle.rules.specs.declared.Standing.TheVariants.{Waits, Holds}
use Rattle.rules.specs.Tests.{named}
use Rattle.rules.specs.declared.Reply.{Reply}
use Rattle.rules.specs.Calls.{Model, with_grace, ruled, setting_of, Call, timed, looks, sets_up, claim, release, withdraw, clock, declare, set_grace, is_timed, is_look, Answer, Step, unchanged, advance, plain, finish, join, remove, fresh, placing, admit, declared, step, blank, standing, standing_of, between, common_of}
use Rattle.rules.specs.Plans.{Ascending, NoOverrunAt}
use Rattle.rules.specs.Invariants.{IsSpaced, Invariant, IsBooked}
use Rattle.rules.proofs.Bools.{split, by-test, clash, and_i}
use Rattle.rules.proofs.Lists.{here, none, map-e, keep-e, named_keep}
use Rattle.rules.proofs.Claims.{end_on}
use Rattle.rules.proofs.Order.{ascending-same, ascending-keep}
use Rattle.rules.proofs.Packing.{moved-cases, moved_at, moved-phase, moved-ticket, pack-no-later}
use Rattle.rules.proofs.StartBound.{place-bound}
use Rattle.rules.proofs.Granting.{goes-wait, granted-cases, granted-at}
use Rattle.rules.proofs.Invariants.{spaced-packs}
use Rattle.rules.proofs.Calls.{Clocked, Admissible, advance-packed, advance-drawn, advance-spare, finish-invariant, advance-same, finish-e, finish-clock, placed, fresh-sane, join-spaced, Leaves, by-release, by-withdraw, by-clock, leaves-spaced, leaves-old, leaves-clock, join-old, Idle, looks-untimed, Declarable, Settable, finish-grace, leaves-grace, grace-invariant, step-cases, blank-invariant, new-cases, admit-invariant}
use Rattle.rules.proofs.Shares.{first-booked}
use Rattle.rules.proofs.Booking.{advance-booked, finish-booked, finish-shares, join-booked, leaves-booked, leaves-shares, declare-booked}
use Rattle.rules.proofs.NoOverrun.{no-overrun-no-later}
use Rattle.rules.proofs.Lookup.{lookup_absent, none_named, lookup-found, one-named, lookup-waits}
use Rattle.promises.specs.Ledger.{Turn, turns, table_after, accepted, Entry, promised, Ledger, opening, issues, lacking, stay, shares_by, grace_by, hold, marked, noted, noted_all, NoOverrun, NoOverruns, ruled_by, remaining_of, rivals_of, bound_on}
use Rattle.promises.specs.Runs.{tells, Start, newly, Begins, by-new}
use Rattle.promises.specs.Demand3.{TicketsAscend, Now, NoWaitPast, OfClaim, OfGrants, Next, Demand3}
use Rattle.promises.specs.WholeCalls.{WholeCalls}
use Rattle.promises.proofs.WholeCalls.{and_no, claim-whole, whole_calls}
use Rattle.promises.proofs.Matching.{Match, m_nil, m-cons, match-map, match-left, match-weaken, match-snoc, match_none, match-keep, match-length, match-sum, partner, partner-of}

-- A pending claim and its entry. P: no accepted call so far bore a clock past the promised end of a holder.
pub record Tracks (P : Type 0) (c : Claim) (e : Entry) : Type 0 where
  pub ticket : c.ticket ≡ e.ticket
  pub groups : c.groups ≡ e.asked.groups
  pub length : c.length ≡ e.asked.length
  pub units : c.units ≡ e.asked.units
  pub client : c.client ≡ e.asked.client
  pub held : on c ≡ e.held
  pub grant : on c ≡ true → at c ≡ e.grant
  pub early : P → on c ≡ false → at c ≤ e.first

pub record Story (P : Type 0) (l : Ledger) (m : Model) : Type 0 where
  pub inv : Invariant m
  pub booked : IsBooked m
  pub rig : m.rig ≡ l.rig
  pub clock : m.clock ≡ l.clock
  pub pool : m.pool ≡ l.pool
  pub issued : m.issued ≡ l.issued
  pub grace : m.grace ≡ l.grace
  pub shares : m.shares ≡ l.shares
  pub match : Match (Tracks P) m.pending l.claims

tracks-weaken : (P Q : Type 0) → (Q → P) → (c : Claim) (e : Entry) → Tracks P c e → Tracks Q c e
tracks-weaken P Q f c e r =
    record { ticket = r.ticket; groups = r.groups; length = r.length; units = r.units; client = r.client; held = r.held; grant = r.grant; early = λ q. r.early (f q) }

-- ── after any number of calls ──
entries-ascend : (P : Type 0) {ps : List Claim} {l : List Entry} → Match (Tracks P) ps l → Ascending ps → TicketsAscend l
entries-ascend P m_nil a = tt
entries-ascend P (m-cons r m) a = (λ f i. (let p = partner m i in omega (arith, a.0 p.0 p.1, p.2.ticket, r.ticket)), entries-ascend P m a.1)

no_second : (cs : List Claim) → between cs [] ≡ Unknown
no_second [] = refl
no_second (c ∷ cs) = refl

now_of : (P : Type 0) (l : Ledger) (m : Model) → Story P l m → Now l (tells m)
unfolding common_of
now_of P l m s = record {
  tickets_ascend = entries-ascend P s.match s.inv.spaced.ascending;
  lookup_agrees = λ k. record {
    held = λ e i q h.
        let p = partner s.match i in
        found k e i q ∙ ap (λ (b : Bool). cond b (Holds (at p.0 + p.0.length)) (Waits (at p.0))) (p.2.held ∙ h)
        ∙ ap Holds (omega (arith, p.2.grant (p.2.held ∙ h), p.2.length));
    waiting = λ e i q h.
        let p = partner s.match i in
        (at p.0, found k e i q ∙ ap (λ (b : Bool). cond b (Holds (at p.0 + p.0.length)) (Waits (at p.0))) (p.2.held ∙ h));
    unknown = λ h. lookup_absent k m.pending (λ c i q. (let p = partner-of s.match i in h p.0 p.1 (sym p.2.ticket ∙ q)));
  };
  common_agrees = λ j k. record {
    pending = λ e f i i' q q'.
        let p = partner s.match i in
        let r = partner s.match i' in
        rw (claimed j e i q, claimed k f i' q', p.2.groups, r.2.groups);
    unknown = λ h. either j k h;
  };
  holders_apart = λ e f i j n p q. apart e f i j n p q (split (shares e.asked.groups f.asked.groups));
}
  where
    found : (k : ℕ) (e : Entry) (i : e ∈ l.claims) → e.ticket ≡ k → standing_of k m.pending ≡ standing (partner s.match i).0
    found k e i q =
        let p = partner s.match i in
        ap (λ (x : ℕ). standing_of x m.pending) (sym q ∙ sym p.2.ticket) ∙ lookup-found m.pending s.inv.spaced.ascending p.0 p.1

    claimed : (k : ℕ) (e : Entry) (i : e ∈ l.claims) → e.ticket ≡ k → keep (named k) m.pending ≡ (partner s.match i).0 ∷ []
    claimed k e i q =
        let p = partner s.match i in
        ap (λ (x : ℕ). keep (named x) m.pending) (sym q ∙ sym p.2.ticket) ∙ one-named m.pending s.inv.spaced.ascending p.0 p.1

    none : (k : ℕ) → ((e : Entry) → e ∈ l.claims → e.ticket ≢ k) → keep (named k) m.pending ≡ []
    none k h = none_named k m.pending (λ c i q. (let p = partner-of s.match i in h p.0 p.1 (sym p.2.ticket ∙ q)))

    either : (j k : ℕ) → ((e : Entry) → e ∈ l.claims → e.ticket ≢ j) ⊎ ((e : Entry) → e ∈ l.claims → e.ticket ≢ k) → common_of j k m.pending ≡ Unknown
    either j k (inl h) = rw (none j h)
    either j k (inr h) = rw (none k h) (no_second (keep (named j) m.pending))

    apart : (e f : Entry) → e ∈ l.claims → f ∈ l.claims → e.ticket ≢ f.ticket → e.held ≡ true → f.held ≡ true
        → (shares e.asked.groups f.asked.groups ≡ true) ⊎ (shares e.asked.groups f.asked.groups ≡ false) → shares e.asked.groups f.asked.groups ≡ false
    apart e f i j n p q (inr h) = h
    apart e f i j n p q (inl h) =
        let a = partner s.match i in
        let b = partner s.match j in
        absurd
        (s.inv.spaced.holders.apart a.0 b.0 a.1 b.1 (λ z. n (sym a.2.ticket ∙ z ∙ b.2.ticket)) (cc (a.2.groups, b.2.groups))
        (a.2.held ∙ p) (b.2.held ∙ q))

no-wait-of : (P : Type 0) (l : Ledger) (m : Model) → Story P l m → P → NoWaitPast l (tells m)
no-wait-of P l m s p e i o =
    let r = partner s.match i in
    let z : on r.0 ≡ false = r.2.held ∙ o in
    omega (arith, s.inv.spaced.low r.0 r.1 z, r.2.early p z, s.clock)

-- ── the parts of a call, side by side with the ledger ──
pack-tracks : (P : Type 0) (v : Setting) (ps : List Claim) (c : Claim) (e : Entry) → Tracks P c e → (P → on c ≡ false → packed_start v ps c ≤ at c) → Tracks P (moved (packed_start v ps) c) e
pack-tracks P v ps c e r h =
    moved-cases (λ (x : Claim). Tracks P x e) (packed_start v ps) c (λ o. r)
    (λ o. record {
      ticket = r.ticket;
      groups = r.groups;
      length = r.length;
      units = r.units;
      client = r.client;
      held = sym o ∙ r.held;
      grant = λ q. clash q refl;
      early = λ p q. omega (arith, h p o, r.early p o);
    })

marked-cases : (Q : Entry → Type 0) (t : ℕ) (ks : List ℕ) (e : Entry) (b : Bool) → any (λ k. eqb k e.ticket) ks ≡ b → Q (cond b (hold e t) e) → Q (marked t ks e)
unfolding marked
marked-cases Q t ks e true h q = rw (h, marked) q
marked-cases Q t ks e false h q = rw (h, marked) q

grant-tracks : (P : Type 0) (v : Setting) (ps : List Claim) (ks : List ℕ) (c : Claim) (e : Entry) → Tracks P c e → any (λ k. eqb k c.ticket) ks ≡ goes v ps c
    → Tracks P (granted v ps c) (marked v.clock ks e)
grant-tracks P v ps ks c e r h =
    granted-cases (λ (x : Claim). Tracks P x (marked v.clock ks e)) v ps c
    (λ g. marked-cases (Tracks P (with_phase c (On v.clock))) v.clock ks e true (same ∙ g) (record {
      ticket = r.ticket;
      groups = r.groups;
      length = r.length;
      units = r.units;
      client = r.client;
      held = refl;
      grant = λ q. refl;
      early = λ p q. clash refl q;
    }))
    (λ g. marked-cases (Tracks P c) v.clock ks e false (same ∙ g) r)
  where
    same : any (λ k. eqb k e.ticket) ks ≡ goes v ps c
    same = ap (λ (x : ℕ). any (λ k. eqb k x) ks) (sym r.ticket) ∙ h

-- Setting the clock and packing: where no holder overruns, no start rises.
advance-match : (P T : Type 0) (l : List Entry) (m : Model) (t : ℕ) → Invariant m → m.clock ≤ t → (T → NoOverrunAt t m.pending) → Match (Tracks P) m.pending l
    → Match (Tracks (P × T)) (advance m t).pending l
unfolding advance pack
advance-match P T l m t i h pr ma =
    match-left (moved (packed_start (ruled m t) m.pending))
    (λ c e ci r. pack-tracks (P × T) (ruled m t) m.pending c e (tracks-weaken P (P × T) (λ x. x.0) c e r)
    (λ p o. no-overrun-no-later m.issued (setting_of m) (ruled m t) m.pending i (record { later = h; same = refl }) (pr p.1) c ci o))
    ma

-- Packing again and granting: no start rises.
finish-match : (P : Type 0) (l : List Entry) (m : Model) (r : Reply) → IsSpaced m → Match (Tracks P) m.pending l
    → Match (Tracks P) (finish m r).model.pending (map (marked m.clock (finish m r).answer.grants) l)
unfolding finish pack grant grants
finish-match P l m r i ma =
    match-map (granted v ps) (marked m.clock (grants v ps))
    (λ c e j r. grant-tracks P v ps (grants v ps) c e r (named_keep (λ (x : Claim). x.ticket) (goes v ps) ps (ascending-same ps (spaced-packs m.issued v m.pending i).spaced.ascending) c j))
    (match-left (moved (packed_start v m.pending)) (λ c e j r. pack-tracks P v m.pending c e r (λ _ o. pack-no-later v m.pending (λ x k. (i.proper x k).sane) i.fit i.low c j o)) ma)
  where
    v : Setting
    v = setting_of m

    ps : List Claim
    ps = pack (setting_of m) m.pending

-- What release, withdraw and clock leave of the ledger.
pub match-lacking : (P : Type 0) (k : ℕ) {ps : List Claim} {l : List Entry} → Match (Tracks P) ps l → Match (Tracks P) (keep (λ c. not (named k c)) ps) (lacking k l)
match-lacking P k ma = match-keep (λ c. not (named k c)) (λ e. not (eqb e.ticket k)) (λ c e _ r. ap (λ (x : ℕ). not (eqb x k)) r.ticket) ma

leaves-match : (P : Type 0) (l : List Entry) (a : Answer) {m : Model} {c : Call} {t k : ℕ} {q : Model} → Leaves m c t k q
    → Match (Tracks P) (advance m t).pending l → Match (Tracks P) q.pending (stay c l ++ issues c a)
unfolding remove stay issues
leaves-match P l a (by-release t k) ma = match_none (match-lacking P k ma)
leaves-match P l a (by-withdraw t k) ma = match_none (match-lacking P k ma)
leaves-match P l a (by-clock t) ma = match_none ma

leaves-issued : (a : Answer) {m : Model} {c : Call} {t k : ℕ} {q : Model} → Leaves m c t k q → q.issued ≡ m.issued + length (issues c a)
unfolding remove advance issues
leaves-issued a (by-release t k) = omega arith
leaves-issued a (by-withdraw t k) = omega arith
leaves-issued a (by-clock t) = omega arith

finish-issued : (m : Model) (r : Reply) → (finish m r).model.issued ≡ m.issued
unfolding finish
finish-issued m r = refl

finish-pool : (m : Model) (r : Reply) → (finish m r).model.pool ≡ m.pool
unfolding finish
finish-pool m r = refl

finish-rig : (m : Model) (r : Reply) → (finish m r).model.rig ≡ m.rig
unfolding finish
finish-rig m r = refl

leaves-rig : {m : Model} {c : Call} {t k : ℕ} {q : Model} → Leaves m c t k q → q.rig ≡ m.rig
unfolding remove advance
leaves-rig (by-release t k) = refl
leaves-rig (by-withdraw t k) = refl
leaves-rig (by-clock t) = refl

leaves-pool : {m : Model} {c : Call} {t k : ℕ} {q : Model} → Leaves m c t k q → q.pool ≡ m.pool
unfolding remove advance
leaves-pool (by-release t k) = refl
leaves-pool (by-withdraw t k) = refl
leaves-pool (by-clock t) = refl

-- The holders are prompt where the call's clock is past no promised end.
pub no-overrun-of : (P : Type 0) (t : ℕ) (ps : List Claim) (l : List Entry) → Match (Tracks P) ps l → ((e : Entry) → e ∈ l → e.held ≡ true → t ≤ promised e) → NoOverrunAt t ps
no-overrun-of P t ps l ma h c i o =
    let r = partner-of ma i in
    omega (arith, h r.0 r.1 (sym r.2.held ∙ o), r.2.grant o, r.2.length)

-- ── no start is raised ──
abbrev NotRaised : List Claim → List Claim → Type 0
NotRaised ps qs = (c d : Claim) → c ∈ ps → d ∈ qs → d.ticket ≡ c.ticket → on c ≡ false → at d ≤ at c

-- Where a claim comes from, through packing and granting.
finish-from : (m : Model) (r : Reply) → IsSpaced m → (d : Claim) → d ∈ (finish m r).model.pending
    → (x : Claim) × x ∈ m.pending × (d.ticket ≡ x.ticket) × (on x ≡ false → at d ≤ at x)
finish-from m r i d di =
    let v : Setting = setting_of m in
    let f = packed_start v m.pending in
    let r = finish-e m r di in (
      r.0,
      r.1,
      r.2,
      λ o.
          omega (
            arith,
            ap at r.3.1,
            granted-at v (pack v m.pending) (moved f r.0),
            moved_at f r.0 o,
            pack-no-later v m.pending (λ x k. (i.proper x k).sane) i.fit i.low r.0 r.1 o,
          ),
    )

-- And through the first packing.
advance-from : (m : Model) (t : ℕ) → Invariant m → m.clock ≤ t → NoOverrunAt t m.pending → (c d : Claim) → c ∈ m.pending → d ∈ (advance m t).pending → d.ticket ≡ c.ticket
    → on c ≡ false → (on d ≡ false) × (at d ≤ at c)
advance-from m t i h pr c d ci di e o =
    let f = packed_start (ruled m t) m.pending in
    let q = advance-same m t i c d ci di e in (
      ap on q ∙ moved-phase f c ∙ o,
      omega (arith, ap at q, moved_at f c o, no-overrun-no-later m.issued (setting_of m) (ruled m t) m.pending i (record { later = h; same = refl }) pr c ci o),
    )

-- A call from m to `finish q`, where each claim of q that is not new is one of those that the first packing gave.
finish-not-raised : (m q : Model) (t : ℕ) (rep : Reply) → Invariant m → m.clock ≤ t → NoOverrunAt t m.pending → IsSpaced q
    → ((x : Claim) → x ∈ q.pending → (x ∈ (advance m t).pending) ⊎ (m.issued < x.ticket)) → NotRaised m.pending (finish q rep).model.pending
finish-not-raised m q t rep i h pr sp old c d ci di e o =
    let f = finish-from q rep sp d di in
    go f (old f.0 f.1)
  where
    go : (f : (x : Claim) × x ∈ q.pending × (d.ticket ≡ x.ticket) × (on x ≡ false → at d ≤ at x)) → (f.0 ∈ (advance m t).pending) ⊎ (m.issued < f.0.ticket) → at d ≤ at c
    go f (inl j) =
        let r = advance-from m t i h pr c f.0 ci j (sym f.2 ∙ e) o in
        omega (arith, f.3 r.0, r.1)
    go f (inr j) = absurd (omega (arith, f.2, (i.spaced.proper c ci).issued))

-- What that says of lookup and of the ledger.
abbrev Unraised : List Claim → List Claim → List Entry → Type 0
Unraised ps qs l = (k s : ℕ) → standing_of k ps ≡ Waits s → ((r : ℕ) → standing_of k qs ≡ Waits r → r ≤ s) × ((e : Entry) → e ∈ l → e.ticket ≡ k → e.held ≡ true → e.grant ≤ s)

unraised : (P : Type 0) (ps qs : List Claim) (l : List Entry) → Match (Tracks P) qs l → NotRaised ps qs → Unraised ps qs l
unraised P ps qs l ma nr k s w =
    let c = lookup-waits k s ps w in (
      λ r z.
          let d = lookup-waits k r qs z in
          omega (arith, nr c.0 d.0 c.1 d.1 (d.2 ∙ sym c.2) c.3, c.4, d.4),
      λ e i q h.
          let d = partner ma i in
          omega (arith, nr c.0 d.0 c.1 d.1 (d.2.ticket ∙ q ∙ sym c.2) c.3, c.4, d.2.grant (d.2.held ∙ h)),
    )

-- ── the bound ──
remaining-is : (P : Type 0) (v : Setting) (c : Claim) (e : Entry) → Tracks P c e → remaining v c ≡ remaining_of v e
unfolding remaining
remaining-is P v c e r = go (on c) e.held refl r.held
  where
    go : (a b : Bool) → on c ≡ a → a ≡ b → cond a (end_of v c - v.clock) c.length ≡ cond b (held_until v (promised e) - v.clock) e.asked.length
    go true true o q = ap (λ (x : ℕ). x - v.clock) (end_on v c o ∙ ap (held_until v) (omega (arith, r.grant o, r.length)))
    go false false o q = r.length
    go true false o q = clash refl q
    go false true o q = clash q refl

bound-is : (P : Type 0) (v : Setting) (ps : List Claim) (l : List Entry) (w : Claim) (ask : Request) → w.groups ≡ ask.groups → w.length ≡ ask.length → Match (Tracks P) ps l
    → start_bound v ps w ≡ bound_on v l ask
unfolding start_bound contention bound_on
bound-is P v ps l w ask g n m =
    let rs : Match (Tracks P) (rivals ps w) (rivals_of l ask) = match-keep (λ c. rival c w) (λ e. shares e.asked.groups ask.groups) (λ c e _ r. rw (r.groups, g)) m in
    cc (match-sum (remaining v) (remaining_of v) (λ c e _. remaining-is P v c e) rs, match-length rs, n)

contention-is : (P : Type 0) (ps : List Claim) (l : List Entry) (w : Claim) (ask : Request) → w.groups ≡ ask.groups → Match (Tracks P) ps l → contention ps w ≡ length (rivals_of l ask)
unfolding contention
contention-is P ps l w ask g m = match-length (match-keep (λ c. rival c w) (λ e. shares e.asked.groups ask.groups) (λ c e _ r. rw (r.groups, g)) m)

-- ── grants ──
tickets_ascend : (l : List Claim) → Ascending l → Ascends (λ (k : ℕ). k) (map (λ c. c.ticket) l)
tickets_ascend [] u = tt
tickets_ascend (c ∷ l) u = (λ k i. let r = map-e (λ (x : Claim). x.ticket) l i in omega (arith, u.0 r.0 r.1, r.2), tickets_ascend l u.1)

grants-up : (q : Model) (rep : Reply) → IsSpaced q → Ascends (λ (k : ℕ). k) (finish q rep).answer.grants
unfolding finish grants
grants-up q rep sp =
    let v : Setting = setting_of q in
    let ps : List Claim = pack v q.pending in
    tickets_ascend (keep (goes v ps) ps) (ascending-keep (goes v ps) ps (spaced-packs q.issued v q.pending sp).spaced.ascending)

grants-from : (P : Type 0) (q : Model) (rep : Reply) (es : List Entry) → Match (Tracks P) q.pending es → (k : ℕ) → k ∈ (finish q rep).answer.grants
    → (e : Entry) × e ∈ es × (e.ticket ≡ k) × (e.held ≡ false)
unfolding finish grants pack
grants-from P q rep es ma k i =
    let v : Setting = setting_of q in
    let f = packed_start v q.pending in
    let ps : List Claim = pack v q.pending in
    let r = map-e (λ (x : Claim). x.ticket) (keep (goes v ps) ps) i in
    let g = keep-e (goes v ps) ps r.1 in
    let x = map-e (moved f) q.pending g.0 in
    let p = partner-of ma x.1 in
    let o : on (moved f x.0) ≡ false = ap on (sym x.2) ∙ goes-wait v ps r.0 g.1 in
    let z : (moved f x.0).ticket ≡ x.0.ticket = moved-ticket f x.0 in
    (p.0, p.1, omega (arith, p.2.ticket, z, ap (λ (c : Claim). c.ticket) x.2, r.2), sym p.2.held ∙ sym (moved-phase f x.0) ∙ o)

none-granted : (l : Ledger) (c : Call) (m : Model) (n : ℕ) → OfGrants l (record { call = c; answer = (unchanged m n).answer })
none-granted l c m n = record { grants_ascend = tt; grants_waited = λ k i. none i; others_none = λ z. refl }

-- ── what lookup tells of a new claim ──
first_told : (m : Model) → Invariant m → (t : ℕ) (ask : Request) → Admissible m t ask
    → (let s : Step = admit (advance m t) ask in
    (standing_of s.answer.ticket s.model.pending ≡ Waits s.answer.start) ⊎ (standing_of s.answer.ticket s.model.pending ≡ Holds (s.answer.start + ask.length)))
first_told m i t ask a =
    let s : Step = admit (advance m t) ask in
    let c = claim-whole m i t ask a in
    let up = (admit-invariant (advance m t) ask a.long (advance-drawn m t ask a) (advance-spare m t ask a) (advance-packed m t i a.clocked.later)).spaced.ascending in
    let j : c.new ∈ s.model.pending = subst (λ (l : List Claim). c.new ∈ l) (sym c.others_same) (Memᴰ.append_right (step m (clock t)).model.pending here) in
    let e : standing_of s.answer.ticket s.model.pending ≡ standing c.new = ap (λ (k : ℕ). standing_of k s.model.pending) (sym c.ticket) ∙ lookup-found s.model.pending up c.new j in
    by-test (on c.new)
    (λ o. inr (e ∙ ap (λ (b : Bool). cond b (Holds (at c.new + c.new.length)) (Waits (at c.new))) o ∙ ap Holds (omega (arith, c.start, c.length))))
    (λ o. inl (e ∙ ap (λ (b : Bool). cond b (Holds (at c.new + c.new.length)) (Waits (at c.new))) o ∙ ap Waits c.start))

pub same-claim : (Q : ℕ → Request → Type 0) (t u : ℕ) (ask x : Request) → claim t ask ≡ claim u x → Q t ask → Q u x
same-claim Q t u ask x e h =
    let f : t ≡ u = cc in
    let g : ask ≡ x = cc in
    subst (λ (n : ℕ). Q n x) f (subst (Q t) g h)

-- ── one call ──
abbrev StoryGoesOn : Type 0 → Ledger → Model → Call → Step → Type 0
StoryGoesOn P l m c s =
    let t : Turn = record { call = c; answer = s.answer } in
    Next l t (tells m) (tells s.model) × Story (P × NoOverrun l t) (noted l t) s.model

pub idle-refused : (c : Call) (n : ℕ) → Idle c n → is_timed c && eqb n 0 ≡ false
idle-refused c n (inl e) = rw (looks-untimed c e)
idle-refused c n (inr e) = rw (ne_eqb n 0 e) (and_no (is_timed c))

module _ (P : Type 0) (l : Ledger) (m : Model) (s : Story P l m) where
  still : NotRaised m.pending m.pending
  still c d ci di e o = omega (arith, ap at (ascending-same m.pending s.inv.spaced.ascending d c di ci e))

  -- Nobody is declared by it, and no grace is set.
  looks-kept : (c : Call) → is_look c ≡ true → (shares_by c l.shares ≡ l.shares) × (grace_by c l.grace ≡ l.grace)
  unfolding shares_by grace_by
  looks-kept (timed t x) e = (refl, refl)
  looks-kept (looks q) e = (refl, refl)
  looks-kept (sets_up p) e = clash e refl

  -- What a call would set to x stays y where the call is refused, or is a lookup, which sets nothing.
  idle-kept : {A : Type 0} (c : Call) (n : ℕ) (x y : A) → Idle c n → (is_look c ≡ true → x ≡ y) → cond (eqb n 0) x y ≡ y
  idle-kept c n x y (inl e) h = by-test (eqb n 0) (λ q. rw q (h e)) (λ q. rw q)
  idle-kept c n x y (inr e) h = rw (ne_eqb n 0 e)

  told-idle : (c : Call) (n : ℕ) → Idle c n → StoryGoesOn P l m c (unchanged m n)
  told-idle c n i =
      let z = idle-refused c n i in (
        record {
          of_claim = λ t ask q e. clash (and_i (is_timed c) (eqb n 0) (ap is_timed q) (eq-eqb n 0 e)) z;
          of_grants = none-granted l c m n;
          never_raised = λ h k x w. rw z (unraised P m.pending m.pending l.claims s.match still k x w);
        },
        record {
          inv = s.inv;
          booked = s.booked;
          rig = rw z s.rig;
          clock = rw z s.clock;
          pool = rw z s.pool;
          issued = rw z s.issued;
          grace = rw z (s.grace ∙ sym (idle-kept c n (grace_by c l.grace) l.grace i (λ e. (looks-kept c e).1)));
          shares = rw z (s.shares ∙ sym (idle-kept c n (shares_by c l.shares) l.shares i (λ e. (looks-kept c e).0)));
          match = rw z (match-weaken (λ d e r. tracks-weaken P _ (λ q. q.0) d e r) s.match);
        },
      )

  -- The rules are those that the ledger tells.
  pub ruled-is : (t : ℕ) → ruled m t ≡ ruled_by l t
  ruled-is t = cc (s.pool, s.grace)

  prompt : (t : ℕ) → ((e : Entry) → e ∈ l.claims → e.held ≡ true → t ≤ promised e) → NoOverrunAt t m.pending
  prompt t h = no-overrun-of P t m.pending l.claims s.match h

  -- What the accepted timed calls have in common: q is what they leave before they pack again and grant, es the same of the ledger.
  told-finish : (t j : ℕ) (rep : Reply) (q : Model) (es : List Entry) (T : Type 0) → m.clock ≤ t → (T → (e : Entry) → e ∈ l.claims → e.held ≡ true → t ≤ promised e)
      → IsSpaced q → IsBooked q → q.rig ≡ l.rig → q.clock ≡ t → q.pool ≡ l.pool → q.issued ≡ j → q.grace ≡ l.grace → q.shares ≡ l.shares
      → ((y : Claim) → y ∈ q.pending → (y ∈ (advance m t).pending) ⊎ (m.issued < y.ticket)) → Match (Tracks (P × T)) q.pending es
      → (T → Unraised m.pending (finish q rep).model.pending (map (marked t (finish q rep).answer.grants) es))
      × Story (P × T) (record { rig = l.rig; clock = t; pool = l.pool; issued = j; grace = l.grace; shares = l.shares; claims = map (marked t (finish q rep).answer.grants) es }) (finish q rep).model
  told-finish t j rep q es T h tm sp bk ri cl po is gr sh old ma = (
    λ z. unraised (P × T) m.pending (finish q rep).model.pending (map (marked t (finish q rep).answer.grants) es) done (finish-not-raised m q t rep s.inv h (prompt t (tm z)) sp old),
    record { inv = finish-invariant q rep sp; booked = finish-booked q rep bk; rig = finish-rig q rep ∙ ri; clock = finish-clock q rep ∙ cl; pool = finish-pool q rep ∙ po; issued = finish-issued q rep ∙ is; grace = finish-grace q rep ∙ gr; shares = finish-shares q rep ∙ sh; match = done },
  )
    where
      done : Match (Tracks (P × T)) (finish q rep).model.pending (map (marked t (finish q rep).answer.grants) es)
      done = subst (λ (u : ℕ). Match (Tracks (P × T)) (finish q rep).model.pending (map (marked u (finish q rep).answer.grants) es)) cl (finish-match (P × T) es q rep sp ma)

  told-claim : (t : ℕ) (ask : Request) → Admissible m t ask → StoryGoesOn P l m (claim t ask) (admit (advance m t) ask)
  unfolding admit finish join advance stay issues shares_by grace_by
  told-claim t ask a =
      let old = join-old (advance m t) (placed (advance m t) ask) refl in
      let next : suc m.issued ≡ l.issued + 1 = omega (arith, s.issued) in
      let r =
      told-finish t (l.issued + 1) (placing (advance m t) w) q _ T
      a.clocked.later (λ z. z refl) spaced (join-booked m t ask a s.booked) s.rig refl s.pool next s.grace s.shares old (match-snoc _ _ first new) in (
        record {
          of_claim = λ t' ask' e _. same-claim (λ u x. OfClaim l u x (admit (advance m t) ask).answer (tells (admit (advance m t) ask).model)) t t' ask ask' e claimed;
          of_grants = record {
            grants_ascend = grants-up q (placing (advance m t) w) spaced;
            grants_waited = grants-from (P × T) q (placing (advance m t) w) _ (match-snoc _ _ first new);
            others_none = λ z. clash refl z;
          };
          never_raised = r.0;
        },
        r.1,
      )
    where
      v : Setting
      v = ruled m t

      ps : List Claim
      ps = (advance m t).pending

      w : Claim
      w = fresh (advance m t) ask

      x : ℕ
      x = place (ruled m t) (advance m t).pending (fresh (advance m t) ask)

      q : Model
      q = join (advance m t) (placed (advance m t) ask)

      T : Type 0
      T = NoOverrun l (record { call = claim t ask; answer = (admit (advance m t) ask).answer })

      first : Match (Tracks (P × T)) (advance m t).pending l.claims
      first = advance-match P T l.claims m t s.inv a.clocked.later (λ z. prompt t (z refl)) s.match

      spaced : IsSpaced (join (advance m t) (placed (advance m t) ask))
      spaced = join-spaced (advance m t) ask a.long a.drawn a.spare (advance-packed m t s.inv a.clocked.later).spaced

      bound : start_bound (ruled m t) (advance m t).pending (fresh (advance m t) ask) ≡ bound_on (ruled_by l t) l.claims ask
      bound = bound-is (P × T) v ps l.claims w ask refl refl first ∙ ap (λ (v : Setting). bound_on v l.claims ask) (ruled-is t)

      claimed : OfClaim l t ask (admit (advance m t) ask).answer (tells (admit (advance m t) ask).model)
      claimed = record {
        ticket_next = omega (arith, s.issued);
        first_told = first_told m s.inv t ask a;
        start_bounded = λ z. omega (arith, place-bound v ps w (fresh-sane (advance m t) ask a.long (advance-drawn m t ask a) (advance-spare m t ask a)) z, bound);
        contention_counted = contention-is (P × T) ps l.claims w ask refl first;
        bound_counted = bound;
      }

      new : Tracks (P × T) (placed (advance m t) ask) (record { ticket = suc m.issued; asked = ask; first = place (ruled m t) (advance m t).pending (fresh (advance m t) ask); held = false; grant = 0 })
      new = record { ticket = refl; groups = refl; length = refl; units = refl; client = refl; held = refl; grant = λ e. clash e refl; early = λ p o. omega arith }

  -- Release, withdraw and clock.
  left : {c : Call} {t k : ℕ} {q : Model} (a : Answer) (T : Type 0) → Leaves m c t k q → Clocked m t → (T → (e : Entry) → e ∈ l.claims → e.held ≡ true → t ≤ promised e)
      → (let es = map (marked t (finish q (plain k t)).answer.grants) (stay c l.claims ++ issues c a) in
      (T → Unraised m.pending (finish q (plain k t)).model.pending es)
      × Story (P × T) (record { rig = l.rig; clock = t; pool = l.pool; issued = l.issued + length (issues c a); grace = l.grace; shares = l.shares; claims = es }) (finish q (plain k t)).model)
  left {c} {t} {k} {q} a T v o tm =
      told-finish t (l.issued + length (issues c a)) (plain k t) q (stay c l.claims ++ issues c a) T o.later tm
      (leaves-spaced v (advance-packed m t s.inv o.later)) (leaves-booked v (advance-booked m t s.booked)) (leaves-rig v ∙ s.rig) (leaves-clock v).0 (leaves-pool v ∙ s.pool) (omega (arith, leaves-issued a v, s.issued))
      (leaves-grace v ∙ s.grace) (leaves-shares v ∙ s.shares) (λ y i. inl (leaves-old v y i))
      (leaves-match (P × T) l.claims a v (advance-match P T l.claims m t s.inv o.later (λ z. prompt t (tm z)) s.match))

  left-grants : {c : Call} {t k : ℕ} {q : Model} (a : Answer) → Leaves m c t k q → Clocked m t → a.grants ≡ (finish q (plain k t)).answer.grants → accepted (record { call = c; answer = a }) ≡ true → OfGrants l (record { call = c; answer = a })
  left-grants {c} {t} {k} {q} a v o e z = record {
    grants_ascend = rw e (grants-up q (plain k t) (leaves-spaced v (advance-packed m t s.inv o.later)));
    grants_waited = λ j i. grants-from (P × ⊥) q (plain k t) (stay c l.claims ++ issues c a)
        (leaves-match (P × ⊥) l.claims a v (advance-match P ⊥ l.claims m t s.inv o.later (λ x. absurd x) s.match)) j (subst (λ (g : List ℕ). j ∈ g) e i);
    others_none = λ n. clash z n;
  }

  no-claim : {A : Type 0} {c : Call} {t k : ℕ} {q : Model} {u : ℕ} {ask : Request} → Leaves m c t k q → c ≡ claim u ask → A
  no-claim (by-release t k) e = let z : ◌≡◌ {A = ℕ} 0 1 = cc in absurd (omega arith)
  no-claim (by-withdraw t k) e = let z : ◌≡◌ {A = ℕ} 0 1 = cc in absurd (omega arith)
  no-claim (by-clock t) e = let z : ◌≡◌ {A = ℕ} 0 1 = cc in absurd (omega arith)

  next : {c : Call} {t k : ℕ} {q : Model} (a : Answer) → Leaves m c t k q
      → (let turn : Turn = record { call = c; answer = a } in
      let n : Model = (finish q (plain k t)).model in
      OfGrants l turn → (NoOverrun l turn → Unraised m.pending n.pending (noted l turn).claims) → Next l turn (tells m) (tells n))
  next a v g h = record { of_claim = λ u ask e _. no-claim v e; of_grants = g; never_raised = h }

  told-left : (c : Call) (t k : ℕ) (q : Model) → Clocked m t → Leaves m c t k q → StoryGoesOn P l m c (finish q (plain k t))
  unfolding finish shares_by grace_by
  told-left c₀ t₀ k₀ q₀ o (by-release t k) =
      let a : Answer = (finish (remove (advance m t) k) (plain k t)).answer in
      let r = left a (NoOverrun l (record { call = release t k; answer = a })) (by-release t k) o (λ z. z refl) in
      (next a (by-release t k) (left-grants a (by-release t k) o refl refl) r.0, r.1)
  told-left c₀ t₀ k₀ q₀ o (by-withdraw t k) =
      let a : Answer = (finish (remove (advance m t) k) (plain k t)).answer in
      let r = left a (NoOverrun l (record { call = withdraw t k; answer = a })) (by-withdraw t k) o (λ z. z refl) in
      (next a (by-withdraw t k) (left-grants a (by-withdraw t k) o refl refl) r.0, r.1)
  told-left c₀ t₀ k₀ q₀ o (by-clock t) =
      let a : Answer = (finish (advance m t) (plain 0 t)).answer in
      let r = left a (NoOverrun l (record { call = clock t; answer = a })) (by-clock t) o (λ z. z refl) in
      (next a (by-clock t) (left-grants a (by-clock t) o refl refl) r.0, r.1)

  -- A declaration and a grace change no claim.
  prepared : (c : Call) (q : Model) → is_timed c ≡ false → q.pending ≡ m.pending → Next l (record { call = c; answer = (unchanged q 0).answer }) (tells m) (tells q)
  prepared c q h e =
      let z : is_timed c && eqb 0 0 ≡ false = rw h in
      record {
        of_claim = λ u ask k _. clash (ap is_timed k) h;
        of_grants = none-granted l c q 0;
        never_raised = λ n k x w. rw (z, e) (unraised P m.pending m.pending l.claims s.match still k x w);
      }

  told-declare : (c r k : ℕ) → Declarable m c r k → StoryGoesOn P l m (declare c r k) (unchanged (declared m c r k) 0)
  unfolding shares_by grace_by
  told-declare c r k d = (
    prepared (declare c r k) (declared m c r k) refl refl,
    record {
      inv = s.inv;
      booked = declare-booked m s.inv c r k d s.booked;
      rig = s.rig;
      clock = s.clock;
      pool = s.pool;
      issued = s.issued;
      grace = s.grace;
      shares = ap (λ (ss : List (Option Share)). with_share ss c (share r k)) s.shares;
      match = match-weaken (λ d e r. tracks-weaken P _ (λ q. q.0) d e r) s.match;
    },
  )

  told-grace : (n : ℕ) → Settable m n → StoryGoesOn P l m (set_grace n) (unchanged (with_grace m n) 0)
  unfolding shares_by grace_by
  told-grace n d = (
    prepared (set_grace n) (with_grace m n) refl refl,
    record {
      inv = grace-invariant m n s.inv d.unissued;
      booked = s.booked;
      rig = s.rig;
      clock = s.clock;
      pool = s.pool;
      issued = s.issued;
      grace = refl;
      shares = s.shares;
      match = match-weaken (λ d e r. tracks-weaken P _ (λ q. q.0) d e r) s.match;
    },
  )

  pub told : (c : Call) → StoryGoesOn P l m c (step m c)
  told = step-cases (StoryGoesOn P l m) m told-idle told-claim told-left told-declare told-grace

-- ── the run ──
story-weaken : (P Q : Type 0) (l : Ledger) (m : Model) → (Q → P) → Story P l m → Story Q l m
story-weaken P Q l m f s =
    record { inv = s.inv; booked = s.booked; rig = s.rig; clock = s.clock; pool = s.pool; issued = s.issued; grace = s.grace; shares = s.shares; match = match-weaken (λ c e r. tracks-weaken P Q f c e r) s.match }

pub story-after : (cs : List Call) (P : Type 0) (l : Ledger) (m : Model) → Story P l m
    → Story (P × NoOverruns l (turns step m cs)) (noted_all l (turns step m cs)) (table_after step m cs)
unfolding turns table_after noted_all
story-after [] P l m s = story-weaken P (P × NoOverruns l []) l m (λ q. q.0) s
story-after (c ∷ cs) P l m s =
    let t : Turn = record { call = c; answer = (step m c).answer } in
    let r = story-after cs (P × NoOverrun l t) (noted l t) (step m c).model (told P l m s c).1 in
    story-weaken _ (P × (NoOverrun l t × NoOverruns (noted l t) (turns step (step m c).model cs))) _ _ (λ q. ((q.0, q.1.0), q.1.1)) r

-- What holds where a run begins.
new-story : (g k : ℕ) (alone : Bool) → Story (Unit {0}) (newly g k alone).ledger (newly g k alone).table
new-story g k alone =
    new-cases (λ (s : Step). Story (Unit {0}) (opening g k alone s.answer) s.model) g k alone (λ e. blank-story 0 0 1 refl refl) (λ e. blank-story g k 0 refl refl)
  where
    blank-story : (r n j : ℕ) → r ≡ cond (eqb j 0) g 0 → n ≡ cond (eqb j 0) k 0 → Story (Unit {0}) (opening g k alone (unchanged (blank r n alone) j).answer) (blank r n alone)
    blank-story r n j o e =
        record { inv = blank-invariant r n alone; booked = first-booked alone; rig = o; clock = refl; pool = e; issued = refl; grace = refl; shares = refl; match = m_nil }

begin : (s : Start) → Begins s → Story (Unit {0}) s.ledger s.table
begin s (by-new g k alone) = new-story g k alone

pub after-calls : (s : Start) → Begins s → (cs : List Call)
    → (let ts = turns step s.table cs in
    Story (NoOverruns s.ledger ts) (noted_all s.ledger ts) (table_after step s.table cs))
after-calls s b cs = story-weaken _ _ _ _ (λ q. (tt, q)) (story-after cs (Unit {0}) s.ledger s.table (begin s b))

-- Demand 3, whole.
pub demand_3 : (s : Start) → Begins s → (calls : List Call) → Demand3 s calls
demand_3 s b calls = record {
  at_any_time = λ before rest e. now_of _ _ _ (after-calls s b before);
  no_wait_past = λ before rest e. no-wait-of _ _ _ (after-calls s b before);
  at_any_call = λ before c rest e. (told _ _ _ (after-calls s b before) c).0;
}

-- And whole calls, of the table after any of them.
pub whole-calls-after : (s : Start) → Begins s → (calls : List Call) → WholeCalls (table_after step s.table calls)
whole-calls-after s b calls = whole_calls (table_after step s.table calls) (after-calls s b calls).inv
