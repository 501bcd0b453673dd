-- The promise resumes: call by call nothing is raised (`never_raised`), and who went on stays on since its grant.
use mathlib.Core.Path.{◌≡◌, refl, sym, ◌∙◌, ap, subst}
use mathlib.Core.Logic.{◌⊎◌, inl, inr}
use mathlib.Core.Bool.{true}
use mathlib.Core.List.{List, [], ◌∷◌}
use Prim.Native.Nat.{ℕ, ◌≤◌, ◌<◌}
use native.Mathlib.Omega.{arith}
use Rattle.rules.specs.declared.Claim.{Claim}
use Rattle.rules.specs.declared.Reply.{Reply}
use Rattle.rules.specs.Lists.{◌∈◌}
use Rattle.rules.specs.Claims.{on, at}
use Rattle.rules.specs.Packing.{packed_start, moved, pack}
use Rattle.rules.specs.Invariants.{Invariant}
use Rattle.rules.specs.Calls.{Model, ruled, setting_of, at_ticket, Call, declared, with_grace, advance, plain, finish, admit, step}
use Rattle.rules.proofs.Bools.{by-test}
use Rattle.rules.proofs.Order.{ascending-same}
use Rattle.rules.proofs.Packing.{moved_on}
use Rattle.rules.proofs.Granting.{granted-at}
use Rattle.rules.proofs.Calls.{advance-same, finish-e, join-old, leaves-old, placed, step-cases}
use Rattle.rules.proofs.Lookup.{lookup-found, lookup-waits}
use Rattle.promises.specs.Ledger.{turns, table_after, Ledger, NoOverrun, NoOverruns}
use Rattle.promises.specs.Runs.{tells, Start, Begins}
use Rattle.promises.specs.WholeCalls.{Becomes}
use Rattle.promises.specs.StartsHold.{Holds, StartsHold}
use Rattle.promises.proofs.Matching.{partner, partner-of}
use Rattle.promises.proofs.Demand3.{Story, told, story-after, after-calls}
use Rattle.promises.proofs.Plan.{standing-wait}
use Rattle.promises.proofs.NeverOvertaken.{issued-grows, pending-all-along}

-- ── who is on stays so ──
-- Of a call from m to `finish q`, where each claim of q that is not new is one of those that the first packing gave.
finish-on : (m q : Model) (t : ℕ) (rep : Reply) → Invariant m → ((x : Claim) → x ∈ q.pending → (x ∈ (advance m t).pending) ⊎ (m.issued < x.ticket))
    → (c d : Claim) → Becomes m (finish q rep).model c d → on c ≡ true → at d ≡ at c
finish-on m q t rep i old c d b o =
    let r = finish-e q rep b.new in
    let f = packed_start (setting_of q) q.pending in
    let same = mine r.0 (sym r.2 ∙ b.same) (old r.0 r.1) in
    ap at r.3.1 ∙ granted-at (setting_of q) (pack (setting_of q) q.pending) (moved f r.0) ∙ ap (λ (x : Claim). at (moved f x)) same ∙ ap at (moved_on f c o)
  where
    mine : (x : Claim) → x.ticket ≡ c.ticket → (x ∈ (advance m t).pending) ⊎ (m.issued < x.ticket) → x ≡ c
    mine x e (inl j) = advance-same m t i c x b.old j e ∙ moved_on (packed_start (ruled m t) m.pending) c o
    mine x e (inr l) = absurd (omega (arith, (i.spaced.proper c b.old).issued))

on-stays : (m : Model) → Invariant m → (c : Call) (x y : Claim) → Becomes m (step m c).model x y → on x ≡ true → at y ≡ at x
unfolding admit advance
on-stays m i =
    step-cases (λ c s. (x y : Claim) → Becomes m s.model x y → on x ≡ true → at y ≡ at x) m (λ c n z. idle m refl)
    (λ t ask a. finish-on m _ t _ i (join-old (advance m t) (placed (advance m t) ask) refl))
    (λ c t k q o v. finish-on m q t (plain k t) i (λ x j. inl (leaves-old v x j)))
    (λ c r l d. idle (declared m c r l) refl) (λ n d. idle (with_grace m n) refl)
  where
    idle : (n : Model) → n.pending ≡ m.pending → (x y : Claim) → Becomes m n x y → on x ≡ true → at y ≡ at x
    idle n e x y b o = ap at (ascending-same m.pending i.spaced.ascending y x (subst (λ (l : List Claim). y ∈ l) e b.new) b.old b.same)

-- ── nothing is raised ──
AtMost : Model → Model → Type 0
AtMost m n = (x y : Claim) → Becomes m n x y → at y ≤ at x

-- By one call: of a claim that waits by what lookups tell of it, and by the ledger where it went on.
one-call : (P : Type 0) (l : Ledger) (m : Model) → Story P l m → (c : Call) → NoOverrun l (record { call = c; answer = (step m c).answer }) → AtMost m (step m c).model
unfolding AtMost
one-call P l m st c h x y b =
    let n : Model = (step m c).model in
    let r = told P l m st c in
    let st' = r.1 in
    by-test (on x) (λ o. omega (arith, on-stays m st.inv c x y b o)) (λ o.
    let was = lookup-found m.pending st.inv.spaced.ascending x b.old ∙ standing-wait x o in
    let never = r.0.never_raised h x.ticket (at x) was in
    by-test (on y)
    (λ q.
    let e = partner-of st'.match b.new in
    omega (arith, never.1 e.0 e.1 (sym e.2.ticket ∙ b.same) (sym e.2.held ∙ q), e.2.grant q))
    (λ q. never.0 (at y) (ap (λ (k : ℕ). tells n (at_ticket k)) (sym b.same) ∙ lookup-found n.pending st'.inv.spaced.ascending y b.new ∙ standing-wait y q)))

all-calls : (cs : List Call) (P : Type 0) (l : Ledger) (m : Model) → Story P l m → NoOverruns l (turns step m cs) → AtMost m (table_after step m cs)
unfolding AtMost turns table_after
all-calls [] P l m st h x y b = omega (arith, ap at (ascending-same m.pending st.inv.spaced.ascending y x b.new b.old b.same))
all-calls (c ∷ cs) P l m st h x y b =
    let n : Model = (step m c).model in
    let k = pending-all-along n cs x.ticket (omega (arith, issued-grows m c, (st.inv.spaced.proper x b.old).issued)) (y, b.new, b.same) in
    let first = one-call P l m st c h.0 x k.0 (record { old = b.old; new = k.1; same = k.2 }) in
    let later = all-calls cs _ _ n (told P l m st c).1 h.1 k.0 y (record { old = k.1; new = b.new; same = b.same ∙ sym k.2 }) in
    omega (arith, first, later)

-- ── by lookups ──
holds_of : (P Q : Type 0) (l later : Ledger) (m n : Model) → Story P l m → Story Q later n → AtMost m n → Holds (tells m) later (tells n)
unfolding AtMost
holds_of P Q l later m n st st' h = record {
  not_raised = λ k s w r z.
      let x = lookup-waits k s m.pending w in
      let y = lookup-waits k r n.pending z in
      omega (arith, h x.0 y.0 (record { old = x.1; new = y.1; same = y.2 ∙ sym x.2 }), x.4, y.4);
  granted_by = λ k s w e i q o.
      let x = lookup-waits k s m.pending w in
      let y = partner st'.match i in
      omega (arith, h x.0 y.0 (record { old = x.1; new = y.1; same = y.2.ticket ∙ q ∙ sym x.2 }), x.4, y.2.grant (y.2.held ∙ o));
  no_wait_past = λ k s w r z.
      let x = lookup-waits k s m.pending w in
      let y = lookup-waits k r n.pending z in
      omega (arith, h x.0 y.0 (record { old = x.1; new = y.1; same = y.2 ∙ sym x.2 }), x.4, y.4, st'.inv.spaced.low y.0 y.1 y.3, st'.clock);
}

pub starts_hold : (s : Start) → Begins s → (calls : List Call) → StartsHold s calls
starts_hold s b calls before between rest e h =
    let st = after-calls s b before in
    holds_of _ _ _ _ _ _ st (story-after between _ _ _ st) (all-calls between _ _ _ st h)
