-- Nobody is overtaken: what one call keeps of the order, call by call. A ticket that is pending later was pending all the while.
use mathlib.Core.Path.{◌≡◌, refl, sym, ◌∙◌, ap}
use mathlib.Core.Logic.{⊎_elim}
use mathlib.Core.Bool.{true, false}
use mathlib.Core.List.{List, [], ◌∷◌}
use Prim.Native.Nat.{ℕ, ◌≤◌}
use native.Mathlib.Omega.{arith}
use Rattle.rules.specs.declared.Claim.{Claim}
use Rattle.rules.specs.Lists.{◌∈◌}
use Rattle.rules.specs.Claims.{on}
use Rattle.rules.specs.Order.{precedes}
use Rattle.rules.specs.Invariants.{Invariant}
use Rattle.rules.specs.Calls.{Model, Call, advance, plain, finish, join, remove, admit, step}
use Rattle.rules.proofs.Order.{ascending-same}
use Rattle.rules.proofs.Calls.{advance-e, finish-e, join-old, leaves-old, placed, Leaves, by-release, by-withdraw, by-clock, step-cases, step-invariant}
use Rattle.rules.proofs.Lookup.{lookup-known}
use Rattle.promises.specs.Ledger.{table_after}
use Rattle.promises.specs.Runs.{Start, Begins}
use Rattle.promises.specs.NeverOvertaken.{NeverOvertaken}
use Rattle.promises.proofs.WholeCalls.{order-holds, calls-invariant}
use Rattle.promises.proofs.Demand3.{after-calls}
use Rattle.promises.proofs.Plan.{precedes-of, precedes-told}

-- ── a ticket that was issued comes back to nobody ──
leaves-issues : {m : Model} {c : Call} {t k : ℕ} {q : Model} → Leaves m c t k q → q.issued ≡ m.issued
unfolding remove advance
leaves-issues (by-release t k) = refl
leaves-issues (by-withdraw t k) = refl
leaves-issues (by-clock t) = refl

pub issued-grows : (m : Model) (c : Call) → m.issued ≤ (step m c).model.issued
unfolding admit finish join advance
issued-grows m =
    step-cases (λ c s. m.issued ≤ s.model.issued) m (λ c n i. omega arith) (λ t ask a. omega arith) (λ c t k q o v. omega (arith, leaves-issues v)) (λ c r l d. omega arith) (λ n d. omega arith)

-- The claim of the ticket k in m.
abbrev Pending : Model → ℕ → Type 0
Pending m k = (d : Claim) × d ∈ m.pending × (d.ticket ≡ k)

was-pending : (m : Model) (c : Call) (k : ℕ) → k ≤ m.issued → Pending (step m c).model k → Pending m k
unfolding admit advance
was-pending m c k l =
    step-cases (λ c s. Pending s.model k → Pending m k) m (λ c n i p. p)
    (λ t ask a p.
    let x = finish-e (join (advance m t) (placed (advance m t) ask)) _ p.1 in
    ⊎_elim (λ j. from t x.0 j (sym x.2 ∙ p.2)) (λ h. absurd (omega (arith, x.2, p.2))) (join-old (advance m t) (placed (advance m t) ask) refl x.0 x.1))
    (λ c t j q o v p. let x = finish-e q (plain j t) p.1 in from t x.0 (leaves-old v x.0 x.1) (sym x.2 ∙ p.2))
    (λ c r l d p. p) (λ n d p. p) c
  where
    from : (t : ℕ) (x : Claim) → x ∈ (advance m t).pending → x.ticket ≡ k → Pending m k
    from t x i e = let r = advance-e m t i in (r.0, r.1, sym r.2 ∙ e)

pub pending-all-along : (m : Model) (cs : List Call) (k : ℕ) → k ≤ m.issued → Pending (table_after step m cs) k → Pending m k
unfolding table_after
pending-all-along m [] k l p = p
pending-all-along m (c ∷ cs) k l p = was-pending m c k l (pending-all-along (step m c).model cs k (omega (arith, issued-grows m c)) p)

-- ── the order over calls ──
order-after : (m : Model) → Invariant m → (cs : List Call) (d w : Claim) → d ∈ m.pending → w ∈ m.pending → on w ≡ false → precedes d w ≡ true
    → (d' w' : Claim) → d' ∈ (table_after step m cs).pending → w' ∈ (table_after step m cs).pending → d'.ticket ≡ d.ticket → w'.ticket ≡ w.ticket
    → (on w' ≡ false) × (precedes d' w' ≡ true)
unfolding table_after
order-after m i [] d w di wi o p d' w' dj wj e f =
    let x = ascending-same m.pending i.spaced.ascending d' d dj di e in
    let y = ascending-same m.pending i.spaced.ascending w' w wj wi f in
    (ap on y ∙ o, ap (λ (c : Claim). precedes c w') x ∙ ap (precedes d) y ∙ p)
order-after m i (c ∷ cs) d w di wi o p d' w' dj wj e f =
    let n : Model = (step m c).model in
    let x = pending-all-along n cs d.ticket (omega (arith, issued-grows m c, (i.spaced.proper d di).issued)) (d', dj, e) in
    let y = pending-all-along n cs w.ticket (omega (arith, issued-grows m c, (i.spaced.proper w wi).issued)) (w', wj, f) in
    let r = order-holds m i c d x.0 w y.0 (record { old = di; new = x.1; same = x.2 }) (record { old = wi; new = y.1; same = y.2 }) o p in
    order-after n (step-invariant m c i) cs x.0 y.0 x.1 y.1 r.0 r.1 d' w' dj wj (e ∙ sym x.2) (f ∙ sym y.2)

-- ── by lookups ──
pub never_overtaken : (s : Start) → Begins s → (calls : List Call) → NeverOvertaken s calls
never_overtaken s b calls before between rest q j k p one other =
    let m : Model = table_after step s.table before in
    let n : Model = table_after step m between in
    let i = (after-calls s b before).inv in
    let x = precedes-of m i.spaced.ascending p in
    let c = lookup-known j n.pending one in
    let d = lookup-known k n.pending other in
    let is = order-after m i between x.one x.other x.one_in x.other_in x.waits x.before c.0 d.0 c.1 d.1 (c.2 ∙ sym x.one_is) (d.2 ∙ sym x.other_is) in
    rw (sym c.2, sym d.2) (precedes-told n (calls-invariant m between i).spaced.ascending c.0 d.0 c.1 d.1 is.0 is.1)
