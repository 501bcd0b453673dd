-- Who waits at the clock, and is preceded by nobody, wanted units: `units_wanting` of whole calls, read in the ledger.
use mathlib.Core.Path.{◌≡◌, refl, sym}
use mathlib.Core.Bool.{false}
use mathlib.Core.List.{List, [], ◌∷◌}
use Prim.Native.Nat.{ℕ}
use native.Mathlib.Omega.{arith}
use borrow.Author.Tests.{eqb-true}
use Rattle.rules.specs.declared.Claim.{Claim}
use Rattle.rules.specs.Lists.{◌∈◌}
use Rattle.rules.specs.Order.{precedes}
use Rattle.rules.specs.Invariants.{Invariant}
use Rattle.rules.specs.Calls.{Model, Call, timed, looks, sets_up, step}
use Rattle.rules.proofs.Bools.{by-test, clash}
use Rattle.promises.specs.Ledger.{Turn, turns, table_after, Ledger, Entry, noted, noted_all}
use Rattle.promises.specs.Runs.{tells, Start, Begins}
use Rattle.promises.specs.WholeCalls.{kept_from as claimKeptFrom}
use Rattle.promises.specs.GrantsDue.{kept_from, Due, GrantsDue}
use Rattle.promises.proofs.Matching.{match-sum, partner}
use Rattle.promises.proofs.WholeCalls.{whole_calls}
use Rattle.promises.proofs.Demand3.{Tracks, Story, story-after, after-calls}
use Rattle.promises.proofs.Plan.{precedes-told, waits-at}

kept-is : (P : Type 0) (ks : List ℕ) (w : Claim) (f : Entry) → Tracks P w f → (c : Claim) (e : Entry) → Tracks P c e → claimKeptFrom ks w c ≡ kept_from ks f e
kept-is P ks w f t c e r = rw (t.ticket, r.ticket, r.held, r.units)

module _ (P Q : Type 0) (l : Ledger) (m : Model) (i : Invariant m) where
  due-of : (c : Call) → (let t : Turn = record { call = c; answer = (step m c).answer } in Story Q (noted l t) (step m c).model → Due l t (tells m) (tells (step m c).model))
  due-of (timed u x) st h f fi w free =
      let n : Model = (step m (timed u x)).model in
      let a = partner st.match fi in
      let b = waits-at Q _ n st a.0 f a.1 a.2 u w in
      let up = st.inv.spaced.ascending in
      let none : (d : Claim) → d ∈ n.pending → precedes d a.0 ≡ false
      = λ d di. by-test (precedes d a.0) (λ p. absurd (free d.ticket (rw (sym a.2.ticket) (precedes-told n up d a.0 di a.1 b.0 p)))) (λ p. p) in
      let z = ((whole_calls m i).of_timed u x (eqb-true _ 0 h)).0.units_wanting a.0 a.1 b.0 b.1 none in
      omega (
        arith,
        z,
        match-sum (claimKeptFrom (step m (timed u x)).answer.grants a.0) (kept_from (step m (timed u x)).answer.grants f) (λ c e _ r. kept-is Q _ a.0 f a.2 c e r) st.match,
        a.2.units,
        st.pool,
      )
  due-of (looks q) st h f fi w free = clash h refl
  due-of (sets_up p) st h f fi w free = clash h refl

pub grants_due : (s : Start) → Begins s → (calls : List Call) → GrantsDue s calls
unfolding turns table_after noted_all
grants_due s b calls before c rest e =
    let st = after-calls s b before in
    due-of (Unit {0}) _ (noted_all s.ledger (turns step s.table before)) (table_after step s.table before) st.inv c (story-after (c ∷ []) _ _ _ st)
