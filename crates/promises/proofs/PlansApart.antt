-- A plan can be kept: nobody overlaps and units are never short (`Separated`), read in the ledger.
use mathlib.Core.Path.{◌≡◌, sym, ◌∙◌}
use mathlib.Core.List.{List}
use native.Mathlib.Omega.{arith}
use Rattle.rules.specs.Calls.{Model, Call}
use Rattle.rules.proofs.Order.{precedes-conflicts, precedes-before, ascending-same}
use Rattle.promises.specs.Ledger.{Ledger}
use Rattle.promises.specs.Runs.{tells, Start, Begins}
use Rattle.promises.specs.PlansApart.{Apart, PlansApart}
use Rattle.promises.proofs.Matching.{partner}
use Rattle.promises.proofs.Demand3.{Story, after-calls}
use Rattle.promises.proofs.Plan.{precedes-of, end_is, use-is}

apart_of : (P : Type 0) (l : Ledger) (m : Model) → Story P l m → Apart l (tells m)
apart_of P l m st = record {
  ends_awaited = λ e i k p.
      let a = partner st.match i in
      let q = precedes-of m st.inv.spaced.ascending p in
      let same : q.one ≡ a.0 = ascending-same m.pending st.inv.spaced.ascending q.one a.0 q.one_in a.1 (q.one_is ∙ sym a.2.ticket) in
      let b = precedes-before q.one q.other (st.inv.spaced.proper q.one q.one_in).sane q.before in
      omega (
        arith,
        end_is P l m st q.one e q.one_in (rw same a.2),
        st.inv.spaced.fit.behind q.one q.other q.one_in q.other_in q.waits b (precedes-conflicts q.one q.other q.before),
        q.start,
      );
  units_enough = λ x h.
      omega (arith, use-is P l m st x m.pending l.claims (λ c i. i) st.match, st.inv.spaced.fit.supplied x (omega (arith, st.clock)), st.pool);
}

pub plans_apart : (s : Start) → Begins s → (calls : List Call) → PlansApart s calls
plans_apart s b calls before rest e = apart_of _ _ _ (after-calls s b before)
