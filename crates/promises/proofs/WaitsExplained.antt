-- Every wait has its reason: the table's invariant `Blocked`, said of the ledger.
use mathlib.Core.Path.{◌≡◌, sym, ◌∙◌}
use mathlib.Core.List.{List}
use Rattle.rules.specs.declared.Claim.{Claim}
use Rattle.rules.specs.Order.{meets}
use Rattle.rules.specs.Calls.{Model, Call}
use Rattle.promises.specs.Ledger.{Entry, Ledger}
use Rattle.promises.specs.Runs.{tells, Start, Begins}
use Rattle.promises.specs.WaitsExplained.{in_common, Explained, WaitsExplained}
use Rattle.promises.proofs.Matching.{partner, partner-of}
use Rattle.promises.proofs.Demand3.{Tracks, Story, after-calls}
use Rattle.promises.proofs.Plan.{waits-at, end_is}

-- What two claims have in common, their entries have.
pub common-is : (P : Type 0) (c w : Claim) (e f : Entry) → Tracks P c e → Tracks P w f → meets c w ≡ in_common e f
common-is P c w e f r t = cc (r.groups, r.units, t.groups, t.units)

explained : (P : Type 0) (l : Ledger) (m : Model) → Story P l m → Explained l (tells m)
explained P l m st f i s w =
    let b = partner st.match i in
    let o = waits-at P l m st b.0 f b.1 b.2 s w in
    let h = st.inv.blocked b.0 b.1 o.0 in
    let p = partner-of st.match h.1 in
    (p.0, p.1, sym (common-is P h.0 b.0 p.0 f p.2 b.2) ∙ h.2, end_is P l m st h.0 p.0 h.1 p.2 ∙ h.3 ∙ o.1)

pub waits_explained : (s : Start) → Begins s → (calls : List Call) → WaitsExplained s calls
waits_explained s b calls before rest e = explained _ _ _ (after-calls s b before)
