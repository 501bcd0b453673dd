-- The table has what the calls told it: the story of Demand3's proof, without the plan.
use mathlib.Core.List.{List}
use Rattle.rules.specs.declared.Claim.{Claim}
use Rattle.rules.specs.Calls.{Call}
use Rattle.promises.specs.Ledger.{Entry}
use Rattle.promises.specs.Runs.{Start, Begins}
use Rattle.promises.specs.TableKept.{Has, TableKept}
use Rattle.promises.proofs.Matching.{partner, partner-of}
use Rattle.promises.proofs.Demand3.{Tracks, after-calls}

has : (P : Type 0) (c : Claim) (e : Entry) → Tracks P c e → Has c e
has P c e r = record { ticket = r.ticket; groups = r.groups; length = r.length; units = r.units; client = r.client; held = r.held; grant = r.grant }

pub table_kept : (s : Start) → Begins s → (calls : List Call) → TableKept s calls
table_kept s b calls =
    let st = after-calls s b calls in
    record {
      rig = st.rig;
      clock = st.clock;
      pool = st.pool;
      issued = st.issued;
      grace = st.grace;
      shares = st.shares;
      every_entry = λ e i. (let r = partner st.match i in (r.0, r.1, has _ r.0 e r.2));
      every_claim = λ c i. (let r = partner-of st.match i in (r.0, r.1, has _ c r.0 r.2));
    }
