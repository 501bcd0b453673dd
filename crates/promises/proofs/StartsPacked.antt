-- Every waiting start is packed: in a settled table packing gives the starts that stand (`settled-packs`).
use mathlib.Core.Path.{refl, sym, subst}
use mathlib.Core.Logic.{inl}
use mathlib.Core.List.{List}
use Prim.Native.Nat.{ℕ}
use Rattle.rules.specs.declared.Claim.{Claim}
use Rattle.rules.specs.declared.Standing.{Standing}
use Rattle.rules.specs.Lists.{◌∈◌}
use Rattle.rules.specs.Claims.{at}
use Rattle.rules.specs.Invariants.{Settled}
use Rattle.rules.specs.Calls.{Model, setting_of, Call}
use Rattle.rules.proofs.Packing.{moved_same}
use Rattle.rules.proofs.Invariants.{settled-packs}
use Rattle.promises.specs.Ledger.{Entry, Ledger}
use Rattle.promises.specs.Runs.{tells, Start, Begins}
use Rattle.promises.specs.Plan.{ahead_told}
use Rattle.promises.specs.StartsPacked.{PackedBehind, Packed, StartsPacked}
use Rattle.promises.specs.PackedInTurn.{start_after}
use Rattle.promises.proofs.Matching.{Match}
use Rattle.promises.proofs.Demand3.{Tracks, Story, after-calls}
use Rattle.promises.proofs.Packed.{packed-behind}

-- Of claims ps of the table that are settled among themselves, side by side with theirs in the ledger.
pub packed-of : (P : Type 0) (l : Ledger) (m : Model) → Story P l m → (ps : List Claim) (es : List Entry) → Match (Tracks P) ps es → ((c : Claim) → c ∈ ps → c ∈ m.pending)
    → (k : ℕ) → Settled k (setting_of m) ps → Packed l (tells m) es
packed-of P l m st ps es ma inside k se f i s w =
    subst (λ (x : Standing). PackedBehind l (tells m) (ahead_told (tells m) s f.ticket es) f (start_after m.clock x)) w
    (packed-behind P P l l m m st st ps es ma inside at (settled-packs k (setting_of m) ps se) (λ x j. (x, inside x j, inl (sym (moved_same at x (λ _. refl))))) f i s w)

pub starts_packed : (s : Start) → Begins s → (calls : List Call) → StartsPacked s calls
starts_packed s b calls before rest e = let st = after-calls s b before in packed-of _ _ _ st _ _ st.match (λ c i. i) _ st.inv
