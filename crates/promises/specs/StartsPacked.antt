-- "Each gets the least start, not below the clock, that comes after the conflicting claims preceding it and leaves units enough beside the on
-- claims and those already packed" (document 02, P3): of every waiting claim after any calls, whoever overruns, by what ledger and lookups tell.
-- "Packing takes waiting claims by start, then ticket": by the starts that they then have (by those before the call: `PackedInTurn`). Beside
-- demand 3. proofs/StartsPacked has the theorem.
use Rattle.std.specs.Prelude.{◌≡◌, true, List, ℕ, ◌≤◌}
use Rattle.groups.specs.Groups.{shares}
use Rattle.rules.specs.declared.Standing.TheVariants.{Waits}
use Rattle.rules.specs.Lists.{◌∈◌}
use Rattle.rules.specs.Calls.{at_ticket, Call, step}
use Rattle.promises.specs.Ledger.{Steps, Entry, Ledger}
use Rattle.promises.specs.Runs.{Told, Start, AtAnyTime}
use Rattle.promises.specs.Plan.{end_told, SpareTold, ahead_told}

-- f may start at x behind these claims.
pub record BehindTold (l : Ledger) (told : Told) (es : List Entry) (f : Entry) (x : ℕ) : Type 0 where
  pub after : (e : Entry) → e ∈ es → shares e.asked.groups f.asked.groups ≡ true → end_told l told e ≤ x
  pub spare : SpareTold l told es f.asked x

-- s is its packed start behind them.
pub record PackedBehind (l : Ledger) (told : Told) (es : List Entry) (f : Entry) (s : ℕ) : Type 0 where
  pub from_clock : l.clock ≤ s
  pub behind : BehindTold l told es f s
  pub least : (x : ℕ) → l.clock ≤ x → BehindTold l told es f x → s ≤ x

-- f, one of these claims, waits with the start s.
abbrev pub PackedAt : Ledger → Told → List Entry → Entry → ℕ → Type 0
PackedAt l told es f s = PackedBehind l told (ahead_told told s f.ticket es) f s

-- So do all of these that wait; and all that are pending.
abbrev pub Packed : Ledger → Told → List Entry → Type 0
Packed l told es = (f : Entry) → f ∈ es → (s : ℕ) → told (at_ticket f.ticket) ≡ Waits s → PackedAt l told es f s

abbrev pub AllPacked : Ledger → Told → Type 0
AllPacked l told = Packed l told l.claims

abbrev pub StartsPackedOf : Steps → Start → List Call → Type 0
StartsPackedOf step s calls = AtAnyTime step s calls AllPacked

abbrev pub StartsPacked : Start → List Call → Type 0
StartsPacked s calls = StartsPackedOf step s calls
