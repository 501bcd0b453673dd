-- The promise resumes: from any time on, for as long as no accepted call bears a clock past the promised end of a claim held when it comes, a
-- waiting claim is owed the start that lookup then gives: no later call raises it and no wait goes past it, whoever overran before. Beside demand
-- 3, which says the same of the first planned start, from the beginning. proofs/StartsHold has the theorem.
use Rattle.std.specs.Prelude.{◌≡◌, true, List, ◌++◌, ℕ, ◌≤◌}
use Rattle.rules.specs.declared.Standing.TheVariants.{Waits}
use Rattle.rules.specs.Lists.{◌∈◌}
use Rattle.rules.specs.Calls.{at_ticket, Call, step}
use Rattle.promises.specs.Ledger.{Steps, turns, table_after, Entry, Ledger, noted_all, NoOverruns}
use Rattle.promises.specs.Runs.{Told, tells, Start, ledger_after}

-- Of what lookups tell at a time, and of ledger and lookups later.
pub record Holds (told : Told) (l : Ledger) (later : Told) : Type 0 where
  pub not_raised : (k s : ℕ) → told (at_ticket k) ≡ Waits s → (r : ℕ) → later (at_ticket k) ≡ Waits r → r ≤ s
  pub granted_by : (k s : ℕ) → told (at_ticket k) ≡ Waits s → (e : Entry) → e ∈ l.claims → e.ticket ≡ k → e.held ≡ true → e.grant ≤ s
  pub no_wait_past : (k s : ℕ) → told (at_ticket k) ≡ Waits s → (r : ℕ) → later (at_ticket k) ≡ Waits r → l.clock ≤ s

abbrev pub StartsHoldOf : Steps → Start → List Call → Type 0
StartsHoldOf step s calls =
    (before between rest : List Call) → before ++ (between ++ rest) ≡ calls
    → (let m = table_after step s.table before in
    let l = ledger_after step s before in
    let ts = turns step m between in
    NoOverruns l ts → Holds (tells m) (noted_all l ts) (tells (table_after step m between)))

abbrev pub StartsHold : Start → List Call → Type 0
StartsHold s calls = StartsHoldOf step s calls
