-- The texts as the code lays them. Why a ticket waits, from what lookups tell: it is `why_text` of a table that calls can make (proofs/Told).
use Rattle.std.specs.Prelude.{cond, List, [], ◌∷◌, ◌++◌, ◌≡◌, ℕ, eqb, Option, Some, None}
use Rattle.numbers.specs.Numbers.{unknown_number}
use Rattle.numbers.specs.Refusals.{number_of}
use Rattle.numerals.specs.Texts.{bytes}
use Rattle.rules.specs.declared.Claim.{Claim}
use Rattle.rules.specs.declared.Standing.TheVariants.{NotPending}
use Rattle.rules.specs.Calls.{Model, setting_of, standing_values, standing_of}
use Rattle.rules.specs.Chains.{chain_of}
use Rattle.rules.specs.Invariants.{Invariant}
use Rattle.replay.specs.declared.Stop.{Stop}
use Rattle.replay.specs.StopLine.{stop_line}
use Rattle.question.specs.Answers.{lookup_text, waits_text, holds_text, is_on_text, why_text}

-- The start that lookup tells of ticket k.
abbrev pub start_told : List Claim → ℕ → ℕ
start_told ps k = (standing_values (standing_of k ps)).start

-- The tickets of a chain with their starts. Each claim ends as the one before it starts, at e: so does the last.
unfoldable pub tickets_told : (ℕ → ℕ) → ℕ → List ℕ → List ℕ
tickets_told start e [] = []
tickets_told start e (k ∷ []) = holds_text k e
tickets_told start e (k ∷ (j ∷ ks)) = waits_text k j (start k) ++ tickets_told start (start k) (j ∷ ks)

-- Of ticket k that is told no chain, by the number of the refusal.
unfoldable pub unexplained : ℕ → ℕ → List ℕ
unexplained k n = cond (eqb n unknown_number) (lookup_text k NotPending) (is_on_text k)

-- The text for ticket k, by the number and the tickets that the lookup of its chain gives.
unfoldable pub why_told : List Claim → ℕ → ℕ → List ℕ → List ℕ
why_told ps k n ks = cond (eqb n 0) (bytes "ticket " ++ tickets_told (start_told ps) 0 ks) (unexplained k n)

abbrev pub WhyTold : Type 0
WhyTold =
    (m : Model) (k : ℕ) → Invariant m
    → let r = chain_of (setting_of m) k m.pending in why_told m.pending k r.number r.tickets ≡ why_text (setting_of m) m.pending k

-- The stop line, if any.
abbrev pub any_stop : Option Stop → List ℕ
any_stop None = []
any_stop (Some s) = stop_line (number_of s.refusal) s.record
