-- What every call answers that is no accepted claim, beside number and grants; and that a call which is refused, or only tells, or only sets
-- something up, moves nothing that lookups tell. Beside demand 3, of the same lists of calls. proofs/Replies has the theorem.
use Rattle.std.specs.Prelude.{◌≡◌, Bool, true, false, List, ℕ}
use Rattle.rules.specs.Calls.{claims, releases, withdraws, moves_clock, Look, Call, timed, looks, sets_up, clock_of, Answer, step}
use Rattle.promises.specs.Ledger.{Turn, Steps, accepted, Ledger}
use Rattle.promises.specs.Runs.{Told, Start, AtAnyCall}

abbrev pub is_claim : Call → Bool
is_claim (timed t (claims ask)) = true
is_claim (timed t (releases k)) = false
is_claim (timed t (withdraws k)) = false
is_claim (timed t moves_clock) = false
is_claim (looks q) = false
is_claim (sets_up p) = false

-- The ticket that a timed call names; 0 where it names none.
abbrev pub ticket_of : Call → ℕ
ticket_of (timed t (claims ask)) = 0
ticket_of (timed t (releases k)) = k
ticket_of (timed t (withdraws k)) = k
ticket_of (timed t moves_clock) = 0
ticket_of (looks q) = 0
ticket_of (sets_up p) = 0

-- Ticket and start, and nothing counted.
pub record Plainly (a : Answer) (ticket start : ℕ) : Type 0 where
  pub ticket_is : a.ticket ≡ ticket
  pub start_is : a.start ≡ start
  pub contention_none : a.contention ≡ 0
  pub bound_none : a.bound ≡ 0

pub record Replied (l : Ledger) (t : Turn) (before after : Told) : Type 0 where
  -- "These three answer their ticket (a clock call 0) and the clock as start; crowd and ceiling are 0."
  pub three_plain : accepted t ≡ true → is_claim t.call ≡ false → Plainly t.answer (ticket_of t.call) (clock_of t.call)
  -- "A call turned down answers its number, with ticket, start, crowd and ceiling 0 .. the table is the one handed in"; look "changes
  -- nothing".
  pub others_plain : accepted t ≡ false → Plainly t.answer 0 0
  pub others_still : accepted t ≡ false → (q : Look) → after q ≡ before q

abbrev pub RepliesOf : Steps → Start → List Call → Type 0
RepliesOf step s calls = AtAnyCall step s calls Replied

abbrev pub Replies : Start → List Call → Type 0
Replies s calls = RepliesOf step s calls
