-- The answers of the code, each as document 01's number and values: "Where an answer is an enum, a definition gives this paper's number and
-- values for each of its cases." A value that a case does not have is 0, or none.
use Rattle.std.specs.Prelude.{ℕ, ◌-◌, List, [], ◌∷◌, get_or, Option, Some, None, Result, Ok, Err}
use Rattle.numbers.specs.declared.Refusal.{Refusal}
use Rattle.numbers.specs.declared.Refusal.TheVariants.{Dark, OffRig, BadLength, Backward, Late, Full, Ticketless, Unknown, NotYetOn, AlreadyOn, Edition, Short, Misfit, Overlong, NoSpace, Spots, Stranger, Over, Overbooked, Count, Grace}
use Rattle.numbers.specs.Refusals.{number_of}
use Rattle.format.specs.declared.Call.{Call}
use Rattle.load.specs.declared.Item.{Item}

-- The refusals in the order of their numbers, from 1 on, and the one of a number. (Proved in proofs/Answers: refusal-again.)
abbrev pub refusals : List Refusal
refusals = Dark ∷ OffRig ∷ BadLength ∷ Backward ∷ Late ∷ Full ∷ Ticketless ∷ Unknown ∷ NotYetOn ∷ AlreadyOn ∷ Edition ∷ Short ∷ Misfit ∷ Overlong ∷ NoSpace ∷ Spots ∷ Stranger ∷ Over ∷ Overbooked ∷ Count ∷ Grace ∷ []

unfoldable pub refusal_of : ℕ → Refusal
refusal_of n = get_or refusals (n - 1) Dark

-- What stands at a position: a record's call with the next position, the end, or a refusal.
abbrev pub Answer : Type 0
Answer = Result (Option Item) Refusal

abbrev pub one_record : Call → ℕ → Answer
one_record c next = Ok (Some (record { call = c; next = next }))

abbrev pub the_end : Answer
the_end = Ok None

-- In numbers: the number of a refusal, 0 for a record and at the end; the call of a record; the next position. "Behind the last record it
-- says that the load has ended; at 12 or 13 it keeps its position."
pub record ItemValues : Type 0 where
  pub number : ℕ
  pub calls : List Call
  pub next : ℕ

abbrev pub item_values : ℕ → Answer → ItemValues
item_values at (Ok (Some item)) = record { number = 0; calls = item.call ∷ []; next = item.next }
item_values at (Ok None) = record { number = 0; calls = []; next = at }
item_values at (Err r) = record { number = number_of r; calls = []; next = at }

-- The writer's answer: the number of a refusal, 0 for none; "the new length".
pub record WrittenValues : Type 0 where
  pub number : ℕ
  pub length : ℕ

abbrev pub written_values : Result ℕ Refusal → WrittenValues
written_values (Ok n) = record { number = 0; length = n }
written_values (Err r) = record { number = number_of r; length = 0 }
