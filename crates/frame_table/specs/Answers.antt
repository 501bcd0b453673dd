-- What the calls of a frame table answer, as the rules say it.
use Rattle.std.specs.Prelude.{Result, Ok, Err, []}
use Rattle.numbers.specs.declared.Refusal.{Refusal}
use Rattle.numbers.specs.Refusals.{number_of}
use Rattle.frames.specs.Calls.{Answer}
use Rattle.frame_table.specs.declared.Accepted.{Accepted}

abbrev pub accepted : Accepted → Answer
accepted a = record { number = 0; ticket = a.ticket; row = a.row; contention = a.contention; grants = a.grants }

abbrev pub Answered : Type 0
Answered = Result Accepted Refusal

abbrev pub answer_of : Answered → Answer
answer_of (Ok a) = accepted a
answer_of (Err r) = record { number = number_of r; ticket = 0; row = 0; contention = 0; grants = [] }
