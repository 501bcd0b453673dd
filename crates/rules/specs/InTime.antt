-- Runs in which nobody overruns: there the grace changes nothing. proofs/InTime has it for every such run.
use Rattle.std.specs.Prelude.{◌≡◌, true, List, [], ◌∷◌, ℕ}
use Rattle.rules.specs.Calls.{Model, with_grace, Call, is_timed, clock_of, step, answers, after}
use Rattle.rules.specs.Plans.{NoOverrunAt}

-- No accepted timed call of the list, made from table m on, bears a clock past the promised end of a claim held when it comes.
abbrev pub NoOverrunsFrom : Model → List Call → Type 0
NoOverrunsFrom m [] = Unit {0}
NoOverrunsFrom m (c ∷ cs) =
    (is_timed c ≡ true → (step m c).answer.number ≡ 0 → NoOverrunAt (clock_of c) m.pending) × NoOverrunsFrom (step m c).model cs

-- From table m and from the same with a grace of d, the calls are answered alike, and leave the same pending.
pub record GraceIndifferent (m : Model) (d : ℕ) (cs : List Call) : Type 0 where
  pub answers_same : answers (with_grace m d) cs ≡ answers m cs
  pub pending_same : (after (with_grace m d) cs).pending ≡ (after m cs).pending
