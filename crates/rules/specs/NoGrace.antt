-- Runs in which no grace is set: there a claim ends as document 01 says. proofs/NoGrace has it for every such run.
use Rattle.std.specs.Prelude.{◌≡◌, true, List, [], ◌∷◌, ℕ, ◌+◌, max}
use Rattle.rules.specs.declared.Claim.{Claim}
use Rattle.rules.specs.Claims.{on, at, end_of}
use Rattle.rules.specs.Calls.{Model, ruled, declares, sets_grace, Call, timed, looks, sets_up, step}

-- The call sets no grace, or one of 0.
abbrev pub CallSetsNoGrace : Call → Type 0
CallSetsNoGrace (timed t x) = Unit {0}
CallSetsNoGrace (looks q) = Unit {0}
CallSetsNoGrace (sets_up (declares c r l)) = Unit {0}
CallSetsNoGrace (sets_up (sets_grace n)) = n ≡ 0

-- Nor does any accepted call of the list, made from table m on.
abbrev pub SetsNoGrace : Model → List Call → Type 0
SetsNoGrace m [] = Unit {0}
SetsNoGrace m (c ∷ cs) = ((step m c).answer.number ≡ 0 → CallSetsNoGrace c) × SetsNoGrace (step m c).model cs

-- "The promised end of an on claim is grant + length; its end is the greater of promised end and the table's clock" (document 01): at every
-- clock that a call may bear.
abbrev pub EndsAsEver : Model → Type 0
EndsAsEver m = (t : ℕ) (c : Claim) → on c ≡ true → end_of (ruled m t) c ≡ max (at c + c.length) t
