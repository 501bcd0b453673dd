-- Refusals and their numbers, there and back.
use Prim.Native.Nat.{ℕ, zero, suc, ◌<◌}
use mathlib.Core.Path.{◌≡◌, refl, sym, ap, ◌∙◌}
use native.Mathlib.Omega.{arith}
use Rattle.std.specs.Prelude.{Result, IsErrAnd}
use Rattle.std.proofs.lemmas.Result.{err_from_is_err_and}
use Rattle.numbers.specs.Numbers.{or_else}
use Rattle.numbers.specs.declared.Refusal.{Refusal}
use Rattle.numbers.specs.declared.Refusal.TheVariants.{Dark, OffRig, BadLength, Backward, Late, Full, Ticketless, Unknown, NotYetOn, AlreadyOn, Edition, Short, Misfit, Overlong, NoSpace, Spots, Stranger, Over, Overbooked, Count, Grace}
use Rattle.numbers.specs.Refusals.{number_of, number_in}
use Rattle.load.specs.Answers.{refusal_of}

pub refusal-again : (r : Refusal) → refusal_of (number_of r) ≡ r
unfolding refusal_of
refusal-again Dark = refl
refusal-again OffRig = refl
refusal-again BadLength = refl
refusal-again Backward = refl
refusal-again Late = refl
refusal-again Full = refl
refusal-again Ticketless = refl
refusal-again Unknown = refl
refusal-again NotYetOn = refl
refusal-again AlreadyOn = refl
refusal-again Edition = refl
refusal-again Short = refl
refusal-again Misfit = refl
refusal-again Overlong = refl
refusal-again NoSpace = refl
refusal-again Spots = refl
refusal-again Stranger = refl
refusal-again Over = refl
refusal-again Overbooked = refl
refusal-again Count = refl
refusal-again Grace = refl

pub refusal-is : (r : Refusal) (k : ℕ) → number_of r ≡ k → r ≡ refusal_of k
refusal-is r k h = sym (refusal-again r) ∙ ap refusal_of h

-- No refusal has the number 0, which is that of an accepted call.
pub number-some : (r : Refusal) → 0 < number_of r
unfolding refusal_of
number-some r = go (number_of r) refl
  where
    go : (k : ℕ) → number_of r ≡ k → 0 < k
    go zero h = let z : number_of r ≡ number_of Dark = ap number_of (refusal-is r 0 h) in omega arith
    go (suc k) h = omega arith

-- Of two tests the first that refuses gives the number.
pub or-refused : (k m : ℕ) (r : Refusal) → number_of r ≡ k → number_of r ≡ or_else k m
or-refused zero m r h = absurd (omega (arith, number-some r))
or-refused (suc k) m r h = h

-- What the exit of a `?` answers is the refusal that came.
pub passed-on : {A : Type 0} (x : Result A Refusal) (r : Refusal) (k : ℕ) → IsErrAnd x (λ y. y ≡ r) → number_of r ≡ k → number_in x ≡ k
passed-on x r k e h = let p = err_from_is_err_and x e in rw (p.1, p.2) h
