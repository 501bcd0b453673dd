-- Where no grace is set claims end as in document 01, in every table that a run makes.
use mathlib.Core.Path.{◌≡◌, refl, ◌∙◌}
use mathlib.Core.Bool.{Bool}
use mathlib.Core.List.{List, [], ◌∷◌}
use Prim.Native.Nat.{ℕ, ◌+◌}
use Rattle.rules.specs.Claims.{at}
use Rattle.rules.specs.Calls.{Model, ruled, Call, plain, Step, step, new, after}
use Rattle.rules.specs.NoGrace.{CallSetsNoGrace, SetsNoGrace, EndsAsEver}
use Rattle.rules.proofs.Claims.{end_on, held-documented}
use Rattle.rules.proofs.Calls.{finish-grace, leaves-grace, admit-grace, step-cases, new-cases}

-- A grace of 0 is none.
pub ends-as-ever : (m : Model) → m.grace ≡ 0 → EndsAsEver m
ends-as-ever m z t c o = end_on (ruled m t) c o ∙ held-documented (ruled m t) (at c + c.length) z

-- ── a run ──
step-grace : (m : Model) (c : Call) → ((step m c).answer.number ≡ 0 → CallSetsNoGrace c) → m.grace ≡ 0 → (step m c).model.grace ≡ 0
step-grace m c d z =
    step-cases (λ c s. (s.answer.number ≡ 0 → CallSetsNoGrace c) → s.model.grace ≡ 0) m (λ c n i d. z)
    (λ t ask a d. admit-grace m t ask ∙ z)
    (λ c t k q o v d. finish-grace q (plain k t) ∙ leaves-grace v ∙ z)
    (λ c r l e d. z) (λ n e d. d refl) c d

after-grace : (m : Model) (cs : List Call) → SetsNoGrace m cs → m.grace ≡ 0 → (after m cs).grace ≡ 0
unfolding after
after-grace m [] d z = z
after-grace m (c ∷ cs) d z = after-grace (step m c).model cs d.1 (step-grace m c d.0 z)

-- After any calls that set none.
pub no-grace-as-ever : (g k : ℕ) (alone : Bool) (cs : List Call) → SetsNoGrace (new g k alone).model cs → EndsAsEver (after (new g k alone).model cs)
no-grace-as-ever g k alone cs d =
    ends-as-ever (after (new g k alone).model cs) (after-grace (new g k alone).model cs d (new-cases (λ (s : Step). s.model.grace ≡ 0) g k alone (λ e. refl) (λ e. refl)))
