-- Each number only on its condition: the tests of a table are those of its ledger.
use mathlib.Core.Path.{◌≡◌, refl, ◌∙◌, ap}
use mathlib.Core.Bool.{Bool, not, ◌&&◌}
use mathlib.Core.List.{List, [], ◌∷◌}
use Prim.Native.Nat.{ℕ}
use lib.Dec.{eqb}
use Rattle.rules.specs.Claims.{on}
use Rattle.rules.specs.Lists.{any}
use Rattle.rules.specs.Tests.{first_number, dark, named}
use Rattle.rules.specs.Calls.{Model, claims, releases, withdraws, moves_clock, Call, timed, looks, sets_up, Step, look_tests, tests, step}
use Rattle.rules.proofs.Calls.{step-number, new-cases}
use Rattle.promises.specs.Ledger.{table_after, has_ticket, Ledger}
use Rattle.promises.specs.Runs.{Start, Begins}
use Rattle.promises.specs.NumbersTested.{tests_by, NumbersTested, NewTested}
use Rattle.promises.proofs.Matching.{Match, m_nil, m-cons, match-length}
use Rattle.promises.proofs.Demand3.{Story, after-calls}
use Rattle.promises.proofs.SharesKept.{askers-are}

match-any : {A B : Type 0} {R : A → B → Type 0} (p : A → Bool) (q : B → Bool) {k : List A} {l : List B} → ((x : A) (y : B) → R x y → p x ≡ q y) → Match R k l → any p k ≡ any q l
unfolding any
match-any p q h m_nil = refl
match-any p q h (m-cons {x} {y} r m) = rw (h x y r, match-any p q h m)

module _ (P : Type 0) (l : Ledger) (m : Model) (s : Story P l m) where
  known_is : (k : ℕ) → any (named k) m.pending ≡ any (has_ticket k) l.claims
  known_is k = match-any (named k) (has_ticket k) (λ c e r. ap (λ (x : ℕ). eqb x k) r.ticket) s.match

  waits-is : (k : ℕ) → any (λ c. named k c && not (on c)) m.pending ≡ any (λ e. has_ticket k e && not e.held) l.claims
  waits-is k = match-any (λ c. named k c && not (on c)) (λ e. has_ticket k e && not e.held) (λ c e r. rw (r.ticket, r.held)) s.match

  holds-is : (k : ℕ) → any (λ c. named k c && on c) m.pending ≡ any (λ e. has_ticket k e && e.held) l.claims
  holds-is k = match-any (λ c. named k c && on c) (λ e. has_ticket k e && e.held) (λ c e r. rw (r.ticket, r.held)) s.match

  tests-are : (c : Call) → tests m c ≡ tests_by l c
  unfolding tests tests_by
  tests-are (timed t (claims ask)) = rw (s.rig, s.clock, s.shares, s.pool, s.issued, askers-are P s.match, match-length s.match)
  tests-are (timed t (releases k)) = rw (s.clock, known_is k, waits-is k)
  tests-are (timed t (withdraws k)) = rw (s.clock, known_is k, holds-is k)
  tests-are (timed t moves_clock) = rw s.clock
  tests-are (looks q) =
      ap (λ (f : ℕ → Bool). look_tests f (λ k. any (λ c. named k c && on c) m.pending) q) (λ i k. known_is k i)
      ∙ ap (λ (f : ℕ → Bool). look_tests (λ k. any (has_ticket k) l.claims) f q) (λ i k. holds-is k i)
  tests-are (sets_up p) = rw (s.issued, s.shares)

pub numbers_tested : (s : Start) → Begins s → (calls : List Call) → NumbersTested s calls
numbers_tested s b calls before c rest e =
    step-number (table_after step s.table before) c
    ∙ ap first_number (tests-are _ _ _ (after-calls s b before) c)

pub new-tested : NewTested
unfolding first_number
new-tested rig pool alone = new-cases (λ (s : Step). s.answer.number ≡ first_number (dark rig ∷ [])) rig pool alone (λ e. rw e) (λ e. rw e)
