-- The theorem refuses the wrong tables of specs/Worthless, by computation on a few calls.
use mathlib.Core.Path.{◌≡◌, refl, ap}
use mathlib.Core.Bool.{true, false}
use mathlib.Core.List.Memᴰ
use mathlib.Core.List.{[], ◌∷◌}
use Prim.Native.Nat.{ℕ, ◌≤◌}
use native.Mathlib.Omega.{arith}
use Rattle.groups.specs.Groups.{some_from, lowest_from, common, shares, empty, within}
use Rattle.rules.specs.Lists.{any, keep}
use Rattle.rules.specs.Tests.{first_number}
use Rattle.rules.proofs.Bools.{clash}
use Rattle.rules.proofs.Lists.{here, there}
use Rattle.frames.specs.Rows.{contention, taken, row_from, row_for, turned, head_tickets, turned_on}
use Rattle.frames.specs.Calls.{claim, release, tests, admit, lacking, remove, act, step, new}
use Rattle.frame_promises.specs.Ledger.{Entry, turns, table_after, issues, stay, marked, tests_of, noted_all}
use Rattle.frame_promises.specs.Worthless.{head_only, never_turns, too_far, head_uncounted, refuses_all, tells_row, last_ticket, rigless, AllRefused}

pub all-refused : AllRefused
unfolding some_from lowest_from common shares empty within any keep first_number contention taken row_from row_for turned head_tickets turned_on tests admit lacking remove act step new turns table_after issues stay marked tests_of noted_all head_only never_turns too_far head_uncounted refuses_all tells_row last_ticket rigless
all-refused = (
  λ d.
      let z : true ≡ false = (d.at_any_time (claim 0x1 ∷ claim 0x1 ∷ []) [] refl).holders_apart _ _ here (there here) (λ e. omega arith) refl refl in
      clash refl z,
  λ d.
      let z : 1 ≤ 0 = ((d.at_any_call (claim 0x1 ∷ []) (claim 0x2) [] refl).claim_answered 0x2 refl refl).row_behind _ here in
      omega arith,
  λ d.
      let f = (d.at_any_time (claim 0x1 ∷ claim 0x1 ∷ release 1 ∷ []) [] refl).somebody_holds _ here in
      clash f.2 (ap (λ (x : Entry). x.held) (Memᴰ.eq_of_singleton f.1)),
  λ d.
      let z : 2 ≤ 1 = ((d.at_any_call (claim 0x1 ∷ []) (claim 0x2) [] refl).claim_answered 0x2 refl refl).row_bounded in
      omega arith,
  λ d.
      let z : ◌≡◌ {A = ℕ} 0 1 = ((d.at_any_call (claim 0x1 ∷ []) (claim 0x1) [] refl).claim_answered 0x1 refl refl).contention_counted in
      omega arith,
  λ d.
      let z : ◌≡◌ {A = ℕ} 6 0 = (d.at_any_call [] (claim 0x1) [] refl).number_tested in
      omega arith,
  λ d.
      let z : ◌≡◌ {A = ℕ} 1 0 = ((d.at_any_call (claim 0x1 ∷ []) (release 1) [] refl).replied.release_plain 1 refl refl).row_none in
      omega arith,
  λ d.
      let z : ◌≡◌ {A = ℕ} 2 1 = ((d.at_any_call (claim 0x1 ∷ claim 0x1 ∷ []) (release 1) [] refl).replied.release_plain 1 refl refl).ticket_is in
      omega arith,
  λ d.
      let z : ◌≡◌ {A = ℕ} 1 0 = ((d.at_any_call (claim 0x1 ∷ []) (release 9) [] refl).replied.refused_plain (λ e. omega arith)).ticket_is in
      omega arith,
  λ d.
      let z : ◌≡◌ {A = ℕ} 1 0 = d 0x1 in
      omega arith,
)
