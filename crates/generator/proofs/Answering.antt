-- The public call: its numbers, and the load that it answers with its length.
use mathlib.Core.Path.{◌≡◌, refl, sym, ap, ◌∙◌}
use mathlib.Core.Bool.{◌&&◌}
use mathlib.Core.Logic.{◌⊎◌, ⊎_elim}
use mathlib.Core.List.{List, ◌++◌}
use Prim.Native.Nat.{ℕ, ◌+◌, ◌*◌, ◌≤◌, ◌<◌}
use native.Mathlib.Omega.{arith}
use lib.Dec.{leb}
use lib.ListN.{length, take, drop}
use borrow.Author.Tests.{le-leb, lt-leb, leb-true}
use Rattle.std.specs.Prelude.{Ok, Err}
use Rattle.numbers.specs.declared.Refusal.TheVariants.{NoSpace, Count}
use Rattle.numerals.specs.Laid.{Put, space_number}
use Rattle.numerals.proofs.Laying.{lent_none, lent-known, put-short, laid-first, laid-fits}
use Rattle.format.proofs.Format.{either, both}
use Rattle.load.proofs.Reading.{or-else}
use Rattle.load.proofs.RoundTrip.{answer-length}
use Rattle.load.proofs.Writing.{refused, accepted}
use Rattle.generator.specs.Workload.{claims_number, workload_of, workload_number, workload_answer, workload_out, workload_values}
use Rattle.generator.specs.Drafts.{Answers}
use Rattle.generator.proofs.Whole.{workload-most}

-- ── the count ──
pub count-right : (n : ℕ) → (n ≡ 0 → ⊥) → n ≤ 1000 → claims_number n ≡ 0
unfolding claims_number
count-right n z h = let k : 1 ≤ n = omega arith in rw (le-leb 1 n k, le-leb n 1000 h) refl

pub count-wrong : (n : ℕ) → (n ≡ 0) ⊎ ((n ≡ 0 → ⊥) × 1000 < n) → claims_number n ≡ 20
unfolding claims_number
count-wrong n h =
    ⊎_elim (λ e. rw e refl) (λ l. let k : 1 ≤ n = omega (arith, l.1) in rw (le-leb 1 n k, lt-leb n 1000 l.1) refl) h

pub right-count : (n : ℕ) → claims_number n ≡ 0 → n ≤ 1000
unfolding claims_number
right-count n e = either (leb 1 n && leb n 1000) (λ b. leb-true n 1000 (both (leb 1 n) (leb n 1000) b).1) (λ b. let z = rw b at e in absurd (omega arith))

-- ── the answer and the buffer ──
module _ (seed count : ℕ) (out : List ℕ) where
  abbrev load : List ℕ
  load = workload_of seed count

  pub answers-wrong : claims_number count ≡ 20 → Answers seed count out (Err Count) out
  unfolding workload_answer workload_out workload_values workload_number
  answers-wrong e =
      let a = refused load out (workload_number seed count out) Count (rw e refl) in
      record { answer = a.0; buffer = a.1.0; values = a.1.1 }

  module _ (right : claims_number count ≡ 0) where
    pub answers-short : (n : ℕ) → n ≡ length load → length out < n → Answers seed count out (Err NoSpace) out
    unfolding workload_answer workload_out workload_values workload_number
    answers-short n e h =
        let s = (lent_none load out (omega arith)).0 in
        let a = refused load out (workload_number seed count out) NoSpace (rw (right, s) refl) in
        record { answer = a.0; buffer = a.1.0; values = a.1.1 }

    pub answers-all : (r : ℕ) (p : List ℕ) → length load ≤ length out → Put out 0 load r p → Answers seed count out (Ok r) p
    unfolding workload_answer workload_out workload_values workload_number space_number
    answers-all r p h w =
        let l = workload-most seed count (right-count count right) in
        let c = right-count count right in
        let a = accepted load out (workload_number seed count out) p r (rw (right, le-leb (length load) (length out) h) refl) (omega arith) h w in
        record { answer = a.0; buffer = a.1.0; values = a.1.1 }

    pub answers-roomy : (r : ℕ) (p : List ℕ) → 12 + 36 * count ≤ length out → Put out 0 load r p → Answers seed count out (Ok r) p
    answers-roomy r p h w = let l = workload-most seed count (right-count count right) in answers-all r p (omega arith) w

-- Laid in a buffer of 36,012 bytes.
module _ (seed count : ℕ) (right : claims_number count ≡ 0) {own q : List ℕ} {n : ℕ} (w : Put own 0 (workload_of seed count) n q) (size : 36012 ≡ length own) where
  pub own-length : (n ≡ length (workload_of seed count)) × (length (workload_of seed count) ≤ 36012)
  own-length =
      let c = right-count count right in
      let l = workload-most seed count c in
      ((put-short (omega arith) w).0, omega arith)

  own_first : take n q ≡ workload_of seed count
  own_first =
      let l = own-length in
      let a = l.0 in
      let b = l.1 in
      ap (take n) w.is ∙ laid-first own (workload_of seed count) n (sym a) (omega arith)

  pub answers-copied : (out p : List ℕ) → n ≤ length out → p ≡ take n q ++ drop n out → Answers seed count out (Ok n) p
  answers-copied out p h e =
      let a = own-length.0 in
      let load : List ℕ = workload_of seed count in
      answers-all seed count out right n p (omega arith)
      (record { next = w.next; is = e ∙ ap (λ (l : List ℕ). l ++ drop n out) own_first ∙ ap (λ (k : ℕ). load ++ drop k out) a ∙ sym (laid-fits out load (omega arith)) })

-- What is answered with a length stands in the buffer.
pub length-within : (seed count : ℕ) (out : List ℕ) (n : ℕ) → workload_answer seed count out ≡ Ok n → n ≤ length out
unfolding workload_answer workload_number
length-within seed count out n e =
    let a = answer-length (workload_number seed count out) (length (workload_of seed count)) n e in
    let s = (or-else (claims_number count) (space_number (workload_of seed count) out) a.0).1 in
    let l = (lent-known (workload_of seed count) out s).0 in
    let b = a.1 in
    omega arith
