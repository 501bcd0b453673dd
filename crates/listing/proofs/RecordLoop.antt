-- A turn of the listing's loop: one record, and the ways out; then the whole.
use mathlib.Core.Path.{◌≡◌, refl, sym, ap, ◌∙◌}
use mathlib.Core.Bool.{Bool}
use mathlib.Core.List.{List, [], ◌++◌}
use mathlib.Core.Logic.{◌≢◌}
use Prim.Native.Nat.{ℕ, ◌+◌, ◌^◌, ◌≤◌, ◌<◌}
use native.Mathlib.Omega.{arith}
use lib.ListN.{length}
use Rattle.std.specs.Prelude.{Result, Ok, Err}
use Rattle.numbers.specs.declared.Refusal.{Refusal}
use Rattle.numbers.specs.Refusals.{number_of, number_in}
use Rattle.rules.specs.Calls.{Model, Answer}
use Rattle.numerals.specs.declared.page.Page.{Page}
use Rattle.numerals.specs.Pages.{Lays}
use Rattle.numerals.proofs.Pages.{lays_then, lays_as, Laying, laying-start, laying-more, laying-end}
use Rattle.table.specs.declared.Accepted.{Accepted}
use Rattle.table.specs.Outcomes.{answer_of}
use Rattle.format.specs.declared.Call.{Call}
use Rattle.format.specs.Records.{record_of}
use Rattle.load.specs.Answers.{one_record, the_end}
use Rattle.load.specs.Reading.{item_at, walk, open_number}
use Rattle.load.proofs.Answers.{number-some}
use Rattle.load.proofs.Reading.{walk_call, walk_end, walk_refused}
use Rattle.replay.specs.Records.{alone_in, step_of, ending, unrigged}
use Rattle.replay.specs.StopLine.{stop_line}
use Rattle.replay.proofs.Records.{Reached, reached-start, reached-more}
use Rattle.replay.proofs.StopLine.{stop-some, stop-none}
use Rattle.listing.specs.Lines.{header, answer_lines}
use Rattle.listing.specs.Text.{entry_of, lines_from, lines_of, listing_of}

-- The number of what a call answers.
told-number : (x : Result Accepted Refusal) → number_in x ≡ (answer_of x).number
told-number (Ok a) = refl
told-number (Err r) = refl

-- The last piece of a run.
laying-last : {a b c : Page} {w l : List ℕ} (xs : List ℕ) → Laying a w b l → l ≡ xs → Lays b xs c → Lays a w c
laying-last xs p e q = lays_as _ _ (ap (λ x. p.front ++ x) (sym e) ∙ p.rest) (lays_then p.lays q)

-- ── the loop's invariant: what is laid so far, with the lines that are left, is the whole ──
pub record Turn (s : List ℕ) (alone : Bool) (p₀ p : Page) (m : Model) (at k : ℕ) : Type 0 where
  pub reached : Reached at k
  pub laying : Laying p₀ (lines_of alone 1 unrigged (walk s 1)) p (lines_of alone k m (walk s at))

pub turn-start : (s : List ℕ) (alone : Bool) (p : Page) (m : Model) → length p.out.now < 2 ^ 64 → m ≡ unrigged → Turn s alone p p m 1 1
turn-start s alone p m h e = record { reached = reached-start; laying = laying-start h (ap (λ (x : Model). lines_of alone 1 x (walk s 1)) (sym e)) }

module _ (s : List ℕ) (alone : Bool) (p₀ p : Page) (m : Model) (at k : ℕ) (w : Turn s alone p₀ p m at k) where
  lines_end : item_at s at ≡ the_end → lines_of alone k m (walk s at) ≡ []
  unfolding lines_of lines_from
  lines_end e = rw (walk_end s at e)

  lines-refused : (r : Refusal) → item_at s at ≡ Err r → lines_of alone k m (walk s at) ≡ stop_line (number_of r) k
  unfolding lines_of lines_from
  lines-refused r e = rw (walk_refused s at r e) (stop-some (number_of r) k [] (λ z. omega (arith, number-some r)))

  pub run_end : item_at s at ≡ the_end → Lays p₀ (lines_of alone 1 unrigged (walk s 1)) p
  run_end e = laying-end w.laying (lines_end e)

  pub run-refused : (r : Refusal) (q : Page) → item_at s at ≡ Err r → Lays p (stop_line (number_of r) k) q → Lays p₀ (lines_of alone 1 unrigged (walk s 1)) q
  run-refused r q e z = laying-last _ w.laying (lines-refused r e) z

  module _ (c : Call) (next : ℕ) (e : item_at s at ≡ one_record c next) (x : Result Accepted Refusal) (h : answer_of x ≡ (step_of alone m (record_of c)).answer) (n : ℕ) (o : n ≡ ending k (number_in x)) where
    ends : ending k (step_of alone m (record_of c)).answer.number ≡ n
    ends = sym (o ∙ ap (ending k) (told-number x ∙ ap (λ (a : Answer). a.number) h))

    lines-stop : n ≢ 0 → lines_of alone k m (walk s at) ≡ stop_line n k
    unfolding lines_of lines_from
    lines-stop z = rw (walk_call s at c next e, ends) (stop-some n k _ z)

    lines-record : n ≡ 0 → lines_of alone k m (walk s at) ≡ entry_of k (step_of alone m (record_of c)) ++ lines_of alone (k + 1) (step_of alone m (record_of c)).model (walk s next)
    unfolding lines_of lines_from
    lines-record z = rw (walk_call s at c next e, ends) (stop-none n k _ z)

    pub run-stop : (q : Page) → n ≢ 0 → Lays p (stop_line n k) q → Lays p₀ (lines_of alone 1 unrigged (walk s 1)) q
    run-stop q y z = laying-last _ w.laying (lines-stop y) z

    pub turn_more : n ≡ 0 → length s ≤ 65536 → (t : Model) → t ≡ (step_of alone m (record_of c)).model → (clock : ℕ) → clock ≡ t.clock
        → (q : Page) → Lays p (answer_lines k clock (answer_of x)) q → Turn s alone p₀ q t next (k + 1)
    unfolding entry_of
    turn_more y l t u clock v q z =
        record {
          reached = reached-more s at k w.reached l c next e;
          laying = rw u (laying-more _ _ w.laying (lines-record y) (rw (v ∙ ap (λ (x : Model). x.clock) u, h) at z));
        }

-- ── the whole ──
pub text-stopped : (s : List ℕ) (r : Refusal) → number_of r ≡ open_number s → header ++ stop_line (number_of r) 0 ≡ listing_of s
unfolding listing_of
text-stopped s r p = ap (λ (x : List ℕ). header ++ x) (sym (rw (sym p) (stop-some (number_of r) 0 _ (λ z. omega (arith, number-some r)))))

pub text-read : (s : List ℕ) → 0 ≡ open_number s → header ++ lines_of (alone_in s) 1 unrigged (walk s 1) ≡ listing_of s
unfolding listing_of
text-read s p = ap (λ (x : List ℕ). header ++ x) (sym (rw (sym p)))
