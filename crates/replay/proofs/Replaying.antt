-- What a load leaves: a turn of the loop over its records, and the ways out.
use mathlib.Core.Path.{◌≡◌, refl, sym, ap, ◌∙◌}
use mathlib.Core.Bool.{Bool}
use mathlib.Core.List.{List}
use mathlib.Core.Logic.{◌≢◌}
use Prim.Native.Nat.{ℕ, zero, suc, ◌+◌, ◌≤◌}
use native.Mathlib.Omega.{arith}
use lib.ListN.{length}
use Rattle.std.specs.Prelude.{Option, Some, None, Err}
use Rattle.numbers.specs.declared.Refusal.{Refusal}
use Rattle.numbers.specs.Refusals.{number_of}
use Rattle.rules.specs.Calls.{Model}
use Rattle.format.specs.declared.Call.{Call}
use Rattle.format.specs.Records.{record_of}
use Rattle.load.specs.Answers.{one_record, the_end}
use Rattle.load.specs.Reading.{item_at, walk, open_number}
use Rattle.load.proofs.Answers.{number-some}
use Rattle.load.proofs.Reading.{walk_call, walk_end, walk_refused}
use Rattle.replay.specs.declared.Replayed.{Replayed}
use Rattle.replay.specs.declared.Stop.{Stop}
use Rattle.replay.specs.Records.{alone_in, step_of, ending, unrigged}
use Rattle.replay.specs.Replay.{Replay, stopped_at, stopped_or, replay_from, replay_in, replay_of, replay_told}
use Rattle.replay.proofs.Records.{ending-is, ending-keeps, Reached, reached-more}

-- ── what is left to run ──
stopped-some : (n k : ℕ) (m : Model) (r : Replay) → n ≢ 0 → stopped_or n k m r ≡ stopped_at n k m
stopped-some zero k m r h = absurd (h refl)
stopped-some (suc n) k m r h = refl

stopped_none : (n k : ℕ) (m : Model) (r : Replay) → n ≡ 0 → stopped_or n k m r ≡ r
stopped_none zero k m r h = refl
stopped_none (suc n) k m r h = absurd (omega arith)

-- ── the loop's invariant: what the rest leaves, the whole leaves ──
pub record Replaying (s : List ℕ) (alone : Bool) (m : Model) (at k : ℕ) : Type 0 where
  pub reached : Reached at k
  -- no record is before the rig
  pub first : k ≡ 1 → m ≡ unrigged
  pub same : replay_in alone k m (walk s at) ≡ replay_in alone 1 unrigged (walk s 1)

module _ (s : List ℕ) (alone : Bool) (m : Model) (at k : ℕ) (w : Replaying s alone m at k) where
  pub replayed-end : item_at s at ≡ the_end → stopped_at 0 0 m ≡ replay_in alone 1 unrigged (walk s 1)
  unfolding replay_in replay_from
  replayed-end e = rw (walk_end s at e) at w.same

  pub replayed-refused : (r : Refusal) → item_at s at ≡ Err r → stopped_at (number_of r) k m ≡ replay_in alone 1 unrigged (walk s 1)
  unfolding replay_in replay_from
  replayed-refused r e = sym (stopped-some (number_of r) k m _ (λ z. omega (arith, number-some r))) ∙ (rw (walk_refused s at r e) at w.same)

  module _ (c : Call) (next : ℕ) (e : item_at s at ≡ one_record c next) (n : ℕ) (p : n ≡ (step_of alone m (record_of c)).answer.number) where
    -- The table is the one before the record.
    replayed-stop : ending k n ≢ 0 → stopped_at n k m ≡ replay_in alone 1 unrigged (walk s 1)
    unfolding replay_in replay_from
    replayed-stop h =
        let q = ending-is k n h in
        ap (λ (x : ℕ). stopped_at x k m) (sym q) ∙ sym (stopped-some (ending k n) k m _ h) ∙ (rw (walk_call s at c next e, sym p) at w.same)

    pub stopped-first : k ≡ 1 → ending k n ≢ 0 → (t : Model) → t ≡ unrigged → stopped_at n k t ≡ replay_in alone 1 unrigged (walk s 1)
    stopped-first f h t u = ap (λ (x : Model). stopped_at n k x) (u ∙ sym (w.first f)) ∙ replayed-stop h

    pub stopped-later : k ≢ 1 → ending k n ≢ 0 → (t : Model) → t ≡ (step_of alone m (record_of c)).model → stopped_at n k t ≡ replay_in alone 1 unrigged (walk s 1)
    stopped-later f h t u =
        ap (λ (x : Model). stopped_at n k x) (u ∙ ending-keeps alone m (record_of c) k f (rw p at h)) ∙ replayed-stop h

    pub replay-more : ending k n ≡ 0 → length s ≤ 65536 → (t : Model) → t ≡ (step_of alone m (record_of c)).model → Replaying s alone t next (k + 1)
    unfolding replay_in replay_from
    replay-more z l t u =
        record {
          reached = reached-more s at k w.reached l c next e;
          first = λ f. absurd (omega (arith, w.reached.some));
          same = rw u (sym (stopped_none (ending k n) k m _ z) ∙ (rw (walk_call s at c next e, sym p) at w.same));
        }

-- ── the whole ──
pub whole-read : (s : List ℕ) → 0 ≡ open_number s → replay_in (alone_in s) 1 unrigged (walk s 1) ≡ replay_of s
unfolding replay_of
whole-read s p = rw (sym p)

pub whole-stopped : (s : List ℕ) (r : Refusal) → number_of r ≡ open_number s → (t : Model) → t ≡ unrigged → stopped_at (number_of r) 0 t ≡ replay_of s
unfolding replay_of
whole-stopped s r p t u = rw (u, sym p) (sym (stopped-some (number_of r) 0 unrigged _ (λ z. omega (arith, number-some r))))

-- The table of what the code tells is the one that is left.
pub replayed-left : (r : Replayed) (x : Replay) → replay_told r ≡ x → r.table ≡ x.left
replayed-left r x e = go r.stop refl ∙ ap (λ (y : Replay). y.left) e
  where
    go : (o : Option Stop) → o ≡ r.stop → r.table ≡ (replay_told r).left
    go (Some s) q = rw (sym q)
    go None q = rw (sym q)
